-- One pair in full: its lines, and what they are read as.
use Rattle.std.specs.Prelude.{◌≡◌, ℕ, List, [], ◌∷◌, ◌++◌, replicate, Ok, codes}
use Prim.Native.String.{String}
use Rattle.lines.specs.Line.{line_end}
use Rattle.reading.specs.declared.rules.Rule.TheVariants.{NoFullRenewal}
use Rattle.pair.specs.declared.numbers.PairNumbers.{PairNumbers}
use Rattle.pairtext.specs.Readers.{blank_row}
use Rattle.pairtext.specs.Texts.{refused_at, read_pair}

-- lines, each with its line end
abbrev pub text_of : List String → List ℕ
text_of [] = []
text_of (line ∷ lines) = codes line ++ (line_end ∷ text_of lines)

abbrev pub sample_lines : String → List String
sample_lines threshold = "kind=pair" ∷ (threshold ∷ ("setup=100" ∷ ("inspect=10" ∷ ("unit=1" ∷ ("grades=2" ∷ ("row=90,10" ∷ ("planned=300" ∷ ("forced=500" ∷ ("dark=60" ∷ ("unit=2" ∷ ("grades=2" ∷ ("row=80,20" ∷ ("planned=400" ∷ ("forced=600" ∷ ("dark=45" ∷ ("end=plant" ∷ []))))))))))))))))

-- a unit of two grades, as good as new or failed
abbrev pub sample_rows : ℕ → ℕ → List (List ℕ)
sample_rows stay fail = (stay ∷ (fail ∷ replicate 6 0)) ∷ replicate 7 blank_row

abbrev pub sample : PairNumbers
sample = record {
  threshold = 7200;
  setup = 100;
  inspect = 10;
  one = record { grades = 2; rows = sample_rows 90 10; planned = 300; forced = 500; dark = 60 };
  two = record { grades = 2; rows = sample_rows 80 20; planned = 400; forced = 600; dark = 45 };
}

-- 90 and 80 hundredths meet the threshold 7200, and 7201 is refused at the last line
abbrev pub SampleRead : Type 0
SampleRead = ((read_pair (text_of (sample_lines "threshold=7200")) 0).answer ≡ Ok sample) × ((read_pair (text_of (sample_lines "threshold=7201")) 0).answer ≡ refused_at NoFullRenewal 17)
