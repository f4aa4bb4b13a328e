-- One chain in full: its lines, and what they are read as.
use Rattle.std.specs.Prelude.{ℕ, List, [], ◌∷◌, ◌++◌, replicate, codes}
use Prim.Native.String.{String}
use Rattle.lines.specs.Line.{line_end}
use Rattle.workorder.specs.Figures.{row}
use Rattle.chain.specs.declared.numbers.ChainNumbers.{ChainNumbers}
use Rattle.chaintext.specs.Reads.{new_part}
use Rattle.chaintext.specs.Steps.{no_arc}
use Rattle.chaintext.specs.Writing.{BeginsChain}

-- lines, each with its line end
abbrev pub text_of : List String → List ℕ
text_of [] = []
text_of (line ∷ lines) = codes line ++ (line_end ∷ text_of lines)

abbrev pub sample_lines : List String
sample_lines = "kind=chain" ∷ ("parts=2" ∷ ("threshold=9850" ∷ ("setup=1000" ∷ ("alarm=250" ∷ ("part=1" ∷ ("life=2" ∷ ("hazard=100,300" ∷ ("surplus=1092" ∷ ("dark=60" ∷ ("part=2" ∷ ("life=3" ∷ ("hazard=50,100,200" ∷ ("surplus=0" ∷ ("dark=0" ∷ ("arc=0,1,364" ∷ ("arc=0,2,828" ∷ ("arc=1,2,527" ∷ ("end=plant" ∷ []))))))))))))))))))

-- hazards of 100 and 50 at age 0 leave 9850, just the threshold
abbrev pub sample : ChainNumbers
sample = record {
  count = 2;
  threshold = 9850;
  setup = 1000;
  alarm = 250;
  parts = record { life = 2; hazards = 100 ∷ (300 ∷ replicate 18 0); surplus = 1092; dark = 60 } ∷ (record { life = 3; hazards = 50 ∷ (100 ∷ (200 ∷ replicate 17 0)); surplus = 0; dark = 0 } ∷ replicate 4 new_part);
  arc_count = 3;
  arcs = row ++ replicate 39 no_arc;
}

-- these lines are the text of that chain, with nothing behind it
abbrev pub SampleBegins : Type 0
SampleBegins = BeginsChain (text_of sample_lines) sample []
