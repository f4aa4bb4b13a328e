-- What a text comes to, line by line, from what is read so far.
use Rattle.std.specs.Prelude.{◌≡◌, ℕ, ◌+◌, List, replicate, Ok, Err, ◌≢◌}
use Rattle.lines.specs.Line.{Said, pair, fault, line_at, rest_at}
use Rattle.workorder.specs.Orders.{max_parts}
use Rattle.chain.specs.Limits.{most_life, most_arcs}
use Rattle.chain.specs.declared.numbers.ChainNumbers.{ChainNumbers}
use Rattle.chain.specs.declared.numbers.Part.{Part}
use Rattle.chain.specs.declared.refusal.ChainRefusal.{ChainRefusal}
use Rattle.chain.specs.declared.refusal.ChainRefusal.TheVariants as chain_refusal
use Rattle.reading.specs.Keys.{key_of}
use Rattle.reading.specs.Rules.{fault_rule}
use Rattle.reading.specs.declared.rules.Rule.{Rule}
use Rattle.reading.specs.declared.rules.Rule.TheVariants.{OutOfRange, TooManyStates, NoFullRenewal}
use Rattle.chaintext.specs.declared.reader.Stage.TheVariants as stage
use Rattle.chaintext.specs.declared.reader.ChainReader.{ChainReader}
use Rattle.chaintext.specs.Steps.{Step, no_arc, chain_step}

-- nothing is read yet
abbrev pub new_part : Part
new_part = record { life = 0; hazards = replicate most_life 0; surplus = 0; dark = 0 }

abbrev pub fresh : ChainReader
fresh = record {
  stage = stage.Kind;
  head = record { count = 0; threshold = 0; setup = 0; alarm = 0 };
  opened = 0;
  parts = replicate max_parts new_part;
  arc_count = 0;
  arcs = replicate most_arcs no_arc;
}

-- what the next line does
abbrev pub line_step : ChainReader → Said → Step
line_step d (pair k v) = chain_step d (key_of k) v
line_step d (fault n) = Err (fault_rule n)

-- how reading ends: with all that is read, what is left of the text and the number of lines read, or refused at a line
pub data Ending : Type 0 where
  complete : ChainReader → List ℕ → ℕ → Ending
  refused : Rule → ℕ → Ending

-- reading goes from line to line until the end is read or a line is refused
pub data Reads : ChainReader → List ℕ → ℕ → Ending → Type 0 where
  done : {d : ChainReader} {text : List ℕ} {place : ℕ} → d.stage ≡ stage.Done → Reads d text place (complete d text place)
  stop : {d : ChainReader} {text : List ℕ} {place : ℕ} {rule : Rule} → (d.stage ≢ stage.Done) → line_step d (line_at text) ≡ Err rule → Reads d text place (refused rule (place + 1))
  more : {d e : ChainReader} {text : List ℕ} {place : ℕ} {o : Ending} → (d.stage ≢ stage.Done) → line_step d (line_at text) ≡ Ok e → Reads e (rest_at text) (place + 1) o → Reads d text place o

-- the numbers that were read
abbrev pub numbers_of : ChainReader → ChainNumbers
numbers_of d = record {
  count = d.head.count;
  threshold = d.head.threshold;
  setup = d.head.setup;
  alarm = d.head.alarm;
  parts = d.parts;
  arc_count = d.arc_count;
  arcs = d.arcs;
}

-- why no chain is made of them, as a rule
abbrev pub rule_for : ChainRefusal → Rule
rule_for chain_refusal.OutOfRange = OutOfRange
rule_for chain_refusal.TooManyStates = TooManyStates
rule_for chain_refusal.NoFullRenewal = NoFullRenewal
