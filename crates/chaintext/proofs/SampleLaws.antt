-- The sample is the text of a chain.
use Rattle.std.proofs.Common.{[], refl, arith, lit≤}
use mathlib.Core.Logic.{∥∥₁_map}
use Rattle.std.proofs.lemmas.Nat.{mod_below}
use Rattle.workorder.proofs.Worked.{figures}
use Rattle.chain.specs.Chains.{Renewable}
use Rattle.chain.specs.States.{failed_in}
use Rattle.chain.specs.Renewals.{everything_holds}
use Rattle.chaintext.specs.declared.reader.ChainReader.{ChainReader}
use Rattle.chaintext.specs.declared.reader.Stage.TheVariants as stage
use Rattle.chaintext.specs.Reads.{fresh}
use Rattle.chaintext.specs.Counted.{CountedReads, complete_at, done_at, more_at}
use Rattle.chaintext.specs.Sample.{SampleBegins, sample, sample_lines, text_of}
use Rattle.chaintext.proofs.Parts.{no_stage}
use Rattle.chaintext.proofs.Whole.{Wrote, complete_wrote}

-- the reader behind the last line
abbrev last : ChainReader
last = record { stage = stage.Done; head = record { count = sample.count; threshold = sample.threshold; setup = sample.setup; alarm = sample.alarm }; opened = 2; parts = sample.parts; arc_count = 3; arcs = sample.arcs }

sample_read : CountedReads fresh (text_of sample_lines) 0 (complete_at last [] 19)
sample_read = more_at (no_stage refl) refl (more_at (no_stage refl) refl (more_at (no_stage refl) refl (more_at (no_stage refl) refl (more_at (no_stage refl) refl (more_at (no_stage refl) refl (more_at (no_stage refl) refl (more_at (no_stage refl) refl (more_at (no_stage refl) refl (more_at (no_stage refl) refl (more_at (no_stage refl) refl (more_at (no_stage refl) refl (more_at (no_stage refl) refl (more_at (no_stage refl) refl (more_at (no_stage refl) refl (more_at (no_stage refl) refl (more_at (no_stage refl) refl (more_at (no_stage refl) refl (more_at (no_stage refl) refl (done_at refl)))))))))))))))))))

sample_wrote : Wrote (text_of sample_lines) sample []
sample_wrote = complete_wrote (text_of sample_lines) 0 last [] 19 sample_read

sample_renewable : Renewable sample
sample_renewable s inside = record {
  state = inside;
  portfolio = omega arith;
  failure = λ some. everything_holds sample (failed_in sample s) some (omega (arith, mod_below s 3 (omega arith)));
  worn = λ i some most _. everything_holds sample i some most;
  order = ∥∥₁_map figures.row_both.0 (λ o. (891, o));
  survives = (lit≤ tt, lit≤ tt);
}

pub sample_begins : SampleBegins
sample_begins = record { whole = sample_wrote.whole; lawful = sample_wrote.lawful; few = lit≤ tt; renewable = sample_renewable; arcs = sample_wrote.arcs; zero = sample_wrote.zero }
