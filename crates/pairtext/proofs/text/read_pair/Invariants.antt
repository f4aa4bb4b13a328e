use Rattle.std.proofs.Common.{◌≡◌, ℕ, ◌<◌, length}
use Rattle.pairtext.specs.Sound.{Sound}
use Rattle.pairtext.specs.Texts.{read_from, read_pair}
use Rattle.pairtext.proofs.text.read_pair.Given as goal

-- the reader is sound, and reading on from here, with lines enough, comes to what the whole text comes to
abbrev pub invariant-loop-reader : goal.invariant-loop-reader
invariant-loop-reader l = Sound l.reader × ((fuel : ℕ) × ((length l.lines.rest.now < fuel) × (read_from fuel l.reader l.lines.rest.now l.lines.place ≡ read_pair l.initial.lines.rest.now l.initial.lines.place)))

abbrev pub decreases-loop-reader : goal.decreases-loop-reader
decreases-loop-reader l = length l.lines.rest.now
