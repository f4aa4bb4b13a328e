use Rattle.std.proofs.Common.{◌≡◌, ℕ, ◌+◌, ◌/◌, ◌≤◌, length, get_or}
use Rattle.chain.proofs.plant.Chain.ages_in.Given as goal
use Rattle.chain.specs.Over.{Entries, product}
use Rattle.chain.specs.Parts.{life}
use Rattle.chain.specs.States.{age_in}
use Rattle.workorder.specs.Orders.{max_parts}

abbrev pub invariant-loop-i : goal.invariant-loop-i
invariant-loop-i l = record {
  left : l.rest ≡ l.state / (l.self.numbers.count + 1) / product (life l.self.numbers) l.i;
  ages : Entries (age_in l.self.numbers l.state) l.i l.ages;
  beyond : (k : ℕ) → l.i ≤ k → get_or l.ages k 0 ≡ 0;
  long : length l.ages ≡ max_parts;
}
