use Rattle.std.specs.Prelude.{◌≡◌, ℕ, ◌<◌, true}
use Rattle.std.proofs.Common.{arith}
use Rattle.std.proofs.lemmas.Bool.Decides.{nat_tests}
use Rattle.newcomer.specs.Lamp.{lamp_feasible}

pub way_out : (s : ℕ) → s < 2 → lamp_feasible s 1 ≡ true
way_out s l = grind (arith, nat_tests)
