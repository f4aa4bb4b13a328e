use Rattle.std.proofs.Common.{◌≡◌, ℕ, [], ◌∷◌, Some, None, Option, arith}
use Rattle.workorder.proofs.Worked.{figures}
use Rattle.workorder.proofs.worked_examples.Goals as goal

same_three : {a b c x y z : Option ℕ} → a ≡ x → b ≡ y → c ≡ z → x ∷ y ∷ z ∷ [] ≡ a ∷ b ∷ c ∷ []
same_three p q r = cc

pub returns : goal.returns
returns c =
    let circle = c.least_work_orders-in_circle.ensures.only 3 (Some 11) (omega arith) (rw c.circle.ensures figures.circle_both) in
    let row = c.least_work_orders-in_row.ensures.only 3 (Some 891) (omega arith) (rw c.row.ensures figures.row_both) in
    let closed = c.least_work_orders-in_closed.ensures.only 3 None (omega arith) (rw c.closed.ensures figures.closed_both) in
    record { figures = figures; found = same_three circle row closed }
