use Rattle.chain.specs.Endings.{next_at, next_inside, outcome_found, outcome_past, weight_at}
use Rattle.chain.specs.LawsLemmas.{feasible_facts, lives_in_range}
use Rattle.chain.specs.Starting.{starts_below}
use Rattle.chain.proofs.plant.ChainPlant.outcome.Goals as goal
use Rattle.chain.proofs.plant.ChainPlant.outcome.Goals.{in-0, in_default}
use Rattle.chain.specs.Parts.{arcs_of}
use Rattle.chain.specs.Portfolios.{start_age}
use Rattle.workorder.proofs.WorkOrders.{table_held}
use Rattle.std.proofs.Common.{arith}

pub returns-then-k-self : goal.returns-then-k-self
returns-then-k-self c = let p = c.args.self.now in outcome_past p.numbers p.least c.args.state c.args.portfolio c.args.k c.if-k-self.true

pub overflow_add-next : goal.overflow_add-next
overflow_add-next c =
    let p = c.args.self.now in
    let n = p.numbers in
    let s = c.args.state in
    let x = c.args.portfolio in
    let k = c.args.k in
    let h = feasible_facts n p.least p.ranges (table_held (arcs_of n) p.least p.right) s x c.in_ok-window.ensures.0 in
    let inside = next_inside n (start_age n s x) k (starts_below n s x p.ranges.terms (lives_in_range n p.ranges) h.worn) c.if-k-self.false in
    omega (arith, next_at n s x k c.in_ok-window.window c.in_ok-window.ensures.1, inside, p.counted, p.few)

pub returns : goal.returns
returns c =
    let p = c.args.self.now in
    let n = p.numbers in
    let s = c.args.state in
    let x = c.args.portfolio in
    let k = c.args.k in
    let is = c.in_ok-window.ensures.1 in
    let weight =
    weight_at n s x k c.in_ok-window.window is c.match-k.weight c.if-k-self.false
    (λ none. elim c.match-k.branch [ in-0 w ↦ w.weight-is | in_default w ↦ absurd (omega arith) ])
    (λ some. elim c.match-k.branch [ in-0 w ↦ absurd (omega arith) | in_default w ↦ w.weight-is ]) in
    outcome_found n p.least s x k _ _ c.in_ok-window.ensures.0 c.if-k-self.false (next_at n s x k c.in_ok-window.window is) weight
