-- Tables that sweeps lead to are within reach.
use Rattle.std.proofs.Common.{◌≡◌, ℕ, zero, suc, ◌+◌, ◌<◌, cond, List, Some, None, Option, sym, refl, ap, subst, add-one, arith}
use Rattle.std.proofs.lemmas.List.{length-replicate}
use Rattle.interface.specs.Plants.{Model, Lawful}
use Rattle.interface.specs.Rows.{Row, zeros}
use Rattle.interface.specs.Tariffs.{Scale}
use Rattle.std.specs.Option.{IsSome, option_map}
use Rattle.lookahead.specs.declared.best.Choice.{Choice}
use Rattle.lookahead.specs.Best.{FirstBest, cheaper, where_feasible}
use Rattle.lookahead.specs.Choices.{pick}
use Rattle.lookahead.specs.Gains.{look_ahead, Near, Within}
use Rattle.lookahead.proofs.Bounds.{zeros_reach}
use Rattle.planner.specs.Sweeps.{blank, Sweep, Swept, start, more}

near_blank : (t : Scale) (n : ℕ) → Near (blank t n)
near_blank t zero = tt
near_blank t (suc n) = (omega (arith, zeros_reach t.places), near_blank t n)

pub swept_within : (m : Model) (t : Scale) {k : ℕ} {vs : List Row} → Swept m t k vs → Within m vs
swept_within m t start = record { long = length-replicate m.states (zeros t.places); near = near_blank t m.states }
swept_within m t (more before sweep near) = record { long = sweep.long; near = near }

pub swept_more : (m : Model) (t : Scale) (k : ℕ) (vs ws : List Row) → Swept m t k vs → Sweep m t vs ws → Near ws → Swept m t (k + 1) ws
swept_more m t k vs ws before sweep near = subst (λ n. Swept m t n ws) (sym (add-one k)) (more before sweep near)

-- each state has a least look-ahead
pub some_of : {A : Type 0} (row : A → Row) (m : Model) (lawful : Lawful m) (t : Scale) (vs : List Row) (s : ℕ) → s < m.states
    → (o : Option (Choice A)) → FirstBest (cheaper t) (where_feasible m (look_ahead m t vs) s) m.portfolios (option_map (pick row) o) → IsSome o
some_of row m lawful t vs s inside None none =
    let x = lawful.way_out s inside in
    let absent = none x.0 (lawful.in_range s x.0 x.1).1 in
    let there = ap (λ z. cond z (Some (look_ahead m t vs s x.0)) None) x.1 in
    let z : ◌≡◌ {A = ℕ} 0 1 = cc in absurd (omega arith)
some_of row m lawful t vs s inside (Some c) first = refl
