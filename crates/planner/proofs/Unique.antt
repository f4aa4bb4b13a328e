-- A number of sweeps leads to one table.
use Rattle.std.proofs.Common.{◌≡◌, ℕ, ◌<◌, Bool, List, Some, Option, sym, refl, ap, ◌∙◌, subst, ⊎_elim, arith}
use Rattle.std.proofs.lemmas.List.{ext_get_or}
use Rattle.std.proofs.lemmas.Bool.{cases_order, cases_eq, both_ways}
use Rattle.interface.specs.Plants.{Model}
use Rattle.interface.specs.Rows.{Row, zeros, minus, share, reach}
use Rattle.interface.specs.Tariffs.{Scale}
use Rattle.lookahead.specs.Best.{Pick, Chosen}
use Rattle.lookahead.specs.Gains.{value_of, Near}
use Rattle.certificate.proofs.Soundness.{near_each}
use Rattle.planner.specs.Sweeps.{Shared, NewValue, Sweep, Swept, Stuck, start, more}

same_row : (o : Option Row) (u v : Row) → o ≡ Some u → o ≡ Some v → u ≡ v
same_row o u v p q = cc

chosen_row : (good : Row → Row → Bool) (f : ℕ → Option Row) (n : ℕ) (p q : Pick) → Chosen good f n p → Chosen good f n q → p.row ≡ q.row
chosen_row good f n p q a b = ⊎_elim
    (λ same. same_row (f q.at) p.row q.row (subst (λ k. f k ≡ Some p.row) same a.there) b.there)
    (⊎_elim
    (λ before. absurd (both_ways (good p.row q.row) (b.first p.at p.row before a.there) (a.best q.at q.row b.below b.there)))
    (λ after. absurd (both_ways (good q.row p.row) (a.first q.at q.row after b.there) (b.best p.at p.row a.below a.there))))
    (cases_order p.at q.at)

module _ (m : Model) (t : Scale) where
  shared_one : (vs : List Row) (s : ℕ) (u v : Row) → Shared m t vs s u → Shared m t vs s v → u ≡ v
  shared_one vs s u v a b = a.is ∙ ap share (chosen_row _ _ m.portfolios (record { at = a.at; row = a.ahead }) (record { at = b.at; row = b.ahead }) a.least b.least) ∙ sym b.is

  new_one : (vs : List Row) (s : ℕ) (u v : Row) → NewValue m t vs s u → NewValue m t vs s v → u ≡ v
  new_one vs s u v a b =
      a.is ∙ ap (λ w. minus w a.base) (shared_one vs s a.own b.own a.own_is b.own_is)
      ∙ ap (minus b.own) (shared_one vs 0 a.base b.base a.base_is b.base_is) ∙ sym b.is

  sweep_one : (vs us ws : List Row) → Sweep m t vs us → Sweep m t vs ws → us ≡ ws
  sweep_one vs us ws a b = ext_get_or (zeros t.places) us ws (a.long ∙ sym b.long)
      (λ s l. let inside : s < m.states = omega (arith, a.long) in new_one vs s _ _ (a.each s inside) (b.each s inside))

  pub swept_one : {k : ℕ} {us ws : List Row} → Swept m t k us → Swept m t k ws → us ≡ ws
  swept_one start start = refl
  swept_one (more {vs = vs} {ws = us} a p x) (more {vs = vs'} {ws = ws} b q y) =
      sweep_one vs us ws p (subst (λ w. Sweep m t w ws) (sym (swept_one a b)) q)

  -- where the next sweep would leave a value beyond reach, no sweep is whole
  no_sweep : (vs us : List Row) (s : ℕ) → Stuck m t vs s → Sweep m t vs us → Near us → ⊥
  no_sweep vs us s stuck sweep near =
      let same = new_one vs s stuck.value (value_of t us s) stuck.new (sweep.each s stuck.inside) in
      omega (arith, stuck.far, ap reach same, near_each t.places us near s (omega (arith, sweep.long, stuck.inside)))

  -- a whole sweep among several
  record Among (k : ℕ) : Type 0 where
    pub before : List Row
    pub after : List Row
    pub led : Swept m t k before
    pub sweep : Sweep m t before after
    pub near : Near after

  among : {n : ℕ} {ws : List Row} → Swept m t n ws → (k : ℕ) → k < n → Among k
  among start k l = absurd (omega arith)
  among (more {k = j} {vs = vs} {ws = ws} before sweep near) k l = ⊎_elim
      (λ same. record { before = vs; after = ws; led = subst (λ i. Swept m t i vs) (sym same) before; sweep = sweep; near = near })
      (λ other. among before k (omega arith)) (cases_eq k j)

  -- so no more sweeps lead to any table
  pub stuck_never : (k n : ℕ) (vs ws : List Row) (s : ℕ) → Swept m t k vs → Stuck m t vs s → k < n → Swept m t n ws → ⊥
  stuck_never k n vs ws s before stuck l swept =
      let one = among swept k l in
      no_sweep vs one.after s stuck (subst (λ us. Sweep m t us one.after) (swept_one one.led before) one.sweep) one.near

  first_only : (vs : List Row) (s s' : ℕ) → Stuck m t vs s → Stuck m t vs s' → s < s' → ⊥
  first_only vs s s' a b l =
      let one = b.first s l in
      let same = new_one vs s a.value one.0 a.new one.1 in
      omega (arith, a.far, one.2, ap reach same)

  -- and the sweeps stop at one place
  pub stuck_one : (k k' : ℕ) (vs vs' : List Row) (s s' : ℕ) → Swept m t k vs → Stuck m t vs s → Swept m t k' vs' → Stuck m t vs' s' → s ≡ s'
  stuck_one k k' vs vs' s s' swept stuck swept' stuck' = ⊎_elim
      (λ same.
      let here = subst (λ us. Stuck m t us s) (swept_one (subst (λ i. Swept m t i vs) same swept) swept') stuck in
      ⊎_elim (λ e. e) (⊎_elim (λ l. absurd (first_only vs' s s' here stuck' l)) (λ l. absurd (first_only vs' s' s stuck' here l))) (cases_order s s'))
      (⊎_elim
      (λ l. absurd (stuck_never k k' vs vs' s swept stuck l swept'))
      (λ l. absurd (stuck_never k' k vs' vs s' swept' stuck' l swept)))
      (cases_order k k')
