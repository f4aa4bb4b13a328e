-- So many sweeps have one plan at most, whatever the plant and the tariff.
use Rattle.std.proofs.Common.{◌≡◌, ℕ, ◌<◌, Bool, true, ◌⊎◌, List, Option, sym, ap, ◌∙◌, subst, inl, inr, arith}
use Rattle.certificate.specs.Recipes.{Lowest, Highest}
use Rattle.figures.specs.OnePart.{Plan, Promised}
use Rattle.interface.specs.Plants.{Model, named}
use Rattle.interface.specs.Rows.{Row}
use Rattle.interface.specs.Tariffs.{Scale}
use Rattle.lookahead.specs.Best.{Chosen, Pick}
use Rattle.lookahead.specs.Gains.{gain}
use Rattle.planner.proofs.Unique.{swept_one}
use Rattle.planner.specs.Sweeps.{Chooses}
use Rattle.std.proofs.lemmas.List.{ext_get_or}
use Rattle.std.proofs.lemmas.Bool.{both_ways, cases_order}

-- of two first bests neither stands before the other
chosen_at : (good : Row → Row → Bool) (f : ℕ → Option Row) (n : ℕ) (p q : Pick) → Chosen good f n p → Chosen good f n q → p.at ≡ q.at
chosen_at good f n p q a b = elim (cases_order p.at q.at) [
  | inl same ↦ same
  | inr (inl before) ↦ absurd (both_ways (good p.row q.row) (b.first p.at p.row before a.there) (a.best q.at q.row b.below b.there))
  | inr (inr after) ↦ absurd (both_ways (good q.row p.row) (a.first q.at q.row after b.there) (b.best p.at p.row a.below a.there))
]

module _ (m : Model) (t : Scale) (vs : List Row) where
  chooses_one : (ps qs : List ℕ) → Chooses m t vs ps → Chooses m t vs qs → ps ≡ qs
  chooses_one ps qs a b = ext_get_or 0 ps qs (a.long ∙ sym b.long) (λ s l.
      let inside : s < m.states = omega (arith, a.long) in
      chosen_at _ _ m.portfolios _ _ (a.each s inside).1 (b.each s inside).1)

  lowest_one : (u v : Row) → Lowest m t vs u → Lowest m t vs v → u ≡ v
  lowest_one u v a b = elim (cases_order a.state b.state) [
    | inl same ↦ elim (cases_order a.portfolio b.portfolio) [
      | inl equal ↦ a.there ∙ ap (λ s. gain m t vs s a.portfolio) same ∙ ap (gain m t vs b.state) equal ∙ sym b.there
      | inr (inl before) ↦ absurd (never u v a b (inr (same, before)))
      | inr (inr after) ↦ absurd (never v u b a (inr (sym same, after)))
    ]
    | inr (inl before) ↦ absurd (never u v a b (inl before))
    | inr (inr after) ↦ absurd (never v u b a (inl after))
  ]
    where
      -- the one is not at a pair before the other's
      never : (u v : Row) (a : Lowest m t vs u) (b : Lowest m t vs v) → (a.state < b.state) ⊎ ((a.state ≡ b.state) × (a.portfolio < b.portfolio)) → ⊥
      never u v a b before =
          both_ways (t.at_most (gain m t vs a.state a.portfolio) v) (b.first a.state a.portfolio a.feasible before)
          (subst (λ w. t.at_most w v ≡ true) a.there (subst (λ w. t.at_most u w ≡ true) (sym b.there) (a.least b.state b.portfolio b.feasible)))

  highest_one : (ps : List ℕ) (u v : Row) → Highest m t vs ps u → Highest m t vs ps v → u ≡ v
  highest_one ps u v a b = elim (cases_order a.state b.state) [
    | inl same ↦ a.there ∙ ap (λ s. gain m t vs s (named ps s)) same ∙ sym b.there
    | inr (inl before) ↦ absurd (never u v a b before)
    | inr (inr after) ↦ absurd (never v u b a after)
  ]
    where
      never : (u v : Row) (a : Highest m t vs ps u) (b : Highest m t vs ps v) → a.state < b.state → ⊥
      never u v a b before =
          both_ways (t.at_most v (gain m t vs a.state (named ps a.state))) (b.first a.state before)
          (subst (λ w. t.at_most v w ≡ true) a.there (subst (λ w. t.at_most w u ≡ true) (sym b.there) (a.greatest b.state b.inside)))

pub plan_one : (m : Model) (t : Scale) (k : ℕ) (p q : Plan) → Promised m t k p → Promised m t k q → q ≡ p
plan_one m t k p q a b =
    let values = swept_one m t b.swept a.swept in
    let chosen = subst (λ vs. Chooses m t vs q.policy) values b.chosen in
    let lowest = subst (λ vs. Lowest m t vs q.low) values b.lowest in
    let highest = subst (λ vs. Highest m t vs q.policy q.high) values b.highest in
    let policy = chooses_one m t p.values q.policy p.policy chosen a.chosen in
    let low = lowest_one m t p.values q.low p.low lowest a.lowest in
    let high = highest_one m t p.values p.policy q.high p.high (subst (λ ps. Highest m t p.values ps q.high) policy highest) a.highest in
    ap (λ vs. record { values = vs; policy = q.policy; low = q.low; high = q.high }) values
    ∙ ap (λ ps. record { values = p.values; policy = ps; low = q.low; high = q.high }) policy
    ∙ ap (λ u. record { values = p.values; policy = p.policy; low = u; high = q.high }) low
    ∙ ap (λ u. record { values = p.values; policy = p.policy; low = p.low; high = u }) high
