-- What policies cost against any rule that can play as long.
use Rattle.std.proofs.Common.{◌≡◌, ℕ, zero, suc, ◌^◌, ◌<◌, true, List, [], ◌∷◌, ◌++◌, length, Some, None, Option, sym, refl, ap, ◌∙◌, subst, arith}
use Rattle.std.specs.List.{slice_get}
use Rattle.std.proofs.lemmas.List.{length-replicate}
use Rattle.std.proofs.lemmas.Option.{slice_get-get_or, get_or_from_slice_get}
use Rattle.interface.specs.declared.plant.Bill.{Bill}
use Rattle.interface.specs.declared.plant.Outcome.{Outcome}
use Rattle.interface.specs.Limits.{whole}
use Rattle.interface.specs.Plants.{Model, Lawful, outcomes_of, named}
use Rattle.interface.specs.Rows.{Row, zeros, plus, minus, times}
use Rattle.interface.specs.Tariffs.{Scale, LawfulScale, AtMost, Fit, price}
use Rattle.lookahead.specs.Gains.{value_of, expected, gain}
use Rattle.lookahead.proofs.Bounds.{EachFit, length_plus, length_times}
use Rattle.certificate.specs.Certificates.{Sound, Top, Bottom}
use Rattle.following.specs.Rules.{Met, Rule, Plays, lists, weight, cost, cost_behind, costs}
use Rattle.following.specs.Promises.{Policies, by_policies, allowance}
use Rattle.following.proofs.Groups.{Ordered, backwards, gained_least, gained_most, from_halves}
use Rattle.following.proofs.Weighing.{over}
use Rattle.following.proofs.Halves.{stays, outcomes_there, all_lists, half}
use Rattle.following.proofs.Sized.{Sized, same_rows, rows, ordered_rows, total_rows, sized_value, expected_rows}

-- a rule by policies can play wherever it stands, if what these name is feasible there
pub policies_play : (m : Model) → Lawful m → (ps : Policies) → ((j s : ℕ) → s < m.states → m.feasible s (named (ps j) s) ≡ true)
    → (n : ℕ) (met : Met) (s : ℕ) → s < m.states → Plays m (by_policies ps) n met s
unfolding Plays
policies_play m lawful ps feasible zero met s l = tt
policies_play m lawful ps feasible (suc n) met s l =
    let here = feasible (length met) s l in (
      here,
      λ k o there some.
          policies_play m lawful ps feasible n (met ++ (s, k) ∷ []) o.next
          (stays m lawful s (named (ps (length met)) s) k o here there),
    )

module _ (m : Model) (t : Scale) (scaled : LawfulScale t) where
  pub price_fits : (b : Bill) → length (price t b) ≡ t.places
  price_fits b =
      length_plus t.places (times b.seconds t.second) (times b.cents t.cent)
      (length_times b.seconds t.second ∙ scaled.second_fits) (length_times b.cents t.cent ∙ scaled.cent_fits)

  behind_fits : (o : Option Outcome) (f : Outcome → Row) → ((p : Outcome) → length (f p) ≡ t.places) → length (cost_behind t o f) ≡ t.places
  behind_fits None f h = length-replicate t.places _
  behind_fits (Some o) f h = h o

  pub cost_fits : (r : Rule) (met : Met) (s : ℕ) (ks : List ℕ) → length (cost m t r met s ks) ≡ t.places
  unfolding cost
  cost_fits r met s [] = length-replicate t.places _
  cost_fits r met s (k ∷ ks) =
      length_plus t.places (price t (m.bill s (r met s))) (cost_behind t (slice_get (outcomes_of m s (r met s)) k) (λ o. cost m t r (met ++ (s, k) ∷ []) o.next ks))
      (price_fits (m.bill s (r met s)))
      (behind_fits (slice_get (outcomes_of m s (r met s)) k) (λ o. cost m t r (met ++ (s, k) ∷ []) o.next ks) (λ o. cost_fits r (met ++ (s, k) ∷ []) o.next ks))

  abbrev pub priced : ℕ → ℕ → Sized t.places
  priced s x = (price t (m.bill s x), price_fits (m.bill s x))

  abbrev pub spent : Rule → Met → ℕ → List ℕ → Sized t.places
  spent r met s ks = (cost m t r met s ks, cost_fits r met s ks)

  spent_none : (r : Rule) (met : Met) (s : ℕ) → spent r met s [] ≡ (rows t.places).none
  unfolding cost
  spent_none r met s = same_rows t.places (zeros t.places) (zeros t.places) refl _ _

  spent_more : (r : Rule) (met : Met) (s k : ℕ) (o : Outcome) (ks : List ℕ) → slice_get (outcomes_of m s (r met s)) k ≡ Some o
      → spent r met s (k ∷ ks) ≡ (rows t.places).plus (priced s (r met s)) (spent r (met ++ (s, k) ∷ []) o.next ks)
  unfolding cost
  spent_more r met s k o ks there =
      same_rows t.places _ (plus (price t (m.bill s (r met s))) (cost m t r (met ++ (s, k) ∷ []) o.next ks))
      (ap (λ z. plus (price t (m.bill s (r met s))) (cost_behind t z (λ p. cost m t r (met ++ (s, k) ∷ []) p.next ks))) there) _ _

  module _ (lawful : Lawful m) (vs : List Row) (long : length vs ≡ m.states) (fit : EachFit t.places vs)
      (low high top bottom : Row) (low_fits : Fit t low) (high_fits : Fit t high) (is_top : Top m t vs top) (is_bottom : Bottom m t vs bottom) where
    there_at : (s : ℕ) → s < m.states → slice_get vs s ≡ Some (value_of t vs s)
    there_at s l = slice_get-get_or vs s (zeros t.places) (omega (arith, long))

    edge_fits : (u : Row) (s : ℕ) → s < m.states → slice_get vs s ≡ Some u → Fit t u
    edge_fits u s l there = subst (Fit t) (get_or_from_slice_get vs s u (zeros t.places) there) (fit s (omega (arith, long)))

    top_fits : Fit t top
    top_fits = edge_fits top is_top.0 (is_top.1).below (is_top.1).there

    bottom_fits : Fit t bottom
    bottom_fits = edge_fits bottom is_bottom.0 (is_bottom.1).below (is_bottom.1).there

    -- the expected value behind a feasible pair, as amounts and as rows
    values : (met : Met) (r : Rule) (s : ℕ) → m.feasible s (r met s) ≡ true
        → (over (rows t.places) (λ k o. sized_value t vs fit o.next) 0 (outcomes_of m s (r met s))).0 ≡ expected t vs (m.outcomes s (r met s))
    values met r s f = expected_rows t vs fit 0 (outcomes_of m s (r met s)) ∙ ap (expected t vs) (outcomes_there m s (r met s) f)

    abbrev order : Ordered (rows t.places)
    order = ordered_rows t scaled

    -- what one window of a feasible pair comes to with the values behind it
    abbrev ahead : Rule → Met → ℕ → Sized t.places
    ahead r met s = (rows t.places).plus ((rows t.places).times whole (priced s (r met s))) (over (rows t.places) (λ k o. sized_value t vs fit o.next) 0 (outcomes_of m s (r met s)))

    abbrev own : ℕ → Sized t.places
    own s = (rows t.places).times whole (sized_value t vs fit s)

    gain_of : (r : Rule) (met : Met) (s : ℕ) → m.feasible s (r met s) ≡ true → (order.minus (ahead r met s) (own s)).0 ≡ gain m t vs s (r met s)
    gain_of r met s f = ap (λ z. minus (plus (times whole (price t (m.bill s (r met s)))) z) (times whole (value_of t vs s))) (values met r s f)

    book : (ps : Policies) → ((j : ℕ) → Sound m t vs (ps j) low high) → (n s : ℕ) → s < m.states
        → order.at_most ((rows t.places).times whole ((rows t.places).plus (all_lists (rows t.places) m (by_policies ps) (spent (by_policies ps)) n [] s) ((rows t.places).times (whole ^ n) (bottom, bottom_fits))))
        ((rows t.places).times (whole ^ n) ((rows t.places).plus (own s) ((rows t.places).times n (high, high_fits)))) ≡ true
    book ps sound n s l =
        half m lawful (by_policies ps) (rows t.places) order (bottom, bottom_fits) (high, high_fits) (sized_value t vs fit) priced (spent (by_policies ps))
        (spent_none (by_policies ps)) (spent_more (by_policies ps))
        (λ k below. (is_bottom.1).best k (value_of t vs k) below (there_at k below))
        (λ met k f.
        gained_most (rows t.places) order (high, high_fits) (ahead (by_policies ps) met k) (own k)
        (ap (λ z. t.at_most z high) (gain_of (by_policies ps) met k f) ∙ (sound (length met)).high_holds k (lawful.in_range k (by_policies ps met k) f).0))
        n [] s l (policies_play m lawful ps (λ j. (sound j).feasible) n [] s l)

    rival : (ps : List ℕ) → Sound m t vs ps low high → (r : Rule) (n s : ℕ) → s < m.states → Plays m r n [] s
        → order.at_most ((rows t.places).times (whole ^ n) ((rows t.places).plus (own s) ((rows t.places).times n (low, low_fits))))
        ((rows t.places).times whole ((rows t.places).plus (all_lists (rows t.places) m r (spent r) n [] s) ((rows t.places).times (whole ^ n) (top, top_fits)))) ≡ true
    rival ps sound r n s l plays =
        half m lawful r (rows t.places) (backwards order) (top, top_fits) (low, low_fits) (sized_value t vs fit) priced (spent r)
        (spent_none r) (spent_more r)
        (λ k below. (is_top.1).best k (value_of t vs k) below (there_at k below))
        (λ met k f.
        gained_least (rows t.places) order (low, low_fits) (ahead r met k) (own k)
        (ap (t.at_most low) (gain_of r met k f) ∙ sound.low_holds k (r met k) f))
        n [] s l plays

    pub against : (ps : Policies) → ((j : ℕ) → Sound m t vs (ps j) low high) → (r : Rule) (n : ℕ) (s : ℕ) → s < m.states → Plays m r n [] s
        → AtMost t (times whole (minus (costs m t (by_policies ps) n s) (costs m t r n s))) (allowance n low high top bottom)
    against ps sound r n s l plays =
        let mine = all_lists (rows t.places) m (by_policies ps) (spent (by_policies ps)) n [] s in
        let theirs = all_lists (rows t.places) m r (spent r) n [] s in
        let both = from_halves (rows t.places) order whole n (whole ^ n) mine theirs (sized_value t vs fit s) (low, low_fits) (high, high_fits) (top, top_fits) (bottom, bottom_fits)
        (book ps sound n s l) (rival (ps 0) (sound 0) r n s l plays) in
        ap (λ z. t.at_most (times whole (minus z (costs m t r n s))) (allowance n low high top bottom)) (sym (total_rows t (weight m (by_policies ps) [] s) (spent (by_policies ps) [] s) (lists m (by_policies ps) n [] s)))
        ∙ ap (λ z. t.at_most (times whole (minus mine.0 z)) (allowance n low high top bottom)) (sym (total_rows t (weight m r [] s) (spent r [] s) (lists m r n [] s)))
        ∙ both
