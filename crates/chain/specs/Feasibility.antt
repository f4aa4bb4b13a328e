-- What the test of feasibility says.
use Rattle.std.specs.Prelude.{◌≡◌, ℕ, ◌+◌, ◌-◌, ◌<◌, ◌≤◌, Bool, true, false, ◌&&◌, List, replicate, is_some, Some, None, Decides, MatchBool, Option, nat_le, nat_lt, refl}
use Rattle.chain.specs.Renewals.{everything_holds, everything_renews, failure_decides, worn_decides}
use Rattle.chain.specs.Sums.{over_alike}
use Rattle.chain.specs.Chains.{Feasible, HasOrder, Renewable, RenewableBy, Survives, Unrenewable, chain_feasible, hazard_sum, hazards_at, least_order, survival, survives}
use Rattle.chain.specs.Parts.{arcs_of, hazard}
use Rattle.chain.specs.Over.{entry}
use Rattle.std.proofs.lemmas.List.{get_or-replicate}
use Rattle.chain.specs.Portfolios.{all_portfolios, everything, failure_renewed, worn_renewed}
use Rattle.chain.specs.States.{age_in, all_states, failed_in}
use Rattle.chain.specs.declared.numbers.ChainNumbers.{ChainNumbers}
use Rattle.interface.specs.Limits.{whole}
use Rattle.std.proofs.lemmas.Nat.{mod_below, pow_pos}
use Rattle.std.proofs.lemmas.Bool.{and_from, and_parts, cond-true, le-leb, leb-true, lt-ltb, ltb-true}
use Rattle.std.proofs.lemmas.Bool.Decides.{Decides-and}
use Rattle.workorder.specs.Orders.{Least, LeastTable, max_parts, portfolios}
use Rattle.std.proofs.Common.{pow_mono, sym, ap, ◌∙◌, arith}
use mathlib.Core.HLevel.{⊥_prop}
use Rattle.std.proofs.Math.Logic.{∥∥₁_elim, ∥∥₁_map}

-- a table of the least work orders tells whether there is one
order_decides : (n : ChainNumbers) (x : ℕ) (r : Option ℕ) → Least (arcs_of n) x r → Decides (is_some r) (HasOrder n x)
order_decides n x None l = (λ e. let z : ◌≡◌ {A = ℕ} 0 1 = cc in absurd (omega arith), λ h. absurd (∥∥₁_elim h ⊥_prop (λ o. l o.0 o.1)))
order_decides n x (Some c) l = (λ _. ∥∥₁_map l.0 (λ o. (c, o)), λ _. refl)

pub survives_decides : (n : ChainNumbers) (h : ℕ) → Decides (survives n h) (Survives n h)
survives_decides n h = Decides-and (nat_le h whole) (nat_le n.threshold (survival h)) (leb-true h whole, le-leb h whole) (leb-true n.threshold (survival h), le-leb n.threshold (survival h))

pub few_portfolios : (n : ChainNumbers) → n.count ≤ max_parts → all_portfolios n ≤ portfolios
few_portfolios n few = pow_mono few

module _ (n : ChainNumbers) (table : List (Option ℕ)) (few : n.count ≤ max_parts) (right : LeastTable (arcs_of n) table) where
  pub feasible_decides : (s x : ℕ) → Decides (chain_feasible n table s x) (Feasible n s x)
  feasible_decides s x = (there, back)
    where
      there : chain_feasible n table s x ≡ true → Feasible n s x
      there t =
          let halves = and_parts (nat_lt s (all_states n) && nat_lt x (all_portfolios n)) _ t in
          let range = and_parts (nat_lt s (all_states n)) _ halves.0 in
          let rest = and_parts (failure_renewed n s x && worn_renewed n s x) _ halves.1 in
          let renewed = and_parts (failure_renewed n s x) _ rest.0 in
          let last = and_parts (is_some (least_order table x)) _ rest.1 in
          let inside = ltb-true x (all_portfolios n) range.1 in
          record {
            state = ltb-true s (all_states n) range.0;
            portfolio = inside;
            failure = (failure_decides n s x).0 renewed.0;
            worn = (worn_decides n s x).0 renewed.1;
            order = (order_decides n x (least_order table x) (right.least x (omega (arith, few_portfolios n few)))).0 last.0;
            survives = (survives_decides n (hazard_sum n s x)).0 last.1;
          }

      back : Feasible n s x → chain_feasible n table s x ≡ true
      back h =
          and_from _ _ (and_from _ _ (lt-ltb s (all_states n) h.state) (lt-ltb x (all_portfolios n) h.portfolio))
          (and_from _ _ (and_from _ _ ((failure_decides n s x).1 h.failure) ((worn_decides n s x).1 h.worn))
          (and_from _ _ ((order_decides n x (least_order table x) (right.least x (omega (arith, few_portfolios n few, h.portfolio)))).1 h.order) ((survives_decides n (hazard_sum n s x)).1 h.survives)))

  pub renewable_by : Renewable n → RenewableBy n table
  renewable_by all s inside = (feasible_decides s (everything n)).1 (all s inside)

  everything_inside : everything n < all_portfolios n
  everything_inside = omega (arith, pow_pos n.count)

  -- when all parts are renewed, every part is new
  new_hazards : (s : ℕ) → hazard_sum n s (everything n) ≡ hazards_at n (λ _. 0)
  new_hazards s = over_alike _ _ n.count (λ i some most. ap (hazard n i) (cond-true _ 0 (age_in n s i) (everything_renews n i some most)))

  -- whether all parts may be renewed, in every state or in none
  pub renewable_when : (b : Bool) → b ≡ (is_some (least_order table (everything n)) && survives n (hazards_at n (λ _. 0))) → MatchBool b (Renewable n) (Unrenewable n)
  renewable_when true e = all
    where
      all : Renewable n
      all s inside =
          let both = and_parts (is_some (least_order table (everything n))) _ (sym e) in
          record {
            state = inside;
            portfolio = everything_inside;
            failure = λ some. everything_holds n (failed_in n s) some (omega (arith, mod_below s (n.count + 1) (omega arith)));
            worn = λ i some most _. everything_holds n i some most;
            order = (order_decides n (everything n) (least_order table (everything n)) (right.least (everything n) (omega (arith, everything_inside, few_portfolios n few)))).0 both.0;
            survives = let l = (survives_decides n (hazards_at n (λ _. 0))).0 both.1 in omega (arith, new_hazards s);
          }
  renewable_when false e = none
    where
      none : Unrenewable n
      none s h =
          let order = (order_decides n (everything n) (least_order table (everything n)) (right.least (everything n) (omega (arith, everything_inside, few_portfolios n few)))).1 h.order in
          let lasts = (survives_decides n (hazards_at n (λ _. 0))).1 (omega (arith, h.survives, new_hazards s)) in
          let both = and_from (is_some (least_order table (everything n))) _ order lasts in
          let z : ◌≡◌ {A = ℕ} 0 1 = cc in
          omega arith

  -- the same from two tests, where the hazards are those of all parts when they are new
  pub renewable_when_new : (x h : ℕ) (order lasts : Bool) → x ≡ all_portfolios n → order ≡ is_some (least_order table (x - 1)) → h ≡ hazards_at n (λ _. 0) → lasts ≡ survives n h
      → (order ≡ true → MatchBool lasts (Renewable n) (Unrenewable n)) × (order ≡ false → MatchBool order (Renewable n) (Unrenewable n))
  renewable_when_new x h order lasts all is sum meets =
      let there : is_some (least_order table (everything n)) ≡ order = ap (λ z. is_some (least_order table (z - 1))) (sym all) ∙ sym is in
      let same : survives n (hazards_at n (λ _. 0)) ≡ lasts = ap (survives n) (sym sum) ∙ sym meets in (
        λ t. renewable_when lasts (rw (there, t) (sym same)),
        λ t. renewable_when order (rw (there, t)),
      )

  -- the same where they are those of a table of zeros
  pub renewable_tests : (x h : ℕ) (order lasts : Bool) → x ≡ all_portfolios n → order ≡ is_some (least_order table (x - 1)) → h ≡ hazards_at n (entry (replicate max_parts 0)) → lasts ≡ survives n h
      → (order ≡ true → MatchBool lasts (Renewable n) (Unrenewable n)) × (order ≡ false → MatchBool order (Renewable n) (Unrenewable n))
  renewable_tests x h order lasts all is sum meets =
      let there : is_some (least_order table (everything n)) ≡ order = ap (λ z. is_some (least_order table (z - 1))) (sym all) ∙ sym is in
      let new : h ≡ hazards_at n (λ _. 0) = sum ∙ over_alike _ _ n.count (λ i some most. ap (hazard n i) (get_or-replicate max_parts (i - 1) 0 0 (omega arith))) in
      let same : survives n (hazards_at n (λ _. 0)) ≡ lasts = ap (survives n) (sym new) ∙ sym meets in (
        λ t. renewable_when lasts (rw (there, t) (sym same)),
        λ t. renewable_when order (rw (there, t)),
      )
