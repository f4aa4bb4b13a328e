-- What the definitions of a chain come to.
use Rattle.std.proofs.Common.{◌≡◌, ℕ, ◌+◌, ◌*◌, ◌/◌, ◌%◌, ◌<◌, ◌≤◌, true, false, List, Some, None, Option, sym, refl, ap, ◌∙◌, subst, inl, inr, arith}
use Rattle.chain.specs.Feasibility.{feasible_decides, few_portfolios}
use Rattle.chain.specs.LawsLemmas.{lives_in_range}
use Rattle.chain.specs.RoundTrips.{made_of}
use Rattle.chain.specs.Starting.{starts_below}
use Rattle.chain.specs.Chains.{Feasible, HasOrder, chain_bill, chain_feasible, failure_charge, hazard_sum, least_order, renewal_cents}
use Rattle.chain.specs.Laws.{ChainLaws, Figures, LonePart, With, next_state}
use Rattle.chain.specs.Over.{over_parts, product}
use Rattle.chain.specs.Parts.{LawfulNumbers, arcs_of, hazard, life}
use Rattle.chain.specs.Portfolios.{start_age}
use Rattle.chain.specs.States.{age_in, all_states, failed_in}
use Rattle.chain.specs.declared.numbers.ChainNumbers.{ChainNumbers}
use Rattle.std.proofs.lemmas.Nat.{pow_pos}
use Rattle.std.proofs.lemmas.Bool.{cases_Bool, ne_eqb}
use Rattle.workorder.proofs.WorkOrders.{order_none, table_only}
use Rattle.workorder.proofs.Worked as worked
use Rattle.workorder.specs.Figures.{circle, row}
use Rattle.workorder.specs.Orders.{Least, LeastTable, portfolios}
use Rattle.workorder.specs.declared.Arc.{Arc}
use mathlib.Core.HLevel.{⊥_prop}
use mathlib.Core.Logic.{∥∥₁_elim}

-- a portfolio that has an order has a least one
least_there : (n : ChainNumbers) (x : ℕ) (r : Option ℕ) → Least (arcs_of n) x r → HasOrder n x → (c : ℕ) × (r ≡ Some c)
least_there n x None l h = absurd (∥∥₁_elim h ⊥_prop (λ o. l o.0 o.1))
least_there n x (Some c) l h = (c, refl)

-- the cents of a portfolio with some part
pub renewal_paid : (n : ChainNumbers) (table : List (Option ℕ)) (x f c : ℕ) → 1 ≤ x → least_order table x ≡ Some c → renewal_cents n table x f ≡ n.setup + c + failure_charge n f
renewal_paid n table x f c some is = let test = ne_eqb x 0 (omega arith) in rw (test, is)

module _ (n : ChainNumbers) (table : List (Option ℕ)) (l : LawfulNumbers n) (right : LeastTable (arcs_of n) table) where
  paid : (s x : ℕ) → Feasible n s x → 1 ≤ x → (c : ℕ) × Least (arcs_of n) x (Some c) × ((chain_bill n table s x).cents ≡ n.setup + c + failure_charge n (failed_in n s))
  paid s x h some =
      let inside : x < portfolios = omega (arith, h.portfolio, few_portfolios n l.terms.0.1) in
      let least = right.least x inside in
      let there = least_there n x (least_order table x) least h.order in
      (there.0, subst (λ (r : Option ℕ). Least (arcs_of n) x r) there.1 least, renewal_paid n table x (failed_in n s) there.0 some there.1)

  older : (s x k : ℕ) → Feasible n s x → k ≤ n.count → (failed_in n (next_state n s x k) ≡ k) × ((i : ℕ) → 1 ≤ i → i ≤ n.count → age_in n (next_state n s x k) i ≡ start_age n s x i + 1)
  older s x k h most =
      let below = starts_below n s x l.terms (lives_in_range n l) h.worn in
      let made = made_of n l.terms (lives_in_range n l) (λ i. start_age n s x i + 1) k (λ i some few. let b = below i some few in (omega arith, omega arith)) most in
      (made.1, made.2)

  pub chain_laws : ChainLaws n table
  chain_laws = record {
    feasible = feasible_decides n table l.terms.0.1 right;
    unpaid = λ s. refl;
    paid = paid;
    known = λ s x i h some most. starts_below n s x l.terms (lives_in_range n l) h.worn i some most;
    fails = λ s x k h most. (older s x k h most).0;
    ages = λ s x k i h most some few. (older s x k h most).1 i some few;
  }

module _ (n : ChainNumbers) (table : List (Option ℕ)) (right : LeastTable (arcs_of n) table) (e : LonePart n) where
  one_window_old : age_in n 0 1 ≡ 1
  one_window_old = ap (λ k. 0 / (k + 1) / 1 % life n 1 + 1) e.0 ∙ ap (λ m. 0 / 2 / 1 % m + 1) e.1

  hazards_then : hazard_sum n 0 0 ≡ 4000
  hazards_then = ap (over_parts (λ i. hazard n i (start_age n 0 0 i))) e.0 ∙ omega (arith, ap (hazard n 1) one_window_old, e.3)

  may_skip : n.threshold ≡ 6000 → Feasible n 0 0
  may_skip t = record {
    state = let all : all_states n ≡ 4 = ap (λ k. (k + 1) * product (life n) k) e.0 ∙ ap (λ m. 2 * (1 * m)) e.1 in omega arith;
    portfolio = pow_pos n.count;
    failure = λ some. let none : failed_in n 0 ≡ 0 = ap (λ k. 0 % (k + 1)) e.0 in absurd (omega arith);
    worn = λ i some most old. let only : i ≡ 1 = omega (arith, e.0) in absurd (omega (arith, ap (age_in n 0) only, ap (life n) only, one_window_old, e.1));
    order = ∣ (0, order_none (arcs_of n)) ∣₁;
    survives = omega (arith, hazards_then);
  }

  skips : (n.threshold ≡ 6000 → chain_feasible n table 0 0 ≡ true) × (n.threshold ≡ 6001 → chain_feasible n table 0 0 ≡ false)
  skips =
      let few : n.count ≤ 6 = omega (arith, e.0) in
      let means = feasible_decides n table few right 0 0 in (
        λ t. means.1 (may_skip t),
        λ t. elim (cases_Bool (chain_feasible n table 0 0)) [ inl h ↦ absurd (omega (arith, (means.0 h).survives, hazards_then)) | inr h ↦ h ],
      )

-- the cents, where the least work order of the arcs is known
bill_is : (n : ChainNumbers) (table : List (Option ℕ)) (arcs : List Arc) (s x f setup c : ℕ) → With n table arcs setup → Least arcs x (Some c) → x < portfolios → 1 ≤ x → failed_in n s ≡ f → (chain_bill n table s x).cents ≡ setup + c + failure_charge n f
bill_is n table arcs s x f setup c w least inside some is =
    let mine : Least (arcs_of n) x (Some c) = subst (λ (ways : List Arc). Least ways x (Some c)) (sym w.0) least in
    let order = table_only (arcs_of n) table w.1 x (Some c) inside mine in
    renewal_paid n table x (failed_in n s) c some (sym order) ∙ ap (λ k. k + c + failure_charge n (failed_in n s)) w.2 ∙ ap (λ k. setup + c + failure_charge n k) is

pub figures : Figures
figures = record {
  failed_alone = λ n table s w e. omega (arith, bill_is n table row s 1 1 1000 364 w (worked.figures).row_first (omega arith) (omega arith) e.0, e.1, e.2);
  failed_with = λ n table s w e. omega (arith, bill_is n table row s 3 1 1000 891 w (worked.figures).row_both (omega arith) (omega arith) e.0, e.1, e.2);
  planned = λ n table s w e. omega (arith, bill_is n table row s 3 0 1000 891 w (worked.figures).row_both (omega arith) (omega arith) e);
  circle_both = λ n table s w e. omega (arith, bill_is n table circle s 3 0 0 11 w (worked.figures).circle_both (omega arith) (omega arith) e);
  skips = skips;
}
