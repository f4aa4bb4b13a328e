-- A chain keeps the laws of a plant.
use Rattle.std.specs.Prelude.{◌≡◌, ℕ, ◌+◌, ◌*◌, ◌<◌, ◌≤◌, Bool, true, false, cond, List, Some, None, Option, ◌==◌}
use Rattle.chain.specs.Feasibility.{feasible_decides, few_portfolios}
use Rattle.chain.specs.Endings.{outcomes_inside, weights_whole}
use Rattle.chain.specs.Starting.{starts_below}
use Rattle.chain.specs.Sums.{product_positive}
use Rattle.chain.specs.Chains.{Feasible, Renewable, RenewableBy, chain_bill, chain_feasible, chain_model, chain_outcomes, dark_seconds, failure_charge, least_order, outcome_after}
use Rattle.chain.specs.Limits.{most_charge, most_dark}
use Rattle.chain.specs.Over.{product}
use Rattle.chain.specs.Parts.{ChargesInRange, HazardsInRange, LawfulNumbers, LawfulTerms, LivesInRange, arcs_of, life}
use Rattle.chain.specs.Portfolios.{everything, start_age}
use Rattle.chain.specs.States.{all_states, failed_in}
use Rattle.chain.specs.declared.numbers.ChainNumbers.{ChainNumbers}
use Rattle.interface.specs.Limits.{most_cents, most_states}
use Rattle.interface.specs.Plants.{Lawful, LawfulBill, LawfulOutcomes}
use Rattle.std.proofs.lemmas.Nat.{mod_below, mul-le, pow_pos}
use Rattle.std.proofs.lemmas.List.FromFn.{length-map-range_with_len}
use Rattle.std.proofs.lemmas.Bool.{cases_eq, eq-eqb, ne_eqb}
use Rattle.std.specs.Option.{unwrap_or}
use Rattle.workorder.proofs.WorkOrders.{table_bounded}
use Rattle.workorder.specs.Orders.{AtMost, LeastTable, NoneDearer, max_parts, portfolios}
use Rattle.std.proofs.Common.{inl, inr, arith}

pub lives_in_range : (n : ChainNumbers) → LawfulNumbers n → LivesInRange n
lives_in_range n l i some most = (l.parts i some most).0

-- numbers in range, part by part
pub lawful_from : (n : ChainNumbers) → LawfulTerms n → LivesInRange n → HazardsInRange n → ChargesInRange n → NoneDearer most_charge (arcs_of n) → LawfulNumbers n
lawful_from n terms lives hazards charges dear = record { terms = terms; parts = λ i some most. (lives i some most, charges i some most, λ age below. hazards i age (some, most, below)); arcs = dear }

value_few : (r : Option ℕ) (m : ℕ) → AtMost m r → unwrap_or r 0 ≤ m
value_few None m l = omega arith
value_few (Some c) m l = l

-- the least work order of a portfolio is bounded by the dearest arcs
pub order_few : (n : ChainNumbers) (table : List (Option ℕ)) (x : ℕ) → NoneDearer most_charge (arcs_of n) → LeastTable (arcs_of n) table → x < portfolios → unwrap_or (least_order table x) 0 ≤ max_parts * most_charge
order_few n table x dear right inside = value_few (least_order table x) (max_parts * most_charge) (table_bounded (arcs_of n) table right x most_charge inside dear)

one_of : (b : Bool) (x y m : ℕ) → x ≤ m → y ≤ m → cond b x y ≤ m
one_of true x y m p q = p
one_of false x y m p q = q

pub charge_few : (n : ChainNumbers) (f : ℕ) → LawfulNumbers n → f ≤ n.count → failure_charge n f ≤ 2 * most_charge
charge_few n f l inside =
    elim (cases_eq f 0) [
      | inl z ↦ rw (eq-eqb f 0 z) (omega arith)
      | inr z ↦ rw (ne_eqb f 0 z) (let part = (l.parts f (omega arith) inside).1.0 in omega (arith, l.terms.2.1))
    ]

pub dark_few : (n : ChainNumbers) (f : ℕ) → LawfulNumbers n → f ≤ n.count → dark_seconds n f ≤ most_dark
dark_few n f l inside =
    elim (cases_eq f 0) [
      | inl z ↦ rw (eq-eqb f 0 z) (omega arith)
      | inr z ↦ rw (ne_eqb f 0 z) (l.parts f (omega arith) inside).1.1
    ]

pub failed_few : (n : ChainNumbers) (s : ℕ) → failed_in n s ≤ n.count
failed_few n s = omega (arith, mod_below s (n.count + 1) (omega arith))

module _ (n : ChainNumbers) (table : List (Option ℕ)) (l : LawfulNumbers n) (right : LeastTable (arcs_of n) table) where
  lawful_bill : (s x : ℕ) → Feasible n s x → LawfulBill (chain_bill n table s x)
  lawful_bill s x h =
      let f = failed_in n s in
      let inside : x < portfolios = omega (arith, h.portfolio, few_portfolios n l.terms.0.1) in
      record {
        dark = dark_few n f l (failed_few n s);
        paid = one_of (x == 0) 0 _ most_cents (omega arith) (omega (arith, l.terms.2.0, order_few n table x l.arcs right inside, charge_few n f l (failed_few n s)));
      }

  lawful_outcomes : (s x : ℕ) → Feasible n s x → LawfulOutcomes (all_states n) (chain_outcomes n s x)
  lawful_outcomes s x h =
      let long = length-map-range_with_len (outcome_after n (start_age n s x)) 0 (n.count + 1) in
      record {
        some = omega (arith, long);
        few = omega (arith, long, l.terms.0.1);
        inside = outcomes_inside n (start_age n s x) (starts_below n s x l.terms (lives_in_range n l) h.worn);
        shared = weights_whole n (start_age n s x) (omega (arith, h.survives));
      }

  pub chain_lawful : all_states n ≤ most_states → Renewable n → Lawful (chain_model n table)
  chain_lawful few renewable =
      let means = feasible_decides n table l.terms.0.1 right in
      let lives = product_positive (life n) n.count (λ i some most. (lives_in_range n l i some most).0) in
      record {
        some_states = mul-le 1 1 (n.count + 1) (product (life n) n.count) (omega arith) lives;
        few_states = few;
        some_portfolios = pow_pos n.count;
        few_portfolios = few_portfolios n l.terms.0.1;
        in_range = λ s x t. let h = (means s x).0 t in (h.state, h.portfolio);
        way_out = λ s inside. (everything n, (means s (everything n)).1 (renewable s inside));
        billed = λ s x t. lawful_bill s x ((means s x).0 t);
        spread = λ s x t. lawful_outcomes s x ((means s x).0 t);
      }

  -- what the test of feasibility gives to the code
  pub feasible_facts : (s x : ℕ) → chain_feasible n table s x ≡ true → Feasible n s x
  feasible_facts s x = (feasible_decides n table l.terms.0.1 right s x).0

  pub renewable_from : RenewableBy n table → Renewable n
  renewable_from all s inside = feasible_facts s (everything n) (all s inside)
