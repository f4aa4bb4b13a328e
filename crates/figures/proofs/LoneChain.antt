-- The one-part chain is a chain: its work orders, and its numbers in range.
use Rattle.std.proofs.Common.{◌≡◌, ℕ, zero, suc, ◌+◌, ◌-◌, ◌<◌, ◌≤◌, ◌⊎◌, List, [], ◌∷◌, length, get_or, replicate, Some, None, Option, sym, refl, ap, subst, inl, inr, arith, lit≤}
use Rattle.chain.specs.Renewals.{everything_holds}
use Rattle.chain.specs.Chains.{Renewable}
use Rattle.chain.specs.Limits.{most_charge}
use Rattle.chain.specs.Made.{Made}
use Rattle.chain.specs.Parts.{LawfulPart, arcs_of, part_of}
use Rattle.chain.specs.States.{failed_in}
use Rattle.figures.specs.OnePart.{lone_chain, lone_part}
use Rattle.std.proofs.lemmas.Nat.{mod_below}
use Rattle.std.proofs.lemmas.List.{get_or-replicate}
use Rattle.workorder.proofs.WorkOrders.{order_ind, order_next, order_none, table_only}
use Rattle.workorder.specs.Figures.{arc}
use Rattle.workorder.specs.Orders.{Holds, Least, LeastTable, NoneDearer, OrderFor, portfolios}
use Rattle.workorder.specs.Steps.{Leads, without}
use Rattle.workorder.specs.declared.Arc.{Arc}
use mathlib.Core.List.Memᴰ
use mathlib.Core.List.{Memᴰ as In}

abbrev arcs : List Arc
arcs = arcs_of lone_chain

the_arc : (a : Arc) → In a arcs → a ≡ arc 0 1 200
the_arc a m = elim (Memᴰ.cases_cons m) [ inl e ↦ e | inr n ↦ absurd (Memᴰ.not-nil n) ]

-- nothing is done for nothing, part 1 for 200, and nothing else can be done
abbrev Possible : ℕ → ℕ → Type 0
Possible x c = ((x ≡ 0) × (c ≡ 0)) ⊎ ((x ≡ 1) × (c ≡ 200))

possible : (x c : ℕ) → OrderFor arcs x c → Possible x c
possible = order_ind arcs Possible (inl (refl, refl)) step
  where
    step : (x c : ℕ) (a : Arc) → Holds x a.to → In a arcs → Leads (without x a.to) a.to a → OrderFor arcs (without x a.to) c → Possible (without x a.to) c → Possible x (c + a.cents)
    step x c a held m leads o before =
        let e = the_arc a m in
        let odd : Holds x 1 = subst (λ (b : Arc). Holds x b.to) e held in
        let rest : Possible (x - 1) c = subst (λ (b : Arc). Possible (without x b.to) c) e before in
        let cents : a.cents ≡ 200 = ap (λ (b : Arc). b.cents) e in
        elim rest [ inl h ↦ inr (omega (arith, odd.1), omega arith) | inr h ↦ absurd (omega (arith, odd.1)) ]

one_order : OrderFor arcs 1 200
one_order = order_next arcs 1 0 (arc 0 1 200) (omega arith, refl) (order_none arcs) (In.head refl) (refl, inl refl)

least_none : Least arcs 0 (Some 0)
least_none = (∣ order_none arcs ∣₁, λ d o. omega arith)

least_one : Least arcs 1 (Some 200)
least_one = (∣ one_order ∣₁, λ d o. elim (possible 1 d o) [ inl h ↦ absurd (omega arith) | inr h ↦ omega arith ])

abbrev lone_table : List (Option ℕ)
lone_table = Some 0 ∷ Some 200 ∷ replicate 62 None

least_table : LeastTable arcs lone_table
least_table = record { long = refl; least = at }
  where
    at : (x : ℕ) → x < portfolios → Least arcs x (get_or lone_table x None)
    at zero l = least_none
    at (suc zero) l = least_one
    at (suc (suc x)) l =
        let none : ◌≡◌ {A = Option ℕ} (get_or (replicate 62 None) x None) None = get_or-replicate 62 x None None (omega arith) in
        subst (Least arcs (suc (suc x))) (sym none) (λ c o. elim (possible (suc (suc x)) c o) [ inl h ↦ omega arith | inr h ↦ omega arith ])

shape : (table : List (Option ℕ)) → length table ≡ portfolios → Some 0 ≡ get_or table 0 None → Some 200 ≡ get_or table 1 None → (rest : List (Option ℕ)) × (Some 0 ∷ Some 200 ∷ rest ≡ table)
shape [] long none one = absurd (omega arith)
shape (a ∷ []) long none one = absurd (omega arith)
shape (a ∷ b ∷ rest) long none one = (rest, cc)

-- a table of least work orders begins with these two
pub table_shape : (table : List (Option ℕ)) → LeastTable arcs table → (rest : List (Option ℕ)) × (Some 0 ∷ Some 200 ∷ rest ≡ table)
table_shape table right = shape table right.long (table_only arcs table right 0 (Some 0) (lit≤ tt) least_none) (table_only arcs table right 1 (Some 200) (lit≤ tt) least_one)

hazards_fit : (age : ℕ) → age < 2 → get_or lone_part.hazards age 0 ≤ 10000
hazards_fit zero l = lit≤ tt
hazards_fit (suc zero) l = lit≤ tt
hazards_fit (suc (suc age)) l = absurd (omega arith)

part_fits : (i : ℕ) → 1 ≤ i → i ≤ 1 → LawfulPart (part_of lone_chain i)
part_fits i some most =
    let one : 1 ≡ i = omega arith in
    subst (λ (k : ℕ). LawfulPart (part_of lone_chain k)) one ((lit≤ tt, lit≤ tt), (lit≤ tt, lit≤ tt), hazards_fit)

arcs_fit : NoneDearer most_charge arcs
arcs_fit a m = rw (the_arc a m) (lit≤ tt)

always : Renewable lone_chain
always s inside = record {
  state = inside;
  portfolio = lit≤ tt;
  failure = λ some. everything_holds lone_chain (failed_in lone_chain s) some (omega (arith, mod_below s 2 (omega arith)));
  worn = λ i some most _. everything_holds lone_chain i some most;
  order = ∣ (200, one_order) ∣₁;
  survives = (lit≤ tt, lit≤ tt);
}

pub made : Made lone_chain lone_table
made = record {
  lawful = record { terms = ((lit≤ tt, lit≤ tt), lit≤ tt, (lit≤ tt, lit≤ tt), lit≤ tt); parts = part_fits; arcs = arcs_fit };
  few = lit≤ tt;
  renewable = always;
  least = least_table;
}
