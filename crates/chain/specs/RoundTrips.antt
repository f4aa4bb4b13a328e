-- States and their numbers turn into each other without loss.
use Rattle.std.specs.Prelude.{◌≡◌, ℕ, ◌+◌, ◌-◌, ◌*◌, ◌/◌, ◌%◌, ◌<◌, ◌≤◌, Bool, true, false, cond, ◌&&◌, List, Some, None, Decides, nat_le, nat_lt, refl}
use Rattle.chain.specs.Numbering.{entry_of_table, state_inside}
use Rattle.chain.specs.Radix.{digit, number, digit_of_number, number_of_digits}
use Rattle.chain.specs.Sums.{every_decides, over_alike}
use Rattle.chain.specs.Over.{Entries, entry, every, product}
use Rattle.chain.specs.Parts.{LivesInRange, LawfulTerms, life}
use Rattle.chain.specs.States.{Aged, SameState, WithoutLoss, age_in, all_states, failed_in, number_of, possible, state_at, state_in, state_with, table_of}
use Rattle.chain.specs.declared.numbers.ChainNumbers.{ChainNumbers}
use Rattle.chain.specs.declared.states.ChainState.{ChainState}
use Rattle.std.proofs.lemmas.Nat.{div-add-mod', div_below, div-mul-add, mod_below, mod-mul-add}
use Rattle.std.proofs.lemmas.Bool.{and_from, and_parts, cases_Bool, cond-true, le-leb, le-ltb, leb-true, lt-ltb, ltb-true}
use Rattle.std.proofs.lemmas.Bool.Decides.{Decides-and}
use Rattle.std.proofs.Common.{inl, inr, sym, ap, ◌∙◌, mod-eq_of_lt, mul_comm, arith}

-- what the test of the ages says
pub aged_decides : (n : ChainNumbers) (st : ChainState) → Decides (every (λ i. nat_le 1 (entry st.ages i) && nat_le (entry st.ages i) (life n i)) n.count) (Aged n st)
aged_decides n st =
    every_decides (λ i. nat_le 1 (entry st.ages i) && nat_le (entry st.ages i) (life n i)) (λ i. (1 ≤ entry st.ages i) × (entry st.ages i ≤ life n i)) n.count
    (λ i some most. Decides-and (nat_le 1 (entry st.ages i)) (nat_le (entry st.ages i) (life n i)) (leb-true _ _, le-leb _ _) (leb-true _ _, le-leb _ _))

-- an answer that is there passed its test
some_only : {X : Type 0} (b : Bool) (x y : X) → cond b (Some y) None ≡ Some x → (b ≡ true) × (y ≡ x)
some_only true x y e = (refl, cc)
some_only false x y e = let z : ◌≡◌ {A = ℕ} 0 1 = cc in absurd (omega arith)

module _ (n : ChainNumbers) (terms : LawfulTerms n) (lives : LivesInRange n) where
  -- the ages of any state are from 1 to the lives
  pub age_within : (s i : ℕ) → 1 ≤ i → i ≤ n.count → (1 ≤ age_in n s i) × (age_in n s i ≤ life n i)
  age_within s i some most =
      let least : 0 < life n i = (lives i some most).0 in
      let below = mod_below (s / (n.count + 1) / product (life n) (i - 1)) (life n i) least in
      (omega arith, omega arith)

  -- the parts of a number that is made of an upper number and a failed part
  upper : (t f : ℕ) → f ≤ n.count → ((n.count + 1) * t + f) / (n.count + 1) ≡ t
  upper t f l = ap (λ z. (z + f) / (n.count + 1)) (mul_comm (n.count + 1) t) ∙ div-mul-add t (n.count + 1) f (omega arith)

  lower : (t f : ℕ) → f ≤ n.count → ((n.count + 1) * t + f) % (n.count + 1) ≡ f
  lower t f l = ap (λ z. (z + f) % (n.count + 1)) (mul_comm (n.count + 1) t) ∙ mod-mul-add t (n.count + 1) f (omega arith)

  -- the ages and the failed part in the state that they make
  pub made_of : (age : ℕ → ℕ) (f : ℕ) → ((i : ℕ) → 1 ≤ i → i ≤ n.count → (1 ≤ age i) × (age i ≤ life n i)) → f ≤ n.count
      → (state_with n age f < all_states n) × (failed_in n (state_with n age f) ≡ f) × ((i : ℕ) → 1 ≤ i → i ≤ n.count → age_in n (state_with n age f) i ≡ age i)
  made_of age f aged inside =
      let d : ℕ → ℕ = λ i. age i - 1 in
      let below : (i : ℕ) → 1 ≤ i → i ≤ n.count → d i < life n i = λ i some most. let a = aged i some most in omega arith in
      let t = number (life n) d n.count in (
        state_inside n d f below inside,
        lower t f inside,
        λ i some most.
            let a = aged i some most in
            let one = digit_of_number (life n) d n.count i below some most in
            let whole : age_in n (state_with n age f) i ≡ digit (life n) t i + 1 = ap (λ z. digit (life n) z i + 1) (upper t f inside) in
            omega arith,
      )

  -- a state's number, from its ages and its failed part
  pub made_again : (s : ℕ) → s < all_states n → state_with n (age_in n s) (failed_in n s) ≡ s
  made_again s inside =
      let t = s / (n.count + 1) in
      let small : t < product (life n) n.count = div_below s (n.count + 1) (product (life n) n.count) (omega arith) (omega (arith, mul_comm (n.count + 1) (product (life n) n.count))) in
      let digits = number_of_digits (life n) t n.count (λ i some most. (lives i some most).0) in
      let whole : t % product (life n) n.count ≡ t = mod-eq_of_lt small in
      let less : (i : ℕ) → 1 ≤ i → i ≤ n.count → (age_in n s i - 1) * product (life n) (i - 1) ≡ digit (life n) t i * product (life n) (i - 1) = λ i some most. let e : age_in n s i - 1 ≡ digit (life n) t i = omega arith in ap (λ z. z * product (life n) (i - 1)) e in
      let same : number (life n) (λ i. age_in n s i - 1) n.count ≡ t = over_alike _ _ n.count less ∙ digits ∙ whole in
      ap (λ z. (n.count + 1) * z + failed_in n s) same ∙ omega (arith, div-add-mod' s (n.count + 1), mul_comm (n.count + 1) t)

  back : (st : ChainState) (s : ℕ) → number_of n st ≡ Some s → (state_at n s ≡ Some (state_in n s)) × SameState n (state_in n s) st
  back st s e =
      let only = some_only (possible n st) s (state_with n (entry st.ages) st.failed) e in
      let tests = and_parts (nat_le st.failed n.count) _ only.0 in
      let aged = (aged_decides n st).0 tests.1 in
      let made = made_of (entry st.ages) st.failed aged (leb-true st.failed n.count tests.0) in
      let is : state_with n (entry st.ages) st.failed ≡ s = only.1 in
      let below : s < all_states n = omega (arith, made.0) in (
        cond-true (nat_lt s (all_states n)) (Some (state_in n s)) None (lt-ltb s (all_states n) below),
        (
          ap (failed_in n) (sym is) ∙ made.1,
          λ i some most. entry_of_table n (age_in n s) i terms.0.1 some most ∙ ap (λ z. age_in n z i) (sym is) ∙ made.2 i some most,
        ),
      )

  forth : (s : ℕ) (st : ChainState) → state_at n s ≡ Some st → number_of n st ≡ Some s
  forth s st e =
      let only = some_only (nat_lt s (all_states n)) st (state_in n s) e in
      let below = ltb-true s (all_states n) only.0 in
      ap (number_of n) (sym only.1) ∙ numbered below
    where
      entries : (i : ℕ) → 1 ≤ i → i ≤ n.count → entry (table_of n (age_in n s)) i ≡ age_in n s i
      entries i some most = entry_of_table n (age_in n s) i terms.0.1 some most

      aged : Aged n (state_in n s)
      aged i some most = let e = entries i some most in let w = age_within s i some most in (omega arith, omega arith)

      inside : failed_in n s ≤ n.count
      inside = omega (arith, mod_below s (n.count + 1) (omega arith))

      may_be : possible n (state_in n s) ≡ true
      may_be = and_from (nat_le (failed_in n s) n.count) _ (le-leb (failed_in n s) n.count inside) ((aged_decides n (state_in n s)).1 aged)

      same : state_with n (entry (table_of n (age_in n s))) (failed_in n s) ≡ state_with n (age_in n s) (failed_in n s)
      same = ap (λ z. (n.count + 1) * z + failed_in n s) (over_alike _ _ n.count (λ i some most. ap (λ z. (z - 1) * product (life n) (i - 1)) (entries i some most)))

      numbered : s < all_states n → number_of n (state_in n s) ≡ Some s
      numbered below = cond-true (possible n (state_in n s)) (Some (state_with n (entry (table_of n (age_in n s))) (failed_in n s))) None may_be ∙ ap Some (same ∙ made_again s below)

  pub without_loss : WithoutLoss n
  without_loss = record { back = back; forth = forth }

-- the number that the code gives
pub number_there : (n : ChainNumbers) (st : ChainState) (xs : List ℕ) (r : ℕ) → st.failed ≤ n.count → Aged n st → Entries (λ i. entry st.ages i - 1) n.count xs → r ≡ state_with n (λ i. entry xs i + 1) st.failed → Some r ≡ number_of n st
number_there n st xs r inside aged entries is =
    let less : (i : ℕ) → 1 ≤ i → i ≤ n.count → (entry xs i + 1 - 1) * product (life n) (i - 1) ≡ (entry st.ages i - 1) * product (life n) (i - 1) = λ i some most. let e = entries i some most in let same : entry xs i + 1 - 1 ≡ entry st.ages i - 1 = omega arith in ap (λ z. z * product (life n) (i - 1)) same in
    let may_be : possible n st ≡ true = and_from (nat_le st.failed n.count) _ (le-leb st.failed n.count inside) ((aged_decides n st).1 aged) in
    rw may_be (ap Some (is ∙ ap (λ z. (n.count + 1) * z + st.failed) (over_alike _ _ n.count less)))

-- the number that the code gives, by the number of the ages
pub number_found : (n : ChainNumbers) (st : ChainState) (t : ℕ) → st.failed ≤ n.count → Aged n st → t ≡ number (life n) (λ j. entry st.ages j - 1) n.count → Some ((n.count + 1) * t + st.failed) ≡ number_of n st
number_found n st t inside aged is =
    let may_be : possible n st ≡ true = and_from (nat_le st.failed n.count) _ (le-leb st.failed n.count inside) ((aged_decides n st).1 aged) in
    rw may_be (ap (λ z. Some ((n.count + 1) * z + st.failed)) is)

pub number_absent : (n : ChainNumbers) (st : ChainState) → (Aged n st → ⊥) → None ≡ number_of n st
number_absent n st none =
    elim (cases_Bool (possible n st)) [
      | inl yes' ↦ absurd (none ((aged_decides n st).0 (and_parts (nat_le st.failed n.count) _ yes').1))
      | inr not' ↦ rw not'
    ]

-- the state that the code gives
pub state_there : (n : ChainNumbers) (s : ℕ) (ages : List ℕ) (f : ℕ) → s < all_states n → ages ≡ table_of n (age_in n s) → f ≡ failed_in n s → Some (record { ages = ages; failed = f }) ≡ state_at n s
state_there n s ages f inside p q = rw (lt-ltb s (all_states n) inside) (λ i. Some (record { ages = p i; failed = q i }))

pub state_absent : (n : ChainNumbers) (s : ℕ) → all_states n ≤ s → None ≡ state_at n s
state_absent n s past = rw (le-ltb s (all_states n) past)
