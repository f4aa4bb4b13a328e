-- Amounts of any kind that add up and are ordered: what holds of all of them, whatever they are.
use Rattle.std.proofs.Common.{◌≡◌, ℕ, zero, suc, ◌+◌, ◌*◌, Bool, true, sym, ap, ◌∙◌, subst, arith}

-- Sums and multiples.
pub record Sums (A : Type 0) : Type 0 where
  pub none : A
  pub plus : A → A → A
  pub times : ℕ → A → A
  pub assoc : (a b c : A) → plus (plus a b) c ≡ plus a (plus b c)
  pub comm : (a b : A) → plus a b ≡ plus b a
  pub plus_none : (a : A) → plus a none ≡ a
  pub times_zero : (a : A) → times 0 a ≡ none
  pub times_suc : (n : ℕ) (a : A) → times (suc n) a ≡ plus (times n a) a

-- An order that sums keep, with differences.
pub record Ordered {A : Type 0} (S : Sums A) : Type 0 where
  pub at_most : A → A → Bool
  pub minus : A → A → A
  pub reflexive : (a : A) → at_most a a ≡ true
  pub transitive : (a b c : A) → at_most a b ≡ true → at_most b c ≡ true → at_most a c ≡ true
  pub shift : (a b c : A) → at_most (S.plus a c) (S.plus b c) ≡ at_most a b
  pub back : (a b : A) → S.plus (minus a b) b ≡ a

module _ {A : Type 0} (S : Sums A) where
  open S use {none, plus, times, assoc, comm, plus_none, times_zero, times_suc}

  pub left_comm : (a b c : A) → plus a (plus b c) ≡ plus b (plus a c)
  left_comm a b c = sym (assoc a b c) ∙ ap (λ z. plus z c) (comm a b) ∙ assoc b a c

  pub none_plus : (a : A) → plus none a ≡ a
  none_plus a = comm none a ∙ plus_none a

  -- (a + b) + (c + d) = (a + c) + (b + d)
  pub swap_middle : (a b c d : A) → plus (plus a b) (plus c d) ≡ plus (plus a c) (plus b d)
  swap_middle a b c d = assoc a b (plus c d) ∙ ap (plus a) (left_comm b c d) ∙ sym (assoc a c (plus b d))

  pub times_none : (n : ℕ) → times n none ≡ none
  times_none zero = times_zero none
  times_none (suc n) = times_suc n none ∙ plus_none (times n none) ∙ times_none n

  pub times_plus : (n : ℕ) (a b : A) → times n (plus a b) ≡ plus (times n a) (times n b)
  times_plus zero a b = times_zero (plus a b) ∙ sym (plus_none none) ∙ ap (plus none) (sym (times_zero b)) ∙ ap (λ z. plus z (times 0 b)) (sym (times_zero a))
  times_plus (suc n) a b =
      times_suc n (plus a b) ∙ ap (λ z. plus z (plus a b)) (times_plus n a b) ∙ swap_middle (times n a) (times n b) a b
      ∙ ap (λ z. plus z (plus (times n b) b)) (sym (times_suc n a)) ∙ ap (plus (times (suc n) a)) (sym (times_suc n b))

  pub times_add : (k n : ℕ) (a : A) → times (k + n) a ≡ plus (times k a) (times n a)
  times_add k zero a = ap (λ z. times z a) (let e : k + 0 ≡ k = omega arith in e) ∙ sym (plus_none (times k a)) ∙ ap (plus (times k a)) (sym (times_zero a))
  times_add k (suc n) a =
      ap (λ z. times z a) (let e : k + suc n ≡ suc (k + n) = omega arith in e) ∙ times_suc (k + n) a
      ∙ ap (λ z. plus z a) (times_add k n a) ∙ assoc (times k a) (times n a) a ∙ ap (plus (times k a)) (sym (times_suc n a))

  pub times_mul : (k n : ℕ) (a : A) → times (k * n) a ≡ times k (times n a)
  times_mul zero n a = ap (λ z. times z a) (let e : 0 * n ≡ 0 = omega arith in e) ∙ times_zero a ∙ sym (times_zero (times n a))
  times_mul (suc k) n a =
      ap (λ z. times z a) (let e : suc k * n ≡ k * n + n = omega arith in e) ∙ times_add (k * n) n a
      ∙ ap (λ z. plus z (times n a)) (times_mul k n a) ∙ sym (times_suc k (times n a))

  pub times_swap : (k n : ℕ) (a : A) → times k (times n a) ≡ times n (times k a)
  times_swap k n a = sym (times_mul k n a) ∙ ap (λ z. times z a) (let e : k * n ≡ n * k = omega arith in e) ∙ times_mul n k a

  pub times_one : (a : A) → times 1 a ≡ a
  times_one a = times_suc 0 a ∙ ap (λ z. plus z a) (times_zero a) ∙ none_plus a

module _ {A : Type 0} (S : Sums A) (O : Ordered S) where
  open S use {none, plus, times, assoc, comm, plus_none, times_zero, times_suc}
  open O use {at_most, minus, reflexive, transitive, shift, back}

  pub from_same : (a b : A) → a ≡ b → at_most a b ≡ true
  from_same a b e = subst (λ z. at_most a z ≡ true) e (reflexive a)

  pub plus_left : (a b c : A) → at_most a b ≡ true → at_most (plus a c) (plus b c) ≡ true
  plus_left a b c h = shift a b c ∙ h

  pub plus_right : (a b c : A) → at_most a b ≡ true → at_most (plus c a) (plus c b) ≡ true
  plus_right a b c h = ap (λ z. at_most z (plus c b)) (comm c a) ∙ ap (at_most (plus a c)) (comm c b) ∙ plus_left a b c h

  pub plus_both : (a b c d : A) → at_most a b ≡ true → at_most c d ≡ true → at_most (plus a c) (plus b d) ≡ true
  plus_both a b c d g h = transitive (plus a c) (plus b c) (plus b d) (plus_left a b c g) (plus_right c d b h)

  pub times_both : (n : ℕ) (a b : A) → at_most a b ≡ true → at_most (times n a) (times n b) ≡ true
  times_both zero a b h = from_same (times 0 a) (times 0 b) (times_zero a ∙ sym (times_zero b))
  times_both (suc n) a b h =
      ap (λ z. at_most z (times (suc n) b)) (times_suc n a) ∙ ap (at_most (plus (times n a) a)) (times_suc n b)
      ∙ plus_both (times n a) (times n b) a b (times_both n a b h) h

  -- what is added on both sides may be left out
  pub without : (a b c : A) → at_most (plus a c) (plus b c) ≡ true → at_most a b ≡ true
  without a b c h = sym (shift a b c) ∙ h

  -- Two halves that meet at d: what one amount is above another lies within q, if q makes up the rest.
  pub within : (c c' d q nl nh kb kt : A)
      → at_most (plus c kb) (plus d nh) ≡ true → at_most (plus d nl) (plus c' kt) ≡ true
      → plus q (plus nl kb) ≡ plus nh kt → (p : A) → plus p c' ≡ c → at_most p q ≡ true
  within c c' d q nl nh kb kt one other made p e =
      let first = plus_left (plus c kb) (plus d nh) nl one in
      let second = plus_left (plus d nl) (plus c' kt) nh other in
      let start : plus p (plus c' (plus nl kb)) ≡ plus (plus c kb) nl = sym (assoc p c' (plus nl kb)) ∙ ap (λ z. plus z (plus nl kb)) e ∙ ap (plus c) (comm nl kb) ∙ sym (assoc c kb nl) in
      let middle : plus (plus d nh) nl ≡ plus (plus d nl) nh = assoc d nh nl ∙ ap (plus d) (comm nh nl) ∙ sym (assoc d nl nh) in
      let end : plus (plus c' kt) nh ≡ plus q (plus c' (plus nl kb)) = assoc c' kt nh ∙ ap (plus c') (comm kt nh ∙ sym made) ∙ left_comm S c' q (plus nl kb) in
      without p q (plus c' (plus nl kb))
      (transitive _ (plus (plus d nh) nl) _ (ap (λ z. at_most z (plus (plus d nh) nl)) start ∙ first)
      (ap (λ z. at_most z (plus q (plus c' (plus nl kb)))) middle ∙ ap (at_most (plus (plus d nl) nh)) (sym end) ∙ second))

  -- a gain of at least g, and one of at most g
  pub gained_least : (g l v : A) → at_most g (minus l v) ≡ true → at_most (plus v g) l ≡ true
  gained_least g l v h =
      ap (λ z. at_most z l) (comm v g) ∙ ap (at_most (plus g v)) (sym (back l v)) ∙ plus_left g (minus l v) v h

  pub gained_most : (g l v : A) → at_most (minus l v) g ≡ true → at_most l (plus v g) ≡ true
  gained_most g l v h =
      ap (λ z. at_most z (plus v g)) (sym (back l v)) ∙ ap (at_most (plus (minus l v) v)) (comm v g) ∙ plus_left (minus l v) g v h

  back_times : (k : ℕ) (a b : A) → plus (times k (minus a b)) (times k b) ≡ times k a
  back_times k a b = sym (times_plus S k (minus a b) b) ∙ ap (times k) (back a b)

  back_twice : (k n : ℕ) (a b : A) → plus (times k (times n (minus a b))) (times k (times n b)) ≡ times k (times n a)
  back_twice k n a b = sym (times_plus S k (times n (minus a b)) (times n b)) ∙ ap (times k) (back_times n a b)

  -- both halves together
  pub from_halves : (w n k : ℕ) (c c' v low high top bottom : A)
      → at_most (times w (plus c (times k bottom))) (times k (plus (times w v) (times n high))) ≡ true
      → at_most (times k (plus (times w v) (times n low))) (times w (plus c' (times k top))) ≡ true
      → at_most (times w (minus c c')) (times k (plus (times n (minus high low)) (times w (minus top bottom)))) ≡ true
  from_halves w n k c c' v low high top bottom one other =
      let part = λ (a b : A). times_plus S k (times w a) (times n b) in
      let mine = λ (a b : A). times_plus S w a (times k b) in
      let gains = times n (minus high low) in
      let edges = times w (minus top bottom) in
      let made : plus (times k (plus gains edges)) (plus (times k (times n low)) (times w (times k bottom))) ≡ plus (times k (times n high)) (times w (times k top))
      = ap (λ z. plus z (plus (times k (times n low)) (times w (times k bottom)))) (times_plus S k gains edges)
      ∙ swap_middle S (times k gains) (times k edges) (times k (times n low)) (times w (times k bottom))
      ∙ ap (λ z. plus z (plus (times k edges) (times w (times k bottom)))) (back_twice k n high low)
      ∙ ap (plus (times k (times n high))) (ap (plus (times k edges)) (times_swap S w k bottom) ∙ back_twice k w top bottom ∙ times_swap S k w top) in
      within (times w c) (times w c') (times k (times w v)) (times k (plus gains edges)) (times k (times n low)) (times k (times n high)) (times w (times k bottom)) (times w (times k top))
      (ap (λ z. at_most z (plus (times k (times w v)) (times k (times n high)))) (sym (mine c bottom)) ∙ ap (at_most (times w (plus c (times k bottom)))) (sym (part v high)) ∙ one)
      (ap (λ z. at_most z (plus (times w c') (times w (times k top)))) (sym (part v low)) ∙ ap (at_most (times k (plus (times w v) (times n low)))) (sym (mine c' top)) ∙ other)
      made (times w (minus c c')) (back_times w c c')

-- the same order read backwards
abbrev pub backwards : {A : Type 0} {S : Sums A} → Ordered S → Ordered S
backwards O = record {
  at_most = λ a b. O.at_most b a;
  minus = O.minus;
  reflexive = O.reflexive;
  transitive = λ a b c g h. O.transitive c b a h g;
  shift = λ a b c. O.shift b a c;
  back = O.back;
}
