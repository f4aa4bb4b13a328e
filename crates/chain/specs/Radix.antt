-- Numbers by digits, where each place has a base of its own: the digit of place i counts the product of the bases before it.
use Rattle.std.specs.Prelude.{◌≡◌, ℕ, zero, suc, ◌+◌, ◌-◌, ◌*◌, ◌/◌, ◌%◌, ◌<◌, ◌≤◌}
use Rattle.chain.specs.Sums.{product_positive}
use Rattle.chain.specs.Over.{over_parts, product}
use Rattle.std.proofs.lemmas.Nat.{mul-add-lt, div-mul-add, mod-mul-add, div-add-mod', mod_below}
use Rattle.std.proofs.lemmas.Bool.{cases_lt}
use Rattle.std.proofs.Common.{inl, inr, sym, ap, ◌∙◌, mul_comm, mul_assoc, add-mul, mod-eq_of_lt, add-one, arith}
use Rattle.std.proofs.Math.Nat.{add-mul-div_left, add-mul-mod_self_left}

-- a higher place does not change a lower digit
lower_digit : (a w b m t : ℕ) → 0 < w → (a * (w * b * m) + t) / w % b ≡ t / w % b
lower_digit a w b m t some =
    let whole : a * (w * b * m) + t ≡ t + w * (b * (m * a)) = let e : a * (w * b * m) ≡ w * (b * (m * a)) = mul_comm a (w * b * m) ∙ mul_assoc (w * b) m a ∙ mul_assoc w b (m * a) in omega arith in
    ap (λ z. z / w % b) whole ∙ ap (λ z. z % b) (add-mul-div_left t (b * (m * a)) some) ∙ add-mul-mod_self_left (t / w) b (m * a)

-- the remainder at a place and its base, by the digit of that place
mod_place : (t w b : ℕ) → 0 < w → 0 < b → t % (w * b) ≡ (t / w % b) * w + t % w
mod_place t w b some base =
    let q = t / w / b in
    let e = t / w % b in
    let low : t % w < w = mod_below t w some in
    let rest : e * w + t % w < w * b = mul-add-lt e w (t % w) b (mod_below (t / w) b base) low in
    let order : q * (w * b) ≡ q * b * w = ap (λ z. q * z) (mul_comm w b) ∙ sym (mul_assoc q b w) in
    let split : t / w * w ≡ q * b * w + e * w = ap (λ z. z * w) (sym (div-add-mod' (t / w) b)) ∙ add-mul (q * b) e w in
    let is : t ≡ q * (w * b) + (e * w + t % w) = omega (arith, div-add-mod' t w) in
    ap (λ z. z % (w * b)) is ∙ mod-mul-add q (w * b) (e * w + t % w) rest

module _ (base : ℕ → ℕ) where
  -- the digit of place i
  abbrev pub digit : ℕ → ℕ → ℕ
  digit t i = (t / product base (i - 1)) % base i

  -- the number of k digits
  abbrev pub number : (ℕ → ℕ) → ℕ → ℕ
  number d k = over_parts (λ i. d i * product base (i - 1)) k

  -- one place more, as a loop adds it
  pub number_step : (d : ℕ → ℕ) (k t w x : ℕ) → t ≡ number d k → w ≡ product base k → x ≡ d (k + 1) → t + x * w ≡ number d (k + 1)
  number_step d k t w x a b e =
      let less : k + 1 - 1 ≡ k = omega arith in
      let more : number d (k + 1) ≡ number d k + d (k + 1) * product base k = ap (number d) (add-one k) ∙ ap (λ z. number d k + d (k + 1) * product base z) less in
      cc

  number_more : (d : ℕ → ℕ) (k : ℕ) → number d (suc k) ≡ d (k + 1) * product base k + number d k
  number_more d k = let less : k + 1 - 1 ≡ k = omega arith in rw less (omega arith)

  pub number_below : (d : ℕ → ℕ) (k : ℕ) → ((i : ℕ) → 1 ≤ i → i ≤ k → d i < base i) → number d k < product base k
  number_below d zero below = omega arith
  number_below d (suc k) below =
      let before = number_below d k (λ i some most. below i some (omega arith)) in
      let more = mul-add-lt (d (k + 1)) (product base k) (number d k) (base (k + 1)) (below (k + 1) (omega arith) (omega arith)) before in
      omega (arith, more, number_more d k)

  -- a place and its base divide what the places above count
  product_splits : (k i : ℕ) → 1 ≤ i → i ≤ k → (m : ℕ) × (product base k ≡ product base (i - 1) * base i * m)
  product_splits zero i some most = absurd (omega arith)
  product_splits (suc k) i some most =
      elim (cases_lt i (suc k)) [
        | inl below ↦ (let r = product_splits k i some (omega arith) in (r.0 * base (k + 1), ap (λ z. z * base (k + 1)) r.1 ∙ mul_assoc (product base (i - 1) * base i) r.0 (base (k + 1))))
        | inr last ↦ (let here : i ≡ k + 1 = omega arith in let less : i - 1 ≡ k = omega arith in (1, rw (less, here) (omega arith)))
      ]

  -- the digits of a number made of digits
  pub digit_of_number : (d : ℕ → ℕ) (k i : ℕ) → ((j : ℕ) → 1 ≤ j → j ≤ k → d j < base j) → 1 ≤ i → i ≤ k → digit (number d k) i ≡ d i
  digit_of_number d zero i below some most = absurd (omega arith)
  digit_of_number d (suc k) i below some most =
      let lower : (j : ℕ) → 1 ≤ j → j ≤ k → d j < base j = λ j one many. below j one (omega arith) in
      elim (cases_lt i (suc k)) [
        | inl h ↦ (
            let r = product_splits k i some (omega arith) in
            let w = product base (i - 1) in
            let positive : 0 < w = product_positive base (i - 1) (λ j one many. let b = below j one (omega arith) in omega arith) in
            let is : number d (suc k) ≡ d (k + 1) * (w * base i * r.0) + number d k = number_more d k ∙ ap (λ z. d (k + 1) * z + number d k) r.1 in
            ap (λ z. digit z i) is ∙ lower_digit (d (k + 1)) w (base i) r.0 (number d k) positive ∙ digit_of_number d k i lower some (omega arith))
        | inr h ↦ (
            let here : i ≡ k + 1 = omega arith in
            let less : i - 1 ≡ k = omega arith in
            let top : number d (suc k) / product base k ≡ d (k + 1) = ap (λ z. z / product base k) (number_more d k) ∙ div-mul-add (d (k + 1)) (product base k) (number d k) (number_below d k lower) in
            let fits : d (k + 1) < base (k + 1) = below (k + 1) (omega arith) (omega arith) in
            ap (λ z. number d (suc k) / product base z % base i) less ∙ ap (λ z. z % base i) top ∙ ap (λ z. d (k + 1) % base z) here ∙ mod-eq_of_lt fits ∙ ap d (sym here))
      ]

  -- the number made of a number's digits
  pub number_of_digits : (t k : ℕ) → ((i : ℕ) → 1 ≤ i → i ≤ k → 1 ≤ base i) → number (digit t) k ≡ t % product base k
  number_of_digits t zero some = omega arith
  number_of_digits t (suc k) some =
      let before = number_of_digits t k (λ i one many. some i one (omega arith)) in
      let positive = product_positive base k (λ i one many. some i one (omega arith)) in
      let less : k + 1 - 1 ≡ k = omega arith in
      let top : digit t (k + 1) ≡ t / product base k % base (k + 1) = ap (λ z. t / product base z % base (k + 1)) less in
      number_more (digit t) k ∙ ap (λ z. z * product base k + number (digit t) k) top ∙ ap (λ z. (t / product base k % base (k + 1)) * product base k + z) before ∙ sym (mod_place t (product base k) (base (k + 1)) positive (some (k + 1) (omega arith) (omega arith)))
