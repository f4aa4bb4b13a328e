-- The parts of a window, one by one.
use Rattle.std.proofs.Common.{◌≡◌, ℕ, ◌+◌, ◌-◌, ◌*◌, ◌/◌, ◌%◌, ◌^◌, ◌<◌, ◌≤◌, Bool, true, false, cond, eqb, Some, None, Decides, ap, ◌∙◌, arith}
use Rattle.chain.specs.LawsLemmas.{lives_in_range}
use Rattle.chain.specs.Numbering.{age_step, lives_few, lives_more, number_few, rest_step, state_inside, states_fit}
use Rattle.chain.specs.Radix.{number, number_step}
use Rattle.chain.specs.Renewals.{part_starts, part_stuck, renews_decides, worn_up_to}
use Rattle.chain.specs.Starting.{starts_up_to}
use Rattle.chain.specs.Sums.{every_more, every_not, over_alike, over_more}
use Rattle.chain.specs.Limits.{most_hazard, most_life}
use Rattle.chain.specs.Over.{every, over_parts, product}
use Rattle.chain.specs.Parts.{LawfulNumbers, hazard, life}
use Rattle.chain.specs.Portfolios.{attended, renews, start_age, worn_renewed}
use Rattle.chain.specs.States.{state_with}
use Rattle.chain.specs.declared.numbers.ChainNumbers.{ChainNumbers}
use Rattle.std.proofs.lemmas.Bool.Decides.{same_from_decides}
use Rattle.workorder.specs.Orders.{Holds, max_parts}

-- after k parts: what is left of the state's number, the product of their lives, their places in the next state's
-- number, and their hazards; none of them is left at its life
pub record SoFar (n : ChainNumbers) (s x k rest width total hazards : ℕ) : Type 0 where
  pub left : rest ≡ s / (n.count + 1) / product (life n) k
  pub wide : width ≡ product (life n) k
  pub older : total ≡ number (life n) (start_age n s x) k
  pub sum : hazards ≡ over_parts (λ i. hazard n i (start_age n s x i)) k
  pub few : hazards ≤ most_hazard * k
  pub renewed : every (attended n s x) k ≡ true

-- what the code finds of the next part: its life, and whether it is renewed
pub record Next (n : ChainNumbers) (x k l : ℕ) (new : Bool) : Type 0 where
  pub inside : k < n.count
  pub long : l ≡ life n (k + 1)
  pub held : Decides new (Holds x (k + 1))

module _ (n : ChainNumbers) (lawful : LawfulNumbers n) (s x : ℕ) where
  -- each of them starts below its life
  below : (k : ℕ) → k ≤ n.count → every (attended n s x) k ≡ true → (i : ℕ) → 1 ≤ i → i ≤ k → start_age n s x i < life n i
  below k inside all = starts_up_to n s x k lawful.terms (lives_in_range n lawful) inside ((worn_up_to n s x k).0 all)

  module _ (k rest width total hazards l : ℕ) (new : Bool) (before : SoFar n s x k rest width total hazards) (part : Next n x k l new) where
    renewed : new ≡ renews x (k + 1)
    renewed = same_from_decides new (renews x (k + 1)) part.held (renews_decides x (k + 1))

    -- one part more
    pub one_more : (start h : ℕ) → Some start ≡ cond new (Some 0) (cond (eqb (rest % l + 1) l) None (Some (rest % l + 1))) → h ≡ hazard n (k + 1) start
        → SoFar n s x (k + 1) (rest / l) (width * l) (total + start * width) (hazards + h) × (h ≡ hazard n (k + 1) (start_age n s x (k + 1)))
    one_more start h starts risk =
        let age = age_step n s k rest l before.left part.long in
        let from = part_starts n s x (k + 1) (rest % l + 1) start new age renewed (starts ∙ ap (λ z. cond new (Some 0) (cond (eqb (rest % l + 1) z) None (Some (rest % l + 1)))) part.long) in
        let all = every_more (attended n s x) k before.renewed from.1 in
        let mine : h ≡ hazard n (k + 1) (start_age n s x (k + 1)) = let e = ap (hazard n (k + 1)) from.0 in cc in
        let inside = part.inside in
        let most = (lawful.parts (k + 1) (omega arith) (omega arith)).2 (start_age n s x (k + 1)) (below (k + 1) (omega arith) all (k + 1) (omega arith) (omega arith)) in (
          record {
            left = rest_step n s k rest l before.left part.long;
            wide = lives_more n k width l before.wide part.long;
            older = number_step (life n) (start_age n s x) k total width start before.older before.wide from.0;
            sum = omega (arith, before.sum, over_more (λ i. hazard n i (start_age n s x i)) k);
            few = omega (arith, before.few);
            renewed = all;
          },
          mine,
        )

    -- a part at its life that is not renewed
    pub stuck : None ≡ cond new (Some 0) (cond (eqb (rest % l + 1) l) None (Some (rest % l + 1))) → worn_renewed n s x ≡ false
    stuck none =
        let age = age_step n s k rest l before.left part.long in
        let left = part_stuck n s x (k + 1) (rest % l + 1) new age renewed (none ∙ ap (λ z. cond new (Some 0) (cond (eqb (rest % l + 1) z) None (Some (rest % l + 1)))) part.long) in
        let inside = part.inside in
        every_not (attended n s x) n.count (k + 1) (omega arith) (omega arith) left

  -- the numbers stay small
  pub width_fits : (k rest width total hazards : ℕ) → SoFar n s x k rest width total hazards → k ≤ n.count → width ≤ most_life ^ max_parts
  width_fits k rest width total hazards so inside = omega (arith, so.wide, lives_few n k lawful.terms (lives_in_range n lawful) inside)

  pub total_fits : (k rest width total hazards : ℕ) → SoFar n s x k rest width total hazards → k ≤ n.count → total < most_life ^ max_parts
  total_fits k rest width total hazards so inside = omega (arith, so.older, number_few n (start_age n s x) k lawful.terms (lives_in_range n lawful) (below k inside so.renewed) inside)

  pub number_fits : (rest width total hazards : ℕ) → SoFar n s x n.count rest width total hazards → (n.count + 1) * total < (max_parts + 1) * most_life ^ max_parts
  number_fits rest width total hazards so =
      omega (arith, ap (λ z. (n.count + 1) * z) so.older, state_inside n (start_age n s x) 0 (below n.count (omega arith) so.renewed) (omega arith), states_fit n lawful.terms (lives_in_range n lawful))

-- the next state's number, where no part has failed
pub next_unfailed : (n : ChainNumbers) (start : ℕ → ℕ) (total : ℕ) → total ≡ number (life n) start n.count → (n.count + 1) * total ≡ state_with n (λ i. start i + 1) 0
next_unfailed n start total is =
    let less : (i : ℕ) → 1 ≤ i → i ≤ n.count → start i * product (life n) (i - 1) ≡ (start i + 1 - 1) * product (life n) (i - 1) = λ i _ _. let same : start i ≡ start i + 1 - 1 = omega arith in ap (λ z. z * product (life n) (i - 1)) same in
    let all : total ≡ over_parts (λ i. (start i + 1 - 1) * product (life n) (i - 1)) n.count = is ∙ over_alike _ _ n.count less in
    omega (arith, ap (λ z. (n.count + 1) * z) all)
