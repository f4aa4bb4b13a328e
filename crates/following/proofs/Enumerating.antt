-- The enumeration of lists: it holds exactly those that a rule can meet, and none twice.
use Rattle.std.proofs.Common.{◌≡◌, ℕ, zero, suc, ◌+◌, ◌<◌, ◌↔◌, List, [], ◌∷◌, ◌++◌, map, length, get_or, Some, ◌⊎◌, inl, inr, ⊎_elim, sym, refl, ap, ◌∙◌, subst, arith}
use Rattle.std.specs.List.{slice_get, Contains}
use Rattle.interface.specs.declared.plant.Outcome.{Outcome}
use Rattle.interface.specs.Plants.{Model, Lawful, outcomes_of}
use Rattle.following.specs.Rules.{Met, Rule, Plays, CanMeet, begun, lists, NoneTwice, Enumerates}
use Rattle.following.proofs.Halves.{together}

-- membership by recursion
abbrev In : List (List ℕ) → List ℕ → Type 0
In [] x = ⊥
In (y ∷ ys) x = (y ≡ x) ⊎ In ys x

in_at : (xs : List (List ℕ)) (x : List ℕ) (k : ℕ) → k < length xs → get_or xs k x ≡ x → In xs x
in_at [] x k l e = absurd (omega arith)
in_at (y ∷ ys) x zero l e = inl e
in_at (y ∷ ys) x (suc k) l e = inr (in_at ys x k (omega arith) e)

in_from : (xs : List (List ℕ)) (x : List ℕ) → Contains xs x → In xs x
in_from xs x h = in_at xs x h.0 h.1 h.2

in_to : (xs : List (List ℕ)) (x : List ℕ) → In xs x → Contains xs x
in_to [] x h = absurd h
in_to (y ∷ ys) x (inl e) = (0, omega arith, e)
in_to (y ∷ ys) x (inr h) = let c = in_to ys x h in (suc c.0, omega arith, c.2)

in_left : (xs ys : List (List ℕ)) (x : List ℕ) → In xs x → In (xs ++ ys) x
in_left [] ys x h = absurd h
in_left (z ∷ xs) ys x (inl e) = inl e
in_left (z ∷ xs) ys x (inr h) = inr (in_left xs ys x h)

in_right : (xs ys : List (List ℕ)) (x : List ℕ) → In ys x → In (xs ++ ys) x
in_right [] ys x h = h
in_right (z ∷ xs) ys x h = inr (in_right xs ys x h)

in_either : (xs ys : List (List ℕ)) (x : List ℕ) → In (xs ++ ys) x → In xs x ⊎ In ys x
in_either [] ys x h = inr h
in_either (z ∷ xs) ys x (inl e) = inl (inl e)
in_either (z ∷ xs) ys x (inr h) = ⊎_elim (λ g. inl (inr g)) (λ g. inr g) (in_either xs ys x h)

in_behind : (k : ℕ) (kss : List (List ℕ)) (ks : List ℕ) → In kss ks → In (map (λ z. k ∷ z) kss) (k ∷ ks)
in_behind k [] ks h = absurd h
in_behind k (z ∷ kss) ks (inl e) = inl (ap (λ z. k ∷ z) e)
in_behind k (z ∷ kss) ks (inr h) = inr (in_behind k kss ks h)

in_behind_from : (k : ℕ) (kss : List (List ℕ)) (x : List ℕ) → In (map (λ z. k ∷ z) kss) x → (ks : List ℕ) × (x ≡ k ∷ ks) × In kss ks
in_behind_from k [] x h = absurd h
in_behind_from k (z ∷ kss) x (inl e) = (z, sym e, inl refl)
in_behind_from k (z ∷ kss) x (inr h) = let r = in_behind_from k kss x h in (r.0, r.1, inr r.2)

-- how a list begins, and what stands behind its first outcome
pub record Begins (rest : ℕ → Outcome → List (List ℕ)) (k : ℕ) (os : List Outcome) (x : List ℕ) : Type 0 where
  pub at : ℕ
  pub outcome : Outcome
  pub behind : List ℕ
  pub there : slice_get os at ≡ Some outcome
  pub is : x ≡ (k + at) ∷ behind
  pub among : In (rest (k + at) outcome) behind

begins : (rest : ℕ → Outcome → List (List ℕ)) (k : ℕ) (os : List Outcome) (x : List ℕ) → In (begun rest k os) x → Begins rest k os x
begins rest k [] x h = absurd h
begins rest k (o ∷ os) x h =
    ⊎_elim
    (λ first.
    let r = in_behind_from k (rest k o) x first in
    let e : k ≡ k + 0 = omega arith in
    record { at = 0; outcome = o; behind = r.0; there = refl; is = r.1 ∙ ap (λ z. z ∷ r.0) e; among = subst (λ z. In (rest z o) r.0) e r.2 })
    (λ later.
    let b = begins rest (suc k) os x later in
    let e : suc k + b.at ≡ k + suc b.at = omega arith in
    record { at = suc b.at; outcome = b.outcome; behind = b.behind; there = b.there; is = b.is ∙ ap (λ z. z ∷ b.behind) e; among = subst (λ z. In (rest z b.outcome) b.behind) e b.among })
    (in_either (map (λ z. k ∷ z) (rest k o)) (begun rest (suc k) os) x h)

in_begun : (rest : ℕ → Outcome → List (List ℕ)) (k : ℕ) (os : List Outcome) (j : ℕ) (o : Outcome) (ks : List ℕ)
    → slice_get os j ≡ Some o → In (rest (k + j) o) ks → In (begun rest k os) ((k + j) ∷ ks)
in_begun rest k [] j o ks there h = let z : ◌≡◌ {A = ℕ} 0 1 = cc in absurd (omega arith)
in_begun rest k (p ∷ os) zero o ks there h =
    let e : k + 0 ≡ k = omega arith in
    let same : o ≡ p = cc in
    in_left (map (λ z. k ∷ z) (rest k p)) (begun rest (suc k) os) ((k + 0) ∷ ks)
    (subst (λ z. In (map (λ z. k ∷ z) (rest k p)) (z ∷ ks)) (sym e)
    (in_behind k (rest k p) ks (subst (λ q. In (rest k q) ks) same (subst (λ z. In (rest z o) ks) e h))))
in_begun rest k (p ∷ os) (suc j) o ks there h =
    let e : k + suc j ≡ suc k + j = omega arith in
    in_right (map (λ z. k ∷ z) (rest k p)) (begun rest (suc k) os) ((k + suc j) ∷ ks)
    (subst (λ z. In (begun rest (suc k) os) (z ∷ ks)) (sym e) (in_begun rest (suc k) os j o ks there (subst (λ z. In (rest z o) ks) e h)))

module _ (m : Model) (r : Rule) where
  met_in : (n : ℕ) (met : Met) (s : ℕ) (ks : List ℕ) → In (lists m r n met s) ks → (length ks ≡ n) × CanMeet m r met s ks
  unfolding lists
  met_in zero met s ks (inl e) = subst (λ z. (length z ≡ 0) × CanMeet m r met s z) e (refl, tt)
  met_in zero met s ks (inr h) = absurd h
  met_in (suc n) met s ks h =
      let rest = λ (k : ℕ) (o : Outcome). lists m r n (met ++ (s, k) ∷ []) o.next in
      let b = begins rest 0 (outcomes_of m s (r met s)) ks h in
      let e : 0 + b.at ≡ b.at = omega arith in
      let more = met_in n (met ++ (s, b.at) ∷ []) b.outcome.next b.behind (subst (λ z. In (rest z b.outcome) b.behind) e b.among) in
      subst (λ z. (length z ≡ suc n) × CanMeet m r met s z) (sym (b.is ∙ ap (λ z. z ∷ b.behind) e))
      (ap suc more.0, (b.outcome, b.there, more.1))

  in_met : (n : ℕ) (met : Met) (s : ℕ) (ks : List ℕ) → length ks ≡ n → CanMeet m r met s ks → In (lists m r n met s) ks
  unfolding lists
  in_met zero met s [] long can = inl refl
  in_met zero met s (k ∷ ks) long can = absurd (omega arith)
  in_met (suc n) met s [] long can = absurd (omega arith)
  in_met (suc n) met s (k ∷ ks) long can =
      let rest = λ (k : ℕ) (o : Outcome). lists m r n (met ++ (s, k) ∷ []) o.next in
      let e : 0 + k ≡ k = omega arith in
      subst (λ z. In (begun rest 0 (outcomes_of m s (r met s))) (z ∷ ks)) e
      (in_begun rest 0 (outcomes_of m s (r met s)) k can.0 ks can.1
      (subst (λ z. In (rest z can.0) ks) (sym e) (in_met n (met ++ (s, k) ∷ []) (can.0).next ks (omega arith) can.2)))

  pub listed_exactly : (n : ℕ) (s : ℕ) (ks : List ℕ) → Contains (lists m r n [] s) ks ↔ ((length ks ≡ n) × CanMeet m r [] s ks)
  listed_exactly n s ks = (λ h. met_in n [] s ks (in_from (lists m r n [] s) ks h), λ h. in_to (lists m r n [] s) ks (in_met n [] s ks h.0 h.1))

twice_append : (xs ys : List (List ℕ)) → NoneTwice xs → NoneTwice ys → ((x : List ℕ) → In xs x → In ys x → ⊥) → NoneTwice (xs ++ ys)
twice_append [] ys p q apart = q
twice_append (x ∷ xs) ys p q apart = (
  λ c. ⊎_elim (λ h. p.0 (in_to xs x h)) (λ h. apart x (inl refl) h) (in_either xs ys x (in_from (xs ++ ys) x c)),
  twice_append xs ys p.1 q (λ y h g. apart y (inr h) g),
)

twice_behind : (k : ℕ) (kss : List (List ℕ)) → NoneTwice kss → NoneTwice (map (λ z. k ∷ z) kss)
twice_behind k [] p = tt
twice_behind k (ks ∷ kss) p = (
  λ c. let r = in_behind_from k kss (k ∷ ks) (in_from (map (λ z. k ∷ z) kss) (k ∷ ks) c) in
      let e : r.0 ≡ ks = cc in p.0 (in_to kss ks (subst (In kss) e r.2)),
  twice_behind k kss p.1,
)

twice_begun : (rest : ℕ → Outcome → List (List ℕ)) (k : ℕ) (os : List Outcome) → ((j : ℕ) (o : Outcome) → NoneTwice (rest j o)) → NoneTwice (begun rest k os)
twice_begun rest k [] h = tt
twice_begun rest k (o ∷ os) h =
    twice_append (map (λ z. k ∷ z) (rest k o)) (begun rest (suc k) os) (twice_behind k (rest k o) (h k o)) (twice_begun rest (suc k) os h)
    (λ x one other.
    let r = in_behind_from k (rest k o) x one in
    let b = begins rest (suc k) os x other in
    let e : k ≡ suc k + b.at = cc (r.1, b.is) in omega arith)

pub none_twice : (m : Model) (r : Rule) (n : ℕ) (met : Met) (s : ℕ) → NoneTwice (lists m r n met s)
unfolding lists
none_twice m r zero met s = (λ c. let h : In [] [] = in_from [] [] c in h, tt)
none_twice m r (suc n) met s =
    twice_begun (λ k o. lists m r n (met ++ (s, k) ∷ []) o.next) 0 (outcomes_of m s (r met s))
    (λ j o. none_twice m r n (met ++ (s, j) ∷ []) o.next)

pub enumerates : (m : Model) → Lawful m → (r : Rule) (n : ℕ) (s : ℕ) → Plays m r n [] s → Enumerates m r n s
enumerates m lawful r n s plays = record {
  exact = listed_exactly m r n s;
  distinct = none_twice m r n [] s;
  together = together m lawful r n [] s plays;
}
