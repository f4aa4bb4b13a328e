-- The keys that have a name.
use Rattle.std.proofs.Common.{◌≡◌, ℕ, Bool, true, false, cond, ◌⊎◌, List, [], ◌∷◌, Some, unwrap_or, sym, refl, ap, ◌∙◌, inl, inr, ⊎_elim}
use Rattle.std.specs.List.{find}
use Rattle.std.specs.Str.{bytes_eq}
use Rattle.std.proofs.lemmas.Slice.Eq.{bytes_eq-Decides}
use Rattle.reading.specs.Keys.{name_of, named_keys, first_named, key_of, ReadsKey}
use Rattle.reading.specs.declared.keys.Key.{Key}
use Rattle.reading.specs.declared.keys.Key.TheVariants.{Kind, Parts, Threshold, Setup, Alarm, Part, Life, Hazard, Surplus, Dark, Arc, Inspect, Unit, Grades, Row, Planned, Forced, End, Tariff, Sweeps, Other}

-- the first of some keys with this name, as it is searched
pub first_found : (name : List ℕ) (keys : List Key) → unwrap_or (find (λ k. bytes_eq name (name_of k)) keys) Other ≡ first_named name keys
first_found name [] = refl
first_found name (k ∷ ks) = step (bytes_eq name (name_of k)) (first_found name ks)
  where
    step : (t : Bool) → unwrap_or (find (λ k. bytes_eq name (name_of k)) ks) Other ≡ first_named name ks → unwrap_or (cond t (Some k) (find (λ k. bytes_eq name (name_of k)) ks)) Other ≡ cond t k (first_named name ks)
    step true h = refl
    step false h = h

-- the key that was found has the name, or is none
abbrev Found : List ℕ → Key → Type 0
Found name k = (name ≡ name_of k) ⊎ (k ≡ Other)

found_step : (name : List ℕ) (k rest : Key) (t : Bool) → bytes_eq name (name_of k) ≡ t → Found name rest → Found name (cond t k rest)
found_step name k rest true e h = inl ((bytes_eq-Decides name (name_of k)).0 e)
found_step name k rest false e h = h

found_name : (name : List ℕ) (keys : List Key) → Found name (first_named name keys)
found_name name [] = inr refl
found_name name (k ∷ ks) = found_step name k (first_named name ks) (bytes_eq name (name_of k)) refl (found_name name ks)

-- and the name of a key leads back to it
pub key_of_name : (k : Key) → key_of (name_of k) ≡ k
key_of_name Kind = refl
key_of_name Parts = refl
key_of_name Threshold = refl
key_of_name Setup = refl
key_of_name Alarm = refl
key_of_name Part = refl
key_of_name Life = refl
key_of_name Hazard = refl
key_of_name Surplus = refl
key_of_name Dark = refl
key_of_name Arc = refl
key_of_name Inspect = refl
key_of_name Unit = refl
key_of_name Grades = refl
key_of_name Row = refl
key_of_name Planned = refl
key_of_name Forced = refl
key_of_name End = refl
key_of_name Tariff = refl
key_of_name Sweeps = refl
key_of_name Other = refl

pub key_law : (name : List ℕ) (r : Key) → r ≡ key_of name → ReadsKey name r
key_law name r e k some = (
  (λ q. ⊎_elim (λ n. n ∙ ap name_of (sym e ∙ q)) (λ o. absurd (some (sym q ∙ e ∙ o))) (found_name name named_keys)),
  (λ n. e ∙ ap key_of n ∙ key_of_name k),
)

-- two keys of one name are one
pub same_key : (a b : Key) → bytes_eq (name_of a) (name_of b) ≡ true → a ≡ b
same_key a b e = sym (key_of_name a) ∙ ap key_of ((bytes_eq-Decides (name_of a) (name_of b)).0 e) ∙ key_of_name b
