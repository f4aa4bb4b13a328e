-- What sound certificates promise of every book that follows them.
use Rattle.std.proofs.Common.{◌≡◌, ℕ, ◌+◌, ◌≤◌, ◌<◌, true, List, [], length, map, Ok, Err, Result, sym, refl, ap, ◌∙◌, subst, arith}
use Rattle.std.specs.Prelude.{IsOk, IfOk}
use Rattle.std.specs.List.{Contains}
use Rattle.interface.specs.Limits.{whole, most_windows}
use Rattle.interface.specs.Plants.{Model, Lawful, named}
use Rattle.interface.specs.Rows.{Row, minus, times}
use Rattle.interface.specs.Tariffs.{Scale, LawfulScale, Fit, price}
use Rattle.lookahead.proofs.Bounds.{EachFit, fits_map}
use Rattle.certificate.specs.Certificates.{Sound, Top, Bottom}
use Rattle.certificate.specs.Findings.{Verdict}
use Rattle.certificate.specs.declared.finding.Finding.{Finding}
use Rattle.certificate.specs.declared.refusal.Refusal.{Refusal}
use Rattle.bookkeeping.specs.Books.{Account}
use Rattle.following.specs.Rules.{lists, weight, cost, costs}
use Rattle.following.specs.Promises.{Policies, by_policies, GoesThrough, grown, charged, allowance, Promise, always, Promised}
use Rattle.following.proofs.Bounding.{policies_play, against}
use Rattle.following.proofs.Charging.{run, grown_costs, weighed_same, gone, goes}
use Rattle.following.proofs.Enumerating.{listed_exactly, enumerates}

module _ (m : Model) (lawful : Lawful m) (t : Scale) (scaled : LawfulScale t) (vs : List Row) (fit : EachFit t.places vs) (ps : Policies)
    (low high top bottom : Row) (low_fits : Fit t low) (high_fits : Fit t high)
    (sound : (j : ℕ) → Sound m t vs (ps j) low high) (is_top : Top m t vs top) (is_bottom : Bottom m t vs bottom) where
  feasible : (j s : ℕ) → s < m.states → m.feasible s (named (ps j) s) ≡ true
  feasible j = (sound j).feasible

  through : (a : Account) (n : ℕ) → a.state < m.states → a.windows + n ≤ most_windows → (ks : List ℕ)
      → Contains (lists m (by_policies ps) n [] a.state) ks → GoesThrough m ps 0 a ks (run m ps 0 a ks)
  through a n l room ks h =
      let can = (listed_exactly m (by_policies ps) n a.state ks).0 h in
      goes m lawful ps (λ j. (sound j).policy) feasible ks [] a l (omega (arith, can.0)) can.1

  one_end : (a : Account) (n : ℕ) (ks : List ℕ) (b : Account) → length ks ≡ n → GoesThrough m ps 0 a ks b
      → Contains (lists m (by_policies ps) n [] a.state) ks × (b ≡ run m ps 0 a ks)
  one_end a n ks b long h =
      let went = gone m lawful ps ks [] a b h in
      ((listed_exactly m (by_policies ps) n a.state ks).1 (long, went.0), went.1)

  charged_costs : (a : Account) (n : ℕ) → charged m t ps n a (run m ps 0 a) ≡ costs m t (by_policies ps) n a.state
  charged_costs a n =
      weighed_same t scaled m ps (weight m (by_policies ps) [] a.state) (λ ks. price t (grown a (run m ps 0 a ks))) (cost m t (by_policies ps) [] a.state)
      (λ ks. grown_costs t scaled m ps ks [] a) (lists m (by_policies ps) n [] a.state)

  pub promise : Promise m t ps low high top bottom
  promise a n l room = record {
    end = run m ps 0 a;
    reached = through a n l room;
    only = one_end a n;
    as_rule = charged_costs a n;
    enumerated = enumerates m lawful (by_policies ps) n a.state (policies_play m lawful ps feasible n [] a.state l);
    rivals = λ r plays. enumerates m lawful r n a.state plays;
    bound = λ r plays.
        ap (λ z. t.at_most (times whole (minus z (costs m t r n a.state))) (allowance n low high top bottom)) (charged_costs a n)
        ∙ against m t scaled lawful vs (sound 0).values.long fit low high top bottom low_fits high_fits is_top is_bottom ps sound r n a.state l plays;
  }

-- what is accepted promises it
pub finding_promises : {A : Type 0} (row : A → Row) (m : Model) → Lawful m → (t : Scale) → LawfulScale t → ((a : A) → length (row a) ≡ t.places)
    → (xs : List A) (ps : List ℕ) (low high : A) (r : Result (Finding A) Refusal) → Verdict row m t (map row xs) ps low high r
    → (IsOk r → Sound m t (map row xs) ps (row low) (row high)) → IfOk r (Promised row m t ps)
finding_promises row m lawful t scaled fits xs ps low high (Ok f) verdict sound =
    let finds = verdict.1 in
    let same_low = subst (λ l. Sound m t (map row xs) ps (row l) (row high)) (sym finds.low_kept) (sound refl) in
    let same_high = subst (λ h. Sound m t (map row xs) ps (row f.low) (row h)) (sym finds.high_kept) same_low in
    promise m lawful t scaled (map row xs) (fits_map row t.places fits xs) (always ps) (row f.low) (row f.high) (row f.top) (row f.bottom)
    (fits f.low) (fits f.high) (λ j. same_high) finds.top_found finds.bottom_found
finding_promises row m lawful t scaled fits xs ps low high (Err e) verdict sound = tt
