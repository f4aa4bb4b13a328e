-- What one entry more gives.
use Rattle.std.proofs.Common.{◌≡◌, List, [], ◌∷◌, ◌++◌, sym, ap, ◌∙◌, append_assoc}
use Rattle.std.proofs.lemmas.List.{append-nil}
use Rattle.desk.specs.Histories.{History, newest}

pub newest-append : {T A : Type 0} (f : T → List A) (ts : History T) (t : T × Unit {0}) → newest f (ts ++ t ∷ []) ≡ f t.0 ++ newest f ts
newest-append f [] t = sym (append-nil (f t.0))
newest-append f (x ∷ xs) t = ap (λ us. us ++ f x.0) (newest-append f xs t) ∙ append_assoc (f t.0) (newest f xs) (f x.0)

-- the same of a history that is so
pub entered : {T A : Type 0} (f : T → List A) (ts ts' : History T) (t : T) → ts' ≡ ts ++ (t, tt) ∷ [] → newest f ts' ≡ f t ++ newest f ts
entered f ts ts' t is = ap (newest f) is ∙ newest-append f ts (t, tt)
