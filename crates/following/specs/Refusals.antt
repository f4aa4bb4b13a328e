-- By which rule a certificate is not followed, and where.
use Rattle.std.specs.Prelude.{◌≡◌, ℕ, Result, IsErrAnd}
use Rattle.certificate.specs.Refusals.{number_of, place_of}
use Rattle.following.specs.declared.follow.Unfollowed.{Unfollowed}

-- The certificate is not followed: it is refused with this number and this place.
abbrev pub IsUnfollowed : {A : Type 0} → Result A Unfollowed → ℕ → ℕ → Type 0
IsUnfollowed r n p = IsErrAnd r (λ u. (number_of u.why ≡ n) × (place_of u.why ≡ p))
