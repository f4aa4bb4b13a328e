-- The claims of the recipe are sound, and the tightest.
use Rattle.std.proofs.Common.{◌≡◌, ℕ, ◌≤◌, List, length, true, sym, subst, ⊎_elim, arith}
use Rattle.interface.specs.Limits.{most_claim}
use Rattle.interface.specs.Plants.{Model, Lawful, named}
use Rattle.interface.specs.Rows.{Row, reach}
use Rattle.interface.specs.Tariffs.{Scale, LawfulScale, AtMost}
use Rattle.lookahead.specs.Gains.{gain}
use Rattle.lookahead.proofs.Bounds.{EachFit, gain_reach}
use Rattle.lookahead.proofs.Leasts.{gain_fits}
use Rattle.certificate.specs.Certificates.{Sound}
use Rattle.certificate.specs.ExactClaims.{Claimable, Tightest}
use Rattle.certificate.specs.Recipes.{Lowest, Highest, Fitting}

module _ (m : Model) (lawful : Lawful m) (t : Scale) (scaled : LawfulScale t) (vs : List Row) (fit : EachFit t.places vs) (ps : List ℕ) (ready : Fitting m vs ps)
    (l h : Row) (lowest : Lowest m t vs l) (highest : Highest m t vs ps h) where
  fits : (s x : ℕ) → m.feasible s x ≡ true → length (gain m t vs s x) ≡ t.places
  fits = gain_fits m lawful t scaled vs ready.within.long fit

  near : (s x : ℕ) → m.feasible s x ≡ true → reach (gain m t vs s x) ≤ most_claim
  near s x f = omega (arith, gain_reach m lawful t scaled vs ready.within fit s x f)

  -- where high is reached the policy's portfolio may be carried out
  own_feasible : m.feasible highest.state (named ps highest.state) ≡ true
  own_feasible = ready.feasible highest.state highest.inside

  low_fits : length l ≡ t.places
  low_fits = subst (λ u. length u ≡ t.places) (sym lowest.there) (fits lowest.state lowest.portfolio lowest.feasible)

  high_fits : length h ≡ t.places
  high_fits = subst (λ u. length u ≡ t.places) (sym highest.there) (fits highest.state (named ps highest.state) own_feasible)

  pub claimable : Claimable t l h
  claimable = record {
    low_fits = low_fits;
    high_fits = high_fits;
    near = record {
      low_near = subst (λ u. reach u ≤ most_claim) (sym lowest.there) (near lowest.state lowest.portfolio lowest.feasible);
      high_near = subst (λ u. reach u ≤ most_claim) (sym highest.there) (near highest.state (named ps highest.state) own_feasible);
    };
  }

  pub tightest : Tightest m t vs ps l h
  tightest low high claims = (
    λ sound. record {
      low_below = subst (AtMost t low) (sym lowest.there) (sound.low_holds lowest.state lowest.portfolio lowest.feasible);
      high_above = subst (λ u. AtMost t u high) (sym highest.there) (sound.high_holds highest.state highest.inside);
    },
    λ loose. record {
      values = ready.within;
      policy = ready.policy;
      low_near = claims.near.low_near;
      high_near = claims.near.high_near;
      feasible = ready.feasible;
      low_holds = λ s x f. scaled.transitive low l (gain m t vs s x) claims.low_fits low_fits (fits s x f) loose.low_below (lowest.least s x f);
      high_holds = λ s k.
          scaled.transitive (gain m t vs s (named ps s)) h high (fits s (named ps s) (ready.feasible s k)) high_fits claims.high_fits (highest.greatest s k) loose.high_above;
    },
  )

  itself : (u : Row) → length u ≡ t.places → AtMost t u u
  itself u f = ⊎_elim (λ a. a) (λ a. a) (scaled.total u u f f)

  pub own_sound : Sound m t vs ps l h
  own_sound = (tightest l h claimable).1 (record { low_below = itself l low_fits; high_above = itself h high_fits })
