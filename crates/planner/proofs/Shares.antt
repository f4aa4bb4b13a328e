-- How far shares reach, and a table that is written at one state.
use Rattle.std.proofs.Common.{◌≡◌, ℕ, ◌<◌, ◌≤◌, ◌≢◌, List, [], ◌∷◌, map, length, set, ℤ, pos, negsuc, nat_abs, sym, ap, ◌∙◌, subst, arith}
use Rattle.std.specs.Int.{int_div_euclid}
use Rattle.std.proofs.lemmas.List.{map-set, get_or-set_same, get_or-set_other, length-map}
use Rattle.interface.specs.Limits.{whole}
use Rattle.interface.specs.Plants.{Model, Lawful}
use Rattle.interface.specs.Rows.{Row, zeros, share, reach}
use Rattle.interface.specs.Tariffs.{Scale, LawfulScale}
use Rattle.lookahead.specs.Gains.{value_of, look_ahead, Within}
use Rattle.lookahead.proofs.Bounds.{EachFit, ahead_reach}
use Rattle.certificate.proofs.Claiming.{feasible_of}
use Rattle.planner.specs.Sweeps.{Shared}

abs_share : (x : ℤ) → nat_abs (int_div_euclid x (pos whole)) ≤ nat_abs x
abs_share (pos a) = omega arith
abs_share (negsuc a) = omega arith

share_reach : (u : Row) → reach (share u) ≤ reach u
share_reach [] = omega arith
share_reach (x ∷ u) = omega (arith, abs_share x, share_reach u)

pub shared_reach : (m : Model) (lawful : Lawful m) (t : Scale) (scaled : LawfulScale t) (vs : List Row) (within : Within m vs) (fit : EachFit t.places vs)
    → (s : ℕ) (u : Row) → Shared m t vs s u → reach u ≤ 11000000000000000
shared_reach m lawful t scaled vs within fit s u shared =
    let of = feasible_of m (look_ahead m t vs) s shared.at shared.ahead shared.least.there in
    let near = subst (λ w. reach w ≤ 11000000000000000) (sym of.1) (ahead_reach m lawful t scaled vs within fit s shared.at of.0) in
    let small = share_reach shared.ahead in
    subst (λ w. reach w ≤ 11000000000000000) (sym shared.is) (omega arith)

module _ {A : Type 0} (row : A → Row) (t : Scale) (ws : List A) (s : ℕ) (v : A) where
  pub written_here : s < length ws → value_of t (map row (set ws s v)) s ≡ row v
  written_here l =
      ap (λ w. value_of t w s) (map-set row ws s v) ∙ get_or-set_same (map row ws) s (row v) (zeros t.places) (subst (λ n. s < n) (sym (length-map ws row)) l)

  pub written_elsewhere : (k : ℕ) → k ≢ s → value_of t (map row (set ws s v)) k ≡ value_of t (map row ws) k
  written_elsewhere k d = ap (λ w. value_of t w k) (map-set row ws s v) ∙ get_or-set_other (map row ws) s k (row v) (zeros t.places) d
