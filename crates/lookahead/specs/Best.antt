-- The first best of rows that may be absent, numbered from 0. "Best" is by a test: whether one row is at least as good as another.
use Rattle.std.specs.Prelude.{◌≡◌, ℕ, zero, suc, ◌<◌, Bool, true, false, cond, Some, None, Option}
use Rattle.interface.specs.Plants.{Model}
use Rattle.interface.specs.Rows.{Row}
use Rattle.interface.specs.Tariffs.{Scale}

-- A row with its number.
pub record Pick : Type 0 where
  pub at : ℕ
  pub row : Row

abbrev pub better : (Row → Row → Bool) → Option Pick → ℕ → Option Row → Option Pick
better good b n None = b
better good None n (Some u) = Some (record { at = n; row = u })
better good (Some p) n (Some u) = cond (good p.row u) (Some p) (Some (record { at = n; row = u }))

-- Of the numbers below n.
abbrev pub first_best : (Row → Row → Bool) → (ℕ → Option Row) → ℕ → Option Pick
first_best good f zero = None
first_best good f (suc n) = better good (first_best good f n) n (f n)

-- The law of it: none where all are absent; else one that is as good as each, and better than each before it.
pub record Chosen (good : Row → Row → Bool) (f : ℕ → Option Row) (n : ℕ) (p : Pick) : Type 0 where
  pub below : p.at < n
  pub there : f p.at ≡ Some p.row
  pub best : (k : ℕ) (u : Row) → k < n → f k ≡ Some u → good p.row u ≡ true
  pub first : (k : ℕ) (u : Row) → k < p.at → f k ≡ Some u → good u p.row ≡ false

abbrev pub FirstBest : (Row → Row → Bool) → (ℕ → Option Row) → ℕ → Option Pick → Type 0
FirstBest good f n None = (k : ℕ) → k < n → f k ≡ None
FirstBest good f n (Some p) = Chosen good f n p

-- The tariff's order, and the same from above.
abbrev pub cheaper : Scale → Row → Row → Bool
cheaper t u v = t.at_most u v

abbrev pub dearer : Scale → Row → Row → Bool
dearer t u v = t.at_most v u

-- What is asked of the feasible portfolios only.
abbrev pub where_feasible : Model → (ℕ → ℕ → Row) → ℕ → ℕ → Option Row
where_feasible m f s x = cond (m.feasible s x) (Some (f s x)) None
