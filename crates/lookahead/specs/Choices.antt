-- What a choice means: its number, and its amount's row; and what makes one row as good as another.
use Rattle.std.specs.Prelude.{◌≡◌, ℕ, ◌<◌, Bool, Some, Option}
use Rattle.std.specs.Option.{option_map}
use Rattle.lookahead.specs.declared.best.Aim.{Aim}
use Rattle.lookahead.specs.declared.best.Aim.TheVariants.{Least, Greatest}
use Rattle.lookahead.specs.declared.best.Choice.{Choice}
use Rattle.interface.specs.Plants.{Model}
use Rattle.lookahead.specs.Best.{Pick, FirstBest, cheaper, dearer, where_feasible}
use Rattle.interface.specs.Rows.{Row}
use Rattle.interface.specs.Tariffs.{Scale, Fit}

abbrev pub pick : {A : Type 0} → (A → Row) → Choice A → Pick
pick row c = record { at = c.at; row = row c.amount }

abbrev pub good : Aim → Scale → Row → Row → Bool
good Least t = cheaper t
good Greatest t = dearer t

-- What may be answered at each number below a count stands for the row of that number.
abbrev pub Asked : {A : Type 0} → (ℕ → Option A → Type 0) → (A → Row) → ℕ → (ℕ → Option Row) → Type 0
Asked {A} post row count rows = (x : ℕ) (r : Option A) → x < count → post x r → option_map row r ≡ rows x

-- Each row that is there has the places of the scale, as its order asks.
abbrev pub EachFits : Scale → (ℕ → Option Row) → Type 0
EachFits t rows = (k : ℕ) (u : Row) → rows k ≡ Some u → Fit t u

-- A choice is the least that f comes to for the feasible portfolios of a state, the lowest-numbered among equals; it is absent
-- where no portfolio is feasible.
abbrev pub FirstLeast : {A : Type 0} → (A → Row) → Model → Scale → (ℕ → ℕ → Row) → ℕ → Option (Choice A) → Type 0
FirstLeast row m t f s o = FirstBest (cheaper t) (where_feasible m f s) m.portfolios (option_map (pick row) o)
