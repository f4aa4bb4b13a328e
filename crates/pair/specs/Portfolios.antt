-- The portfolios of a pair: what is renewed, by number.
use Rattle.std.specs.Prelude.{◌≡◌, ◌≤◌, ℕ, Bool, ◌||◌, ◌==◌, Result, MatchResult}
use Rattle.pair.specs.declared.portfolios.NoPortfolio.{NoPortfolio}
use Rattle.pair.specs.declared.portfolios.Portfolio.{Portfolio}
use Rattle.pair.specs.declared.portfolios.Portfolio.TheVariants.{Nothing, UnitOne, UnitTwo, Both}

abbrev pub nothing : ℕ
nothing = 0

abbrev pub unit_one : ℕ
unit_one = 1

abbrev pub unit_two : ℕ
unit_two = 2

abbrev pub both_units : ℕ
both_units = 3

abbrev pub all_portfolios : ℕ
all_portfolios = 4

abbrev pub renews_one : ℕ → Bool
renews_one x = x == unit_one || x == both_units

abbrev pub renews_two : ℕ → Bool
renews_two x = x == unit_two || x == both_units

abbrev pub portfolio_number : Portfolio → ℕ
portfolio_number Nothing = nothing
portfolio_number UnitOne = unit_one
portfolio_number UnitTwo = unit_two
portfolio_number Both = both_units

-- the portfolio with this number, or this number where no portfolio has it
abbrev pub Numbered : ℕ → Result Portfolio NoPortfolio → Type 0
Numbered x r = MatchResult r (λ p. portfolio_number p ≡ x) (λ e. (e.0 ≡ x) × (all_portfolios ≤ x))
