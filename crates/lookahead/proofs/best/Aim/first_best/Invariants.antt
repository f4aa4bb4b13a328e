use Rattle.std.proofs.Common.{◌≡◌, ℕ, Option}
use Rattle.std.specs.Option.{option_map}
use Rattle.interface.specs.Rows.{Row}
use Rattle.lookahead.specs.Best.{first_best}
use Rattle.lookahead.specs.Choices.{Asked, pick, good}
use Rattle.lookahead.proofs.best.Aim.first_best.Given as goal

abbrev pub invariant-loop-x : goal.invariant-loop-x
invariant-loop-x g l =
    (rows : ℕ → Option Row) → Asked (goal.F-post g l.ask) g.T.Tariff.row l.count rows
    → option_map (pick g.T.Tariff.row) l.best ≡ first_best (good l.self (g.T.Tariff.scale l.tariff)) rows l.x
