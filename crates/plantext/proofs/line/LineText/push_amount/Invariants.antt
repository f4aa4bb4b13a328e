use Rattle.std.proofs.Common.{◌≡◌, ℕ, ◌+◌, ◌*◌, ◌^◌, ◌<◌, ◌≤◌, ◌++◌, length, get_or, take, pos}
use lib.Signed.{mag}
use Rattle.plantext.specs.Lines.{amount}
use Rattle.plantext.specs.Spaces.{place_room}
use Rattle.plantext.proofs.line.LineText.push_amount.Given as goal

abbrev pub invariant-loop-i : goal.invariant-loop-i
invariant-loop-i g l = record {
  text : l.self.bytes.items ≡ l.initial.self.bytes.items ++ amount (take l.i (g.T.Tariff.row l.amount));
  room : length l.self.bytes.items ≤ length l.initial.self.bytes.items + place_room * l.i;
  held : (k : ℕ) → k < l.i → mag (get_or (g.T.Tariff.row l.amount) k (pos 0)) < 2 ^ 63;
}
