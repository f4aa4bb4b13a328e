use Rattle.std.proofs.Common.{◌≡◌, ◌-◌, ◌^◌, length}
use Rattle.desk.specs.Requests.{HeardSoFar}
use Rattle.desk.proofs.requesting.hear_request.Given as goal

abbrev pub invariant-loop-line : goal.invariant-loop-line
invariant-loop-line g l = record {
  so_far : HeardSoFar (g.L.Terminal.heard l.initial.terminal) (g.L.Terminal.heard l.terminal) l.text.items;
  said : g.L.Terminal.said l.terminal ≡ g.L.Terminal.said l.initial.terminal;
}

abbrev pub decreases-loop-line : goal.decreases-loop-line
decreases-loop-line g l = 2 ^ 64 - length (g.L.Terminal.heard l.terminal)
