use Rattle.std.proofs.Common.{◌≡◌, ◌-◌, ◌≤◌, ◌^◌, length}
use Rattle.desk.specs.Histories.{newest}
use Rattle.desk.specs.Talks.{turns_in, shows_in}
use Rattle.desk.proofs.desk.Desk.ask.Given as goal

abbrev pub invariant-loop-ask : goal.invariant-loop-ask
invariant-loop-ask g l = record {
  turns : newest turns_in l.self.talk.items ≡ newest turns_in l.initial.self.talk.items;
  shown : newest shows_in l.self.talk.items ≡ newest shows_in l.initial.self.talk.items;
  heard : length (g.L.Terminal.heard l.initial.self.terminal) ≤ length (g.L.Terminal.heard l.self.terminal);
}

abbrev pub decreases-loop-ask : goal.decreases-loop-ask
decreases-loop-ask g l = 2 ^ 64 - length (g.L.Terminal.heard l.self.terminal)
