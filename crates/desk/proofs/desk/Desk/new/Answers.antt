use Rattle.std.proofs.Common.{sym, subst}
use Rattle.desk.specs.Talks.{Talk, IsTalk}
use Rattle.desk.proofs.TalkLaws.{begins}
use Rattle.desk.proofs.desk.Desk.new.Goals as goal

pub invariant_of-result : goal.invariant_of-result
invariant_of-result g c =
    let heard = g.L.Terminal.heard c.args.terminal in
    let said = g.L.Terminal.said c.args.terminal in
    let P : Talk → Type 0 = λ ts. ∥ IsTalk heard said ts ∥₁ in
    record { is_talk = subst P (sym c.new.ensures) (begins heard said) }
