use Rattle.std.proofs.Common.{length, sym, ap, ◌∙◌, arith}
use Rattle.std.proofs.lemmas.Result.{err_from_is_err_and}
use Rattle.lines.proofs.LineLaws.{rest_shorter}
use Rattle.plantext.specs.Progress.{progress}
use Rattle.plantext.proofs.Fronts.{line_taken, line_refused, behind_refused, all_read}
use Rattle.plantext.proofs.reading.Reader.read_behind.Goals as goal

pub loop-self-smaller : goal.loop-self-smaller
loop-self-smaller g c =
    let t = c.in_ok-read_line.ensures.line.0 in
    let less = rest_shorter c.loop-self.lines.rest.now t.key t.value t.said in
    omega (arith, ap length t.left)

pub loop-self-preserved : goal.loop-self-preserved
loop-self-preserved g c =
    let h = c.in_ok-read_line.ensures.line in
    let lawful = g.met.T.Tariff.lawful c.args.tariff.now in
    line_taken _ _ _ _ _ _ _ _ _ _ lawful.some_places c.requires.states c.loop-self.invariant h.0 h.1

pub returns-in_err-read_line : goal.returns-in_err-read_line
returns-in_err-read_line g c =
    let h = c.in_err-read_line.ensures.line in
    let p = err_from_is_err_and c.from_residual.result c.from_residual.ensures.1 in
    let refused = line_refused _ _ _ _ _ _ _ c.loop-self.self.due h.0 (sym c.is_some.ensures ∙ c.loop-self-test.true) c.loop-self.invariant h.1.0 in
    behind_refused (g.T.Tariff.scale c.args.tariff.now).places (length c.args.values.now) (progress g.T.Tariff.row c.read_line.new.self c.read_line.new.values c.read_line.new.policy).plan c.args.lines.now.rest.now c.args.lines.now.place c.from_residual.result p.0 _ p.1 (p.2 ∙ h.1.1) refused

pub returns-else-not-at_end : goal.returns-else-not-at_end
returns-else-not-at_end g c = all_read _ _ _ _ _ _ _ _ (sym c.is_some.ensures ∙ c.loop-self-test.false) (sym c.at_end.ensures ∙ c.if-not-at_end.false) c.requires.states c.requires.few c.loop-self.invariant
