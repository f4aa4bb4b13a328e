use Rattle.std.proofs.Common.{◌≡◌, ℕ, ◌+◌, length, refl, ◌∙◌, arith}
use Rattle.std.proofs.lemmas.Result.{err_from_is_err_and}
use Rattle.plantext.specs.Reading.{stages_behind}
use Rattle.plantext.proofs.Wholes.{first_told, fault_place, read_refused}
use Rattle.plantext.proofs.reading.read_into.Goals as goal

pub returns-in_err-read_behind : goal.returns-in_err-read_behind
returns-in_err-read_behind g c =
    let places : ℕ = (g.T.Tariff.scale c.args.tariff.now).places in
    let one = c.in_ok-read_line.ensures.line in
    let line : c.read_line.new.lines.place ≡ 1 = omega (arith, c.new-lines.ensures.place, one.1) in
    let values : c.read_line.new.self.states ≡ length c.args.values.now = omega arith in
    let policy : c.read_line.new.self.states ≡ length c.args.policy.now = omega arith in
    let long : length c.read_line.new.values ≡ length c.args.values.now = omega arith in
    let told = first_told places (length c.args.values.now) (length c.args.policy.now) (length c.read_line.new.values) c.read_line.new.lines.place _ _ c.args.text.now _ c.read_line.new.lines.rest.now one.0 c.new-lines.ensures.rest refl values policy long line in
    let p = err_from_is_err_and c.from_residual-in_err-read_behind.result c.from_residual-in_err-read_behind.ensures.1 in
    let h = c.in_err-read_behind.ensures in
    read_refused g.T.Tariff.row places c.args.text.now (record { values = c.args.values.now; policy = c.args.policy.now }) (record { values = c.read_behind.new.values; policy = c.read_behind.new.policy })
    c.from_residual-in_err-read_behind.result p.0 _ p.1 p.2 (fault_place places (stages_behind (length c.read_line.new.values)) (c.read_line.new.lines.place + 1) c.read_line.new.lines.rest.now _ h) (told.faults ∙ h)

pub returns : goal.returns
returns g c =
    let places : ℕ = (g.T.Tariff.scale c.args.tariff.now).places in
    let one = c.in_ok-read_line.ensures.line in
    let line : c.read_line.new.lines.place ≡ 1 = omega (arith, c.new-lines.ensures.place, one.1) in
    let values : c.read_line.new.self.states ≡ length c.args.values.now = omega arith in
    let policy : c.read_line.new.self.states ≡ length c.args.policy.now = omega arith in
    let long : length c.read_line.new.values ≡ length c.args.values.now = omega arith in
    let told = first_told places (length c.args.values.now) (length c.args.policy.now) (length c.read_line.new.values) c.read_line.new.lines.place _ _ c.args.text.now _ c.read_line.new.lines.rest.now one.0 c.new-lines.ensures.rest refl values policy long line in
    let h = c.in_ok-read_behind.ensures in
    (told.faults ∙ h.0, record { lawful = h.1.0; text_is = told.text_is ∙ h.1.1 })
