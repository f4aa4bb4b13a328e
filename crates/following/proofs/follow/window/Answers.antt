use Rattle.std.proofs.Common.{◌≡◌, refl, ap, ◌∙◌, subst, rules}
use Rattle.bookkeeping.specs.Books.{aired}
use Rattle.bookkeeping.specs.Calls.{MayIssue, ordered, ReportRefused}
use Rattle.bookkeeping.specs.Refusals.{number_of, place_of}
use Rattle.following.proofs.Going.{order_refused, outcome_refused}
use Rattle.following.proofs.follow.window.Goals as goal

pub returns-in-Err-report-clause-refused : goal.returns-in-Err-report-clause-refused
returns-in-Err-report-clause-refused g c =
    let m = g.P.Plant.model c.args.plant.now in
    let ps = c.args.policy.now in
    let a = c.args.book in
    let k = c.args.outcome in
    let r = c.in-Err-report.refused in
    let may : MayIssue m a ps = search rules in
    let is : c.carry_out.result ≡ aired (ordered m a ps) = c.carry_out.ensures.aired ∙ ap aired c.in-Ok.ensures.order in
    let why : ReportRefused m c.carry_out.result k (number_of r.why) (place_of r.why) = (c.in-Err-report.ensures.refused (number_of r.why) (place_of r.why)).0 (refl, refl) in
    outcome_refused m ps a r.book k r.why (c.in-Err-report.ensures.kept ∙ is) may (subst (λ w. ReportRefused m w k (number_of r.why) (place_of r.why)) is why)

pub returns-in-Err-clause-refused : goal.returns-in-Err-clause-refused
returns-in-Err-clause-refused g c =
    let m = g.P.Plant.model c.args.plant.now in
    let r = c.in-Err.refused in
    order_refused m c.args.policy.now c.args.book r.book c.args.outcome r.why c.in-Err.ensures.kept
    ((c.in-Err.ensures.refused (number_of r.why) (place_of r.why)).0 (refl, refl))
