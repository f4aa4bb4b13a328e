use Rattle.std.proofs.Common.{◌≡◌, ℕ, List, map, length, replicate, Err, Result, sym, ap, ◌∙◌, subst, rules}
use Rattle.interface.specs.Rows.{Row, zeros}
use Rattle.interface.specs.declared.claims.Claims.{Claims}
use Rattle.plantext.specs.declared.refusal.Fault.{Fault}
use Rattle.plantext.specs.declared.refusal.PlanRefusal.{PlanRefusal}
use Rattle.plantext.specs.declared.refusal.PlanRefusal.TheVariants.{AtLine}
use Rattle.plantext.specs.Answers.{Tables, Zeroed, PlanRead, PlanAnswer}
use Rattle.plantext.proofs.Fills.{filled}
use Rattle.plantext.proofs.reading.read_or_clear.Goals as goal

-- the tables are zeroed after a line was refused
cleared : {A : Type 0} (row : A → Row) (places : ℕ) (text : List ℕ) (t seen t' : Tables A) (r : Result (Claims A) PlanRefusal) (f : Fault) (i : ℕ) → r ≡ Err (AtLine f i) → PlanRead row places text t seen r → Zeroed row places t t' → PlanAnswer row places text t t' r
cleared row places text t seen t' r f i is read zeroed = subst (PlanAnswer row places text t t') (sym is) (subst (PlanRead row places text t seen) is read, zeroed)

pub returns-in-Err-AtLine : goal.returns-in-Err-AtLine
returns-in-Err-AtLine g c =
    let row = g.T.Tariff.row in
    let places = (g.T.Tariff.scale c.args.tariff.now).places in
    let ran = c.fill_with.ensures.ran in
    let values : map row c.fill_with.new.self ≡ replicate (length c.fill_with.new.self) (zeros places) = filled row (zeros places) _ _ (λ x q s. search rules) c.fill_with.new.self ran.0 ran.1 in
    let long : length c.fill_with.new.self ≡ length c.args.values.now = search rules in
    let policy : c.fill.new.self ≡ replicate (length c.args.policy.now) 0 = search rules in
    let told : c.read_into-read.result ≡ Err (AtLine c.in-Err-AtLine.field-0-0 c.in-Err-AtLine.field-0-1) = search rules in
    cleared row places c.args.text.now _ _ _ c.read_into-read.result c.in-Err-AtLine.field-0-0 c.in-Err-AtLine.field-0-1 told c.read_into-read.ensures (record { values = values ∙ ap (λ n. replicate n (zeros places)) long; policy = policy })
