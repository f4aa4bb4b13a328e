use Rattle.std.proofs.Common.{◌≡◌, rules, sym, ap, ◌∙◌, ◌∷◌, codes, arith}
use Rattle.std.proofs.lemmas.Slice.Eq.{text_from_reads}
use Rattle.lines.specs.Fields.{further}
use Rattle.request.specs.Requests.{tariff_by}
use Rattle.request.proofs.tariff.TariffChoiceTryFromRefSliceU8.try_from.Goals as goal

pub returns-in-Some-airfirst : goal.returns-in-Some-airfirst
returns-in-Some-airfirst c =
    let word : c.in-Some-airfirst.field-0.now ≡ codes "airfirst" = text_from_reads _ _ (omega arith) (search rules) in
    let rest = further c.next.new.self.rest in
    c.air_first_by.ensures ∙ sym (ap tariff_by (sym c.new-fields.ensures.fields ∙ c.in-Some-airfirst.ensures.steps ∙ ap (λ w. w ∷ rest) word))
