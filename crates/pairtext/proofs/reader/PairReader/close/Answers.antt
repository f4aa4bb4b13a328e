use Rattle.std.proofs.Common.{◌≡◌, ℕ, Ok, Err, Result, sym, ap, ◌∙◌, subst, rules}
use Rattle.std.specs.Result.{MatchResult}
use Rattle.std.proofs.lemmas.Bool.{cond-true, cond-false}
use Rattle.reading.specs.declared.rules.Rule.TheVariants.{NoFullRenewal as NoRenewal}
use Rattle.pair.specs.Pairs.{LawfulNumbers, Renewable}
use Rattle.pair.specs.Refusals.{Refused}
use Rattle.pair.specs.declared.numbers.PairNumbers.{PairNumbers}
use Rattle.pair.specs.declared.plant.Pair.{Pair}
use Rattle.pair.specs.declared.refusal.PairRefusal.{PairRefusal}
use Rattle.pair.specs.declared.refusal.PairRefusal.TheVariants.{OutOfRange, NoFullRenewal}
use Rattle.pairtext.specs.Texts.{answered, judged}
use Rattle.pairtext.proofs.Soundness.{complete_lawful}
use Rattle.pairtext.proofs.TextLaws.{error_mapped, mapped_from, at_line, complete_is, renewable_first}
use Rattle.pairtext.proofs.reader.PairReader.close.Goals as goal

-- what was read is in range, so only the renewal of both units can fail
closed : (n : PairNumbers) (line : ℕ) → LawfulNumbers n → (r : Result Pair PairRefusal) → MatchResult r (λ p. (p.numbers ≡ n) × (LawfulNumbers n × Renewable n)) (Refused n) → answered (error_mapped (λ _. at_line line NoRenewal) r) ≡ judged n line
closed n line l (Ok p) made = ap Ok made.0 ∙ sym (cond-true _ _ _ (renewable_first n made.1.0 made.1.1))
closed n line l (Err NoFullRenewal) made = sym (cond-false _ _ _ (made.1 0))
closed n line l (Err OutOfRange) made = absurd (made l)

pub returns : goal.returns
returns c =
    let lawful = complete_lawful c.args.self.now c.requires.0 (complete_is _ c.requires.1) in
    let mapped = mapped_from (λ _. at_line c.args.line NoRenewal) _ c.new.result c.map_err.result c.map_err.ensures.cases (λ f z p. search (rules, p)) in
    ap answered mapped ∙ closed c.from.result c.args.line (subst LawfulNumbers (sym c.from.ensures) lawful) c.new.result c.new.ensures.made ∙ ap (λ n. judged n c.args.line) c.from.ensures
