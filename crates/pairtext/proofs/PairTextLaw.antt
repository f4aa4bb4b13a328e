-- A pair is read exactly from its text.
use Rattle.std.proofs.Common.{◌≡◌, ℕ, List, Ok, Err, Result, sym, ◌∙◌, subst}
use Rattle.reading.specs.declared.rules.ReadRefusal.{ReadRefusal}
use Rattle.pair.specs.Pairs.{LawfulNumbers, Renewable}
use Rattle.pair.specs.declared.numbers.PairNumbers.{PairNumbers}
use Rattle.pair.specs.declared.plant.Pair.{Pair}
use Rattle.pairtext.specs.Texts.{answered, read_pair}
use Rattle.pairtext.specs.Writing.{BeginsPair, ReadsPair}
use Rattle.pairtext.proofs.Accepted.{accepted_wrote}
use Rattle.pairtext.proofs.Accepting.{begins_accepted}

-- a pair is lawful and renewable, however it was made
abbrev Good : PairNumbers → Type 0
Good n = LawfulNumbers n × Renewable n

pair_good : (p : Pair) → Good p.numbers
pair_good p = (p.lawful, p.renewable)

answer_good : (r : Result Pair ReadRefusal) (n : PairNumbers) → answered r ≡ Ok n → Good n
answer_good (Ok p) n e = let same : p.numbers ≡ n = cc in subst Good same (pair_good p)
answer_good (Err refusal) n e = absurd (cc)

pub pair_text_law : (text : List ℕ) (place : ℕ) (r : Result Pair ReadRefusal) (rest : List ℕ) → answered r ≡ (read_pair text place).answer → rest ≡ (read_pair text place).rest → ReadsPair text (answered r) rest
pair_text_law text place r rest answer behind n after = (
  (λ h.
      let wrote = accepted_wrote text place n (sym answer ∙ h.0) in
      let good = answer_good r n h.0 in
      subst (BeginsPair text n) (sym behind ∙ h.1) (record { whole = wrote.whole; lawful = good.0; renewable = good.1; one = wrote.one; two = wrote.two })),
  (λ b. let done = begins_accepted text place n after b in (answer ∙ done.0, behind ∙ done.1)),
)
