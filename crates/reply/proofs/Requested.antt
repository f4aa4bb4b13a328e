-- Exactly the requests are answered by their plan, or by the refusal of their sweeps.
use Rattle.std.proofs.Common.{◌≡◌, ℕ, ◌+◌, ◌≤◌, ◌⊎◌, List, [], ◌++◌, take, Ok, Err, codes, Result, sym, refl, ap, ◌∙◌, subst, inl, inr, arith}
use Rattle.std.proofs.lemmas.List.{append_assoc, append-nil}
use Rattle.interface.specs.Plants.{Model}
use Rattle.lines.specs.Line.{rest_at}
use Rattle.reading.specs.Written.{line_of, number_line}
use Rattle.reading.specs.declared.keys.Key.TheVariants as key
use Rattle.reading.specs.declared.keys.Key.TheVariants.{Kind as KindKey, Sweeps}
use Rattle.reading.specs.declared.rules.ReadRefusal.{ReadRefusal}
use Rattle.chain.specs.Chains.{chain_model}
use Rattle.chain.specs.Parts.{arcs_of}
use Rattle.chain.specs.declared.numbers.ChainNumbers.{ChainNumbers}
use Rattle.chain.specs.declared.plant.Chain.{Chain}
use Rattle.chaintext.specs.Writing.{BeginsChain, ReadsFrom, parts_text, arcs_text, answered as chain_numbers}
use Rattle.pair.specs.Pairs.{pair_model}
use Rattle.pair.specs.declared.numbers.PairNumbers.{PairNumbers}
use Rattle.pair.specs.declared.plant.Pair.{Pair}
use Rattle.pairtext.specs.declared.stage.UnitName.TheVariants.{One, Two}
use Rattle.pairtext.specs.Texts.{answered as pair_numbers}
use Rattle.pairtext.specs.Writing.{BeginsPair, ReadsPair, unit_text}
use Rattle.planner.specs.Sweeps.{most_sweeps}
use Rattle.request.specs.declared.kind.Kind.{Kind}
use Rattle.request.specs.declared.kind.Kind.TheVariants as kind
use Rattle.request.specs.declared.sweeps.SweepsLine.{SweepsLine}
use Rattle.request.specs.declared.tariff.TariffChoice.{TariffChoice}
use Rattle.request.specs.Requests.{read_kind, read_tariff, read_sweeps, read_end}
use Rattle.request.specs.Writing.{tariff_line, RateInRange, counted}
use Rattle.request.proofs.Written.{kind_read, tariff_read, sweeps_read, end_read}
use Rattle.reply.specs.declared.answer.Refusal.TheVariants.{Broken, BeyondReach}
use Rattle.reply.specs.Laws.{ChainFirst, PairFirst, PlantFirst, RefusedLaw, ReplyLaw}
use Rattle.reply.specs.Replies.{Reply, scale_of, PlansAs, BrokenBy, AtEnd, AtSweeps, AtTariff, BehindPlant, AtChain, AtPair, RepliesToChain, RepliesToPair, AtKind, RepliesTo}

-- the text behind a plant as it should be, and the reply to it
record Sound (m : Model) (text : List ℕ) (r : Reply) : Type 0 where
  tariff : TariffChoice
  sweeps : SweepsLine
  whole : text ≡ tariff_line tariff ++ number_line Sweeps sweeps.count
  rate : RateInRange tariff
  few : sweeps.count ≤ most_sweeps
  plans : PlansAs m (scale_of tariff) sweeps r

-- it is so, or broken
abbrev Either : Model → List ℕ → Reply → Type 0
Either m text r = ((e : ReadRefusal) × BrokenBy e r) ⊎ Sound m text r

module _ (m : Model) (text : List ℕ) (place : ℕ) (r : Reply) where
  module _ (c : TariffChoice) (tariff : Ok c ≡ read_tariff text place) where
    module _ (s : SweepsLine) (sweeps : Ok s ≡ read_sweeps (rest_at text) (place + 1)) where
      from_end : (o : Result (Unit {0}) ReadRefusal) → o ≡ read_end (rest_at (rest_at text)) (place + 1 + 1) → AtEnd m c s o r → Either m text r
      from_end (Err e) q h = inl (e, h)
      from_end (Ok u) q h =
          let nothing = (end_read (rest_at (rest_at text)) (place + 1 + 1) (Ok u) q).0 refl in
          let t = (tariff_read text (rest_at text) place (Ok c) tariff refl c (rest_at text)).0 (refl, refl) in
          let n = (sweeps_read (rest_at text) (rest_at (rest_at text)) (place + 1) (Ok s) sweeps refl s.count []).0 (refl, nothing) in
          inr (record {
            tariff = c;
            sweeps = s;
            whole = t.0 ∙ ap (λ l. tariff_line c ++ l) (n.0 ∙ append-nil (number_line Sweeps s.count));
            rate = t.1;
            few = n.1;
            plans = h;
          })

    from_sweeps : (q : Result SweepsLine ReadRefusal) → q ≡ read_sweeps (rest_at text) (place + 1) → AtSweeps m c (rest_at (rest_at text)) (place + 1 + 1) q r → Either m text r
    from_sweeps (Err e) q h = inl (e, h)
    from_sweeps (Ok s) q h = from_end s q (read_end (rest_at (rest_at text)) (place + 1 + 1)) refl h

  from_tariff : (q : Result TariffChoice ReadRefusal) → q ≡ read_tariff text place → AtTariff m (rest_at text) (place + 1) q r → Either m text r
  from_tariff (Err e) q h = inl (e, h)
  from_tariff (Ok c) q h = from_sweeps c q (read_sweeps (rest_at text) (place + 1)) refl h

  behind : BehindPlant m text place r → Either m text r
  behind h = from_tariff (read_tariff text place) refl h

-- the line of the sweeps that were counted
line_of_count : (q : Result SweepsLine ReadRefusal) (n : ℕ) → counted q ≡ Ok n → (s : SweepsLine) × (q ≡ Ok s)
line_of_count (Ok s) n e = (s, refl)
line_of_count (Err x) n e = let z : ◌≡◌ {A = ℕ} 0 1 = cc in absurd (omega arith)

-- behind a plant, what should follow is answered by a plan or by the refusal of its sweeps
planned : (m : Model) (text : List ℕ) (place : ℕ) (r : Reply) (c : TariffChoice) (n : ℕ) → text ≡ tariff_line c ++ number_line Sweeps n → RateInRange c → n ≤ most_sweeps → BehindPlant m text place r → (s : SweepsLine) × PlansAs m (scale_of c) s r
planned m text place r c n whole rate few h =
    let t = (tariff_read text (rest_at text) place (read_tariff text place) refl refl c (number_line Sweeps n)).1 (whole, rate) in
    let k = (sweeps_read (rest_at text) (rest_at (rest_at text)) (place + 1) (read_sweeps (rest_at text) (place + 1)) refl refl n []).1 (t.1 ∙ sym (append-nil (number_line Sweeps n)), few) in
    let s = line_of_count (read_sweeps (rest_at text) (place + 1)) n k.0 in
    let e : read_end (rest_at (rest_at text)) (place + 1 + 1) ≡ Ok tt = (end_read (rest_at (rest_at text)) (place + 1 + 1) (read_end (rest_at (rest_at text)) (place + 1 + 1)) refl).1 k.1 in
    let at_sweeps : AtSweeps m c (rest_at (rest_at text)) (place + 1 + 1) (read_sweeps (rest_at text) (place + 1)) r = subst (λ q. AtTariff m (rest_at text) (place + 1) q r) t.0 h in
    let at_end : AtEnd m c s.0 (read_end (rest_at (rest_at text)) (place + 1 + 1)) r = subst (λ q. AtSweeps m c (rest_at (rest_at text)) (place + 1 + 1) q r) s.1 at_sweeps in
    (s.0, subst (λ o. AtEnd m c s.0 o r) e at_end)

-- a reply that is not broken, to a text that is a request then
whole_reply : (text : List ℕ) (m : Model) (rest : List ℕ) (r : Reply) → PlantFirst text m rest → Sound m rest r → ReplyLaw text r
whole_reply text m rest (Ok v) first s = record {
  plant = m;
  tariff = s.tariff;
  sweeps = s.sweeps.count;
  request = record { plant = subst (PlantFirst text m) s.whole first; rate = s.rate; few = s.few };
  plan = s.plans;
}
whole_reply text m rest (Err (Broken e)) first s = absurd s.plans
whole_reply text m rest (Err (BeyondReach line)) first s = record {
  plant = m;
  tariff = s.tariff;
  sweeps = s.sweeps.count;
  state = s.plans.1.0;
  request = record { plant = subst (PlantFirst text m) s.whole first; rate = s.rate; few = s.few };
  halts = s.plans.1.1;
}

-- the first line of a plant's text names its kind
chain_kind : (text : List ℕ) (n : ChainNumbers) (after : List ℕ) → BeginsChain text n after → read_kind text ≡ Ok kind.Chain
chain_kind text n after b = (kind_read text (read_kind text) refl kind.Chain).1 (_, b.whole ∙ append_assoc (line_of KindKey (codes "chain")) (number_line key.Parts n.count ++ (number_line key.Threshold n.threshold ++ (number_line key.Setup n.setup ++ (number_line key.Alarm n.alarm ++ (parts_text 1 (take n.count n.parts) ++ (arcs_text (arcs_of n) ++ line_of key.End (codes "plant"))))))) after)

pair_kind : (text : List ℕ) (n : PairNumbers) (after : List ℕ) → BeginsPair text n after → read_kind text ≡ Ok kind.Pair
pair_kind text n after b = (kind_read text (read_kind text) refl kind.Pair).1 (_, b.whole ∙ append_assoc (line_of KindKey (codes "pair")) (number_line key.Threshold n.threshold ++ (number_line key.Setup n.setup ++ (number_line key.Inspect n.inspect ++ (unit_text One n.one ++ (unit_text Two n.two ++ line_of key.End (codes "plant")))))) after)

chain_of : (a : Result Chain ReadRefusal) (n : ChainNumbers) → chain_numbers a ≡ Ok n → (c : Chain) × (a ≡ Ok c)
chain_of (Ok c) n e = (c, refl)
chain_of (Err x) n e = let z : ◌≡◌ {A = ℕ} 0 1 = cc in absurd (omega arith)

pair_of : (a : Result Pair ReadRefusal) (n : PairNumbers) → pair_numbers a ≡ Ok n → (p : Pair) × (a ≡ Ok p)
pair_of (Ok p) n e = (p, refl)
pair_of (Err x) n e = let z : ◌≡◌ {A = ℕ} 0 1 = cc in absurd (omega arith)

-- a request is not called broken
module _ (text : List ℕ) (e : ReadRefusal) where
  chain_sound : (m : Model) (c : TariffChoice) (n : ℕ) → ChainFirst text m (tariff_line c ++ number_line Sweeps n) → RateInRange c → n ≤ most_sweeps → RepliesToChain text (Err (Broken e)) → ⊥
  chain_sound m c n f rate few h =
      let b = (h.law f.chain.numbers (tariff_line c ++ number_line Sweeps n)).1 f.begins in
      let a = chain_of h.answer f.chain.numbers b.0 in
      let p = planned (chain_model a.0.numbers a.0.least) h.rest h.place (Err (Broken e)) c n b.1 rate few (subst (λ q. AtChain h.rest h.place q (Err (Broken e))) a.1 h.replies) in
      p.1

  pair_sound : (m : Model) (c : TariffChoice) (n : ℕ) → PairFirst text m (tariff_line c ++ number_line Sweeps n) → RateInRange c → n ≤ most_sweeps → RepliesToPair text (Err (Broken e)) → ⊥
  pair_sound m c n f rate few h =
      let b = (h.law f.pair.numbers (tariff_line c ++ number_line Sweeps n)).1 f.begins in
      let a = pair_of h.answer f.pair.numbers b.0 in
      let p = planned (pair_model a.0.numbers) h.rest h.place (Err (Broken e)) c n b.1 rate few (subst (λ q. AtPair h.rest h.place q (Err (Broken e))) a.1 h.replies) in
      p.1

  not_broken : RepliesTo text (Err (Broken e)) → RefusedLaw text (Broken e)
  not_broken h m c n q = by_plant q.plant
    where
      by_plant : PlantFirst text m (tariff_line c ++ number_line Sweeps n) → ⊥
      by_plant (inl f) = chain_sound m c n f q.rate q.few (subst (λ k. AtKind text k (Err (Broken e))) (chain_kind text f.chain.numbers (tariff_line c ++ number_line Sweeps n) f.begins) h)
      by_plant (inr f) = pair_sound m c n f q.rate q.few (subst (λ k. AtKind text k (Err (Broken e))) (pair_kind text f.pair.numbers (tariff_line c ++ number_line Sweeps n) f.begins) h)

-- a reply, read off its text, that is broken or to a request
abbrev Settled : List ℕ → Reply → Type 0
Settled text r = ((e : ReadRefusal) × BrokenBy e r) ⊎ ReplyLaw text r

settle : (text : List ℕ) (m : Model) (rest : List ℕ) (r : Reply) → PlantFirst text m rest → Either m rest r → Settled text r
settle text m rest r first (inl b) = inl b
settle text m rest r first (inr s) = inr (whole_reply text m rest r first s)

chain_settled : (text : List ℕ) (r : Reply) (rest : List ℕ) (place : ℕ) (a : Result Chain ReadRefusal) → ReadsFrom text (chain_numbers a) rest → AtChain rest place a r → Settled text r
chain_settled text r rest place (Err e) law h = inl (e, h)
chain_settled text r rest place (Ok c) law h =
    settle text (chain_model c.numbers c.least) rest r (inl (record { chain = c; begins = (law c.numbers rest).0 (refl, refl); is = refl })) (behind (chain_model c.numbers c.least) rest place r h)

pair_settled : (text : List ℕ) (r : Reply) (rest : List ℕ) (place : ℕ) (a : Result Pair ReadRefusal) → ReadsPair text (pair_numbers a) rest → AtPair rest place a r → Settled text r
pair_settled text r rest place (Err e) law h = inl (e, h)
pair_settled text r rest place (Ok p) law h =
    settle text (pair_model p.numbers) rest r (inr (record { pair = p; begins = (law p.numbers rest).0 (refl, refl); is = refl })) (behind (pair_model p.numbers) rest place r h)

by_kind : (text : List ℕ) (r : Reply) (k : Result Kind ReadRefusal) → AtKind text k r → Settled text r
by_kind text r (Err e) h = inl (e, h)
by_kind text r (Ok kind.Chain) h = chain_settled text r h.rest h.place h.answer h.law h.replies
by_kind text r (Ok kind.Pair) h = pair_settled text r h.rest h.place h.answer h.law h.replies

pub reply_law : (text : List ℕ) (r : Reply) → RepliesTo text r → ReplyLaw text r
reply_law text r h = told r h (by_kind text r (read_kind text) h)
  where
    told : (r : Reply) → RepliesTo text r → Settled text r → ReplyLaw text r
    told r h (inr l) = l
    told (Ok v) h (inl b) = let z : ◌≡◌ {A = ℕ} 0 1 = cc b.1 in absurd (omega arith)
    told (Err (Broken e)) h (inl b) = not_broken text e h
    told (Err (BeyondReach line)) h (inl b) = let z : ◌≡◌ {A = ℕ} 0 1 = cc b.1 in absurd (omega arith)
