-- From a request that was read to the plan that is followed.
use Rattle.std.proofs.Common.{◌≡◌, ℕ, List, ◌++◌, Ok, Err, Result, refl, ap, ◌∙◌, subst, inl, inr}
use Rattle.std.proofs.lemmas.List.{append-nil}
use Rattle.interface.specs.Plants.{Model}
use Rattle.chain.specs.Chains.{chain_model}
use Rattle.chain.specs.declared.plant.Chain.{Chain}
use Rattle.chaintext.specs.Writing.{BeginsChain, ReadsFrom}
use Rattle.pair.specs.Pairs.{pair_model}
use Rattle.pair.specs.declared.plant.Pair.{Pair}
use Rattle.pairtext.specs.Writing.{BeginsPair, ReadsPair}
use Rattle.reading.specs.Written.{number_line}
use Rattle.reading.specs.declared.keys.Key.TheVariants.{Sweeps}
use Rattle.request.specs.declared.sweeps.SweepsLine.{SweepsLine}
use Rattle.request.specs.declared.tariff.TariffChoice.{TariffChoice}
use Rattle.request.specs.Writing.{tariff_line, ReadsTariff, ReadsSweeps, ReadsEnd}
use Rattle.reply.specs.declared.answer.Unanswered.{Unanswered}
use Rattle.reply.specs.declared.answer.Unanswered.TheVariants.{Refused, NoMemory}
use Rattle.reply.specs.Replies.{Reply, scale_of}
use Rattle.desk.specs.Talks.{Talk}
use Rattle.desk.specs.Opening.{Followed, FollowedBehind, FollowedText, Opened}

-- what holds of an opening holds of what follows from it
pub follows : {D V W : Type 0} {P Q : Reply → Type 0} {F G : D → Type 0} (r : Result D Unanswered) → ((a : Reply) → P a → Q a) → (V → W) → ((d : D) → F d → G d) → Opened P V F r → Opened Q W G r
follows (Ok d) f g k h = k d h
follows (Err (Refused e)) f g k h = f (Err e) h
follows (Err NoMemory) f g k h = g h

-- what followed the plant
pub behind : (m : Model) (talk : Talk) (text rest rest' : List ℕ) (c : TariffChoice) (s : SweepsLine) → ReadsTariff text (Ok c) rest → ReadsSweeps rest (Ok s.count) rest' → ReadsEnd rest' (Ok tt) → Followed m (scale_of c) s.count talk → FollowedBehind m text talk
behind m talk text rest rest' c s first second last h =
    let t = (first c rest).0 (refl, refl) in
    let n = (second s.count rest').0 (refl, refl) in
    record {
      tariff = c;
      sweeps = s.count;
      whole = t.0 ∙ ap (λ l. tariff_line c ++ l) (n.0 ∙ ap (λ l. number_line Sweeps s.count ++ l) (last.0 refl) ∙ append-nil (number_line Sweeps s.count));
      rate = t.1;
      few = n.1;
      followed = h;
    }

-- a plant with what should follow it
pub chain_followed : (talk : Talk) (text start rest : List ℕ) → start ≡ text → (c : Chain) → ReadsFrom start (Ok c.numbers) rest → FollowedBehind (chain_model c.numbers c.least) rest talk → FollowedText text talk
chain_followed talk text start rest is c law t =
    let begins = subst (λ s. BeginsChain s c.numbers rest) is ((law c.numbers rest).0 (refl, refl)) in
    record {
      plant = chain_model c.numbers c.least;
      tariff = t.tariff;
      sweeps = t.sweeps;
      request = record { plant = inl (record { chain = c; begins = subst (BeginsChain text c.numbers) t.whole begins; is = refl }); rate = t.rate; few = t.few };
      followed = t.followed;
    }

pub pair_followed : (talk : Talk) (text start rest : List ℕ) → start ≡ text → (p : Pair) → ReadsPair start (Ok p.numbers) rest → FollowedBehind (pair_model p.numbers) rest talk → FollowedText text talk
pair_followed talk text start rest is p law t =
    let begins = subst (λ s. BeginsPair s p.numbers rest) is ((law p.numbers rest).0 (refl, refl)) in
    record {
      plant = pair_model p.numbers;
      tariff = t.tariff;
      sweeps = t.sweeps;
      request = record { plant = inr (record { pair = p; begins = subst (BeginsPair text p.numbers) t.whole begins; is = refl }); rate = t.rate; few = t.few };
      followed = t.followed;
    }
