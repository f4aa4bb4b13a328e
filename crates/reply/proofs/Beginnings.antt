-- A request that was read from its first line on.
use Rattle.std.proofs.Common.{◌≡◌, ℕ, List, Ok, Err, Result, vec_items, Vec, refl, ap, ◌∙◌, subst, inl, inr}
use Rattle.std.specs.declared.alloc.Global.{Global}
use Rattle.reading.specs.declared.rules.ReadRefusal.{ReadRefusal}
use Rattle.chain.specs.Chains.{chain_model}
use Rattle.chain.specs.declared.plant.Chain.{Chain}
use Rattle.chaintext.specs.Counted.{CountedChain}
use Rattle.chaintext.specs.Writing.{BeginsChain, ReadsFrom, answered as chain_numbers}
use Rattle.pair.specs.Pairs.{pair_model}
use Rattle.pair.specs.declared.plant.Pair.{Pair}
use Rattle.pairtext.specs.Texts.{read_pair, answered as pair_numbers}
use Rattle.pairtext.specs.Writing.{BeginsPair, ReadsPair}
use Rattle.reply.specs.declared.answer.Unanswered.{Unanswered}
use Rattle.reply.specs.declared.answer.Unanswered.TheVariants.{Refused, NoMemory}
use Rattle.reply.specs.Laws.{Tail, SomeRequest}
use Rattle.reply.specs.Replies.{Reply, Answered, AtChain, AtPair, RepliesToChain, RepliesToPair}

-- what holds of a reply holds of what follows from it, and so it does of want of memory
pub follows : {V W : Type 0} {P Q : Reply → Type 0} (q : Result (Vec ℕ Global) Unanswered) → ((r : Reply) → P r → Q r) → (V → W) → Answered P V q → Answered Q W q
follows (Ok v) f g h = f (Ok (vec_items v)) h
follows (Err (Refused e)) f g h = f (Err e) h
follows (Err NoMemory) f g h = g h

module _ (text start : List ℕ) (lines : ℕ) (is : start ≡ text) (none : lines ≡ 0) (rest : List ℕ) (place : ℕ) where
  pub from_chain : (a : Result Chain ReadRefusal) → CountedChain start lines rest place a → ReadsFrom start (chain_numbers a) rest → (r : Reply) → AtChain rest place a r → RepliesToChain text r
  from_chain a reads law r h = record {
    answer = a;
    rest = rest;
    place = place;
    reads = subst (λ t. CountedChain t 0 rest place a) is (subst (λ n. CountedChain start n rest place a) none reads);
    law = subst (λ t. ReadsFrom t (chain_numbers a) rest) is law;
    replies = h;
  }

  pub from_pair : (a : Result Pair ReadRefusal) → pair_numbers a ≡ (read_pair start lines).answer → rest ≡ (read_pair start lines).rest → place ≡ (read_pair start lines).place → ReadsPair start (pair_numbers a) rest → (r : Reply) → AtPair rest place a r → RepliesToPair text r
  from_pair a reads left count law r h =
      let same : read_pair start lines ≡ read_pair text 0 = ap (λ t. read_pair t lines) is ∙ ap (read_pair text) none in
      record {
        answer = a;
        rest = rest;
        place = place;
        reads = reads ∙ ap (λ q. q.answer) same;
        left = left ∙ ap (λ q. q.rest) same;
        count = count ∙ ap (λ q. q.place) same;
        law = subst (λ t. ReadsPair t (pair_numbers a) rest) is law;
        replies = h;
      }

  -- a plant with what should follow it
  pub chain_requested : (c : Chain) → ReadsFrom start (Ok c.numbers) rest → Tail rest → SomeRequest text
  chain_requested c law t =
      let begins = subst (λ s. BeginsChain s c.numbers rest) is ((law c.numbers rest).0 (refl, refl)) in
      record {
        plant = chain_model c.numbers c.least;
        tariff = t.tariff;
        sweeps = t.sweeps;
        request = record { plant = inl (record { chain = c; begins = subst (BeginsChain text c.numbers) t.whole begins; is = refl }); rate = t.rate; few = t.few };
      }

  pub pair_requested : (p : Pair) → ReadsPair start (Ok p.numbers) rest → Tail rest → SomeRequest text
  pair_requested p law t =
      let begins = subst (λ s. BeginsPair s p.numbers rest) is ((law p.numbers rest).0 (refl, refl)) in
      record {
        plant = pair_model p.numbers;
        tariff = t.tariff;
        sweeps = t.sweeps;
        request = record { plant = inr (record { pair = p; begins = subst (BeginsPair text p.numbers) t.whole begins; is = refl }); rate = t.rate; few = t.few };
      }
