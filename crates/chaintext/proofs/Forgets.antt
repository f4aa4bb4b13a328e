-- What comes of a text, without what a refusal leaves of it and without how many lines were read then.
use Rattle.std.proofs.Common.{ℕ, List, Ok, Err, Result, sym, subst, inl, inr, ⊎_elim, ◌⊎◌}
use Rattle.chain.specs.declared.plant.Chain.{Chain}
use Rattle.chain.specs.declared.refusal.ChainRefusal.TheVariants as chain_refusal
use Rattle.reading.specs.declared.rules.ReadRefusal.{ReadRefusal}
use Rattle.chaintext.specs.declared.reader.ChainReader.{ChainReader}
use Rattle.chaintext.specs.Answers.{Accepted, ReadsChain, Unmade}
use Rattle.chaintext.specs.Counted.{CountedAccepted, CountedChain, CountedEnding, CountedReads, CountedRefusal, CountedUnmade, complete_at, done_at, more_at, refused_at, stop_at}
use Rattle.chaintext.specs.Reads.{Ending, Reads, complete, done, fresh, more, refused, stop}

abbrev ending_of : CountedEnding → Ending
ending_of (complete_at d rest count) = complete d rest count
ending_of (refused_at rule line rest count) = refused rule line

reads_of : {d : ChainReader} {text : List ℕ} {place : ℕ} {o : CountedEnding} → CountedReads d text place o → Reads d text place (ending_of o)
reads_of (done_at e) = done e
reads_of (stop_at going step) = stop going step
reads_of (more_at going step reads) = more going step (reads_of reads)

module _ (text : List ℕ) (place : ℕ) (rest : List ℕ) (count : ℕ) where
  accepted_of : (c : Chain) → CountedAccepted text place rest count c → Accepted text place rest c
  accepted_of c a = record { reader = a.reader; line = count; reads = reads_of a.reads; numbers = a.numbers }

  unmade_of : (e : ReadRefusal) → CountedUnmade text place rest count e → Unmade text place e
  unmade_of e u =
      let reads : Reads fresh text place (complete u.reader rest e.line) = subst (λ n. Reads fresh text place (complete u.reader rest n)) (sym u.line) (reads_of u.reads) in
      ⊎_elim
      (λ w. record { reader = u.reader; rest = rest; refusal = chain_refusal.TooManyStates; reads = reads; why = (u.lawful, w.1); rule = w.0 })
      (λ w. record { reader = u.reader; rest = rest; refusal = chain_refusal.NoFullRenewal; reads = reads; why = (u.lawful, w.1, w.2); rule = w.0 })
      u.why

  refusal_of : (e : ReadRefusal) → CountedRefusal text place rest count e → Reads fresh text place (refused e.rule e.line) ⊎ Unmade text place e
  refusal_of e r = ⊎_elim (λ h. inl (reads_of h)) (λ u. inr (unmade_of e u)) r

  pub chain_of : (r : Result Chain ReadRefusal) → CountedChain text place rest count r → ReadsChain text place rest r
  chain_of (Ok c) a = accepted_of c a
  chain_of (Err e) h = refusal_of e h
