-- A chain is read exactly from its text.
use Rattle.std.proofs.Common.{◌≡◌, ℕ, ◌<◌, ◌≤◌, List, Ok, Err, Result, sym, ap, ◌∙◌, subst, inl, inr, ⊎_elim, mul-pos, arith}
use Rattle.interface.specs.Limits.{most_states}
use Rattle.chain.specs.Chains.{Renewable}
use Rattle.chain.specs.Parts.{LawfulNumbers, life}
use Rattle.chain.specs.States.{all_states}
use Rattle.chain.specs.declared.numbers.ChainNumbers.{ChainNumbers}
use Rattle.chain.specs.declared.plant.Chain.{Chain}
use Rattle.chain.specs.Sums.{product_positive}
use Rattle.reading.specs.declared.rules.ReadRefusal.{ReadRefusal}
use Rattle.reading.specs.declared.rules.Rule.{Rule}
use Rattle.chaintext.specs.declared.read.Complete.{Complete}
use Rattle.chaintext.specs.declared.reader.ChainReader.{ChainReader}
use Rattle.chaintext.specs.Counted.{CountedAccepted, MadeOf, CountedChain, ReadsLines, CountedRefusal, CountedUnmade, UnmadeBy}
use Rattle.chaintext.specs.Reads.{fresh, numbers_of}
use Rattle.chaintext.specs.Counted.{CountedReads, complete_at, refused_at}
use Rattle.chaintext.specs.Writing.{BeginsChain, ReadsFrom, answered}
use Rattle.chaintext.proofs.Lines.{one_ending}
use Rattle.chaintext.proofs.Whole.{Completed, Wrote, complete_wrote, completed}

-- a lawful chain has a state
some_state : (n : ChainNumbers) → LawfulNumbers n → 0 < all_states n
some_state n l = mul-pos (omega arith) (product_positive (life n) n.count (λ i low high. (l.parts i low high).0.0))

-- what cannot be made of numbers that a chain may have
never_unmade : (n : ChainNumbers) (rule : Rule) → LawfulNumbers n → all_states n ≤ most_states → Renewable n → UnmadeBy n rule → ⊥
never_unmade n rule lawful few renewable why = ⊎_elim (λ w. omega (arith, few, w.1)) (λ w. w.2 0 (renewable 0 (some_state n lawful))) why

module _ (text : List ℕ) (place : ℕ) (rest : List ℕ) (count : ℕ) where
  -- the text of a chain comes to its numbers alone
  record Same (d : ChainReader) (n : ChainNumbers) (after : List ℕ) : Type 0 where
    numbers : numbers_of d ≡ n
    behind : rest ≡ after

  same_ending : (d : ChainReader) (n : ChainNumbers) (after : List ℕ) → CountedReads fresh text place (complete_at d rest count) → Completed text n after place → Same d n after
  same_ending d n after reads c = parts (one_ending reads c.reads)
    where
      parts : complete_at d rest count ≡ complete_at c.reader after c.count → Same d n after
      parts e =
          let same : d ≡ c.reader = cc in
          let left : rest ≡ after = cc in
          record { numbers = ap numbers_of same ∙ c.numbers; behind = left }

  wrote_of : (n : ChainNumbers) (after : List ℕ) → BeginsChain text n after → Wrote text n after
  wrote_of n after b = record { whole = b.whole; lawful = b.lawful; arcs = b.arcs; zero = b.zero }

  accepted_law : (c : Chain) → CountedAccepted text place rest count c → all_states c.numbers ≤ most_states → Renewable c.numbers → ReadsFrom text (Ok c.numbers) rest
  accepted_law c a few renewable n after = (
    (λ h.
        let same : c.numbers ≡ n = cc in
        let w = subst (λ m. Wrote text m rest) (sym a.numbers) (complete_wrote text place a.reader rest count a.reads) in
        subst (λ m. BeginsChain text m after) same (subst (BeginsChain text c.numbers) h.1 (record { whole = w.whole; lawful = w.lawful; few = few; renewable = renewable; arcs = w.arcs; zero = w.zero }))),
    (λ b. let s = same_ending a.reader n after a.reads (completed text n after place (wrote_of n after b)) in (ap Ok (a.numbers ∙ s.numbers), s.behind)),
  )

  refused_never : (e : ReadRefusal) → CountedRefusal text place rest count e → (n : ChainNumbers) (after : List ℕ) → BeginsChain text n after → ⊥
  refused_never e r n after b = ⊎_elim (λ h. at_line (one_ending h done.reads)) at_end r
    where
      done : Completed text n after place
      done = completed text n after place (wrote_of n after b)

      at_line : refused_at e.rule e.line rest count ≡ complete_at done.reader after done.count → ⊥
      at_line q = let z : ◌≡◌ {A = ℕ} 0 1 = cc in omega arith

      at_end : CountedUnmade text place rest count e → ⊥
      at_end u = let s = same_ending u.reader n after u.reads done in never_unmade n e.rule b.lawful b.few b.renewable (subst (λ m. UnmadeBy m e.rule) s.numbers u.why)

  refused_law : (e : ReadRefusal) → CountedRefusal text place rest count e → ReadsFrom text (Err e) rest
  refused_law e r n after = ((λ h. let z : ◌≡◌ {A = ℕ} 0 1 = impossible h.0 in absurd (omega arith)), (λ b. absurd (refused_never e r n after b)))
    where
      impossible : Err e ≡ Ok n → ◌≡◌ {A = ℕ} 0 1
      impossible q = cc

  -- what was read up to the end, and what is made of it
  pub record Read (r : Result Chain ReadRefusal) : Type 0 where
    pub counts : CountedChain text place rest count r
    pub law : ReadsFrom text (answered r) rest

  pub refused_read : (e : ReadRefusal) → CountedReads fresh text place (refused_at e.rule e.line rest count) → Read (Err e)
  refused_read e h = record { counts = inl h; law = refused_law e (inl h) }

  pub lines_lawful : (d : ChainReader) → CountedReads fresh text place (complete_at d rest count) → LawfulNumbers (numbers_of d)
  lines_lawful d h = (complete_wrote text place d rest count h).lawful

  pub made_read : (c : Complete) (r : Result Chain ReadRefusal) → ReadsLines text place rest count (Ok c) → MadeOf (numbers_of c.reader) c.line r → Read r
  made_read c (Ok p) h m =
      let a : CountedAccepted text place rest count p = record { reader = c.reader; reads = h.0; numbers = m.0 } in
      record { counts = a; law = accepted_law p a (subst (λ n. all_states n ≤ most_states) (sym m.0) m.1.few) (subst Renewable (sym m.0) m.1.renewable) }
  made_read c (Err e) h m =
      let u : CountedRefusal text place rest count e = inr (record { reader = c.reader; reads = h.0; lawful = lines_lawful c.reader h.0; line = m.0 ∙ h.1; why = m.1 }) in
      record { counts = u; law = refused_law e u }
