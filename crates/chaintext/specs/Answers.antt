-- What the reader of a chain answers.
use Rattle.std.specs.Prelude.{◌≡◌, ℕ, ◌⊎◌, List, Ok, Err, Result}
use Rattle.chain.specs.Refusals.{Refused}
use Rattle.chain.specs.declared.plant.Chain.{Chain}
use Rattle.chain.specs.declared.refusal.ChainRefusal.{ChainRefusal}
use Rattle.reading.specs.declared.rules.ReadRefusal.{ReadRefusal}
use Rattle.chaintext.specs.declared.reader.ChainReader.{ChainReader}
use Rattle.chaintext.specs.Reads.{fresh, Reads, complete, refused, numbers_of, rule_for}

-- All lines up to the end are read, and a chain is made of them; the rest of the text is still to be read.
pub record Accepted (text : List ℕ) (place : ℕ) (rest : List ℕ) (c : Chain) : Type 0 where
  pub reader : ChainReader
  pub line : ℕ
  pub reads : Reads fresh text place (complete reader rest line)
  pub numbers : c.numbers ≡ numbers_of reader

-- All lines up to the end are read, and no chain is made of them: refused at the last line.
pub record Unmade (text : List ℕ) (place : ℕ) (e : ReadRefusal) : Type 0 where
  pub reader : ChainReader
  pub rest : List ℕ
  pub refusal : ChainRefusal
  pub reads : Reads fresh text place (complete reader rest e.line)
  pub why : Refused (numbers_of reader) refusal
  pub rule : e.rule ≡ rule_for refusal

abbrev pub ReadsChain : List ℕ → ℕ → List ℕ → Result Chain ReadRefusal → Type 0
ReadsChain text place rest (Ok c) = Accepted text place rest c
ReadsChain text place rest (Err e) = Reads fresh text place (refused e.rule e.line) ⊎ Unmade text place e

-- A chain read into the place of another: a refusal leaves that as it was.
abbrev pub Replaced : {U : Type 0} → Chain → Chain → List ℕ → ℕ → List ℕ → Result U ReadRefusal → Type 0
Replaced old new text place rest (Ok u) = Accepted text place rest new
Replaced old new text place rest (Err e) = (new ≡ old) × (Reads fresh text place (refused e.rule e.line) ⊎ Unmade text place e)
