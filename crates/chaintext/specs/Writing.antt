-- The text of a chain, as it is written.
use Rattle.std.specs.Prelude.{◌≡◌, ℕ, ◌+◌, ◌<◌, ◌≤◌, ◌⊎◌, List, [], ◌∷◌, ◌++◌, length, take, Ok, Err, codes, Result, slice_index_or}
use Rattle.lines.specs.Exactly.{Iff}
use Rattle.workorder.specs.Orders.{max_parts}
use Rattle.workorder.specs.declared.Arc.{Arc}
use Rattle.interface.specs.Limits.{most_states}
use Rattle.chain.specs.Chains.{Renewable}
use Rattle.chain.specs.Limits.{most_life, most_arcs}
use Rattle.chain.specs.Parts.{LawfulNumbers, arcs_of, life, part_of}
use Rattle.chain.specs.States.{all_states}
use Rattle.chain.specs.declared.numbers.ChainNumbers.{ChainNumbers}
use Rattle.chain.specs.declared.numbers.Part.{Part}
use Rattle.chain.specs.declared.plant.Chain.{Chain}
use Rattle.reading.specs.Written.{line_of, number_line, list_line}
use Rattle.reading.specs.declared.keys.Key.TheVariants as key
use Rattle.reading.specs.declared.rules.ReadRefusal.{ReadRefusal}
use Rattle.chaintext.specs.Reads.{new_part}
use Rattle.chaintext.specs.Steps.{no_arc}

-- part i, with one hazard to each age below its life
abbrev pub part_text : ℕ → Part → List ℕ
part_text i p = number_line key.Part i ++ (number_line key.Life p.life ++ (list_line key.Hazard (take p.life p.hazards) ++ (number_line key.Surplus p.surplus ++ number_line key.Dark p.dark)))

-- parts that are numbered from i on
abbrev pub parts_text : ℕ → List Part → List ℕ
parts_text i [] = []
parts_text i (p ∷ ps) = part_text i p ++ parts_text (i + 1) ps

abbrev pub arc_text : Arc → List ℕ
arc_text a = list_line key.Arc (a.from ∷ (a.to ∷ (a.cents ∷ [])))

abbrev pub arcs_text : List Arc → List ℕ
arcs_text [] = []
arcs_text (a ∷ arcs) = arc_text a ++ arcs_text arcs

-- the one text of a chain: what its parts share, its parts from 1 on, its arcs, and the end
abbrev pub chain_text : ChainNumbers → List ℕ
chain_text n = line_of key.Kind (codes "chain") ++ (number_line key.Parts n.count ++ (number_line key.Threshold n.threshold ++ (number_line key.Setup n.setup ++ (number_line key.Alarm n.alarm ++ (parts_text 1 (take n.count n.parts) ++ (arcs_text (arcs_of n) ++ line_of key.End (codes "plant")))))))

-- an arc from the door, which is 0, or from a part to another part, in a chain of so many parts
pub record ArcWithin (count : ℕ) (a : Arc) : Type 0 where
  pub from : a.from ≤ count
  pub some : 1 ≤ a.to
  pub to : a.to ≤ count
  pub apart : a.from ≡ a.to → ⊥

-- arc a comes before arc b: by where they start, and then by where they lead
abbrev pub Before : Arc → Arc → Type 0
Before a b = (a.from < b.from) ⊎ ((a.from ≡ b.from) × (a.to < b.to))

-- arc k, from 0
abbrev pub arc_at : ChainNumbers → ℕ → Arc
arc_at n k = slice_index_or n.arcs k no_arc

-- each arc leads to a part of the chain, and comes after the one before it
pub record ArcsInOrder (n : ChainNumbers) : Type 0 where
  pub within : (k : ℕ) → k < n.arc_count → ArcWithin n.count (arc_at n k)
  pub rising : (k : ℕ) → k + 1 < n.arc_count → Before (arc_at n k) (arc_at n (k + 1))

-- a table with so many places, of which only the first so many are used, and the others are blank
pub record UsedUpTo {A : Type 0} (used places : ℕ) (empty : A) (table : List A) : Type 0 where
  pub long : length table ≡ places
  pub beyond : (k : ℕ) → used ≤ k → k < places → slice_index_or table k empty ≡ empty

-- what a chain holds beyond its parts, its lives and its arcs, where no text says anything, is 0
pub record ZeroBeyond (n : ChainNumbers) : Type 0 where
  pub parts : UsedUpTo n.count max_parts new_part n.parts
  pub hazards : (i : ℕ) → 1 ≤ i → i ≤ n.count → UsedUpTo (life n i) most_life 0 (part_of n i).hazards
  pub arcs : UsedUpTo n.arc_count most_arcs no_arc n.arcs

-- the text begins with that of a chain with these numbers, and this follows
pub record BeginsChain (text : List ℕ) (n : ChainNumbers) (after : List ℕ) : Type 0 where
  pub whole : text ≡ chain_text n ++ after
  pub lawful : LawfulNumbers n
  pub few : all_states n ≤ most_states
  pub renewable : Renewable n
  pub arcs : ArcsInOrder n
  pub zero : ZeroBeyond n

-- the numbers of a chain, or the refusal
abbrev pub answered : Result Chain ReadRefusal → Result ChainNumbers ReadRefusal
answered (Ok c) = Ok c.numbers
answered (Err e) = Err e

-- the same where a chain was read into another
abbrev pub answered_into : {U : Type 0} → Chain → Result U ReadRefusal → Result ChainNumbers ReadRefusal
answered_into c (Ok u) = Ok c.numbers
answered_into c (Err e) = Err e

-- a chain is read exactly from its text, and what follows is left
abbrev pub ReadsFrom : List ℕ → Result ChainNumbers ReadRefusal → List ℕ → Type 0
ReadsFrom text answer rest = (n : ChainNumbers) (after : List ℕ) → Iff ((answer ≡ Ok n) × (rest ≡ after)) (BeginsChain text n after)
