-- The parts of a chain and the ranges of its numbers.
use Rattle.std.specs.Prelude.{ℕ, ◌-◌, ◌<◌, ◌≤◌, List, [], take, slice_index, slice_index_or}
use Rattle.chain.specs.Limits.{most_life, most_threshold, most_hazard, most_charge, most_dark, most_arcs}
use Rattle.chain.specs.declared.numbers.ChainNumbers.{ChainNumbers}
use Rattle.chain.specs.declared.numbers.Part.{Part}
use Rattle.workorder.specs.Orders.{NoneDearer, max_parts}
use Rattle.workorder.specs.declared.Arc.{Arc}

abbrev pub blank : Part
blank = record { life = 0; hazards = []; surplus = 0; dark = 0 }

-- Part i, from 1.
abbrev pub part_of : ChainNumbers → ℕ → Part
part_of n i = slice_index_or n.parts (i - 1) blank

abbrev pub life : ChainNumbers → ℕ → ℕ
life n i = (part_of n i).life

-- The ten-thousandths with which part i fails in a window that it starts at this age.
abbrev pub hazard : ChainNumbers → ℕ → ℕ → ℕ
hazard n i age = slice_index (part_of n i).hazards age

abbrev pub arcs_of : ChainNumbers → List Arc
arcs_of n = take n.arc_count n.arcs

-- The hazards below the life are in range.
abbrev pub LawfulHazards : Part → Type 0
LawfulHazards p = (age : ℕ) → age < p.life → slice_index p.hazards age ≤ most_hazard

abbrev pub LawfulPart : Part → Type 0
LawfulPart p = ((1 ≤ p.life) × (p.life ≤ most_life)) × ((p.surplus ≤ most_charge) × (p.dark ≤ most_dark)) × LawfulHazards p

-- The numbers that the parts share are in range.
abbrev pub LawfulTerms : ChainNumbers → Type 0
LawfulTerms n = ((1 ≤ n.count) × (n.count ≤ max_parts)) × (n.threshold ≤ most_threshold) × ((n.setup ≤ most_charge) × (n.alarm ≤ most_charge)) × (n.arc_count ≤ most_arcs)

abbrev pub LawfulParts : ChainNumbers → Type 0
LawfulParts n = (i : ℕ) → 1 ≤ i → i ≤ n.count → LawfulPart (part_of n i)

-- What the ranges of the parts say of the lives, of the hazards below them, and of surplus and dark.
abbrev pub LivesInRange : ChainNumbers → Type 0
LivesInRange n = (i : ℕ) → 1 ≤ i → i ≤ n.count → (1 ≤ life n i) × (life n i ≤ most_life)

abbrev pub HazardsInRange : ChainNumbers → Type 0
HazardsInRange n = (i age : ℕ) → (1 ≤ i) × (i ≤ n.count) × (age < life n i) → hazard n i age ≤ most_hazard

abbrev pub ChargesInRange : ChainNumbers → Type 0
ChargesInRange n = (i : ℕ) → 1 ≤ i → i ≤ n.count → ((part_of n i).surplus ≤ most_charge) × ((part_of n i).dark ≤ most_dark)

-- All numbers are in range.
pub record LawfulNumbers (n : ChainNumbers) : Type 0 where
  pub terms : LawfulTerms n
  pub parts : LawfulParts n
  pub arcs : NoneDearer most_charge (arcs_of n)
