-- The keys of lines and their names.
use Rattle.std.specs.Prelude.{◌≡◌, ℕ, cond, List, [], ◌∷◌, codes, ◌≢◌}
use Rattle.std.specs.Str.{bytes_eq}
use Rattle.lines.specs.Exactly.{Iff}
use Rattle.reading.specs.declared.keys.Key.{Key}
use Rattle.reading.specs.declared.keys.Key.TheVariants.{Kind, Parts, Threshold, Setup, Alarm, Part, Life, Hazard, Surplus, Dark, Arc, Inspect, Unit, Grades, Row, Planned, Forced, End, Tariff, Sweeps, Other}

-- what stands before the equals sign of a line with this key; nothing for no key
abbrev pub name_of : Key → List ℕ
name_of Kind = codes "kind"
name_of Parts = codes "parts"
name_of Threshold = codes "threshold"
name_of Setup = codes "setup"
name_of Alarm = codes "alarm"
name_of Part = codes "part"
name_of Life = codes "life"
name_of Hazard = codes "hazard"
name_of Surplus = codes "surplus"
name_of Dark = codes "dark"
name_of Arc = codes "arc"
name_of Inspect = codes "inspect"
name_of Unit = codes "unit"
name_of Grades = codes "grades"
name_of Row = codes "row"
name_of Planned = codes "planned"
name_of Forced = codes "forced"
name_of End = codes "end"
name_of Tariff = codes "tariff"
name_of Sweeps = codes "sweeps"
name_of Other = []

-- all keys that have a name
abbrev pub named_keys : List Key
named_keys = Kind ∷ (Parts ∷ (Threshold ∷ (Setup ∷ (Alarm ∷ (Part ∷ (Life ∷ (Hazard ∷ (Surplus ∷ (Dark ∷ (Arc ∷ (Inspect ∷ (Unit ∷ (Grades ∷ (Row ∷ (Planned ∷ (Forced ∷ (End ∷ (Tariff ∷ (Sweeps ∷ [])))))))))))))))))))

-- the first of some keys with this name
abbrev pub first_named : List ℕ → List Key → Key
first_named name [] = Other
first_named name (k ∷ ks) = cond (bytes_eq name (name_of k)) k (first_named name ks)

-- the key with this name
abbrev pub key_of : List ℕ → Key
key_of name = first_named name named_keys

-- a key is read exactly from its name
abbrev pub ReadsKey : List ℕ → Key → Type 0
ReadsKey name r = (k : Key) → (k ≢ Other) → Iff (r ≡ k) (name ≡ name_of k)

-- the key that a name gives
pub record Names (name : List ℕ) (key : Key) : Type 0 where
  pub value : key ≡ key_of name
  pub law : ReadsKey name key
