-- What the steps of the computation answer. Assumes nothing.
use Rattle.std.specs.Prelude.{◌≡◌, ℕ, ◌+◌, ◌-◌, ◌*◌, ◌^◌, ◌<◌, min, ◌⊎◌, List, length, Some, None, Option, slice_index_or}
use Rattle.workorder.specs.Orders.{AtMost, Holds, Least, OrderFor, portfolios}
use Rattle.workorder.specs.declared.Arc.{Arc}
use mathlib.Core.List.{Memᴰ as In}

-- the lesser of two numbers, each of which may be absent
abbrev pub lesser : Option ℕ → Option ℕ → Option ℕ
lesser None s = s
lesser (Some a) None = Some a
lesser (Some a) (Some b) = Some (min a b)

-- the sum of two numbers, absent where one of them is
abbrev pub sum : Option ℕ → Option ℕ → Option ℕ
sum None s = None
sum (Some a) None = None
sum (Some a) (Some b) = Some (a + b)

-- The arc leads to the part from the door or from a part of the portfolio done.
abbrev pub Leads : ℕ → ℕ → Arc → Type 0
Leads done part a = (a.to ≡ part) × ((a.from ≡ 0) ⊎ Holds done a.from)

-- The arc's cents, absent exactly where it does not lead there.
abbrev pub Usable : ℕ → ℕ → Arc → Option ℕ → Type 0
Usable done part a None = Leads done part a → ⊥
Usable done part a (Some c) = Leads done part a × (a.cents ≡ c)

-- Some arc that leads there costs c.
abbrev pub ArcFor : List Arc → ℕ → ℕ → ℕ → Type 0
ArcFor arcs done part c = (a : Arc) × In a arcs × Leads done part a × (a.cents ≡ c)

-- the portfolio x without part i
abbrev pub without : ℕ → ℕ → ℕ
without x i = x - 2 ^ (i - 1)

-- Some work order for portfolio x that ends with part i costs c.
abbrev pub EndsWith : List Arc → ℕ → ℕ → ℕ → Type 0
EndsWith arcs x i c = Holds x i × ((before last : ℕ) × OrderFor arcs (without x i) before × ArcFor arcs (without x i) i last × (c ≡ before + last))

-- The table is right at each portfolio below x, and each of its numbers is small.
pub record RightBelow (arcs : List Arc) (x : ℕ) (table : List (Option ℕ)) : Type 0 where
  pub long : length table ≡ portfolios
  pub least : (y : ℕ) → y < x → Least arcs y (slice_index_or table y None)
  pub small : (y : ℕ) → y < x → AtMost (y * 2 ^ 32) (slice_index_or table y None)
