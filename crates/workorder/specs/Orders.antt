-- Portfolios, work orders, and the least cents of a work order. Assumes nothing.
use Rattle.std.specs.Prelude.{◌≡◌, ℕ, ◌+◌, ◌-◌, ◌/◌, ◌%◌, ◌^◌, ◌<◌, ◌≤◌, ◌⊎◌, List, [], ◌∷◌, length, IfSome, Some, None, Option, slice_index_or}
use Rattle.workorder.specs.declared.Arc.{Arc}
use mathlib.Core.List.{Memᴰ as In}

-- the largest number of parts, and so the number of portfolios
abbrev pub max_parts : ℕ
max_parts = 6

abbrev pub portfolios : ℕ
portfolios = 2 ^ max_parts

-- Portfolio x holds part i. Parts are numbered from 1, and part i counts 2 ^ (i - 1).
abbrev pub Holds : ℕ → ℕ → Type 0
Holds x i = (1 ≤ i) × ((x / 2 ^ (i - 1)) % 2 ≡ 1)

-- The list has exactly the parts of portfolio x.
abbrev pub Lists : ℕ → List ℕ → Type 0
Lists x done = (i : ℕ) → (In i done → Holds x i) × (Holds x i → In i done)

-- A work order: the parts done, the latest first, and the cents of its arcs. Each part is done once, by an arc
-- from the rack door, which is node 0, or from a part that was done before.
pub data WorkOrder (arcs : List Arc) : List ℕ → ℕ → Type 0 where
  nothing : WorkOrder arcs [] 0
  next : {done : List ℕ} {cents : ℕ} → WorkOrder arcs done cents → (a : Arc) → In a arcs
      → (a.from ≡ 0) ⊎ In a.from done → (In a.to done → ⊥) → WorkOrder arcs (a.to ∷ done) (cents + a.cents)

-- Some work order for portfolio x costs c.
abbrev pub OrderFor : List Arc → ℕ → ℕ → Type 0
OrderFor arcs x c = (done : List ℕ) × Lists x done × WorkOrder arcs done c

-- The least of the numbers that are P; absent where there is none. (`∥ A ∥₁` says that A holds, with no choice of why.)
abbrev pub LeastOf : (ℕ → Type 0) → Option ℕ → Type 0
LeastOf P None = (c : ℕ) → P c → ⊥
LeastOf P (Some c) = ∥ P c ∥₁ × ((d : ℕ) → P d → c ≤ d)

-- The least cents over all work orders for portfolio x.
abbrev pub Least : List Arc → ℕ → Option ℕ → Type 0
Least arcs x r = LeastOf (OrderFor arcs x) r

-- The table has the least cents of every portfolio.
pub record LeastTable (arcs : List Arc) (table : List (Option ℕ)) : Type 0 where
  pub long : length table ≡ portfolios
  pub least : (x : ℕ) → x < portfolios → Least arcs x (slice_index_or table x None)

-- No arc costs more than m.
abbrev pub NoneDearer : ℕ → List Arc → Type 0
NoneDearer m arcs = (a : Arc) → In a arcs → a.cents ≤ m

-- The number, where there is one, is at most m.
abbrev pub AtMost : ℕ → Option ℕ → Type 0
AtMost m r = IfSome r (λ c. c ≤ m)
