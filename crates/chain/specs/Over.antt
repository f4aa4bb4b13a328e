-- Sums, products and tests over parts, which are numbered from 1.
use Rattle.std.specs.Prelude.{◌≡◌, ℕ, zero, suc, ◌+◌, ◌-◌, ◌*◌, ◌≤◌, Bool, true, ◌&&◌, List, slice_index}

-- f 1 + .. + f k
abbrev pub over_parts : (ℕ → ℕ) → ℕ → ℕ
over_parts f zero = 0
over_parts f (suc k) = over_parts f k + f (k + 1)

-- f 1 * .. * f k
abbrev pub product : (ℕ → ℕ) → ℕ → ℕ
product f zero = 1
product f (suc k) = product f k * f (k + 1)

-- whether p holds of each of the parts 1 to k
abbrev pub every : (ℕ → Bool) → ℕ → Bool
every p zero = true
every p (suc k) = every p k && p (k + 1)

-- the entry of part i in a table that begins with part 1
abbrev pub entry : List ℕ → ℕ → ℕ
entry xs i = slice_index xs (i - 1)

-- the entries of the first k parts are those of f
abbrev pub Entries : (ℕ → ℕ) → ℕ → List ℕ → Type 0
Entries f k xs = (i : ℕ) → 1 ≤ i → i ≤ k → entry xs i ≡ f i
