-- What a tariff means, and the laws that every tariff keeps.
use Rattle.std.specs.Prelude.{◌≡◌, ℕ, ◌+◌, ◌*◌, ◌≤◌, Bool, true, false, cond, ◌⊎◌, length, Some, None, Option, nat_le}
use Rattle.interface.specs.declared.plant.Bill.{Bill}
use Rattle.interface.specs.Limits.{most_places, most_price, most_reach, most_factor, most_seconds, most_cents}
use Rattle.interface.specs.Plants.{LawfulBill}
use Rattle.interface.specs.Rows.{Row, zeros, plus, times, reach}

-- The number of places, the row for one dark second, the row for one cent, and the order: whether one row is at most another.
pub record Scale : Type 0 where
  pub places : ℕ
  pub second : Row
  pub cent : Row
  pub at_most : Row → Row → Bool

-- The price of a bill, linear in its seconds and its cents.
abbrev pub price : Scale → Bill → Row
price t b = plus (times b.seconds t.second) (times b.cents t.cent)

-- The order, as a test that came out true.
abbrev pub AtMost : Scale → Row → Row → Type 0
AtMost t u v = t.at_most u v ≡ true

-- A row of this scale, of any reach.
abbrev pub Fit : Scale → Row → Type 0
Fit t u = length u ≡ t.places

-- The laws of every tariff. Those of the order hold for rows of any reach.
pub record LawfulScale (t : Scale) : Type 0 where
  pub some_places : 1 ≤ t.places
  pub few_places : t.places ≤ most_places
  pub second_fits : Fit t t.second
  pub cent_fits : Fit t t.cent
  pub bounded : (b : Bill) → LawfulBill b → reach (price t b) ≤ most_price
  pub transitive : (u v w : Row) → Fit t u → Fit t v → Fit t w → AtMost t u v → AtMost t v w → AtMost t u w
  pub total : (u v : Row) → Fit t u → Fit t v → AtMost t u v ⊎ AtMost t v u
  -- to add the same row to both sides changes nothing
  pub shift : (u v w : Row) → Fit t u → Fit t v → Fit t w → t.at_most (plus u w) (plus v w) ≡ t.at_most u v
  pub cent_counts : t.at_most t.cent (zeros t.places) ≡ false
  pub second_counts : AtMost t (zeros t.places) t.second

-- An answer that may be absent: there exactly when the test is true, and then it means the row.
abbrev pub Answers : {A : Type 0} → (A → Row) → Option A → Bool → Row → Type 0
Answers row None b u = b ≡ false
Answers row (Some a) b u = (b ≡ true) × (row a ≡ u)

-- A sum or a difference is there exactly when both reaches together are at most 10^18,
abbrev pub summable : Row → Row → Bool
summable u v = nat_le (reach u + reach v) most_reach

-- a multiple when its number is at most 10,000 and its number times the reach at most 10^18,
abbrev pub multipliable : ℕ → Row → Bool
multipliable n u = cond (nat_le n most_factor) (nat_le (n * reach u) most_reach) false

-- and a price for a lawful bill.
abbrev pub billable : Bill → Bool
billable b = cond (nat_le b.seconds most_seconds) (nat_le b.cents most_cents) false
