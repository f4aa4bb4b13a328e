-- What a book shows at each of its three stages.
use Rattle.std.specs.Prelude.{ℕ, ◌+◌, ◌-◌, ◌*◌, ◌<◌, ◌≤◌, Option, Some, None}
use Rattle.interface.specs.declared.plant.Bill.{Bill}
use Rattle.interface.specs.Limits.{most_windows, most_seconds, most_cents}
use Rattle.interface.specs.Plants.{LawfulBill}

-- Where a book stands, and what it has booked: how many windows, and their dark seconds and cents, added up.
pub record Account : Type 0 where
  pub state : ℕ
  pub windows : ℕ
  pub seconds : ℕ
  pub cents : ℕ

-- The account that stands in a state and has booked so many windows, seconds and cents.
abbrev pub account : ℕ → ℕ → ℕ → ℕ → Account
account s w t c = record { state = s; windows = w; seconds = t; cents = c }

-- A new book's account: it has booked nothing.
abbrev pub fresh : ℕ → Account
fresh s = account s 0 0 0

-- An order that is out: the portfolio that is to be carried out, and its bill.
pub record Order : Type 0 where
  pub account : Account
  pub portfolio : ℕ
  pub bill : Bill

abbrev pub order : ℕ → ℕ → ℕ → ℕ → ℕ → Bill → Order
order s w t c x b = record { account = account s w t c; portfolio = x; bill = b }

-- A window that is on air: its portfolio was carried out, and what came of it is not yet reported.
pub record Airing : Type 0 where
  pub account : Account
  pub portfolio : ℕ

abbrev pub airing : ℕ → ℕ → ℕ → ℕ → ℕ → Airing
airing s w t c x = record { account = account s w t c; portfolio = x }

-- An account with one more window of this bill.
abbrev pub booked : Account → Bill → Account
booked a b = account a.state (a.windows + 1) (a.seconds + b.seconds) (a.cents + b.cents)

-- What a book's totals grew by, as one bill.
abbrev pub grown : Account → Account → Bill
grown a b = record { seconds = b.seconds - a.seconds; cents = b.cents - a.cents }

-- An account in another state.
abbrev pub moved : Account → ℕ → Account
moved a s = account s a.windows a.seconds a.cents

-- What an order becomes when it is carried out.
abbrev pub aired : Order → Airing
aired o = record { account = booked o.account o.bill; portfolio = o.portfolio }

-- A book, whatever its stage.
pub data Book : Type 0 where
  opened : Account → Book
  issued : Order → Book
  on_air : Airing → Book

abbrev pub account_of : Book → Account
account_of (opened a) = a
account_of (issued o) = o.account
account_of (on_air w) = w.account

-- The portfolio that a book holds, none while it is open.
abbrev pub held_by : Book → Option ℕ
held_by (opened a) = None
held_by (issued o) = Some o.portfolio
held_by (on_air w) = Some w.portfolio

-- What a book has booked lies within what so many windows can cost.
pub record Bounded (a : Account) : Type 0 where
  pub windows : a.windows ≤ most_windows
  pub seconds : a.seconds ≤ most_seconds * a.windows
  pub cents : a.cents ≤ most_cents * a.windows

-- An order is due: what its book has booked lies within that, a window is left, and its bill is lawful.
pub record Due (o : Order) : Type 0 where
  pub bounded : Bounded o.account
  pub room : o.account.windows < most_windows
  pub bill : LawfulBill o.bill
