-- A beacon lamp: state 0 is lit and state 1 is dark; portfolio 0 leaves it and portfolio 1 replaces it. A dark lamp must be
-- replaced. It fails with one weight, whatever was done.
use Rattle.std.specs.Prelude.{ℕ, ◌-◌, Bool, cond, ◌&&◌, ◌||◌, [], ◌∷◌, ◌==◌, nat_lt}
use Rattle.interface.specs.declared.plant.Bill.{Bill}
use Rattle.interface.specs.Limits.{whole}
use Rattle.interface.specs.Plants.{Model}

abbrev pub lamp_feasible : ℕ → ℕ → Bool
lamp_feasible s x = nat_lt s 2 && (x == 1 || (x == 0 && s == 0))

abbrev pub lamp_bill : ℕ → ℕ → Bill
lamp_bill s x = record { seconds = cond (s == 1) 60 0; cents = cond (x == 1) 500 0 }

abbrev pub lamp_model : ℕ → Model
lamp_model failing = record {
  states = 2;
  portfolios = 2;
  feasible = lamp_feasible;
  bill = lamp_bill;
  outcomes = λ s x. record { next = 0; weight = whole - failing } ∷ record { next = 1; weight = failing } ∷ [];
}
