-- What the values of a plan's lines say.
use Rattle.std.specs.Prelude.{ℕ, zero, suc, Bool, false, cond, List, [], ◌∷◌, ℤ, Some, None, Option, ◌==◌}
use Rattle.interface.specs.Limits.{most_states}
use Rattle.interface.specs.Rows.{Row}
use Rattle.lines.specs.Numeral.{numeral, signed_numeral}
use Rattle.plantext.specs.declared.values.StateEntry.{StateEntry}
use Rattle.plantext.specs.Lines.{most_portfolio}

-- a number of states: 1 to 4,096
abbrev pub positive : Option ℕ → Option ℕ
positive None = None
positive (Some zero) = None
positive (Some (suc n)) = Some (suc n)

abbrev pub count_of : List ℕ → Option ℕ
count_of v = positive (numeral v most_states)

-- one place more in front
abbrev pub onto : Option ℤ → Option Row → Option Row
onto None o = None
onto (Some z) None = None
onto (Some z) (Some u) = Some (z ∷ u)

-- the amount of so many places that the fields write
abbrev pub amount_of : ℕ → List (List ℕ) → Option Row
amount_of zero [] = Some []
amount_of zero (f ∷ fs) = None
amount_of (suc n) [] = None
amount_of (suc n) (f ∷ fs) = onto (signed_numeral f) (amount_of n fs)

-- an entry as a row
abbrev pub entry_rows : {A : Type 0} → (A → Row) → StateEntry A → StateEntry Row
entry_rows row e = record { portfolio = e.portfolio; value = row e.value }

abbrev pub entered : Option ℕ → Option Row → Option (StateEntry Row)
entered None o = None
entered (Some x) None = None
entered (Some x) (Some u) = Some (record { portfolio = x; value = u })

abbrev pub is : ℕ → Option ℕ → Bool
is s None = false
is s (Some n) = n == s

-- the entry of state s that the fields write
abbrev pub entry_of : ℕ → ℕ → List (List ℕ) → Option (StateEntry Row)
entry_of places s [] = None
entry_of places s (f ∷ []) = None
entry_of places s (f ∷ (h ∷ fs)) = cond (is s (numeral f most_states)) (entered (numeral h most_portfolio) (amount_of places fs)) None
