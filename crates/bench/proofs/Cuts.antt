-- The length of the front of a table.
use Rattle.std.proofs.Common.{◌≡◌, ℕ, ◌≤◌, List, length, take, arith}
use Rattle.std.proofs.lemmas.List.{length-take}

pub front_length : {A : Type 0} (n k : ℕ) (xs : List A) → n ≤ length xs → n ≡ k → length (take n xs) ≡ k
front_length n k xs few is = simp length-take (omega arith)
