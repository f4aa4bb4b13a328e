-- The words for "exactly when".

-- each of the two gives the other
abbrev pub Iff : Type 0 → Type 0 → Type 0
Iff P Q = (P → Q) × (Q → P)
