-- The limits of a chain, as src/limits.rt has them for the code.
use Rattle.std.specs.Prelude.{ℕ, ◌+◌, ◌*◌}
use Rattle.interface.specs.Limits.{most_charge as any_charge, most_threshold as any_threshold}
use Rattle.workorder.specs.Orders.{max_parts}

abbrev pub most_life : ℕ
most_life = 20

-- in ten-thousandths
abbrev pub most_threshold : ℕ
most_threshold = any_threshold

abbrev pub most_hazard : ℕ
most_hazard = 10000

-- the largest setup, alarm, surplus or arc, in cents
abbrev pub most_charge : ℕ
most_charge = any_charge

abbrev pub most_dark : ℕ
most_dark = 10000

-- an arc from the door and from each part to each part
abbrev pub most_arcs : ℕ
most_arcs = (max_parts + 1) * max_parts
