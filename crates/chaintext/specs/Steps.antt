-- What each line of a chain's text does to what is read so far.
use Rattle.std.specs.Prelude.{◌≡◌, ℕ, ◌+◌, ◌-◌, Bool, cond, not, ◌&&◌, ◌||◌, List, ◌++◌, replicate, Some, None, Ok, Err, codes, Option, Result, ◌==◌, nat_le, nat_lt, slice_index, slice_index_or, slice_set}
use Rattle.std.specs.Str.{bytes_eq}
use Rattle.workorder.specs.declared.Arc.{Arc}
use Rattle.workorder.specs.Orders.{max_parts}
use Rattle.chain.specs.declared.numbers.Part.{Part}
use Rattle.chain.specs.Parts.{blank}
use Rattle.chain.specs.Limits.{most_life, most_threshold, most_hazard, most_charge, most_dark, most_arcs}
use Rattle.reading.specs.declared.rules.Rule.{Rule}
use Rattle.reading.specs.declared.rules.Rule.TheVariants.{Unexpected, OutOfRange, WrongArc}
use Rattle.reading.specs.declared.keys.Key.{Key}
use Rattle.reading.specs.declared.keys.Key.TheVariants as key
use Rattle.reading.specs.Keys.{name_of}
use Rattle.reading.specs.Values.{number_between, list_of}
use Rattle.chaintext.specs.declared.reader.Stage.{Stage}
use Rattle.chaintext.specs.declared.reader.Stage.TheVariants as stage
use Rattle.chaintext.specs.declared.reader.Head.{Head}
use Rattle.chaintext.specs.declared.reader.ChainReader.{ChainReader}

abbrev pub Step : Type 0
Step = Result ChainReader Rule

-- a number that may be absent, put to use
abbrev pub with_number : Option ℕ → (ℕ → ChainReader) → Step
with_number None f = Err OutOfRange
with_number (Some n) f = Ok (f n)

-- the same reader with another stage and another head
abbrev pub headed : ChainReader → Stage → Head → ChainReader
headed d s h = record { stage = s; head = h; opened = d.opened; parts = d.parts; arc_count = d.arc_count; arcs = d.arcs }

-- with another part opened
abbrev pub opening : ChainReader → ℕ → ChainReader
opening d n = record { stage = stage.Life; head = d.head; opened = n; parts = d.parts; arc_count = d.arc_count; arcs = d.arcs }

-- with the part opened last filled, and another stage
abbrev pub filled : ChainReader → Stage → Part → ChainReader
filled d s p = record { stage = s; head = d.head; opened = d.opened; parts = slice_set d.parts (d.opened - 1) p; arc_count = d.arc_count; arcs = d.arcs }

-- the place of the part opened last in the table
abbrev pub place_of : ChainReader → Option ℕ
place_of d = cond (nat_lt 0 d.opened && nat_le d.opened max_parts) (Some (d.opened - 1)) None

abbrev pub with_part : ChainReader → Option ℕ → (Part → Step) → Step
with_part d None f = Err Unexpected
with_part d (Some i) f = f (slice_index_or d.parts i blank)

-- a word that is due, and what is due next
abbrev pub word_step : ChainReader → List ℕ → List ℕ → Stage → Step
word_step d v word next = cond (bytes_eq v word) (Ok (headed d next d.head)) (Err Unexpected)

abbrev pub kind_step : ChainReader → List ℕ → Step
kind_step d v = word_step d v (codes "chain") stage.Parts

abbrev pub parts_step : ChainReader → List ℕ → Step
parts_step d v = with_number (number_between v 1 max_parts) (λ n.
    headed d stage.Threshold (record { count = n; threshold = d.head.threshold; setup = d.head.setup; alarm = d.head.alarm }))

abbrev pub threshold_step : ChainReader → List ℕ → Step
threshold_step d v = with_number (number_between v 0 most_threshold) (λ n.
    headed d stage.Setup (record { count = d.head.count; threshold = n; setup = d.head.setup; alarm = d.head.alarm }))

abbrev pub setup_step : ChainReader → List ℕ → Step
setup_step d v = with_number (number_between v 0 most_charge) (λ n.
    headed d stage.Alarm (record { count = d.head.count; threshold = d.head.threshold; setup = n; alarm = d.head.alarm }))

abbrev pub alarm_step : ChainReader → List ℕ → Step
alarm_step d v = with_number (number_between v 0 most_charge) (λ n.
    headed d stage.Part (record { count = d.head.count; threshold = d.head.threshold; setup = d.head.setup; alarm = n }))

-- the parts are opened in their order
abbrev pub part_step : ChainReader → List ℕ → Step
part_step d v = cond (nat_lt d.opened max_parts) (with_number (number_between v (d.opened + 1) (d.opened + 1)) (λ n. opening d n)) (Err OutOfRange)

abbrev pub life_step : ChainReader → List ℕ → Step
life_step d v = with_part d (place_of d) (λ p. with_number (number_between v 1 most_life) (λ n.
    filled d stage.Hazard (record { life = n; hazards = p.hazards; surplus = p.surplus; dark = p.dark })))

-- one hazard to each age below the life, and zeros beyond
abbrev pub padded : ℕ → Option (List ℕ) → Option (List ℕ)
padded life None = None
padded life (Some hs) = Some (hs ++ replicate (most_life - life) 0)

abbrev pub hazards_of : List ℕ → ℕ → Option (List ℕ)
hazards_of v life = cond (nat_le life most_life) (padded life (list_of v most_hazard life)) None

abbrev pub with_list : Option (List ℕ) → (List ℕ → ChainReader) → Step
with_list None f = Err OutOfRange
with_list (Some hs) f = Ok (f hs)

abbrev pub hazard_step : ChainReader → List ℕ → Step
hazard_step d v = with_part d (place_of d) (λ p. with_list (hazards_of v p.life) (λ hs.
    filled d stage.Surplus (record { life = p.life; hazards = hs; surplus = p.surplus; dark = p.dark })))

abbrev pub surplus_step : ChainReader → List ℕ → Step
surplus_step d v = with_part d (place_of d) (λ p. with_number (number_between v 0 most_charge) (λ n.
    filled d stage.Dark (record { life = p.life; hazards = p.hazards; surplus = n; dark = p.dark })))

-- after the last part come the arcs
abbrev pub after_part : ChainReader → Stage
after_part d = cond (nat_lt d.opened d.head.count) stage.Part stage.Arc

abbrev pub dark_step : ChainReader → List ℕ → Step
dark_step d v = with_part d (place_of d) (λ p. with_number (number_between v 0 most_dark) (λ n.
    filled d (after_part d) (record { life = p.life; hazards = p.hazards; surplus = p.surplus; dark = n })))

-- an arc from a part to another, not into the door
abbrev pub straight : Arc → Bool
straight a = nat_lt 0 a.to && not (a.from == a.to)

-- arcs rise by where they start and then by where they lead
abbrev pub behind : Arc → Arc → Bool
behind a b = nat_lt a.from b.from || (a.from == b.from && nat_lt a.to b.to)

abbrev pub no_arc : Arc
no_arc = record { from = 0; to = 0; cents = 0 }

abbrev pub rising : ChainReader → Arc → Bool
rising d a = d.arc_count == 0 || (nat_le d.arc_count most_arcs && behind (slice_index_or d.arcs (d.arc_count - 1) no_arc) a)

abbrev pub room : ChainReader → Bool
room d = nat_lt d.arc_count most_arcs

abbrev pub with_arc : ChainReader → Arc → ChainReader
with_arc d a = record { stage = d.stage; head = d.head; opened = d.opened; parts = d.parts; arc_count = d.arc_count + 1; arcs = slice_set d.arcs d.arc_count a }

-- from, to and cents
abbrev pub arc_by : ℕ → Option (List ℕ) → Option Arc
arc_by most None = None
arc_by most (Some ns) = cond (nat_le (slice_index ns 0) most && nat_le (slice_index ns 1) most) (Some (record { from = slice_index ns 0; to = slice_index ns 1; cents = slice_index ns 2 })) None

abbrev pub arc_of : List ℕ → ℕ → Option Arc
arc_of v most = arc_by most (list_of v most_charge 3)

abbrev pub add_arc : ChainReader → Option Arc → Step
add_arc d None = Err OutOfRange
add_arc d (Some a) = cond (room d && (straight a && rising d a)) (Ok (with_arc d a)) (Err WrongArc)

abbrev pub arc_step : ChainReader → List ℕ → Step
arc_step d v = add_arc d (arc_of v d.head.count)

abbrev pub end_step : ChainReader → List ℕ → Step
end_step d v = word_step d v (codes "plant") stage.Done

-- a line that takes a step: the reader goes on, or is refused and stays as it was
abbrev pub Took : {U : Type 0} → Step → ChainReader → ChainReader → Result U Rule → Type 0
Took (Ok d) old new (Ok u) = new ≡ d
Took (Ok d) old new (Err e) = ⊥
Took (Err x) old new (Ok u) = ⊥
Took (Err x) old new (Err e) = (e ≡ x) × (new ≡ old)

abbrev pub same_key : Key → Key → Bool
same_key a b = bytes_eq (name_of a) (name_of b)

-- a line with the key that is due
abbrev pub due : Key → Key → Step → Step
due wanted came next = cond (same_key came wanted) next (Err Unexpected)

-- what is due and what came, together
abbrev pub step_at : Stage → ChainReader → Key → List ℕ → Step
step_at stage.Kind d k v = due key.Kind k (kind_step d v)
step_at stage.Parts d k v = due key.Parts k (parts_step d v)
step_at stage.Threshold d k v = due key.Threshold k (threshold_step d v)
step_at stage.Setup d k v = due key.Setup k (setup_step d v)
step_at stage.Alarm d k v = due key.Alarm k (alarm_step d v)
step_at stage.Part d k v = due key.Part k (part_step d v)
step_at stage.Life d k v = due key.Life k (life_step d v)
step_at stage.Hazard d k v = due key.Hazard k (hazard_step d v)
step_at stage.Surplus d k v = due key.Surplus k (surplus_step d v)
step_at stage.Dark d k v = due key.Dark k (dark_step d v)
step_at stage.Arc d k v = cond (same_key k key.Arc) (arc_step d v) (due key.End k (end_step d v))
step_at stage.Done d k v = Err Unexpected

abbrev pub chain_step : ChainReader → Key → List ℕ → Step
chain_step d k v = step_at d.stage d k v
