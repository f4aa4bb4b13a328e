-- Why a line of a plan is not written, and why a text is no plan, with number and place.
use Rattle.std.specs.Prelude.{ℕ}
use Rattle.plantext.specs.declared.refusal.Fault.{Fault}
use Rattle.plantext.specs.declared.refusal.Fault.TheVariants.{BadLine, NotDue, OutOfForm}
use Rattle.plantext.specs.declared.refusal.LineRefusal.{LineRefusal}
use Rattle.plantext.specs.declared.refusal.LineRefusal.TheVariants.{WrongLength, NoSpace}
use Rattle.plantext.specs.declared.refusal.PlanRefusal.{PlanRefusal}
use Rattle.plantext.specs.declared.refusal.PlanRefusal.TheVariants.{AtLine, WrongLength as OtherLength}

abbrev pub line_number : LineRefusal → ℕ
line_number WrongLength = 7
line_number NoSpace = 12

abbrev pub line_place : LineRefusal → ℕ
line_place WrongLength = 0
line_place NoSpace = 0

abbrev pub fault_number : Fault → ℕ
fault_number BadLine = 1
fault_number NotDue = 2
fault_number OutOfForm = 3

abbrev pub plan_number : PlanRefusal → ℕ
plan_number (AtLine f line) = fault_number f
plan_number OtherLength = 7

-- the line, from 1; 0 for a length
abbrev pub plan_place : PlanRefusal → ℕ
plan_place (AtLine f line) = line
plan_place OtherLength = 0
