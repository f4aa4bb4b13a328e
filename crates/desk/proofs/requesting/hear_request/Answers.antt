use Rattle.std.proofs.Common.{rules, ◌≡◌, ◌++◌, true, false, nat_eq, ◌∙◌}
use Rattle.std.specs.List.{starts_with}
use Rattle.desk.specs.Requests.{last_key}
use Rattle.desk.proofs.RequestLaws.{over, ended_by, goes_on}
use Rattle.desk.proofs.requesting.hear_request.Goals.{in-Some+in_ok-extend_from_slice+then-starts_with, in_default}
use Rattle.desk.proofs.requesting.hear_request.Goals as goal

pub loop-line-preserved : goal.loop-line-preserved
loop-line-preserved g c =
    let line = c.in-Some.line.items in
    let whole : c.extend_from_slice.new.self.items ≡ c.loop-line.text.items ++ line = search rules in
    let more : starts_with nat_eq line last_key ≡ false = search rules in
    record {
      so_far = goes_on line c.loop-line.invariant.so_far c.in-Some.ensures.heard whole more;
      said = c.in-Some.ensures.said ∙ c.loop-line.invariant.said;
    }

pub returns-clause-text : goal.returns-clause-text
returns-clause-text g c =
    let so_far = c.loop-line.invariant.so_far in
    elim c.match-hear.branch [
      | in-Some+in_ok-extend_from_slice+then-starts_with w ↦
          (
          let line = w.in-Some.line.items in
          let whole : w.extend_from_slice.new.self.items ≡ c.loop-line.text.items ++ line = search rules in
          let last : starts_with nat_eq line last_key ≡ true = search rules in
          rw w.text-is (ended_by line so_far w.in-Some.ensures.heard whole last)
          )
      | in_default w ↦ rw w.text-is (over so_far w.in_default.ensures.heard w.in_default.ensures.ended)
    ]
