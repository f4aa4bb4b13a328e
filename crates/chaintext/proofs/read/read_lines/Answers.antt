use Rattle.std.proofs.Common.{◌≡◌, ◌+◌, Ok, Err, sym, ap, ◌∙◌, rules}
use Rattle.lines.specs.Line.{said, line_at, taken}
use Rattle.chaintext.specs.declared.reader.Stage.TheVariants as stage
use Rattle.chaintext.specs.Reads.{line_step}
use Rattle.chaintext.proofs.Reading.{took_err, took_ok, refused_here, further, complete_here}
use Rattle.chaintext.proofs.read.read_lines.Goals as goal
use Rattle.chaintext.proofs.read.read_lines.Goals.{In_default}

-- a line that is taken is a step of what is read
step : (c : goal.In_default) → line_step c.loop-rule.reader (line_at c.loop-rule.lines.rest.now) ≡ Ok c.take_line.new.self
step c =
    let d = c.loop-rule.reader in
    let said_at : said c.next_line-read.result.line ≡ line_at c.loop-rule.lines.rest.now = c.next_line-read.ensures.line in
    sym (ap (line_step d) said_at) ∙ took_ok (line_step d (said c.next_line-read.result.line)) d c.take_line.new.self c.take_line.result c.in_default.not-Err c.take_line.ensures

pub returns-in-Err : goal.returns-in-Err
returns-in-Err c =
    let d = c.loop-rule.reader in
    let text = c.loop-rule.lines.rest.now in
    let place = c.loop-rule.lines.place in
    let read = c.next_line-read.ensures in
    let line : said c.next_line-read.result.line ≡ line_at text = read.line in
    let err = took_err (line_step d (said c.next_line-read.result.line)) d c.take_line.new.self c.take_line.result c.in-Err.rule c.in-Err.is c.take_line.ensures in
    let steps : line_step d (line_at text) ≡ Err c.in-Err.rule = sym (ap (line_step d) line) ∙ err in
    c.loop-rule.invariant.1 _ (refused_here d text place c.loop-rule.invariant.0 _ _ read.rest (read.count ∙ ap (λ l. place + taken l) line) c.in-Err.rule _ read.place steps)

pub returns-then-eq : goal.returns-then-eq
returns-then-eq c =
    let d = c.loop-rule.reader in
    let text = c.loop-rule.lines.rest.now in
    let place = c.loop-rule.lines.place in
    let read = c.next_line-read.ensures in
    let line : said c.next_line-read.result.line ≡ line_at text = read.line in
    let next = c.take_line.new.self in
    let done : next.stage ≡ stage.Done = search rules in
    let last = complete_here d text place c.loop-rule.invariant.0 _ _ read.rest (read.count ∙ ap (λ l. place + taken l) line) next (step (goal.at.returns-then-eq c).In_default) done in
    (c.loop-rule.invariant.1 _ last.0, read.place ∙ last.1)

pub loop-rule-preserved : goal.loop-rule-preserved
loop-rule-preserved c =
    let d = c.loop-rule.reader in
    let text = c.loop-rule.lines.rest.now in
    let place = c.loop-rule.lines.place in
    let read = c.next_line-read.ensures in
    let line : said c.next_line-read.result.line ≡ line_at text = read.line in
    let next = c.take_line.new.self in
    let on : next.stage ≡ stage.Done → ⊥ = search rules in (
      on,
      λ o reads. c.loop-rule.invariant.1 o (further d text place c.loop-rule.invariant.0 _ _ read.rest (read.count ∙ ap (λ l. place + taken l) line) next o (step (goal.at.loop-rule-preserved c).In_default) reads),
    )
