use Rattle.std.proofs.Common.{◌≡◌, ℕ, ◌+◌, List, Ok, Err, rules, sym, ap, ◌∙◌}
use Rattle.lines.specs.Line.{said, rest_at, taken}
use Rattle.pairtext.specs.declared.reader.PairReader.{PairReader}
use Rattle.pairtext.specs.Steps.{line_step}
use Rattle.pairtext.specs.Texts.{Reading, refused_at, numbers_read, judged, read_pair, answered}
use Rattle.pairtext.proofs.PairTextLaw.{pair_text_law}
use Rattle.pairtext.proofs.SampleLaws.{sample_read}
use Rattle.pairtext.proofs.Soundness.{line_sound}
use Rattle.pairtext.proofs.TextLaws.{error_mapped, mapped_from, at_line, step_refused, step_made, goes_refused, goes_closed, goes_on, Goes, goes_at}
use Rattle.pairtext.proofs.text.read_pair.Goals as goal

pub returns-in_err-map_err : goal.returns-in_err-map_err
returns-in_err-map_err c =
    let text : List ℕ = c.loop-reader.lines.rest.now in
    let place : ℕ = c.loop-reader.lines.place in
    let read = c.next_line-read.ensures in
    let line : ℕ = c.next_line-read.result.place in
    let mapped = mapped_from (at_line line) _ c.step.result c.map_err.result c.map_err.ensures.cases (λ rule z p. search (rules, p)) in
    let step = step_refused _ line c.in_err-map_err.field-0.0 (sym c.in_err-map_err.was ∙ mapped ∙ ap (error_mapped (at_line line)) c.step.ensures.answer) in
    let g : read_pair c.args.lines.now.rest.now c.args.lines.now.place ≡ record { answer = refused_at step.0 (place + 1); rest = rest_at text; place = place + taken (said c.next_line-read.result.line) } = goes_refused c.loop-reader.reader text place _ (said c.next_line-read.result.line) read.line step.0 step.1.0 c.loop-reader.invariant.1 in
    let out : c.from_residual.result ≡ Err c.in_err-map_err.field-0.0 = search rules in
    let answer = ap answered out ∙ ap Err step.1.1 ∙ ap (refused_at step.0) read.place ∙ sym (ap (λ (z : Reading). z.answer) g) in
    let rest = read.rest ∙ sym (ap (λ (z : Reading). z.rest) g) in
    record {
      answer = answer;
      rest = rest;
      place = read.count ∙ sym (ap (λ (z : Reading). z.place) g);
      law = pair_text_law c.args.lines.now.rest.now c.args.lines.now.place c.from_residual.result c.next_line-read.new.self.rest.now answer rest;
      sample = sample_read;
    }

pub close-requires : goal.close-requires
close-requires c =
    let line : ℕ = c.next_line-read.result.place in
    let mapped = mapped_from (at_line line) _ c.step.result c.map_err.result c.map_err.ensures.cases (λ rule z p. search (rules, p)) in
    let step = step_made _ c.loop-reader.reader c.step.new.self line _ (sym c.in_ok-map_err.was ∙ mapped ∙ ap (error_mapped (at_line line)) c.step.ensures.answer) c.step.ensures.after in
    (line_sound c.loop-reader.reader c.step.new.self (said c.next_line-read.result.line) c.loop-reader.invariant.0 step, sym c.if-is_complete.ensures)

pub returns-then-is_complete : goal.returns-then-is_complete
returns-then-is_complete c =
    let line : ℕ = c.next_line-read.result.place in
    let mapped = mapped_from (at_line line) _ c.step.result c.map_err.result c.map_err.ensures.cases (λ rule z p. search (rules, p)) in
    let text : List ℕ = c.loop-reader.lines.rest.now in
    let place : ℕ = c.loop-reader.lines.place in
    let next : PairReader = c.step.new.self in
    let read = c.next_line-read.ensures in
    let step : line_step c.loop-reader.reader (said c.next_line-read.result.line) ≡ Ok next = step_made _ c.loop-reader.reader next line _ (sym c.in_ok-map_err.was ∙ mapped ∙ ap (error_mapped (at_line line)) c.step.ensures.answer) c.step.ensures.after in
    let g : read_pair c.args.lines.now.rest.now c.args.lines.now.place ≡ record { answer = judged (numbers_read next) (place + 1); rest = rest_at text; place = place + taken (said c.next_line-read.result.line) } = goes_closed c.loop-reader.reader text place _ (said c.next_line-read.result.line) read.line next step (sym c.if-is_complete.ensures) c.loop-reader.invariant.1 in
    let answer = c.close.ensures ∙ ap (judged (numbers_read next)) read.place ∙ sym (ap (λ (z : Reading). z.answer) g) in
    let rest = read.rest ∙ sym (ap (λ (z : Reading). z.rest) g) in
    record {
      answer = answer;
      rest = rest;
      place = read.count ∙ sym (ap (λ (z : Reading). z.place) g);
      law = pair_text_law c.args.lines.now.rest.now c.args.lines.now.place c.close.result c.next_line-read.new.self.rest.now answer rest;
      sample = sample_read;
    }

pub loop-reader-preserved : goal.loop-reader-preserved
loop-reader-preserved c =
    let line : ℕ = c.next_line-read.result.place in
    let mapped = mapped_from (at_line line) _ c.step.result c.map_err.result c.map_err.ensures.cases (λ rule z p. search (rules, p)) in
    let text : List ℕ = c.loop-reader.lines.rest.now in
    let place : ℕ = c.loop-reader.lines.place in
    let next : PairReader = c.step.new.self in
    let read = c.next_line-read.ensures in
    let step : line_step c.loop-reader.reader (said c.next_line-read.result.line) ≡ Ok next = step_made _ c.loop-reader.reader next line _ (sym c.in_ok-map_err.was ∙ mapped ∙ ap (error_mapped (at_line line)) c.step.ensures.answer) c.step.ensures.after in
    let g : Goes next (rest_at text) (place + taken (said c.next_line-read.result.line)) (read_pair c.args.lines.now.rest.now c.args.lines.now.place) = goes_on c.loop-reader.reader text place _ (said c.next_line-read.result.line) read.line next step (sym c.if-is_complete.ensures) c.loop-reader.invariant.1 in (
      line_sound c.loop-reader.reader next (said c.next_line-read.result.line) c.loop-reader.invariant.0 step,
      goes_at next (rest_at text) _ _ _ _ (sym read.rest) (sym read.count) g,
    )
