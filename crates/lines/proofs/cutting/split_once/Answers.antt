use Rattle.std.proofs.Common.{◌≡◌, ◌≢◌, rules, None, Some, sym, ap, ◌∙◌}
use borrow.Author.Tests.{tests}
use Rattle.std.proofs.lemmas.Iterator.{YieldsList-from_slice, IsFirst-from_position}
use Rattle.lines.specs.Cuts.{parts, cut_at, FoundFirst}
use Rattle.lines.proofs.CutLaws.{cut_none, cut_found, found_from, free_places, parts_here}
use Rattle.lines.proofs.cutting.split_once.Goals as goal

pub returns-in_err-i : goal.returns-in_err-i
returns-in_err-i c =
    let first : FoundFirst c.args.sep c.args.text.now None = found_from _ _ None (IsFirst-from_position _ _ None (λ x. x ≡ c.args.sep) (λ x. x ≢ c.args.sep) c.in_err-i.ensures.ran (YieldsList-from_slice c.args.text.now c.iter.ensures.rest) (λ x q k. search (rules, tests)) (λ x q k. search (rules, tests))) in
    let same : parts c.from_residual.result ≡ cut_at c.args.sep c.args.text.now = ap parts c.from_residual.ensures ∙ sym (cut_none c.args.sep c.args.text.now (free_places c.args.sep c.args.text.now first)) in
    record { value = same; law = cut_found c.args.sep c.args.text.now _ same }

pub returns : goal.returns
returns c =
    let first : FoundFirst c.args.sep c.args.text.now (Some c.in_ok-i.i) = found_from _ _ (Some c.in_ok-i.i) (IsFirst-from_position _ _ (Some c.in_ok-i.i) (λ x. x ≡ c.args.sep) (λ x. x ≢ c.args.sep) c.in_ok-i.ensures.ran (YieldsList-from_slice c.args.text.now c.iter.ensures.rest) (λ x q k. search (rules, tests)) (λ x q k. search (rules, tests))) in
    let same = parts_here c.args.sep c.args.text.now c.in_ok-i.i first in
    record { value = same; law = cut_found c.args.sep c.args.text.now _ same }
