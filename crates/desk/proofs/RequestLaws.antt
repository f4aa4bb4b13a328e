-- The lines of a request, one by one.
use Rattle.std.proofs.Common.{◌≡◌, ℕ, Bool, true, false, List, [], ◌∷◌, ◌++◌, nat_eq, ap, ◌∙◌, inl, inr}
use Rattle.std.specs.List.{starts_with}
use Rattle.desk.specs.Requests.{last_key, NoneLast, Ends, HeardText, HeardSoFar}

none_more : (lines : List (List ℕ)) (ended : Bool) → NoneLast lines → ended ≡ true → Ends lines ended
none_more [] ended h e = e
none_more (l ∷ ls) ended h e = (h.1, inr e)

-- no line more is heard
pub over : {old new new' : List (List ℕ)} {ended : Bool} {text : List ℕ} → HeardSoFar old new text → new' ≡ new → ended ≡ true → HeardText old new' ended text
over {ended = ended} h same e = record { lines = h.lines; heard = same ∙ h.heard; ends = none_more h.lines ended h.none_last e; whole = h.whole }

-- a line more is heard, and ends the request
pub ended_by : {old new new' : List (List ℕ)} {ended : Bool} {text text' : List ℕ} (line : List ℕ) → HeardSoFar old new text → new' ≡ line ∷ new → text' ≡ text ++ line → starts_with nat_eq line last_key ≡ true → HeardText old new' ended text'
ended_by line h heard whole last = record {
  lines = line ∷ h.lines;
  heard = heard ∙ ap (λ ls. line ∷ ls) h.heard;
  ends = (h.none_last, inl last);
  whole = whole ∙ ap (λ t. t ++ line) h.whole;
}

-- a line more is heard, and the request goes on
pub goes_on : {old new new' : List (List ℕ)} {text text' : List ℕ} (line : List ℕ) → HeardSoFar old new text → new' ≡ line ∷ new → text' ≡ text ++ line → starts_with nat_eq line last_key ≡ false → HeardSoFar old new' text'
goes_on line h heard whole more = record {
  lines = line ∷ h.lines;
  heard = heard ∙ ap (λ ls. line ∷ ls) h.heard;
  none_last = (more, h.none_last);
  whole = whole ∙ ap (λ t. t ++ line) h.whole;
}
