-- The bytes of a line, one by one.
use Rattle.std.proofs.Common.{◌≡◌, ◌≢◌, ℕ, Option, List, [], ◌∷◌, ◌++◌, refl, sym, ap, ◌∙◌, inr}
use Rattle.std.proofs.ByRecursion.{All-append}
use Rattle.std.proofs.KnownBytes.{Consumes-trans}
use Rattle.std.specs.Io.KnownBytes.{Consumes}
use Rattle.lines.specs.Line.{line_end}
use Rattle.desk.specs.Streams.{kept, kept_of, ReadsLine, ReadsSoFar}

kept_of-append : (line bs : List ℕ) (b : ℕ) → kept_of line (bs ++ b ∷ []) ≡ kept (kept_of line bs) b
kept_of-append line [] b = refl
kept_of-append line (x ∷ xs) b = kept_of-append (kept line x) xs b

kept_more : (line line' bs : List ℕ) (b : ℕ) → line ≡ kept_of [] bs → line' ≡ kept line b → line' ≡ kept_of [] (bs ++ b ∷ [])
kept_more line line' bs b is more = more ∙ ap (λ l. kept l b) is ∙ sym (kept_of-append [] bs b)

-- a byte more, which is no line end
pub goes_on : (stream rest rest' : Option (List ℕ)) (line line' : List ℕ) (b : ℕ) → ReadsSoFar stream rest line → Consumes rest rest' (b ∷ []) → line' ≡ kept line b → b ≢ line_end → ReadsSoFar stream rest' line'
goes_on stream rest rest' line line' b h more is other = record {
  bytes = h.bytes ++ b ∷ [];
  consumed = Consumes-trans stream rest rest' h.bytes (b ∷ []) h.consumed more;
  none = All-append (λ x. x ≢ line_end) h.bytes (b ∷ []) h.none (other, tt);
  kept_all = kept_more line line' h.bytes b h.kept_all is;
}

-- the line end
pub ends : (stream rest rest' : Option (List ℕ)) (line line' : List ℕ) (b : ℕ) → ReadsSoFar stream rest line → Consumes rest rest' (b ∷ []) → line' ≡ kept line b → b ≡ line_end → ReadsLine stream line'
ends stream rest rest' line line' b h more is last = record {
  bytes = h.bytes ++ b ∷ [];
  rest = rest';
  consumed = Consumes-trans stream rest rest' h.bytes (b ∷ []) h.consumed more;
  one = inr (h.bytes, h.none, ap (λ x. h.bytes ++ x ∷ []) last);
  kept_all = kept_more line line' h.bytes b h.kept_all is;
}
