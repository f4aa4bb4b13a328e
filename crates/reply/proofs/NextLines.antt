-- From line to line behind the plant of a request.
use Rattle.std.proofs.Common.{◌≡◌, ℕ, ◌+◌, List, ◌++◌, Ok, Err, codes, Result, refl, ap, ◌∙◌, subst, arith}
use Rattle.std.proofs.lemmas.List.{append-nil}
use Rattle.interface.specs.Plants.{Model}
use Rattle.lines.specs.Line.{Said, pair, fault, line_at, rest_at, taken}
use Rattle.reading.specs.Written.{number_line}
use Rattle.reading.specs.declared.keys.Key.TheVariants.{Sweeps}
use Rattle.reading.specs.declared.rules.ReadRefusal.{ReadRefusal}
use Rattle.reading.specs.declared.rules.Rule.{Rule}
use Rattle.request.specs.declared.sweeps.SweepsLine.{SweepsLine}
use Rattle.request.specs.declared.tariff.TariffChoice.{TariffChoice}
use Rattle.request.specs.Requests.{value_due, after, at_line, on_line, tariff_of, sweeps_of, read_tariff, read_sweeps, read_end}
use Rattle.request.specs.Writing.{tariff_line, ReadsTariff, ReadsSweeps, ReadsEnd}
use Rattle.reply.specs.Laws.{Tail}
use Rattle.reply.specs.Replies.{Reply, AtEnd, AtSweeps, AtTariff, BehindPlant}

-- a line that was put to use was taken from the text
used : {A : Type 0} (key : List ℕ) (f : List ℕ → Result A Rule) (n : ℕ) (a : A) (s : Said) → Ok a ≡ at_line n (after (value_due key s) f) → taken s ≡ 1
used key f n a (pair k v) e = refl
used key f n a (fault m) e = let z : ◌≡◌ {A = ℕ} 0 1 = cc in absurd (omega arith)

placed : (n : ℕ) (s : SweepsLine) (r : Result ℕ ReadRefusal) → Ok s ≡ on_line n r → (k : ℕ) × (Ok k ≡ r)
placed n s (Ok k) e = (k, refl)
placed n s (Err x) e = let z : ◌≡◌ {A = ℕ} 0 1 = cc in absurd (omega arith)

module _ (m : Model) (text : List ℕ) (place : ℕ) (c : TariffChoice) (read : Ok c ≡ read_tariff text place) (rest : List ℕ) (line : ℕ) (left : rest ≡ rest_at text) (count : line ≡ place + taken (line_at text)) (reply : Reply) where
  next : line ≡ place + 1
  next = count ∙ ap (λ k. place + k) (used (codes "tariff") tariff_of (place + 1) c (line_at text) read)

  -- the sweeps line is next
  pub at_sweeps : (q : Result SweepsLine ReadRefusal) → q ≡ read_sweeps rest line → AtSweeps m c (rest_at rest) (line + 1) q reply → BehindPlant m text place reply
  at_sweeps q e h =
      let there : AtSweeps m c (rest_at rest) (line + 1) (read_sweeps rest line) reply = subst (λ a. AtSweeps m c (rest_at rest) (line + 1) a reply) e h in
      let here : AtSweeps m c (rest_at (rest_at text)) (place + 1 + 1) (read_sweeps (rest_at text) (place + 1)) reply = subst (λ t. AtSweeps m c (rest_at t) (place + 1 + 1) (read_sweeps t (place + 1)) reply) left (subst (λ n. AtSweeps m c (rest_at rest) (n + 1) (read_sweeps rest n) reply) next there) in
      subst (λ a. AtTariff m (rest_at text) (place + 1) a reply) read here

  -- and then the end
  pub at_end : (s : SweepsLine) → Ok s ≡ read_sweeps rest line → (rest' : List ℕ) (line' : ℕ) → rest' ≡ rest_at rest → line' ≡ line + taken (line_at rest) → (q : Result (Unit {0}) ReadRefusal) → q ≡ read_end rest' line' → AtEnd m c s q reply → BehindPlant m text place reply
  at_end s swept rest' line' left' count' q e h =
      let k = placed (line + 1) s (at_line (line + 1) (after (value_due (codes "sweeps") (line_at rest)) sweeps_of)) swept in
      let next' : line' ≡ line + 1 = count' ∙ ap (λ k. line + k) (used (codes "sweeps") sweeps_of (line + 1) k.0 (line_at rest) k.1) in
      let ends : read_end rest' line' ≡ read_end (rest_at rest) (line + 1) = ap (λ t. read_end t line') left' ∙ ap (read_end (rest_at rest)) next' in
      at_sweeps (Ok s) swept (subst (λ a. AtEnd m c s a reply) (e ∙ ends) h)

-- what followed the plant
pub tail : (text rest rest' : List ℕ) (c : TariffChoice) (s : SweepsLine) → ReadsTariff text (Ok c) rest → ReadsSweeps rest (Ok s.count) rest' → ReadsEnd rest' (Ok tt) → Tail text
tail text rest rest' c s first second last =
    let t = (first c rest).0 (refl, refl) in
    let n = (second s.count rest').0 (refl, refl) in
    record {
      tariff = c;
      sweeps = s.count;
      whole = t.0 ∙ ap (λ l. tariff_line c ++ l) (n.0 ∙ ap (λ l. number_line Sweeps s.count ++ l) (last.0 refl) ∙ append-nil (number_line Sweeps s.count));
      rate = t.1;
      few = n.1;
    }
