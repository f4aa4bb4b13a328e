-- The text of a lawful plan is read without a fault, and no other plan has it.
use Rattle.std.proofs.Common.{◌≡◌, ℕ, zero, suc, ◌+◌, ◌*◌, ◌^◌, ◌<◌, ◌≤◌, true, cond, ◌&&◌, ◌⊎◌, List, [], ◌∷◌, ◌++◌, map, length, get_or, Some, None, Ok, Err, codes, decimal, Option, Result, sym, refl, ap, ◌∙◌, subst, inl, inr, ⊎_elim, arith}
use lib.Signed.{mag}
use Rattle.std.specs.List.{range_with_len, AllByRecursion}
use Rattle.std.specs.Fmt.{signed_decimal}
use Rattle.std.proofs.ByRecursion.{All-append}
use Rattle.std.proofs.lemmas.Slice.Eq.{bytes_eq-Decides}
use Rattle.std.proofs.lemmas.List.{append_assoc, length-append, length-map, ext_get_or}
use Rattle.std.proofs.lemmas.Bool.{eq-eqb, and_from, cond-true, cases_lt}
use Rattle.interface.specs.Limits.{most_states, most_places}
use Rattle.interface.specs.Rows.{Row as Amounts}
use Rattle.interface.specs.declared.claims.Claims.{Claims}
use Rattle.lines.specs.Fields.{comma, joined, fields}
use Rattle.lines.specs.Line.{equals_sign, line_end, Said, pair, line_at, rest_at, Printable, Begins}
use Rattle.lines.proofs.DigitLaws.{signed_printable, decimal_printable}
use Rattle.lines.proofs.LineLaws.{line_begins, begins_line, begins_rest}
use Rattle.plantext.specs.declared.refusal.PlanRefusal.{PlanRefusal}
use Rattle.plantext.specs.declared.refusal.PlanRefusal.TheVariants.{AtLine, WrongLength}
use Rattle.plantext.specs.declared.stage.Stage.{Stage}
use Rattle.plantext.specs.declared.stage.Stage.TheVariants.{States, Low, High, Row, End}
use Rattle.plantext.specs.declared.values.StateEntry.{StateEntry}
use Rattle.plantext.specs.Answers.{Tables, plan_of, PlanAnswer, GivesBack}
use Rattle.plantext.specs.Lines.{Plan, Held, Lawful, Inside, line, amount, stage_line, stages, concat, plan_text}
use Rattle.plantext.specs.Reading.{key_of, unread, value_fault, line_fault, stages_behind, at_line, first_fault, states_said, refusal}
use Rattle.plantext.specs.Values.{count_of, amount_of, entry_of, is}
use Rattle.plantext.proofs.Puts.{number_short, signed_short}
use Rattle.plantext.proofs.ValueLaws.{amount_read, count_forth, entry_forth, entry_fields}

-- the fields of a line's value
abbrev value_fields : Plan → Stage → List (List ℕ)
value_fields p States = decimal (length p.values) ∷ []
value_fields p Low = map signed_decimal p.low
value_fields p High = map signed_decimal p.high
value_fields p (Row s) = decimal s ∷ (decimal (get_or p.policy s 0) ∷ map signed_decimal (get_or p.values s []))
value_fields p End = codes "plan" ∷ []

abbrev value_text : Plan → Stage → List ℕ
value_text p d = joined (value_fields p d)

as_line : (p : Plan) (d : Stage) → stage_line p d ≡ line (key_of d) (value_text p d)
as_line p States = refl
as_line p Low = refl
as_line p High = refl
as_line p (Row s) = refl
as_line p End = refl

-- a field that can stand in a line
record Fine (f : List ℕ) : Type 0 where
  bytes : AllByRecursion Printable f
  short : length f ≤ 20

fine_number : (n : ℕ) → n < 2 ^ 64 → Fine (decimal n)
fine_number n small = record { bytes = decimal_printable n small; short = number_short n small }

fine_places : (u : Amounts) → AllByRecursion (λ z. mag z < 2 ^ 63) u → AllByRecursion Fine (map signed_decimal u)
fine_places [] h = tt
fine_places (z ∷ u) h = (record { bytes = signed_printable z h.0; short = signed_short z h.0 }, fine_places u h.1)

fine_joined : (fs : List (List ℕ)) → AllByRecursion Fine fs → AllByRecursion Printable (joined fs)
fine_joined [] h = tt
fine_joined (f ∷ []) h = h.0.bytes
fine_joined (f ∷ (g ∷ fs)) h = All-append Printable f (comma ∷ joined (g ∷ fs)) h.0.bytes ((omega arith, omega arith), fine_joined (g ∷ fs) h.1)

short_joined : (fs : List (List ℕ)) → AllByRecursion Fine fs → length (joined fs) ≤ 21 * length fs
short_joined [] h = omega arith
short_joined (f ∷ []) h = omega (arith, h.0.short)
short_joined (f ∷ (g ∷ fs)) h = omega (arith, h.0.short, length-append f (comma ∷ joined (g ∷ fs)), short_joined (g ∷ fs) h.1)

-- a line with the key of a stage and no value
plain : (d : Stage) → Begins (line (key_of d) []) (key_of d) [] []
plain States = line_begins (line (codes "states") []) (codes "states") [] refl
plain Low = line_begins (line (codes "low") []) (codes "low") [] refl
plain High = line_begins (line (codes "high") []) (codes "high") [] refl
plain (Row s) = line_begins (line (codes "row") []) (codes "row") [] refl
plain End = line_begins (line (codes "end") []) (codes "end") [] refl

key_short : (d : Stage) → length (key_of d) ≤ 6
key_short States = omega arith
key_short Low = omega arith
key_short High = omega arith
key_short (Row s) = omega arith
key_short End = omega arith

begins : (d : Stage) (fs : List (List ℕ)) (rest : List ℕ) → AllByRecursion Fine fs → length fs ≤ 6 → Begins (line (key_of d) (joined fs) ++ rest) (key_of d) (joined fs) rest
begins d fs rest fine few =
    let k = plain d in
    record {
      whole = append_assoc (key_of d) (equals_sign ∷ (joined fs ++ (line_end ∷ []))) rest ∙ ap (λ t. key_of d ++ (equals_sign ∷ t)) (append_assoc (joined fs) (line_end ∷ []) rest);
      named = k.named;
      first = k.first;
      key = k.key;
      value = fine_joined fs fine;
      short = omega (arith, key_short d, short_joined fs fine);
    }

rows_inside : (a k n : ℕ) → a + k ≤ n → AllByRecursion (Inside n) (map Row (range_with_len a k) ++ (End ∷ []))
rows_inside a zero n h = (tt, tt)
rows_inside a (suc k) n h = (omega arith, rows_inside (a + 1) k n (omega arith))

first_or_later : (a s : ℕ) → a ≤ s → (a ≡ s) ⊎ (a < s)
first_or_later a s l = ⊎_elim (λ less. inr less) (λ most. inl (omega arith)) (cases_lt a s)

-- what holds of all those stages holds of the row of each state
row_among : (P : Stage → Type 0) (a k : ℕ) → AllByRecursion P (map Row (range_with_len a k) ++ (End ∷ [])) → (s : ℕ) → a ≤ s → s < a + k → P (Row s)
row_among P a zero h s l m = absurd (omega arith)
row_among P a (suc k) h s l m = ⊎_elim (λ e. subst (λ n. P (Row n)) e h.0) (λ less. row_among P (a + 1) k h.1 s (omega arith) (omega arith)) (first_or_later a s l)

module _ (places : ℕ) (some : 0 < places) (few : places ≤ most_places) where
  module _ (p : Plan) (h : Lawful places p) where
    fine_value : (d : Stage) → Inside (length p.values) d → AllByRecursion Fine (value_fields p d) × (length (value_fields p d) ≤ 6)
    fine_value States i = ((fine_number (length p.values) (omega (arith, h.few)), tt), omega arith)
    fine_value Low i = (fine_places p.low h.low.each, omega (arith, length-map p.low signed_decimal, h.low.long))
    fine_value High i = (fine_places p.high h.high.each, omega (arith, length-map p.high signed_decimal, h.high.long))
    fine_value (Row s) i =
        let r = h.rows s i in (
          (fine_number s (omega (arith, h.few)), (fine_number (get_or p.policy s 0) (omega (arith, r.1)), fine_places (get_or p.values s []) r.0.each)),
          omega (arith, length-map (get_or p.values s []) signed_decimal, r.0.long),
        )
    fine_value End i = ((record { bytes = (line_begins (line (codes "plan") []) (codes "plan") [] refl).key; short = omega arith }, tt), omega arith)

    -- what is read of a line of the plan
    line_said : (d : Stage) (rest : List ℕ) → Inside (length p.values) d → (line_at (stage_line p d ++ rest) ≡ pair (key_of d) (value_text p d)) × (rest_at (stage_line p d ++ rest) ≡ rest)
    line_said d rest i =
        let v = fine_value d i in
        let b = begins d (value_fields p d) rest v.0 v.1 in
        let is = ap (λ t. t ++ rest) (as_line p d) in
        (ap line_at is ∙ begins_line _ (key_of d) (value_text p d) rest b, ap rest_at is ∙ begins_rest _ (key_of d) (value_text p d) rest b)

    entry_said : (s : ℕ) → s < length p.values → entry_of places s (fields (value_text p (Row s))) ≡ Some (record { portfolio = get_or p.policy s 0; value = get_or p.values s [] })
    entry_said s i =
        let r = h.rows s i in
        let low : s ≤ most_states = omega (arith, h.few) in
        ap (entry_of places s) (entry_fields places s (get_or p.policy s 0) (get_or p.values s []) low r.1 r.0) ∙ entry_forth places s (get_or p.policy s 0) (get_or p.values s []) low r.1 r.0

    value_good : (d : Stage) → Inside (length p.values) d → value_fault places d (value_text p d) ≡ None
    value_good States i = ap unread (count_forth (length p.values) h.some h.few)
    value_good Low i = ap unread (amount_read places p.low some h.low)
    value_good High i = ap unread (amount_read places p.high some h.high)
    value_good (Row s) i = ap unread (entry_said s i)
    value_good End i = refl

    line_good : (d : Stage) (rest : List ℕ) → Inside (length p.values) d → line_fault places (Some d) (line_at (stage_line p d ++ rest)) ≡ None
    line_good d rest i = ap (line_fault places (Some d)) (line_said d rest i).0 ∙ cond-true _ _ _ ((bytes_eq-Decides (key_of d) (key_of d)).1 refl) ∙ value_good d i

    lines_good : (dues : List Stage) (j : ℕ) → AllByRecursion (Inside (length p.values)) dues → first_fault places dues j (concat (map (stage_line p) dues)) ≡ None
    lines_good [] j i = refl
    lines_good (d ∷ ds) j i =
        ap (λ f. at_line j f (first_fault places ds (j + 1) (rest_at (concat (map (stage_line p) (d ∷ ds)))))) (line_good d (concat (map (stage_line p) ds)) i.0)
        ∙ ap (first_fault places ds (j + 1)) (line_said d (concat (map (stage_line p) ds)) i.0).1 ∙ lines_good ds (j + 1) i.1

    -- the text of a lawful plan is refused for nothing
    pub accepted : (n m : ℕ) → length p.values ≡ n → length p.policy ≡ m → refusal places n m (plan_text p) ≡ None
    accepted n m values policy =
        let rest : List ℕ = concat (map (stage_line p) (stages_behind (length p.values))) in
        let said = line_said States rest tt in
        let count = count_forth (length p.values) h.some h.few in
        let judged : Said → Option PlanRefusal = λ s. at_line 1 (line_fault places (Some States) s) (cond (is n (states_said s) && is m (states_said s)) (first_fault places (stages_behind n) 2 (rest_at (stage_line p States ++ rest))) (Some WrongLength)) in
        let both : (is n (count_of (decimal (length p.values))) && is m (count_of (decimal (length p.values)))) ≡ true = and_from _ _ (ap (is n) count ∙ eq-eqb _ _ values) (ap (is m) count ∙ eq-eqb _ _ (sym h.level ∙ policy)) in
        ap judged said.0
        ∙ ap (λ f. at_line 1 f (cond (is n (count_of (decimal (length p.values))) && is m (count_of (decimal (length p.values)))) (first_fault places (stages_behind n) 2 (rest_at (stage_line p States ++ rest))) (Some WrongLength))) (value_good States tt)
        ∙ cond-true _ _ _ both
        ∙ ap (first_fault places (stages_behind n) 2) said.1
        ∙ ap (λ k. first_fault places (stages_behind k) 2 rest) (sym values)
        ∙ lines_good (stages_behind (length p.values)) 2 (tt, (tt, rows_inside 0 (length p.values) (length p.values) (omega arith)))

  -- two lawful plans with the same text
  module _ (p q : Plan) (h : Lawful places p) (k : Lawful places q) (same : length p.values ≡ length q.values) where
    head_same : (a b : Said) (x v w : List ℕ) → a ≡ b → a ≡ pair x v → b ≡ pair x w → v ≡ w
    head_same a b x v w e f g = cc

    inside_too : (d : Stage) → Inside (length p.values) d → Inside (length q.values) d
    inside_too d i = subst (λ n. Inside n d) same i

    values_same : (dues : List Stage) → AllByRecursion (Inside (length p.values)) dues → concat (map (stage_line p) dues) ≡ concat (map (stage_line q) dues) → AllByRecursion (λ d. value_text p d ≡ value_text q d) dues
    values_same [] i e = tt
    values_same (d ∷ ds) i e =
        let a = line_said p h d (concat (map (stage_line p) ds)) i.0 in
        let b = line_said q k d (concat (map (stage_line q) ds)) (inside_too d i.0) in
        (head_same _ _ (key_of d) _ _ (ap line_at e) a.0 b.0, values_same ds i.1 (sym a.1 ∙ ap rest_at e ∙ b.1))

    amount_same : (u w : Amounts) → Held places u → Held places w → amount u ≡ amount w → u ≡ w
    amount_same u w a b e = let one : Some u ≡ Some w = sym (amount_read places u some a) ∙ ap (λ t. amount_of places (fields t)) e ∙ amount_read places w some b in cc

    entry_same : (s : ℕ) → s < length p.values → value_text p (Row s) ≡ value_text q (Row s) → (get_or p.policy s 0 ≡ get_or q.policy s 0) × (get_or p.values s [] ≡ get_or q.values s [])
    entry_same s i e =
        let one = sym (entry_said p h s i) ∙ ap (λ t. entry_of places s (fields t)) e ∙ entry_said q k s (inside_too (Row s) i) in
        let two : record { portfolio = get_or p.policy s 0; value = get_or p.values s [] } ≡ record { portfolio = get_or q.policy s 0; value = get_or q.values s [] } = cc in
        (ap (λ (z : StateEntry Amounts). z.portfolio) two, ap (λ (z : StateEntry Amounts). z.value) two)

    pub same_plan : plan_text p ≡ plan_text q → p ≡ q
    same_plan e =
        let n : ℕ = length p.values in
        let all = values_same (stages n) (tt, (tt, (tt, rows_inside 0 n n (omega arith)))) (e ∙ ap (λ m. concat (map (stage_line q) (stages m))) (sym same)) in
        let row : (s : ℕ) → s < n → (get_or p.policy s 0 ≡ get_or q.policy s 0) × (get_or p.values s [] ≡ get_or q.values s []) = λ s l. entry_same s l (row_among (λ d. value_text p d ≡ value_text q d) 0 n all.1.1.1 s (omega arith) (omega arith)) in
        let low = amount_same p.low q.low h.low k.low all.1.0 in
        let high = amount_same p.high q.high h.high k.high all.1.1.0 in
        let values = ext_get_or [] p.values q.values same (λ s l. (row s l).1) in
        let policy = ext_get_or 0 p.policy q.policy (h.level ∙ same ∙ sym k.level) (λ s l. (row s (omega (arith, h.level))).0) in
        λ i. record { values = values i; policy = policy i; low = low i; high = high i }

  -- what the reading answers for the text of a lawful plan
  pub gives_back : {A : Type 0} (row : A → Amounts) (text : List ℕ) (t t' : Tables A) (r : Result (Claims A) PlanRefusal) → length t'.values ≡ length t.values → PlanAnswer row places text t t' r → GivesBack row places text t t' r
  gives_back row text t t' (Ok c) long h q lawful values policy is =
      same_plan (plan_of row t' c) q h.1.lawful lawful (length-map t'.values row ∙ long ∙ sym values) (sym h.1.text_is ∙ is)
  gives_back row text t t' (Err (AtLine f line)) long h q lawful values policy is =
      let none = ap (refusal places (length t.values) (length t.policy)) is ∙ accepted q lawful _ _ values policy in
      let some = h.0 in
      let z : ◌≡◌ {A = ℕ} 0 1 = cc in
      omega arith
  gives_back row text t t' (Err WrongLength) long h q lawful values policy is =
      let none = ap (refusal places (length t.values) (length t.policy)) is ∙ accepted q lawful _ _ values policy in
      let some = h.0 in
      let z : ◌≡◌ {A = ℕ} 0 1 = cc in
      omega arith
