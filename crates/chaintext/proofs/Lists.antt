-- Lists of numbers with zeros behind them, as they are read: the hazards of a part, and the three numbers of an arc.
use Rattle.std.proofs.Common.{◌≡◌, ℕ, ◌-◌, leb, cond, List, ◌++◌, replicate, Some, None, Option, refl, ap, ◌∙◌, append-nil, arith}
use Rattle.std.specs.Option.{option_map}
use Rattle.chain.specs.Limits.{most_charge, most_life, most_hazard}
use Rattle.reading.proofs.ValueLaws.{list_law}
use Rattle.reading.specs.Values.{list_of, padded as padded_to, padded_list}
use Rattle.chaintext.specs.Steps.{padded, hazards_of}

pub hazards_read : (v : List ℕ) (life : ℕ) → padded_list most_life v most_hazard life ≡ hazards_of v life
hazards_read v life = ap (λ o. cond (leb life most_life) o None) (by_case (list_of v most_hazard life) refl)
  where
    by_case : (o : Option (List ℕ)) → list_of v most_hazard life ≡ o → option_map (padded_to most_life) o ≡ padded life o
    by_case None e = refl
    by_case (Some hs) e = let law = (list_law v most_hazard life (omega arith) hs).0 e in ap (λ m. Some (hs ++ replicate (most_life - m) 0)) law.2

pub three_read : (v : List ℕ) → padded_list 3 v most_charge 3 ≡ list_of v most_charge 3
three_read v = by_case (list_of v most_charge 3) refl
  where
    by_case : (o : Option (List ℕ)) → list_of v most_charge 3 ≡ o → option_map (padded_to 3) o ≡ o
    by_case None e = refl
    by_case (Some ns) e = let law = (list_law v most_charge 3 (omega arith) ns).0 e in ap (λ m. Some (ns ++ replicate (3 - m) 0)) law.2 ∙ ap Some (append-nil ns)
