use Rattle.std.proofs.Common.{◌≡◌, rules, sym, ap, ◌∙◌, unwrap_or}
use borrow.Author.Tests.{tests}
use Rattle.std.specs.Str.{bytes_eq}
use Rattle.std.proofs.lemmas.Iterator.{YieldsList-from_slice}
use Rattle.std.proofs.lemmas.Iterator.Consumers.{YieldsList-from_copied}
use Rattle.std.proofs.lemmas.Iterator.Adapters.{option_map_id}
use Rattle.std.proofs.lemmas.Iterator.Search.{find_from_yields_List}
use Rattle.reading.specs.Keys.{name_of, key_of, named_keys}
use Rattle.reading.specs.declared.keys.Key.TheVariants.{Other}
use Rattle.reading.proofs.KeyLaws.{first_found, key_law}
use Rattle.reading.proofs.keys.KeyFromRefSliceU8.from.Goals as goal

pub returns : goal.returns
returns c =
    let found = find_from_yields_List (λ k. bytes_eq c.args.name.now (name_of k)) _ _ c.find.result c.find.ensures.ran (YieldsList-from_copied (YieldsList-from_slice named_keys (ap (λ z. z.rest.now) c.copied.ensures.source ∙ c.iter.ensures.rest))) (λ x b q k. search (rules, tests)) in
    let same : c.unwrap_or.result ≡ key_of c.args.name.now = c.unwrap_or.ensures ∙ ap (λ o. unwrap_or o Other) (sym (option_map_id c.find.result) ∙ found) ∙ first_found c.args.name.now named_keys in
    record { value = same; law = key_law _ _ same }
