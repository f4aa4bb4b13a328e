use Rattle.std.proofs.Common.{Some, sym, refl, ap, ◌∙◌}
use Rattle.std.specs.Option.{option_map}
use Rattle.std.proofs.lemmas.List.{map-set, length-map, length-set}
use Rattle.plantext.specs.Progress.{after_row}
use Rattle.plantext.specs.Reading.{unread}
use Rattle.plantext.specs.Values.{entry_rows}
use Rattle.plantext.proofs.reading.Reader.take_row.Goals as goal

pub returns : goal.returns
returns g c =
    let row = g.T.Tariff.row in
    let entry = c.in_ok-entry.entry in
    let said = sym c.read_entry.ensures ∙ ap (option_map (entry_rows row)) c.in_ok-entry.ensures.ok_part in (
      ap unread said,
      record {
        portfolio = entry.portfolio;
        value = row entry.value;
        said = said;
        next = ap Some (c.row_after.ensures ∙ ap (λ n. after_row n c.args.state) (length-set c.args.values.now c.args.state entry.value ∙ sym (length-map c.args.values.now row)));
        states = refl;
        values = map-set row c.args.values.now c.args.state entry.value;
        policy = refl;
        low = refl;
        high = refl;
      },
    )
