use Rattle.std.proofs.Common.{◌∙◌, ap}
use Rattle.std.specs.Prelude.{map}
use Rattle.std.specs.List.{list_any}
use Rattle.nc_names.specs.Same.{is_at_or_below}
use Rattle.nc_protocol.specs.Filter.{chosen}
use Rattle.nc_filter.proofs.selection.selected_rows.Goals as goal

pub returns : goal.returns
returns c =
    c.in_ok-out.ensures (chosen c.args.schema.now c.args.filter.now (map (λ row. row.now) c.args.rows.now))
    (λ key. c.in_ok-places.ensures key ∙ ap (λ rows. list_any (λ row. is_at_or_below key.now row.path) (map (λ row. row.now) rows)) c.as_slice.ensures
    ∙ c.in_ok-found.ensures c.in_ok-index.ensures (λ row. is_at_or_below key.now row.path))
