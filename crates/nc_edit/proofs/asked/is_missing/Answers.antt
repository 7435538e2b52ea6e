use Rattle.std.proofs.Common.{◌∙◌, ap}
use Rattle.nc_schema.specs.Blocks.{row_at}
use Rattle.nc_changes.proofs.FoundLemmas.{missing_found}
use Rattle.nc_edit.proofs.asked.is_missing.Goals as goal

pub returns : goal.returns
returns c = λ all found.
    missing_found all c.args.row.now c.get.result c.is_none.result c.is_none.ensures (c.get.ensures all found ∙ ap (row_at all) c.as_slice.ensures)
