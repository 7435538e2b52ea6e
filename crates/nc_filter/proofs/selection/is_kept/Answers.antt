use Rattle.std.proofs.Common.{◌∙◌}
use Rattle.nc_filter.proofs.KeptLemmas.{kept_is}
use Rattle.nc_filter.proofs.selection.is_kept.Goals as goal

pub returns : goal.returns
returns c = λ rows are. c.is_either.ensures
    ∙ kept_is c.args.schema.now c.args.row.now rows c.as_slice-steps.result.now c.above_last.result.now
    c.has-stands_above.result c.is_key_of_entry-is_key.result c.has-is_of_entry.result
    c.as_slice-steps.ensures c.above_last.ensures (c.has-stands_above.ensures rows are) c.is_key_of_entry-is_key.ensures (c.has-is_of_entry.ensures rows are)
