use Rattle.nc_filter.proofs.ShortLemmas.{selected_alike}
use Rattle.nc_filter.proofs.short.shortened.Goals as goal

pub returns : goal.returns
returns c = selected_alike c.args.schema.now c.longest-most.ensures c.args.filter.now c.in_ok-short_elem.field-0 c.in_ok-short_elem.ensures.parts
