use Rattle.std.proofs.Common.{◌≡◌, drop}
use Rattle.std.specs.List.{list_any}
use Rattle.nc_filter.specs.inner.Tables.{has_text}
use Rattle.nc_filter.proofs.asked.has_one.Given as goal

abbrev pub invariant-loop-label : goal.invariant-loop-label
invariant-loop-label l = list_any (has_text l.names) (drop l.label-index l.labels) ≡ list_any (has_text l.names) l.labels
