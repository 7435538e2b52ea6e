-- Those so far, and those of the rest.
use Rattle.std.proofs.Common.{◌≡◌, ◌++◌, drop}
use Rattle.std.specs.List.{filter}
use Rattle.nc_yang_types.specs.inner.Known.{has_text}
use Rattle.nc_yang_types.proofs.choice.texts_in.Given as goal

abbrev pub invariant-loop-text : goal.invariant-loop-text
invariant-loop-text l = l.kept ++ filter (has_text l.names) (drop l.text-index l.taken) ≡ filter (has_text l.names) l.taken
