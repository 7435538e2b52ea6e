use Rattle.std.proofs.Common.{◌≡◌, ℕ, List, take}
use Rattle.nc_filter.specs.inner.Keys.{among}
use Rattle.nc_filter.specs.inner.Tables.{has_text}
use Rattle.nc_filter.proofs.runs.key_set.Given as goal

abbrev pub invariant-loop-key : goal.invariant-loop-key
invariant-loop-key l = (wanted : List ℕ) → has_text l.set wanted ≡ among (take l.key-index l.keys) wanted
