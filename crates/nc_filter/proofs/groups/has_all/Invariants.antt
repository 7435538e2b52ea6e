use Rattle.std.proofs.Common.{◌≡◌, drop, not}
use Rattle.std.specs.List.{list_any}
use Rattle.nc_filter.specs.inner.Tables.{has_text}
use Rattle.nc_filter.proofs.groups.has_all.Given as goal

abbrev pub invariant-loop-key : goal.invariant-loop-key
invariant-loop-key l =
    list_any (λ key. not (has_text l.set key)) (drop l.key-index l.keys) ≡ list_any (λ key. not (has_text l.set key)) l.keys
