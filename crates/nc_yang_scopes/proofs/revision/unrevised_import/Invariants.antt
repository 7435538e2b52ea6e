use Rattle.std.proofs.Common.{◌≡◌, drop}
use Rattle.std.specs.List.{flat_map}
use Rattle.nc_yang_scopes.specs.Revisions.{unrevised_date, unrevised_import}
use Rattle.nc_yang_scopes.proofs.revision.unrevised_import.Given as goal

abbrev pub invariant-loop-below : goal.invariant-loop-below
invariant-loop-below l =
    unrevised_import l.scopes.texts l.fn.number l.import ≡ flat_map (unrevised_date l.scopes.texts l.fn.number l.text) (drop l.below-index l.below-items)
