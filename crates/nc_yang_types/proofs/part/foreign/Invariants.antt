use Rattle.std.proofs.Common.{◌≡◌, drop}
use Rattle.nc_yang_types.specs.Parts.{foreign}
use Rattle.nc_yang_types.proofs.part.foreign.Given as goal

abbrev pub invariant-loop-part : goal.invariant-loop-part
invariant-loop-part l = foreign l.built_in l.below ≡ foreign l.built_in (drop l.part-index l.below)
