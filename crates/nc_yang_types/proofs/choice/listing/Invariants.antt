-- The names so far, and those that are left.
use Rattle.std.proofs.Common.{◌≡◌, ◌++◌, drop}
use Rattle.std.specs.List.{flat_map}
use Rattle.nc_yang_types.specs.Members.{listing, named_by, numbered}
use Rattle.nc_yang_types.proofs.choice.listing.Given as goal

abbrev pub invariant-loop-statement : goal.invariant-loop-statement
invariant-loop-statement l =
    listing l.listed l.below ≡ l.names ++ flat_map named_by (numbered l.listed l.high (drop l.statement-index l.below))
