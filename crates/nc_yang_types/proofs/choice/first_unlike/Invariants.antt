-- The faults that are left.
use Rattle.std.proofs.Common.{◌≡◌, List, drop}
use Rattle.std.specs.List.{flat_map}
use Rattle.nc_yang_statements.specs.Rules.{first}
use Rattle.nc_yang_types.specs.declared.member.Named.{Named}
use Rattle.nc_yang_types.specs.Members.{ill_choice}
use Rattle.nc_yang_types.specs.inner.Known.{HasListing}
use Rattle.nc_yang_types.proofs.choice.first_unlike.Given as goal

abbrev pub invariant-loop-statement : goal.invariant-loop-statement
invariant-loop-statement l =
    (names : List Named) → HasListing l.numbers names →
    first (flat_map (ill_choice l.listed names) l.below) ≡ first (flat_map (ill_choice l.listed names) (drop l.statement-index l.below))
