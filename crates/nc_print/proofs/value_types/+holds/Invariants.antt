use Rattle.std.proofs.Common.{◌≡◌, ◌*◌, ◌+◌, drop}
use Rattle.std.specs.List.{list_any}
use Rattle.nc_protocol.specs.ModuleNames as names
use Rattle.nc_print.proofs.value_types.+holds.Given as goal

abbrev pub decreases-any_holds : goal.decreases-any_holds
decreases-any_holds l = 2 * l.most + 1

abbrev pub decreases-holds_names : goal.decreases-holds_names
decreases-holds_names l = 2 * l.most

abbrev pub decreases-target_holds : goal.decreases-target_holds
decreases-target_holds l = 2 * l.most + 1

abbrev pub invariant-any_holds-loop-member : goal.invariant-any_holds-loop-member
invariant-any_holds-loop-member l =
    list_any (names.holds_names l.schema l.most) l.members ≡ list_any (names.holds_names l.schema l.most) (drop l.member-index l.members)
