-- The names so far, and those that are left.
use Rattle.std.proofs.Common.{◌≡◌, ◌++◌, length}
use Rattle.std.specs.Prelude.{map}
use Rattle.nc_yang_types.proofs.listed.names_in_order.Given as goal

abbrev pub invariant-loop-name : goal.invariant-loop-name
invariant-loop-name l = map (λ entry. entry.1) l.fn.bits.entries ≡ l.names ++ map (λ entry. entry.1) l.left.entries

abbrev pub decreases-loop-name : goal.decreases-loop-name
decreases-loop-name l = length l.left.entries
