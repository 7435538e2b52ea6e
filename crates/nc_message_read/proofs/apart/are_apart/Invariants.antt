use Rattle.std.proofs.Common.{◌≡◌, List, [], drop}
use Rattle.std.specs.List.{list_any}
use Rattle.nc_names.specs.Same.{is_same_name}
use Rattle.nc_names.specs.declared.name.QName.{QName}
use Rattle.nc_message.specs.Resolved.{differ_from}
use Rattle.nc_message_read.specs.inner.Marks.{AreFound}
use Rattle.nc_message_read.specs.inner.Sets.{has_name}
use Rattle.nc_message_read.proofs.apart.are_apart.Given as goal

-- the set has the names so far
abbrev pub invariant-loop-attr : goal.invariant-loop-attr
invariant-loop-attr l =
    (before : List QName) × ((name : QName) → has_name l.marked l.names name ≡ list_any (is_same_name name) before)
    × (differ_from [] l.attrs ≡ differ_from before (drop l.attr-index l.attrs))
    × AreFound l.marked (drop l.attr-index l.attrs)
