use Rattle.std.proofs.Common.{◌≡◌, None, map}
use Rattle.nc_message.specs.declared.tree.Elem.{Elem}
use Rattle.nc_protocol.specs.Filter.{level_of}
use Rattle.nc_filter.specs.inner.Entries.{LeadIn}
use Rattle.nc_filter.specs.inner.Front.{LeadBy}
use Rattle.nc_filter.proofs.entry.aimed.Given as goal

abbrev pub invariant-loop-at : goal.invariant-loop-at
invariant-loop-at l =
    (end : Elem) × LeadBy l.filter (map (λ elem. elem.now) l.elems) end × (map (λ elem. elem.now) l.level ≡ level_of end)
    × LeadIn l.schema None (map (λ elem. elem.now) l.elems) l.above l.parent
