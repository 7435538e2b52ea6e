use Rattle.std.proofs.Common.{◌≡◌}
use Rattle.std.specs.Prelude.{map}
use Rattle.nc_protocol.specs.Filter.{level_of}
use Rattle.nc_filter.specs.inner.Front.{LeadBy}
use Rattle.nc_filter.proofs.front.lead.Given as goal

abbrev pub invariant-loop-at : goal.invariant-loop-at
invariant-loop-at l =
    LeadBy l.filter (map (λ elem. elem.now) l.elems) l.end × (map (λ elem. elem.now) l.level ≡ level_of l.end)
