use Rattle.std.proofs.Common.{◌≡◌, map, take}
use Rattle.nc_partial.specs.inner.Entries.{entry_of}
use Rattle.nc_partial.proofs.entry.entries_of.Given as goal

abbrev pub invariant-loop-node : goal.invariant-loop-node
invariant-loop-node l =
    l.entries.items ≡ map (entry_of (record { id = l.id; session = l.session; nodes = l.nodes })) (take l.node-index l.nodes)
