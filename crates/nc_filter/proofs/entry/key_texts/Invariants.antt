use Rattle.std.proofs.Common.{map, take}
use Rattle.nc_filter.specs.inner.Entries.{AskForAll}
use Rattle.nc_filter.proofs.entry.key_texts.Given as goal

abbrev pub invariant-loop-key : goal.invariant-loop-key
invariant-loop-key l = AskForAll l.schema (map (λ elem. elem.now) l.level) l.list (take l.key-index l.keys) l.texts
