use Rattle.std.proofs.Common.{◌≡◌, [], drop, take}
use Rattle.nc_filter.specs.inner.Entries.{AreClear}
use Rattle.nc_filter.proofs.entry.are_clear.Given as goal

abbrev pub invariant-loop-text : goal.invariant-loop-text
invariant-loop-text l =
    (l.at ≡ l.text-index)
    × (AreClear l.listed.schema.now l.listed.config.now l.listed.above.now l.listed.list (take l.text-index l.texts) (drop l.text-index l.texts) →
    AreClear l.listed.schema.now l.listed.config.now l.listed.above.now l.listed.list [] l.texts)
