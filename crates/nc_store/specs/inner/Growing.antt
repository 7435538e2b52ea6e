-- How far the file of a journal grows by a record.
use Rattle.std.specs.Prelude.{ℕ, ◌+◌, List, length}
use Rattle.nc_journal.specs.Growing.{HasGrown, free_place, start_after}
use Rattle.nc_journal.specs.Journal.{gate_of, start_of}
use Rattle.nc_journal.specs.declared.journal.Journal.{Journal}
use Rattle.nc_journal.specs.declared.kept.Kept.{Kept}
use Rattle.nc_store.specs.declared.ready.Way.{Way}
use Rattle.nc_store.specs.declared.ready.Way.TheVariants.{Append, Replace}

-- the live area stays where it is, and the record stands after it; or an area that goes where there is room, and takes
-- its place once it is kept
abbrev pub GrowsBy : {D : Type 0} (may_leave : D → List ℕ → Type 0) → Way → Kept → (old new : Journal D) → Type 0
GrowsBy may_leave (Append framed) result old new =
    HasGrown may_leave old new (start_of old) (gate_of old + 1 + length framed)
GrowsBy may_leave (Replace area) result old new =
    HasGrown may_leave old new
    (start_after result (start_of old) (free_place (start_of old) (gate_of old) (length area)))
    (free_place (start_of old) (gate_of old) (length area) + length area)
