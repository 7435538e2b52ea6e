-- The index beside the list of partial locks.
use Rattle.std.specs.Prelude.{◌≡◌, ◌≤◌, ◌<◌, ℕ, Bool, List}
use Rattle.std.specs.List.{All, AllPairs, list_any}
use Rattle.nc_model.specs.State.{NodeLock}
use Rattle.nc_partial.specs.declared.entry.Entry.{Entry}
use Rattle.nc_partial.specs.inner.Entries.{IsAscending, all_entries}

-- the lock-ids rise up to the last; the index has the nodes of the locks, in the order of their steps
pub record IsIndexed (locks : List NodeLock) (last : ℕ) (index : List Entry) : Type 0 where
  pub rise : AllPairs (λ lock later. lock.id < later.id) locks
  pub given : All (λ lock. lock.id ≤ last) locks
  pub order : IsAscending index
  pub holds : (test : Entry → Bool) → list_any test index ≡ list_any test (all_entries locks)
