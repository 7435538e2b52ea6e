-- The nodes of all partial locks, in the order of their steps.
use Rattle.std.specs.Prelude.{◌≡◌, ◌==◌, ◌&&◌, ◌||◌, ℕ, Bool, true, not, if◌then◌else◌, List, length, map, nat_lt}
use Rattle.std.specs.Cmp.Lexicographic.{slice_cmp}
use Rattle.std.specs.List.{flat_map, list_any, starts_with}
use Rattle.std.specs.List.Sorted.{IsSortedBy}
use Rattle.std.specs.Ordering.{is_lt}
use Rattle.std.specs.declared.cmp.Ordering.{Ordering}
use Rattle.nc_names.specs.Same.{is_same_path, is_same_step}
use Rattle.nc_names.specs.contracts.path.StepOrd.TheImpl.{ghosts}
use Rattle.nc_names.specs.declared.path.Path.{Path}
use Rattle.nc_names.specs.declared.path.Step.{Step}
use Rattle.nc_model.specs.State.{NodeLock}
use Rattle.nc_partial.specs.declared.entry.Covered.{Covered}
use Rattle.nc_partial.specs.declared.entry.Entry.{Entry}

-- the entry of a node of a lock
abbrev pub entry_of : NodeLock → Path → Entry
entry_of lock node = record { steps = node.steps; id = lock.id; session = lock.session }

-- the entries of a lock
abbrev pub entries_of : NodeLock → List Entry
entries_of lock = map (entry_of lock) lock.nodes

-- the entries of locks
abbrev pub all_entries : List NodeLock → List Entry
all_entries locks = flat_map entries_of locks

-- the lock of an entry
abbrev pub covered : Entry → Covered
covered entry = record { lock = entry.id; session = entry.session }

-- the order of steps: by nodes, then by keys
abbrev pub steps_cmp : List Step → List Step → Ordering
steps_cmp steps others = slice_cmp ghosts.cmp steps others

-- no entry stands after one whose steps come later
abbrev pub IsAscending : List Entry → Type 0
IsAscending index = IsSortedBy (λ entry other. is_lt (steps_cmp entry.steps other.steps)) index

-- the steps of an entry come before others
abbrev pub is_before : List Step → Entry → Bool
is_before steps entry = is_lt (steps_cmp entry.steps steps)

-- its node is that of these steps, or, where `below`, that or one below it
abbrev pub is_at : Bool → List Step → Entry → Bool
is_at below steps entry =
    if below then starts_with is_same_step entry.steps steps else is_same_path entry.steps steps

-- its node is that of these steps or above it
abbrev pub is_above : List Step → Entry → Bool
is_above steps entry = starts_with is_same_step steps entry.steps

-- so it is, and there are fewer steps to it than that
abbrev pub above_to : ℕ → List Step → Entry → Bool
above_to most steps entry = is_above steps entry && nat_lt (length entry.steps) most

-- its node is the other one, above it or below it
abbrev pub shares : Path → Entry → Bool
shares node entry = is_above node.steps entry || is_at true node.steps entry

-- it is so with one of the nodes
abbrev pub shares_some : List Path → Entry → Bool
shares_some nodes entry = list_any (λ node. shares node entry) nodes

-- it passes a test and is of another session
abbrev pub of_others : ℕ → (Entry → Bool) → Entry → Bool
of_others session test entry = not (entry.session == session) && test entry

-- what one list holds and the other, the third holds
abbrev pub Adds : (more old new : List Entry) → Type 0
Adds more old new = (test : Entry → Bool) → list_any test new ≡ (list_any test old || list_any test more)
