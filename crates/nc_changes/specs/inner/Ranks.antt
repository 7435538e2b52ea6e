-- What stood and stands directly before entries, found once for each list.
use Rattle.std.specs.Prelude.{◌≡◌, ℕ, List, Some, None, if◌then◌else◌, IfSome, map, option_map}
use Rattle.std.proofs.Common.{Bor}
use Rattle.std.specs.BTreeMap.{get}
use Rattle.std.specs.declared.cmp.Ordering.{Ordering}
use Rattle.std.specs.Cmp.Lexicographic.{slice_cmp}
use Rattle.std.specs.List.{last_or}
use Rattle.std.specs.Option.{option_copied}
use Rattle.nc_names.specs.contracts.path.StepOrd.TheImpl.{ghosts}
use Rattle.nc_names.specs.declared.path.Row.{Row}
use Rattle.nc_names.specs.declared.path.Step.{Step}
use Rattle.nc_schema.specs.Standing.{entries, has_entry}
use Rattle.nc_protocol.specs.Changes.{entries_among, entry_above}
use Rattle.nc_changes.specs.declared.ranks.Above.{Above}
use Rattle.nc_changes.specs.declared.ranks.Moves.{Moves}
use Rattle.nc_changes.specs.declared.ranks.Ranks.{Ranks}
use Rattle.nc_changes.specs.inner.Entries.{order}

-- the keys to which references lead
abbrev pub keys_of : List (Bor (List (List ℕ))) → List (List (List ℕ))
keys_of found = map (λ keys. keys.now) found

-- the entry before each of these is found, and the last of them is known
abbrev pub HasAbove : Above → List (List (List ℕ)) → Type 0
HasAbove above entries =
    ((keys : Bor (List (List ℕ))) → option_map option_copied (get order above.table keys)
    ≡ (if has_entry keys.now entries then Some (entry_above keys.now entries) else None))
    × (option_copied above.last ≡ last_or None entries)

-- of the entries that both have, those before each in either order are found
abbrev pub AreMoves : Moves → List (List (List ℕ)) → List (List (List ℕ)) → Type 0
AreMoves moves old new = HasAbove moves.before (entries_among new old) × HasAbove moves.after (entries_among old new)

-- steps are ordered by their nodes, then by their keys
abbrev pub steps_order : Bor (List Step) → Bor (List Step) → Ordering
steps_order steps others = slice_cmp ghosts.cmp steps.now others.now

-- each list that is found has its moves
abbrev pub AreRanks : List Row → List Row → Ranks → Type 0
AreRanks old new ranks = (above : Bor (List Step)) → IfSome (get steps_order ranks.table above)
    (λ listed. AreMoves listed.moves (entries old above.now listed.number) (entries new above.now listed.number))
