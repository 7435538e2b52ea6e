-- The entry directly before each of an order, with one entry more.
use Rattle.std.proofs.Common.{◌≡◌, ◌&&◌, ◌||◌, ◌+◌, ◌<◌, ℕ, length, get_or, take, subst, Bool, true, false, cond, not, List, [], ◌∷◌, ◌++◌, Option, Some, None, refl, sym, ap, ◌∙◌, Bor}
use Rattle.std.specs.Prelude.{IfSome, is_some, option_map}
use Rattle.std.specs.List.{last_or}
use Rattle.std.specs.Option.{option_copied, option_map_or}
use Rattle.std.specs.BTreeMap.{BTreeMap, get}
use Rattle.std.specs.BTreeSet.{BTreeSet, contains}
use Rattle.std.specs.Ordering.{is_eq}
use Rattle.std.proofs.lemmas.List.{take_more}
use Rattle.std.proofs.lemmas.List.Folds.{list_any-append}
use Rattle.nc_names.proofs.SameLemmas.{keys_decide}
use Rattle.nc_names.proofs.StepOrder.{order_ties, same_path}
use Rattle.nc_names.specs.Same.{is_same_keys, is_same_path}
use Rattle.nc_names.specs.declared.path.Row.{Row}
use Rattle.nc_names.specs.declared.path.Step.{Step}
use Rattle.nc_schema.specs.Blocks.{above_from, above_last}
use Rattle.nc_schema.specs.Standing.{entries, has_entry, is_by_user}
use Rattle.nc_schema.specs.Tables.{Tables}
use Rattle.nc_protocol.specs.Changes.{entries_among, entry_above, has_moved, is_same_entry, moves_between}
use Rattle.nc_changes.specs.inner.Entries.{HasEntries, entry_from, order}
use Rattle.nc_changes.specs.inner.Ranks.{AreMoves, AreRanks, HasAbove, keys_of, steps_order}
use Rattle.nc_changes.specs.declared.ranks.Above.{Above}
use Rattle.nc_changes.specs.declared.ranks.Listed.{Listed}
use Rattle.nc_changes.specs.declared.ranks.Ranks.{Ranks}
use Rattle.nc_changes.proofs.EntryLemmas.{entry_is}
use Rattle.nc_changes.proofs.KnownLemmas.{ties}

-- the last of some entries and one more
last_push : (before : Option (List (List ℕ))) (entries : List (List (List ℕ))) (entry : List (List ℕ)) → last_or before (entries ++ entry ∷ []) ≡ Some entry
last_push before [] entry = refl
last_push before (first ∷ entries) entry = last_push (Some first) entries entry

-- the entry before one, with one entry more
from_push : (keys : List (List ℕ)) (before : Option (List (List ℕ))) (entries : List (List (List ℕ))) (entry : List (List ℕ)) →
    entry_from keys before (entries ++ entry ∷ [])
    ≡ cond (has_entry keys entries) (entry_from keys before entries) (cond (is_same_keys entry keys) (last_or before entries) (Some entry))
from_push keys before [] entry = refl
from_push keys before (first ∷ entries) entry = by (is_same_keys first keys) (from_push keys (Some first) entries entry)
  where
    by : (b : Bool) →
        entry_from keys (Some first) (entries ++ entry ∷ [])
        ≡ cond (has_entry keys entries) (entry_from keys (Some first) entries) (cond (is_same_keys entry keys) (last_or (Some first) entries) (Some entry)) →
        cond b before (entry_from keys (Some first) (entries ++ entry ∷ []))
        ≡ cond (b || has_entry keys entries) (cond b before (entry_from keys (Some first) entries))
        (cond (is_same_keys entry keys) (last_or (Some first) entries) (Some entry))
    by true more = refl
    by false more = more

-- the entry before one that is not in the order is the last
from_unlisted : (keys : List (List ℕ)) (before : Option (List (List ℕ))) (entries : List (List (List ℕ))) → has_entry keys entries ≡ false →
    entry_from keys before entries ≡ last_or before entries
from_unlisted keys before [] none = refl
from_unlisted keys before (first ∷ entries) none = by (is_same_keys first keys) none (from_unlisted keys (Some first) entries)
  where
    by : (b : Bool) → (b || has_entry keys entries) ≡ false → (has_entry keys entries ≡ false → entry_from keys (Some first) entries ≡ last_or (Some first) entries) →
        cond b before (entry_from keys (Some first) entries) ≡ last_or (Some first) entries
    by true e more = absurd (cc)
    by false e more = more e

above_push : (keys : List (List ℕ)) (entries : List (List (List ℕ))) (entry : List (List ℕ)) →
    entry_above keys (entries ++ entry ∷ [])
    ≡ cond (has_entry keys entries) (entry_above keys entries) (cond (is_same_keys entry keys) (last_or None entries) (Some entry))
above_push keys entries entry =
    sym (entry_is keys (entries ++ entry ∷ [])) ∙ from_push keys None entries entry
    ∙ ap (λ above. cond (has_entry keys entries) above (cond (is_same_keys entry keys) (last_or None entries) (Some entry))) (entry_is keys entries)

pub above_unlisted : (keys : List (List ℕ)) (entries : List (List (List ℕ))) → has_entry keys entries ≡ false → last_or None entries ≡ entry_above keys entries
above_unlisted keys entries none = sym (from_unlisted keys None entries none) ∙ entry_is keys entries

has_push : (keys : List (List ℕ)) (entries : List (List (List ℕ))) (entry : List (List ℕ)) →
    has_entry keys (entries ++ entry ∷ []) ≡ (has_entry keys entries || (is_same_keys entry keys || false))
has_push keys entries entry = list_any-append (λ one. is_same_keys one keys) entries (entry ∷ [])

-- what is found for an entry, where it is in an order or not
abbrev found_in : Bool → Option (List (List ℕ)) → Option (Option (List (List ℕ)))
found_in has above = cond has (Some above) None

found_push : (keys : List (List ℕ)) (entries : List (List (List ℕ))) (entry : List (List ℕ)) →
    found_in (has_entry keys (entries ++ entry ∷ [])) (entry_above keys (entries ++ entry ∷ []))
    ≡ found_in (has_entry keys entries || (is_same_keys entry keys || false))
    (cond (has_entry keys entries) (entry_above keys entries) (cond (is_same_keys entry keys) (last_or None entries) (Some entry)))
found_push keys entries entry = (λ i. found_in (has_push keys entries entry i) (above_push keys entries entry i))

found_kept : (h : Bool) (above : Option (List (List ℕ))) (entry : List (List ℕ)) → found_in h above ≡ found_in (h || (false || false)) (cond h above (Some entry))
found_kept true above entry = refl
found_kept false above entry = refl

same_keys_are : (keys others : List (List ℕ)) → is_same_keys keys others ≡ true → keys ≡ others
same_keys_are keys others e = (keys_decide keys others).0 e

none_found : (has : Bool) (above : Option (List (List ℕ))) → None ≡ found_in has above → has ≡ false
none_found true above e = absurd (cc e)
none_found false above e = refl

is_found : (has : Bool) (above : Option (List (List ℕ))) → is_some (found_in has above) ≡ has
is_found true above = refl
is_found false above = refl

some_mapped : (found : Option (Option (Bor (List (List ℕ))))) → is_some found ≡ is_some (option_map option_copied found)
some_mapped None = refl
some_mapped (Some above) = refl

module _ (above : Above) (entry : Bor (List (List ℕ))) (entries : List (List (List ℕ))) where
  here : HasAbove above entries → (keys : Bor (List (List ℕ))) → has_entry keys.now entries ≡ is_some (get order above.table keys)
  here known keys =
      sym (is_found (has_entry keys.now entries) (entry_above keys.now entries)) ∙ ap is_some (sym (known.0 keys)) ∙ sym (some_mapped (get order above.table keys))

  pub known_above : HasAbove above entries → is_some (get order above.table entry) ≡ true →
      HasAbove (record { table = above.table; last = Some entry }) (entries ++ entry.now ∷ [])
  known_above known stands = (
    λ keys. known.0 keys ∙ by keys (has_entry keys.now entries) (is_same_keys entry.now keys.now) refl refl ∙ sym (found_push keys.now entries entry.now),
    sym (last_push None entries entry.now),
  )
    where
      by : (keys : Bor (List (List ℕ))) (h b : Bool) → has_entry keys.now entries ≡ h → is_same_keys entry.now keys.now ≡ b →
          found_in h (entry_above keys.now entries) ≡ found_in (h || (b || false)) (cond h (entry_above keys.now entries) (cond b (last_or None entries) (Some entry.now)))
      by keys true b e f = refl
      by keys false false e f = refl
      by keys false true e f =
          let has : has_entry keys.now entries ≡ true =
          ap (λ one. has_entry one entries) (sym (same_keys_are entry.now keys.now f)) ∙ here known entry ∙ stands in
          absurd (cc (has, e))

  pub one_above : (now : BTreeMap (Bor (List (List ℕ))) (Option (Bor (List (List ℕ))))) → HasAbove above entries → is_some (get order above.table entry) ≡ false →
      ((other : Bor (List (List ℕ))) → get order now other ≡ cond (is_eq (order entry other)) (Some above.last) (get order above.table other)) →
      HasAbove (record { table = now; last = Some entry }) (entries ++ entry.now ∷ [])
  one_above now known unknown put = (
    λ keys. ap (option_map option_copied) (put keys ∙ ap (λ b. cond b (Some above.last) (get order above.table keys)) (ties entry.now keys.now))
        ∙ by keys (has_entry keys.now entries) (is_same_keys entry.now keys.now) refl refl ∙ sym (found_push keys.now entries entry.now),
    sym (last_push None entries entry.now),
  )
    where
      by : (keys : Bor (List (List ℕ))) (h b : Bool) → has_entry keys.now entries ≡ h → is_same_keys entry.now keys.now ≡ b →
          option_map option_copied (cond b (Some above.last) (get order above.table keys))
          ≡ found_in (h || (b || false)) (cond h (entry_above keys.now entries) (cond b (last_or None entries) (Some entry.now)))
      by keys h false e f = known.0 keys ∙ ap (λ has. found_in has (entry_above keys.now entries)) e ∙ found_kept h (entry_above keys.now entries) entry.now
      by keys false true e f = ap Some known.1
      by keys true true e f =
          let has : has_entry keys.now entries ≡ false =
          ap (λ one. has_entry one entries) (sym (same_keys_are entry.now keys.now f)) ∙ here known entry ∙ unknown in
          absurd (cc (has, e))

pub above_none : (above : Above) (entries : List (List (List ℕ))) (keys : Bor (List (List ℕ))) → HasAbove above entries →
    None ≡ get order above.table keys → option_copied above.last ≡ entry_above keys.now entries
above_none above entries keys known none =
    known.1 ∙ above_unlisted keys.now entries (none_found (has_entry keys.now entries) (entry_above keys.now entries) (ap (option_map option_copied) none ∙ known.0 keys))

map_push : (found : List (Bor (List (List ℕ)))) (keys : Bor (List (List ℕ))) → keys_of (found ++ keys ∷ []) ≡ keys_of found ++ keys.now ∷ []
map_push [] keys = refl
map_push (first ∷ found) keys = ap (λ more. first.now ∷ more) (map_push found keys)

-- so many entries and one more
pub keys_more : (order : List (Bor (List (List ℕ)))) (at : ℕ) (entry : Bor (List (List ℕ))) → at < length order → entry ≡ get_or order at entry →
    keys_of (take at order) ++ entry.now ∷ [] ≡ keys_of (take (at + 1) order)
keys_more order at entry within is =
    sym (map_push (take at order) entry) ∙ ap keys_of (ap (λ one. take at order ++ one ∷ []) is ∙ sym (take_more order at entry within))

pub above_more : (order : List (Bor (List (List ℕ)))) (at : ℕ) (entry : Bor (List (List ℕ))) (before now : Above) → at < length order → entry ≡ get_or order at entry →
    HasAbove before (keys_of (take at order)) → ((entries : List (List (List ℕ))) → HasAbove before entries → HasAbove now (entries ++ entry.now ∷ [])) →
    HasAbove now (keys_of (take (at + 1) order))
above_more order at entry before now within is so_far more =
    subst (λ (entries : List (List (List ℕ))). HasAbove now entries) (keys_more order at entry within is) (more (keys_of (take at order)) so_far)

-- the set has so many entries and one more
pub known_more : (before now : BTreeSet (Bor (List (List ℕ)))) (found : List (Bor (List (List ℕ)))) (at : ℕ) (entry : Bor (List (List ℕ))) → at < length found → entry ≡ get_or found at entry →
    HasEntries before (keys_of (take at found)) →
    ((other : Bor (List (List ℕ))) → contains order now other ≡ cond (is_eq (order entry other)) true (contains order before other)) →
    HasEntries now (keys_of (take (at + 1) found))
known_more before now found at entry within is so_far put other =
    put other ∙ (λ i. cond (ties entry.now other.now i) true (so_far other i)) ∙ by (is_same_keys entry.now other.now) (has_entry other.now (keys_of (take at found)))
    ∙ sym (has_push other.now (keys_of (take at found)) entry.now) ∙ ap (has_entry other.now) (keys_more found at entry within is)
  where
    by : (b c : Bool) → cond b true c ≡ (c || (b || false))
    by true true = refl
    by true false = refl
    by false true = refl
    by false false = refl

pub rank_found : (old new : List Row) (ranks : Ranks) (above : Bor (List Step)) (listed : Listed) → AreRanks old new ranks → Some listed ≡ get steps_order ranks.table above →
    AreMoves listed.moves (entries old above.now listed.number) (entries new above.now listed.number)
rank_found old new ranks above listed are is =
    subst (λ (found : Option Listed). IfSome found (λ one. AreMoves one.moves (entries old above.now one.number) (entries new above.now one.number))) (sym is) (are above)

pub rank_put : (old new : List Row) (before now : Ranks) (above : Bor (List Step)) (listed : Listed) → AreRanks old new before →
    AreMoves listed.moves (entries old above.now listed.number) (entries new above.now listed.number) →
    ((other : Bor (List Step)) → get steps_order now.table other ≡ cond (is_eq (steps_order above other)) (Some listed) (get steps_order before.table other)) → AreRanks old new now
rank_put old new before now above listed are moves put other =
    subst (λ (found : Option Listed). IfSome found right) (sym (put other ∙ ap (λ b. cond b (Some listed) (get steps_order before.table other)) (order_ties above.now other.now))) (by (is_same_path above.now other.now) refl)
  where
    right : Listed → Type 0
    right one = AreMoves one.moves (entries old other.now one.number) (entries new other.now one.number)

    by : (b : Bool) → is_same_path above.now other.now ≡ b → IfSome (cond b (Some listed) (get steps_order before.table other)) right
    by true e =
        subst (λ (steps : List Step). AreMoves listed.moves (entries old steps listed.number) (entries new steps listed.number)) (same_path above.now other.now e) moves
    by false e = are other

-- an entry has moved where not the same one stood and stands directly before it
pub moved_is : (old new : List (List (List ℕ))) (keys : List (List ℕ)) (before after : Option (List (List ℕ))) (same : Bool) →
    before ≡ entry_above keys (entries_among new old) → after ≡ entry_above keys (entries_among old new) → same ≡ is_same_entry before after → not same ≡ moves_between old new keys
moved_is old new keys before after same first second is = ap not (is ∙ (λ i. is_same_entry (first i) (second i)))

last_of : (before : Option Step) (above : List Step) (step : Step) → last_or before (above ++ step ∷ []) ≡ Some step
last_of before [] step = refl
last_of before (over ∷ above) step = last_of (Some over) above step

above_of : (above : List Step) (step : Step) → above_last (above ++ step ∷ []) ≡ above
above_of [] step = refl
above_of (over ∷ above) step = from over above
  where
    from : (first : Step) (more : List Step) → above_from first (more ++ step ∷ []) ≡ first ∷ more
    from first [] = refl
    from first (next ∷ more) = ap (λ rest. first ∷ rest) (from next more)

-- whether an entry has moved, by the steps above it
moved_at : (tables : Tables) (old new : List Row) (above : List Step) (step : Step) → has_moved tables old new (above ++ step ∷ [])
    ≡ (is_by_user tables step.node && moves_between (entries old above step.node) (entries new above step.node) step.keys)
moved_at tables old new above step =
    (λ i. option_map_or (λ (last : Step). is_by_user tables last.node
    && moves_between (option_map_or (λ (one : Step). entries old (above_of above step i) one.node) (last_of None above step i) [])
    (option_map_or (λ (one : Step). entries new (above_of above step i) one.node) (last_of None above step i) []) last.keys) (last_of None above step i) false)

pub none_moved : (tables : Tables) (old new : List Row) (steps above : List Step) (step : Step) → steps ≡ above ++ step ∷ [] → is_by_user tables step.node ≡ false →
    false ≡ has_moved tables old new steps
none_moved tables old new steps above step cut none =
    sym (ap (has_moved tables old new) cut ∙ moved_at tables old new above step
    ∙ ap (λ b. b && moves_between (entries old above step.node) (entries new above step.node) step.keys) none)

pub one_moved : (tables : Tables) (old new : List Row) (steps above : List Step) (step : Step) (moved : Bool) → steps ≡ above ++ step ∷ [] → is_by_user tables step.node ≡ true →
    moved ≡ moves_between (entries old above step.node) (entries new above step.node) step.keys → moved ≡ has_moved tables old new steps
one_moved tables old new steps above step moved cut user is =
    is ∙ sym (ap (has_moved tables old new) cut ∙ moved_at tables old new above step
    ∙ ap (λ b. b && moves_between (entries old above step.node) (entries new above step.node) step.keys) user)
