-- The index stays beside the list: with a lock more, and without some.
use Rattle.std.proofs.Common.{◌≡◌, ◌+◌, ◌-◌, ◌&&◌, ◌||◌, ◌++◌, ◌<◌, ◌≤◌, ◌⊎◌, inl, inr, ℕ, Bool, true, false, cond, List, [], ◌∷◌, get_or, length, refl, sym, ap, ◌∙◌, arith}
use Rattle.std.specs.List.{filter, insert, list_any}
use Rattle.std.specs.List.Sorted.{IsPartitionPoint, IsPermutation, IsSorted}
use Rattle.std.specs.Ordering.{is_lt, ordering_reverse, ordering_then}
use Rattle.std.specs.declared.cmp.Ordering.{Ordering}
use Rattle.std.specs.declared.cmp.Ordering.TheVariants.{Less, Equal, Greater}
use Rattle.std.proofs.lemmas.Bool.{cases_order}
use Rattle.std.proofs.lemmas.List.Edits.{get_or-insert_above, get_or-insert_at, get_or-insert_below, length-insert}
use Rattle.std.proofs.lemmas.List.Elements.{All-filter}
use Rattle.std.proofs.lemmas.List.Folds.{list_any-append}
use Rattle.std.proofs.lemmas.List.Kept.{AllPairs-filter, IsSortedBy-filter}
use Rattle.std.proofs.lemmas.List.Sorted.{IsPermutation-insert, list_any-IsPermutation, ranks_by}
use Rattle.nc_names.specs.declared.path.Path.{Path}
use Rattle.nc_model.specs.State.{NodeLock}
use Rattle.nc_partial.specs.contracts.entry.EntryOrd.TheImpl.{ghosts}
use Rattle.nc_partial.specs.declared.entry.Entry.{Entry}
use Rattle.nc_partial.specs.inner.Entries.{Adds, IsAscending, all_entries, entries_of, entry_of, is_before, steps_cmp}
use Rattle.nc_partial.specs.inner.Indexed.{IsIndexed}
use Rattle.nc_partial.proofs.FoundLemmas.{any_flat, any_map}
use Rattle.nc_partial.proofs.OrderLemmas.{steps_total}

-- ---- none

-- ---- a lock more
-- what is sorted by steps, lock-id and session is sorted by steps
pub sorted_by_steps : (entries : List Entry) → IsSorted ghosts.cmp entries → IsAscending entries
sorted_by_steps entries sorted k d low within = by (steps_cmp (get_or entries (k + 1) d).steps (get_or entries k d).steps) _ (sorted k d low within)
  where
    by : (o p : Ordering) → is_lt (ordering_then o p) ≡ false → is_lt o ≡ false
    by Less p e = e
    by Equal p e = refl
    by Greater p e = refl

pub adds_from_sort : (old more new : List Entry) → IsPermutation (old ++ more) new → Adds more old new
adds_from_sort old more new moved test = sym (list_any-IsPermutation test (old ++ more) new moved) ∙ list_any-append test old more

-- ---- an entry more in its place
-- of two that are in order the other is not first
turned : (o p : Ordering) → p ≡ ordering_reverse o → is_lt o ≡ true → is_lt p ≡ false
turned Less p e before = ap is_lt e
turned Equal p e before = absurd (cc)
turned Greater p e before = absurd (cc)

module _ (index : List Entry) (ascending : IsAscending index) (entry : Entry) (at : ℕ) (inside : at ≤ length index)
    (parted : IsPartitionPoint (λ e. is_before entry.steps e ≡ true) (λ e. is_before entry.steps e ≡ false) index at) where
  pub inserted_ascending : IsAscending (insert index at entry)
  inserted_ascending k d low within = by (cases_order (k + 1) at)
    where
      far : k < length index
      far = let long = length-insert index at entry inside in omega (arith, within, long)

      as_seen : (later first : Entry) → get_or (insert index at entry) (k + 1) d ≡ later → get_or (insert index at entry) k d ≡ first →
          is_lt (steps_cmp later.steps first.steps) ≡ false → is_lt (steps_cmp (get_or (insert index at entry) (k + 1) d).steps (get_or (insert index at entry) k d).steps) ≡ false
      as_seen later first p q in_order = (λ i. is_lt (steps_cmp (p i).steps (q i).steps)) ∙ in_order

      by : (k + 1 ≡ at) ⊎ ((k + 1 < at) ⊎ (at < k + 1)) → is_lt (steps_cmp (get_or (insert index at entry) (k + 1) d).steps (get_or (insert index at entry) k d).steps) ≡ false
      by (inl here) =
          as_seen entry (get_or index k d) (ap (λ n. get_or (insert index at entry) n d) here ∙ get_or-insert_at index at entry d inside)
          (get_or-insert_below index at entry d k (omega (arith, here)) inside)
          (turned (steps_cmp (get_or index k d).steps entry.steps) (steps_cmp entry.steps (get_or index k d).steps) (steps_total.antisymm entry.steps (get_or index k d).steps)
          (parted.0 k d (omega arith) (omega (arith, here))))
      by (inr (inl less)) =
          as_seen (get_or index (k + 1) d) (get_or index k d) (get_or-insert_below index at entry d (k + 1) less inside)
          (get_or-insert_below index at entry d k (omega (arith, less)) inside) (ascending k d low (omega (arith, less, inside)))
      by (inr (inr more)) = after (cases_order at k)
        where
          after : (at ≡ k) ⊎ ((at < k) ⊎ (k < at)) → is_lt (steps_cmp (get_or (insert index at entry) (k + 1) d).steps (get_or (insert index at entry) k d).steps) ≡ false
          after (inl here) =
              as_seen (get_or index k d) entry (get_or-insert_above index at entry d k (omega (arith, more)) inside)
              (ap (λ n. get_or (insert index at entry) n d) (sym here) ∙ get_or-insert_at index at entry d inside)
              (parted.1 k d (omega (arith, more)) far)
          after (inr (inl less)) =
              let back : k ≡ (k - 1) + 1 = omega (arith, less) in
              as_seen (get_or index k d) (get_or index (k - 1) d) (get_or-insert_above index at entry d k (omega (arith, more)) inside)
              (ap (λ n. get_or (insert index at entry) n d) back ∙ get_or-insert_above index at entry d (k - 1) (omega (arith, less)) inside)
              (ap (λ n. is_lt (steps_cmp (get_or index n d).steps (get_or index (k - 1) d).steps)) back ∙ ascending (k - 1) d (omega arith) (omega (arith, far, less)))
          after (inr (inr less)) = absurd (omega (arith, more, less))

pub adds_one : (index : List Entry) (at : ℕ) (entry : Entry) → Adds (entry ∷ []) index (insert index at entry)
adds_one index at entry test =
    sym (list_any-IsPermutation test (entry ∷ index) (insert index at entry) (IsPermutation-insert index at entry)) ∙ swap (test entry) (list_any test index)
  where
    swap : (a b : Bool) → (a || b) ≡ (b || (a || false))
    swap true true = refl
    swap true false = refl
    swap false true = refl
    swap false false = refl

-- none more, and one more than those put so far
pub adds_none : (index : List Entry) → Adds [] index index
adds_none index test = by (list_any test index)
  where
    by : (b : Bool) → b ≡ (b || false)
    by true = refl
    by false = refl

pub adds_more : (so_far old now new : List Entry) (entry : Entry) → Adds so_far old now → Adds (entry ∷ []) now new → Adds (so_far ++ entry ∷ []) old new
adds_more so_far old now new entry before one test =
    one test ∙ ap (λ b. b || (test entry || false)) (before test) ∙ by (list_any test old) (list_any test so_far) (test entry || false)
    ∙ ap (λ b. list_any test old || b) (sym (list_any-append test so_far (entry ∷ [])))
  where
    by : (a b c : Bool) → ((a || b) || c) ≡ (a || (b || c))
    by true b c = refl
    by false b c = refl

-- ---- the index of one lock more
or_false : (a : Bool) → (a || false) ≡ a
or_false true = refl
or_false false = refl

one_more : (test : Entry → Bool) (locks : List NodeLock) (lock : NodeLock) → (list_any test (all_entries locks) || list_any test (entries_of lock)) ≡ list_any test (all_entries (locks ++ lock ∷ []))
one_more test locks lock =
    (λ i. any_flat test entries_of locks i || sym (or_false (list_any test (entries_of lock))) i)
    ∙ sym (list_any-append (λ one. list_any test (entries_of one)) locks (lock ∷ []))
    ∙ sym (any_flat test entries_of (locks ++ lock ∷ []))

-- ---- without some
any_filter : {X : Type 0} (test keep : X → Bool) (xs : List X) → list_any test (filter keep xs) ≡ list_any (λ x. keep x && test x) xs
any_filter test keep [] = refl
any_filter test keep (x ∷ xs) = by (keep x) (any_filter test keep xs)
  where
    by : (b : Bool) → list_any test (filter keep xs) ≡ list_any (λ y. keep y && test y) xs →
        list_any test (cond b (x ∷ filter keep xs) (filter keep xs)) ≡ ((b && test x) || list_any (λ y. keep y && test y) xs)
    by true more = ap (λ b. test x || b) more
    by false more = more

none_any : {X : Type 0} (xs : List X) → list_any (λ x. false) xs ≡ false
none_any [] = refl
none_any (x ∷ xs) = none_any xs

module _ (keeps : NodeLock → Bool) (keep : Entry → Bool) (same : (lock : NodeLock) (node : Path) → keep (entry_of lock node) ≡ keeps lock) where
  of_lock : (test : Entry → Bool) (lock : NodeLock) (b : Bool) → keeps lock ≡ b → list_any (λ e. keep e && test e) (entries_of lock) ≡ (b && list_any test (entries_of lock))
  of_lock test lock b e =
      any_map (λ entry. keep entry && test entry) (entry_of lock) lock.nodes
      ∙ ap (λ f. list_any f lock.nodes) (λ i node. (same lock node ∙ e) i && test (entry_of lock node))
      ∙ by b
    where
      by : (b : Bool) → list_any (λ node. b && test (entry_of lock node)) lock.nodes ≡ (b && list_any test (entries_of lock))
      by true = sym (any_map test (entry_of lock) lock.nodes)
      by false = none_any lock.nodes

  of_kept : (test : Entry → Bool) (locks : List NodeLock) → list_any (λ e. keep e && test e) (all_entries locks) ≡ list_any test (all_entries (filter keeps locks))
  of_kept test [] = refl
  of_kept test (lock ∷ locks) =
      list_any-append (λ e. keep e && test e) (entries_of lock) (all_entries locks) ∙ by (keeps lock) refl (of_kept test locks)
    where
      by : (b : Bool) → keeps lock ≡ b → list_any (λ e. keep e && test e) (all_entries locks) ≡ list_any test (all_entries (filter keeps locks)) →
          (list_any (λ e. keep e && test e) (entries_of lock) || list_any (λ e. keep e && test e) (all_entries locks))
          ≡ list_any test (all_entries (cond b (lock ∷ filter keeps locks) (filter keeps locks)))
      by true e more = (λ i. of_lock test lock true e i || more i) ∙ sym (list_any-append test (entries_of lock) (all_entries (filter keeps locks)))
      by false e more = (λ i. of_lock test lock false e i || more i)

  pub kept_indexed : (locks : List NodeLock) (last : ℕ) (index : List Entry) → IsIndexed locks last index → IsIndexed (filter keeps locks) last (filter keep index)
  kept_indexed locks last index indexed = record {
    rise = AllPairs-filter (λ one later. one.id < later.id) keeps locks indexed.rise;
    given = All-filter keeps (λ lock. lock.id ≤ last) locks indexed.given;
    order = IsSortedBy-filter (λ (e : Entry) (f : Entry). is_lt (steps_cmp e.steps f.steps)) (ranks_by steps_total (λ (e : Entry). e.steps)) keep index indexed.order;
    holds = λ test. any_filter test keep index ∙ indexed.holds (λ e. keep e && test e) ∙ of_kept test locks;
  }
