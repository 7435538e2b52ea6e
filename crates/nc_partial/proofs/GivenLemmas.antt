-- What a session is told that asks for nodes.
use Rattle.std.proofs.Common.{◌≡◌, ◌==◌, ◌+◌, ℕ, Bool, true, false, List, length, refl, sym, ap, ◌∙◌, eq-eqb, eqb-true, Option, None, Some}
use Rattle.std.specs.Prelude.{Ok, Err, option_map}
use Rattle.nc_names.specs.declared.path.Path.{Path}
use Rattle.nc_model.specs.State.{NodeLock, last_lock_id, locks_of, locks_some, most_locks}
use Rattle.nc_partial.specs.Granted.{Granted, covered_of}
use Rattle.nc_partial.specs.declared.entry.Covered.{Covered}
use Rattle.nc_partial.specs.declared.entry.Entry.{Entry}
use Rattle.nc_partial.specs.declared.locks.PartialFault.TheVariants.{Taken, TooMany, IdsSpent}
use Rattle.nc_partial.specs.inner.Entries.{of_others, shares_some}
use Rattle.nc_partial.specs.inner.Given.{given_in, other_in, told_of}
use Rattle.nc_partial.specs.inner.Indexed.{IsIndexed}
use Rattle.nc_partial.specs.inner.Lowest.{IsLowest}
use Rattle.nc_partial.proofs.FoundLemmas.{found_in_list}

not_equal : (a b : ℕ) → (a ≡ b → ⊥) → (a == b) ≡ false
not_equal a b differ = by (a == b) refl
  where
    by : (c : Bool) → (a == b) ≡ c → (a == b) ≡ false
    by true e = absurd (differ (eqb-true a b e))
    by false e = e

taken : (found : Option NodeLock) (covered : Covered) (many spent : Bool) (last : ℕ) → Some covered ≡ option_map covered_of found → Err (Taken covered) ≡ told_of found many spent last
taken None covered many spent last e = absurd (cc)
taken (Some lock) covered many spent last e = let is : covered ≡ covered_of lock = cc in ap (λ one. Err (Taken one)) is

free : (found : Option NodeLock) (many spent : Bool) (last : ℕ) → None ≡ option_map covered_of found → told_of None many spent last ≡ told_of found many spent last
free None many spent last e = refl
free (Some lock) many spent last e = absurd (cc)

module _ (locks : List NodeLock) (last : ℕ) (index : List Entry) (indexed : IsIndexed locks last index) (granted : Granted) (view : record { locks = locks; last = last } ≡ granted) (session : ℕ) (nodes : List Path) where
  pub taken_told : (covered : Covered) → IsLowest (of_others session (shares_some nodes)) index (Some covered) → Err (Taken covered) ≡ given_in granted session nodes
  taken_told covered lowest =
      taken (other_in (record { locks = locks; last = last }) session (locks_some nodes)) covered (length (locks_of session locks) == most_locks) (last == last_lock_id) last
      (found_in_list locks last index indexed session (shares_some nodes) (Some covered) lowest)
      ∙ ap (λ g. given_in g session nodes) view

  module _ (lowest : IsLowest (of_others session (shares_some nodes)) index None) where
    unlocked : told_of None (length (locks_of session locks) == most_locks) (last == last_lock_id) last ≡ given_in granted session nodes
    unlocked =
        free (other_in (record { locks = locks; last = last }) session (locks_some nodes)) (length (locks_of session locks) == most_locks) (last == last_lock_id) last
        (found_in_list locks last index indexed session (shares_some nodes) None lowest)
        ∙ ap (λ g. given_in g session nodes) view

    pub many_told : length (locks_of session locks) ≡ most_locks → Err (TooMany most_locks) ≡ given_in granted session nodes
    many_told full =
        ap (λ b. told_of None b (last == last_lock_id) last) (sym (eq-eqb (length (locks_of session locks)) most_locks full)) ∙ unlocked

    pub spent_told : (length (locks_of session locks) ≡ most_locks → ⊥) → last ≡ last_lock_id → Err (IdsSpent last) ≡ given_in granted session nodes
    spent_told few end =
        ap (λ n. Err (IdsSpent n)) end
        ∙ (λ i. told_of None (sym (not_equal (length (locks_of session locks)) most_locks few) i) (sym (eq-eqb last last_lock_id end) i) last) ∙ unlocked

    pub next_told : (length (locks_of session locks) ≡ most_locks → ⊥) → (last ≡ last_lock_id → ⊥) → Ok (last + 1) ≡ given_in granted session nodes
    next_told few left =
        (λ i. told_of None (sym (not_equal (length (locks_of session locks)) most_locks few) i) (sym (not_equal last last_lock_id left) i) last) ∙ unlocked
