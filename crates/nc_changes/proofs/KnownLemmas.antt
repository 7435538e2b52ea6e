-- A set of entries, with one more.
use Rattle.std.proofs.Common.{◌≡◌, ◌||◌, ◌+◌, ◌<◌, ℕ, Bool, true, false, cond, List, [], ◌∷◌, ◌++◌, length, take, get_or, refl, sym, ap, ◌∙◌, Bor}
use Rattle.std.specs.BTreeSet.{BTreeSet, contains}
use Rattle.std.specs.Cmp.Lexicographic.{lists_ties, slice_cmp}
use Rattle.std.specs.Ordering.{is_eq, nat_cmp}
use Rattle.std.proofs.lemmas.List.{take_more}
use Rattle.std.proofs.lemmas.List.Folds.{list_any-append}
use Rattle.std.proofs.lemmas.Map.Text.{is_eq-slice_cmp}
use Rattle.nc_names.specs.Same.{is_same_keys}
use Rattle.nc_schema.specs.Standing.{has_entry}
use Rattle.nc_changes.specs.inner.Entries.{HasEntries, order}

pub ties : (keys others : List (List ℕ)) → is_eq (slice_cmp (slice_cmp nat_cmp) keys others) ≡ is_same_keys keys others
ties keys others = sym (lists_ties (slice_cmp nat_cmp) (λ a b. sym (is_eq-slice_cmp a b)) keys others)

pub nothing_known : (known : BTreeSet (Bor (List (List ℕ)))) → ((keys : Bor (List (List ℕ))) → contains order known keys ≡ false) → HasEntries known []
nothing_known known none keys = none keys

pub one_known : (before now : BTreeSet (Bor (List (List ℕ)))) (entries : List (List (List ℕ))) (at : ℕ) (entry : List (List ℕ)) → at < length entries → entry ≡ get_or entries at entry →
    HasEntries before (take at entries) → ((other : Bor (List (List ℕ))) → contains order now other ≡ cond (is_eq (slice_cmp (slice_cmp nat_cmp) entry other.now)) true (contains order before other)) →
    HasEntries now (take (at + 1) entries)
one_known before now entries at entry within is so_far put other =
    put other ∙ (λ i. cond (ties entry other.now i) true (so_far other i)) ∙ by (is_same_keys entry other.now) (has_entry other.now (take at entries))
    ∙ sym (list_any-append (λ one. is_same_keys one other.now) (take at entries) (entry ∷ []))
    ∙ ap (has_entry other.now) (ap (λ one. take at entries ++ one ∷ []) is ∙ sym (take_more entries at entry within))
  where
    by : (b c : Bool) → cond b true c ≡ (c || (b || false))
    by true true = refl
    by true false = refl
    by false true = refl
    by false false = refl
