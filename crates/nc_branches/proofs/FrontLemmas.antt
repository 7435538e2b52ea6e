-- The entries before one, in a set.
use Rattle.std.proofs.Common.{◌≡◌, ◌||◌, ◌+◌, ◌<◌, ℕ, zero, suc, Bool, true, false, cond, List, [], ◌∷◌, ◌++◌, length, take, drop, get_or, refl, sym, ap, ◌∙◌, Bor, append_assoc}
use Rattle.std.specs.Prelude.{slice_get}
use Rattle.std.specs.BTreeSet.{BTreeSet, contains}
use Rattle.std.specs.Cmp.Lexicographic.{lists_ties, slice_cmp}
use Rattle.std.specs.Ordering.{is_eq, nat_cmp}
use Rattle.std.proofs.lemmas.List.{append-nil, drop_more, take_more}
use Rattle.std.proofs.lemmas.List.Folds.{list_any-append}
use Rattle.std.proofs.lemmas.Map.Text.{is_eq-slice_cmp}
use Rattle.nc_names.specs.Same.{is_same_keys}
use Rattle.nc_schema.specs.Standing.{has_entry, stands_before}
use Rattle.nc_branches.specs.inner.Fronts.{Fronted, HasEntries, by_keys, entries_until, order_in, orders_in}
use Rattle.nc_branches.specs.Orders.{first_order}

ties : (keys others : List (List ℕ)) → is_eq (slice_cmp (slice_cmp nat_cmp) keys others) ≡ is_same_keys keys others
ties keys others = sym (lists_ties (slice_cmp nat_cmp) (λ a b. sym (is_eq-slice_cmp a b)) keys others)

pub one_known : (before now : BTreeSet (Bor (List (List ℕ)))) (entries : List (List (List ℕ))) (at : ℕ) (entry : List (List ℕ)) → at < length entries → entry ≡ get_or entries at entry →
    HasEntries before (take at entries) → ((other : Bor (List (List ℕ))) → contains by_keys now other ≡ cond (is_eq (slice_cmp (slice_cmp nat_cmp) entry other.now)) true (contains by_keys before other)) →
    HasEntries now (take (at + 1) entries)
one_known before now entries at entry within is so_far put other =
    put other ∙ (λ i. cond (ties entry other.now i) true (so_far other i)) ∙ by (is_same_keys entry other.now) (has_entry other.now (take at entries))
    ∙ sym (list_any-append (λ one. is_same_keys one other.now) (take at entries) (entry ∷ []))
    ∙ ap (has_entry other.now) (ap (λ one. take at entries ++ one ∷ []) is ∙ sym (take_more entries at entry within))
  where
    by : (b c : Bool) → cond b true c ≡ (c || (b || false))
    by true true = refl
    by true false = refl
    by false true = refl
    by false false = refl

-- what stands before one is one of the entries before it
pub stands_until : (order : List (List (List ℕ))) (own keys others : List (List ℕ)) → keys ≡ others → has_entry own (entries_until keys order) ≡ stands_before order own others
stands_until [] own keys others same = refl
stands_until (entry ∷ order) own keys others same =
    by (is_same_keys entry keys) (stands_until order own keys others same) ∙ ap (λ b. cond b false (cond (is_same_keys entry own) true (stands_before order own others))) (ap (is_same_keys entry) same)
  where
    inner : (c : Bool) → has_entry own (entries_until keys order) ≡ stands_before order own others → (c || has_entry own (entries_until keys order)) ≡ cond c true (stands_before order own others)
    inner true rest = refl
    inner false rest = rest

    by : (b : Bool) → has_entry own (entries_until keys order) ≡ stands_before order own others → has_entry own (cond b [] (entry ∷ entries_until keys order)) ≡ cond b false (cond (is_same_keys entry own) true (stands_before order own others))
    by true rest = refl
    by false rest = inner (is_same_keys entry own) rest

pub until_more : (keys : List (List ℕ)) (order : List (List (List ℕ))) (at : ℕ) (entry : List (List ℕ)) → at < length order → entry ≡ get_or order at entry → is_same_keys entry keys ≡ false →
    entries_until keys order ≡ take at order ++ entries_until keys (drop at order) → entries_until keys order ≡ take (at + 1) order ++ entries_until keys (drop (at + 1) order)
until_more keys order at entry within is other so_far =
    so_far ∙ ap (λ xs. take at order ++ entries_until keys xs) (drop_more order at entry within ∙ ap (λ e. e ∷ drop (at + 1) order) (sym is))
    ∙ ap (λ b. take at order ++ cond b [] (entry ∷ entries_until keys (drop (at + 1) order))) other
    ∙ sym (append_assoc (take at order) (entry ∷ []) (entries_until keys (drop (at + 1) order)))
    ∙ ap (λ xs. xs ++ entries_until keys (drop (at + 1) order)) (ap (λ e. take at order ++ e ∷ []) is ∙ sym (take_more order at entry within))

pub until_all : (keys : List (List ℕ)) (order : List (List (List ℕ))) (at : ℕ) (entry : List (List ℕ)) → at < length order → entry ≡ get_or order at entry → is_same_keys entry keys ≡ true →
    entries_until keys order ≡ take at order ++ entries_until keys (drop at order) → entries_until keys order ≡ take at order
until_all keys order at entry within is same so_far =
    so_far ∙ ap (λ xs. take at order ++ entries_until keys xs) (drop_more order at entry within ∙ ap (λ e. e ∷ drop (at + 1) order) (sym is))
    ∙ ap (λ b. take at order ++ cond b [] (entry ∷ entries_until keys (drop (at + 1) order))) same ∙ append-nil (take at order)

pub front_at : (fronts : List Fronted) (place : ℕ) → order_in (slice_get fronts place) ≡ first_order (drop place (orders_in fronts))
front_at [] zero = refl
front_at [] (suc place) = refl
front_at (front ∷ fronts) zero = refl
front_at (front ∷ fronts) (suc place) = front_at fronts place
