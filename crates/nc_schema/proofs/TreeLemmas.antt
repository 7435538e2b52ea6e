-- The rows of data trees.
use Rattle.std.proofs.Common.{◌≡◌, ◌⊎◌, zero, suc, List, [], ◌∷◌, ◌++◌, slice_index_or, refl, sym, subst, inl, inr, arith}
use Rattle.std.specs.List.{AllPairs, Contains}
use Rattle.nc_names.specs.declared.path.Row.{Row}
use Rattle.nc_schema.specs.Laws.{EmptyIsDataTree, RowsRise, RowsAreOneList}
use Rattle.nc_schema.specs.Order.{IsBefore}
use Rattle.nc_schema.proofs.OrderLemmas.{order_is_strict, order_is_total}

-- no element stands in the empty list
no_element : {X : Type 0} (before after : List X) (x : X) → ¬ ([] ≡ before ++ x ∷ after)
no_element [] after x e = cc
no_element (b ∷ before) after x e = cc

pub empty_is_data_tree : EmptyIsDataTree
empty_is_data_tree tables = record {
  below = λ k d within. absurd (omega (arith, within));
  paths = λ k d within. absurd (omega (arith, within));
  distinct = λ i j d less within. absurd (omega (arith, within));
  ordered = λ i j d less within. absurd (omega (arith, within));
  together = λ first between last row other steps e below beside. absurd (no_element (first ++ row ∷ between) last other e);
  values = λ k d within. absurd (omega (arith, within));
  keys = λ before after row above step node e leads list. absurd (no_element before after row e);
  ancestors = λ before after row above step next rest node e path below node_is stands. absurd (no_element before after row e);
  cases = λ row other above rest others step beside choice case another at_row at_other path beside_path in_case in_another. absurd (omega (arith, at_row.1));
}

pub rows_rise : RowsRise
rows_rise tables rows tree system i j d less within =
    by (order_is_total tables (slice_index_or rows i d).path (slice_index_or rows j d).path (system i d (omega (arith, less, within))))
  where
    by : IsBefore tables (slice_index_or rows i d).path (slice_index_or rows j d).path ⊎ ((slice_index_or rows i d).path ≡ (slice_index_or rows j d).path) ⊎ IsBefore tables (slice_index_or rows j d).path (slice_index_or rows i d).path → IsBefore tables (slice_index_or rows i d).path (slice_index_or rows j d).path
    by (inl before) = before
    by (inr (inl same)) = absurd (tree.distinct i j d less within same)
    by (inr (inr after)) = absurd (tree.ordered i j d less within after)

-- an element is the first or stands behind it
pub contains_cases : {X : Type 0} (y : X) (ys : List X) (x : X) → Contains (y ∷ ys) x → (y ≡ x) ⊎ Contains ys x
contains_cases y ys x (zero, within, here) = inl here
contains_cases y ys x (suc k, within, here) = inr (k, omega (arith, within), here)

contains_first : {X : Type 0} (x : X) (xs : List X) → Contains (x ∷ xs) x
contains_first x xs = (0, omega arith, refl)

contains_behind : {X : Type 0} (y : X) (xs : List X) (x : X) → Contains xs x → Contains (y ∷ xs) x
contains_behind y xs x (k, within, here) = (suc k, omega (arith, within), here)

-- the first is before each behind it, and those rise too
first_before : {X : Type 0} (R : X → X → Type 0) (y : X) (ys : List X) (x : X) → AllPairs R (y ∷ ys) → Contains ys x → R y x
first_before R y ys x pairs (k, within, here) = subst (R y) here (pairs 0 (suc k) x (omega arith) (omega (arith, within)))

pairs_behind : {X : Type 0} (R : X → X → Type 0) (y : X) (ys : List X) → AllPairs R (y ∷ ys) → AllPairs R ys
pairs_behind R y ys pairs i j d less within = pairs (suc i) (suc j) d (omega (arith, less)) (omega (arith, within))

-- rising lists of the same elements are one
module _ {X : Type 0} (R : X → X → Type 0) (irreflexive : (x : X) → ¬ R x x) (transitive : (x y z : X) → R x y → R y z → R x z) where
  -- what the one holds behind its first element, the other holds behind the same
  held_behind : (x : X) (xs ys : List X) → AllPairs R (x ∷ xs) → ((z : X) → Contains (x ∷ xs) z → Contains (x ∷ ys) z) → (z : X) → Contains xs z → Contains ys z
  held_behind x xs ys rise holds z in_xs = by (contains_cases x ys z (holds z (contains_behind x xs z in_xs)))
    where
      by : (x ≡ z) ⊎ Contains ys z → Contains ys z
      by (inl same) = absurd (irreflexive x (subst (R x) (sym same) (first_before R x xs z rise in_xs)))
      by (inr there) = there

  one_first : (x y : X) (xs ys : List X) → AllPairs R (x ∷ xs) → AllPairs R (y ∷ ys) → (y ≡ x) ⊎ Contains ys x → (x ≡ y) ⊎ Contains xs y → x ≡ y
  one_first x y xs ys rise rises (inl same) there = sym same
  one_first x y xs ys rise rises (inr here) (inl same) = same
  one_first x y xs ys rise rises (inr here) (inr there) =
      absurd (irreflexive x (transitive x y x (first_before R x xs y rise there) (first_before R y ys x rises here)))

  rising_once : (xs ys : List X) → AllPairs R xs → AllPairs R ys → ((z : X) → Contains xs z → Contains ys z) → ((z : X) → Contains ys z → Contains xs z) → xs ≡ ys
  rising_once [] [] rise rises to from = refl
  rising_once [] (y ∷ ys) rise rises to from = absurd (omega (arith, (from y (contains_first y ys)).1))
  rising_once (x ∷ xs) [] rise rises to from = absurd (omega (arith, (to x (contains_first x xs)).1))
  rising_once (x ∷ xs) (y ∷ ys) rise rises to from =
      let same : x ≡ y = one_first x y xs ys rise rises (contains_cases y ys x (to x (contains_first x xs))) (contains_cases x xs y (from y (contains_first y ys))) in
      let rises_same : AllPairs R (x ∷ ys) = subst (λ (v : X). AllPairs R (v ∷ ys)) (sym same) rises in
      let to_same : (z : X) → Contains (x ∷ xs) z → Contains (x ∷ ys) z = λ z h. subst (λ (v : X). Contains (v ∷ ys) z) (sym same) (to z h) in
      let from_same : (z : X) → Contains (x ∷ ys) z → Contains (x ∷ xs) z = λ z h. from z (subst (λ (v : X). Contains (v ∷ ys) z) same h) in
      let rest = rising_once xs ys (pairs_behind R x xs rise) (pairs_behind R y ys rises) (held_behind x xs ys rise to_same) (held_behind x ys xs rises_same from_same) in
      λ i. same i ∷ rest i

pub rows_are_one_list : RowsAreOneList
rows_are_one_list tables rows others tree tree_other system system_other same =
    rising_once (λ (row later : Row). IsBefore tables row.path later.path)
    (λ row. order_is_strict.irreflexive tables row.path) (λ x y z. order_is_strict.transitive tables x.path y.path z.path)
    rows others (rows_rise tables rows tree system) (rows_rise tables others tree_other system_other) (λ row. (same row).0) (λ row. (same row).1)
