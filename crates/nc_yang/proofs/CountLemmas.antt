-- Counts of the types that are asked of a value.
use Rattle.std.proofs.Common.{inl, inr, ◌≡◌, ◌⊎◌, ◌||◌, ◌<◌, ◌≤◌, ◌+◌, ◌-◌, ℕ, zero, suc, Bool, List, [], ◌∷◌, ◌++◌, map, min, refl, sym, ap, subst, ◌∙◌, arith}
use Rattle.std.specs.Prelude.{Option, Some, None, nat_lt, slice_get}
use Rattle.std.specs.List.{sum_by}
use Rattle.std.specs.Option.{option_map_or}
use Rattle.std.proofs.lemmas.Bool.{cases_lt, lt-ltb}
use Rattle.std.proofs.lemmas.List.Sums.{sum_by-cons, sum_by_push}
use Rattle.nc_schema.specs.Tables.{Tables}
use Rattle.nc_schema.specs.declared.value_type.ValueType.{ValueType}
use Rattle.nc_yang.specs.Depths.{asked, asked_of, asks_too_many}
use Rattle.nc_yang.specs.inner.Marked.{AreCounts, AreDeep, asked_with, count_at, is_marked}

-- a sum up to a number is one of what is added up to it
sum_up_to : (a b most : ℕ) → min (min a most + b) most ≡ min (a + b) most
sum_up_to a b most = omega arith

both_up_to : (a b c d most : ℕ) → a ≡ min b most → min c most ≡ min d most → min (a + c) most ≡ min (b + d) most
both_up_to a b c d most one other = omega (arith, one, other)

more_up_to : (a b most : ℕ) → min a most ≡ min b most → min (1 + a) most ≡ min (1 + b) most
more_up_to a b most same = omega (arith, same)

none_up_to : (most : ℕ) → 0 ≡ min 0 most
none_up_to most = omega arith

past_limit : (count most : ℕ) → nat_lt most (min count (1 + most)) ≡ nat_lt most count
past_limit count most = by (cases_lt most count)
  where
    by : (most < count) ⊎ (count ≤ most) → nat_lt most (min count (1 + most)) ≡ nat_lt most count
    by (inl past) = let all : min count (1 + most) ≡ 1 + most = omega (arith, past) in ap (nat_lt most) all ∙ lt-ltb most (1 + most) (omega arith) ∙ sym (lt-ltb most count past)
    by (inr within) = let all : min count (1 + most) ≡ count = omega (arith, within) in ap (nat_lt most) all

pub one_more : (f : ℕ → ℕ) (xs : List ℕ) (x most : ℕ) → min (min (sum_by f xs) most + f x) most ≡ min (sum_by f (xs ++ x ∷ [])) most
one_more f xs x most = sum_up_to (sum_by f xs) (f x) most ∙ ap (λ n. min n most) (sym (sum_by_push f xs x))

-- counts of the same things up to a number have the same sums up to it
sums_up_to : (f g : ℕ → ℕ) (most : ℕ) → ((n : ℕ) → f n ≡ min (g n) most) → (xs : List ℕ) → min (sum_by f xs) most ≡ min (sum_by g xs) most
sums_up_to f g most same [] = refl
sums_up_to f g most same (x ∷ xs) =
    ap (λ n. min n most) (sum_by-cons f x xs) ∙ both_up_to (f x) (g x) (sum_by f xs) (sum_by g xs) most (same x) (sums_up_to f g most same xs)
    ∙ ap (λ n. min n most) (sym (sum_by-cons g x xs))

count_map : {A : Type 0} (f : A → ℕ) (xs : List A) (number : ℕ) → count_at (map f xs) number ≡ option_map_or f (slice_get xs number) 0
count_map f [] number = refl
count_map f (x ∷ xs) zero = refl
count_map f (x ∷ xs) (suc number) = count_map f xs number

map_up_to : {A : Type 0} (f : A → ℕ) (most : ℕ) (o : Option A) → option_map_or (λ x. min (f x) most) o 0 ≡ min (option_map_or f o 0) most
map_up_to f most None = none_up_to most
map_up_to f most (Some x) = refl

module _ (tables : Tables) where
  with_up_to : (f g : ℕ → ℕ) (most : ℕ) → ((n : ℕ) → f n ≡ min (g n) most) → (o : Option ValueType) →
      option_map_or (λ type. min (1 + sum_by f (asked_of tables type)) most) o 0 ≡ option_map_or (λ type. min (1 + sum_by g (asked_of tables type)) most) o 0
  with_up_to f g most same None = refl
  with_up_to f g most same (Some type) =
      more_up_to (sum_by f (asked_of tables type)) (sum_by g (asked_of tables type)) most (sums_up_to f g most same (asked_of tables type))

  pub counts_at_first : AreCounts tables 0 []
  unfolding asked
  counts_at_first number = none_up_to 4097

  counts_after : (levels : ℕ) (counts : List ℕ) → AreCounts tables levels counts → AreCounts tables (suc levels) (map (asked_with tables (count_at counts)) tables.types)
  unfolding asked
  counts_after levels counts are number =
      count_map (asked_with tables (count_at counts)) tables.types number
      ∙ with_up_to (count_at counts) (asked tables levels) 4097 are (slice_get tables.types number)
      ∙ map_up_to (λ (type : ValueType). 1 + sum_by (asked tables levels) (asked_of tables type)) 4097 (slice_get tables.types number)

  pub counts_next : (levels : ℕ) (counts more : List ℕ) → AreCounts tables levels counts → more ≡ map (asked_with tables (count_at counts)) tables.types → AreCounts tables (levels + 1) more
  counts_next levels counts more are is =
      let same : suc levels ≡ levels + 1 = omega arith in
      subst (AreCounts tables (levels + 1)) (sym is) (subst (λ k. AreCounts tables k (map (asked_with tables (count_at counts)) tables.types)) same (counts_after levels counts are))

  -- where a level adds nothing none adds anything
  counts_on : (extra levels : ℕ) (counts : List ℕ) → AreCounts tables levels counts → counts ≡ map (asked_with tables (count_at counts)) tables.types → AreCounts tables (levels + extra) counts
  counts_on zero levels counts are same = let at : levels ≡ levels + 0 = omega arith in subst (λ k. AreCounts tables k counts) at are
  counts_on (suc extra) levels counts are same =
      let at : levels + 1 + extra ≡ levels + suc extra = omega arith in
      subst (λ k. AreCounts tables k counts) at (counts_on extra (levels + 1) counts (counts_next levels counts counts are same) same)

  pub counts_stay : (levels all : ℕ) (counts : List ℕ) → levels ≤ all → AreCounts tables levels counts → counts ≡ map (asked_with tables (count_at counts)) tables.types → AreCounts tables all counts
  counts_stay levels all counts less are same =
      let at : levels + (all - levels) ≡ all = omega (arith, less) in
      subst (λ k. AreCounts tables k counts) at (counts_on (all - levels) levels counts are same)

  -- the marks and the counts tell of which types too many are asked
  pub too_many_by : (marks : List Bool) (counts : List ℕ) → AreDeep tables 64 marks → AreCounts tables 64 counts → (number : ℕ) →
      is_marked marks number || nat_lt 4096 (count_at counts number) ≡ asks_too_many tables number
  too_many_by marks counts deep are number =
      λ i. deep number i || (ap (nat_lt 4096) (are number) ∙ past_limit (asked tables 64 number) 4096) i
