-- Values that rise are each there once, in whatever order; entries in which each value of a leaf is there once do not agree.
use Rattle.std.proofs.Common.{◌≡◌, ◌&&◌, ◌||◌, ◌++◌, ◌+◌, ◌<◌, ◌≤◌, ◌∙◌, ℕ, zero, suc, Bool, true, false, cond, List, [], ◌∷◌, length, drop, take, get_or, refl, sym, ap, subst, arith, Bor, Ordering, Less, Equal, Greater, if◌then◌else◌}
use Rattle.std.specs.Prelude.{Option, Some, None, map, count_by, IsPermutation}
use Rattle.std.specs.Cmp.{IsTotalOrder}
use Rattle.std.specs.Cmp.Lexicographic.{bytes_decides, slice_cmp}
use Rattle.std.specs.List.{list_all, list_any}
use Rattle.std.specs.Ordering.{is_eq, is_lt, nat_cmp}
use Rattle.std.proofs.lemmas.Cmp.{nat_list_cmp_total}
use Rattle.std.proofs.lemmas.Grind.{common_steps, flat_map-append}
use Rattle.std.proofs.lemmas.List.{append-nil}
use Rattle.std.proofs.lemmas.List.Sorted.{IsPermutation-map, sum_by-IsPermutation}
use Rattle.std.proofs.lemmas.List.Sums.{sum_by-append, sum_by-cons}
use Rattle.std.proofs.lemmas.Map.Text.{is_eq-slice_cmp}
use Rattle.nc_names.specs.Same.{is_same_text}
use Rattle.nc_names.specs.declared.path.Row.{Row}
use Rattle.nc_names.proofs.SameLemmas.{first_true, second_true}
use Rattle.nc_defaults.specs.Within.{place_here, places_in}
use Rattle.nc_defaults.specs.declared.spots.Spot.{Spot}
use Rattle.nc_schema.specs.InUse.{values_below}
use Rattle.nc_schema.specs.Places.{Place}
use Rattle.nc_schema.specs.Tables.{Tables}
use Rattle.nc_schema.specs.Violations.{agree_in, has_text, repeated, unique_violations}
use Rattle.nc_validate.specs.inner.Apart.{AreOnce, comes_after, rise_from, values_in}
use Rattle.nc_validate.specs.inner.Tuples.{texts}
use Rattle.nc_validate.proofs.UniqueLemmas.{entry_taken, violation_at}

-- ---- how often a text is among some
abbrev times : List ℕ → List (List ℕ) → ℕ
times text others = count_by (is_same_text text) others

times_more : (text other : List ℕ) (others : List (List ℕ)) → times text (other ∷ others) ≡ cond (is_same_text text other) 1 0 + times text others
times_more text other others = sum_by-cons (λ (one : List ℕ). cond (is_same_text text one) 1 0) other others

times_joined : (text : List ℕ) (some others : List (List ℕ)) → times text (some ++ others) ≡ times text some + times text others
times_joined text some others = sum_by-append (λ (one : List ℕ). cond (is_same_text text one) 1 0) some others

-- ---- texts that rise
is_less : (o : Ordering) → is_lt o ≡ true → o ≡ Less
is_less Less e = refl
is_less Equal e = absurd (let clash : false ≡ true = e in cc)
is_less Greater e = absurd (let clash : false ≡ true = e in cc)

differs : (text other : List ℕ) → slice_cmp nat_cmp text other ≡ Less → is_same_text text other ≡ false
differs text other less = sym (is_eq-slice_cmp text other) ∙ ap is_eq less

-- what comes before the last one is none of those after it
not_later : (text last : List ℕ) (later : List (List ℕ)) → slice_cmp nat_cmp text last ≡ Less → rise_from (Some last) later ≡ true → times text later ≡ 0
not_later text last [] before rise = refl
not_later text last (next ∷ later) before rise =
    let order : IsTotalOrder (slice_cmp nat_cmp) = nat_list_cmp_total in
    let less : slice_cmp nat_cmp last next ≡ Less = is_less (slice_cmp nat_cmp last next) (first_true (is_lt (slice_cmp nat_cmp last next)) (rise_from (Some next) later) rise) in
    let below : slice_cmp nat_cmp text next ≡ Less = order.trans text last next before less in
    times_more text next later
    ∙ (λ i. cond (differs text next below i) 1 0 + not_later text next later below (second_true (is_lt (slice_cmp nat_cmp last next)) (rise_from (Some next) later) rise) i)

-- nor is the last one
not_again : (last : List ℕ) (later : List (List ℕ)) → rise_from (Some last) later ≡ true → times last later ≡ 0
not_again last [] rise = refl
not_again last (next ∷ later) rise =
    let less : slice_cmp nat_cmp last next ≡ Less = is_less (slice_cmp nat_cmp last next) (first_true (is_lt (slice_cmp nat_cmp last next)) (rise_from (Some next) later) rise) in
    times_more last next later
    ∙ (λ i. cond (differs last next less i) 1 0 + not_later last next later less (second_true (is_lt (slice_cmp nat_cmp last next)) (rise_from (Some next) later) rise) i)

once : (last : Option (List ℕ)) (later : List (List ℕ)) → rise_from last later ≡ true → AreOnce later
once last [] rise text = few
  where
    few : 0 ≤ 1
    few = omega arith
once last (next ∷ later) rise text = by (is_same_text text next) refl (once (Some next) later after text)
  where
    after : rise_from (Some next) later ≡ true
    after = second_true (comes_after last next) (rise_from (Some next) later) rise

    by : (b : Bool) → is_same_text text next ≡ b → times text later ≤ 1 → times text (next ∷ later) ≤ 1
    by true same few =
        let is : text ≡ next = (bytes_decides text next).0 same in
        let none : times text later ≡ 0 = ap (λ (t : List ℕ). times t later) is ∙ not_again next later after in
        let all : times text (next ∷ later) ≡ 1 + 0 = times_more text next later ∙ (λ i. cond (same i) 1 0 + none i) in
        subst (λ n. n ≤ 1) (sym all) (omega arith)
    by false other few =
        let all : times text (next ∷ later) ≡ 0 + times text later = times_more text next later ∙ ap (λ b. cond b 1 0 + times text later) other in
        subst (λ n. n ≤ 1) (sym all) (omega (arith, few))

-- ---- whatever order they had
pub sorted_once : (tables : Tables) (leaf : ℕ) (entries : List Place) (values sorted : List (Bor (List ℕ))) → texts values ≡ values_in tables leaf entries → IsPermutation values sorted →
    rise_from None (texts sorted) ≡ true → AreOnce (values_in tables leaf entries)
sorted_once tables leaf entries values sorted are moved rise text =
    subst (λ (ts : List (List ℕ)). times text ts ≤ 1) are
    (subst (λ n. n ≤ 1)
    (sum_by-IsPermutation (λ (one : List ℕ). cond (is_same_text text one) 1 0) (texts values) (texts sorted) (IsPermutation-map (λ (value : Bor (List ℕ)). value.now) values sorted moved))
    (once None (texts sorted) rise text))

-- ---- two lists of values that have none in common
not_there : (text : List ℕ) (others : List (List ℕ)) → times text others ≤ 0 → has_text text others ≡ false
not_there text [] few = refl
not_there text (other ∷ others) few =
    let parted : cond (is_same_text text other) 1 0 + times text others ≤ 0 = subst (λ n. n ≤ 0) (times_more text other others) few in
    by (is_same_text text other) parted (not_there text others (omega (arith, parted)))
  where
    by : (b : Bool) → cond b 1 0 + times text others ≤ 0 → has_text text others ≡ false → (b || has_text text others) ≡ false
    by true parted none = absurd (omega (arith, parted))
    by false parted none = none

no_share : (some others : List (List ℕ)) → ((text : List ℕ) → times text some + times text others ≤ 1) → list_any (λ value. has_text value some) others ≡ false
no_share some [] few = refl
no_share some (other ∷ others) few =
    let own : times other (other ∷ others) ≡ 1 + times other others = times_more other other others ∙ ap (λ b. cond b 1 0 + times other others) ((bytes_decides other other).1 refl) in
    let bound : times other some + (1 + times other others) ≤ 1 = subst (λ n. times other some + n ≤ 1) own (few other) in
    let none : has_text other some ≡ false = not_there other some (omega (arith, bound)) in
    λ i. none i || no_share some others (λ text. fewer text (subst (λ n. times text some + n ≤ 1) (times_more text other others) (few text))) i
  where
    fewer : (text : List ℕ) → times text some + (cond (is_same_text text other) 1 0 + times text others) ≤ 1 → times text some + times text others ≤ 1
    fewer text bound = omega (arith, bound)

-- ---- entries
one_fails : (test : ℕ → Bool) (numbers : List ℕ) (i : ℕ) → i < length numbers → test (get_or numbers i 0) ≡ false → list_all test numbers ≡ false
one_fails test [] i within fails = absurd (omega (arith, within))
one_fails test (number ∷ numbers) zero within fails = ap (λ b. b && list_all test numbers) fails
one_fails test (number ∷ numbers) (suc i) within fails = by (test number) (one_fails test numbers i (omega (arith, within)) fails)
  where
    by : (b : Bool) → list_all test numbers ≡ false → (b && list_all test numbers) ≡ false
    by true e = e
    by false e = refl

module _ (tables : Tables) (leafs : List ℕ) (i : ℕ) (within : i < length leafs) where
  -- the values of one of the leafs
  abbrev values_of : List Place → List (List ℕ)
  values_of entries = values_in tables (get_or leafs i 0) entries

  abbrev own_values : Place → List (List ℕ)
  own_values entry = values_below tables entry (get_or leafs i 0)

  no_agree : (entry : Place) (before : List Place) → ((text : List ℕ) → times text (values_of before) + times text (own_values entry) ≤ 1) → list_any (agree_in tables leafs entry) before ≡ false
  no_agree entry [] few = refl
  no_agree entry (other ∷ before) few =
      let apart : agree_in tables leafs entry other ≡ false =
      one_fails (λ (leaf : ℕ). list_any (λ value. has_text value (values_below tables other leaf)) (values_below tables entry leaf)) leafs i within
      (no_share (own_values other) (own_values entry) (λ text. front text (parted text))) in
      λ k. apart k || no_agree entry before (λ text. back text (parted text)) k
    where
      parted : (text : List ℕ) → (times text (own_values other) + times text (values_of before)) + times text (own_values entry) ≤ 1
      parted text = subst (λ n. n + times text (own_values entry) ≤ 1) (times_joined text (own_values other) (values_of before)) (few text)

      front : (text : List ℕ) → (times text (own_values other) + times text (values_of before)) + times text (own_values entry) ≤ 1 → times text (own_values other) + times text (own_values entry) ≤ 1
      front text bound = omega (arith, bound)

      back : (text : List ℕ) → (times text (own_values other) + times text (values_of before)) + times text (own_values entry) ≤ 1 → times text (values_of before) + times text (own_values entry) ≤ 1
      back text bound = omega (arith, bound)

  none_repeated : (before later : List Place) → ((text : List ℕ) → times text (values_of before) + times text (values_of later) ≤ 1) → repeated (agree_in tables leafs) before later ≡ []
  none_repeated before [] few = refl
  none_repeated before (entry ∷ later) few =
      λ k. (if no_agree entry before (λ text. front text (parted text)) k then entry ∷ [] else []) ++ none_repeated (before ++ entry ∷ []) later (λ text. subst (λ n. n + times text (values_of later) ≤ 1) (sym (longer text)) (both text (parted text))) k
    where
      parted : (text : List ℕ) → times text (values_of before) + (times text (own_values entry) + times text (values_of later)) ≤ 1
      parted text = subst (λ n. times text (values_of before) + n ≤ 1) (times_joined text (own_values entry) (values_of later)) (few text)

      front : (text : List ℕ) → times text (values_of before) + (times text (own_values entry) + times text (values_of later)) ≤ 1 → times text (values_of before) + times text (own_values entry) ≤ 1
      front text bound = omega (arith, bound)

      both : (text : List ℕ) → times text (values_of before) + (times text (own_values entry) + times text (values_of later)) ≤ 1 →
          (times text (values_of before) + times text (own_values entry)) + times text (values_of later) ≤ 1
      both text bound = omega (arith, bound)

      longer : (text : List ℕ) → times text (values_of (before ++ entry ∷ [])) ≡ times text (values_of before) + times text (own_values entry)
      longer text =
          ap (λ (ts : List (List ℕ)). times text ts) (flat_map-append (λ (one : Place). own_values one) before (entry ∷ []) ∙ ap (λ (ts : List (List ℕ)). values_of before ++ ts) (append-nil (own_values entry)))
          ∙ times_joined text (values_of before) (own_values entry)

  -- where its values are once there, no two entries agree
  pub none_broken : (entries : List Place) → AreOnce (values_of entries) → unique_violations tables entries leafs ≡ []
  none_broken entries few = ap (λ (es : List Place). map (λ (entry : Place). violation_at entry.steps) es) (none_repeated [] entries (λ text. none_before (times text (values_of entries)) (few text)))
    where
      none_before : (n : ℕ) → n ≤ 1 → 0 + n ≤ 1
      none_before n bound = omega (arith, bound)

-- ---- the values of one entry more
pub entry_more : (tables : Tables) (leaf : ℕ) (rows : List Row) (spots : List Spot) (i : ℕ) (spot : Spot) (out now more : List (Bor (List ℕ))) → i < length spots → spot ≡ get_or spots i spot →
    texts now ≡ texts out ++ texts more → texts more ≡ values_below tables (place_here rows spot.steps spot.here) leaf → texts out ≡ values_in tables leaf (places_in rows (take i spots)) →
    texts now ≡ values_in tables leaf (places_in rows (take (i + 1) spots))
entry_more tables leaf rows spots i spot out now more within at is here so_far =
    entry_taken tables [] rows spots i spot within at (λ (entries : List Place). texts now ≡ values_in tables leaf entries)
    (is
    ∙ (λ k. so_far k ++ (here ∙ sym (append-nil (values_below tables (place_here rows spot.steps spot.here) leaf))) k)
    ∙ sym (flat_map-append (λ (entry : Place). values_below tables entry leaf) (places_in rows (take i spots)) (place_here rows spot.steps spot.here ∷ [])))

-- ---- the walk over texts that rise
module _ (last : Option (List ℕ)) (values : List (Bor (List ℕ))) (i : ℕ) (whole : Bool) where
  pub all_risen : length values ≤ i → rise_from last (texts (drop i values)) ≡ whole → true ≡ whole
  all_risen past so_far = ap (λ (vs : List (Bor (List ℕ))). rise_from last (texts vs)) (sym none) ∙ so_far
    where
      none : drop i values ≡ []
      none = grind (arith, common_steps, past)

  module _ (zeros : Bor (List ℕ)) (within : i < length values) where
    split : drop i values ≡ get_or values i zeros ∷ drop (i + 1) values
    split = grind (arith, common_steps, within)

    pub risen : comes_after last (get_or values i zeros).now ≡ true → rise_from last (texts (drop i values)) ≡ whole → rise_from (Some (get_or values i zeros).now) (texts (drop (i + 1) values)) ≡ whole
    risen after so_far =
        ap (λ b. b && rise_from (Some (get_or values i zeros).now) (texts (drop (i + 1) values))) (sym after)
        ∙ ap (λ (vs : List (Bor (List ℕ))). rise_from last (texts vs)) (sym split)
        ∙ so_far

    pub fallen : comes_after last (get_or values i zeros).now ≡ false → rise_from last (texts (drop i values)) ≡ whole → false ≡ whole
    fallen falls so_far =
        ap (λ b. b && rise_from (Some (get_or values i zeros).now) (texts (drop (i + 1) values))) (sym falls)
        ∙ ap (λ (vs : List (Bor (List ℕ))). rise_from last (texts vs)) (sym split)
        ∙ so_far
