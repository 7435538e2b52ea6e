-- One level of a filter: what its functions find is what the level selects.
use Rattle.std.proofs.Common.{◌≡◌, ◌&&◌, ◌||◌, ◌+◌, ◌<◌, ◌==◌, ℕ, zero, suc, Bool, true, false, not, cond, List, [], ◌∷◌, ◌++◌, None, Some, drop, length, take, refl, sym, ap, subst, ◌∙◌, Bor, arith}
use Rattle.std.specs.Prelude.{Option, map}
use Rattle.std.specs.List.{filter, flat_map, list_any, prefix_len}
use Rattle.std.specs.Option.{option_map_or}
use Rattle.std.proofs.lemmas.Bool.Decides.{Decides-eqb}
use Rattle.std.proofs.lemmas.List.{length-drop, length-map}
use Rattle.nc_message.specs.declared.tree.Elem.{Elem}
use Rattle.nc_names.specs.declared.path.Row.{Row}
use Rattle.nc_schema.specs.Tables.{Tables}
use Rattle.nc_protocol.specs.Filter.{chosen, is_containment, is_content_match, is_of_matches, is_of_text, level_of, selects}
use Rattle.nc_filter.specs.inner.Lists.{IsSame}
use Rattle.nc_filter.specs.inner.Names.{AreNamed}
use Rattle.nc_filter.specs.inner.Picks.{Adds, ends, first_node, has_node, is_matched, is_guarded, is_named, is_number, is_plain, is_selection, node_at, opens, picked, picks_at, says, within}
use Rattle.nc_filter.proofs.KeyLemmas.{holds_free}
use Rattle.nc_filter.proofs.PickLemmas.{picks_whole, picks_parts, within_is}
use Rattle.nc_filter.proofs.Unions.{adds_all, adds_among, adds_none, adds_same, adds_then, and_assoc, any_filter, any_flat_map, any_nothing, any_or, any_same, or_assoc, or_false}

number_itself : (o : Option ℕ) → is_number o o ≡ true
number_itself None = refl
number_itself (Some n) = (Decides-eqb n n).1 refl

-- ---- the loop over the data nodes at a depth
one_more : (n : ℕ) → 1 + n ≡ suc n
one_more n = omega arith

map_take : {X Y : Type 0} (f : X → Y) (n : ℕ) (xs : List X) → map f (take n xs) ≡ take n (map f xs)
map_take f zero xs = refl
map_take f (suc n) [] = refl
map_take f (suc n) (x ∷ xs) = ap (λ more. f x ∷ more) (map_take f n xs)

map_drop : {X Y : Type 0} (f : X → Y) (n : ℕ) (xs : List X) → map f (drop n xs) ≡ drop n (map f xs)
map_drop f zero xs = refl
map_drop f (suc n) [] = refl
map_drop f (suc n) (x ∷ xs) = map_drop f n xs

prefix_map : {X Y : Type 0} (p : Y → Bool) (f : X → Y) (xs : List X) → prefix_len (λ x. p (f x)) xs ≡ prefix_len p (map f xs)
prefix_map p f [] = refl
prefix_map p f (x ∷ xs) = ap (λ n. cond (p (f x)) (1 + n) 0) (prefix_map p f xs)

some_first : (depth : ℕ) (rows : List Row) (wanted : Option ℕ) → wanted ≡ first_node depth rows → 0 < length rows → 0 < prefix_len (λ row. is_number (node_at depth row) wanted) rows
some_first depth [] wanted is some = absurd (omega (arith, some))
some_first depth (row ∷ rows) wanted is some = by (is_number (node_at depth row) wanted) there
  where
    there : is_number (node_at depth row) wanted ≡ true
    there = ap (λ n. is_number (node_at depth row) n) is ∙ number_itself (node_at depth row)

    by : (b : Bool) → b ≡ true → 0 < cond b (1 + prefix_len (λ row. is_number (node_at depth row) wanted) rows) 0
    by true e = omega arith
    by false e = let clash : false ≡ true = e in cc

pub none_there : {X : Type 0} (xs : List X) (b : Bool) → b ≡ (length xs == 0) → b ≡ true → xs ≡ []
none_there [] b is e = refl
none_there (x ∷ xs) b is e = absurd (omega (arith, none))
  where
    none : length (x ∷ xs) ≡ 0
    none = (Decides-eqb (length (x ∷ xs)) 0).0 (sym is ∙ e)

pub some_there : {X : Type 0} (xs : List X) (b : Bool) → (xs ≡ [] → b ≡ true) → b ≡ false → 0 < length xs
some_there [] b back e = let clash : false ≡ true = sym e ∙ back refl in cc
some_there (x ∷ xs) b back e = omega arith

pub shorter_rest : (depth count : ℕ) (rows rest : List (Bor Row)) (wanted : Option ℕ) → wanted ≡ first_node depth (map (λ row. row.now) rows) → 0 < length rows →
    count ≡ prefix_len (λ row. is_number (node_at depth row.now) wanted) rows → rest ≡ drop count rows → length rest < length rows
shorter_rest depth count rows rest wanted is some count_is rest_is =
    let first = some_first depth (map (λ row. row.now) rows) wanted is (subst (λ n. 0 < n) (sym (length-map rows (λ (row : Bor Row). row.now))) some) in
    let same = prefix_map (λ row. is_number (node_at depth row) wanted) (λ (row : Bor Row). row.now) rows in
    let left = ap length rest_is ∙ length-drop count rows in
    omega (arith, first, same, count_is, left, some)

module _ (tables : Tables) (all : List Row) (depth : ℕ) (level : List Elem) where
  abbrev left : (Row → Bool) → List Row → Bool
  left test rows = list_any (λ row. picked tables all depth level row && test row) rows

  -- the rows that stand first and pass a test, and those from there on
  parted : (p f : Row → Bool) (rows : List Row) → list_any f rows ≡ (list_any (λ row. p row && f row) (take (prefix_len p rows) rows) || list_any f (drop (prefix_len p rows) rows))
  parted p f [] = refl
  parted p f (row ∷ rows) = by (p row) refl (parted p f rows)
    where
      by : (b : Bool) → p row ≡ b → list_any f rows ≡ (list_any (λ row. p row && f row) (take (prefix_len p rows) rows) || list_any f (drop (prefix_len p rows) rows)) →
          (f row || list_any f rows)
          ≡ (list_any (λ row. p row && f row) (take (cond b (1 + prefix_len p rows) 0) (row ∷ rows)) || list_any f (drop (cond b (1 + prefix_len p rows) 0) (row ∷ rows)))
      by true e more =
          ap (λ b. f row || b) more
          ∙ sym (or_assoc (f row) (list_any (λ row. p row && f row) (take (prefix_len p rows) rows)) (list_any f (drop (prefix_len p rows) rows)))
          ∙ ap (λ b. ((b && f row) || list_any (λ row. p row && f row) (take (prefix_len p rows) rows)) || list_any f (drop (prefix_len p rows) rows)) (sym e)
          ∙ ap (λ n. list_any (λ row. p row && f row) (take n (row ∷ rows)) || list_any f (drop n (row ∷ rows))) (sym (one_more (prefix_len p rows)))
      by false e more = refl

  pub level_next : (out now : List Row) (rows here rest : List (Bor Row)) (node : Option ℕ) (count : ℕ) → count ≡ prefix_len (λ row. is_number (node_at depth row.now) node) rows →
      here ≡ take count rows → rest ≡ drop count rows → Adds out now (λ row. is_number (node_at depth row) node && picked tables all depth level row) (map (λ row. row.now) here) →
      (test : Row → Bool) → (list_any test now || left test (map (λ row. row.now) rest)) ≡ (list_any test out || left test (map (λ row. row.now) rows))
  level_next out now rows here rest node count count_is here_is rest_is adds test =
      ap (λ b. b || left test (map (λ row. row.now) rest)) (adds test)
      ∙ (λ i. (list_any test out || list_any (λ row. (is_number (node_at depth row) node && picked tables all depth level row) && test row) (front i)) || left test (back i))
      ∙ or_assoc (list_any test out) (list_any (λ row. (is_number (node_at depth row) node && picked tables all depth level row) && test row) (take end whole)) (left test (drop end whole))
      ∙ ap (λ b. list_any test out || b)
      (ap (λ b. b || left test (drop end whole))
      (any_same (λ row. (is_number (node_at depth row) node && picked tables all depth level row) && test row) (λ row. is_number (node_at depth row) node && (picked tables all depth level row && test row)) (take end whole)
      (λ row. and_assoc (is_number (node_at depth row) node) (picked tables all depth level row) (test row)))
      ∙ sym (parted (λ row. is_number (node_at depth row) node) (λ row. picked tables all depth level row && test row) whole))
    where
      whole : List Row
      whole = map (λ row. row.now) rows

      end : ℕ
      end = prefix_len (λ row. is_number (node_at depth row) node) whole

      counted : count ≡ end
      counted = count_is ∙ prefix_map (λ row. is_number (node_at depth row) node) (λ (row : Bor Row). row.now) rows

      front : map (λ row. row.now) here ≡ take end whole
      front = ap (map (λ row. row.now)) here_is ∙ map_take (λ (row : Bor Row). row.now) count rows ∙ ap (λ n. take n whole) counted

      back : map (λ row. row.now) rest ≡ drop end whole
      back = ap (map (λ row. row.now)) rest_is ∙ map_drop (λ (row : Bor Row). row.now) count rows ∙ ap (λ n. drop n whole) counted

  pub some_node : (out now : List Row) (node : ℕ) (rows : List Row) → Adds out now (λ row. has_node depth node row && picks_at tables all depth level row node) rows →
      Adds out now (λ row. is_number (node_at depth row) (Some node) && picked tables all depth level row) rows
  some_node out now node rows =
      adds_same out now (λ row. has_node depth node row && picks_at tables all depth level row node) (λ row. is_number (node_at depth row) (Some node) && picked tables all depth level row) rows
      (λ row. by (node_at depth row) (picks_at tables all depth level row))
    where
      by : (o : Option ℕ) (picks : ℕ → Bool) → (is_number o (Some node) && picks node) ≡ (is_number o (Some node) && option_map_or picks o false)
      by None picks = refl
      by (Some n) picks = same (n == node) refl
        where
          same : (b : Bool) → (n == node) ≡ b → (b && picks node) ≡ (b && picks n)
          same false e = refl
          same true e = ap picks (sym ((Decides-eqb n node).0 e))

  pub no_node : (out rows : List Row) → Adds out out (λ row. is_number (node_at depth row) None && picked tables all depth level row) rows
  no_node out rows = adds_none out (λ row. is_number (node_at depth row) None && picked tables all depth level row) rows (λ row. by (node_at depth row) (picks_at tables all depth level row))
    where
      by : (o : Option ℕ) (picks : ℕ → Bool) → (is_number o None && option_map_or picks o false) ≡ false
      by None picks = refl
      by (Some n) picks = refl

  pub level_done : (out now rows : List Row) → ((test : Row → Bool) → (list_any test now || left test []) ≡ (list_any test out || left test rows)) →
      Adds out now (picked tables all depth level) rows
  level_done out now rows so_far test = sym (or_false (list_any test now)) ∙ so_far test

-- ---- one data node
module _ (tables : Tables) (all : List Row) (depth node : ℕ) (level : List Elem) where
  abbrev here : Row → Bool
  here row = has_node depth node row && picks_at tables all depth level row node

  abbrev ones : List Elem
  ones = filter (is_named tables node) level

  guarded : (p q : Bool) (h : Bool) → (h ≡ true → p ≡ q) → (h && p) ≡ (h && q)
  guarded p q true same = same refl
  guarded p q false same = refl

  same_ones : (named : List Elem) → AreNamed tables node level named → (p : Elem → Bool) → list_any p named ≡ list_any p ones
  same_ones named are p = are p ∙ sym (any_filter p (is_named tables node) level)

  pub node_whole : (out rows : List Row) (named : List Elem) → AreNamed tables node level named → true ≡ list_any is_selection named → Adds out (out ++ filter (has_node depth node) rows) here rows
  node_whole out rows named are selection =
      adds_same out (out ++ filter (has_node depth node) rows) (λ row. has_node depth node row && true) here rows
      (λ row. guarded true (picks_at tables all depth level row node) (has_node depth node row) (λ has. sym (picks_whole tables all row depth node level has (sym (selection ∙ same_ones named are is_selection)))))
      (adds_among out (out ++ filter (has_node depth node) rows) (λ row. true) (has_node depth node) rows (adds_all out (filter (has_node depth node) rows)))

  pub node_parts : (out mid now rows : List Row) (named : List Elem) → AreNamed tables node level named → false ≡ list_any is_selection named →
      Adds out mid (is_matched named depth) (filter (has_node depth node) rows) →
      Adds mid now (λ row. list_any (within tables all (depth + 1) row) (filter is_containment named)) (filter (has_node depth node) rows) →
      Adds out now here rows
  node_parts out mid now rows named are none first second =
      adds_same out now (λ row. has_node depth node row && (is_matched named depth row || list_any (within tables all (depth + 1) row) (filter is_containment named))) here rows
      (λ row. guarded (is_matched named depth row || list_any (within tables all (depth + 1) row) (filter is_containment named)) (picks_at tables all depth level row node) (has_node depth node row)
      (λ has. (λ i. (ends depth row && same_ones named are (λ elem. is_content_match elem && is_of_text elem row) i)
      || (any_filter (within tables all (depth + 1) row) is_containment named ∙ same_ones named are (λ elem. is_containment elem && within tables all (depth + 1) row elem)) i)
      ∙ sym (picks_parts tables all row depth node level has (sym (none ∙ same_ones named are is_selection)))))
      (adds_among out now (λ row. is_matched named depth row || list_any (within tables all (depth + 1) row) (filter is_containment named)) (has_node depth node) rows
      (adds_then out mid now (is_matched named depth) (λ row. list_any (within tables all (depth + 1) row) (filter is_containment named)) (filter (has_node depth node) rows) first second))

-- ---- levels without and with content matches
module _ (tables : Tables) (all : List Row) (depth : ℕ) where
  plain_opens : (row : Row) (elem : Elem) → is_plain elem ≡ true → within tables all depth row elem ≡ opens tables all depth row elem
  plain_opens row elem plain =
      within_is tables all row depth elem ∙ ap (λ b. b && opens tables all depth row elem) (holds_free tables all (take depth row.path.steps) elem.parts plain)

  opens_same : (row : Row) (elems : List Elem) → list_any is_guarded elems ≡ false → list_any (opens tables all depth row) elems ≡ list_any (within tables all depth row) elems
  opens_same row [] none = refl
  opens_same row (elem ∷ elems) none = by (is_plain elem) refl none (opens_same row elems)
    where
      by : (b : Bool) → is_plain elem ≡ b → (not b || list_any is_guarded elems) ≡ false →
          (list_any is_guarded elems ≡ false → list_any (opens tables all depth row) elems ≡ list_any (within tables all depth row) elems) →
          (opens tables all depth row elem || list_any (opens tables all depth row) elems) ≡ (within tables all depth row elem || list_any (within tables all depth row) elems)
      by true plain none more = λ i. sym (plain_opens row elem plain) i || more none i
      by false plain none more = let clash : true ≡ false = none in cc

  pub open_done : (out now rows : List Row) (elems : List Elem) → false ≡ list_any is_guarded elems → Adds out now (λ row. list_any (opens tables all depth row) elems) rows →
      Adds out now (λ row. list_any (within tables all depth row) elems) rows
  open_done out now rows elems none =
      adds_same out now (λ row. list_any (opens tables all depth row) elems) (λ row. list_any (within tables all depth row) elems) rows (λ row. opens_same row elems (sym none))

  picked_joined : (row : Row) (elems : List Elem) → picked tables all depth (flat_map level_of elems) row ≡ list_any (λ elem. picked tables all depth (level_of elem) row) elems
  picked_joined row elems = by (node_at depth row)
    where
      by : (o : Option ℕ) → option_map_or (picks_at tables all depth (flat_map level_of elems) row) o false
          ≡ list_any (λ elem. option_map_or (picks_at tables all depth (level_of elem) row) o false) elems
      by None = sym (any_nothing elems)
      by (Some node) = any_flat_map (λ elem. is_named tables node elem && says tables all depth row elem) level_of elems

  pub opens_all : (row : Row) (elems : List Elem) →
      list_any (opens tables all depth row) elems ≡ (list_any (λ elem. is_of_matches (level_of elem)) elems || picked tables all depth (flat_map level_of elems) row)
  opens_all row elems =
      any_or (λ elem. is_of_matches (level_of elem)) (λ elem. picked tables all depth (level_of elem) row) elems
      ∙ ap (λ b. list_any (λ elem. is_of_matches (level_of elem)) elems || b) (sym (picked_joined row elems))

  pub open_whole : (out rows : List Row) (elems : List Elem) → true ≡ list_any (λ elem. is_of_matches (level_of elem)) elems →
      Adds out (out ++ rows) (λ row. list_any (opens tables all depth row) elems) rows
  open_whole out rows elems whole =
      adds_same out (out ++ rows) (λ row. true) (λ row. list_any (opens tables all depth row) elems) rows
      (λ row. sym (opens_all row elems ∙ ap (λ b. b || picked tables all depth (flat_map level_of elems) row) (sym whole))) (adds_all out rows)

  pub open_level : (out now rows moved : List Row) (elems : List Elem) → false ≡ list_any (λ elem. is_of_matches (level_of elem)) elems → IsSame rows moved →
      Adds out now (picked tables all depth (flat_map level_of elems)) moved → Adds out now (λ row. list_any (opens tables all depth row) elems) rows
  open_level out now rows moved elems none same adds =
      adds_same out now (picked tables all depth (flat_map level_of elems)) (λ row. list_any (opens tables all depth row) elems) rows
      (λ row. sym (opens_all row elems ∙ ap (λ b. b || picked tables all depth (flat_map level_of elems) row) (sym none)))
      (λ test. adds test ∙ ap (λ b. list_any test out || b) (same (λ row. picked tables all depth (flat_map level_of elems) row && test row)))

-- the whole filter
pub chosen_done : (tables : Tables) (all now : List Row) (elem : Elem) → Adds [] now (λ row. list_any (within tables all 0 row) (elem ∷ [])) all →
    (test : Row → Bool) → list_any test now ≡ list_any test (chosen tables elem all)
chosen_done tables all now elem adds test =
    adds test
    ∙ any_same (λ row. list_any (within tables all 0 row) (elem ∷ []) && test row) (λ row. selects tables all row (level_of elem) [] row.path.steps && test row) all
    (λ row. ap (λ b. b && test row) (or_false (within tables all 0 row elem)))
    ∙ sym (any_filter test (λ row. selects tables all row (level_of elem) [] row.path.steps) all)
