-- Instances that elements name and in which their content matches hold, and what wants select in them.
use Rattle.std.proofs.Common.{◌≡◌, ◌&&◌, ◌||◌, ◌+◌, ◌<◌, ℕ, zero, suc, Bool, true, false, not, List, [], ◌∷◌, ◌++◌, None, Some, length, take, get_or, refl, sym, ap, ◌∙◌, Bor, arith}
use Rattle.std.specs.Prelude.{Option, map, option_map, slice_get}
use Rattle.std.specs.BTreeSet.{BTreeSet}
use Rattle.std.specs.List.{filter, list_any}
use Rattle.std.specs.Option.{option_map_or}
use Rattle.std.proofs.lemmas.List.Folds.{list_any-append, list_any_more}
use Rattle.nc_names.specs.Same.{is_same_text}
use Rattle.nc_names.specs.declared.path.Row.{Row}
use Rattle.nc_names.specs.declared.path.Step.{Step}
use Rattle.nc_message.specs.declared.tree.Elem.{Elem}
use Rattle.nc_schema.specs.Tables.{Tables}
use Rattle.nc_protocol.specs.Filter.{holds, level_of}
use Rattle.nc_filter.specs.declared.groups.Group.{Group}
use Rattle.nc_filter.specs.declared.runs.Run.{Run}
use Rattle.nc_filter.specs.declared.rows.Spot.{Spot}
use Rattle.nc_filter.specs.declared.wants.Want.{Want}
use Rattle.nc_filter.specs.inner.Instances.{AddsNames, AreAsked, AreNamesOf, IsUnder, asked_in, elems_pick, instance_keys, is_asked, is_named_at, number_labels, step_labels, wants_pick}
use Rattle.nc_filter.specs.inner.Keys.{among, asked, has_all, keys_in, name_key}
use Rattle.nc_filter.specs.inner.Labels.{AreFirst}
use Rattle.nc_filter.specs.inner.Picks.{Adds, is_named, node_at, opens, within}
use Rattle.nc_filter.specs.inner.Runs.{AreGroups, AreKnown, AreRuns, elem_says, group_tells, has_key, told_in}
use Rattle.nc_filter.specs.inner.Sets.{has}
use Rattle.nc_filter.specs.inner.Tables.{adds_text, has_text}
use Rattle.nc_filter.proofs.GroupLemmas.{tells_is}
use Rattle.nc_filter.proofs.KeyLemmas.{holds_keys, turned_text}
use Rattle.nc_filter.proofs.LabelLemmas.{name_not, name_part}
use Rattle.nc_filter.proofs.PickLemmas.{within_is}
use Rattle.nc_filter.proofs.TableLemmas.{known_same}
use Rattle.nc_filter.proofs.Unions.{and_assoc, and_false, any_and, any_and_last, any_filter, any_map, any_nothing, any_same, any_turned, no_more, or_assoc, or_false, or_swap}

-- ---- what is asked for, and what is there
all_first : (a b : Bool) → not (not a || b) ≡ (a && not b)
all_first true b = refl
all_first false b = refl

taken_suc : {X : Type 0} (xs : List X) (at : ℕ) → slice_get (take (suc at) xs) at ≡ slice_get xs at
taken_suc [] at = refl
taken_suc (x ∷ xs) zero = refl
taken_suc (x ∷ xs) (suc at) = taken_suc xs at

module _ (tables : Tables) (all : List Row) where
  step_not : (upper : Option ℕ) (above : List Step) (wanted : List ℕ) → among (step_labels tables upper above) (1 ∷ wanted) ≡ false
  step_not None above wanted = refl
  step_not (Some at) above wanted = by (slice_get above at)
    where
      by : (o : Option Step) → among (option_map_or (λ step. number_labels tables step.node) o []) (1 ∷ wanted) ≡ false
      by None = refl
      by (Some step) = name_not (slice_get tables.nodes step.node) wanted

  text_there : (upper : Option ℕ) (above : List Step) (wanted : List ℕ) → among (instance_keys tables all upper above) (1 ∷ wanted) ≡ among (keys_in tables all above) wanted
  text_there upper above wanted =
      list_any-append (λ key. is_same_text key (1 ∷ wanted)) (step_labels tables upper above) (map (λ key. 1 ∷ key) (keys_in tables all above))
      ∙ (λ i. step_not upper above wanted i || any_map (λ key. is_same_text key (1 ∷ wanted)) (λ key. 1 ∷ key) (keys_in tables all above) i)

  name_there : (upper : Option ℕ) (above : List Step) (wanted : List ℕ) → among (instance_keys tables all upper above) (0 ∷ wanted) ≡ among (step_labels tables upper above) (0 ∷ wanted)
  name_there upper above wanted =
      list_any-append (λ key. is_same_text key (0 ∷ wanted)) (step_labels tables upper above) (map (λ key. 1 ∷ key) (keys_in tables all above))
      ∙ ap (λ b. among (step_labels tables upper above) (0 ∷ wanted) || b) (any_map (λ key. is_same_text key (0 ∷ wanted)) (λ key. 1 ∷ key) (keys_in tables all above) ∙ any_nothing (keys_in tables all above))
      ∙ or_false (among (step_labels tables upper above) (0 ∷ wanted))

  texts_there : (upper : Option ℕ) (above : List Step) (elem : Elem) → has_all (λ wanted. among (instance_keys tables all upper above) wanted) (map (λ key. 1 ∷ key) (asked elem)) ≡ holds tables all above (level_of elem)
  texts_there upper above elem =
      ap not (any_map (λ key. not (among (instance_keys tables all upper above) key)) (λ key. 1 ∷ key) (asked elem))
      ∙ (λ i. not (list_any (λ key. not (text_there upper above key i)) (asked elem)))
      ∙ sym (holds_keys tables all above elem)

  asks : (upper : Option ℕ) (depth : ℕ) (row : Row) (elem : Elem) → IsUnder upper depth →
      has_all (λ wanted. among (instance_keys tables all upper (take depth row.path.steps)) wanted) (asked_in upper elem)
      ≡ (is_named_at tables upper row elem && holds tables all (take depth row.path.steps) (level_of elem))
  asks None depth row elem under = texts_there None (take depth row.path.steps) elem
  asks (Some at) depth row elem under =
      all_first (among (instance_keys tables all (Some at) above) (0 ∷ name_key elem)) (list_any (λ key. not (among (instance_keys tables all (Some at) above) key)) (map (λ key. 1 ∷ key) (asked elem)))
      ∙ (λ i. named i && texts_there (Some at) above elem i)
    where
      above : List Step
      above = take depth row.path.steps

      one_more : at + 1 ≡ suc at
      one_more = omega arith

      by : (o : Option Step) → among (option_map_or (λ step. number_labels tables step.node) o []) (0 ∷ name_key elem) ≡ option_map_or (λ number. is_named tables number elem) (option_map (λ step. step.node) o) false
      by None = refl
      by (Some step) = sym (name_part elem (slice_get tables.nodes step.node))

      named : among (instance_keys tables all (Some at) above) (0 ∷ name_key elem) ≡ is_named_at tables (Some at) row elem
      named =
          name_there (Some at) above (name_key elem)
          ∙ ap (λ (o : Option Step). among (option_map_or (λ step. number_labels tables step.node) o []) (0 ∷ name_key elem))
          (ap (λ (n : ℕ). slice_get (take n row.path.steps) at) (under ∙ one_more) ∙ taken_suc row.path.steps at)
          ∙ by (slice_get row.path.steps at)

-- ---- what wants select in the instances below theirs
module _ (tables : Tables) (all : List Row) (depth : ℕ) (upper : Option ℕ) (under : IsUnder upper depth) (test : Row → Bool) (wants : List Want) where
  abbrev there : (List ℕ → Bool) → Row → Elem → Bool
  there known row elem = has_all known (asked_in upper elem) && (opens tables all depth row elem && test row)

  abbrev reached : ℕ → (List ℕ → Bool) → Row → Bool
  reached number known row = list_any (λ want. has want.members number && list_any (there known row) (map (λ elem. elem.now) want.elems)) wants

  abbrev says : Run → Elem → Bool
  says run elem = list_any (λ row. opens tables all depth row elem && test row) (map (λ row. row.now) run.rows)

  abbrev tells : (List ℕ → Bool) → Run → Bool
  tells known run = list_any (λ want. has want.members run.parent && list_any (elem_says upper known (says run)) (map (λ elem. elem.now) want.elems)) wants

  by_rows : (known : List ℕ → Bool) (run : Run) → tells known run ≡ list_any (reached run.parent known) (map (λ row. row.now) run.rows)
  by_rows known run =
      any_same (λ want. has want.members run.parent && list_any (elem_says upper known (says run)) (map (λ elem. elem.now) want.elems))
      (λ want. list_any (λ row. has want.members run.parent && list_any (there known row) (map (λ elem. elem.now) want.elems)) rows) wants
      (λ want. ap (λ b. has want.members run.parent && b) (of_elems (map (λ elem. elem.now) want.elems))
      ∙ sym (any_and (has want.members run.parent) (λ row. list_any (there known row) (map (λ elem. elem.now) want.elems)) rows))
      ∙ any_turned (λ want row. has want.members run.parent && list_any (there known row) (map (λ elem. elem.now) want.elems)) wants rows
    where
      rows : List Row
      rows = map (λ row. row.now) run.rows

      of_elems : (elems : List Elem) → list_any (elem_says upper known (says run)) elems ≡ list_any (λ row. list_any (there known row) elems) rows
      of_elems elems =
          any_same (elem_says upper known (says run)) (λ elem. list_any (λ row. there known row elem) rows) elems
          (λ elem. sym (any_and (has_all known (asked_in upper elem)) (λ row. opens tables all depth row elem && test row) rows))
          ∙ any_turned (λ elem row. there known row elem) elems rows

  shuffle : (n h o t : Bool) → ((n && h) && (o && t)) ≡ ((n && (h && o)) && t)
  shuffle true true o t = refl
  shuffle true false o t = refl
  shuffle false h o t = refl

  at_spot : (spot : Spot) → reached spot.number (λ wanted. among (instance_keys tables all upper (take depth spot.row.now.path.steps)) wanted) spot.row.now ≡ wants_pick (elems_pick tables all depth upper) wants test spot
  at_spot spot =
      any_same (λ want. has want.members spot.number && list_any (there known row) (map (λ elem. elem.now) want.elems))
      (λ want. (has want.members spot.number && elems_pick tables all depth upper (map (λ elem. elem.now) want.elems) row) && test row) wants
      (λ want. ap (λ b. has want.members spot.number && b) (of_elems (map (λ elem. elem.now) want.elems))
      ∙ sym (and_assoc (has want.members spot.number) (elems_pick tables all depth upper (map (λ elem. elem.now) want.elems) row) (test row)))
      ∙ any_and_last (λ want. has want.members spot.number && elems_pick tables all depth upper (map (λ elem. elem.now) want.elems) row) (test row) wants
    where
      row : Row
      row = spot.row.now

      known : List ℕ → Bool
      known wanted = among (instance_keys tables all upper (take depth row.path.steps)) wanted

      of_elem : (elem : Elem) → there known row elem ≡ ((is_named_at tables upper row elem && within tables all depth row elem) && test row)
      of_elem elem =
          ap (λ b. b && (opens tables all depth row elem && test row)) (asks tables all upper depth row elem under)
          ∙ shuffle (is_named_at tables upper row elem) (holds tables all (take depth row.path.steps) (level_of elem)) (opens tables all depth row elem) (test row)
          ∙ ap (λ b. (is_named_at tables upper row elem && b) && test row) (sym (within_is tables all row depth elem))

      of_elems : (elems : List Elem) → list_any (there known row) elems ≡ (elems_pick tables all depth upper elems row && test row)
      of_elems elems =
          any_same (there known row) (λ elem. (is_named_at tables upper row elem && within tables all depth row elem) && test row) elems of_elem
          ∙ any_and_last (λ elem. is_named_at tables upper row elem && within tables all depth row elem) (test row) elems

  pub wants_told : (spots : List Spot) (runs : List Run) (groups : List Group) → AreRuns depth spots runs → AreKnown tables all upper runs → AreGroups runs upper wants groups →
      list_any (told_in (opens tables all depth) runs test) groups ≡ list_any (wants_pick (elems_pick tables all depth upper) wants test) spots
  wants_told spots runs groups are known grouped =
      any_same (told_in (opens tables all depth) runs test) (group_tells runs says) groups (tells_is (opens tables all depth) runs test)
      ∙ grouped says
      ∙ any_turned (λ want run. has want.members run.parent && list_any (elem_says upper (λ wanted. has_text run.keys wanted) (says run)) (map (λ elem. elem.now) want.elems)) wants runs
      ∙ known_same tables all upper runs known tells
      ∙ any_same (λ run. tells (has_key tables all upper run) run) (λ run. list_any (g run.parent run.above.now) (map (λ row. row.now) run.rows)) runs
      (λ run. by_rows (has_key tables all upper run) run)
      ∙ are g
      ∙ any_same (λ spot. g spot.number (take depth spot.row.now.path.steps) spot.row.now) (wants_pick (elems_pick tables all depth upper) wants test) spots at_spot
    where
      g : ℕ → List Step → Row → Bool
      g number above row = reached number (λ wanted. among (instance_keys tables all upper above) wanted) row

-- the first wants, in the only instance
pub first_told : (tables : Tables) (all : List Row) (depth : ℕ) (elems : List Elem) (wants : List Want) (none spots : List Spot) (out now rows : List Row) → none ≡ [] → AreFirst elems wants →
    ((f : ℕ → Row → Bool) → list_any (λ spot. f spot.number spot.row.now) spots ≡ (list_any (λ spot. f spot.number spot.row.now) none || list_any (f 0) rows)) →
    ((test : Row → Bool) → list_any test now ≡ (list_any test out || list_any (wants_pick (elems_pick tables all depth None) wants test) spots)) →
    Adds out now (λ row. list_any (within tables all depth row) elems) rows
first_told tables all depth elems wants none spots out now rows is first placed adds test =
    adds test
    ∙ ap (λ b. list_any test out || b)
    (placed f
    ∙ ap (λ (some : List Spot). list_any (λ spot. f spot.number spot.row.now) some || list_any (f 0) rows) is
    ∙ any_same (f 0) (λ row. list_any (within tables all depth row) elems && test row) rows (λ row. ap (λ b. b && test row) (first (within tables all depth row))))
  where
    f : ℕ → Row → Bool
    f number row = list_any (λ want. has want.members number && elems_pick tables all depth None (map (λ elem. elem.now) want.elems) row) wants && test row

-- ---- rows that no element names are selected by none
module _ (tables : Tables) (depth : ℕ) (wants : List Want) (names : BTreeSet (List ℕ)) (are : AreNamesOf wants names) where
  names_there : (number : ℕ) → list_any (has_text names) (number_labels tables number) ≡ list_any (λ want. list_any (is_named tables number) (map (λ elem. elem.now) want.elems)) wants
  names_there number =
      any_same (has_text names) (λ label. list_any (λ want. list_any (λ elem. is_same_text (0 ∷ name_key elem) label) (map (λ elem. elem.now) want.elems)) wants) labels are
      ∙ any_turned (λ label want. list_any (λ elem. is_same_text (0 ∷ name_key elem) label) (map (λ elem. elem.now) want.elems)) labels wants
      ∙ any_same (λ want. list_any (λ label. list_any (λ elem. is_same_text (0 ∷ name_key elem) label) (map (λ elem. elem.now) want.elems)) labels)
      (λ want. list_any (is_named tables number) (map (λ elem. elem.now) want.elems)) wants (λ want. of_elems (map (λ elem. elem.now) want.elems))
    where
      labels : List (List ℕ)
      labels = number_labels tables number

      of_elems : (elems : List Elem) → list_any (λ label. list_any (λ elem. is_same_text (0 ∷ name_key elem) label) elems) labels ≡ list_any (is_named tables number) elems
      of_elems elems =
          any_turned (λ label elem. is_same_text (0 ∷ name_key elem) label) labels elems
          ∙ any_same (λ elem. list_any (λ label. is_same_text (0 ∷ name_key elem) label) labels) (is_named tables number) elems
          (λ elem. any_same (λ label. is_same_text (0 ∷ name_key elem) label) (λ label. is_same_text label (0 ∷ name_key elem)) labels (λ label. turned_text (0 ∷ name_key elem) label)
          ∙ sym (name_part elem (slice_get tables.nodes number)))

  asked_is : (spot : Spot) → is_asked tables depth names spot ≡ list_any (λ want. list_any (is_named_at tables (Some depth) spot.row.now) (map (λ elem. elem.now) want.elems)) wants
  asked_is spot = by (node_at depth spot.row.now)
    where
      by : (o : Option ℕ) → option_map_or (λ number. list_any (has_text names) (number_labels tables number)) o false
          ≡ list_any (λ want. list_any (λ elem. option_map_or (λ number. is_named tables number elem) o false) (map (λ elem. elem.now) want.elems)) wants
      by None = sym (any_same (λ want. list_any (λ elem. false) (map (λ elem. elem.now) want.elems)) (λ want. false) wants (λ want. any_nothing (map (λ elem. elem.now) want.elems)) ∙ any_nothing wants)
      by (Some number) = names_there number

  not_asked : (all : List Row) (test : Row → Bool) (spot : Spot) → is_asked tables depth names spot ≡ false → wants_pick (elems_pick tables all (depth + 1) (Some depth)) wants test spot ≡ false
  not_asked all test spot none =
      ap (λ b. b && test spot.row.now)
      (no_more (λ want. list_any (is_named_at tables (Some depth) spot.row.now) (map (λ elem. elem.now) want.elems))
      (λ want. has want.members spot.number && elems_pick tables all (depth + 1) (Some depth) (map (λ elem. elem.now) want.elems) spot.row.now) wants
      (λ want e. ap (λ b. has want.members spot.number && b)
      (no_more (is_named_at tables (Some depth) spot.row.now) (λ elem. is_named_at tables (Some depth) spot.row.now elem && within tables all (depth + 1) spot.row.now elem) (map (λ elem. elem.now) want.elems)
      (λ elem e. ap (λ b. b && within tables all (depth + 1) spot.row.now elem) e) e)
      ∙ and_false (has want.members spot.number))
      (sym (asked_is spot) ∙ none))

  pub are_asked : (spots found : List Spot) → found ≡ filter (is_asked tables depth names) spots → AreAsked tables depth wants spots found
  are_asked spots found is all test =
      ap (list_any picks) is
      ∙ any_filter picks (is_asked tables depth names) spots
      ∙ any_same (λ spot. is_asked tables depth names spot && picks spot) picks spots (λ spot. by spot (is_asked tables depth names spot) refl)
    where
      picks : Spot → Bool
      picks spot = wants_pick (elems_pick tables all (depth + 1) (Some depth)) wants test spot

      by : (spot : Spot) (b : Bool) → is_asked tables depth names spot ≡ b → (b && picks spot) ≡ picks spot
      by spot true e = refl
      by spot false e = sym (not_asked all test spot e)

-- ---- the names of elements
pub name_added : (elems : List (Bor Elem)) (i : ℕ) (elem : Bor Elem) (start before now : BTreeSet (List ℕ)) → i < length elems → elem ≡ get_or elems i elem → map (λ elem. elem.now) (take (i + 1) elems) ≡ map (λ elem. elem.now) (take i elems) ++ elem.now ∷ [] →
    adds_text before now (0 ∷ name_key elem.now) → AddsNames (map (λ elem. elem.now) (take i elems)) start before → AddsNames (map (λ elem. elem.now) (take (i + 1) elems)) start now
name_added elems i elem start before now within is taken adds so_far wanted =
    adds wanted
    ∙ or_swap (f elem.now) (has_text before wanted)
    ∙ ap (λ b. b || f elem.now) (so_far wanted)
    ∙ or_assoc (has_text start wanted) (list_any f (map (λ elem. elem.now) (take i elems))) (f elem.now)
    ∙ ap (λ b. has_text start wanted || b)
    (ap (λ b. list_any f (map (λ elem. elem.now) (take i elems)) || b) (sym (or_false (f elem.now)))
    ∙ sym (list_any-append f (map (λ elem. elem.now) (take i elems)) (elem.now ∷ [])) ∙ ap (list_any f) (sym taken))
  where
    f : Elem → Bool
    f elem = is_same_text (0 ∷ name_key elem) wanted

pub names_more : (wants : List Want) (i : ℕ) (want : Want) (some : List (Bor Elem)) (before now : BTreeSet (List ℕ)) → i < length wants → want ≡ get_or wants i want → some ≡ want.elems →
    AddsNames (map (λ elem. elem.now) some) before now → AreNamesOf (take i wants) before → AreNamesOf (take (i + 1) wants) now
names_more wants i want some before now within is elems adds so_far wanted =
    adds wanted
    ∙ (λ k. so_far wanted k || list_any (λ elem. is_same_text (0 ∷ name_key elem) wanted) (map (λ elem. elem.now) (elems k)))
    ∙ ap (λ (one : Want). list_any f (take i wants) || f one) is
    ∙ sym (list_any_more f wants i want within)
  where
    f : Want → Bool
    f want = list_any (λ elem. is_same_text (0 ∷ name_key elem) wanted) (map (λ elem. elem.now) want.elems)
