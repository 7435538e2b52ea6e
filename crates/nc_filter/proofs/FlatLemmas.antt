-- What groups select is what their wants select: by labels, and below.
use Rattle.std.proofs.Common.{◌≡◌, ◌&&◌, ◌||◌, ◌+◌, ℕ, Bool, true, false, List, [], ◌∷◌, Some, refl, sym, ap, ◌∙◌}
use Rattle.std.specs.Prelude.{map}
use Rattle.std.specs.List.{filter, flat_map, list_any}
use Rattle.std.specs.Cmp.Lexicographic.{bytes_decides}
use Rattle.nc_names.specs.Same.{is_same_text}
use Rattle.nc_names.specs.declared.path.Row.{Row}
use Rattle.nc_message.specs.declared.tree.Elem.{Elem}
use Rattle.nc_schema.specs.Tables.{Tables}
use Rattle.nc_protocol.specs.Filter.{is_containment, level_of}
use Rattle.nc_filter.specs.declared.groups.Group.{Group}
use Rattle.nc_filter.specs.declared.runs.Run.{Run}
use Rattle.nc_filter.specs.declared.rows.Spot.{Spot}
use Rattle.nc_filter.specs.declared.wants.Want.{Want}
use Rattle.nc_filter.specs.inner.Instances.{AreAsked, elems_pick, is_named_at, wants_pick}
use Rattle.nc_filter.specs.inner.Keys.{among}
use Rattle.nc_filter.specs.inner.Labels.{AreSpots, AreWants, below_of, group_labels, group_wants, label_picks, label_says, label_tells, level_labels, row_labels, spot_has, want_has, want_picks}
use Rattle.nc_filter.specs.inner.Lists.{IsSame}
use Rattle.nc_filter.specs.inner.Picks.{opens, within}
use Rattle.nc_filter.specs.inner.Runs.{told_in}
use Rattle.nc_filter.specs.inner.Sets.{has}
use Rattle.nc_filter.proofs.KeyLemmas.{first_of, second_of}
use Rattle.nc_filter.proofs.LabelLemmas.{opens_split}
use Rattle.nc_filter.proofs.StepLemmas.{same_test}
use Rattle.nc_filter.proofs.Unions.{and_assoc, any_and, any_and_last, any_filter, any_flat_map, any_or, any_same, any_turned, or_and, or_assoc, or_false, or_true}

-- an element that passes, with what is then known of the list
abbrev Found : {X : Type 0} → (X → Bool) → List X → Type 0
Found {X} test xs = (x : X) × ((test x ≡ true) × ((other : X → Bool) → other x ≡ true → list_any other xs ≡ true))

found : {X : Type 0} (test : X → Bool) (xs : List X) → list_any test xs ≡ true → Found test xs
found test [] e = let clash : false ≡ true = e in cc
found {X} test (x ∷ xs) e = by (test x) refl e (λ e. found test xs e)
  where
    by : (b : Bool) → test x ≡ b → (b || list_any test xs) ≡ true → (list_any test xs ≡ true → Found test xs) → Found test (x ∷ xs)
    by true is e more = (x, (is, λ other here. ap (λ b. b || list_any other xs) here))
    by false is e more = ((more e).0, ((more e).1.0, λ other here. ap (λ b. other x || b) ((more e).1.1 other here) ∙ or_true (other x)))

both : (a b : Bool) → a ≡ true → b ≡ true → (a && b) ≡ true
both true b a_is b_is = b_is
both false b a_is b_is = let clash : false ≡ true = a_is in cc

module _ (tables : Tables) (depth : ℕ) (spots : List Spot) (wants : List Want) (test : Row → Bool) where
  abbrev telling : (ℕ → Bool) → List ℕ → Bool
  telling stands label = label_tells tables depth spots test stands label

  abbrev wanted : List ℕ → Spot → Bool
  wanted label spot = list_any (λ want. want_has want label && has want.members spot.number) wants

  by_label : (label key : List ℕ) (want : Want) (spot : Spot) → is_same_text key label ≡ true → has want.members spot.number ≡ true → spot_has tables depth spot label ≡ true → test spot.row.now ≡ true →
      ((other : Spot → Bool) → other spot ≡ true → list_any other spots ≡ true) → telling (has want.members) key ≡ true
  by_label label key want spot same at labelled passes each =
      ap (telling (has want.members)) ((bytes_decides key label).0 same)
      ∙ each (λ spot. has want.members spot.number && (spot_has tables depth spot label && test spot.row.now))
      (both (has want.members spot.number) (spot_has tables depth spot label && test spot.row.now) at (both (spot_has tables depth spot label) (test spot.row.now) labelled passes))

  there : list_any (λ want. list_any (label_picks tables depth spots wants test) want.labels) wants ≡ true → list_any (λ want. list_any (telling (has want.members)) want.labels) wants ≡ true
  there e =
      let want = found (λ want. list_any (label_picks tables depth spots wants test) want.labels) wants e in
      let label = found (label_picks tables depth spots wants test) want.0.labels want.1.0 in
      let spot = found (λ spot. spot_has tables depth spot label.0 && (wanted label.0 spot && test spot.row.now)) spots label.1.0 in
      let labelled = first_of (spot_has tables depth spot.0 label.0) (wanted label.0 spot.0 && test spot.0.row.now) spot.1.0 in
      let more = second_of (spot_has tables depth spot.0 label.0) (wanted label.0 spot.0 && test spot.0.row.now) spot.1.0 in
      let other = found (λ want. want_has want label.0 && has want.members spot.0.number) wants (first_of (wanted label.0 spot.0) (test spot.0.row.now) more) in
      let passes = second_of (wanted label.0 spot.0) (test spot.0.row.now) more in
      let key = found (λ key. is_same_text key label.0) other.0.labels (first_of (want_has other.0 label.0) (has other.0.members spot.0.number) other.1.0) in
      let at = second_of (want_has other.0 label.0) (has other.0.members spot.0.number) other.1.0 in
      other.1.1 (λ want. list_any (telling (has want.members)) want.labels)
      (key.1.1 (telling (has other.0.members)) (by_label label.0 key.0 other.0 spot.0 key.1.0 at labelled passes spot.1.1))

  back : list_any (λ want. list_any (telling (has want.members)) want.labels) wants ≡ true → list_any (λ want. list_any (label_picks tables depth spots wants test) want.labels) wants ≡ true
  back e =
      let want = found (λ want. list_any (telling (has want.members)) want.labels) wants e in
      let label = found (telling (has want.0.members)) want.0.labels want.1.0 in
      let spot = found (λ spot. has want.0.members spot.number && (spot_has tables depth spot label.0 && test spot.row.now)) spots label.1.0 in
      let at = first_of (has want.0.members spot.0.number) (spot_has tables depth spot.0 label.0 && test spot.0.row.now) spot.1.0 in
      let more = second_of (has want.0.members spot.0.number) (spot_has tables depth spot.0 label.0 && test spot.0.row.now) spot.1.0 in
      let labelled = first_of (spot_has tables depth spot.0 label.0) (test spot.0.row.now) more in
      let passes = second_of (spot_has tables depth spot.0 label.0) (test spot.0.row.now) more in
      let here = label.1.1 (λ key. is_same_text key label.0) ((bytes_decides label.0 label.0).1 refl) in
      want.1.1 (λ want. list_any (label_picks tables depth spots wants test) want.labels)
      (label.1.1 (label_picks tables depth spots wants test)
      (spot.1.1 (λ spot. spot_has tables depth spot label.0 && (wanted label.0 spot && test spot.row.now))
      (both (spot_has tables depth spot.0 label.0) (wanted label.0 spot.0 && test spot.0.row.now) labelled
      (both (wanted label.0 spot.0) (test spot.0.row.now)
      (want.1.1 (λ want. want_has want label.0 && has want.members spot.0.number) (both (want_has want.0 label.0) (has want.0.members spot.0.number) here at)) passes))))

  pub labels_are : list_any (λ want. list_any (label_picks tables depth spots wants test) want.labels) wants ≡ list_any (λ want. list_any (telling (has want.members)) want.labels) wants
  labels_are = same_test (list_any (λ want. list_any (label_picks tables depth spots wants test) want.labels) wants) (list_any (λ want. list_any (telling (has want.members)) want.labels) wants) there back

-- what all labels select is what the wants select by theirs
pub labels_told : (tables : Tables) (depth : ℕ) (spots : List Spot) (wants : List Want) (labels : List (List ℕ)) (test : Row → Bool) → IsSame (flat_map (λ want. want.labels) wants) labels →
    list_any (label_picks tables depth spots wants test) labels ≡ list_any (want_picks tables depth spots test) wants
labels_told tables depth spots wants labels test all_of =
    all_of (label_picks tables depth spots wants test)
    ∙ any_flat_map (label_picks tables depth spots wants test) (λ want. want.labels) wants
    ∙ labels_are tables depth spots wants test

pub no_labels : (tables : Tables) (depth : ℕ) (spots : List Spot) (wants : List Want) (labels : List (List ℕ)) (test : Row → Bool) (out : Bool) →
    IsSame (flat_map (λ want. want.labels) wants) labels → labels ≡ [] → out ≡ (out || list_any (want_picks tables depth spots test) wants)
no_labels tables depth spots wants labels test out all_of none =
    sym (or_false out) ∙ ap (λ b. out || b) (sym (ap (list_any (label_picks tables depth spots wants test)) none) ∙ labels_told tables depth spots wants labels test all_of)

module _ (tables : Tables) (all : List Row) (depth : ℕ) (spots : List Spot) (test : Row → Bool) where
  abbrev picks : List Elem → Row → Bool
  picks elems row = elems_pick tables all (depth + 1) (Some depth) elems row

  abbrev deep_says : Row → Elem → Bool
  deep_says row elem = picks (filter is_containment (level_of elem)) row

  abbrev below_tells : (ℕ → Bool) → List Elem → Bool
  below_tells stands elems = list_any (λ spot. stands spot.number && (picks elems spot.row.now && test spot.row.now)) spots

  -- what elements select below
  below_picks : (row : Row) (elems : List Elem) → list_any (deep_says row) elems ≡ picks (below_of elems) row
  below_picks row elems =
      any_same (deep_says row) (λ elem. list_any (λ inner. is_containment inner && says inner) (level_of elem)) elems (λ elem. any_filter says is_containment (level_of elem))
      ∙ sym (any_flat_map (λ inner. is_containment inner && says inner) level_of elems)
      ∙ sym (any_filter says is_containment (flat_map level_of elems))
    where
      says : Elem → Bool
      says inner = is_named_at tables (Some depth) row inner && within tables all (depth + 1) row inner

  -- what elements select of a row: by labels, and below
  parted : (row : Row) (elems : List Elem) → list_any (opens tables all depth row) elems ≡ (list_any (among (row_labels tables depth row)) (flat_map level_labels elems) || picks (below_of elems) row)
  parted row elems =
      any_same (opens tables all depth row) (λ elem. label_says tables depth row elem || deep_says row elem) elems (λ elem. opens_split tables all depth row elem)
      ∙ any_or (label_says tables depth row) (deep_says row) elems
      ∙ (λ i. sym (any_flat_map (among (row_labels tables depth row)) level_labels elems) i || below_picks row elems i)

  spread : (h l b t : Bool) → (h && ((l || b) && t)) ≡ ((h && (l && t)) || (h && (b && t)))
  spread true l b t = or_and l b t
  spread false l b t = refl

  -- what a group selects of some rows
  group_told : (group : Group) → list_any (λ spot. has group.members spot.number && (list_any (opens tables all depth spot.row.now) (map (λ elem. elem.now) group.elems) && test spot.row.now)) spots
      ≡ group_wants (label_tells tables depth spots test) below_tells group
  group_told group =
      any_same (λ spot. stands spot && (list_any (opens tables all depth spot.row.now) some && test spot.row.now))
      (λ spot. (stands spot && (labelled spot && test spot.row.now)) || (stands spot && (picks (below_of some) spot.row.now && test spot.row.now))) spots
      (λ spot. ap (λ b. stands spot && (b && test spot.row.now)) (parted spot.row.now some) ∙ spread (stands spot) (labelled spot) (picks (below_of some) spot.row.now) (test spot.row.now))
      ∙ any_or (λ spot. stands spot && (labelled spot && test spot.row.now)) (λ spot. stands spot && (picks (below_of some) spot.row.now && test spot.row.now)) spots
      ∙ ap (λ b. b || below_tells (has group.members) (below_of some))
      (any_same (λ spot. stands spot && (labelled spot && test spot.row.now)) (λ spot. list_any (λ label. stands spot && (spot_has tables depth spot label && test spot.row.now)) labels) spots by
      ∙ any_turned (λ spot label. stands spot && (spot_has tables depth spot label && test spot.row.now)) spots labels)
    where
      some : List Elem
      some = map (λ elem. elem.now) group.elems

      labels : List (List ℕ)
      labels = group_labels group

      stands : Spot → Bool
      stands spot = has group.members spot.number

      labelled : Spot → Bool
      labelled spot = list_any (among (row_labels tables depth spot.row.now)) labels

      by : (spot : Spot) → (stands spot && (labelled spot && test spot.row.now)) ≡ list_any (λ label. stands spot && (spot_has tables depth spot label && test spot.row.now)) labels
      by spot =
          ap (λ b. stands spot && b) (sym (any_and_last (spot_has tables depth spot) (test spot.row.now) labels))
          ∙ sym (any_and (stands spot) (λ label. spot_has tables depth spot label && test spot.row.now) labels)

  -- what all of them select
  groups_told : (groups : List Group) (whole : List Run) (wants : List Want) → AreSpots groups whole spots → AreWants groups wants →
      list_any (told_in (opens tables all depth) whole test) groups
      ≡ (list_any (want_picks tables depth spots test) wants || list_any (wants_pick (elems_pick tables all (depth + 1) (Some depth)) wants test) spots)
  groups_told groups whole wants are same =
      are (λ group row. list_any (opens tables all depth row) (map (λ elem. elem.now) group.elems) && test row)
      ∙ any_same (λ group. list_any (λ spot. has group.members spot.number && (list_any (opens tables all depth spot.row.now) (map (λ elem. elem.now) group.elems) && test spot.row.now)) spots)
      (group_wants (label_tells tables depth spots test) below_tells) groups group_told
      ∙ sym (same (label_tells tables depth spots test) below_tells)
      ∙ any_or (want_picks tables depth spots test) (λ want. below_tells (has want.members) (map (λ elem. elem.now) want.elems)) wants
      ∙ ap (λ b. list_any (want_picks tables depth spots test) wants || b)
      (any_turned (λ want spot. has want.members spot.number && (picks (map (λ elem. elem.now) want.elems) spot.row.now && test spot.row.now)) wants spots
      ∙ any_same (λ spot. list_any (λ want. has want.members spot.number && (picks (map (λ elem. elem.now) want.elems) spot.row.now && test spot.row.now)) wants)
      (wants_pick (elems_pick tables all (depth + 1) (Some depth)) wants test) spots by)
    where
      by : (spot : Spot) → list_any (λ want. has want.members spot.number && (picks (map (λ elem. elem.now) want.elems) spot.row.now && test spot.row.now)) wants
          ≡ wants_pick (elems_pick tables all (depth + 1) (Some depth)) wants test spot
      by spot =
          any_same (λ want. has want.members spot.number && (picks (map (λ elem. elem.now) want.elems) spot.row.now && test spot.row.now))
          (λ want. (has want.members spot.number && picks (map (λ elem. elem.now) want.elems) spot.row.now) && test spot.row.now) wants
          (λ want. sym (and_assoc (has want.members spot.number) (picks (map (λ elem. elem.now) want.elems) spot.row.now) (test spot.row.now)))
          ∙ any_and_last (λ want. has want.members spot.number && picks (map (λ elem. elem.now) want.elems) spot.row.now) (test spot.row.now) wants

  -- of the rows below, those that elements name are enough
  pub all_told : (groups : List Group) (whole : List Run) (wants : List Want) (asked : List Spot) (out rest : Bool) → AreSpots groups whole spots → AreWants groups wants → AreAsked tables depth wants spots asked →
      rest ≡ list_any (wants_pick (elems_pick tables all (depth + 1) (Some depth)) wants test) asked →
      ((out || list_any (want_picks tables depth spots test) wants) || rest) ≡ (out || list_any (told_in (opens tables all depth) whole test) groups)
  all_told groups whole wants asked out rest are same asks is =
      or_assoc out (list_any (want_picks tables depth spots test) wants) rest
      ∙ ap (λ b. out || b) (ap (λ b. list_any (want_picks tables depth spots test) wants || b) (is ∙ asks all test) ∙ sym (groups_told groups whole wants are same))
