-- What the elements of a level select but for its containment nodes, by labels: a row is selected where one of its
-- labels is one of the level's (RFC 6241 6.2.4, 6.2.5).
use Rattle.std.specs.Prelude.{◌≡◌, ◌&&◌, ◌||◌, ℕ, Bool, false, not, if◌then◌else◌, List, [], ◌∷◌, ◌++◌, map, slice_get}
use Rattle.std.specs.List.{filter, flat_map, list_any}
use Rattle.std.specs.Option.{option_map_or}
use Rattle.nc_names.specs.declared.path.Row.{Row}
use Rattle.nc_message.specs.declared.tree.Elem.{Elem}
use Rattle.nc_schema.specs.Tables.{Tables}
use Rattle.nc_protocol.specs.Filter.{is_containment, is_content_match, is_of_matches, level_of}
use Rattle.nc_filter.specs.declared.groups.Group.{Group}
use Rattle.nc_filter.specs.declared.runs.Run.{Run}
use Rattle.nc_filter.specs.declared.rows.Spot.{Spot}
use Rattle.nc_filter.specs.declared.wants.Want.{Want}
use Rattle.nc_filter.specs.inner.Keys.{among, elem_key, name_key, node_labels, row_keys}
use Rattle.nc_filter.specs.inner.Picks.{ends, node_at}
use Rattle.nc_filter.specs.inner.Lists.{IsSame, any_numbered}
use Rattle.nc_filter.specs.inner.Runs.{Slots, in_slot}
use Rattle.nc_filter.specs.inner.Sets.{bit_of, has}

-- a content match selects by name and text, a selection node by name
abbrev pub elem_label : Elem → List ℕ
elem_label elem = if is_content_match elem then 1 ∷ elem_key elem else 0 ∷ name_key elem

-- the labels of a level; the empty label is that of all rows of an instance
abbrev pub level_labels : Elem → List (List ℕ)
level_labels elem =
    (if is_of_matches (level_of elem) then [] ∷ [] else [])
    ++ map elem_label (filter (λ elem. not (is_containment elem)) (level_of elem))

-- the labels of a row's value, where its path ends at that depth
abbrev pub text_labels : Tables → ℕ → Row → List (List ℕ)
text_labels tables depth row = if ends depth row then map (λ key. 1 ∷ key) (row_keys tables row) else []

-- the labels of a row at or below a data node, at that depth
abbrev pub labels_at : Tables → ℕ → Row → ℕ → List (List ℕ)
labels_at tables depth row number =
    option_map_or node_labels (slice_get tables.nodes number) [] ++ text_labels tables depth row

-- the labels of a row, in an instance at that depth
abbrev pub row_labels : Tables → ℕ → Row → List (List ℕ)
row_labels tables depth row = [] ∷ option_map_or (labels_at tables depth row) (node_at depth row) []

-- a test of the element of a number in a list
abbrev pub at : {X : Type 0} → List X → (X → Bool) → ℕ → Bool
at xs test number = option_map_or test (slice_get xs number) false

-- the table has the numbers of these things in a list, by what they have
abbrev pub AreSlots : {X : Type 0} → (X → List ℕ → Bool) → Slots → List X → List X → Type 0
AreSlots {X} has items whole some = (wanted : List ℕ) (test : X → Bool) →
    list_any (at whole test) (in_slot items wanted) ≡ list_any (λ x. has x wanted && test x) some

-- bits are the numbers of the instances of some groups
abbrev pub AreHeldIn : List Group → List ℕ → Type 0
AreHeldIn groups held = (n : ℕ) → bit_of held n ≡ list_any (λ group. has group.members n) groups

-- the rows of the instances of some numbers, each with the number of its instance
abbrev pub AreSpotsIn : List ℕ → List Run → List Spot → Type 0
AreSpotsIn held whole spots = (f : ℕ → Row → Bool) →
    any_numbered (λ n run. bit_of held n && list_any (f n) (map (λ row. row.now) run.rows)) whole
    ≡ list_any (λ spot. f spot.number spot.row.now) spots

-- the rows of the instances of some groups
abbrev pub AreSpots : List Group → List Run → List Spot → Type 0
AreSpots groups whole spots = (f : Group → Row → Bool) →
    list_any
    (λ group. any_numbered
    (λ n run. has group.members n && list_any (f group) (map (λ row. row.now) run.rows)) whole) groups
    ≡ list_any (λ group. list_any (λ spot. has group.members spot.number && f group spot.row.now) spots) groups

-- a row has a label, in its instance at that depth
abbrev pub spot_has : Tables → ℕ → Spot → List ℕ → Bool
spot_has tables depth spot wanted = among (row_labels tables depth spot.row.now) wanted

-- a want selects by a label
abbrev pub want_has : Want → List ℕ → Bool
want_has want wanted = among want.labels wanted

-- the labels of the levels at a group's elements
abbrev pub group_labels : Group → List (List ℕ)
group_labels group = flat_map level_labels (map (λ elem. elem.now) group.elems)

-- the containment nodes at the levels of some elements
abbrev pub below_of : List Elem → List Elem
below_of elems = filter is_containment (flat_map level_of elems)

-- what a group wants: its labels, and the containment nodes at its levels
abbrev pub IsWant : Group → Want → Type 0
IsWant group want =
    (want.members ≡ group.members)
    × IsSame (group_labels group) want.labels
    × (map (λ elem. elem.now) want.elems ≡ below_of (map (λ elem. elem.now) group.elems))

-- a group passes one of two tests with its instances: of its labels, or of the containment nodes at its levels
abbrev pub group_wants : ((ℕ → Bool) → List ℕ → Bool) → ((ℕ → Bool) → List Elem → Bool) → Group → Bool
group_wants f g group =
    list_any (f (has group.members)) (group_labels group)
    || g (has group.members) (below_of (map (λ elem. elem.now) group.elems))

-- so does a want, which has both in lists of its own
abbrev pub want_wants : ((ℕ → Bool) → List ℕ → Bool) → ((ℕ → Bool) → List Elem → Bool) → Want → Bool
want_wants f g want =
    list_any (f (has want.members)) want.labels || g (has want.members) (map (λ elem. elem.now) want.elems)

-- the wants pass the same tests as the groups
abbrev pub AreWants : List Group → List Want → Type 0
AreWants groups wants = (f : (ℕ → Bool) → List ℕ → Bool) (g : (ℕ → Bool) → List Elem → Bool) →
    list_any (want_wants f g) wants ≡ list_any (group_wants f g) groups

-- the wants of some elements in the instance of number 0
abbrev pub AreFirst : List Elem → List Want → Type 0
AreFirst elems wants = (g : Elem → Bool) →
    list_any (λ want. has want.members 0 && list_any g (map (λ elem. elem.now) want.elems)) wants ≡ list_any g elems

-- bits are the numbers of the instances of the wants of some numbers
abbrev pub IsUnion : List ℕ → List Want → List ℕ → Type 0
IsUnion words wants some = (n : ℕ) → bit_of words n ≡ list_any (at wants (λ want. has want.members n)) some

-- what a label selects: the rows that have it, in the instances of those groups that have it
abbrev pub label_picks : Tables → ℕ → List Spot → List Want → (Row → Bool) → List ℕ → Bool
label_picks tables depth spots wants test label =
    list_any (λ spot. spot_has tables depth spot label &&
    (list_any (λ want. want_has want label && has want.members spot.number) wants
    && test spot.row.now)) spots

-- an element says of a row that one of its level's labels is one of the row's
abbrev pub label_says : Tables → ℕ → Row → Elem → Bool
label_says tables depth row elem = list_any (among (row_labels tables depth row)) (level_labels elem)

-- what a label selects in the instances whose numbers pass a test
abbrev pub label_tells : Tables → ℕ → List Spot → (Row → Bool) → (ℕ → Bool) → List ℕ → Bool
label_tells tables depth spots test stands label =
    list_any (λ spot. stands spot.number && (spot_has tables depth spot label && test spot.row.now)) spots

-- what a want selects by its labels
abbrev pub want_picks : Tables → ℕ → List Spot → (Row → Bool) → Want → Bool
want_picks tables depth spots test want = list_any (label_tells tables depth spots test (has want.members)) want.labels
