-- What the runs of a place say of its parts.
use Rattle.std.proofs.Common.{◌≡◌, ◌==◌, ◌&&◌, ◌||◌, ◌+◌, ◌++◌, ◌<◌, ◌≤◌, ℕ, suc, Bool, true, false, cond, ltb, List, [], ◌∷◌, Option, Some, None, length, map, drop, get_or, refl, sym, ap, ◌∙◌, arith, if◌then◌else◌}
use Rattle.std.specs.List.{All, filter, last_or, list_any}
use Rattle.std.specs.Option.{option_map_or}
use Rattle.std.specs.Prelude.{slice_get, option_map, option_to_list}
use Rattle.std.proofs.lemmas.List.{append-nil, drop_all, drop_more}
use Rattle.std.proofs.lemmas.Bool.Decides.{nat_tests}
use Rattle.std.proofs.lemmas.List.Elements.{All-get_or, All-head, All-tail}
use Rattle.nc_schema.specs.Children.{is_same_number}
use Rattle.nc_schema.specs.Kinds.{holds_nodes, is_plain_container}
use Rattle.nc_schema.specs.Places.{Part, Place, is_of, node_there, parts, parts_of, place_of, place_parts}
use Rattle.nc_schema.specs.Tables.{Tables}
use Rattle.nc_schema.specs.declared.node.Kind.{Kind}
use Rattle.nc_schema.specs.declared.node.Kind.TheVariants.{Container, Leaf, LeafList, List as ListKind}
use Rattle.nc_schema.specs.declared.node.Node.{Node}
use Rattle.nc_names.specs.declared.path.Row.{Row}
use Rattle.nc_names.specs.declared.path.Step.{Step}
use Rattle.nc_defaults.specs.declared.spans.Run.{Run}
use Rattle.nc_defaults.specs.Children.{children_of}
use Rattle.nc_defaults.specs.Within.{rows_between}
use Rattle.nc_defaults.specs.inner.Lists.{has_places_at}
use Rattle.nc_defaults.specs.inner.Runs.{next_at}
use Rattle.nc_defaults.specs.inner.Spans.{AreRuns, IsRun, part_at}
use Rattle.nc_defaults.specs.inner.Walks.{places_at, places_at_all, places_under, places_with}
use Rattle.nc_defaults.proofs.ListLemmas.{same_number}
use Rattle.nc_defaults.proofs.PartsLemmas.{map_push}
use Rattle.nc_defaults.proofs.Runs.{none_between}
use Rattle.nc_defaults.proofs.SpotsLemmas.{instances_are, listed, with_none, with_one}
use Rattle.nc_defaults.proofs.StepLemmas.{last_push}

abbrev is_in : ℕ → Run → Bool
is_in number run = is_same_number run.node (Some number)

abbrev those : ℕ → ℕ → List Row → List Run → List Part
those number depth rows runs = filter (is_of number) (map (part_at depth rows) runs)

-- a run is of the data node of its part
pub run_is : (number depth : ℕ) (rows : List Row) (run : Run) → IsRun depth rows run → is_same_number run.node (Some number) ≡ is_of number (part_at depth rows run)
run_is number depth rows run is = ap (λ (o : Option ℕ). is_same_number o (Some number)) is.node

-- each of them is a run
pub run_at : (depth : ℕ) (rows : List Row) (from to : ℕ) (runs : List Run) (i : ℕ) (none : Run) → i < length runs → AreRuns depth rows from to runs → IsRun depth rows (get_or runs i none)
run_at depth rows from to runs i none within are = All-get_or (IsRun depth rows) runs i none within are.each

-- a run of a data node has a step
pub has_step : (number depth : ℕ) (rows : List Row) (run : Run) → IsRun depth rows run → is_same_number run.node (Some number) ≡ true → next_at depth rows run.from ≡ None → ⊥
has_step number depth rows run is same none =
    let clash : false ≡ true = sym (ap (λ (o : Option Step). is_same_number (option_map (λ step. step.node) o) (Some number)) none) ∙ sym (ap (λ (o : Option ℕ). is_same_number o (Some number)) is.node) ∙ same in cc

-- ---- the runs are all parts
pub no_rows_left : (depth at to : ℕ) (rows : List Row) (runs : List Run) (whole : List Part) → at ≡ to → map (part_at depth rows) runs ++ parts depth (rows_between rows at to) ≡ whole →
    map (part_at depth rows) runs ≡ whole
no_rows_left depth at to rows runs whole is so_far =
    sym (append-nil (map (part_at depth rows) runs))
    ∙ ap (λ (rs : List Row). map (part_at depth rows) runs ++ parts depth rs) (sym (ap (λ n. rows_between rows n to) is ∙ none_between to rows))
    ∙ so_far

pub one_run_more : (depth at end to : ℕ) (rows : List Row) (run : Run) (before now : List Run) (whole : List Part) → now ≡ before ++ run ∷ [] →
    parts depth (rows_between rows at to) ≡ part_at depth rows run ∷ parts depth (rows_between rows end to) →
    map (part_at depth rows) before ++ parts depth (rows_between rows at to) ≡ whole → map (part_at depth rows) now ++ parts depth (rows_between rows end to) ≡ whole
one_run_more depth at end to rows run before now whole is split so_far =
    ap (λ (rs : List Run). map (part_at depth rows) rs ++ parts depth (rows_between rows end to)) is
    ∙ map_push (part_at depth rows) before run (parts depth (rows_between rows end to))
    ∙ ap (λ ps. map (part_at depth rows) before ++ ps) (sym split)
    ∙ so_far

-- ---- whether one is of a data node
none_among : (number depth : ℕ) (rows : List Row) (runs : List Run) → All (IsRun depth rows) runs → list_any (is_in number) runs ≡ false → those number depth rows runs ≡ []
none_among number depth rows [] are none = refl
none_among number depth rows (run ∷ runs) are none =
    by (is_in number run) (run_is number depth rows run (All-head (IsRun depth rows) run runs are))
    (none_among number depth rows runs (All-tail (IsRun depth rows) run runs are)) none
  where
    by : (b : Bool) → b ≡ is_of number (part_at depth rows run) → (list_any (is_in number) runs ≡ false → those number depth rows runs ≡ []) →
        (b || list_any (is_in number) runs) ≡ false → those number depth rows (run ∷ runs) ≡ []
    by true is rest none = absurd (let clash : true ≡ false = none in cc)
    by false is rest none = ap (λ c. cond c (part_at depth rows run ∷ those number depth rows runs) (those number depth rows runs)) (sym is) ∙ rest none

some_length : (n : ℕ) → (suc n == 0) ≡ false
some_length n = grind (arith, nat_tests)

some_among : (number depth : ℕ) (rows : List Row) (runs : List Run) → All (IsRun depth rows) runs → list_any (is_in number) runs ≡ true → (length (those number depth rows runs) == 0) ≡ false
some_among number depth rows [] are some = absurd (let clash : false ≡ true = some in cc)
some_among number depth rows (run ∷ runs) are some =
    by (is_in number run) (run_is number depth rows run (All-head (IsRun depth rows) run runs are))
    (some_among number depth rows runs (All-tail (IsRun depth rows) run runs are)) some
  where
    by : (b : Bool) → b ≡ is_of number (part_at depth rows run) → (list_any (is_in number) runs ≡ true → (length (those number depth rows runs) == 0) ≡ false) →
        (b || list_any (is_in number) runs) ≡ true → (length (those number depth rows (run ∷ runs)) == 0) ≡ false
    by true is rest some = ap (λ c. length (cond c (part_at depth rows run ∷ those number depth rows runs) (those number depth rows runs)) == 0) (sym is) ∙ some_length (length (those number depth rows runs))
    by false is rest some = ap (λ c. length (cond c (part_at depth rows run ∷ those number depth rows runs) (those number depth rows runs)) == 0) (sym is) ∙ rest some

pub none_of : (place : Place) (number : ℕ) (rows : List Row) (from to : ℕ) (runs : List Run) → place.rows ≡ rows_between rows from to → AreRuns (length place.steps) rows from to runs →
    list_any (λ run. is_same_number run.node (Some number)) runs ≡ false → parts_of place number ≡ []
none_of place number rows from to runs is are none =
    ap (λ (rs : List Row). filter (is_of number) (parts (length place.steps) rs)) is
    ∙ ap (filter (is_of number)) (sym are.all)
    ∙ none_among number (length place.steps) rows runs are.each none

and_false : (b : Bool) → (b && false) ≡ false
and_false true = refl
and_false false = refl

-- all instances are among them
pub runs_are : (tables : Tables) (place : Place) (number : ℕ) (node : Node) (rows : List Row) (from to : ℕ) (runs : List Run) → place.rows ≡ rows_between rows from to →
    AreRuns (length place.steps) rows from to runs → holds_nodes node.kind ≡ true → list_any (λ run. is_same_number run.node (Some number)) runs ≡ true →
    places_with tables place number node (filter (is_of number) (map (part_at (length place.steps) rows) runs)) ≡ places_with tables place number node (place_parts place number node.kind)
runs_are tables place number node rows from to runs is are holds some =
    let same : those number (length place.steps) rows runs ≡ parts_of place number =
    ap (filter (is_of number)) are.all ∙ sym (ap (λ (rs : List Row). filter (is_of number) (parts (length place.steps) rs)) is) in
    let any : (length (parts_of place number) == 0) ≡ false = ap (λ (ps : List Part). length ps == 0) (sym same) ∙ some_among number (length place.steps) rows runs are.each some in
    ap (places_with tables place number node)
    (same ∙ sym (instances_are place number node.kind holds (ap (λ b. is_plain_container node.kind && b) any ∙ and_false (is_plain_container node.kind))))

-- no instances, and none that is there without rows
pub nothing_stands : (tables : Tables) (place : Place) (number : ℕ) (node : Node) → holds_nodes node.kind ≡ true → is_plain_container node.kind ≡ false → parts_of place number ≡ [] →
    places_with tables place number node (place_parts place number node.kind) ≡ []
nothing_stands tables place number node holds plain none =
    ap (places_with tables place number node)
    (instances_are place number node.kind holds (ap (λ b. b && (length (parts_of place number) == 0)) plain) ∙ none)

-- ---- one run more
pub run_more : (tables : Tables) (place : Place) (number : ℕ) (node : Node) (depth : ℕ) (rows : List Row) (runs : List Run) (i : ℕ) (none run : Run) → i < length runs → get_or runs i none ≡ run →
    is_of number (part_at depth rows run) ≡ true →
    places_with tables place number node (filter (is_of number) (map (part_at depth rows) (drop i runs)))
    ≡ (place_of tables place node (part_at depth rows run) ∷ places_under tables (place_of tables place node (part_at depth rows run)) (number + 1))
    ++ places_with tables place number node (filter (is_of number) (map (part_at depth rows) (drop (i + 1) runs)))
run_more tables place number node depth rows runs i none run within is passes =
    with_one tables place number node (part_at depth rows run) (map (part_at depth rows) (drop i runs)) (map (part_at depth rows) (drop (i + 1) runs))
    (ap (map (part_at depth rows)) (drop_more runs i none within ∙ ap (λ (r : Run). r ∷ drop (i + 1) runs) is)) passes

pub run_passed : (tables : Tables) (place : Place) (number : ℕ) (node : Node) (depth : ℕ) (rows : List Row) (runs : List Run) (i : ℕ) (none run : Run) → i < length runs → get_or runs i none ≡ run →
    is_of number (part_at depth rows run) ≡ false →
    places_with tables place number node (filter (is_of number) (map (part_at depth rows) (drop i runs)))
    ≡ places_with tables place number node (filter (is_of number) (map (part_at depth rows) (drop (i + 1) runs)))
run_passed tables place number node depth rows runs i none run within is fails =
    with_none tables place number node (part_at depth rows run) (map (part_at depth rows) (drop i runs)) (map (part_at depth rows) (drop (i + 1) runs))
    (ap (map (part_at depth rows)) (drop_more runs i none within ∙ ap (λ (r : Run). r ∷ drop (i + 1) runs) is)) fails

pub no_run_left : (tables : Tables) (place : Place) (number : ℕ) (node : Node) (depth : ℕ) (rows : List Row) (runs : List Run) (i : ℕ) → length runs ≤ i →
    places_with tables place number node (filter (is_of number) (map (part_at depth rows) (drop i runs))) ≡ []
no_run_left tables place number node depth rows runs i past =
    ap (λ (rs : List Run). places_with tables place number node (filter (is_of number) (map (part_at depth rows) rs))) (drop_all i runs past)

-- ---- no child has places
neither : (a b : Bool) → (a || b) ≡ false → (a ≡ false) × (b ≡ false)
neither true b e = absurd (let clash : true ≡ false = e in cc)
neither false b e = (refl, e)

no_parts : (place : Place) (number : ℕ) (kind : Kind) → holds_nodes kind ≡ false → place_parts place number kind ≡ []
no_parts place number (Container presence) none = absurd (let clash : true ≡ false = none in cc)
no_parts place number Leaf none = refl
no_parts place number LeafList none = refl
no_parts place number ListKind none = absurd (let clash : true ≡ false = none in cc)

nothing_at : (tables : Tables) (place : Place) (child : ℕ) → has_places_at tables.nodes child ≡ false → places_at tables place child ≡ []
nothing_at tables place child none = by (slice_get tables.nodes child) none
  where
    by : (o : Option Node) → option_map_or (λ (node : Node). holds_nodes node.kind) o false ≡ false →
        option_map_or (λ (node : Node). places_with tables place child node (place_parts place child node.kind)) o [] ≡ []
    by None none = refl
    by (Some node) none = ap (places_with tables place child node) (no_parts place child node.kind none)

pub no_places_in : (tables : Tables) (place : Place) (number : ℕ) (children : List ℕ) → list_any (has_places_at tables.nodes) children ≡ false → places_at_all tables place number children ≡ []
no_places_in tables place number [] none = refl
no_places_in tables place number (child ∷ children) none =
    let both = neither (has_places_at tables.nodes child) (list_any (has_places_at tables.nodes) children) none in
    λ i. by (ltb child number) (nothing_at tables place child both.0) i ++ no_places_in tables place number children both.1 i
  where
    by : (b : Bool) → places_at tables place child ≡ [] → (if b then [] else places_at tables place child) ≡ []
    by true none = refl
    by false none = none

-- no places stand in a place
pub none_there : (tables : Tables) (place : Place) (parent : Option ℕ) (number : ℕ) → node_there place ≡ parent → list_any (has_places_at tables.nodes) (children_of tables.nodes parent) ≡ false →
    places_under tables place number ≡ []
none_there tables place parent number is none =
    sym (listed tables place number)
    ∙ ap (λ (o : Option ℕ). places_at_all tables place number (children_of tables.nodes o)) is
    ∙ no_places_in tables place number (children_of tables.nodes parent) none

-- an instance of a data node leads there
pub node_below : (tables : Tables) (place : Place) (number : ℕ) (node : Node) (part : Part) → is_of number part ≡ true → node_there (place_of tables place node part) ≡ Some number
node_below tables place number node part is = by part.step (same_number (option_map (λ (step : Step). step.node) part.step) (Some number) is)
  where
    by : (next : Option Step) → option_map (λ (step : Step). step.node) next ≡ Some number →
        option_map (λ (step : Step). step.node) (last_or None (place.steps ++ option_to_list next)) ≡ Some number
    by None same = absurd (let clash : None ≡ Some number = same in cc)
    by (Some step) same = ap (option_map (λ (one : Step). one.node)) (last_push None place.steps step) ∙ same

-- none stand in an instance of it
pub none_below : (tables : Tables) (place : Place) (number : ℕ) (node : Node) (part : Part) → is_of number part ≡ true →
    list_any (has_places_at tables.nodes) (children_of tables.nodes (Some number)) ≡ false → places_under tables (place_of tables place node part) (number + 1) ≡ []
none_below tables place number node part is none =
    none_there tables (place_of tables place node part) (Some number) (number + 1) (node_below tables place number node part is) none
