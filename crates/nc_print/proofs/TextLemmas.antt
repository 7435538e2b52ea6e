-- The text of an element, by the text of what stands in it.
use Rattle.std.proofs.Common.{◌≡◌, ◌||◌, ◌+◌, ◌++◌, ◌∙◌, ℕ, zero, suc, false, cond, List, [], ◌∷◌, Option, Some, None, refl, sym, ap, append-nil}
use Rattle.std.specs.Prelude.{slice_get}
use Rattle.std.specs.List.{flat_map, list_any}
use Rattle.std.specs.Option.{option_map_or}
use denote.Hole.Carrier.{hidden}
use Rattle.nc_names.specs.Signs.{greater_than}
use Rattle.nc_names.specs.declared.name.Bound.{Bound}
use Rattle.nc_names.specs.declared.name.QName.{QName}
use Rattle.nc_names.specs.declared.path.Row.{Row}
use Rattle.nc_names.specs.declared.path.Step.{Step}
use Rattle.nc_message.specs.declared.tree.Elem.{Elem}
use Rattle.nc_message.specs.declared.tree.Part.{Part}
use Rattle.nc_message.specs.declared.tree.Part.TheBlock.{hidden-the_row-Part-0, hidden-the_row-Elem-1}
use Rattle.nc_message.specs.declared.tree.Part.TheVariants.{Child}
use Rattle.nc_message.specs.Marks.{empty_end}
use Rattle.nc_message.specs.Written.{element, end_of, is_chars, is_empty, start_tag, written_part}
use Rattle.nc_message.proofs.Children.{written_child_is}
use Rattle.nc_schema.specs.Tables.{Tables}
use Rattle.nc_schema.specs.declared.node.Node.{Node}
use Rattle.nc_protocol.specs.Content.{made_element, text_parts}
use Rattle.nc_protocol.specs.ModuleNames.{value_bounds}
use Rattle.nc_protocol.specs.Printed.{cut, goes_on, node_part, own_value, parts_at, run_parts, step_parts}
use Rattle.nc_print.specs.inner.Texts.{ending, is_bare, parts_text, run_text, some_text}

-- ---- what is printed is elements alone
abbrev pub AreChildren : List Part → Type 0
AreChildren [] = Unit {0}
AreChildren (part ∷ parts) = ((e : Elem) × (part ≡ Child e)) × AreChildren parts

children_joined : (xs ys : List Part) → AreChildren xs → AreChildren ys → AreChildren (xs ++ ys)
children_joined [] ys p q = q
children_joined (x ∷ xs) ys p q = (p.0, children_joined xs ys p.1 q)

children_of_all : (f : List Row → List Part) → ((run : List Row) → AreChildren (f run)) → (runs : List (List Row)) →
    AreChildren (flat_map f runs)
children_of_all f are [] = tt
children_of_all f are (run ∷ runs) = children_joined (f run) (flat_map f runs) (are run) (children_of_all f are runs)

node_children : (tables : Tables) (number : ℕ) (value : Option (List ℕ)) (below : List Part) (found : Option Node) →
    AreChildren (option_map_or (λ node. node_part tables number value below node ∷ []) found [])
node_children tables number value below None = tt
node_children tables number value below (Some node) = ((_, refl), tt)

step_children : (tables : Tables) (value : Option (List ℕ)) (below : List Part) (found : Option Step) →
    AreChildren (step_parts tables value below found)
step_children tables value below None = tt
step_children tables value below (Some step) =
    node_children tables step.node value below (slice_get tables.nodes step.node)

run_children : (tables : Tables) (inner : List Row → List Part) (depth : ℕ) (run : List Row) →
    AreChildren (run_parts tables inner depth run)
run_children tables inner depth [] = tt
run_children tables inner depth (row ∷ rows) =
    step_children tables _ (inner (row ∷ rows)) (slice_get row.path.steps depth)

pub are_children : (tables : Tables) (levels depth : ℕ) (rows : List Row) → AreChildren (parts_at tables levels depth rows)
are_children tables zero depth rows = tt
are_children tables (suc levels) depth rows =
    children_of_all (run_parts tables (parts_at tables levels (depth + 1)) depth)
    (run_children tables (parts_at tables levels (depth + 1)) depth) (cut (goes_on depth) rows)

-- ---- an element is no text, and its own text is not empty
pub child_is_no_text : (e : Elem) → is_chars (Child e) ≡ false
unfolding hidden-the_row-Part-0 hidden-the_row-Elem-1 hidden
child_is_no_text e = refl

no_text : (parts : List Part) → AreChildren parts → list_any is_chars parts ≡ false
no_text [] are = refl
no_text (part ∷ parts) are =
    ap (λ p. is_chars p || list_any is_chars parts) are.0.1
    ∙ ap (λ b. b || list_any is_chars parts) (child_is_no_text are.0.0) ∙ no_text parts are.1

bare_written : (space : List ℕ) (part : Part) (e : Elem) (more : List ℕ) → part ≡ Child e →
    is_bare None (written_part space part ++ more) ≡ false
bare_written space part e more is =
    ap (λ p. is_bare None (written_part space p ++ more)) is
    ∙ ap (λ text. is_bare None (text ++ more)) (written_child_is space e)

bare_is : (space : List ℕ) (parts : List Part) → AreChildren parts →
    is_empty parts ≡ is_bare None (flat_map (written_part space) parts)
bare_is space [] are = refl
bare_is space (part ∷ parts) are =
    sym (bare_written space part are.0.0 (flat_map (written_part space) parts) are.0.1)

-- ---- the text of an element with a value and other elements
without_text : (above : List ℕ) (name : QName) (bounds : List Bound) (below : List Part) → AreChildren below →
    element above name bounds [] below (flat_map (written_part name.space) below)
    ≡ start_tag above name [] [] ++ ending name None (flat_map (written_part name.space) below)
without_text above name bounds below are =
    let inner = flat_map (written_part name.space) below in
    ap (λ b. start_tag above name [] (cond b bounds [])
    ++ (cond (is_empty below) empty_end (greater_than ∷ inner ++ end_of name))) (no_text below are)
    ∙ ap (λ b. start_tag above name [] [] ++ (cond b empty_end (greater_than ∷ inner ++ end_of name)))
    (bare_is name.space below are)

pub plain_text : (above : List ℕ) (name : QName) (below : List Part) → AreChildren below →
    written_part above (Child (made_element name below))
    ≡ start_tag above name [] [] ++ ending name None (flat_map (written_part name.space) below)
plain_text above name below are =
    written_child_is above (made_element name below) ∙ without_text above name [] below are

abbrev bounds_in : Tables → ℕ → Option (List ℕ) → List Bound
bounds_in tables number value = option_map_or (value_bounds tables number) value []

abbrev parts_in : Option (List ℕ) → List Part → List Part
parts_in value below = option_map_or text_parts value [] ++ below

pub element_is : (above : List ℕ) (tables : Tables) (number : ℕ) (name : QName) (value : Option (List ℕ))
    (below : List Part) → AreChildren below →
    element above name (bounds_in tables number value) [] (parts_in value below)
    (flat_map (written_part name.space) (parts_in value below))
    ≡ start_tag above name [] (bounds_in tables number (some_text value))
    ++ ending name (some_text value) (flat_map (written_part name.space) below)
element_is above tables number name None below are = without_text above name [] below are
element_is above tables number name (Some []) below are =
    without_text above name (value_bounds tables number []) below are
element_is above tables number name (Some (c ∷ cs)) below are = refl

pub node_text : (above : List ℕ) (tables : Tables) (number : ℕ) (value : Option (List ℕ)) (below : List Part)
    (node : Node) → AreChildren below →
    written_part above (node_part tables number value below node)
    ≡ start_tag above node.name [] (bounds_in tables number (some_text value))
    ++ ending node.name (some_text value) (flat_map (written_part node.name.space) below)
node_text above tables number value below node are =
    written_child_is above (record {
      name = node.name;
      bounds = bounds_in tables number value;
      attrs = [];
      parts = parts_in value below;
    }) ∙ element_is above tables number node.name value below are

-- ---- the element of rows that stand together
pub run_is : (above : List ℕ) (tables : Tables) (levels depth : ℕ) (row : Row) (rows : List Row) (step : Step) (node : Node) →
    slice_get row.path.steps depth ≡ Some step → slice_get tables.nodes step.node ≡ Some node →
    run_text above tables levels depth (row ∷ rows)
    ≡ start_tag above node.name [] (bounds_in tables step.node (some_text (own_value depth row)))
    ++ ending node.name (some_text (own_value depth row))
    (parts_text node.name.space tables levels (depth + 1) (row ∷ rows))
run_is above tables levels depth row rows step node at found =
    let below = parts_at tables levels (depth + 1) (row ∷ rows) in
    ap (λ s. flat_map (written_part above) (step_parts tables (own_value depth row) below s)) at
    ∙ ap (λ n. flat_map (written_part above)
    (option_map_or (λ it. node_part tables step.node (own_value depth row) below it ∷ []) n [])) found
    ∙ append-nil (written_part above (node_part tables step.node (own_value depth row) below node))
    ∙ node_text above tables step.node (own_value depth row) below node (are_children tables levels (depth + 1) (row ∷ rows))

pub no_step : (above : List ℕ) (tables : Tables) (levels depth : ℕ) (row : Row) (rows : List Row) →
    slice_get row.path.steps depth ≡ None → run_text above tables levels depth (row ∷ rows) ≡ []
no_step above tables levels depth row rows at =
    ap (λ s. flat_map (written_part above)
    (step_parts tables (own_value depth row) (parts_at tables levels (depth + 1) (row ∷ rows)) s)) at

pub no_node : (above : List ℕ) (tables : Tables) (levels depth : ℕ) (row : Row) (rows : List Row) (step : Step) →
    slice_get row.path.steps depth ≡ Some step → slice_get tables.nodes step.node ≡ None →
    run_text above tables levels depth (row ∷ rows) ≡ []
no_node above tables levels depth row rows step at found =
    let below = parts_at tables levels (depth + 1) (row ∷ rows) in
    ap (λ s. flat_map (written_part above) (step_parts tables (own_value depth row) below s)) at
    ∙ ap (λ n. flat_map (written_part above)
    (option_map_or (λ it. node_part tables step.node (own_value depth row) below it ∷ []) n [])) found
