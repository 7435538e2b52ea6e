-- What is asked of the nodes that stand in a data tree does not depend on the types of values.
use Rattle.std.proofs.Common.{◌≡◌, ◌&&◌, ◌||◌, ◌==◌, ◌+◌, not, cond, ltb, ℕ, zero, suc, Bool, true, false, List, [], ◌∷◌, ◌++◌, length, map, take, refl, sym, ap, ◌∙◌}
use Rattle.std.specs.Prelude.{Option, Some, None, option_map, option_and_then, slice_get}
use Rattle.std.specs.List.{enumerate_from, filter, find, flat_map, list_all, list_any, zip}
use Rattle.std.specs.Option.{option_map_or}
use Rattle.std.proofs.lemmas.List.{length-map}
use Rattle.std.proofs.lemmas.Option.{slice_get-map}
use Rattle.nc_names.specs.Same.{is_same_text}
use Rattle.nc_names.specs.Signs.{colon, closing_bracket, equals, opening_bracket, slash}
use Rattle.nc_names.specs.declared.cause.CauseKind.TheVariants.{Mandatory, MandatoryChoice, TooFew, TooMany, NotUnique}
use Rattle.nc_names.specs.declared.path.Row.{Row}
use Rattle.nc_names.specs.declared.path.Step.{Step}
use Rattle.nc_schema.specs.Children.{is_same_number}
use Rattle.nc_schema.specs.InUse.{defaults_of, defaults_there, or_else, parent_of, stands_in, values_below, values_in_use, values_there}
use Rattle.nc_schema.specs.Kinds.{has_entries, is_leaf, stands_for_itself}
use Rattle.nc_schema.specs.PathTexts.{key_predicate, module_name, path_text_of, predicates, prefixed_name, quoted, step_predicates, step_text, value_predicate}
use Rattle.nc_schema.specs.Places.{Part, Place, cases_there, is_chosen, is_chosen_or_default, is_made, is_same_next, node_there, parts_of, parts_there, place_at, place_below, place_of, place_parts, places_among, places_from, places_of, top_place}
use Rattle.nc_schema.specs.Standing.{above_of, cases_of}
use Rattle.nc_schema.specs.Tables.{Tables}
use Rattle.nc_schema.specs.Violations.{agree_in, bare_violations, child_violations, choice_violations, has_text, is_choice_before, is_named_node, is_required, node_violations, repeated, structural_violations, unique_violations, values_referred, violated, violations_at}
use Rattle.nc_schema.specs.declared.node.Case.{Case}
use Rattle.nc_schema.specs.declared.node.Choice.{Choice}
use Rattle.nc_schema.specs.declared.node.Kind.{Kind}
use Rattle.nc_schema.specs.declared.node.Kind.TheVariants.{Container, Leaf, LeafList, List as ListKind}
use Rattle.nc_schema.specs.declared.node.Node.{Node}
use Rattle.nc_schema.specs.declared.violation.Violation.{Violation}
use Rattle.nc_yang.specs.Laws.{without_type}

-- a schema without types
abbrev pub typeless : Tables → Tables
typeless t = record { nodes = map without_type t.nodes; choices = t.choices; types = []; modules = t.modules; patterns = [] }

or_there : {B : Type 0} (g h : Node → B) (d : B) → ((n : Node) → g (without_type n) ≡ h n) → (o : Option Node) → option_map_or g (option_map without_type o) d ≡ option_map_or h o d
or_there g h d same None = refl
or_there g h d same (Some n) = same n

then_there : {B : Type 0} (g h : Node → Option B) → ((n : Node) → g (without_type n) ≡ h n) → (o : Option Node) → option_and_then g (option_map without_type o) ≡ option_and_then h o
then_there g h same None = refl
then_there g h same (Some n) = same n

any_taken : (p : Node → Bool) → ((n : Node) → p (without_type n) ≡ p n) → (count : ℕ) (nodes : List Node) → list_any p (take count (map without_type nodes)) ≡ list_any p (take count nodes)
any_taken p same zero nodes = refl
any_taken p same (suc count) [] = refl
any_taken p same (suc count) (n ∷ ns) = λ i. same n i || any_taken p same count ns i

each_of : {B : Type 0} (g h : ℕ × Node → List B) → ((number : ℕ) (n : Node) → g (number, without_type n) ≡ h (number, n)) → (first : ℕ) (nodes : List Node) →
    flat_map g (enumerate_from first (map without_type nodes)) ≡ flat_map h (enumerate_from first nodes)
each_of g h same first [] = refl
each_of g h same first (n ∷ ns) = λ i. same first n i ++ each_of g h same (first + 1) ns i

module _ (t : Tables) where
  abbrev b : Tables
  b = typeless t

  at_node : {B : Type 0} (g h : Node → B) (d : B) → ((n : Node) → g (without_type n) ≡ h n) → (i : ℕ) → option_map_or g (slice_get b.nodes i) d ≡ option_map_or h (slice_get t.nodes i) d
  at_node g h d same i = ap (λ o. option_map_or g o d) (slice_get-map without_type t.nodes i) ∙ or_there g h d same (slice_get t.nodes i)

  then_node : {B : Type 0} (g h : Node → Option B) → ((n : Node) → g (without_type n) ≡ h n) → (i : ℕ) → option_and_then g (slice_get b.nodes i) ≡ option_and_then h (slice_get t.nodes i)
  then_node g h same i = ap (option_and_then g) (slice_get-map without_type t.nodes i) ∙ then_there g h same (slice_get t.nodes i)

  -- ---- places
  cases_same : (n : ℕ) → cases_of b n ≡ cases_of t n
  cases_same n = at_node (λ node. node.cases) (λ node. node.cases) [] (λ node. refl) n

  cases_there_same : (place : Place) → cases_there b place ≡ cases_there t place
  cases_there_same place = λ i. flat_map (λ (part : Part). option_map_or (λ (step : Step). cases_same step.node i) part.step []) (parts_there place)

  chosen_same : (place : Place) (case : Case) → is_chosen b place case ≡ is_chosen t place case
  chosen_same place case = λ i. list_any (λ (other : Case). other.choice == case.choice && other.case == case.case) (cases_there_same place i)

  made_same : (place : Place) (choice : ℕ) → is_made b place choice ≡ is_made t place choice
  made_same place choice = λ i. list_any (λ (other : Case). other.choice == choice) (cases_there_same place i)

  default_same : (place : Place) (case : Case) → is_chosen_or_default b place case ≡ is_chosen_or_default t place case
  default_same place case = λ i.
      chosen_same place case i
      || (is_same_number (option_and_then (λ (choice : Choice). choice.default_case) (slice_get t.choices case.choice)) (Some case.case) && not (made_same place case.choice i))

  place_same : (place : Place) (node : Node) (part : Part) → place_of b place (without_type node) part ≡ place_of t place node part
  place_same place node part = λ i. record (place_of t place node part) {
    required = stands_for_itself node.kind || (place.required && list_all (λ case. chosen_same place case i) node.cases);
    defaults = stands_for_itself node.kind || (place.defaults && list_all (λ case. default_same place case i) node.cases);
  }

  places_same : (place : Place) (number : ℕ) (node : Node) → places_of b place number (without_type node) ≡ places_of t place number node
  places_same place number node = λ i. map (λ part. place_same place node part i) (place_parts place number node.kind)

  below_same : (place : Place) (step : Step) → place_below b place step ≡ place_below t place step
  below_same place step =
      let instance : Node → Option Part = λ node. find (λ part. is_same_next part.step (Some step)) (place_parts place step.node node.kind) in
      then_node (λ node. option_map (place_of b place node) (instance node)) (λ node. option_map (place_of t place node) (instance node))
      (λ node. λ i. option_map (λ part. place_same place node part i) (instance node)) step.node

  place_at_same : (place : Place) (steps : List Step) → place_at b place steps ≡ place_at t place steps
  place_at_same place [] = refl
  place_at_same place (step ∷ rest) = λ i. option_and_then (λ below. place_at_same below rest i) (below_same place step i)

  among_same : (place : Place) (number : ℕ) (nodes : List Node) → places_among b place number (map without_type nodes) ≡ places_among t place number nodes
  among_same place number [] = refl
  among_same place number (node ∷ later) = λ i.
      flat_map (λ below. below ∷ among_same below (number + 1) later i) (cond (is_same_number node.parent (node_there place)) (places_same place number node i) [])
      ++ among_same place (number + 1) later i

  from_same : (place : Place) → places_from b place ≡ places_from t place
  from_same place = λ i. place ∷ among_same place 0 t.nodes i

  -- ---- values in use
  defaults_same : (n : ℕ) → defaults_of b n ≡ defaults_of t n
  defaults_same n = at_node (λ node. node.defaults) (λ node. node.defaults) [] (λ node. refl) n

  defaults_there_same : (place : Place) (n : ℕ) → defaults_there b place n ≡ defaults_there t place n
  defaults_there_same place n = λ i. cond (place.defaults && list_all (λ case. default_same place case i) (cases_same n i)) (defaults_same n i) []

  in_use_same : (place : Place) (n : ℕ) → values_in_use b place n ≡ values_in_use t place n
  in_use_same place n = λ i. or_else (values_there place n) (defaults_there_same place n i)

  parent_same : (n : ℕ) → parent_of b n ≡ parent_of t n
  parent_same n = then_node (λ node. node.parent) (λ node. node.parent) (λ node. refl) n

  values_same : (place : Place) (n : ℕ) → values_below b place n ≡ values_below t place n
  values_same place n = λ i. flat_map (λ one. cond (stands_in (parent_same n i) one) (in_use_same one n i) []) (from_same place i)

  -- ---- which nodes stand
  required_same : (place : Place) (cases : List Case) → is_required b place cases ≡ is_required t place cases
  required_same place cases = λ i. place.required && list_all (λ case. chosen_same place case i) cases

  agree_same : (leafs : List ℕ) (entry other : Place) → agree_in b leafs entry other ≡ agree_in t leafs entry other
  agree_same leafs entry other = λ i. list_all (λ leaf. list_any (λ value. has_text value (values_same other leaf i)) (values_same entry leaf i)) leafs

  unique_same : (place : Place) (number : ℕ) (node : Node) (leafs : List ℕ) →
      unique_violations b (places_of b place number (without_type node)) leafs ≡ unique_violations t (places_of t place number node) leafs
  unique_same place number node leafs = λ i.
      map (λ (entry : Place). record { kind = NotUnique; path = record { steps = entry.steps } })
      (repeated (λ entry other. agree_same leafs entry other i) [] (places_same place number node i))

  node_same : (place : Place) (number : ℕ) (node : Node) → node_violations b place number (without_type node) ≡ node_violations t place number node
  node_same place number node = λ i.
      let count = length (parts_of place number) in
      let child = place.steps ++ record { node = number; keys = [] } ∷ [] in
      violated (is_leaf node.kind && node.mandatory && count == 0 && required_same place node.cases i) Mandatory child
      ++ violated (has_entries node.kind && ltb count node.least && required_same place node.cases i) TooFew child
      ++ violated (has_entries node.kind && option_map_or (λ most. ltb most count) node.most false) TooMany child
      ++ flat_map (λ leafs. unique_same place number node leafs i) node.uniques

  choice_same : (place : Place) (number : ℕ) → choice_violations b place number ≡ choice_violations t place number
  choice_same place number = λ i.
      violated (option_map_or (λ (choice : Choice). choice.mandatory && not (made_same place number i) && required_same place choice.within i) (slice_get t.choices number) false) MandatoryChoice place.steps

  before_same : (number choice : ℕ) → is_choice_before b number choice ≡ is_choice_before t number choice
  before_same number choice = any_taken (λ node. list_any (λ (one : Case). one.choice == choice) node.cases) (λ node. refl) number t.nodes

  child_same : (place : Place) (number : ℕ) (node : Node) → child_violations b place number (without_type node) ≡ child_violations t place number node
  child_same place number node = λ i.
      flat_map (λ (one : Case). choice_same place one.choice i) (filter (λ (one : Case). not (before_same number one.choice i)) node.cases)
      ++ node_same place number node i

  bare_same : (place : Place) (number : ℕ) → bare_violations b place number ≡ bare_violations t place number
  bare_same place number =
      let before : is_choice_before b (length b.nodes) number ≡ is_choice_before t (length t.nodes) number =
      ap (λ n. is_choice_before b n number) (length-map t.nodes without_type) ∙ before_same (length t.nodes) number in
      λ i. cond (before i) [] (choice_same place number i)

  at_same : (place : Place) → violations_at b place ≡ violations_at t place
  at_same place =
      let of_nodes =
      each_of (λ one. cond (stands_in one.1.parent place) (child_violations b place one.0 one.1) []) (λ one. cond (stands_in one.1.parent place) (child_violations t place one.0 one.1) [])
      (λ number node. λ i. cond (stands_in node.parent place) (child_same place number node i) []) 0 t.nodes in
      λ i. of_nodes i ++ flat_map (λ (one : ℕ × Choice). cond (stands_in one.1.parent place) (bare_same place one.0 i) []) (enumerate_from 0 t.choices)

  pub structure_same : (rows : List Row) → structural_violations b rows ≡ structural_violations t rows
  structure_same rows = λ i. flat_map (λ place. at_same place i) (from_same (top_place rows) i)

  -- ---- where references lead
  pub referred_same : (rows : List Row) (turning : List Step) (target : ℕ) → values_referred b rows turning target ≡ values_referred t rows turning target
  referred_same rows turning target = λ i. option_map_or (λ place. values_same place target i) (place_at_same (top_place rows) turning i) []

  prefixed_same : (n : ℕ) → prefixed_name b n ≡ prefixed_name t n
  prefixed_same n =
      let text : Node → List ℕ = λ node. module_name t node.module ++ colon ∷ node.name.name in at_node text text [] (λ node. refl) n

  predicates_same : (kind_of : Kind) (keys : List ℕ) (values : List (List ℕ)) → predicates b kind_of keys values ≡ predicates t kind_of keys values
  predicates_same (Container presence) keys values = refl
  predicates_same Leaf keys values = refl
  predicates_same LeafList keys values = refl
  predicates_same ListKind keys values = λ i.
      flat_map (λ (pair : ℕ × List ℕ). (opening_bracket ∷ prefixed_same pair.0 i ++ equals ∷ []) ++ quoted pair.1 ++ closing_bracket ∷ []) (zip keys values)

  step_same : (step : Step) → step_text b step ≡ step_text t step
  step_same step =
      let given : step_predicates b step ≡ step_predicates t step =
      at_node (λ node. predicates b node.kind node.keys step.keys) (λ node. predicates t node.kind node.keys step.keys) [] (λ node. predicates_same node.kind node.keys step.keys) step.node in
      λ i. slash ∷ prefixed_same step.node i ++ given i

  pub named_same : (rows : List Row) (text : List ℕ) → is_named_node b rows text ≡ is_named_node t rows text
  named_same rows text = λ i.
      list_any (λ (row : Row). list_any (λ steps. is_same_text (flat_map (λ step. step_same step i) steps) text) (row.path.steps ∷ above_of row.path.steps)) rows
