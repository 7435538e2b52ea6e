-- Canonical texts do not depend on defaults.
use Rattle.std.proofs.Common.{◌≡◌, ◌&&◌, ◌||◌, ◌==◌, ◌+◌, not, cond, ℕ, zero, suc, Bool, false, List, [], ◌∷◌, ◌++◌, length, map, refl, sym, ap, ◌∙◌}
use Rattle.std.specs.Prelude.{Option, Some, None, option_map, option_and_then, slice_get, count_by, is_some}
use Rattle.std.specs.List.{find, flat_map, list_any, position_from, zip}
use Rattle.std.specs.Option.{option_map_or}
use Rattle.std.proofs.lemmas.Iterator.Adapters.{position_from-zero}
use Rattle.nc_names.specs.declared.name.Bound.{Bound}
use Rattle.nc_names.specs.declared.name.QName.{QName}
use Rattle.nc_names.specs.declared.path.Path.{Path}
use Rattle.nc_names.specs.declared.path.Step.{Step}
use Rattle.nc_names.specs.Ends.{trimmed}
use Rattle.nc_names.specs.Same.{is_same_name, is_same_text}
use Rattle.nc_names.specs.Signs.{closing_bracket, colon, equals, opening_bracket, slash}
use Rattle.nc_schema.specs.Bindings.{module_bounds}
use Rattle.nc_schema.specs.Children.{child_number, is_same_number}
use Rattle.nc_schema.specs.InstancePaths.{has_name, instance_path, instance_steps, is_of_key, key_given, key_nodes, keys_given, keys_of_kind, node_pattern, pattern_step, pattern_steps, qualified, values_given}
use Rattle.nc_schema.specs.Kinds.{has_value}
use Rattle.nc_schema.specs.Order.{keys_above}
use Rattle.nc_schema.specs.PathTexts.{key_predicate, module_name, predicates, prefixed_name, quoted, step_predicates, step_text, value_predicate}
use Rattle.nc_schema.specs.PathWords.{written_steps}
use Rattle.nc_schema.specs.Tables.{Tables}
use Rattle.nc_schema.specs.Values.{Givers, Gives, canonical, canonical_given, canonical_keys, canonical_part, canonical_pattern, canonical_step, canonical_steps, given_predicate, identity_text, instance_text, is_key_above, is_quotable, node_instance_text, node_text, pattern_step_text, pattern_text, text_in_type, text_within, type_of, type_text, union_text, value_depth}
use Rattle.nc_schema.specs.declared.node.Kind.{Kind}
use Rattle.nc_schema.specs.declared.node.Kind.TheVariants.{Container, Leaf, LeafList, List as ListKind}
use Rattle.nc_schema.specs.declared.node.Node.{Node}
use Rattle.nc_schema.specs.declared.pattern.Pattern.{Pattern}
use Rattle.nc_schema.specs.declared.pattern.PatternStep.{PatternStep}
use Rattle.nc_schema.specs.declared.value_type.ValueType.{ValueType}
use Rattle.nc_schema.specs.declared.value_type.ValueType.TheVariants.{Whole, Decimal, Chars, Boolean, Enumeration, Bits, Binary, Empty, Union, Identity, Leafref, Instance, NodeInstance}
use Rattle.nc_schema.specs.declared.written.WrittenName.{WrittenName}
use Rattle.nc_schema.specs.declared.written.WrittenPredicate.{WrittenPredicate}
use Rattle.nc_schema.specs.declared.written.WrittenStep.{WrittenStep}

-- a node without its defaults, and with that in place of the number of its type
abbrev pub bare_by : (ℕ → ℕ) → Node → Node
bare_by rate node = record node { kind_of_value = rate node.kind_of_value; defaults = [] }

-- a node without its defaults alone
abbrev pub bare : Node → Node
bare node = record node { defaults = [] }

abbrev pub bare_tables : Tables → Tables
bare_tables tables = record tables { nodes = map bare tables.nodes }

module _ (rate : ℕ → ℕ) where
  get_bare : (nodes : List Node) (i : ℕ) → slice_get (map (bare_by rate) nodes) i ≡ option_map (bare_by rate) (slice_get nodes i)
  get_bare [] i = refl
  get_bare (n ∷ ns) zero = refl
  get_bare (n ∷ ns) (suc i) = get_bare ns i

  or_bare : {B : Type 0} (g : Node → B) (d : B) → ((n : Node) → g (bare_by rate n) ≡ g n) → (o : Option Node) → option_map_or g (option_map (bare_by rate) o) d ≡ option_map_or g o d
  or_bare g d same None = refl
  or_bare g d same (Some n) = same n

  then_bare : {B : Type 0} (g : Node → Option B) → ((n : Node) → g (bare_by rate n) ≡ g n) → (o : Option Node) → option_and_then g (option_map (bare_by rate) o) ≡ option_and_then g o
  then_bare g same None = refl
  then_bare g same (Some n) = same n

  from_bare : (p : Node → Bool) → ((n : Node) → p (bare_by rate n) ≡ p n) → (k : ℕ) (nodes : List Node) → position_from p k (map (bare_by rate) nodes) ≡ position_from p k nodes
  from_bare p same k [] = refl
  from_bare p same k (n ∷ ns) = λ i. cond (same n i) (Some k) (from_bare p same (k + 1) ns i)

  -- what is said of paths does not depend on types and patterns
  module _ (types : List ValueType) (patterns : List (List ℕ)) (t : Tables) where
    abbrev b : Tables
    b = record { nodes = map (bare_by rate) t.nodes; choices = t.choices; types = types; modules = t.modules; patterns = patterns }

    at_bare : {B : Type 0} (g : Node → B) (d : B) → ((n : Node) → g (bare_by rate n) ≡ g n) → (i : ℕ) → option_map_or g (slice_get b.nodes i) d ≡ option_map_or g (slice_get t.nodes i) d
    at_bare g d same i = ap (λ o. option_map_or g o d) (get_bare t.nodes i) ∙ or_bare g d same (slice_get t.nodes i)

    pub key_nodes_same : (n : ℕ) → key_nodes b n ≡ key_nodes t n
    key_nodes_same n = at_bare (λ node. keys_of_kind node.kind n node.keys) [] (λ node. refl) n

    has_name_same : (n : ℕ) (name : QName) → has_name b n name ≡ has_name t n name
    has_name_same n name = at_bare (λ node. is_same_name node.name name) false (λ node. refl) n

    keys_above_same : (o : Option ℕ) → keys_above b o ≡ keys_above t o
    keys_above_same None = refl
    keys_above_same (Some n) = at_bare (λ node. node.keys) [] (λ node. refl) n

    pub key_above_same : (n : ℕ) → is_key_above b n ≡ is_key_above t n
    key_above_same n =
        at_bare (λ node. list_any (λ key. key == n) (keys_above b node.parent)) false (λ node. refl) n
        ∙ (λ i. option_map_or (λ (node : Node). list_any (λ key. key == n) (keys_above_same node.parent i)) (slice_get t.nodes n) false)

    prefixed_same : (n : ℕ) → prefixed_name b n ≡ prefixed_name t n
    prefixed_same n = at_bare (λ node. module_name t node.module ++ colon ∷ node.name.name) [] (λ node. refl) n

    child_same : (parent : Option ℕ) (name : QName) → child_number b parent name ≡ child_number t parent name
    child_same parent name =
        let p : Node → Bool = λ node. is_same_number node.parent parent && is_same_name node.name name in
        position_from-zero p (map (bare_by rate) t.nodes) ∙ from_bare p (λ node. refl) 0 t.nodes ∙ sym (position_from-zero p t.nodes)

    -- ---- paths read
    of_key_same : (bounds : List Bound) (n key : ℕ) (o : Option WrittenName) → is_of_key b bounds n key o ≡ is_of_key t bounds n key o
    of_key_same bounds n key None = refl
    of_key_same bounds n key (Some written) = λ i. not (key == n) && option_map_or (λ name. has_name_same key name i) (qualified t bounds written) false

    key_given_same : (bounds : List Bound) (n : ℕ) (written : List WrittenPredicate) (key : ℕ) → key_given b bounds n written key ≡ key_given t bounds n written key
    key_given_same bounds n written key = λ i. option_map (λ (one : WrittenPredicate). one.value) (find (λ one. of_key_same bounds n key one.key i) written)

    values_same : (bounds : List Bound) (n : ℕ) (written : List WrittenPredicate) → values_given b bounds n written ≡ values_given t bounds n written
    values_same bounds n written = λ i. map (λ key. key_given_same bounds n written key i) (key_nodes_same n i)

    keys_given_same : (bounds : List Bound) (n : ℕ) (written : List WrittenPredicate) → keys_given b bounds n written ≡ keys_given t bounds n written
    keys_given_same bounds n written = ap (λ values. cond (count_by is_some values == length written) (Some values) None) (values_same bounds n written)

    pattern_step_same : (bounds : List Bound) (above : Option ℕ) (step : WrittenStep) → pattern_step b bounds above step ≡ pattern_step t bounds above step
    unfolding pattern_step
    pattern_step_same bounds above step = λ i.
        option_and_then (λ name. option_and_then (λ number. option_and_then (λ keys. Some (record { node = number; keys = keys })) (keys_given_same bounds number step.predicates i)) (child_same above name i))
        (qualified t bounds step.name)

    pattern_steps_same : (bounds : List Bound) (above : Option ℕ) (steps : List WrittenStep) → pattern_steps b bounds above steps ≡ pattern_steps t bounds above steps
    pattern_steps_same bounds above [] = refl
    pattern_steps_same bounds above (step ∷ rest) = λ i.
        option_and_then (λ (first : PatternStep). option_and_then (λ more. Some (first ∷ more)) (pattern_steps_same bounds (Some first.node) rest i)) (pattern_step_same bounds above step i)

    path_same : (text : List ℕ) (bounds : List Bound) → instance_path b text bounds ≡ instance_path t text bounds
    unfolding instance_path
    path_same text bounds = λ i.
        option_and_then (λ written. option_and_then (λ pattern. option_and_then (λ steps. Some (record { steps = steps })) (instance_steps pattern)) (pattern_steps_same bounds None written i)) (written_steps text)

    pattern_same : (text : List ℕ) (bounds : List Bound) → node_pattern b text bounds ≡ node_pattern t text bounds
    unfolding node_pattern
    pattern_same text bounds = λ i.
        cond (is_same_text text (slash ∷ [])) (Some (record { steps = [] }))
        (option_map (λ steps. record { steps = steps }) (option_and_then (λ written. pattern_steps_same bounds None written i) (written_steps text)))

    -- ---- keys made canonical
    step_same : (gives : Gives) (step : Step) → canonical_step b gives step ≡ canonical_step t gives step
    step_same gives step = ap (λ nodes. option_map (λ keys. record { node = step.node; keys = keys }) (canonical_keys gives nodes step.keys)) (key_nodes_same step.node)

    steps_same : (gives : Gives) (steps : List Step) → canonical_steps b gives steps ≡ canonical_steps t gives steps
    steps_same gives [] = refl
    steps_same gives (step ∷ rest) = λ i. option_and_then (λ first. option_and_then (λ more. Some (first ∷ more)) (steps_same gives rest i)) (step_same gives step i)

    part_same : (gives : Gives) (step : PatternStep) → canonical_part b gives step ≡ canonical_part t gives step
    part_same gives step = ap (λ nodes. option_map (λ keys. record { node = step.node; keys = keys }) (canonical_given gives nodes step.keys)) (key_nodes_same step.node)

    parts_same : (gives : Gives) (steps : List PatternStep) → canonical_pattern b gives steps ≡ canonical_pattern t gives steps
    parts_same gives [] = refl
    parts_same gives (step ∷ rest) = λ i. option_and_then (λ first. option_and_then (λ more. Some (first ∷ more)) (parts_same gives rest i)) (part_same gives step i)

    -- ---- paths written
    key_predicate_same : (key : ℕ) (value : List ℕ) → key_predicate b key value ≡ key_predicate t key value
    key_predicate_same key value = ap (λ name. (opening_bracket ∷ name ++ equals ∷ []) ++ quoted value ++ closing_bracket ∷ []) (prefixed_same key)

    predicates_same : (kind_of : Kind) (keys : List ℕ) (values : List (List ℕ)) → predicates b kind_of keys values ≡ predicates t kind_of keys values
    predicates_same (Container presence) keys values = refl
    predicates_same Leaf keys values = refl
    predicates_same LeafList keys values = refl
    predicates_same ListKind keys values = λ i. flat_map (λ pair. key_predicate_same pair.0 pair.1 i) (zip keys values)

    step_predicates_same : (step : Step) → step_predicates b step ≡ step_predicates t step
    step_predicates_same step =
        at_bare (λ node. predicates b node.kind node.keys step.keys) [] (λ node. refl) step.node
        ∙ (λ i. option_map_or (λ (node : Node). predicates_same node.kind node.keys step.keys i) (slice_get t.nodes step.node) [])

    step_text_same : (step : Step) → step_text b step ≡ step_text t step
    step_text_same step = λ i. slash ∷ prefixed_same step.node i ++ step_predicates_same step i

    given_predicate_same : (n key : ℕ) (o : Option (List ℕ)) → given_predicate b n key o ≡ given_predicate t n key o
    given_predicate_same n key None = refl
    given_predicate_same n key (Some value) = λ i. cond (key == n) (value_predicate value) (key_predicate_same key value i)

    pattern_step_text_same : (step : PatternStep) → pattern_step_text b step ≡ pattern_step_text t step
    pattern_step_text_same step = λ i.
        slash ∷ prefixed_same step.node i ++ flat_map (λ pair. given_predicate_same step.node pair.0 pair.1 i) (zip (key_nodes_same step.node i) step.keys)

    pattern_text_same : (steps : List PatternStep) → pattern_text b steps ≡ pattern_text t steps
    pattern_text_same steps = λ i. cond (length steps == 0) (slash ∷ []) (flat_map (λ step. pattern_step_text_same step i) steps)

    -- ---- values
    pub instance_same : (keys other : List Bound → Gives) → keys ≡ other → (bounds : List Bound) (text : List ℕ) → instance_text b keys bounds text ≡ instance_text t other bounds text
    unfolding instance_text
    instance_same keys other same bounds text = λ i.
        option_and_then (λ (path : Path). option_and_then (λ steps. Some (flat_map (λ step. step_text_same step i) steps)) (steps_same (same i bounds) path.steps i)) (path_same text bounds i)

    pub node_instance_same : (keys other : List Bound → Gives) → keys ≡ other → (bounds : List Bound) (text : List ℕ) → node_instance_text b keys bounds text ≡ node_instance_text t other bounds text
    unfolding node_instance_text
    node_instance_same keys other same bounds text = λ i.
        option_and_then (λ (pattern : Pattern). option_and_then (λ steps. Some (pattern_text_same steps i)) (parts_same (same i bounds) pattern.steps i)) (pattern_same text bounds i)

    pub identity_same : (among : List QName) (bounds : List Bound) (text : List ℕ) → identity_text b among bounds text ≡ identity_text t among bounds text
    unfolding identity_text
    identity_same among bounds text = refl

module _ (t : Tables) where
  abbrev whole : Tables
  whole = bare_tables t

  type_of_same : (n : ℕ) → type_of whole n ≡ type_of t n
  type_of_same n =
      ap (option_and_then (λ (node : Node). cond (has_value node.kind) (Some node.kind_of_value) None)) (get_bare (λ n. n) t.nodes n)
      ∙ then_bare (λ n. n) (λ node. cond (has_value node.kind) (Some node.kind_of_value) None) (λ node. refl) (slice_get t.nodes n)

  in_type_same : (g h : Givers) → g ≡ h → (type : ValueType) (bounds : List Bound) (text : List ℕ) → text_in_type whole g type bounds text ≡ text_in_type t h type bounds text
  in_type_same g h same (Whole among) bounds text = refl
  in_type_same g h same (Decimal digits among) bounds text = refl
  in_type_same g h same (Chars lengths starless numbers) bounds text = refl
  in_type_same g h same Boolean bounds text = refl
  in_type_same g h same (Enumeration names) bounds text = refl
  in_type_same g h same (Bits names) bounds text = refl
  in_type_same g h same (Binary lengths) bounds text = refl
  in_type_same g h same Empty bounds text = refl
  in_type_same g h same (Union members) bounds text = λ i. union_text (same i).types (module_bounds t) bounds [] members text
  in_type_same g h same (Identity among) bounds text = identity_same (λ n. n) t.types t.patterns t among bounds (trimmed text)
  in_type_same g h same (Leafref target above required) bounds text = λ i. option_and_then (λ number. (same i).types bounds number text) (type_of_same target i)
  in_type_same g h same (Instance required) bounds text = instance_same (λ n. n) t.types t.patterns t g.keys h.keys (λ i. (same i).keys) bounds (trimmed text)
  in_type_same g h same NodeInstance bounds text = node_instance_same (λ n. n) t.types t.patterns t g.keys h.keys (λ i. (same i).keys) bounds (trimmed text)

  type_text_same : (keys other : List Bound → Gives) → keys ≡ other → (most : ℕ) (chain : List ℕ) (bounds : List Bound) (number : ℕ) (text : List ℕ) →
      type_text whole keys most chain bounds number text ≡ type_text t other most chain bounds number text
  type_text_same keys other same zero chain bounds number text = refl
  type_text_same keys other same (suc most) chain bounds number text =
      let g : Givers = record { keys = keys; types = type_text whole keys most (number ∷ chain) } in
      let h : Givers = record { keys = other; types = type_text t other most (number ∷ chain) } in
      let givers : g ≡ h = (λ i. record { keys = same i; types = λ bs n x. type_text_same keys other same most (number ∷ chain) bs n x i }) in
      λ i. cond (list_any (λ asked. asked == number) chain) None (option_and_then (λ type. in_type_same g h givers type bounds text i) (slice_get t.types number))

  node_text_same : (keys other : List Bound → Gives) → keys ≡ other → (bounds : List Bound) (number : ℕ) (text : List ℕ) → node_text whole keys bounds number text ≡ node_text t other bounds number text
  node_text_same keys other same bounds number text = λ i.
      option_and_then (λ type. option_and_then (λ value. cond (not (key_above_same (λ n. n) t.types t.patterns t number i || list_any (λ key. key == number) (key_nodes_same (λ n. n) t.types t.patterns t number i)) || is_quotable value) (Some value) None)
      (type_text_same keys other same (length t.types) [] bounds type text i)) (type_of_same number i)

  within_same : (depth : ℕ) → text_within whole depth ≡ text_within t depth
  within_same zero = λ i bounds number text. None
  within_same (suc depth) = λ i bounds number text. node_text_same (text_within whole depth) (text_within t depth) (within_same depth) bounds number text i

  pub canonical_same : (number : ℕ) (text : List ℕ) (bounds : List Bound) → canonical whole number text bounds ≡ canonical t number text bounds
  unfolding canonical
  canonical_same number text bounds = λ i. within_same value_depth i bounds number text
