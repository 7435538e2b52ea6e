-- The text of a pattern of steps is read as that pattern, under the names of modules.
use Rattle.std.proofs.Common.{◌≡◌, ◌≢◌, ◌⊎◌, ◌==◌, ◌<◌, ◌≤◌, ◌+◌, cond, ℕ, zero, suc, Bool, true, false, List, [], ◌∷◌, ◌++◌, length, map, Option, Some, None, refl, sym, ap, subst, ◌∙◌, inl, inr, arith, append_assoc}
use Rattle.std.proofs.lemmas.List.{length-append}
use Rattle.std.proofs.lemmas.List.Elements.{Contains-push_cases}
use Rattle.std.proofs.lemmas.List.Sums.{sum_by-cons}
use Rattle.std.proofs.lemmas.Bool.Decides.{Decides-eqb}
use Rattle.std.specs.List.{AllPairs, Contains, find, flat_map, zip}
use Rattle.std.specs.Prelude.{option_map, count_by, is_some, slice_get}
use Rattle.nc_names.specs.declared.name.Bound.{Bound}
use Rattle.nc_names.specs.declared.name.QName.{QName}
use Rattle.nc_names.specs.Signs.{closing_bracket, colon, dot, equals, is_in_identifier, opening_bracket, slash}
use Rattle.nc_schema.specs.Bindings.{module_bounds}
use Rattle.nc_schema.specs.Children.{child_number}
use Rattle.nc_schema.specs.InstancePaths.{is_of_key, key_nodes, keys_given, pattern_step, pattern_steps, qualified, values_given}
use Rattle.nc_schema.specs.PathTexts.{key_predicate, mark_round, prefixed_name, quoted, value_predicate}
use Rattle.nc_schema.specs.PathWords.{◌>>=◌, begins_with, predicate, predicates, sign, steps_within, written_name, written_step, written_steps}
use Rattle.nc_schema.specs.Proper.{IsProperSchema}
use Rattle.nc_schema.specs.Tables.{Tables}
use Rattle.nc_schema.specs.Values.{given_predicate, pattern_step_text}
use Rattle.nc_schema.specs.declared.node.Node.{Node}
use Rattle.nc_schema.specs.declared.pattern.PatternStep.{PatternStep}
use Rattle.nc_schema.specs.declared.written.WrittenName.{WrittenName}
use Rattle.nc_schema.specs.declared.written.WrittenPredicate.{WrittenPredicate}
use Rattle.nc_schema.specs.declared.written.WrittenStep.{WrittenStep}
use Rattle.nc_protocol.proofs.ListLemmas.{contains_behind}
use Rattle.nc_print.proofs.ReadBack.{child_of_its_name}
use Rattle.nc_print.proofs.KeyNodes.{AreKeys, IsWritten, are_keys, key_for, name_for, written_is}
use Rattle.nc_print.proofs.PathsWritten.{IsMarked, Stops, key_predicate_there, name_there, value_predicate_there}

-- ---- the words of a step
abbrev one_written : Tables → ℕ → ℕ → Option (List ℕ) → List WrittenPredicate
one_written tables number key None = []
one_written tables number key (Some value) = record { key = key_for tables number key; value = value } ∷ []

abbrev written_keys : Tables → ℕ → List ℕ → List (Option (List ℕ)) → List WrittenPredicate
written_keys tables number keys values = flat_map (λ pair. one_written tables number pair.0 pair.1) (zip keys values)

abbrev step_for : Tables → PatternStep → WrittenStep
step_for tables step = record { name = name_for tables step.node; predicates = written_keys tables step.node (key_nodes tables step.node) step.keys }

abbrev keys_text : Tables → ℕ → List ℕ → List (Option (List ℕ)) → List ℕ
keys_text tables number keys values = flat_map (λ pair. given_predicate tables number pair.0 pair.1) (zip keys values)

-- each value that is given lacks a mark
abbrev pub AreMarked : List (Option (List ℕ)) → Type 0
AreMarked values = (value : List ℕ) → Contains values (Some value) → IsMarked value

-- no predicate begins there, and no name goes on
abbrev pub EndsStep : List ℕ → Type 0
EndsStep [] = Unit {0}
EndsStep (c ∷ cs) = (is_in_identifier c ≡ false) × ((c == opening_bracket) ≡ false)

ends_stops : (rest : List ℕ) → EndsStep rest → Stops rest
ends_stops [] ends = tt
ends_stops (c ∷ cs) ends = ends.0

ends_begins : (rest : List ℕ) → EndsStep rest → begins_with opening_bracket rest ≡ false
ends_begins [] ends = refl
ends_begins (c ∷ cs) ends = ends.1

-- ---- the same texts, from the left
mark_shape : (value rest : List ℕ) (m : ℕ) → ((value ++ m ∷ []) ++ closing_bracket ∷ []) ++ rest ≡ value ++ m ∷ closing_bracket ∷ rest
mark_shape [] rest m = refl
mark_shape (c ∷ value) rest m = ap (λ t. c ∷ t) (mark_shape value rest m)

name_shape : (name value rest : List ℕ) (m : ℕ) → (((name ++ equals ∷ []) ++ m ∷ (value ++ m ∷ [])) ++ closing_bracket ∷ []) ++ rest ≡ name ++ equals ∷ m ∷ (value ++ m ∷ closing_bracket ∷ rest)
name_shape [] value rest m = ap (λ t. equals ∷ m ∷ t) (mark_shape value rest m)
name_shape (c ∷ name) value rest m = ap (λ t. c ∷ t) (name_shape name value rest m)

prefix_shape : (prefix name value rest : List ℕ) (m : ℕ) →
    ((((prefix ++ colon ∷ name) ++ equals ∷ []) ++ m ∷ (value ++ m ∷ [])) ++ closing_bracket ∷ []) ++ rest ≡ prefix ++ colon ∷ (name ++ equals ∷ m ∷ (value ++ m ∷ closing_bracket ∷ rest))
prefix_shape [] name value rest m = ap (λ t. colon ∷ t) (name_shape name value rest m)
prefix_shape (c ∷ prefix) name value rest m = ap (λ t. c ∷ t) (prefix_shape prefix name value rest m)

module _ (tables : Tables) (schema : IsProperSchema tables) where
  -- ---- one predicate
  -- what a predicate's text begins with, and what is read from it
  record IsPredicate (number key : ℕ) (value rest : List ℕ) : Type 0 where
    read : predicate (given_predicate tables number key (Some value) ++ rest) ≡ Some (record { key = key_for tables number key; value = value }, rest)
    begins : begins_with opening_bracket (given_predicate tables number key (Some value) ++ rest) ≡ true
    some : 0 < length (given_predicate tables number key (Some value))
    stops : Stops (given_predicate tables number key (Some value) ++ rest)

  predicate_is : (number key : ℕ) (node : Node) → slice_get tables.nodes key ≡ Some node → (value rest : List ℕ) → IsMarked value → IsPredicate number key value rest
  predicate_is number key node is value rest mark = by (key == number) refl
    where
      written : IsWritten tables key node
      written = written_is tables schema key node is

      m : ℕ
      m = mark_round value

      shape : Bool → List ℕ
      shape b = cond b (value_predicate value) (key_predicate tables key value)

      key_shape : key_predicate tables key value ++ rest ≡ opening_bracket ∷ (written.prefix ++ colon ∷ (node.name.name ++ equals ∷ mark_round value ∷ (value ++ mark_round value ∷ closing_bracket ∷ rest)))
      key_shape =
          ap (λ p. (((opening_bracket ∷ (p ++ equals ∷ [])) ++ quoted value) ++ closing_bracket ∷ []) ++ rest) written.text
          ∙ ap (λ t. opening_bracket ∷ t) (prefix_shape written.prefix node.name.name value rest (mark_round value))

      value_shape : value_predicate value ++ rest ≡ opening_bracket ∷ dot ∷ equals ∷ mark_round value ∷ (value ++ mark_round value ∷ closing_bracket ∷ rest)
      value_shape = ap (λ t. opening_bracket ∷ dot ∷ equals ∷ mark_round value ∷ t) (mark_shape value rest (mark_round value))

      by : (b : Bool) → (key == number) ≡ b → IsPredicate number key value rest
      by true e = record {
        read = ap (λ t. predicate (shape t ++ rest)) e ∙ ap predicate value_shape ∙ value_predicate_there value rest mark ∙ (λ i. Some (record { key = cond (sym e i) None (Some (name_for tables key)); value = value }, rest));
        begins = ap (λ t. begins_with opening_bracket (shape t ++ rest)) e;
        some = subst (λ (t : Bool). 0 < length (shape t)) (sym e) (omega arith);
        stops = subst (λ (t : Bool). Stops (shape t ++ rest)) (sym e) refl;
      }
      by false e = record {
        read = ap (λ t. predicate (shape t ++ rest)) e ∙ ap predicate key_shape ∙ key_predicate_there written.prefix node.name.name value rest written.prefix_is written.name_is mark
            ∙ (λ i. Some (record { key = (ap (λ n. Some n) (sym written.named) ∙ ap (λ t. cond t None (Some (name_for tables key))) (sym e)) i; value = value }, rest));
        begins = ap (λ t. begins_with opening_bracket (shape t ++ rest)) e;
        some = subst (λ (t : Bool). 0 < length (shape t)) (sym e) (omega arith);
        stops = subst (λ (t : Bool). Stops (shape t ++ rest)) (sym e) refl;
      }

  -- ---- the predicates of a step
  module _ (number : ℕ) where
    abbrev Named : List ℕ → Type 0
    Named keys = (key : ℕ) → Contains keys key → (node : Node) × (slice_get tables.nodes key ≡ Some node)

    keys_read : (keys : List ℕ) (values : List (Option (List ℕ))) (rest : List ℕ) (most : ℕ) → Named keys → AreMarked values → EndsStep rest → length (written_keys tables number keys values) ≤ most →
        predicates most (keys_text tables number keys values ++ rest) ≡ Some (written_keys tables number keys values, rest)
    keys_read [] values rest zero named marks ends enough = refl
    keys_read [] values rest (suc most) named marks ends enough = none_read rest most ends
      where
        none_read : (rest : List ℕ) (most : ℕ) → EndsStep rest → predicates (suc most) rest ≡ Some ([], rest)
        none_read rest most ends =
            let more : Option (List WrittenPredicate × List ℕ) = predicate rest >>= (λ (first : WrittenPredicate × List ℕ). option_map (λ (more : List WrittenPredicate × List ℕ). (first.0 ∷ more.0, more.1)) (predicates most first.1)) in
            let none : Option (List WrittenPredicate × List ℕ) = Some ([], rest) in
            ap (λ b. cond b more none) (ends_begins rest ends)
    keys_read (key ∷ keys) [] rest zero named marks ends enough = refl
    keys_read (key ∷ keys) [] rest (suc most) named marks ends enough =
        let more : Option (List WrittenPredicate × List ℕ) = predicate rest >>= (λ (first : WrittenPredicate × List ℕ). option_map (λ (more : List WrittenPredicate × List ℕ). (first.0 ∷ more.0, more.1)) (predicates most first.1)) in
        let none : Option (List WrittenPredicate × List ℕ) = Some ([], rest) in
        ap (λ b. cond b more none) (ends_begins rest ends)
    keys_read (key ∷ keys) (None ∷ values) rest most named marks ends enough =
        keys_read keys values rest most (λ k has. named k (contains_behind key keys k has)) (λ v has. marks v (contains_behind None values (Some v) has)) ends enough
    keys_read (key ∷ keys) (Some value ∷ values) rest zero named marks ends enough = absurd (omega (arith, enough))
    keys_read (key ∷ keys) (Some value ∷ values) rest (suc most) named marks ends enough =
        let node = named key (0, omega arith, refl) in
        let behind : List ℕ = keys_text tables number keys values ++ rest in
        let one = predicate_is number key node.0 node.1 value behind (marks value (0, omega arith, refl)) in
        let inner = keys_read keys values rest most (λ k has. named k (contains_behind key keys k has)) (λ v has. marks v (contains_behind (Some value) values (Some v) has)) ends (omega (arith, enough)) in
        ap (predicates (suc most)) (append_assoc (given_predicate tables number key (Some value)) (keys_text tables number keys values) rest)
        ∙ go (given_predicate tables number key (Some value) ++ behind) (record { key = key_for tables number key; value = value }) behind one.begins one.read
        ∙ ap (option_map (λ (more : List WrittenPredicate × List ℕ). (record { key = key_for tables number key; value = value } ∷ more.0, more.1))) inner
      where
        go : (text : List ℕ) (one : WrittenPredicate) (behind : List ℕ) → begins_with opening_bracket text ≡ true → predicate text ≡ Some (one, behind) →
            predicates (suc most) text ≡ option_map (λ (more : List WrittenPredicate × List ℕ). (one ∷ more.0, more.1)) (predicates most behind)
        go text one behind begins read =
            let none : Option (List WrittenPredicate × List ℕ) = Some ([], text) in
            (λ i. cond (begins i) (read i >>= (λ (first : WrittenPredicate × List ℕ). option_map (λ (more : List WrittenPredicate × List ℕ). (first.0 ∷ more.0, more.1)) (predicates most first.1))) none)

    -- there are no more predicates than signs
    few_keys : (keys : List ℕ) (values : List (Option (List ℕ))) → Named keys → AreMarked values → length (written_keys tables number keys values) ≤ length (keys_text tables number keys values)
    few_keys [] values named marks = omega arith
    few_keys (key ∷ keys) [] named marks = omega arith
    few_keys (key ∷ keys) (None ∷ values) named marks = few_keys keys values (λ k has. named k (contains_behind key keys k has)) (λ v has. marks v (contains_behind None values (Some v) has))
    few_keys (key ∷ keys) (Some value ∷ values) named marks =
        let node = named key (0, omega arith, refl) in
        let one = predicate_is number key node.0 node.1 value [] (marks value (0, omega arith, refl)) in
        let inner = few_keys keys values (λ k has. named k (contains_behind key keys k has)) (λ v has. marks v (contains_behind (Some value) values (Some v) has)) in
        let joined = length-append (given_predicate tables number key (Some value)) (keys_text tables number keys values) in
        omega (arith, one.some, inner, joined)

    keys_stop : (keys : List ℕ) (values : List (Option (List ℕ))) (rest : List ℕ) → Named keys → AreMarked values → EndsStep rest → Stops (keys_text tables number keys values ++ rest)
    keys_stop [] values rest named marks ends = ends_stops rest ends
    keys_stop (key ∷ keys) [] rest named marks ends = ends_stops rest ends
    keys_stop (key ∷ keys) (None ∷ values) rest named marks ends = keys_stop keys values rest (λ k has. named k (contains_behind key keys k has)) (λ v has. marks v (contains_behind None values (Some v) has)) ends
    keys_stop (key ∷ keys) (Some value ∷ values) rest named marks ends =
        let node = named key (0, omega arith, refl) in
        subst Stops (sym (append_assoc (given_predicate tables number key (Some value)) (keys_text tables number keys values) rest))
        (predicate_is number key node.0 node.1 value (keys_text tables number keys values ++ rest) (marks value (0, omega arith, refl))).stops

-- ---- a step
-- a step of a pattern leads to a node in the node above, with a place for each key
pub record IsStepThere (tables : Tables) (above : Option ℕ) (step : PatternStep) : Type 0 where
  pub node : Node
  pub node_is : slice_get tables.nodes step.node ≡ Some node
  pub parent : node.parent ≡ above
  pub sizes : length step.keys ≡ length (key_nodes tables step.node)

abbrev pub Leads : Tables → Option ℕ → List PatternStep → Type 0
Leads tables above [] = Unit {0}
Leads tables above (step ∷ rest) = IsStepThere tables above step × Leads tables (Some step.node) rest

abbrev pub StepsMarked : List PatternStep → Type 0
StepsMarked steps = (step : PatternStep) → Contains steps step → AreMarked step.keys

abbrev pub steps_text : Tables → List PatternStep → List ℕ
steps_text tables steps = flat_map (pattern_step_text tables) steps

module _ (tables : Tables) (schema : IsProperSchema tables) where
  abbrev names : List Bound
  names = module_bounds tables

  step_read : (above : Option ℕ) (step : PatternStep) (rest : List ℕ) → IsStepThere tables above step → AreMarked step.keys → EndsStep rest →
      written_step (pattern_step_text tables step ++ rest) ≡ Some (step_for tables step, rest)
  unfolding written_step
  step_read above step rest there marks ends =
      ap (λ t. sign slash (slash ∷ t) >>= behind) text_is
      ∙ ap (λ o. o >>= with_name) (name_there written.prefix there.node.name.name (keys ++ rest) written.prefix_is written.name_is (keys_stop tables schema step.node (key_nodes tables step.node) step.keys rest are.there marks ends))
      ∙ ap (λ o. o >>= with_keys) (keys_read tables schema step.node (key_nodes tables step.node) step.keys rest (length (keys ++ rest)) are.there marks ends enough)
      ∙ (λ i. Some (record { name = sym written.named i; predicates = written_keys tables step.node (key_nodes tables step.node) step.keys }, rest))
    where
      keys : List ℕ
      keys = keys_text tables step.node (key_nodes tables step.node) step.keys

      written : IsWritten tables step.node there.node
      written = written_is tables schema step.node there.node there.node_is

      are : AreKeys tables schema step.node (key_nodes tables step.node)
      are = are_keys tables schema step.node there.node there.node_is

      with_keys : List WrittenPredicate × List ℕ → Option (WrittenStep × List ℕ)
      with_keys found = Some (record { name = record { prefix = written.prefix; name = there.node.name.name }; predicates = found.0 }, found.1)

      with_name : WrittenName × List ℕ → Option (WrittenStep × List ℕ)
      with_name name = predicates (length name.1) name.1 >>= (λ found. Some (record { name = name.0; predicates = found.0 }, found.1))

      behind : List ℕ → Option (WrittenStep × List ℕ)
      behind after = written_name after >>= with_name

      text_is : (prefixed_name tables step.node ++ keys_text tables step.node (key_nodes tables step.node) step.keys) ++ rest
          ≡ written.prefix ++ colon ∷ (there.node.name.name ++ (keys_text tables step.node (key_nodes tables step.node) step.keys ++ rest))
      text_is =
          ap (λ p. (p ++ keys_text tables step.node (key_nodes tables step.node) step.keys) ++ rest) written.text
          ∙ append_assoc (written.prefix ++ colon ∷ there.node.name.name) (keys_text tables step.node (key_nodes tables step.node) step.keys) rest
          ∙ append_assoc written.prefix (colon ∷ there.node.name.name) (keys_text tables step.node (key_nodes tables step.node) step.keys ++ rest)

      enough : length (written_keys tables step.node (key_nodes tables step.node) step.keys) ≤ length (keys_text tables step.node (key_nodes tables step.node) step.keys ++ rest)
      enough =
          let few = few_keys tables schema step.node (key_nodes tables step.node) step.keys are.there marks in
          let joined = length-append (keys_text tables step.node (key_nodes tables step.node) step.keys) rest in
          omega (arith, few, joined)

  steps_end : (steps : List PatternStep) → EndsStep (steps_text tables steps)
  steps_end [] = tt
  steps_end (step ∷ steps) = (refl, refl)

  -- a step has a sign or more
  steps_long : (steps : List PatternStep) → length steps ≤ length (steps_text tables steps)
  steps_long [] = omega arith
  steps_long (step ∷ steps) =
      let rest = steps_long steps in
      let joined = length-append (pattern_step_text tables step) (steps_text tables steps) in
      let some : 0 < length (pattern_step_text tables step) = omega arith in
      omega (arith, rest, joined, some)

  steps_read : (above : Option ℕ) (steps : List PatternStep) (most : ℕ) → Leads tables above steps → StepsMarked steps → length steps ≤ most → steps_within most (steps_text tables steps) ≡ Some (map (step_for tables) steps)
  steps_read above [] zero leads marks enough = refl
  steps_read above [] (suc most) leads marks enough = refl
  steps_read above (step ∷ steps) zero leads marks enough = absurd (omega (arith, enough))
  steps_read above (step ∷ steps) (suc most) leads marks enough =
      ap (λ o. o >>= (λ first. option_map (λ more. first.0 ∷ more) (steps_within most first.1))) (step_read above step (steps_text tables steps) leads.0 (marks step (0, omega arith, refl)) (steps_end steps))
      ∙ ap (option_map (λ more. step_for tables step ∷ more)) (steps_read (Some step.node) steps most leads.1 (λ s has. marks s (contains_behind step steps s has)) (omega (arith, enough)))

  -- ---- the keys of a step
  module _ (number : ℕ) (all : List ℕ) (are : AreKeys tables schema number all) where
    abbrev passes : ℕ → WrittenPredicate → Bool
    passes key one = is_of_key tables (module_bounds tables) number key one.key

    found_behind : (p : WrittenPredicate → Bool) (pre rest : List WrittenPredicate) → ((one : WrittenPredicate) → Contains pre one → p one ≡ false) → find p (pre ++ rest) ≡ find p rest
    found_behind p [] rest none = refl
    found_behind p (one ∷ pre) rest none =
        ap (λ b. cond b (Some one) (find p (pre ++ rest))) (none one (0, omega arith, refl)) ∙ found_behind p pre rest (λ other has. none other (contains_behind one pre other has))

    -- no predicate of other keys is of this key
    none_of : (key : ℕ) → Contains all key → (keys : List ℕ) (values : List (Option (List ℕ))) → ((k : ℕ) → Contains keys k → Contains all k) → ((k : ℕ) → Contains keys k → k ≢ key) →
        find (passes key) (written_keys tables number keys values) ≡ None
    none_of key has [] values within differ = refl
    none_of key has (k ∷ keys) [] within differ = refl
    none_of key has (k ∷ keys) (None ∷ values) within differ = none_of key has keys values (λ j there. within j (contains_behind k keys j there)) (λ j there. differ j (contains_behind k keys j there))
    none_of key has (k ∷ keys) (Some value ∷ values) within differ =
        ap (λ b. cond b (Some (record { key = key_for tables number k; value = value })) (find (passes key) (written_keys tables number keys values)))
        (are.other k key (within k (0, omega arith, refl)) has (differ k (0, omega arith, refl)))
        ∙ none_of key has keys values (λ j there. within j (contains_behind k keys j there)) (λ j there. differ j (contains_behind k keys j there))

    given_back : (pre : List WrittenPredicate) (keys : List ℕ) (values : List (Option (List ℕ))) → length values ≡ length keys → ((k : ℕ) → Contains keys k → Contains all k) → AllPairs (λ key later. key ≢ later) keys →
        ((k : ℕ) → Contains keys k → (one : WrittenPredicate) → Contains pre one → passes k one ≡ false) →
        map (λ key. option_map (λ (one : WrittenPredicate). one.value) (find (passes key) (pre ++ written_keys tables number keys values))) keys ≡ values
    given_back pre [] [] same within apart none = refl
    given_back pre [] (value ∷ values) same within apart none = absurd (omega (arith, same))
    given_back pre (key ∷ keys) [] same within apart none = absurd (omega (arith, same))
    given_back pre (key ∷ keys) (None ∷ values) same within apart none =
        let rest = given_back pre keys values (omega (arith, same)) (λ k has. within k (contains_behind key keys k has))
        (λ i j d less inside. apart (suc i) (suc j) d (omega (arith, less)) (omega (arith, inside))) (λ k has. none k (contains_behind key keys k has)) in
        (λ i. option_map (λ (one : WrittenPredicate). one.value) (first i) ∷ rest i)
      where
        later : (k : ℕ) → Contains keys k → k ≢ key
        later k (place, inside, here) same_key = apart 0 (suc place) k (omega arith) (omega (arith, inside)) (sym same_key ∙ sym here)

        first : find (passes key) (pre ++ written_keys tables number keys values) ≡ None
        first = found_behind (passes key) pre (written_keys tables number keys values) (none key (0, omega arith, refl))
            ∙ none_of key (within key (0, omega arith, refl)) keys values (λ k has. within k (contains_behind key keys k has)) later
    given_back pre (key ∷ keys) (Some value ∷ values) same within apart none =
        let one : WrittenPredicate = record { key = key_for tables number key; value = value } in
        let rest = given_back (pre ++ one ∷ []) keys values (omega (arith, same)) (λ k has. within k (contains_behind key keys k has))
        (λ i j d less inside. apart (suc i) (suc j) d (omega (arith, less)) (omega (arith, inside))) none_more in
        (λ i. option_map (λ (found : WrittenPredicate). found.value) (first i)
        ∷ map (λ k. option_map (λ (found : WrittenPredicate). found.value) (find (passes k) (sym (append_assoc pre (one ∷ []) (written_keys tables number keys values)) i))) keys)
        ∙ ap (λ more. Some value ∷ more) rest
      where
        own : WrittenPredicate
        own = record { key = key_for tables number key; value = value }

        later : (k : ℕ) → Contains keys k → key ≢ k
        later k (place, inside, here) same_key = apart 0 (suc place) k (omega arith) (omega (arith, inside)) (same_key ∙ sym here)

        first : find (passes key) (pre ++ record { key = key_for tables number key; value = value } ∷ written_keys tables number keys values) ≡ Some (record { key = key_for tables number key; value = value })
        first = found_behind (passes key) pre (own ∷ written_keys tables number keys values) (none key (0, omega arith, refl))
            ∙ ap (λ b. cond b (Some own) (find (passes key) (written_keys tables number keys values))) (are.own key (within key (0, omega arith, refl)))

        none_more : (k : ℕ) → Contains keys k → (one : WrittenPredicate) → Contains (pre ++ record { key = key_for tables number key; value = value } ∷ []) one → passes k one ≡ false
        none_more k has one there = by (Contains-push_cases pre own one there)
          where
            by : Contains pre one ⊎ (own ≡ one) → passes k one ≡ false
            by (inl in_pre) = none k (contains_behind key keys k has) one in_pre
            by (inr is) = subst (λ (w : WrittenPredicate). passes k w ≡ false) is (are.other key k (within key (0, omega arith, refl)) (within k (contains_behind key keys k has)) (later k has))

    -- as many predicates as keys with a value
    counted : (keys : List ℕ) (values : List (Option (List ℕ))) → length values ≡ length keys → count_by is_some values ≡ length (written_keys tables number keys values)
    counted [] [] same = refl
    counted [] (value ∷ values) same = absurd (omega (arith, same))
    counted (key ∷ keys) [] same = absurd (omega (arith, same))
    counted (key ∷ keys) (None ∷ values) same = let rest = counted keys values (omega (arith, same)) in omega (arith, rest)
    counted (key ∷ keys) (Some value ∷ values) same =
        let rest = counted keys values (omega (arith, same)) in
        let more : count_by is_some (Some value ∷ values) ≡ 1 + count_by is_some values = sum_by-cons (λ (o : Option (List ℕ)). cond (is_some o) 1 0) (Some value) values in
        let longer : length (written_keys tables number (key ∷ keys) (Some value ∷ values)) ≡ suc (length (written_keys tables number keys values)) = refl in
        omega (arith, rest, more, longer)

  keys_back : (number : ℕ) (values : List (Option (List ℕ))) → AreKeys tables schema number (key_nodes tables number) → length values ≡ length (key_nodes tables number) →
      keys_given tables (module_bounds tables) number (written_keys tables number (key_nodes tables number) values) ≡ Some values
  keys_back number values are same =
      (λ i. cond (count_by is_some (back i) == length (written_keys tables number (key_nodes tables number) values)) (Some (back i)) None)
      ∙ ap (λ b. cond b (Some values) None) ((Decides-eqb _ _).1 (counted number (key_nodes tables number) are (key_nodes tables number) values same))
    where
      back : values_given tables (module_bounds tables) number (written_keys tables number (key_nodes tables number) values) ≡ values
      back = given_back number (key_nodes tables number) are [] (key_nodes tables number) values same (λ k has. has) are.apart (λ k has one there. absurd (omega (arith, there.1)))

  -- ---- the pattern that is read
  step_back : (above : Option ℕ) (step : PatternStep) → IsStepThere tables above step → pattern_step tables (module_bounds tables) above (step_for tables step) ≡ Some step
  unfolding pattern_step
  step_back above step there =
      (λ i. qualified tables (module_bounds tables) (written.named i) >>= with_number)
      ∙ ap (λ o. o >>= with_number) written.back
      ∙ ap (λ o. o >>= with_keys) (ap (λ parent. child_number tables parent there.node.name) (sym there.parent) ∙ child_of_its_name tables step.node there.node schema there.node_is)
      ∙ ap (λ o. o >>= (λ keys. Some (record { node = step.node; keys = keys }))) (keys_back step.node step.keys (are_keys tables schema step.node there.node there.node_is) there.sizes)
    where
      written : IsWritten tables step.node there.node
      written = written_is tables schema step.node there.node there.node_is

      with_keys : ℕ → Option PatternStep
      with_keys number = keys_given tables (module_bounds tables) number (written_keys tables step.node (key_nodes tables step.node) step.keys) >>= (λ keys. Some (record { node = number; keys = keys }))

      with_number : QName → Option PatternStep
      with_number name = child_number tables above name >>= with_keys

  steps_back : (above : Option ℕ) (steps : List PatternStep) → Leads tables above steps → pattern_steps tables (module_bounds tables) above (map (step_for tables) steps) ≡ Some steps
  steps_back above [] leads = refl
  steps_back above (step ∷ steps) leads =
      ap (λ o. o >>= (λ first. pattern_steps tables (module_bounds tables) (Some first.node) (map (step_for tables) steps) >>= (λ more. Some (first ∷ more)))) (step_back above step leads.0)
      ∙ ap (λ o. o >>= (λ more. Some (step ∷ more))) (steps_back (Some step.node) steps leads.1)

  -- the text of a pattern, with a step or more, is read as that pattern
  pub pattern_back : (step : PatternStep) (steps : List PatternStep) → Leads tables None (step ∷ steps) → StepsMarked (step ∷ steps) →
      (written_steps (steps_text tables (step ∷ steps)) >>= pattern_steps tables (module_bounds tables) None) ≡ Some (step ∷ steps)
  pattern_back step steps leads marks =
      ap (λ o. o >>= pattern_steps tables (module_bounds tables) None) (steps_read None (step ∷ steps) (length (steps_text tables (step ∷ steps))) leads marks (steps_long (step ∷ steps)))
      ∙ steps_back None (step ∷ steps) leads
