-- The texts of node-instance identifiers, read once more and alike.
use Rattle.std.proofs.Common.{◌≡◌, ◌==◌, ◌<◌, cond, ℕ, suc, Bool, true, false, List, [], ◌∷◌, ◌++◌, length, Option, Some, None, refl, sym, ap, subst, ◌∙◌, arith}
use Rattle.std.proofs.lemmas.List.{length-append}
use Rattle.std.proofs.lemmas.Bool.Decides.{nat_tests}
use Rattle.std.specs.Cmp.Lexicographic.{bytes_decides}
use Rattle.std.specs.List.{Contains, flat_map, zip}
use Rattle.std.specs.Prelude.{option_map}
use Rattle.nc_names.specs.declared.name.Bound.{Bound}
use Rattle.nc_names.specs.Ends.{trimmed}
use Rattle.nc_names.specs.Identifiers.{IsIdentifier}
use Rattle.nc_names.specs.Same.{is_same_text}
use Rattle.nc_names.specs.Signs.{colon, slash}
use Rattle.nc_schema.specs.Bindings.{module_bounds}
use Rattle.nc_schema.specs.InstancePaths.{key_nodes, node_pattern, pattern_steps}
use Rattle.nc_schema.specs.PathTexts.{prefixed_name}
use Rattle.nc_schema.specs.PathWords.{◌>>=◌, written_steps}
use Rattle.nc_schema.specs.Proper.{IsProperSchema}
use Rattle.nc_schema.specs.Tables.{Tables}
use Rattle.nc_schema.specs.Values.{Gives, canonical_given, canonical_pattern, given_predicate, node_instance_text, pattern_step_text, pattern_text}
use Rattle.nc_schema.specs.declared.pattern.Pattern.{Pattern}
use Rattle.nc_schema.specs.declared.pattern.PatternStep.{PatternStep}
use Rattle.nc_protocol.proofs.BoolLemmas.{is_false}
use Rattle.nc_protocol.proofs.ListLemmas.{contains_behind}
use Rattle.nc_print.proofs.IdentityAgain.{IsPartOfText}
use Rattle.nc_print.proofs.KeyNodes.{written_is}
use Rattle.nc_print.proofs.NamesKnown.{Knows, knows_part, modules_know}
use Rattle.nc_print.proofs.PathsBack.{StepsAgain, pattern_again, pattern_leads, steps_trimmed}
use Rattle.nc_print.proofs.PathsKnown.{bind_is, map_is}
use Rattle.nc_print.proofs.PathsPrinted.{IsStepThere, Leads, pattern_back, steps_text}
use Rattle.nc_print.proofs.PathsSame.{PatternIn, pattern_in, pattern_same}
use Rattle.nc_print.proofs.ValuesAgain.{KeysAgain}

module _ (tables : Tables) (schema : IsProperSchema tables) (keys : List Bound → Gives) (again : KeysAgain tables keys) where
  -- ---- alike by bindings that know the names
  module _ (bounds : List Bound) (text : List ℕ) (knows : Knows tables bounds text) where
    pub key_same : (node : ℕ) (value : List ℕ) → IsPartOfText text value → keys bounds node value ≡ keys (module_bounds tables) node value
    key_same node value (before, after, is, apart) = again.same node bounds value (knows_part tables bounds text before value after knows is apart)

    given_same : (nodes : List ℕ) (values : List (Option (List ℕ))) → ((value : List ℕ) → Contains values (Some value) → IsPartOfText text value) →
        canonical_given (keys bounds) nodes values ≡ canonical_given (keys (module_bounds tables)) nodes values
    given_same [] [] inside = refl
    given_same [] (None ∷ values) inside = refl
    given_same [] (Some value ∷ values) inside = refl
    given_same (node ∷ nodes) [] inside = refl
    given_same (node ∷ nodes) (None ∷ values) inside = ap (option_map (λ more. None ∷ more)) (given_same nodes values (λ v has. inside v (contains_behind None values (Some v) has)))
    given_same (node ∷ nodes) (Some value ∷ values) inside =
        (λ i. key_same node value (inside value (0, omega arith, refl)) i >>= (λ one.
        given_same nodes values (λ v has. inside v (contains_behind (Some value) values (Some v) has)) i >>= (λ more. Some (Some one ∷ more))))

    pattern_alike : (steps : List PatternStep) → PatternIn text steps → canonical_pattern tables (keys bounds) steps ≡ canonical_pattern tables (keys (module_bounds tables)) steps
    pattern_alike [] inside = refl
    pattern_alike (step ∷ steps) inside =
        (λ i. option_map (λ ks. record { node = step.node; keys = ks }) (given_same (key_nodes tables step.node) step.keys (inside step (0, omega arith, refl)) i) >>= (λ one.
        pattern_alike steps (λ s has. inside s (contains_behind step steps s has)) i >>= (λ more. Some (one ∷ more))))

    pub nodes_same : node_instance_text tables keys bounds text ≡ node_instance_text tables keys (module_bounds tables) text
    unfolding node_instance_text node_pattern
    nodes_same = by (is_same_text text (slash ∷ []))
      where
        found : Option (List PatternStep) → Option Pattern
        found o = option_map (λ steps. record { steps = steps }) o

        behind : List Bound → Option Pattern → Option (List ℕ)
        behind bs o = o >>= (λ pattern. canonical_pattern tables (keys bs) pattern.steps >>= (λ steps. Some (pattern_text tables steps)))

        rest : (o : Option (List PatternStep)) → (written_steps text >>= pattern_steps tables bounds None) ≡ o → behind bounds (found o) ≡ behind (module_bounds tables) (found o)
        rest None is = refl
        rest (Some pattern) is = ap (λ o. o >>= (λ steps. Some (pattern_text tables steps))) (pattern_alike pattern (pattern_in tables bounds text pattern is))

        by : (b : Bool) → behind bounds (cond b (Some (record { steps = [] })) (found (written_steps text >>= pattern_steps tables bounds None)))
            ≡ behind (module_bounds tables) (cond b (Some (record { steps = [] })) (found (written_steps text >>= pattern_steps tables (module_bounds tables) None)))
        by true = refl
        by false = rest (written_steps text >>= pattern_steps tables bounds None) refl ∙ ap (λ o. behind (module_bounds tables) (found o)) (pattern_same tables bounds text knows (modules_know tables schema text))

  -- ---- once more
  some_length : (n : ℕ) → (suc n == 0) ≡ false
  some_length n = grind (arith, nat_tests)

  some_prefix : (name : List ℕ) → IsIdentifier name → 0 < length name
  some_prefix [] e = absurd (let clash : false ≡ true = e in cc)
  some_prefix (c ∷ cs) e = omega arith

  -- the text of a step is more than its sign
  not_root : (above : Option ℕ) (step : PatternStep) (steps : List PatternStep) → IsStepThere tables above step → is_same_text (steps_text tables (step ∷ steps)) (slash ∷ []) ≡ false
  not_root above step steps there = is_false (is_same_text (steps_text tables (step ∷ steps)) (slash ∷ [])) (λ e.
      (let same : steps_text tables (step ∷ steps) ≡ slash ∷ [] = (bytes_decides (steps_text tables (step ∷ steps)) (slash ∷ [])).0 e in
      let written = written_is tables schema step.node there.node there.node_is in
      let sizes : length (steps_text tables (step ∷ steps)) ≡ 1 = ap (λ t. length t) same in
      let joined = length-append (pattern_step_text tables step) (steps_text tables steps) in
      let inner = length-append (slash ∷ prefixed_name tables step.node) (flat_map (λ pair. given_predicate tables step.node pair.0 pair.1) (zip (key_nodes tables step.node) step.keys)) in
      let prefix : 0 < length (prefixed_name tables step.node) = subst (λ (p : List ℕ). 0 < length p) (sym written.text) (long written.prefix there.node.name.name) in
      omega (arith, sizes, joined, inner, prefix)))
    where
      long : (prefix name : List ℕ) → 0 < length (prefix ++ colon ∷ name)
      long [] name = omega arith
      long (c ∷ cs) name = omega arith

  steps_once_more : (steps : List PatternStep) → StepsAgain tables schema keys again None steps →
      node_instance_text tables keys (module_bounds tables) (trimmed (pattern_text tables steps)) ≡ Some (pattern_text tables steps)
  unfolding node_instance_text node_pattern
  steps_once_more [] is = refl
  steps_once_more (step ∷ steps) is =
      ap (λ t. node_instance_text tables keys (module_bounds tables) (trimmed t)) text_is
      ∙ ap (node_instance_text tables keys (module_bounds tables)) (steps_trimmed tables schema None step steps is.leads)
      ∙ ap (λ b. cond b (Some (record { steps = [] })) (option_map made (written_steps (steps_text tables (step ∷ steps)) >>= pattern_steps tables (module_bounds tables) None)) >>= behind)
      (not_root None step steps is.leads.0)
      ∙ ap (λ o. option_map made o >>= behind) (pattern_back tables schema step steps is.leads is.marks)
      ∙ ap (λ o. o >>= (λ found. Some (pattern_text tables found))) is.back
    where
      made : List PatternStep → Pattern
      made found = record { steps = found }

      behind : Pattern → Option (List ℕ)
      behind pattern = canonical_pattern tables (keys (module_bounds tables)) pattern.steps >>= (λ found. Some (pattern_text tables found))

      text_is : pattern_text tables (step ∷ steps) ≡ steps_text tables (step ∷ steps)
      text_is = ap (λ b. cond b (slash ∷ []) (steps_text tables (step ∷ steps))) (some_length (length steps))

  pub nodes_again : (bounds : List Bound) (given text : List ℕ) → node_instance_text tables keys bounds given ≡ Some text → node_instance_text tables keys (module_bounds tables) (trimmed text) ≡ Some text
  unfolding node_instance_text node_pattern
  nodes_again bounds given text e =
      let pattern = bind_is (cond (is_same_text given (slash ∷ [])) (Some (record { steps = [] })) (option_map made (written_steps given >>= pattern_steps tables bounds None)))
      (λ (found : Pattern). canonical_pattern tables (keys bounds) found.steps >>= (λ steps. Some (pattern_text tables steps))) text e in
      let steps = bind_is (canonical_pattern tables (keys bounds) pattern.0.steps) (λ found. Some (pattern_text tables found)) text pattern.2 in
      let same : pattern_text tables steps.0 ≡ text = some_is (pattern_text tables steps.0) text steps.2 in
      subst (λ (t : List ℕ). node_instance_text tables keys (module_bounds tables) (trimmed t) ≡ Some t) same
      (steps_once_more steps.0 (pattern_again tables schema keys again bounds None pattern.0.steps steps.0 (leads (is_same_text given (slash ∷ [])) pattern.0 pattern.1) steps.1))
    where
      made : List PatternStep → Pattern
      made found = record { steps = found }

      some_is : (a b : List ℕ) → Some a ≡ Some b → a ≡ b
      some_is a b f = cc

      leads : (b : Bool) (found : Pattern) → cond b (Some (record { steps = [] })) (option_map made (written_steps given >>= pattern_steps tables bounds None)) ≡ Some found → Leads tables None found.steps
      leads true found f = subst (λ (p : Pattern). Leads tables None p.steps) (let same : record { steps = [] } ≡ found = cc in same) tt
      leads false found f =
          let steps = map_is (written_steps given >>= pattern_steps tables bounds None) made found f in
          subst (λ (p : Pattern). Leads tables None p.steps) steps.2 (pattern_leads tables bounds given steps.0 steps.1)
