-- The texts of instance identifiers, read once more and alike: each is that of a pattern without gaps.
use Rattle.std.proofs.Common.{◌≡◌, ◌≢◌, ◌==◌, cond, ℕ, zero, suc, false, List, [], ◌∷◌, ◌++◌, length, map, Option, Some, None, refl, sym, ap, subst, ◌∙◌, arith}
use Rattle.std.proofs.lemmas.Bool.Decides.{Decides-eqb}
use Rattle.std.specs.List.{Contains, flat_map, zip}
use Rattle.std.specs.Option.{option_map_or}
use Rattle.std.specs.Prelude.{option_map}
use Rattle.nc_names.specs.declared.name.Bound.{Bound}
use Rattle.nc_names.specs.declared.path.Path.{Path}
use Rattle.nc_names.specs.declared.path.Step.{Step}
use Rattle.nc_names.specs.Ends.{trimmed}
use Rattle.nc_names.specs.Signs.{slash}
use Rattle.nc_schema.specs.Bindings.{module_bounds}
use Rattle.nc_schema.specs.InstancePaths.{all_given, instance_path, instance_step, instance_steps, key_nodes, keys_of_kind, pattern_steps}
use Rattle.nc_schema.specs.PathTexts.{key_predicate, key_predicates, path_text_of, predicates, prefixed_name, step_text, value_predicate}
use Rattle.nc_schema.specs.PathWords.{◌>>=◌, written_steps}
use Rattle.nc_schema.specs.Proper.{IsProperSchema}
use Rattle.nc_schema.specs.Tables.{Tables}
use Rattle.nc_schema.specs.Values.{Gives, canonical_given, canonical_keys, canonical_pattern, canonical_step, canonical_steps, given_predicate, instance_text, pattern_step_text}
use Rattle.nc_schema.specs.declared.node.Kind.{Kind}
use Rattle.nc_schema.specs.declared.node.Kind.TheVariants.{Container, Leaf, LeafList, List as ListKind}
use Rattle.nc_schema.specs.declared.node.Node.{Node}
use Rattle.nc_schema.specs.declared.pattern.PatternStep.{PatternStep}
use Rattle.nc_protocol.proofs.ListLemmas.{contains_behind, heads_same, some_same, tails_same}
use Rattle.nc_print.proofs.IdentityAgain.{IsPartOfText}
use Rattle.nc_print.proofs.KeyNodes.{not_itself}
use Rattle.nc_print.proofs.NamesKnown.{Knows, modules_know}
use Rattle.nc_print.proofs.NodePaths.{key_same}
use Rattle.nc_print.proofs.PathsBack.{StepsAgain, pattern_again, pattern_leads, pattern_some, steps_trimmed}
use Rattle.nc_print.proofs.PathsKnown.{bind_is, map_is}
use Rattle.nc_print.proofs.PathsPrinted.{IsStepThere, Leads, pattern_back, steps_text}
use Rattle.nc_print.proofs.PathsSame.{PatternIn, pattern_in, pattern_same}
use Rattle.nc_print.proofs.ValuesAgain.{KeysAgain}

-- ---- steps as a pattern without gaps
abbrev given : List (List ℕ) → List (Option (List ℕ))
given keys = map (λ key. Some key) keys

abbrev whole : Step → PatternStep
whole step = record { node = step.node; keys = map (λ key. Some key) step.keys }

given_one : (keys others : List (List ℕ)) → given keys ≡ given others → keys ≡ others
given_one [] [] e = refl
given_one [] (o ∷ others) e = absurd (let clash : [] ≡ Some o ∷ given others = e in cc)
given_one (k ∷ keys) [] e = absurd (let clash : Some k ∷ given keys ≡ [] = e in cc)
given_one (k ∷ keys) (o ∷ others) e = (λ i. some_same k o (heads_same (Some k) (Some o) (given keys) (given others) e) i ∷ given_one keys others (tails_same (Some k) (Some o) (given keys) (given others) e) i)

whole_one : (steps others : List Step) → map whole steps ≡ map whole others → steps ≡ others
whole_one [] [] e = refl
whole_one [] (o ∷ others) e = absurd (let clash : [] ≡ whole o ∷ map whole others = e in cc)
whole_one (s ∷ steps) [] e = absurd (let clash : whole s ∷ map whole steps ≡ [] = e in cc)
whole_one (s ∷ steps) (o ∷ others) e =
    let head : whole s ≡ whole o = heads_same (whole s) (whole o) (map whole steps) (map whole others) e in
    let keys : s.keys ≡ o.keys = given_one s.keys o.keys (λ i. (head i).keys) in
    (λ i. record { node = (head i).node; keys = keys i } ∷ whole_one steps others (tails_same (whole s) (whole o) (map whole steps) (map whole others) e) i)

given_of : (values : List (Option (List ℕ))) (keys : List (List ℕ)) → all_given values ≡ Some keys → values ≡ given keys
given_of [] keys e = ap given (let same : [] ≡ keys = cc in same)
given_of (None ∷ values) keys e = absurd (let none : None ≡ Some keys = e in cc)
given_of (Some key ∷ values) keys e =
    let rest = map_is (all_given values) (λ more. key ∷ more) keys e in
    ap (λ more. Some key ∷ more) (given_of values rest.0 rest.1) ∙ ap given rest.2

given_back : (keys : List (List ℕ)) → all_given (given keys) ≡ Some keys
given_back [] = refl
given_back (key ∷ keys) = ap (option_map (λ more. key ∷ more)) (given_back keys)

whole_of : (pattern : List PatternStep) (steps : List Step) → instance_steps pattern ≡ Some steps → pattern ≡ map whole steps
whole_of [] steps e = ap (map whole) (let same : [] ≡ steps = cc in same)
whole_of (one ∷ pattern) steps e =
    let first = bind_is (instance_step one) (λ step. instance_steps pattern >>= (λ more. Some (step ∷ more))) steps e in
    let rest = bind_is (instance_steps pattern) (λ more. Some (first.0 ∷ more)) steps first.2 in
    let keys = map_is (all_given one.keys) (λ ks. record { node = one.node; keys = ks }) first.0 first.1 in
    let same : first.0 ∷ rest.0 ≡ steps = cc in
    (λ i. record { node = one.node; keys = given_of one.keys keys.0 keys.1 i } ∷ whole_of pattern rest.0 rest.1 i)
    ∙ (λ i. whole (keys.2 i) ∷ map whole rest.0) ∙ ap (map whole) same

whole_back : (steps : List Step) → instance_steps (map whole steps) ≡ Some steps
whole_back [] = refl
whole_back (step ∷ steps) =
    ap (λ o. option_map (λ ks. record { node = step.node; keys = ks }) o >>= (λ one. instance_steps (map whole steps) >>= (λ more. Some (one ∷ more)))) (given_back step.keys)
    ∙ ap (λ o. o >>= (λ more. Some (step ∷ more))) (whole_back steps)

-- ---- their canonical keys
module _ (tables : Tables) (gives : Gives) where
  keys_given_so : (nodes : List ℕ) (keys : List (List ℕ)) → canonical_given gives nodes (given keys) ≡ option_map given (canonical_keys gives nodes keys)
  keys_given_so [] [] = refl
  keys_given_so [] (key ∷ keys) = refl
  keys_given_so (node ∷ nodes) [] = refl
  keys_given_so (node ∷ nodes) (key ∷ keys) = by (gives node key) (keys_given_so nodes keys)
    where
      by : (o : Option (List ℕ)) → canonical_given gives nodes (given keys) ≡ option_map given (canonical_keys gives nodes keys) →
          (o >>= (λ first. canonical_given gives nodes (given keys) >>= (λ more. Some (Some first ∷ more)))) ≡ option_map given (o >>= (λ first. canonical_keys gives nodes keys >>= (λ more. Some (first ∷ more))))
      by None rest = refl
      by (Some first) rest = ap (λ o. o >>= (λ more. Some (Some first ∷ more))) rest ∙ go (canonical_keys gives nodes keys)
        where
          go : (o : Option (List (List ℕ))) → (option_map given o >>= (λ more. Some (Some first ∷ more))) ≡ option_map given (o >>= (λ more. Some (first ∷ more)))
          go None = refl
          go (Some more) = refl

  steps_given_so : (steps : List Step) → canonical_pattern tables gives (map whole steps) ≡ option_map (map whole) (canonical_steps tables gives steps)
  steps_given_so [] = refl
  steps_given_so (step ∷ steps) =
      ap (λ o. option_map (λ ks. record { node = step.node; keys = ks }) o >>= (λ one. canonical_pattern tables gives (map whole steps) >>= (λ more. Some (one ∷ more)))) (keys_given_so (key_nodes tables step.node) step.keys)
      ∙ by (canonical_keys gives (key_nodes tables step.node) step.keys) (steps_given_so steps)
    where
      by : (o : Option (List (List ℕ))) → canonical_pattern tables gives (map whole steps) ≡ option_map (map whole) (canonical_steps tables gives steps) →
          (option_map (λ ks. record { node = step.node; keys = ks }) (option_map given o) >>= (λ one. canonical_pattern tables gives (map whole steps) >>= (λ more. Some (one ∷ more))))
          ≡ option_map (map whole) (option_map (λ ks. record { node = step.node; keys = ks }) o >>= (λ first. canonical_steps tables gives steps >>= (λ more. Some (first ∷ more))))
      by None rest = refl
      by (Some ks) rest = ap (λ o. o >>= (λ more. Some (record { node = step.node; keys = given ks } ∷ more))) rest ∙ go (canonical_steps tables gives steps)
        where
          go : (o : Option (List Step)) → (option_map (map whole) o >>= (λ more. Some (record { node = step.node; keys = given ks } ∷ more)))
              ≡ option_map (map whole) (o >>= (λ more. Some (record { node = step.node; keys = ks } ∷ more)))
          go None = refl
          go (Some more) = refl

  steps_so : (steps others : List Step) → canonical_steps tables gives steps ≡ Some others → canonical_pattern tables gives (map whole steps) ≡ Some (map whole others)
  steps_so steps others e = steps_given_so steps ∙ ap (option_map (map whole)) e

  steps_from : (steps : List Step) → canonical_pattern tables gives (map whole steps) ≡ Some (map whole steps) → canonical_steps tables gives steps ≡ Some steps
  steps_from steps e = by (canonical_steps tables gives steps) (sym (steps_given_so steps) ∙ e)
    where
      by : (o : Option (List Step)) → option_map (map whole) o ≡ Some (map whole steps) → o ≡ Some steps
      by None f = absurd (let none : None ≡ Some (map whole steps) = f in cc)
      by (Some others) f = ap (λ (ss : List Step). Some ss) (whole_one others steps (some_same (map whole others) (map whole steps) f))

-- ---- their text
module _ (tables : Tables) (schema : IsProperSchema tables) where
  keys_text_so : (number : ℕ) (keys : List ℕ) (values : List (List ℕ)) → ((key : ℕ) → Contains keys key → (key == number) ≡ false) →
      flat_map (λ pair. given_predicate tables number pair.0 pair.1) (zip keys (given values)) ≡ key_predicates tables keys values
  keys_text_so number [] values other = refl
  keys_text_so number (key ∷ keys) [] other = refl
  keys_text_so number (key ∷ keys) (value ∷ values) other =
      (λ i. cond (other key (0, omega arith, refl) i) (value_predicate value) (key_predicate tables key value) ++ keys_text_so number keys values (λ k has. other k (contains_behind key keys k has)) i)

  step_text_so : (above : Option ℕ) (step : Step) → IsStepThere tables above (whole step) → pattern_step_text tables (whole step) ≡ step_text tables step
  step_text_so above step there =
      ap (λ more. (slash ∷ prefixed_name tables step.node) ++ more)
      (ap (λ ks. text ks (given step.keys)) nodes_are ∙ by there.node.kind refl step.keys refl
      ∙ sym (ap (λ o. option_map_or (λ (n : Node). predicates tables n.kind n.keys step.keys) o []) there.node_is))
    where
      text : List ℕ → List (Option (List ℕ)) → List ℕ
      text ks values = flat_map (λ pair. given_predicate tables step.node pair.0 pair.1) (zip ks values)

      nodes_are : key_nodes tables step.node ≡ keys_of_kind there.node.kind step.node there.node.keys
      nodes_are = ap (λ o. option_map_or (λ (n : Node). keys_of_kind n.kind step.node n.keys) o []) there.node_is

      sizes : length (given step.keys) ≡ length (keys_of_kind there.node.kind step.node there.node.keys)
      sizes = there.sizes ∙ ap (λ ks. length ks) nodes_are

      by : (kind : Kind) → there.node.kind ≡ kind → (values : List (List ℕ)) → step.keys ≡ values → text (keys_of_kind there.node.kind step.node there.node.keys) (given step.keys) ≡ predicates tables there.node.kind there.node.keys step.keys
      by (Container presence) is values are = (λ i. text (keys_of_kind (is i) step.node there.node.keys) (given step.keys)) ∙ (λ i. predicates tables (sym is i) there.node.keys step.keys)
      by Leaf is values are = (λ i. text (keys_of_kind (is i) step.node there.node.keys) (given step.keys)) ∙ (λ i. predicates tables (sym is i) there.node.keys step.keys)
      by ListKind is values are =
          (λ i. text (keys_of_kind (is i) step.node there.node.keys) (given step.keys))
          ∙ keys_text_so step.node there.node.keys step.keys (λ key has. not_itself tables schema step.node there.node there.node_is key has)
          ∙ (λ i. predicates tables (sym is i) there.node.keys step.keys)
      by LeafList is [] are = absurd (let size = sizes ∙ ap (λ k. length (keys_of_kind k step.node there.node.keys)) is in let none = ap (λ ks. length (given ks)) are in omega (arith, size, none))
      by LeafList is (value ∷ other ∷ more) are = absurd (let size = sizes ∙ ap (λ k. length (keys_of_kind k step.node there.node.keys)) is in let two = ap (λ ks. length (given ks)) are in omega (arith, size, two))
      by LeafList is (value ∷ []) are =
          (λ i. text (keys_of_kind (is i) step.node there.node.keys) (given (are i)))
          ∙ ap (λ b. cond b (value_predicate value) (key_predicate tables step.node value) ++ []) ((Decides-eqb step.node step.node).1 refl)
          ∙ (λ i. predicates tables (sym is i) there.node.keys (sym are i))

  path_text_so : (above : Option ℕ) (steps : List Step) → Leads tables above (map whole steps) → steps_text tables (map whole steps) ≡ flat_map (step_text tables) steps
  path_text_so above [] leads = refl
  path_text_so above (step ∷ steps) leads = (λ i. step_text_so above step leads.0 i ++ path_text_so (Some step.node) steps leads.1 i)

module _ (tables : Tables) (schema : IsProperSchema tables) (keys : List Bound → Gives) (again : KeysAgain tables keys) where
  abbrev names : List Bound
  names = module_bounds tables

  -- what is made of the steps that are read
  abbrev of_path : List Bound → Path → Option (List ℕ)
  of_path bounds path = canonical_steps tables (keys bounds) path.steps >>= (λ steps. Some (path_text_of tables (record { steps = steps })))

  abbrev of_pattern : List PatternStep → Option Path
  of_pattern pattern = instance_steps pattern >>= (λ steps. Some (record { steps = steps }))

  parted : (bounds : List Bound) (o : Option _) → (o >>= (λ written. pattern_steps tables bounds None written >>= of_pattern)) ≡ ((o >>= pattern_steps tables bounds None) >>= of_pattern)
  parted bounds None = refl
  parted bounds (Some written) = refl

  text_is : (bounds : List Bound) (text : List ℕ) → instance_text tables keys bounds text ≡ (((written_steps text >>= pattern_steps tables bounds None) >>= of_pattern) >>= of_path bounds)
  unfolding instance_text instance_path
  text_is bounds text = ap (λ o. o >>= of_path bounds) (parted bounds (written_steps text))

  -- ---- alike
  pub instances_same : (bounds : List Bound) (text : List ℕ) → Knows tables bounds text → instance_text tables keys bounds text ≡ instance_text tables keys (module_bounds tables) text
  instances_same bounds text knows =
      text_is bounds text ∙ by (written_steps text >>= pattern_steps tables bounds None) refl
      ∙ ap (λ o. (o >>= of_pattern) >>= of_path (module_bounds tables)) (pattern_same tables bounds text knows (modules_know tables schema text)) ∙ sym (text_is (module_bounds tables) text)
    where
      keys_same : (nodes : List ℕ) (values : List (List ℕ)) → ((value : List ℕ) → Contains values value → IsPartOfText text value) → canonical_keys (keys bounds) nodes values ≡ canonical_keys (keys (module_bounds tables)) nodes values
      keys_same [] [] inside = refl
      keys_same [] (value ∷ values) inside = refl
      keys_same (node ∷ nodes) [] inside = refl
      keys_same (node ∷ nodes) (value ∷ values) inside =
          (λ i. key_same tables schema keys again bounds text knows node value (inside value (0, omega arith, refl)) i >>= (λ one.
          keys_same nodes values (λ v has. inside v (contains_behind value values v has)) i >>= (λ more. Some (one ∷ more))))

      steps_same : (steps : List Step) → ((step : Step) → Contains steps step → (value : List ℕ) → Contains step.keys value → IsPartOfText text value) → canonical_steps tables (keys bounds) steps ≡ canonical_steps tables (keys (module_bounds tables)) steps
      steps_same [] inside = refl
      steps_same (step ∷ steps) inside =
          (λ i. option_map (λ ks. record { node = step.node; keys = ks }) (keys_same (key_nodes tables step.node) step.keys (inside step (0, omega arith, refl)) i) >>= (λ one.
          steps_same steps (λ s has. inside s (contains_behind step steps s has)) i >>= (λ more. Some (one ∷ more))))

      in_given : (values : List (List ℕ)) (value : List ℕ) → Contains values value → Contains (given values) (Some value)
      in_given [] value (k, within, here) = absurd (omega (arith, within))
      in_given (v ∷ values) value (zero, within, here) = (0, omega arith, ap (λ x. Some x) here)
      in_given (v ∷ values) value (suc k, within, here) = contains_behind (Some v) (given values) (Some value) (in_given values value (k, omega (arith, within), here))

      in_whole : (steps : List Step) (step : Step) → Contains steps step → Contains (map whole steps) (whole step)
      in_whole [] step (k, within, here) = absurd (omega (arith, within))
      in_whole (s ∷ steps) step (zero, within, here) = (0, omega arith, ap whole here)
      in_whole (s ∷ steps) step (suc k, within, here) = contains_behind (whole s) (map whole steps) (whole step) (in_whole steps step (k, omega (arith, within), here))

      by : (o : Option (List PatternStep)) → (written_steps text >>= pattern_steps tables bounds None) ≡ o → ((o >>= of_pattern) >>= of_path bounds) ≡ ((o >>= of_pattern) >>= of_path (module_bounds tables))
      by None is = refl
      by (Some pattern) is = go (instance_steps pattern) refl
        where
          go : (o : Option (List Step)) → instance_steps pattern ≡ o → ((o >>= (λ steps. Some (record { steps = steps }))) >>= of_path bounds) ≡ ((o >>= (λ steps. Some (record { steps = steps }))) >>= of_path (module_bounds tables))
          go None e = refl
          go (Some steps) e =
              let inside = subst (PatternIn text) (whole_of pattern steps e) (pattern_in tables bounds text pattern is) in
              ap (λ o. o >>= (λ found. Some (path_text_of tables (record { steps = found })))) (steps_same steps (λ step has value there. inside (whole step) (in_whole steps step has) value (in_given step.keys value there)))

  -- ---- once more
  once_more : (steps : List Step) → steps ≢ [] → StepsAgain tables schema keys again None (map whole steps) →
      instance_text tables keys (module_bounds tables) (trimmed (path_text_of tables (record { steps = steps }))) ≡ Some (path_text_of tables (record { steps = steps }))
  once_more [] some is = absurd (some refl)
  once_more (step ∷ steps) some is =
      ap (λ t. instance_text tables keys (module_bounds tables) (trimmed t)) (sym same)
      ∙ ap (instance_text tables keys (module_bounds tables)) (steps_trimmed tables schema None (whole step) (map whole steps) is.leads)
      ∙ text_is (module_bounds tables) (steps_text tables (map whole (step ∷ steps)))
      ∙ ap (λ o. (o >>= of_pattern) >>= of_path (module_bounds tables)) (pattern_back tables schema (whole step) (map whole steps) is.leads is.marks)
      ∙ ap (λ o. (o >>= (λ found. Some (record { steps = found }))) >>= of_path (module_bounds tables)) (whole_back (step ∷ steps))
      ∙ ap (λ o. o >>= (λ found. Some (path_text_of tables (record { steps = found })))) (steps_from tables (keys (module_bounds tables)) (step ∷ steps) is.back)
    where
      same : steps_text tables (map whole (step ∷ steps)) ≡ path_text_of tables (record { steps = step ∷ steps })
      same = path_text_so tables schema None (step ∷ steps) is.leads

  pub instances_again : (bounds : List Bound) (given text : List ℕ) → instance_text tables keys bounds given ≡ Some text → instance_text tables keys (module_bounds tables) (trimmed text) ≡ Some text
  instances_again bounds from text e =
      let path = bind_is ((written_steps from >>= pattern_steps tables bounds None) >>= of_pattern) (of_path bounds) text (sym (text_is bounds from) ∙ e) in
      let pattern = bind_is (written_steps from >>= pattern_steps tables bounds None) of_pattern path.0 path.1 in
      let steps = bind_is (instance_steps pattern.0) (λ found. Some (record { steps = found })) path.0 pattern.2 in
      let others = bind_is (canonical_steps tables (keys bounds) path.0.steps) (λ found. Some (path_text_of tables (record { steps = found }))) text path.2 in
      let path_is : record { steps = steps.0 } ≡ path.0 = some_same (record { steps = steps.0 }) path.0 steps.2 in
      let own : canonical_steps tables (keys bounds) steps.0 ≡ Some others.0 = ap (λ (p : Path). canonical_steps tables (keys bounds) p.steps) path_is ∙ others.1 in
      let leads : Leads tables None (map whole steps.0) = subst (Leads tables None) (whole_of pattern.0 steps.0 steps.1) (pattern_leads tables bounds from pattern.0 pattern.1) in
      let is = pattern_again tables schema keys again bounds None (map whole steps.0) (map whole others.0) leads (steps_so tables (keys bounds) steps.0 others.0 own) in
      let same : path_text_of tables (record { steps = others.0 }) ≡ text = some_same (path_text_of tables (record { steps = others.0 })) text others.2 in
      subst (λ (t : List ℕ). instance_text tables keys (module_bounds tables) (trimmed t) ≡ Some t) same
      (once_more others.0 (kept steps.0 others.0 own (λ none. pattern_some tables bounds from pattern.0 pattern.1 (whole_of pattern.0 steps.0 steps.1 ∙ ap (map whole) none))) is)
    where
      kept : (steps others : List Step) → canonical_steps tables (keys bounds) steps ≡ Some others → steps ≢ [] → others ≢ []
      kept [] others f some = absurd (some refl)
      kept (step ∷ steps) others f some =
          let first = bind_is (canonical_step tables (keys bounds) step) (λ one. canonical_steps tables (keys bounds) steps >>= (λ more. Some (one ∷ more))) others f in
          let rest = bind_is (canonical_steps tables (keys bounds) steps) (λ more. Some (first.0 ∷ more)) others first.2 in
          λ none. (let whole : first.0 ∷ rest.0 ≡ others = cc in let clash : first.0 ∷ rest.0 ≡ [] = whole ∙ none in cc)
