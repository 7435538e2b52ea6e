-- The canonical texts of paths, read once more.
use Rattle.std.proofs.Common.{◌≡◌, ◌≢◌, ◌⊎◌, ◌&&◌, ◌||◌, ◌==◌, ◌<◌, not, cond, ℕ, zero, suc, Bool, true, false, List, [], ◌∷◌, ◌++◌, get_or, length, map, Option, Some, None, refl, sym, ap, subst, ◌∙◌, inl, inr, arith}
use Rattle.std.proofs.lemmas.List.{append-nil}
use Rattle.std.proofs.lemmas.Bool.Decides.{Decides-eqb}
use Rattle.std.proofs.lemmas.List.Quantifiers.{position-Some}
use Rattle.std.proofs.lemmas.Option.{slice_get-get_or}
use Rattle.std.specs.List.{Contains, flat_map, position, zip}
use Rattle.std.specs.Prelude.{option_map, count_by, is_some, slice_get}
use Rattle.nc_names.specs.declared.name.Bound.{Bound}
use Rattle.nc_names.specs.Identifiers.{IsIdentifier}
use Rattle.nc_names.specs.Same.{is_same_name}
use Rattle.nc_names.specs.Signs.{closing_bracket, colon, dot, equals, opening_bracket, slash}
use Rattle.nc_schema.specs.Bindings.{module_bounds}
use Rattle.nc_schema.specs.Children.{child_number, is_same_number}
use Rattle.nc_schema.specs.InstancePaths.{key_given, key_nodes, keys_given, pattern_step, pattern_steps, qualified, values_given}
use Rattle.nc_schema.specs.PathTexts.{key_predicate, prefixed_name, quoted, value_predicate}
use Rattle.nc_schema.specs.PathWords.{◌>>=◌, steps_within, written_step, written_steps}
use Rattle.nc_schema.specs.Proper.{IsProperSchema}
use Rattle.nc_schema.specs.Tables.{Tables}
use Rattle.nc_schema.specs.Values.{Gives, canonical_given, canonical_part, canonical_pattern, given_predicate, is_quotable, pattern_step_text, stands_in_paths}
use Rattle.nc_schema.specs.declared.node.Node.{Node}
use Rattle.nc_schema.specs.declared.pattern.PatternStep.{PatternStep}
use Rattle.nc_schema.specs.declared.written.WrittenStep.{WrittenStep}
use Rattle.nc_names.proofs.SameLemmas.{first_true}
use Rattle.nc_schema.proofs.TextLemmas.{all_in_identifier}
use Rattle.nc_protocol.proofs.ListLemmas.{contains_behind, some_same}
use Rattle.nc_print.proofs.BitsAgain.{KeepsEnd, keeps_behind, keeps_trimmed, word_keeps}
use Rattle.nc_print.proofs.IdentityAgain.{prefix_black}
use Rattle.nc_print.proofs.KeyNodes.{IsWritten, are_keys, written_is}
use Rattle.nc_print.proofs.PathsKnown.{bind_is, map_is}
use Rattle.nc_print.proofs.PathsPrinted.{AreMarked, IsStepThere, Leads, StepsMarked, steps_text}
use Rattle.nc_print.proofs.PathsWritten.{IsMarked, marked}
use Rattle.nc_print.proofs.SimpleAgain.{passed}
use Rattle.nc_print.proofs.TrimAgain.{IsTrimmed}
use Rattle.nc_print.proofs.ValuesAgain.{KeysAgain}

-- ---- the node that a name leads to stands in the node above
position_is : {X : Type 0} (p : X → Bool) (xs : List X) (k : ℕ) → position p xs ≡ Some k → (x : X) × (slice_get xs k ≡ Some x) × (p x ≡ true)
position_is p [] k e = absurd (let none : None ≡ Some k = e in cc)
position_is p (x ∷ xs) k e =
    let found = position-Some p (x ∷ xs) k x e in
    (get_or (x ∷ xs) k x, slice_get-get_or (x ∷ xs) k x found.0, found.1)

both_marked : (a b : Bool) → (not a || b) ≡ true → a ≡ true → b ≡ true
both_marked true b e f = e
both_marked false b e f = let clash : false ≡ true = f in cc

module _ (tables : Tables) (schema : IsProperSchema tables) (keys : List Bound → Gives) (again : KeysAgain tables keys) where
  -- ---- keys
  pub record GivenAgain (nodes : List ℕ) (values : List (Option (List ℕ))) : Type 0 where
    pub sizes : length values ≡ length nodes
    pub back : canonical_given (keys (module_bounds tables)) nodes values ≡ Some values
    pub marks : AreMarked values

  given_again : (bounds : List Bound) (nodes : List ℕ) (values others : List (Option (List ℕ))) → length values ≡ length nodes → ((node : ℕ) → Contains nodes node → stands_in_paths tables node ≡ true) →
      canonical_given (keys bounds) nodes values ≡ Some others → GivenAgain nodes others
  given_again bounds [] [] others same paths e = subst (GivenAgain []) nothing (record { sizes = refl; back = refl; marks = λ value has. absurd (omega (arith, has.1)) })
    where
      nothing : [] ≡ others
      nothing = cc
  given_again bounds [] (value ∷ values) others same paths e = absurd (omega (arith, same))
  given_again bounds (node ∷ nodes) [] others same paths e = absurd (omega (arith, same))
  given_again bounds (node ∷ nodes) (None ∷ values) others same paths e =
      let rest = map_is (canonical_given (keys bounds) nodes values) (λ more. None ∷ more) others e in
      let inner = given_again bounds nodes values rest.0 (omega (arith, same)) (λ n has. paths n (contains_behind node nodes n has)) rest.1 in
      subst (GivenAgain (node ∷ nodes)) rest.2 (record {
        sizes = omega (arith, inner.sizes);
        back = ap (option_map (λ more. None ∷ more)) inner.back;
        marks = none_marked rest.0 inner.marks;
      })
    where
      none_marked : (more : List (Option (List ℕ))) → AreMarked more → AreMarked (None ∷ more)
      none_marked more marks value (zero, within, here) = absurd (let clash : None ≡ Some value = here in cc)
      none_marked more marks value (suc k, within, here) = marks value (k, omega (arith, within), here)
  given_again bounds (node ∷ nodes) (Some value ∷ values) others same paths e =
      let first = bind_is (keys bounds node value) (λ one. canonical_given (keys bounds) nodes values >>= (λ more. Some (Some one ∷ more))) others e in
      let rest = bind_is (canonical_given (keys bounds) nodes values) (λ more. Some (Some first.0 ∷ more)) others first.2 in
      let inner = given_again bounds nodes values rest.0 (omega (arith, same)) (λ n has. paths n (contains_behind node nodes n has)) rest.1 in
      let whole : Some first.0 ∷ rest.0 ≡ others = cc in
      let quotable : is_quotable first.0 ≡ true = both_marked (stands_in_paths tables node) (is_quotable first.0) (again.fits node bounds value first.0 first.1) (paths node (0, omega arith, refl)) in
      subst (GivenAgain (node ∷ nodes)) whole (record {
        sizes = omega (arith, inner.sizes);
        back = ap (λ o. o >>= (λ one. canonical_given (keys (module_bounds tables)) nodes rest.0 >>= (λ more. Some (Some one ∷ more)))) (again.again node bounds value first.0 first.1)
            ∙ ap (λ o. o >>= (λ more. Some (Some first.0 ∷ more))) inner.back;
        marks = one_marked first.0 rest.0 (marked first.0 quotable) inner.marks;
      })
    where
      one_marked : (one : List ℕ) (more : List (Option (List ℕ))) → IsMarked one → AreMarked more → AreMarked (Some one ∷ more)
      one_marked one more own marks value (zero, within, here) = subst IsMarked (some_same one value here) own
      one_marked one more own marks value (suc k, within, here) = marks value (k, omega (arith, within), here)

  -- ---- steps
  pub record StepsAgain (above : Option ℕ) (steps : List PatternStep) : Type 0 where
    pub leads : Leads tables above steps
    pub back : canonical_pattern tables (keys (module_bounds tables)) steps ≡ Some steps
    pub marks : StepsMarked steps

  pub pattern_again : (bounds : List Bound) (above : Option ℕ) (steps others : List PatternStep) → Leads tables above steps → canonical_pattern tables (keys bounds) steps ≡ Some others → StepsAgain above others
  pattern_again bounds above [] others leads e = subst (StepsAgain above) nothing (record { leads = tt; back = refl; marks = λ step has. absurd (omega (arith, has.1)) })
    where
      nothing : [] ≡ others
      nothing = cc
  pattern_again bounds above (step ∷ steps) others leads e =
      let first = bind_is (canonical_part tables (keys bounds) step) (λ one. canonical_pattern tables (keys bounds) steps >>= (λ more. Some (one ∷ more))) others e in
      let rest = bind_is (canonical_pattern tables (keys bounds) steps) (λ more. Some (first.0 ∷ more)) others first.2 in
      let given = map_is (canonical_given (keys bounds) (key_nodes tables step.node) step.keys) (λ ks. record { node = step.node; keys = ks }) first.0 first.1 in
      let there = leads.0 in
      let are = are_keys tables schema step.node there.node there.node_is in
      let own = given_again bounds (key_nodes tables step.node) step.keys given.0 there.sizes are.paths given.1 in
      let inner = pattern_again bounds (Some step.node) steps rest.0 leads.1 rest.1 in
      let whole : record { node = step.node; keys = given.0 } ∷ rest.0 ≡ others = (λ i. given.2 i ∷ rest.0) ∙ (let same : first.0 ∷ rest.0 ≡ others = cc in same) in
      subst (StepsAgain above) whole (record {
        leads = (record { node = there.node; node_is = there.node_is; parent = there.parent; sizes = own.sizes }, inner.leads);
        back = (λ i. option_map (λ ks. record { node = step.node; keys = ks }) (own.back i) >>= (λ one. canonical_pattern tables (keys (module_bounds tables)) rest.0 >>= (λ more. Some (one ∷ more))))
            ∙ ap (λ o. o >>= (λ more. Some (record { node = step.node; keys = given.0 } ∷ more))) inner.back;
        marks = step_marked (record { node = step.node; keys = given.0 }) rest.0 own.marks inner.marks;
      })
    where
      step_marked : (one : PatternStep) (more : List PatternStep) → AreMarked one.keys → StepsMarked more → StepsMarked (one ∷ more)
      step_marked one more own marks s (zero, within, here) = subst (λ (p : PatternStep). AreMarked p.keys) here own
      step_marked one more own marks s (suc k, within, here) = marks s (k, omega (arith, within), here)

-- ---- a pattern that was read leads down
parent_same : (one other : Option ℕ) → is_same_number one other ≡ true → one ≡ other
parent_same None None e = refl
parent_same None (Some b) e = let clash : false ≡ true = e in cc
parent_same (Some a) None e = let clash : false ≡ true = e in cc
parent_same (Some a) (Some b) e = ap (λ (n : ℕ). Some n) ((Decides-eqb a b).0 e)

map_length : {A B : Type 0} (f : A → B) (xs : List A) → length (map f xs) ≡ length xs
map_length f [] = refl
map_length f (x ∷ xs) = ap suc (map_length f xs)

module _ (tables : Tables) (bounds : List Bound) where
  step_there : (above : Option ℕ) (step : WrittenStep) (found : PatternStep) → pattern_step tables bounds above step ≡ Some found → IsStepThere tables above found
  unfolding pattern_step
  step_there above step found e =
      let name = bind_is (qualified tables bounds step.name) _ found e in
      let number = bind_is (child_number tables above name.0) _ found name.2 in
      let keys = bind_is (keys_given tables bounds number.0 step.predicates) _ found number.2 in
      let same : record { node = number.0; keys = keys.0 } ≡ found = cc in
      let node = position_is (λ (n : Node). is_same_number n.parent above && is_same_name n.name name.0) tables.nodes number.0 number.1 in
      let given = passed (count_by is_some (values_given tables bounds number.0 step.predicates) == length step.predicates) (values_given tables bounds number.0 step.predicates) keys.0 keys.1 in
      subst (IsStepThere tables above) same (record {
        node = node.0;
        node_is = node.1;
        parent = parent_same node.0.parent above (first_true (is_same_number node.0.parent above) (is_same_name node.0.name name.0) node.2);
        sizes = ap (λ ks. length ks) (sym given.1) ∙ map_length (key_given tables bounds number.0 step.predicates) (key_nodes tables number.0);
      })

  steps_lead : (above : Option ℕ) (written : List WrittenStep) (found : List PatternStep) → pattern_steps tables bounds above written ≡ Some found → Leads tables above found
  steps_lead above [] found e = subst (Leads tables above) (let same : [] ≡ found = cc in same) tt
  steps_lead above (step ∷ rest) found e =
      let first = bind_is (pattern_step tables bounds above step) (λ (head : PatternStep). pattern_steps tables bounds (Some head.node) rest >>= (λ more. Some (head ∷ more))) found e in
      let more = bind_is (pattern_steps tables bounds (Some first.0.node) rest) (λ more. Some (first.0 ∷ more)) found first.2 in
      subst (Leads tables above) (let same : first.0 ∷ more.0 ≡ found = cc in same) (step_there above step first.0 first.1, steps_lead (Some first.0.node) rest more.0 more.1)

  pub pattern_leads : (text : List ℕ) (found : List PatternStep) → (written_steps text >>= pattern_steps tables bounds None) ≡ Some found → Leads tables None found
  pattern_leads text found e = let written = bind_is (written_steps text) (pattern_steps tables bounds None) found e in steps_lead None written.0 found written.2

  -- with a step or more
  pub pattern_some : (text : List ℕ) (found : List PatternStep) → (written_steps text >>= pattern_steps tables bounds None) ≡ Some found → found ≢ []
  pattern_some text found e none = by text (bind_is (written_steps text) (pattern_steps tables bounds None) found e)
    where
      has_first : (written : List WrittenStep) → pattern_steps tables bounds None written ≡ Some found → written ≡ []
      has_first [] f = refl
      has_first (step ∷ rest) f =
          let first = bind_is (pattern_step tables bounds None step) (λ (head : PatternStep). pattern_steps tables bounds (Some head.node) rest >>= (λ more. Some (head ∷ more))) found f in
          let more = bind_is (pattern_steps tables bounds (Some first.0.node) rest) (λ more. Some (first.0 ∷ more)) found first.2 in
          absurd (let same : first.0 ∷ more.0 ≡ [] = (let whole : first.0 ∷ more.0 ≡ found = cc in whole ∙ none) in cc)

      by : (text : List ℕ) → (written : List WrittenStep) × (written_steps text ≡ Some written) × (pattern_steps tables bounds None written ≡ Some found) → ⊥
      by [] (written, is, f) = absurd (let gone : None ≡ Some written = is in cc)
      by (c ∷ cs) (written, is, f) =
          let first = bind_is (written_step (c ∷ cs)) (λ (step : WrittenStep × List ℕ). option_map (λ more. step.0 ∷ more) (steps_within (length cs) step.1)) written is in
          let more = map_is (steps_within (length cs) first.0.1) (λ rest. first.0.0 ∷ rest) written first.2 in
          absurd (let same : first.0.0 ∷ more.0 ≡ [] = more.2 ∙ has_first written f in cc)

-- ---- no white space at the ends of a path
module _ (tables : Tables) (schema : IsProperSchema tables) where
  keys_keep : (number : ℕ) (keys : List ℕ) (values : List (Option (List ℕ))) → let text = flat_map (λ pair. given_predicate tables number pair.0 pair.1) (zip keys values) in (text ≡ []) ⊎ KeepsEnd text
  keys_keep number [] values = inl refl
  keys_keep number (key ∷ keys) [] = inl refl
  keys_keep number (key ∷ keys) (None ∷ values) = keys_keep number keys values
  keys_keep number (key ∷ keys) (Some value ∷ values) = inr (by (keys_keep number keys values))
    where
      close : KeepsEnd (closing_bracket ∷ [])
      close = word_keeps (closing_bracket ∷ []) (omega arith, refl)

      own : (b : Bool) → KeepsEnd (cond b (value_predicate value) (key_predicate tables key value))
      own true = keeps_behind (opening_bracket ∷ dot ∷ equals ∷ quoted value) (closing_bracket ∷ []) close
      own false = keeps_behind ((opening_bracket ∷ (prefixed_name tables key ++ equals ∷ [])) ++ quoted value) (closing_bracket ∷ []) close

      rest : List ℕ
      rest = flat_map (λ pair. given_predicate tables number pair.0 pair.1) (zip keys values)

      by : (flat_map (λ pair. given_predicate tables number pair.0 pair.1) (zip keys values) ≡ []) ⊎ KeepsEnd (flat_map (λ pair. given_predicate tables number pair.0 pair.1) (zip keys values)) →
          KeepsEnd (given_predicate tables number key (Some value) ++ flat_map (λ pair. given_predicate tables number pair.0 pair.1) (zip keys values))
      by (inl none) = subst KeepsEnd (sym (ap (λ more. given_predicate tables number key (Some value) ++ more) none ∙ append-nil (given_predicate tables number key (Some value)))) (own (key == number))
      by (inr keeps) = keeps_behind (given_predicate tables number key (Some value)) rest keeps

  step_keeps : (above : Option ℕ) (step : PatternStep) → IsStepThere tables above step → KeepsEnd (pattern_step_text tables step)
  step_keeps above step there = by (keys_keep step.node (key_nodes tables step.node) step.keys)
    where
      written : IsWritten tables step.node there.node
      written = written_is tables schema step.node there.node there.node_is

      word : (name : List ℕ) → IsIdentifier name → 0 < length name
      word [] e = absurd (let clash : false ≡ true = e in cc)
      word (c ∷ cs) e = omega arith

      name_keeps : KeepsEnd (slash ∷ prefixed_name tables step.node)
      name_keeps = subst (λ (p : List ℕ). KeepsEnd (slash ∷ p)) (sym written.text)
          (keeps_behind (slash ∷ written.prefix) (colon ∷ there.node.name.name) (keeps_behind (colon ∷ []) there.node.name.name
          (word_keeps there.node.name.name (word there.node.name.name written.name_is, prefix_black there.node.name.name (all_in_identifier there.node.name.name written.name_is)))))

      keys : List ℕ
      keys = flat_map (λ pair. given_predicate tables step.node pair.0 pair.1) (zip (key_nodes tables step.node) step.keys)

      by : (flat_map (λ pair. given_predicate tables step.node pair.0 pair.1) (zip (key_nodes tables step.node) step.keys) ≡ []) ⊎ KeepsEnd (flat_map (λ pair. given_predicate tables step.node pair.0 pair.1) (zip (key_nodes tables step.node) step.keys)) →
          KeepsEnd (pattern_step_text tables step)
      by (inl none) = subst KeepsEnd (sym (ap (λ more. (slash ∷ prefixed_name tables step.node) ++ more) none ∙ append-nil (slash ∷ prefixed_name tables step.node))) name_keeps
      by (inr keeps) = keeps_behind (slash ∷ prefixed_name tables step.node) keys keeps

  steps_keep : (above : Option ℕ) (step : PatternStep) (steps : List PatternStep) → Leads tables above (step ∷ steps) → KeepsEnd (steps_text tables (step ∷ steps))
  steps_keep above step [] leads = subst KeepsEnd (sym (append-nil (pattern_step_text tables step))) (step_keeps above step leads.0)
  steps_keep above step (next ∷ steps) leads = keeps_behind (pattern_step_text tables step) (steps_text tables (next ∷ steps)) (steps_keep (Some step.node) next steps leads.1)

  pub steps_trimmed : (above : Option ℕ) (step : PatternStep) (steps : List PatternStep) → Leads tables above (step ∷ steps) → IsTrimmed (steps_text tables (step ∷ steps))
  steps_trimmed above step steps leads = keeps_trimmed (steps_text tables (step ∷ steps)) refl (steps_keep above step steps leads)
