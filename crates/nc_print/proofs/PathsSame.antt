-- A path text is read alike by bindings that know the names in it.
use Rattle.std.proofs.Common.{◌≡◌, ◌&&◌, ◌==◌, not, cond, ℕ, zero, suc, Bool, false, List, [], ◌∷◌, length, map, Option, Some, None, refl, sym, ap, subst, ◌∙◌, arith}
use Rattle.std.specs.List.{Contains, find}
use Rattle.std.specs.Option.{option_map_or}
use Rattle.std.specs.Prelude.{option_map, count_by, is_some}
use Rattle.nc_names.specs.declared.name.Bound.{Bound}
use Rattle.nc_schema.specs.Bindings.{module_bounds, module_of}
use Rattle.nc_schema.specs.Children.{child_number}
use Rattle.nc_schema.specs.InstancePaths.{has_name, is_of_key, key_given, key_nodes, keys_given, pattern_step, pattern_steps, qualified, values_given}
use Rattle.nc_schema.specs.PathWords.{◌>>=◌, written_steps}
use Rattle.nc_schema.specs.Tables.{Tables}
use Rattle.nc_schema.specs.declared.pattern.PatternStep.{PatternStep}
use Rattle.nc_schema.specs.declared.written.WrittenName.{WrittenName}
use Rattle.nc_schema.specs.declared.written.WrittenPredicate.{WrittenPredicate}
use Rattle.nc_schema.specs.declared.written.WrittenStep.{WrittenStep}
use Rattle.nc_protocol.proofs.ListLemmas.{contains_behind}
use Rattle.nc_print.proofs.IdentityAgain.{IsPartOfText, find_is, same_space}
use Rattle.nc_print.proofs.NamesKnown.{Knows}
use Rattle.nc_print.proofs.PathsKnown.{KeyIn, NameIn, PredicateIn, StepIn, bind_is, map_is, written_in}
use Rattle.nc_print.proofs.SimpleAgain.{passed}

-- the first that passes is the same where two tests agree
find_same : {X : Type 0} (p q : X → Bool) (xs : List X) → ((x : X) → Contains xs x → p x ≡ q x) → find p xs ≡ find q xs
find_same p q [] same = refl
find_same p q (x ∷ xs) same = (λ i. cond (same x (0, omega arith, refl) i) (Some x) (find_same p q xs (λ y has. same y (contains_behind x xs y has)) i))

-- a value of a pattern stands in the text
abbrev pub StepValuesIn : List ℕ → PatternStep → Type 0
StepValuesIn text step = (value : List ℕ) → Contains step.keys (Some value) → IsPartOfText text value

abbrev pub PatternIn : List ℕ → List PatternStep → Type 0
PatternIn text pattern = (step : PatternStep) → Contains pattern step → StepValuesIn text step

module _ (tables : Tables) (bounds : List Bound) (text : List ℕ) (knows : Knows tables bounds text) (known : Knows tables (module_bounds tables) text) where
  abbrev names : List Bound
  names = module_bounds tables

  qualified_same : (name : WrittenName) → NameIn text name → qualified tables bounds name ≡ qualified tables names name
  qualified_same name (before, after, is, apart) =
      ap (λ space. option_map (λ found. record { space = found.space; name = name.name }) (space >>= module_of tables)) (same_space tables bounds before name.prefix after text knows known is apart)

  of_key_same : (number key : ℕ) (one : WrittenPredicate) → PredicateIn text one → is_of_key tables bounds number key one.key ≡ is_of_key tables names number key one.key
  of_key_same number key one inside = by one.key inside.key
    where
      by : (name : Option WrittenName) → KeyIn text name → is_of_key tables bounds number key name ≡ is_of_key tables names number key name
      by None here = refl
      by (Some name) here = ap (λ found. not (key == number) && option_map_or (has_name tables key) found false) (qualified_same name here)

  key_given_same : (number key : ℕ) (written : List WrittenPredicate) → ((one : WrittenPredicate) → Contains written one → PredicateIn text one) →
      key_given tables bounds number written key ≡ key_given tables names number written key
  key_given_same number key written inside =
      ap (option_map (λ (one : WrittenPredicate). one.value))
      (find_same (λ one. is_of_key tables bounds number key one.key) (λ one. is_of_key tables names number key one.key) written (λ one has. of_key_same number key one (inside one has)))

  values_same : (number : ℕ) (written : List WrittenPredicate) → ((one : WrittenPredicate) → Contains written one → PredicateIn text one) →
      values_given tables bounds number written ≡ values_given tables names number written
  values_same number written inside = (λ i. map (λ key. key_given_same number key written inside i) (key_nodes tables number))

  step_same : (above : Option ℕ) (step : WrittenStep) → StepIn text step → pattern_step tables bounds above step ≡ pattern_step tables names above step
  unfolding pattern_step
  step_same above step inside =
      (λ i. qualified_same step.name inside.name i >>= (λ name. child_number tables above name >>= (λ number.
      (cond (count_by is_some (values_same number step.predicates inside.predicates i) == length step.predicates) (Some (values_same number step.predicates inside.predicates i)) None)
      >>= (λ keys. Some (record { node = number; keys = keys })))))

  steps_same : (above : Option ℕ) (written : List WrittenStep) → ((one : WrittenStep) → Contains written one → StepIn text one) →
      pattern_steps tables bounds above written ≡ pattern_steps tables names above written
  steps_same above [] inside = refl
  steps_same above (step ∷ rest) inside =
      (λ i. step_same above step (inside step (0, omega arith, refl)) i >>= (λ first.
      steps_same (Some first.node) rest (λ one has. inside one (contains_behind step rest one has)) i >>= (λ more. Some (first ∷ more))))

  pub pattern_same : (written_steps text >>= pattern_steps tables bounds None) ≡ (written_steps text >>= pattern_steps tables names None)
  pattern_same = by (written_steps text) refl
    where
      by : (o : Option (List WrittenStep)) → written_steps text ≡ o → (o >>= pattern_steps tables bounds None) ≡ (o >>= pattern_steps tables names None)
      by None is = refl
      by (Some written) is = steps_same None written (written_in text written is)

-- ---- the values that a pattern has from a text
module _ (tables : Tables) (bounds : List Bound) (text : List ℕ) where
  given_in : (number key : ℕ) (written : List WrittenPredicate) → ((one : WrittenPredicate) → Contains written one → PredicateIn text one) → (value : List ℕ) →
      key_given tables bounds number written key ≡ Some value → IsPartOfText text value
  given_in number key written inside value e =
      let found = map_is (find (λ one. is_of_key tables bounds number key one.key) written) (λ (one : WrittenPredicate). one.value) value e in
      subst (IsPartOfText text) found.2 (inside found.0 (find_is (λ one. is_of_key tables bounds number key one.key) written found.0 found.1).0).value

  values_in : (number : ℕ) (keys : List ℕ) (written : List WrittenPredicate) → ((one : WrittenPredicate) → Contains written one → PredicateIn text one) → (value : List ℕ) →
      Contains (map (key_given tables bounds number written) keys) (Some value) → IsPartOfText text value
  values_in number [] written inside value (k, within, here) = absurd (omega (arith, within))
  values_in number (key ∷ keys) written inside value (zero, within, here) = given_in number key written inside value here
  values_in number (key ∷ keys) written inside value (suc k, within, here) = values_in number keys written inside value (k, omega (arith, within), here)

  step_values_in : (above : Option ℕ) (step : WrittenStep) (found : PatternStep) → StepIn text step → pattern_step tables bounds above step ≡ Some found → StepValuesIn text found
  unfolding pattern_step
  step_values_in above step found inside e value has =
      let name = bind_is (qualified tables bounds step.name) _ found e in
      let number = bind_is (child_number tables above name.0) _ found name.2 in
      let keys = bind_is (keys_given tables bounds number.0 step.predicates) _ found number.2 in
      let same : record { node = number.0; keys = keys.0 } ≡ found = cc in
      let given = passed (count_by is_some (values_given tables bounds number.0 step.predicates) == length step.predicates) (values_given tables bounds number.0 step.predicates) keys.0 keys.1 in
      values_in number.0 (key_nodes tables number.0) step.predicates inside.predicates value
      (subst (λ (ks : List (Option (List ℕ))). Contains ks (Some value)) (sym (given.1 ∙ (λ i. (same i).keys))) has)

  steps_values_in : (above : Option ℕ) (written : List WrittenStep) (found : List PatternStep) → ((one : WrittenStep) → Contains written one → StepIn text one) → pattern_steps tables bounds above written ≡ Some found → PatternIn text found
  steps_values_in above [] found inside e step has = let same : [] ≡ found = cc in absurd (let gone : Contains [] step = subst (λ (ss : List PatternStep). Contains ss step) (sym same) has in omega (arith, gone.1))
  steps_values_in above (one ∷ rest) found inside e step has =
      let first = bind_is (pattern_step tables bounds above one) (λ (head : PatternStep). pattern_steps tables bounds (Some head.node) rest >>= (λ more. Some (head ∷ more))) found e in
      let more = bind_is (pattern_steps tables bounds (Some first.0.node) rest) (λ more. Some (first.0 ∷ more)) found first.2 in
      let same : first.0 ∷ more.0 ≡ found = cc in
      each first.0 more.0 (step_values_in above one first.0 (inside one (0, omega arith, refl)) first.1)
      (steps_values_in (Some first.0.node) rest more.0 (λ w w_has. inside w (contains_behind one rest w w_has)) more.1)
      step (subst (λ (ss : List PatternStep). Contains ss step) (sym same) has)
    where
      each : (first : PatternStep) (others : List PatternStep) → StepValuesIn text first → PatternIn text others → PatternIn text (first ∷ others)
      each first others own behind one (zero, within, is) = subst (StepValuesIn text) is own
      each first others own behind one (suc k, within, is) = behind one (k, omega (arith, within), is)

  pub pattern_in : (found : List PatternStep) → (written_steps text >>= pattern_steps tables bounds None) ≡ Some found → PatternIn text found
  pattern_in found e =
      let written = bind_is (written_steps text) (pattern_steps tables bounds None) found e in
      steps_values_in None written.0 found (written_in text written.0 written.1) written.2
