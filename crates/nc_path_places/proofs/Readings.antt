-- A text names a path exactly where a path goes on so from the top.
use Rattle.std.proofs.Common.{◌≡◌, inl, inr, ℕ, zero, suc, ◌<◌, ◌≤◌, ◌+◌, Bool, true, false, cond, eqb, ◌&&◌, List, [], ◌∷◌, Option, Some, None, length, length-append, map, filter, count_by, is_some, option_map, option_and_then, refl, sym, ap, subst, ◌∙◌, arith}
use Rattle.std.specs.List.{list_all}
use Rattle.std.proofs.lemmas.Bool.Decides.{Decides-eqb}
use Rattle.std.proofs.lemmas.List.Sums.{length-filter}
use Rattle.std.proofs.lemmas.Option.{some_pair_parts}
use Rattle.nc_names.specs.declared.name.Bound.{Bound}
use Rattle.nc_names.specs.Ends.{after_white}
use Rattle.nc_names.specs.Signs.{is_white, equals, slash, opening_bracket, closing_bracket}
use Rattle.nc_schema.specs.Children.{child_number}
use Rattle.nc_schema.specs.InstancePaths.{all_given, instance_step, instance_steps, key_given, key_nodes, keys_given, pattern_step, pattern_steps, qualified, values_given}
use Rattle.nc_schema.specs.PathWords.{begins_with, leading, predicate, predicate_key, predicates, quoted_string, sign, steps_within, written_name, written_step}
use Rattle.nc_schema.specs.Tables.{Tables}
use Rattle.nc_schema.specs.declared.pattern.PatternStep.{PatternStep}
use Rattle.nc_schema.specs.declared.written.WrittenName.{WrittenName}
use Rattle.nc_schema.specs.declared.written.WrittenPredicate.{WrittenPredicate}
use Rattle.nc_schema.specs.declared.written.WrittenStep.{WrittenStep}
use Rattle.nc_path_places.specs.Apart.{HasKeysApart}
use Rattle.nc_path_places.specs.inner.Going.{Reading, key_named, child_named, without, Spot, AtStep, AtKeys, Goes, GoesOn, Steps, Keys}
use Rattle.nc_path_places.proofs.Bridge.{Covers, covers, covered, count, is_given}
use Rattle.nc_path_places.proofs.Cuts.{leading_past, sign_is}
use Rattle.nc_path_places.proofs.Names.{bind_some, map_some, wording, name_cut}
use Rattle.nc_path_places.proofs.Spots.{keys_of, keys_over, step_of, steps_end}
use Rattle.nc_path_places.proofs.Stages.{key_cut, quoted_cut, key_wording, first_is}

-- ---- values of keys
module _ (tables : Tables) (bounds : List Bound) (number : ℕ) (written : List WrittenPredicate) where
  abbrev values : List ℕ → List (Option (List ℕ))
  values keys = map (key_given tables bounds number written) keys

  counted : (keys : List ℕ) → length (filter is_some (values keys)) ≡ count tables bounds number written keys
  counted [] = refl
  counted (k ∷ keys) = by (is_some (key_given tables bounds number written k)) (counted keys)
    where
      by : (t : Bool) → length (filter is_some (values keys)) ≡ count tables bounds number written keys → length (cond t (key_given tables bounds number written k ∷ filter is_some (values keys)) (filter is_some (values keys))) ≡ cond t 1 0 + count tables bounds number written keys
      by true e = omega (arith, e)
      by false e = omega (arith, e)

  all_some : (keys : List ℕ) → list_all is_some (values keys) ≡ list_all (is_given tables bounds number written) keys
  all_some [] = refl
  all_some (k ∷ keys) = ap (λ t. is_some (key_given tables bounds number written k) && t) (all_some keys)

  count_is : count_by is_some (values_given tables bounds number written) ≡ count tables bounds number written (key_nodes tables number)
  count_is = sym (length-filter is_some (values (key_nodes tables number))) ∙ counted (key_nodes tables number)

  pub given_counts : (found : List (Option (List ℕ))) → keys_given tables bounds number written ≡ Some found → (found ≡ values (key_nodes tables number)) × (count tables bounds number written (key_nodes tables number) ≡ length written)
  given_counts found e = by (eqb (count_by is_some (values_given tables bounds number written)) (length written)) refl e
    where
      by : (t : Bool) → eqb (count_by is_some (values_given tables bounds number written)) (length written) ≡ t → cond t (Some (values_given tables bounds number written)) None ≡ Some found → (found ≡ values (key_nodes tables number)) × (count tables bounds number written (key_nodes tables number) ≡ length written)
      by true same f = (cc, sym count_is ∙ (Decides-eqb (count_by is_some (values_given tables bounds number written)) (length written)).0 same)
      by false same f = cc

  pub counts_given : count tables bounds number written (key_nodes tables number) ≡ length written → keys_given tables bounds number written ≡ Some (values (key_nodes tables number))
  counts_given e =
      let same : eqb (count_by is_some (values_given tables bounds number written)) (length written) ≡ true = (Decides-eqb (count_by is_some (values_given tables bounds number written)) (length written)).1 (count_is ∙ e) in
      ap (λ t. cond {A = Option (List (Option (List ℕ)))} t (Some (values_given tables bounds number written)) None) same

none_left : (found : List (Option (List ℕ))) → is_some (all_given found) ≡ true → list_all is_some found ≡ true
none_left [] e = refl
none_left (None ∷ found) e = cc
none_left (Some key ∷ found) e = none_left found (by (all_given found) e)
  where
    by : (o : Option (List (List ℕ))) → is_some (option_map (λ more. key ∷ more) o) ≡ true → is_some o ≡ true
    by None f = f
    by (Some x) f = refl

all_there : (found : List (Option (List ℕ))) → list_all is_some found ≡ true → is_some (all_given found) ≡ true
all_there [] e = refl
all_there (None ∷ found) e = cc
all_there (Some key ∷ found) e = by (all_given found) (all_there found e)
  where
    by : (o : Option (List (List ℕ))) → is_some o ≡ true → is_some (option_map (λ more. key ∷ more) o) ≡ true
    by None f = f
    by (Some x) f = refl

step_some : (p : PatternStep) → is_some (instance_step p) ≡ is_some (all_given p.keys)
step_some p = by (all_given p.keys)
  where
    by : (o : Option (List (List ℕ))) → is_some (option_map (λ keys. let it : Rattle.nc_names.specs.declared.path.Step.Step = record { node = p.node; keys = keys } in it) o) ≡ is_some o
    by None = refl
    by (Some x) = refl

-- ---- one predicate
pub record IsPredicate (text : List ℕ) (one : WrittenPredicate) (rest : List ℕ) : Type 0 where
  pub inside : List ℕ
  pub opens : sign opening_bracket text ≡ Some inside
  pub behind : List ℕ
  pub key : predicate_key (after_white inside) ≡ Some (one.key, behind)
  pub after : List ℕ
  pub equal : sign equals (after_white behind) ≡ Some after
  pub last : List ℕ
  pub value : quoted_string (after_white after) ≡ Some (one.value, last)
  pub ends : sign closing_bracket (after_white last) ≡ Some rest

pub predicate_parts : (text : List ℕ) (one : WrittenPredicate) (rest : List ℕ) → predicate text ≡ Some (one, rest) → IsPredicate text one rest
unfolding predicate
predicate_parts text one rest e =
    let (inside, opens, e1) = bind_some (sign opening_bracket text) _ (one, rest) e in
    let (key, key_is, e2) = bind_some (predicate_key (after_white inside)) _ (one, rest) e1 in
    let (after, equal, e3) = bind_some (sign equals (after_white key.1)) _ (one, rest) e2 in
    let (value, value_is, e4) = bind_some (quoted_string (after_white after)) _ (one, rest) e3 in
    let (last, ends, e5) = bind_some (sign closing_bracket (after_white value.1)) _ (one, rest) e4 in
    let pair : ◌≡◌ {A = WrittenPredicate × List ℕ} (record { key = key.0; value = value.0 }, last) (one, rest) = same_some (record { key = key.0; value = value.0 }, last) (one, rest) e5 in
    record {
      inside = inside;
      opens = opens;
      behind = key.1;
      key = key_is ∙ (λ i. Some ((pair i).0.key, key.1));
      after = after;
      equal = equal;
      last = value.1;
      value = value_is ∙ (λ i. Some ((pair i).0.value, value.1));
      ends = ends ∙ (λ i. Some (pair i).1);
    }
  where
    same_some : (x y : WrittenPredicate × List ℕ) → ◌≡◌ {A = Option (WrittenPredicate × List ℕ)} (Some x) (Some y) → x ≡ y
    same_some x y f = cc

pub predicate_made : (text : List ℕ) (one : WrittenPredicate) (rest : List ℕ) → IsPredicate text one rest → predicate text ≡ Some (one, rest)
unfolding predicate
predicate_made text one rest is = rw (is.opens, is.key, is.equal, is.value, is.ends) refl

white_less : (text : List ℕ) → length (after_white text) ≤ length text
white_less text =
    let whole : length (leading is_white text) + length (after_white text) ≡ length text = sym (length-append (leading is_white text) (after_white text)) ∙ ap length (leading_past is_white text) in
    omega (arith, whole)

sign_less : (wanted : ℕ) (text rest : List ℕ) → sign wanted text ≡ Some rest → length text ≡ suc (length rest)
sign_less wanted text rest e = ap length (sign_is wanted text rest e)

pub predicate_less : (text : List ℕ) (one : WrittenPredicate) (rest : List ℕ) → IsPredicate text one rest → length rest < length text
predicate_less text one rest is =
    let a = sign_less opening_bracket text is.inside is.opens in
    let b = white_less is.inside in
    let key = key_cut (after_white is.inside) one.key is.behind is.key in
    let d = ap length key.is ∙ length-append (key_wording one.key) is.behind in
    let e = white_less is.behind in
    let f = sign_less equals (after_white is.behind) is.after is.equal in
    let g = white_less is.after in
    let value = quoted_cut (after_white is.after) one.value is.last is.value in
    let h : length (after_white is.after) ≡ suc (length one.value + suc (length is.last)) = ap length value.is ∙ ap suc (length-append one.value (value.mark ∷ is.last)) in
    let j = white_less is.last in
    let k = sign_less closing_bracket (after_white is.last) rest is.ends in
    omega (arith, a, b, d, e, f, g, h, j, k)

-- ---- steps
pub record IsStep (text : List ℕ) (one : WrittenStep) (rest : List ℕ) : Type 0 where
  pub after : List ℕ
  pub opens : sign slash text ≡ Some after
  pub behind : List ℕ
  pub name : written_name after ≡ Some (one.name, behind)
  pub keys : predicates (length behind) behind ≡ Some (one.predicates, rest)

pub step_parts : (text : List ℕ) (one : WrittenStep) (rest : List ℕ) → written_step text ≡ Some (one, rest) → IsStep text one rest
unfolding written_step
step_parts text one rest e =
    let (after, opens, e1) = bind_some (sign slash text) _ (one, rest) e in
    let (name, name_is, e2) = bind_some (written_name after) _ (one, rest) e1 in
    let (found, found_is, e3) = bind_some (predicates (length name.1) name.1) _ (one, rest) e2 in
    let pair : ◌≡◌ {A = WrittenStep × List ℕ} (record { name = name.0; predicates = found.0 }, found.1) (one, rest) = same_some (record { name = name.0; predicates = found.0 }, found.1) (one, rest) e3 in
    record {
      after = after;
      opens = opens;
      behind = name.1;
      name = name_is ∙ (λ i. Some ((pair i).0.name, name.1));
      keys = found_is ∙ (λ i. Some ((pair i).0.predicates, (pair i).1));
    }
  where
    same_some : (x y : WrittenStep × List ℕ) → ◌≡◌ {A = Option (WrittenStep × List ℕ)} (Some x) (Some y) → x ≡ y
    same_some x y f = cc

pub step_made : (text : List ℕ) (one : WrittenStep) (rest : List ℕ) → IsStep text one rest → written_step text ≡ Some (one, rest)
unfolding written_step
step_made text one rest is = rw (is.opens, is.name, is.keys) refl

-- the pattern step of a written one
pub record IsPattern (s : Reading) (above : Option ℕ) (one : WrittenStep) (p : PatternStep) : Type 0 where
  pub child : child_named s above one.name ≡ Some p.node
  pub keys : keys_given s.tables s.bounds p.node one.predicates ≡ Some p.keys

pub pattern_parts : (s : Reading) (above : Option ℕ) (one : WrittenStep) (p : PatternStep) → pattern_step s.tables s.bounds above one ≡ Some p → IsPattern s above one p
unfolding pattern_step
pattern_parts s above one p e =
    let (name, name_is, e1) = bind_some (qualified s.tables s.bounds one.name) _ p e in
    let (number, number_is, e2) = bind_some (child_number s.tables above name) _ p e1 in
    let (keys, keys_is, e3) = bind_some (keys_given s.tables s.bounds number one.predicates) _ p e2 in
    let same : ◌≡◌ {A = PatternStep} (record { node = number; keys = keys }) p = same_some (record { node = number; keys = keys }) p e3 in
    record {
      child = ap (λ o. option_and_then (child_number s.tables above) o) name_is ∙ number_is ∙ (λ i. Some (same i).node);
      keys = ap (λ n. keys_given s.tables s.bounds n one.predicates) (sym (λ i. (same i).node)) ∙ keys_is ∙ (λ i. Some (same i).keys);
    }
  where
    same_some : (x y : PatternStep) → ◌≡◌ {A = Option PatternStep} (Some x) (Some y) → x ≡ y
    same_some x y f = cc

pub pattern_made : (s : Reading) (above : Option ℕ) (one : WrittenStep) (p : PatternStep) → IsPattern s above one p → pattern_step s.tables s.bounds above one ≡ Some p
unfolding pattern_step
pattern_made s above one p is =
    let (name, name_is, number_is) = bind_some (qualified s.tables s.bounds one.name) (child_number s.tables above) p.node is.child in
    rw (name_is, number_is, is.keys) refl

module _ (s : Reading) (apart : HasKeysApart s.tables) where
  -- ---- a text that is read goes on so
  abbrev put_first : WrittenPredicate × List ℕ → Option (List WrittenPredicate × List ℕ) → Option (List WrittenPredicate × List ℕ)
  put_first first found = option_map (λ (more : List WrittenPredicate × List ℕ). let it : List WrittenPredicate × List ℕ = (first.0 ∷ more.0, more.1) in it) found

  abbrev Further : ℕ → ℕ → Type 0
  Further m number = (text : List ℕ) (left : List ℕ) (written : List WrittenPredicate) (rest : List ℕ) → predicates m text ≡ Some (written, rest) → Covers s.tables s.bounds number s.all left written → Steps s (Some number) rest → Keys s number left text

  keys_read : (m number : ℕ) (text : List ℕ) (left : List ℕ) (written : List WrittenPredicate) (rest : List ℕ) → predicates m text ≡ Some (written, rest) → Covers s.tables s.bounds number s.all left written → Steps s (Some number) rest → Keys s number left text
  keys_read zero number text left written rest e covers_it steps =
      let (none, same) = some_pair_parts [] written text rest e in
      keys_over s number left text (subst (Covers s.tables s.bounds number s.all left) (sym none) covers_it) (subst (Steps s (Some number)) (sym same) steps)
  keys_read (suc m) number text left written rest e covers_it steps = by (begins_with opening_bracket text) refl e covers_it (keys_read m number)
    where
      made : (first : WrittenPredicate) (mid : List ℕ) (more : List WrittenPredicate) → predicate text ≡ Some (first, mid) → predicates m mid ≡ Some (more, rest) → Covers s.tables s.bounds number s.all left (first ∷ more) → Further m number → Keys s number left text
      made first mid more one_is more_is (key, named, covers_rest) further =
          let is = predicate_parts text first mid one_is in
          let keys = further mid (without key left) more rest more_is covers_rest steps in
          subst (Keys s number left) (sym (sign_is opening_bracket text is.inside is.opens))
          (keys_of s number left is.inside ((first.key, is.behind), key, is.key, named, (is.after, is.equal, ((first.value, is.last), is.value, (mid, is.ends, keys)))))

      by : (t : Bool) → begins_with opening_bracket text ≡ t → cond {A = Option (List WrittenPredicate × List ℕ)} t (option_and_then (λ (first : WrittenPredicate × List ℕ). put_first first (predicates m first.1)) (predicate text)) (Some ([], text)) ≡ Some (written, rest) → Covers s.tables s.bounds number s.all left written → Further m number → Keys s number left text
      by true begins f covers_it further =
          let (first, one_is, f1) = bind_some (predicate text) (λ (first : WrittenPredicate × List ℕ). put_first first (predicates m first.1)) (written, rest) f in
          let (more, more_is, pair) = map_some (predicates m first.1) (λ (more : List WrittenPredicate × List ℕ). let it : List WrittenPredicate × List ℕ = (first.0 ∷ more.0, more.1) in it) (written, rest) f1 in
          let fronts : first.0 ∷ more.0 ≡ written = ap (λ (x : List WrittenPredicate × List ℕ). x.0) pair in
          let rests : more.1 ≡ rest = ap (λ (x : List WrittenPredicate × List ℕ). x.1) pair in
          made first.0 first.1 more.0 one_is (more_is ∙ (λ i. Some (more.0, rests i))) (subst (Covers s.tables s.bounds number s.all left) (sym fronts) covers_it) further
      by false begins f covers_it further =
          let (none, same) = some_pair_parts [] written text rest f in
          keys_over s number left text (subst (Covers s.tables s.bounds number s.all left) (sym none) covers_it) (subst (Steps s (Some number)) (sym same) steps)

  both_some : (p : PatternStep) (ps : List PatternStep) → is_some (instance_steps (p ∷ ps)) ≡ true → (is_some (instance_step p) ≡ true) × (is_some (instance_steps ps) ≡ true)
  both_some p ps e = by (instance_step p) (instance_steps ps) e
    where
      by : (a : Option Rattle.nc_names.specs.declared.path.Step.Step) (b : Option (List Rattle.nc_names.specs.declared.path.Step.Step)) → is_some (option_and_then (λ first. option_and_then (λ more. Some (first ∷ more)) b) a) ≡ true → (is_some a ≡ true) × (is_some b ≡ true)
      by None b f = absurd (let clash : false ≡ true = f in cc)
      by (Some x) None f = absurd (let clash : false ≡ true = f in cc)
      by (Some x) (Some y) f = (refl, refl)

  some_both : (p : PatternStep) (ps : List PatternStep) → is_some (instance_step p) ≡ true → is_some (instance_steps ps) ≡ true → is_some (instance_steps (p ∷ ps)) ≡ true
  some_both p ps e f = by (instance_step p) (instance_steps ps) e f
    where
      by : (a : Option Rattle.nc_names.specs.declared.path.Step.Step) (b : Option (List Rattle.nc_names.specs.declared.path.Step.Step)) → is_some a ≡ true → is_some b ≡ true → is_some (option_and_then (λ first. option_and_then (λ more. Some (first ∷ more)) b) a) ≡ true
      by None b g h = cc
      by (Some x) None g h = cc
      by (Some x) (Some y) g h = refl

  abbrev AreSome : List PatternStep → Type 0
  AreSome ps = s.all ≡ true → is_some (instance_steps ps) ≡ true

  pub steps_read : (m : ℕ) (above : Option ℕ) (text : List ℕ) (ws : List WrittenStep) (ps : List PatternStep) → steps_within m text ≡ Some ws → pattern_steps s.tables s.bounds above ws ≡ Some ps → AreSome ps → Steps s above text
  steps_read m above [] ws ps e f g = steps_end s above
  steps_read zero above (c ∷ cs) ws ps e f g = absurd (let clash : ◌≡◌ {A = Option (List WrittenStep)} None (Some ws) = e in cc)
  steps_read (suc m) above (c ∷ cs) ws ps e f g =
      let (first, first_is, e1) = bind_some (written_step (c ∷ cs)) (λ first. option_map (λ more. first.0 ∷ more) (steps_within m first.1)) ws e in
      let (more, more_is, fronts) = map_some (steps_within m first.1) (λ (more : List WrittenStep). first.0 ∷ more) ws e1 in
      let (p, p_is, f1) = bind_some (pattern_step s.tables s.bounds above first.0) (λ x. option_and_then (λ rest. Some (x ∷ rest)) (pattern_steps s.tables s.bounds (Some x.node) more)) ps (ap (pattern_steps s.tables s.bounds above) fronts ∙ f) in
      let (rest, rest_is, whole) = bind_some (pattern_steps s.tables s.bounds (Some p.node) more) (λ rest. Some (p ∷ rest)) ps f1 in
      let both : p ∷ rest ≡ ps = cc in
      let is = step_parts (c ∷ cs) first.0 first.1 first_is in
      let pattern = pattern_parts s above first.0 p p_is in
      let counts = given_counts s.tables s.bounds p.node first.0.predicates p.keys pattern.keys in
      let somes : s.all ≡ true → (is_some (instance_step p) ≡ true) × (is_some (instance_steps rest) ≡ true) = λ a. both_some p rest (ap (λ (x : List PatternStep). is_some (instance_steps x)) both ∙ g a) in
      let given : s.all ≡ true → list_all (is_given s.tables s.bounds p.node first.0.predicates) (key_nodes s.tables p.node) ≡ true =
      λ a. sym (all_some s.tables s.bounds p.node first.0.predicates (key_nodes s.tables p.node)) ∙ ap (list_all is_some) (sym counts.0) ∙ none_left p.keys (sym (step_some p) ∙ (somes a).0) in
      let cover = covers s.tables s.bounds p.node s.all first.0.predicates (key_nodes s.tables p.node) (apart p.node) counts.1 given in
      let below = steps_read m (Some p.node) first.1 more rest more_is rest_is (λ a. (somes a).1) in
      let keys = keys_read (length is.behind) p.node is.behind (key_nodes s.tables p.node) first.0.predicates first.1 is.keys cover below in
      subst (Steps s above) (sym (sign_is slash (c ∷ cs) is.after is.opens)) (step_of s above is.after ((first.0.name, is.behind), p.node, is.name, pattern.child, keys))

  -- ---- a text that goes on so is read
  pub record StepsRead (above : Option ℕ) (text : List ℕ) : Type 0 where
    pub written : List WrittenStep
    pub pattern : List PatternStep
    pub reads : (most : ℕ) → length text ≤ most → steps_within most text ≡ Some written
    pub resolves : pattern_steps s.tables s.bounds above written ≡ Some pattern
    pub some : AreSome pattern

  pub record KeysRead (number : ℕ) (left text : List ℕ) : Type 0 where
    pub written : List WrittenPredicate
    pub rest : List ℕ
    pub reads : (most : ℕ) → length text ≤ most → predicates most text ≡ Some (written, rest)
    pub cover : Covers s.tables s.bounds number s.all left written
    pub less : length rest ≤ length text
    pub steps : StepsRead (Some number) rest

  abbrev ReadAt : Spot → List ℕ → Type 0
  ReadAt (AtStep above) text = StepsRead above text
  ReadAt (AtKeys number left) text = KeysRead number left text

  none_read : (most : ℕ) (text : List ℕ) → text ≡ [] → steps_within most text ≡ Some []
  none_read zero [] e = refl
  none_read (suc most) [] e = refl
  none_read most (c ∷ cs) e = cc

  no_keys_read : (most : ℕ) (text : List ℕ) → begins_with opening_bracket text ≡ false → predicates most text ≡ Some ([], text)
  no_keys_read zero text e = refl
  no_keys_read (suc most) text e = rw e refl

  one_key_read : (most : ℕ) (text : List ℕ) (first : WrittenPredicate) (mid : List ℕ) (more : List WrittenPredicate) (rest : List ℕ) → predicate text ≡ Some (first, mid) → begins_with opening_bracket text ≡ true → predicates most mid ≡ Some (more, rest) → predicates (suc most) text ≡ Some (first ∷ more, rest)
  one_key_read most text first mid more rest e f g = rw (f, e, g) refl

  one_step_read : (most c : ℕ) (cs : List ℕ) (first : WrittenStep) (mid : List ℕ) (more : List WrittenStep) → written_step (c ∷ cs) ≡ Some (first, mid) → steps_within most mid ≡ Some more → steps_within (suc most) (c ∷ cs) ≡ Some (first ∷ more)
  one_step_read most c cs first mid more e f = rw (e, f) refl

  one_pattern : (above : Option ℕ) (one : WrittenStep) (more : List WrittenStep) (p : PatternStep) (ps : List PatternStep) → pattern_step s.tables s.bounds above one ≡ Some p → pattern_steps s.tables s.bounds (Some p.node) more ≡ Some ps → pattern_steps s.tables s.bounds above (one ∷ more) ≡ Some (p ∷ ps)
  one_pattern above one more p ps e f = rw (e, f) refl

  step_reads : (above : Option ℕ) (text after : List ℕ) (found : WrittenName × List ℕ) (number : ℕ) → sign slash text ≡ Some after → written_name after ≡ Some found → child_named s above found.0 ≡ Some number → KeysRead number (key_nodes s.tables number) found.1 → StepsRead above text
  step_reads above text after found number opens name child keys =
      let one : WrittenStep = record { name = found.0; predicates = keys.written } in
      let is : IsStep text one keys.rest = record { after = after; opens = opens; behind = found.1; name = name; keys = keys.reads (length found.1) (omega arith) } in
      let cover = covered s.tables s.bounds number s.all keys.written (key_nodes s.tables number) (apart number) keys.cover in
      let found_values : List (Option (List ℕ)) = map (key_given s.tables s.bounds number keys.written) (key_nodes s.tables number) in
      let p : PatternStep = record { node = number; keys = found_values } in
      let pattern : IsPattern s above one p = record { child = child; keys = counts_given s.tables s.bounds number keys.written cover.0 } in
      let cut = name_cut after found.0 found.1 name in
      let longer : length text ≡ suc (length after) = sign_less slash text after opens in
      let behind : length after ≡ length (wording found.0) + length found.1 = ap length cut.is ∙ length-append (wording found.0) found.1 in
      let less : length keys.rest < length text = omega (arith, longer, behind, keys.less) in
      let step : is_some (instance_step p) ≡ is_some (all_given found_values) = step_some p in
      record {
        written = one ∷ keys.steps.written;
        pattern = p ∷ keys.steps.pattern;
        reads = λ most within. by most text (step_made text one keys.rest is) less within keys.steps.reads;
        resolves = one_pattern above one keys.steps.written p keys.steps.pattern (pattern_made s above one p pattern) keys.steps.resolves;
        some = λ a. some_both p keys.steps.pattern (step ∙ all_there found_values (all_some s.tables s.bounds number keys.written (key_nodes s.tables number) ∙ cover.1 a)) (keys.steps.some a);
      }
    where
      by : (most : ℕ) (whole : List ℕ) → written_step whole ≡ Some (record { name = found.0; predicates = keys.written }, keys.rest) → length keys.rest < length whole → length whole ≤ most → ((most : ℕ) → length keys.rest ≤ most → steps_within most keys.rest ≡ Some keys.steps.written) → steps_within most whole ≡ Some (record { name = found.0; predicates = keys.written } ∷ keys.steps.written)
      by most [] e less within further = absurd (omega (arith, less))
      by zero (c ∷ cs) e less within further = absurd (omega (arith, within))
      by (suc most) (c ∷ cs) e less within further = one_step_read most c cs (record { name = found.0; predicates = keys.written }) keys.rest keys.steps.written e (further most (omega (arith, less, within)))

  key_reads_on : (number : ℕ) (left text : List ℕ) (one : WrittenPredicate) (mid : List ℕ) (key : ℕ) → IsPredicate text one mid → key_named s number left one.key ≡ Some key → KeysRead number (without key left) mid → KeysRead number left text
  key_reads_on number left text one mid key is named keys =
      let less = predicate_less text one mid is in
      let begins : begins_with opening_bracket text ≡ true = ap (begins_with opening_bracket) (sign_is opening_bracket text is.inside is.opens) in
      record {
        written = one ∷ keys.written;
        rest = keys.rest;
        reads = λ most within. by most (predicate_made text one mid is) begins less within keys.reads;
        cover = (key, named, keys.cover);
        less = omega (arith, less, keys.less);
        steps = keys.steps;
      }
    where
      by : (most : ℕ) → predicate text ≡ Some (one, mid) → begins_with opening_bracket text ≡ true → length mid < length text → length text ≤ most → ((most : ℕ) → length mid ≤ most → predicates most mid ≡ Some (keys.written, keys.rest)) → predicates most text ≡ Some (one ∷ keys.written, keys.rest)
      by zero e begins less within further = absurd (omega (arith, less, within))
      by (suc most) e begins less within further = one_key_read most text one mid keys.written keys.rest e begins (further most (omega (arith, less, within)))

  goes_read : (m : ℕ) (spot : Spot) (text : List ℕ) → Goes s m spot text → ReadAt spot text
  unfolding Goes
  goes_read zero spot text goes = absurd goes
  goes_read (suc m) (AtStep above) text (inl none) = record { written = []; pattern = []; reads = λ most within. none_read most text none; resolves = refl; some = λ a. refl }
  goes_read (suc m) (AtStep above) text (inr (after, opens, (found, number, name, child, goes))) =
      step_reads above text after found number opens name child (goes_read m (AtKeys number (key_nodes s.tables number)) found.1 goes)
  goes_read (suc m) (AtKeys number left) text (inl (none, given, goes)) =
      record { written = []; rest = text; reads = λ most within. no_keys_read most text none; cover = given; less = omega arith; steps = goes_read m (AtStep (Some number)) text goes }
  goes_read (suc m) (AtKeys number left) text (inr (inside, opens, (found, key, reads, named, (after, equal, (value, value_is, (mid, ends, goes)))))) =
      let one : WrittenPredicate = record { key = found.0; value = value.0 } in
      let is : IsPredicate text one mid = record { inside = inside; opens = opens; behind = found.1; key = reads; after = after; equal = equal; last = value.1; value = value_is; ends = ends } in
      key_reads_on number left text one mid key is named (goes_read m (AtKeys number (without key left)) mid goes)

  pub steps_are_read : (above : Option ℕ) (text : List ℕ) → Steps s above text → StepsRead above text
  unfolding GoesOn
  steps_are_read above text steps = goes_read steps.0 (AtStep above) text steps.1
