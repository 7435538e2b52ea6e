-- The names and the values in the text of a path: where they stand in it.
use Rattle.std.proofs.Common.{◌≡◌, ◌&&◌, ◌||◌, ◌==◌, cond, ℕ, zero, suc, Bool, true, false, List, [], ◌∷◌, ◌++◌, length, Option, Some, None, refl, sym, ap, subst, ◌∙◌, arith, append_assoc}
use Rattle.std.specs.List.{Contains, list_all}
use Rattle.std.specs.Prelude.{option_map}
use Rattle.std.proofs.lemmas.Bool.Decides.{nat_tests, Decides-eqb}
use Rattle.nc_names.specs.Ends.{after_white, past}
use Rattle.nc_names.specs.Signs.{apostrophe, closing_bracket, colon, dot, equals, is_in_identifier, opening_bracket, quote, slash}
use Rattle.nc_schema.specs.PathWords.{◌>>=◌, begins_name, begins_with, identifier, leading, predicate, predicate_key, predicates, quoted_string, sign, steps_within, up_to, written_name, written_step, written_steps}
use Rattle.nc_schema.specs.declared.written.WrittenName.{WrittenName}
use Rattle.nc_schema.specs.declared.written.WrittenPredicate.{WrittenPredicate}
use Rattle.nc_schema.specs.declared.written.WrittenStep.{WrittenStep}
use Rattle.nc_protocol.specs.ModuleNames.{is_apart}
use Rattle.nc_print.proofs.IdentityAgain.{IsPartOfText, past_front}
use Rattle.nc_print.proofs.NamesKnown.{EndsApart, IsPrefix, ends_behind, ends_more}

-- ---- a step of a reading gave something
pub bind_is : {A B : Type 0} (o : Option A) (f : A → Option B) (y : B) → (o >>= f) ≡ Some y → (x : A) × (o ≡ Some x) × (f x ≡ Some y)
bind_is None f y e = absurd (let none : None ≡ Some y = e in cc)
bind_is (Some x) f y e = (x, refl, e)

pub map_is : {A B : Type 0} (o : Option A) (f : A → B) (y : B) → option_map f o ≡ Some y → (x : A) × (o ≡ Some x) × (f x ≡ y)
map_is None f y e = absurd (let none : None ≡ Some y = e in cc)
map_is (Some x) f y e = (x, refl, cc)

-- ---- what stands first in a text
sign_is : (wanted : ℕ) (text rest : List ℕ) → sign wanted text ≡ Some rest → text ≡ wanted ∷ rest
sign_is wanted [] rest e = absurd (let none : None ≡ Some rest = e in cc)
sign_is wanted (c ∷ cs) rest e = by (c == wanted) refl e
  where
    by : (b : Bool) → (c == wanted) ≡ b → cond b (Some cs) None ≡ Some rest → c ∷ cs ≡ wanted ∷ rest
    by true is f = let same : cs ≡ rest = cc in (λ i. (Decides-eqb c wanted).0 is i ∷ same i)
    by false is f = absurd (let none : None ≡ Some rest = f in cc)

leading_past : (p : ℕ → Bool) (text : List ℕ) → (text ≡ leading p text ++ past p text) × (list_all p (leading p text) ≡ true)
leading_past p [] = (refl, refl)
leading_past p (c ∷ cs) = by (p c) refl (leading_past p cs)
  where
    by : (b : Bool) → p c ≡ b → (cs ≡ leading p cs ++ past p cs) × (list_all p (leading p cs) ≡ true) →
        (c ∷ cs ≡ cond b (c ∷ leading p cs) [] ++ cond b (past p cs) (c ∷ cs)) × (list_all p (cond b (c ∷ leading p cs) []) ≡ true)
    by true is rest = (ap (λ more. c ∷ more) rest.0, (λ i. is i && rest.1 i))
    by false is rest = (refl, refl)

identifier_is : (text : List ℕ) (found : List ℕ × List ℕ) → identifier text ≡ Some found → (text ≡ found.0 ++ found.1) × IsPrefix found.0
identifier_is text found e = by (begins_name text) e
  where
    by : (b : Bool) → cond b (Some (leading is_in_identifier text, past is_in_identifier text)) None ≡ Some found → (text ≡ found.0 ++ found.1) × IsPrefix found.0
    by false f = absurd (let none : None ≡ Some found = f in cc)
    by true f =
        let same : (leading is_in_identifier text, past is_in_identifier text) ≡ found = cc in
        subst (λ (pair : List ℕ × List ℕ). (text ≡ pair.0 ++ pair.1) × IsPrefix pair.0) same (leading_past is_in_identifier text)

pub written_name_is : (text : List ℕ) (found : WrittenName × List ℕ) → written_name text ≡ Some found →
    text ≡ found.0.prefix ++ colon ∷ (found.0.name ++ found.1)
unfolding written_name
written_name_is text found e =
    let prefix = bind_is (identifier text) _ found e in
    let after = bind_is (sign colon prefix.0.1) _ found prefix.2 in
    let name = bind_is (identifier after.0) _ found after.2 in
    let same : (record { prefix = prefix.0.0; name = name.0.0 }, name.0.1) ≡ found = cc in
    (identifier_is text prefix.0 prefix.1).0 ∙ ap (λ more. prefix.0.0 ++ more) (sign_is colon prefix.0.1 after.0 after.1 ∙ ap (λ more. colon ∷ more) (identifier_is after.0 name.0 name.1).0)
    ∙ (λ i. (same i).0.prefix ++ colon ∷ ((same i).0.name ++ (same i).1))

up_to_is : (mark : ℕ) (text : List ℕ) (found : List ℕ × List ℕ) → up_to mark text ≡ Some found → text ≡ found.0 ++ mark ∷ found.1
up_to_is mark [] found e = absurd (let none : None ≡ Some found = e in cc)
up_to_is mark (c ∷ cs) found e = by (c == mark) refl e (up_to_is mark cs)
  where
    by : (b : Bool) → (c == mark) ≡ b → cond b (Some ([], cs)) (option_map (λ (found : List ℕ × List ℕ). (c ∷ found.0, found.1)) (up_to mark cs)) ≡ Some found →
        ((inner : List ℕ × List ℕ) → up_to mark cs ≡ Some inner → cs ≡ inner.0 ++ mark ∷ inner.1) → c ∷ cs ≡ found.0 ++ mark ∷ found.1
    by true is f rest =
        let same : ([], cs) ≡ found = cc in
        (λ i. (Decides-eqb c mark).0 is i ∷ cs) ∙ (λ i. (same i).0 ++ mark ∷ (same i).1)
    by false is f rest =
        let inner = map_is (up_to mark cs) (λ (one : List ℕ × List ℕ). (c ∷ one.0, one.1)) found f in
        ap (λ more. c ∷ more) (rest inner.0 inner.1) ∙ (λ i. (inner.2 i).0 ++ mark ∷ (inner.2 i).1)

quoted_is : (text : List ℕ) (found : List ℕ × List ℕ) → quoted_string text ≡ Some found → (mark : ℕ) × (text ≡ mark ∷ (found.0 ++ mark ∷ found.1)) × (is_apart mark ≡ true)
unfolding quoted_string
quoted_is [] found e = absurd (let none : None ≡ Some found = e in cc)
quoted_is (c ∷ cs) found e = by (c == apostrophe || c == quote) refl e
  where
    apart : (c == apostrophe || c == quote) ≡ true → is_apart c ≡ true
    apart f = grind (arith, nat_tests)

    by : (b : Bool) → (c == apostrophe || c == quote) ≡ b → cond b (up_to c cs) None ≡ Some found → (mark : ℕ) × (c ∷ cs ≡ mark ∷ (found.0 ++ mark ∷ found.1)) × (is_apart mark ≡ true)
    by true is f = (c, ap (λ more. c ∷ more) (up_to_is c cs found f), apart is)
    by false is f = absurd (let none : None ≡ Some found = f in cc)

-- ---- where names and values stand in a text
abbrev pub NameIn : List ℕ → WrittenName → Type 0
NameIn text name = (before after : List ℕ) × (text ≡ before ++ (name.prefix ++ colon ∷ after)) × EndsApart before

abbrev pub KeyIn : List ℕ → Option WrittenName → Type 0
KeyIn text None = Unit {0}
KeyIn text (Some name) = NameIn text name

pub record PredicateIn (text : List ℕ) (one : WrittenPredicate) : Type 0 where
  pub key : KeyIn text one.key
  pub value : IsPartOfText text one.value

pub record StepIn (text : List ℕ) (one : WrittenStep) : Type 0 where
  pub name : NameIn text one.name
  pub predicates : (found : WrittenPredicate) → Contains one.predicates found → PredicateIn text found

-- the rest stands at the end of the text
abbrev Ends : List ℕ → List ℕ → Type 0
Ends text rest = (before : List ℕ) × (text ≡ before ++ rest)

moved : (text before here front rest : List ℕ) → text ≡ before ++ here → here ≡ front ++ rest → text ≡ (before ++ front) ++ rest
moved text before here front rest is e = is ∙ ap (λ more. before ++ more) e ∙ sym (append_assoc before front rest)

module _ (text : List ℕ) where
  predicate_in : (here : List ℕ) (found : WrittenPredicate × List ℕ) → Ends text here → predicate here ≡ Some found → PredicateIn text found.0 × Ends text found.1
  unfolding predicate predicate_key
  predicate_in here found (before, is) e =
      let inside = bind_is (sign opening_bracket here) _ found e in
      let key = bind_is (predicate_key (after_white inside.0)) _ found inside.2 in
      let after = bind_is (sign equals (after_white key.0.1)) _ found key.2 in
      let value = bind_is (quoted_string (after_white after.0)) _ found after.2 in
      let rest = bind_is (sign closing_bracket (after_white value.0.1)) _ found value.2 in
      let same : (record { key = key.0.0; value = value.0.0 }, rest.0) ≡ found = cc in
      let first = moved text before here (opening_bracket ∷ []) inside.0 is (sign_is opening_bracket here inside.0 inside.1) in
      let white = past_front inside.0 in
      let at_key = moved text (before ++ opening_bracket ∷ []) inside.0 white.0 (after_white inside.0) first white.1 in
      let apart : EndsApart ((before ++ opening_bracket ∷ []) ++ white.0) = ends_more (before ++ opening_bracket ∷ []) white.0 (ends_behind before opening_bracket refl) white.2 in
      let named = key_in (after_white inside.0) key.0 ((before ++ opening_bracket ∷ []) ++ white.0) at_key apart key.1 in
      let white_two = past_front key.0.1 in
      let at_equals = moved text named.1.0 key.0.1 white_two.0 (after_white key.0.1) named.1.1 white_two.1 in
      let at_after = moved text (named.1.0 ++ white_two.0) (after_white key.0.1) (equals ∷ []) after.0 at_equals (sign_is equals (after_white key.0.1) after.0 after.1) in
      let white_three = past_front after.0 in
      let at_value = moved text ((named.1.0 ++ white_two.0) ++ equals ∷ []) after.0 white_three.0 (after_white after.0) at_after white_three.1 in
      let quoted = quoted_is (after_white after.0) value.0 value.1 in
      let start : List ℕ = ((named.1.0 ++ white_two.0) ++ equals ∷ []) ++ white_three.0 in
      let at_text = moved text start (after_white after.0) (quoted.0 ∷ []) (value.0.0 ++ quoted.0 ∷ value.0.1) at_value quoted.1 in
      let at_mark = moved text (start ++ quoted.0 ∷ []) (value.0.0 ++ quoted.0 ∷ value.0.1) value.0.0 (quoted.0 ∷ value.0.1) at_text refl in
      let at_behind = moved text ((start ++ quoted.0 ∷ []) ++ value.0.0) (quoted.0 ∷ value.0.1) (quoted.0 ∷ []) value.0.1 at_mark refl in
      let white_four = past_front value.0.1 in
      let at_close = moved text (((start ++ quoted.0 ∷ []) ++ value.0.0) ++ quoted.0 ∷ []) value.0.1 white_four.0 (after_white value.0.1) at_behind white_four.1 in
      let at_rest = moved text ((((start ++ quoted.0 ∷ []) ++ value.0.0) ++ quoted.0 ∷ []) ++ white_four.0) (after_white value.0.1) (closing_bracket ∷ []) rest.0 at_close (sign_is closing_bracket (after_white value.0.1) rest.0 rest.1) in
      let made : PredicateIn text (record { key = key.0.0; value = value.0.0 }) =
      record { key = named.0; value = (start ++ quoted.0 ∷ [], quoted.0 ∷ value.0.1, at_text, ends_behind start quoted.0 quoted.2) } in
      subst (λ (pair : WrittenPredicate × List ℕ). PredicateIn text pair.0 × Ends text pair.1) same
      (made, ((((((start ++ quoted.0 ∷ []) ++ value.0.0) ++ quoted.0 ∷ []) ++ white_four.0) ++ closing_bracket ∷ []), at_rest))
    where
      key_in : (here : List ℕ) (key : Option WrittenName × List ℕ) (before : List ℕ) → text ≡ before ++ here → EndsApart before → predicate_key here ≡ Some key → KeyIn text key.0 × Ends text key.1
      key_in here key before is apart e = by (begins_with dot here) e
        where
          by : (b : Bool) → cond b (option_map (λ (after : List ℕ). (None, after)) (sign dot here)) (option_map (λ (found : WrittenName × List ℕ). (Some found.0, found.1)) (written_name here)) ≡ Some key →
              KeyIn text key.0 × Ends text key.1
          by true f =
              let found = map_is (sign dot here) (λ (after : List ℕ). (None, after)) key f in
              subst (λ (pair : Option WrittenName × List ℕ). KeyIn text pair.0 × Ends text pair.1) found.2
              (tt, (before ++ dot ∷ [], moved text before here (dot ∷ []) found.0 is (sign_is dot here found.0 found.1)))
          by false f =
              let found = map_is (written_name here) (λ (one : WrittenName × List ℕ). (Some one.0, one.1)) key f in
              let name_is = written_name_is here found.0 found.1 in
              subst (λ (pair : Option WrittenName × List ℕ). KeyIn text pair.0 × Ends text pair.1) found.2 (
                (before, found.0.0.name ++ found.0.1, is ∙ ap (λ more. before ++ more) name_is, apart),
                (
                  before ++ (found.0.0.prefix ++ colon ∷ found.0.0.name),
                  moved text before here (found.0.0.prefix ++ colon ∷ found.0.0.name) found.0.1 is
                      (name_is ∙ sym (append_assoc found.0.0.prefix (colon ∷ found.0.0.name) found.0.1)),
                ),
              )

  -- the predicates of a step
  predicates_in : (most : ℕ) (here : List ℕ) (found : List WrittenPredicate × List ℕ) → Ends text here → predicates most here ≡ Some found →
      ((one : WrittenPredicate) → Contains found.0 one → PredicateIn text one) × Ends text found.1
  predicates_in zero here found ends e =
      let same : ([], here) ≡ found = cc in
      subst (λ (pair : List WrittenPredicate × List ℕ). ((one : WrittenPredicate) → Contains pair.0 one → PredicateIn text one) × Ends text pair.1) same
      ((λ one has. absurd (omega (arith, has.1))), ends)
  predicates_in (suc most) here found ends e = by (begins_with opening_bracket here) (λ next inner rest f. predicates_in most next inner rest f) e
    where
      by : (b : Bool) → ((next : List ℕ) (inner : List WrittenPredicate × List ℕ) → Ends text next → predicates most next ≡ Some inner → ((one : WrittenPredicate) → Contains inner.0 one → PredicateIn text one) × Ends text inner.1) →
          cond b (predicate here >>= (λ (first : WrittenPredicate × List ℕ). option_map (λ (more : List WrittenPredicate × List ℕ). (first.0 ∷ more.0, more.1)) (predicates most first.1))) (Some ([], here)) ≡ Some found →
          ((one : WrittenPredicate) → Contains found.0 one → PredicateIn text one) × Ends text found.1
      by false inner f =
          let same : ([], here) ≡ found = cc in
          subst (λ (pair : List WrittenPredicate × List ℕ). ((one : WrittenPredicate) → Contains pair.0 one → PredicateIn text one) × Ends text pair.1) same
          ((λ one has. absurd (omega (arith, has.1))), ends)
      by true inner f =
          let first = bind_is (predicate here) (λ (one : WrittenPredicate × List ℕ). option_map (λ (more : List WrittenPredicate × List ℕ). (one.0 ∷ more.0, more.1)) (predicates most one.1)) found f in
          let more = map_is (predicates most first.0.1) (λ (rest : List WrittenPredicate × List ℕ). (first.0.0 ∷ rest.0, rest.1)) found first.2 in
          let here_in = predicate_in here first.0 ends first.1 in
          let rest_in = inner first.0.1 more.0 here_in.1 more.1 in
          subst (λ (pair : List WrittenPredicate × List ℕ). ((one : WrittenPredicate) → Contains pair.0 one → PredicateIn text one) × Ends text pair.1) more.2
          (each first.0.0 more.0.0 here_in.0 rest_in.0, rest_in.1)
        where
          each : (first : WrittenPredicate) (rest : List WrittenPredicate) → PredicateIn text first → ((one : WrittenPredicate) → Contains rest one → PredicateIn text one) →
              (one : WrittenPredicate) → Contains (first ∷ rest) one → PredicateIn text one
          each first rest own others one (zero, within, is) = subst (PredicateIn text) is own
          each first rest own others one (suc k, within, is) = others one (k, omega (arith, within), is)

  step_in : (here : List ℕ) (found : WrittenStep × List ℕ) → Ends text here → written_step here ≡ Some found → StepIn text found.0 × Ends text found.1
  unfolding written_step
  step_in here found (before, is) e =
      let after = bind_is (sign slash here) _ found e in
      let name = bind_is (written_name after.0) _ found after.2 in
      let preds = bind_is (predicates (length name.0.1) name.0.1) _ found name.2 in
      let same : (record { name = name.0.0; predicates = preds.0.0 }, preds.0.1) ≡ found = cc in
      let at_name = moved text before here (slash ∷ []) after.0 is (sign_is slash here after.0 after.1) in
      let name_is = written_name_is after.0 name.0 name.1 in
      let at_preds = moved text (before ++ slash ∷ []) after.0 (name.0.0.prefix ++ colon ∷ name.0.0.name) name.0.1 at_name (name_is ∙ sym (append_assoc name.0.0.prefix (colon ∷ name.0.0.name) name.0.1)) in
      let inner = predicates_in (length name.0.1) name.0.1 preds.0 ((before ++ slash ∷ []) ++ (name.0.0.prefix ++ colon ∷ name.0.0.name), at_preds) preds.1 in
      let made : StepIn text (record { name = name.0.0; predicates = preds.0.0 }) = record {
        name = (before ++ slash ∷ [], name.0.0.name ++ name.0.1, at_name ∙ ap (λ more. (before ++ slash ∷ []) ++ more) name_is, ends_behind before slash refl);
        predicates = inner.0;
      } in
      subst (λ (pair : WrittenStep × List ℕ). StepIn text pair.0 × Ends text pair.1) same (made, inner.1)

  steps_in : (most : ℕ) (here : List ℕ) (found : List WrittenStep) → Ends text here → steps_within most here ≡ Some found → (one : WrittenStep) → Contains found one → StepIn text one
  steps_in most [] found ends e one has = let same : [] ≡ found = cc in absurd (let gone : Contains [] one = subst (λ (ss : List WrittenStep). Contains ss one) (sym same) has in omega (arith, gone.1))
  steps_in zero (c ∷ cs) found ends e one has = absurd (let none : None ≡ Some found = e in cc)
  steps_in (suc most) (c ∷ cs) found ends e one has =
      let first = bind_is (written_step (c ∷ cs)) (λ (step : WrittenStep × List ℕ). option_map (λ more. step.0 ∷ more) (steps_within most step.1)) found e in
      let more = map_is (steps_within most first.0.1) (λ rest. first.0.0 ∷ rest) found first.2 in
      let here_in = step_in (c ∷ cs) first.0 ends first.1 in
      each first.0.0 more.0 here_in.0 (steps_in most first.0.1 more.0 here_in.1 more.1) (subst (λ (ss : List WrittenStep). Contains ss one) (sym more.2) has)
    where
      each : (first : WrittenStep) (rest : List WrittenStep) → StepIn text first → ((other : WrittenStep) → Contains rest other → StepIn text other) → Contains (first ∷ rest) one → StepIn text one
      each first rest own others (zero, within, is) = subst (StepIn text) is own
      each first rest own others (suc k, within, is) = others one (k, omega (arith, within), is)

  -- the steps that are read from a text stand in it
  pub written_in : (found : List WrittenStep) → written_steps text ≡ Some found → (one : WrittenStep) → Contains found one → StepIn text one
  written_in found e = by text refl e
    where
      by : (here : List ℕ) → text ≡ here → written_steps here ≡ Some found → (one : WrittenStep) → Contains found one → StepIn text one
      by [] is f = absurd (let none : None ≡ Some found = f in cc)
      by (c ∷ cs) is f = steps_in (length (c ∷ cs)) (c ∷ cs) found ([], is) f
