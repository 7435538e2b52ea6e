-- The text of a path as it is written, read from the left.
use Rattle.std.proofs.Common.{◌≡◌, ◌⊎◌, ◌&&◌, ◌||◌, ◌==◌, not, cond, ℕ, Bool, true, false, List, [], ◌∷◌, ◌++◌, Option, Some, None, refl, sym, ap, subst, ◌∙◌, inl, inr, arith}
use Rattle.std.specs.List.{list_all, list_any}
use Rattle.std.specs.Prelude.{option_map}
use Rattle.std.proofs.lemmas.Bool.Decides.{nat_tests, Decides-eqb}
use Rattle.nc_names.specs.Ends.{after_white, past}
use Rattle.nc_names.specs.Identifiers.{IsIdentifier}
use Rattle.nc_names.specs.Signs.{apostrophe, begins_identifier, closing_bracket, colon, dot, equals, is_in_identifier, is_white, opening_bracket, quote}
use Rattle.nc_schema.specs.PathTexts.{mark_round}
use Rattle.nc_schema.specs.PathWords.{◌>>=◌, begins_name, begins_with, identifier, leading, predicate, predicate_key, quoted_string, sign, up_to, written_name}
use Rattle.nc_schema.specs.Values.{is_quotable}
use Rattle.nc_schema.specs.declared.written.WrittenName.{WrittenName}
use Rattle.nc_schema.specs.declared.written.WrittenPredicate.{WrittenPredicate}
use Rattle.nc_schema.proofs.TextLemmas.{all_in_identifier}
use Rattle.nc_print.proofs.NamesKnown.{IsPrefix}
use Rattle.nc_print.proofs.TrimAgain.{left_true, right_true}

-- ---- a name
-- the text is at its end, or no sign of a name follows
abbrev pub Stops : List ℕ → Type 0
Stops [] = Unit {0}
Stops (c ∷ cs) = is_in_identifier c ≡ false

leading_name : (name rest : List ℕ) → IsPrefix name → Stops rest → (leading is_in_identifier (name ++ rest) ≡ name) × (past is_in_identifier (name ++ rest) ≡ rest)
leading_name [] [] named stops = (refl, refl)
leading_name [] (c ∷ cs) named stops = (ap (λ b. cond b (c ∷ leading is_in_identifier cs) []) stops, ap (λ b. cond b (past is_in_identifier cs) (c ∷ cs)) stops)
leading_name (c ∷ name) rest named stops =
    let inner = leading_name name rest (right_true (is_in_identifier c) (list_all is_in_identifier name) named) stops in
    let mine = left_true (is_in_identifier c) (list_all is_in_identifier name) named in (
      ap (λ b. cond b (c ∷ leading is_in_identifier (name ++ rest)) []) mine ∙ ap (λ more. c ∷ more) inner.0,
      ap (λ b. cond b (past is_in_identifier (name ++ rest)) (c ∷ (name ++ rest))) mine ∙ inner.1,
    )

begins_there : (name rest : List ℕ) → IsIdentifier name → begins_name (name ++ rest) ≡ true
begins_there [] rest e = let clash : false ≡ true = e in cc
begins_there (c ∷ cs) rest e = left_true (begins_identifier c) (list_all is_in_identifier cs) e

identifier_there : (name rest : List ℕ) → IsIdentifier name → Stops rest → identifier (name ++ rest) ≡ Some (name, rest)
identifier_there name rest named stops =
    let parts = leading_name name rest (all_in_identifier name named) stops in
    (λ i. cond (begins_there name rest named i) (Some (parts.0 i, parts.1 i)) None)

pub name_there : (prefix name rest : List ℕ) → IsIdentifier prefix → IsIdentifier name → Stops rest →
    written_name (prefix ++ colon ∷ (name ++ rest)) ≡ Some (record { prefix = prefix; name = name }, rest)
unfolding written_name
name_there prefix name rest prefix_is name_is stops =
    ap (λ o. o >>= (λ found. sign colon found.1 >>= (λ after. identifier after >>= (λ one. Some (record { prefix = found.0; name = one.0 }, one.1)))))
    (identifier_there prefix (colon ∷ (name ++ rest)) prefix_is refl)
    ∙ ap (λ o. o >>= (λ one. Some (record { prefix = prefix; name = one.0 }, one.1))) (identifier_there name rest name_is stops)

-- ---- a value between marks
-- the value lacks the mark
abbrev pub Lacks : ℕ → List ℕ → Type 0
Lacks mark value = list_any (λ c. c == mark) value ≡ false

up_to_there : (mark : ℕ) (value rest : List ℕ) → Lacks mark value → up_to mark (value ++ mark ∷ rest) ≡ Some (value, rest)
up_to_there mark [] rest lacks =
    let more : Option (List ℕ × List ℕ) = option_map (λ (found : List ℕ × List ℕ). (mark ∷ found.0, found.1)) (up_to mark rest) in
    let none : Option (List ℕ × List ℕ) = Some ([], rest) in
    ap (λ b. cond b none more) ((Decides-eqb mark mark).1 refl)
up_to_there mark (c ∷ value) rest lacks = by (c == mark) refl lacks (up_to_there mark value rest)
  where
    chosen : Bool → Option (List ℕ × List ℕ)
    chosen b = cond {A = Option (List ℕ × List ℕ)} b (Some ([], value ++ mark ∷ rest)) (option_map (λ (found : List ℕ × List ℕ). (c ∷ found.0, found.1)) (up_to mark (value ++ mark ∷ rest)))

    by : (b : Bool) → (c == mark) ≡ b → (b || list_any (λ d. d == mark) value) ≡ false → (Lacks mark value → up_to mark (value ++ mark ∷ rest) ≡ Some (value, rest)) →
        chosen b ≡ Some (c ∷ value, rest)
    by true is e inner = absurd (let clash : true ≡ false = e in cc)
    by false is e inner = ap (option_map (λ (found : List ℕ × List ℕ). (c ∷ found.0, found.1))) (inner e)

-- its mark is one of two, and it lacks it
pub record IsMarked (value : List ℕ) : Type 0 where
  pub one : (mark_round value ≡ apostrophe) ⊎ (mark_round value ≡ quote)
  pub lacks : Lacks (mark_round value) value

pub marked : (value : List ℕ) → is_quotable value ≡ true → IsMarked value
marked value e = by (list_any (λ c. c == apostrophe) value) refl e
  where
    by : (b : Bool) → list_any (λ c. c == apostrophe) value ≡ b → not (b && list_any (λ c. c == quote) value) ≡ true → IsMarked value
    by false none f =
        let mark : mark_round value ≡ apostrophe = ap (λ t. cond t quote apostrophe) none in
        record { one = inl mark; lacks = subst (λ (m : ℕ). Lacks m value) (sym mark) none }
    by true some f =
        let mark : mark_round value ≡ quote = ap (λ t. cond t quote apostrophe) some in
        record { one = inr mark; lacks = subst (λ (m : ℕ). Lacks m value) (sym mark) (none (list_any (λ c. c == quote) value) f) }
      where
        none : (b : Bool) → not b ≡ true → b ≡ false
        none true g = let clash : false ≡ true = g in cc
        none false g = refl

-- ---- a predicate
-- what follows the name of a key: its value
abbrev behind_key : Option WrittenName → List ℕ → Option (WrittenPredicate × List ℕ)
behind_key key text =
    sign equals (after_white text) >>= (λ after.
    quoted_string (after_white after) >>= (λ found.
    sign closing_bracket (after_white found.1) >>= (λ behind. Some (record { key = key; value = found.0 }, behind))))

abbrev value_text : ℕ → List ℕ → List ℕ → List ℕ
value_text mark value rest = equals ∷ mark ∷ (value ++ mark ∷ closing_bracket ∷ rest)

-- the end of a predicate
abbrev closed : Option WrittenName → List ℕ × List ℕ → Option (WrittenPredicate × List ℕ)
closed key found = sign closing_bracket (after_white found.1) >>= (λ behind. Some (record { key = key; value = found.0 }, behind))

value_there : (key : Option WrittenName) (mark : ℕ) (value rest : List ℕ) → (mark ≡ apostrophe) ⊎ (mark ≡ quote) → Lacks mark value →
    behind_key key (value_text mark value rest) ≡ Some (record { key = key; value = value }, rest)
unfolding quoted_string
value_there key mark value rest (inl is) lacks =
    subst (λ (m : ℕ). behind_key key (value_text m value rest) ≡ Some (record { key = key; value = value }, rest)) (sym is)
    (ap (λ o. o >>= closed key) (up_to_there apostrophe value (closing_bracket ∷ rest) (subst (λ (m : ℕ). Lacks m value) is lacks)))
value_there key mark value rest (inr is) lacks =
    subst (λ (m : ℕ). behind_key key (value_text m value rest) ≡ Some (record { key = key; value = value }, rest)) (sym is)
    (ap (λ o. o >>= closed key) (up_to_there quote value (closing_bracket ∷ rest) (subst (λ (m : ℕ). Lacks m value) is lacks)))

-- `[.='value']`
pub value_predicate_there : (value rest : List ℕ) → IsMarked value →
    predicate (opening_bracket ∷ dot ∷ equals ∷ mark_round value ∷ (value ++ mark_round value ∷ closing_bracket ∷ rest)) ≡ Some (record { key = None; value = value }, rest)
unfolding predicate predicate_key
value_predicate_there value rest marked = value_there None (mark_round value) value rest marked.one marked.lacks

first_black : (name rest : List ℕ) → IsIdentifier name → (after_white (name ++ rest) ≡ name ++ rest) × (begins_with dot (name ++ rest) ≡ false)
first_black [] rest e = absurd (let clash : false ≡ true = e in cc)
first_black (c ∷ cs) rest e =
    let begins = left_true (begins_identifier c) (list_all is_in_identifier cs) e in
    (ap (λ b. cond b (past is_white (cs ++ rest)) (c ∷ (cs ++ rest))) (black c begins), other c begins)
  where
    black : (c : ℕ) → begins_identifier c ≡ true → is_white c ≡ false
    black c f = grind (arith, nat_tests)

    other : (c : ℕ) → begins_identifier c ≡ true → (c == dot) ≡ false
    other c f = grind (arith, nat_tests)

-- `[prefix:name='value']`
pub key_predicate_there : (prefix name value rest : List ℕ) → IsIdentifier prefix → IsIdentifier name → IsMarked value →
    predicate (opening_bracket ∷ (prefix ++ colon ∷ (name ++ equals ∷ mark_round value ∷ (value ++ mark_round value ∷ closing_bracket ∷ rest))))
    ≡ Some (record { key = Some (record { prefix = prefix; name = name }); value = value }, rest)
unfolding predicate predicate_key
key_predicate_there prefix name value rest prefix_is name_is marked =
    (λ i. named (first.0 i) (begins_with dot (first.0 i)) (written_name (first.0 i)) >>= behind)
    ∙ (λ i. named text (first.1 i) (name_there prefix name (equals ∷ mark_round value ∷ (value ++ mark_round value ∷ closing_bracket ∷ rest)) prefix_is name_is refl i) >>= behind)
    ∙ value_there (Some (record { prefix = prefix; name = name })) (mark_round value) value rest marked.one marked.lacks
  where
    named : List ℕ → Bool → Option (WrittenName × List ℕ) → Option (Option WrittenName × List ℕ)
    named here b found = cond b (option_map (λ (after : List ℕ). (None, after)) (sign dot here)) (option_map (λ (one : WrittenName × List ℕ). (Some one.0, one.1)) found)

    text : List ℕ
    text = prefix ++ colon ∷ (name ++ equals ∷ mark_round value ∷ (value ++ mark_round value ∷ closing_bracket ∷ rest))

    first : (after_white (prefix ++ colon ∷ (name ++ equals ∷ mark_round value ∷ (value ++ mark_round value ∷ closing_bracket ∷ rest))) ≡ prefix ++ colon ∷ (name ++ equals ∷ mark_round value ∷ (value ++ mark_round value ∷ closing_bracket ∷ rest)))
        × (begins_with dot (prefix ++ colon ∷ (name ++ equals ∷ mark_round value ∷ (value ++ mark_round value ∷ closing_bracket ∷ rest))) ≡ false)
    first = first_black prefix (colon ∷ (name ++ equals ∷ mark_round value ∷ (value ++ mark_round value ∷ closing_bracket ∷ rest))) prefix_is

    behind : Option WrittenName × List ℕ → Option (WrittenPredicate × List ℕ)
    behind key = behind_key key.0 key.1
