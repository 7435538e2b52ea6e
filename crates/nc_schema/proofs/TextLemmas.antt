-- A path text names one path: how texts are cut in one way alone.
use Rattle.std.proofs.Common.{◌≡◌, ◌≢◌, ◌⊎◌, ◌==◌, ◌&&◌, ◌||◌, ℕ, Bool, true, false, not, cond, eqb, List, [], ◌∷◌, ◌++◌, refl, sym, ap, subst, ◌∙◌, inl, inr, arith, length, suc, append_assoc}
use Rattle.std.proofs.lemmas.Bool.{eq-eqb}
use Rattle.std.specs.Char.{is_ascii_digit}
use Rattle.std.specs.List.{All, list_all, list_any, flat_map}
use Rattle.nc_names.specs.Identifiers.{IsIdentifier}
use Rattle.nc_names.specs.Signs.{quote, apostrophe, dot, equals, opening_bracket, closing_bracket, slash, begins_identifier, is_in_identifier}
use Rattle.nc_schema.specs.PathTexts.{CanBeQuoted}
use Rattle.nc_schema.specs.PathTexts.{mark_round, quoted, key_name, key_predicates, value_predicate}
use Rattle.nc_schema.specs.Tables.{Tables}

-- of two tests that both hold, each holds
both_left : (a b : Bool) → (a && b) ≡ true → a ≡ true
both_left true b e = refl
both_left false b e = e

both_right : (a b : Bool) → (a && b) ≡ true → b ≡ true
both_right true b e = e
both_right false b e = absurd (let no : false ≡ true = e in cc)

-- of two tests of which none holds, neither holds
none_left : (a b : Bool) → (a || b) ≡ false → a ≡ false
none_left true b e = e
none_left false b e = refl

none_right : (a b : Bool) → (a || b) ≡ false → b ≡ false
none_right true b e = absurd (let no : true ≡ false = e in cc)
none_right false b e = e

-- the text is at its end, or its first sign fails the test
abbrev pub StopsAt : (ℕ → Bool) → List ℕ → Type 0
StopsAt p [] = Unit {0}
StopsAt p (c ∷ cs) = p c ≡ false

-- two texts whose signs pass a test, each before one that stops it, are cut in one way
pub cut_once : (p : ℕ → Bool) (a b x y : List ℕ) → list_all p a ≡ true → list_all p b ≡ true → StopsAt p x → StopsAt p y → a ++ x ≡ b ++ y → (a ≡ b) × (x ≡ y)
cut_once p [] [] x y in_a in_b at_x at_y e = (refl, e)
cut_once p [] (d ∷ b) [] y in_a in_b at_x at_y e = absurd cc
cut_once p [] (d ∷ b) (c ∷ x) y in_a in_b at_x at_y e =
    let same : c ≡ d = cc in
    let passes = both_left (p d) (list_all p b) in_b in
    let clash : false ≡ true = sym at_x ∙ ap p same ∙ passes in
    absurd cc
cut_once p (c ∷ a) [] x [] in_a in_b at_x at_y e = absurd cc
cut_once p (c ∷ a) [] x (d ∷ y) in_a in_b at_x at_y e =
    let same : c ≡ d = cc in
    let passes = both_left (p c) (list_all p a) in_a in
    let clash : false ≡ true = sym at_y ∙ ap p (sym same) ∙ passes in
    absurd cc
cut_once p (c ∷ a) (d ∷ b) x y in_a in_b at_x at_y e =
    let same : c ≡ d = cc in
    let rest : a ++ x ≡ b ++ y = cc in
    let parts = cut_once p a b x y (both_right (p c) (list_all p a) in_a) (both_right (p d) (list_all p b) in_b) at_x at_y rest in
    ((λ i. same i ∷ parts.0 i), parts.1)

-- an identifier is of signs that may stand in one
pub all_in_identifier : (name : List ℕ) → IsIdentifier name → list_all is_in_identifier name ≡ true
all_in_identifier [] h = absurd (let clash : false ≡ true = h in cc)
all_in_identifier (c ∷ cs) h =
    let first = both_left (begins_identifier c) (list_all is_in_identifier cs) h in
    let rest = both_right (begins_identifier c) (list_all is_in_identifier cs) h in
    λ i. (((first i || is_ascii_digit c) || c == 45) || c == 46) && rest i

-- a value lacks the mark round it
lacks_mark : (value : List ℕ) → CanBeQuoted value → list_any (λ sign. sign == mark_round value) value ≡ false
lacks_mark value can = by (list_any (λ sign. sign == apostrophe) value) refl can
  where
    by : (b : Bool) → list_any (λ sign. sign == apostrophe) value ≡ b → (b ≡ false) ⊎ (list_any (λ sign. sign == quote) value ≡ false) → list_any (λ sign. sign == cond b quote apostrophe) value ≡ false
    by true e (inl free) = absurd (let clash : true ≡ false = free in cc)
    by true e (inr lacks) = lacks
    by false e lacks = e

-- it is of other signs alone
all_but : (mark : ℕ) (value : List ℕ) → list_any (λ sign. sign == mark) value ≡ false → list_all (λ sign. not (sign == mark)) value ≡ true
all_but mark [] e = refl
all_but mark (c ∷ cs) e = λ i. not (none_left (eqb c mark) (list_any (λ sign. sign == mark) cs) e i) && all_but mark cs (none_right (eqb c mark) (list_any (λ sign. sign == mark) cs) e) i

-- two quoted values before other texts are one value
quoted_once : (value other rest more : List ℕ) → CanBeQuoted value → CanBeQuoted other → quoted value ++ rest ≡ quoted other ++ more → (value ≡ other) × (rest ≡ more)
quoted_once value other rest more can could e =
    let m : ℕ = mark_round value in
    let n : ℕ = mark_round other in
    let marks : m ≡ n = cc in
    let behind : (value ++ m ∷ []) ++ rest ≡ (other ++ n ∷ []) ++ more = cc in
    let level : value ++ m ∷ rest ≡ other ++ n ∷ more = sym (append_assoc value (m ∷ []) rest) ∙ behind ∙ append_assoc other (n ∷ []) more in
    let lacks : list_any (λ sign. sign == m) other ≡ false = subst (λ (k : ℕ). list_any (λ sign. sign == k) other ≡ false) (sym marks) (lacks_mark other could) in
    let parts = cut_once (λ sign. not (sign == m)) value other (m ∷ rest) (n ∷ more) (all_but m value (lacks_mark value can)) (all_but m other lacks) (ap not (eq-eqb m m refl)) (ap not (eq-eqb n m (sym marks))) level in
    (parts.0, (let both : m ∷ rest ≡ n ∷ more = parts.1 in cc))

-- the text of what follows a step: it is at its end, or the next step begins
abbrev pub EndsStep : List ℕ → Type 0
EndsStep [] = Unit {0}
EndsStep (c ∷ cs) = c ≡ slash

-- so no predicate follows
no_predicate : (rest more : List ℕ) → EndsStep rest → rest ≢ opening_bracket ∷ more
no_predicate [] more ends e = cc
no_predicate (c ∷ cs) more ends e =
    let clash : slash ≡ opening_bracket = sym ends ∙ (let whole : c ∷ cs ≡ opening_bracket ∷ more = e in cc) in
    omega (arith, clash)

-- what stands in both texts first can be left out
cancel : (lead x y : List ℕ) → lead ++ x ≡ lead ++ y → x ≡ y
cancel [] x y e = e
cancel (c ∷ lead) x y e = cancel lead x y cc

-- the parts of a text, from the left
regroup : (lead value behind rest : List ℕ) → (((lead ++ value) ++ closing_bracket ∷ []) ++ behind) ++ rest ≡ lead ++ (value ++ closing_bracket ∷ (behind ++ rest))
regroup lead value behind rest = simp append_assoc

-- a predicate is read in one way where its name is known
predicate_once : (lead value other behind after rest more : List ℕ) → CanBeQuoted value → CanBeQuoted other → (((lead ++ quoted value) ++ closing_bracket ∷ []) ++ behind) ++ rest ≡ (((lead ++ quoted other) ++ closing_bracket ∷ []) ++ after) ++ more → (value ≡ other) × (behind ++ rest ≡ after ++ more)
predicate_once lead value other behind after rest more can could e =
    let whole : lead ++ (quoted value ++ closing_bracket ∷ (behind ++ rest)) ≡ lead ++ (quoted other ++ closing_bracket ∷ (after ++ more)) =
    sym (regroup lead (quoted value) behind rest) ∙ e ∙ regroup lead (quoted other) after more in
    let level = cancel lead (quoted value ++ closing_bracket ∷ (behind ++ rest)) (quoted other ++ closing_bracket ∷ (after ++ more)) whole in
    let first = quoted_once value other (closing_bracket ∷ (behind ++ rest)) (closing_bracket ∷ (after ++ more)) can could level in
    (first.0, same_rest (behind ++ rest) (after ++ more) first.1)
  where
    same_rest : (x y : List ℕ) → closing_bracket ∷ x ≡ closing_bracket ∷ y → x ≡ y
    same_rest x y e = cc

-- what holds of all but the first
rest_of : (value : List ℕ) (values : List (List ℕ)) → All CanBeQuoted (value ∷ values) → All CanBeQuoted values
rest_of value values all k d within = all (suc k) d (omega (arith, within))

-- the predicates of a leaf-list step are read in one way
pub values_once : (values others : List (List ℕ)) (rest more : List ℕ) → All CanBeQuoted values → All CanBeQuoted others → EndsStep rest → EndsStep more → flat_map value_predicate values ++ rest ≡ flat_map value_predicate others ++ more → (values ≡ others) × (rest ≡ more)
values_once [] [] rest more can could at_rest at_more e = (refl, e)
values_once [] (other ∷ others) rest more can could at_rest at_more e = absurd (no_predicate rest _ at_rest e)
values_once (value ∷ values) [] rest more can could at_rest at_more e = absurd (no_predicate more _ at_more (sym e))
values_once (value ∷ values) (other ∷ others) rest more can could at_rest at_more e =
    let first = predicate_once (opening_bracket ∷ dot ∷ equals ∷ []) value other (flat_map value_predicate values) (flat_map value_predicate others) rest more (can 0 value (omega arith)) (could 0 other (omega arith)) e in
    let parts = values_once values others rest more (rest_of value values can) (rest_of other others could) at_rest at_more first.1 in
    ((λ i. first.0 i ∷ parts.0 i), parts.1)

-- no values for no keys
pub none_of_none : (values : List (List ℕ)) → (length values ≡ 0) ⊎ (values ≡ []) → values ≡ []
none_of_none [] fits = refl
none_of_none (value ∷ values) (inl long) = absurd (omega (arith, long))
none_of_none (value ∷ values) (inr none) = none

-- a value for each key but the first
one_less : (key : ℕ) (keys : List ℕ) (value : List ℕ) (values : List (List ℕ)) → (length (value ∷ values) ≡ length (key ∷ keys)) ⊎ (value ∷ values ≡ []) → (length values ≡ length keys) ⊎ (values ≡ [])
one_less key keys value values (inl long) = inl (omega (arith, long))
one_less key keys value values (inr none) = absurd (let clash : value ∷ values ≡ [] = none in cc)

-- so are those of a list step, which has a value for each key or none at all
pub keys_once : (tables : Tables) (keys : List ℕ) (values others : List (List ℕ)) (rest more : List ℕ) → (length values ≡ length keys) ⊎ (values ≡ []) → (length others ≡ length keys) ⊎ (others ≡ []) → All CanBeQuoted values → All CanBeQuoted others → EndsStep rest → EndsStep more → key_predicates tables keys values ++ rest ≡ key_predicates tables keys others ++ more → (values ≡ others) × (rest ≡ more)
keys_once tables [] values others rest more fits fit can could at_rest at_more e = (none_of_none values fits ∙ sym (none_of_none others fit), e)
keys_once tables (key ∷ keys) [] [] rest more fits fit can could at_rest at_more e = (refl, e)
keys_once tables (key ∷ keys) [] (other ∷ others) rest more fits fit can could at_rest at_more e = absurd (no_predicate rest _ at_rest e)
keys_once tables (key ∷ keys) (value ∷ values) [] rest more fits fit can could at_rest at_more e = absurd (no_predicate more _ at_more (sym e))
keys_once tables (key ∷ keys) (value ∷ values) (other ∷ others) rest more fits fit can could at_rest at_more e =
    let first = predicate_once (key_name tables key) value other (key_predicates tables keys values) (key_predicates tables keys others) rest more (can 0 value (omega arith)) (could 0 other (omega arith)) e in
    let parts = keys_once tables keys values others rest more (one_less key keys value values fits) (one_less key keys other others fit) (rest_of value values can) (rest_of other others could) at_rest at_more first.1 in
    ((λ i. first.0 i ∷ parts.0 i), parts.1)
