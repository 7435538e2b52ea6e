-- The first places of rules, with one rule more.
use Rattle.std.proofs.Common.{◌≡◌, ◌+◌, ◌&&◌, ℕ, Bool, true, false, cond, List, [], ◌∷◌, ◌++◌, length, take, map, get_or, ◌<◌, refl, sym, ap, subst, ◌∙◌, arith, Option, Some, None, Bor}
use Rattle.std.proofs.lemmas.List.{get_or-map, length-map, length-take-le, take_more}
use Rattle.std.specs.BTreeMap.{BTreeMap}
use Rattle.std.specs.Prelude.{Result, Ok, Err, IfOk}
use Rattle.std.specs.List.{position_from}
use Rattle.std.specs.Option.{option_map_or}
use Rattle.std.specs.Ordering.{is_eq}
use Rattle.std.specs.Prelude.{unwrap_or}
use Rattle.nc_names.specs.declared.path.Right.{Right}
use Rattle.nc_names.specs.declared.path.Right.TheVariants.{Read, Create, Update, Delete, Exec}
use Rattle.nc_schema.specs.declared.pattern.PatternStep.{PatternStep}
use Rattle.nc_model.specs.Decision.{has_right}
use Rattle.nc_model.specs.declared.policy.AccessOperations.{AccessOperations}
use Rattle.nc_model.specs.declared.policy.Rule.{Rule}
use Rattle.nc_nacm.specs.declared.index.Places.{Places}
use Rattle.nc_nacm.specs.declared.key.Key.{Key}
use Rattle.nc_nacm.specs.inner.Keys.{is_at_with, key_cmp, key_of, pattern_in}
use Rattle.nc_nacm.specs.inner.Places.{no_places, or_place, place_with, with_place}
use Rattle.nc_nacm.specs.inner.Tables.{HasPlaces, Puts, in_table, place_in}
use Rattle.nc_nacm.proofs.Orders.{key_same}

pub position_more : {X : Type 0} (t : X → Bool) (n : ℕ) (xs : List X) (x : X) → position_from t n (xs ++ x ∷ []) ≡ or_place (position_from t n xs) (t x) (n + length xs)
position_more t n [] x = ap (λ k. cond (t x) (Some k) None) none
  where
    none : n ≡ n + length {A = ℕ} []
    none = omega arith
position_more t n (y ∷ ys) x = by (t y) (position_more t (n + 1) ys x ∙ ap (or_place (position_from t (n + 1) ys) (t x)) more)
  where
    more : n + 1 + length ys ≡ n + length (y ∷ ys)
    more = omega arith

    by : (b : Bool) → position_from t (n + 1) (ys ++ x ∷ []) ≡ or_place (position_from t (n + 1) ys) (t x) (n + length (y ∷ ys)) →
        cond b (Some n) (position_from t (n + 1) (ys ++ x ∷ [])) ≡ or_place (cond b (Some n) (position_from t (n + 1) ys)) (t x) (n + length (y ∷ ys))
    by true e = refl
    by false e = e

or_none : (place : Option ℕ) (n : ℕ) → or_place place false n ≡ place
or_none None n = refl
or_none (Some place) n = refl

place_with_more : (right : Right) (places : Places) (operations : AccessOperations) (n : ℕ) →
    place_with right (with_place places operations n) ≡ or_place (place_with right places) (has_right operations right) n
place_with_more Read places operations n = refl
place_with_more Create places operations n = refl
place_with_more Update places operations n = refl
place_with_more Delete places operations n = refl
place_with_more Exec places operations n = refl

no_place : (right : Right) → place_with right no_places ≡ None
no_place Read = refl
no_place Create = refl
no_place Update = refl
no_place Delete = refl
no_place Exec = refl

place_or_none : (right : Right) (found : Option Places) → place_with right (unwrap_or found no_places) ≡ place_in right found
place_or_none right None = no_place right
place_or_none right (Some places) = refl

module _ (rules : List Rule) (rule : Rule) where
  more_of : (key : Key) (right : Right) (has : Bool) → is_at_with key right rule ≡ has →
      position_from (is_at_with key right) 0 (rules ++ rule ∷ []) ≡ or_place (position_from (is_at_with key right) 0 rules) has (length rules)
  more_of key right has e =
      position_more (is_at_with key right) 0 rules rule
      ∙ (λ i. or_place (position_from (is_at_with key right) 0 rules) (e i) (count i))
    where
      count : 0 + length rules ≡ length rules
      count = omega arith

  -- a rule that is about no data node
  pub no_key : (found : Key → Option Places) → pattern_in rule.kind ≡ None → HasPlaces found rules → HasPlaces found (rules ++ rule ∷ [])
  no_key found none so key right =
      so key right
      ∙ sym (more_of key right false (ap (λ pattern. option_map_or (λ (steps : List PatternStep). is_eq (key_cmp (key_of rule steps) key)) pattern false && has_right rule.operations right) none)
      ∙ or_none (position_from (is_at_with key right) 0 rules) (length rules))

  -- one that is put at its key
  pub at_its_key : (old new : Key → Option Places) (pattern : List PatternStep) (at : ℕ) → pattern_in rule.kind ≡ Some pattern → at ≡ length rules →
      ((other : Key) → new other ≡ cond (is_eq (key_cmp (key_of rule pattern) other)) (Some (with_place (unwrap_or (old (key_of rule pattern)) no_places) rule.operations at)) (old other)) →
      HasPlaces old rules → HasPlaces new (rules ++ rule ∷ [])
  at_its_key old new pattern at some at_is puts so key right = ap (place_in right) (puts key) ∙ by (is_eq (key_cmp own key)) refl
    where
      own : Key
      own = key_of rule pattern

      put : Places
      put = with_place (unwrap_or (old own) no_places) rule.operations at

      has_is : (b : Bool) → is_eq (key_cmp own key) ≡ b → is_at_with key right rule ≡ (b && has_right rule.operations right)
      has_is b e = ap (λ found. option_map_or (λ (steps : List PatternStep). is_eq (key_cmp (key_of rule steps) key)) found false && has_right rule.operations right) some
          ∙ ap (λ b. b && has_right rule.operations right) e

      by : (b : Bool) → is_eq (key_cmp own key) ≡ b → place_in right (cond b (Some put) (old key)) ≡ position_from (is_at_with key right) 0 (rules ++ rule ∷ [])
      by true e =
          place_with_more right (unwrap_or (old own) no_places) rule.operations at
          ∙ ap (λ place. or_place place (has_right rule.operations right) at) (place_or_none right (old own) ∙ ap (λ k. place_in right (old k)) (key_same own key e) ∙ so key right)
          ∙ ap (or_place (position_from (is_at_with key right) 0 rules) (has_right rule.operations right)) at_is
          ∙ sym (more_of key right (has_right rule.operations right) (has_is true e))
      by false e =
          so key right
          ∙ sym (more_of key right false (has_is false e) ∙ or_none (position_from (is_at_with key right) 0 rules) (length rules))

-- the same for what a call gives
pub put_at_key : {E : Type 0} (result : Result (BTreeMap Key Places) E) (table : BTreeMap Key Places) (rule : Rule) (pattern : List PatternStep) (key : Key) (at : ℕ) →
    pattern_in rule.kind ≡ Some pattern → key ≡ key_of rule pattern → IfOk result (λ it. Puts table it key rule.operations at) →
    IfOk result (λ it. (rules : List Rule) → at ≡ length rules → HasPlaces (in_table table) rules → HasPlaces (in_table it) (rules ++ rule ∷ []))
put_at_key (Err e) table rule pattern key at some is puts = puts
put_at_key (Ok it) table rule pattern key at some is puts = λ rules at_is so.
    at_its_key rules rule (in_table table) (in_table it) pattern at some at_is
    (subst (λ (k : Key). Puts table it k rule.operations at) is puts) so

-- one rule more, of a list of rules
pub place_more : (found : Key → Option Places) (old : Key → Option Places) (rules : List (Bor Rule)) (i : ℕ) (rule : Bor Rule) → i < length rules → rule ≡ get_or rules i rule →
    ((some : List Rule) → i ≡ length some → HasPlaces old some → HasPlaces found (some ++ rule.now ∷ [])) →
    HasPlaces old (take i (map (λ (one : Bor Rule). one.now) rules)) → HasPlaces found (take (i + 1) (map (λ (one : Bor Rule). one.now) rules))
place_more found old rules i rule within is step so =
    let all : List Rule = map (λ (one : Bor Rule). one.now) rules in
    let long : length all ≡ length rules = length-map rules (λ (one : Bor Rule). one.now) in
    let next : take (i + 1) all ≡ take i all ++ rule.now ∷ [] =
    take_more all i rule.now (omega (arith, long, within))
    ∙ ap (λ one. take i all ++ one ∷ []) (get_or-map (λ (one : Bor Rule). one.now) rules i rule rule.now within ∙ ap (λ (one : Bor Rule). one.now) (sym is)) in
    subst (λ (some : List Rule). HasPlaces found some) (sym next) (step (take i all) (sym (length-take-le i all (omega (arith, long, within)))) so)
