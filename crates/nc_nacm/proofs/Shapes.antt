-- The shapes of the patterns of rules.
use Rattle.std.proofs.Common.{◌≡◌, ◌+◌, ◌<◌, ◌||◌, ℕ, Bool, true, false, cond, List, [], ◌∷◌, ◌++◌, length, take, map, get_or, refl, sym, ap, subst, ◌∙◌, arith, Option, Some, None, Bor}
use Rattle.std.proofs.lemmas.Cmp.{eq_by_cmp_equiv, tied_itself}
use Rattle.std.proofs.lemmas.List.{get_or-map, length-map, take_all, take_more}
use Rattle.std.proofs.lemmas.List.Elements.{All-push, All-weaker}
use Rattle.std.proofs.lemmas.Map.Views.{Contains-from_any, list_any-from_Contains}
use Rattle.std.specs.BTreeSet.{BTreeSet}
use Rattle.std.specs.List.{Contains}
use Rattle.std.specs.Ordering.{eq_by_cmp, is_eq}
use Rattle.std.specs.Prelude.{IfSome, Result, Ok, Err, IfOk, ◌≤◌}
use Rattle.nc_schema.specs.declared.pattern.PatternStep.{PatternStep}
use Rattle.nc_model.specs.declared.policy.Rule.{Rule}
use Rattle.nc_nacm.specs.inner.Keys.{pattern_in, shape_cmp, shape_of}
use Rattle.nc_nacm.specs.inner.Tables.{AddsShape, HasShapes, has_shape}
use Rattle.nc_nacm.proofs.Orders.{shape_same, shape_total}

-- what is found at a shape once one was put into a set
pub put_shape : (a was now : Bool) → now ≡ cond a true was → now ≡ (was || a)
put_shape true was now is = is ∙ sym (or_true was)
  where
    or_true : (b : Bool) → (b || true) ≡ true
    or_true true = refl
    or_true false = refl
put_shape false was now is = is ∙ sym (or_false was)
  where
    or_false : (b : Bool) → (b || false) ≡ b
    or_false true = refl
    or_false false = refl

-- a set of shapes with one more
pub shape_here : (old new : BTreeSet (List (List Bool))) (shape : List (List Bool)) → AddsShape old new shape → Contains new.keys shape
shape_here old new shape adds =
    Contains-from_any {eq = eq_by_cmp shape_cmp} shape_same shape new.keys
    (adds shape ∙ ap (λ b. has_shape old shape || is_eq b) (tied_itself shape_total shape) ∙ or_true (has_shape old shape))
  where
    or_true : (b : Bool) → (b || true) ≡ true
    or_true true = refl
    or_true false = refl

pub shape_kept : (old new : BTreeSet (List (List Bool))) (shape : List (List Bool)) → AddsShape old new shape →
    (one : List (List Bool)) → Contains old.keys one → Contains new.keys one
shape_kept old new shape adds one there =
    Contains-from_any {eq = eq_by_cmp shape_cmp} shape_same one new.keys
    (adds one ∙ ap (λ b. b || is_eq (shape_cmp shape one)) (list_any-from_Contains (eq_by_cmp_equiv shape_total) one old.keys there))

-- one shape more keeps what is there
more_there : (old new : List (List (List Bool))) (rule : Rule) → ((one : List (List Bool)) → Contains old one → Contains new one) →
    IfSome (pattern_in rule.kind) (λ pattern. Contains old (shape_of pattern)) → IfSome (pattern_in rule.kind) (λ pattern. Contains new (shape_of pattern))
more_there old new rule kept is = by (pattern_in rule.kind) is
  where
    by : (found : Option (List PatternStep)) → IfSome found (λ pattern. Contains old (shape_of pattern)) → IfSome found (λ pattern. Contains new (shape_of pattern))
    by None is = is
    by (Some pattern) is = kept (shape_of pattern) is

abbrev HasIts : List (List (List Bool)) → Rule → Type 0
HasIts shapes rule = IfSome (pattern_in rule.kind) (λ pattern. Contains shapes (shape_of pattern))

pub no_shape : (shapes : List (List (List Bool))) (rules : List Rule) (rule : Rule) → pattern_in rule.kind ≡ None → HasShapes shapes rules → HasShapes shapes (rules ++ rule ∷ [])
no_shape shapes rules rule none so =
    All-push (HasIts shapes) rules rule so
    (subst (λ (found : Option (List PatternStep)). IfSome found (λ pattern. Contains shapes (shape_of pattern))) (sym none) tt)

pub its_shape : (old new : List (List (List Bool))) (rules : List Rule) (rule : Rule) (pattern : List PatternStep) → pattern_in rule.kind ≡ Some pattern →
    Contains new (shape_of pattern) → ((one : List (List Bool)) → Contains old one → Contains new one) → HasShapes old rules → HasShapes new (rules ++ rule ∷ [])
its_shape old new rules rule pattern some here kept so =
    All-push (HasIts new) rules rule
    (All-weaker (HasIts old) (HasIts new) (λ one is. more_there old new one kept is) rules so)
    (subst (λ (found : Option (List PatternStep)). IfSome found (λ pattern. Contains new (shape_of pattern))) (sym some) here)

pub shape_more : (old new : List (List (List Bool))) (rules : List (Bor Rule)) (i : ℕ) (rule : Bor Rule) → i < length rules → rule ≡ get_or rules i rule →
    ((some : List Rule) → HasShapes old some → HasShapes new (some ++ rule.now ∷ [])) →
    HasShapes old (take i (map (λ (one : Bor Rule). one.now) rules)) → HasShapes new (take (i + 1) (map (λ (one : Bor Rule). one.now) rules))
shape_more old new rules i rule within is step so =
    let all : List Rule = map (λ (one : Bor Rule). one.now) rules in
    let long : length all ≡ length rules = length-map rules (λ (one : Bor Rule). one.now) in
    let next : take (i + 1) all ≡ take i all ++ rule.now ∷ [] =
    take_more all i rule.now (omega (arith, long, within))
    ∙ ap (λ one. take i all ++ one ∷ []) (get_or-map (λ (one : Bor Rule). one.now) rules i rule rule.now within ∙ ap (λ (one : Bor Rule). one.now) (sym is)) in
    subst (λ (some : List Rule). HasShapes new some) (sym next) (step (take i all) so)

pub put_its_shape : {E : Type 0} (result : Result (BTreeSet (List (List Bool))) E) (old : BTreeSet (List (List Bool))) (rule : Rule) (pattern : List PatternStep) (shape : List (List Bool)) →
    pattern_in rule.kind ≡ Some pattern → shape ≡ shape_of pattern → IfOk result (λ it. AddsShape old it shape) →
    IfOk result (λ it. (rules : List Rule) → HasShapes old.keys rules → HasShapes it.keys (rules ++ rule ∷ []))
put_its_shape (Err e) old rule pattern shape some is adds = adds
put_its_shape (Ok it) old rule pattern shape some is adds = λ rules so.
    its_shape old.keys it.keys rules rule pattern some (subst (λ (one : List (List Bool)). Contains it.keys one) is (shape_here old it shape adds))
    (shape_kept old it shape adds) so

pub listed : {E : Type 0} (result : Result (List (List (List Bool))) E) (shapes : List (List (List Bool))) (rules : List Rule) →
    IfOk result (λ it. it ≡ shapes) → HasShapes shapes rules → IfOk result (λ it. HasShapes it rules)
listed (Err e) shapes rules is so = is
listed (Ok it) shapes rules is so = subst (λ (some : List (List (List Bool))). HasShapes some rules) (sym is) so

pub all_shapes : (shapes : List (List (List Bool))) (rules : List (Bor Rule)) (i : ℕ) → length rules ≤ i →
    HasShapes shapes (take i (map (λ (one : Bor Rule). one.now) rules)) → HasShapes shapes (map (λ (one : Bor Rule). one.now) rules)
all_shapes shapes rules i past so =
    let all : List Rule = map (λ (one : Bor Rule). one.now) rules in
    subst (λ (some : List Rule). HasShapes shapes some) (take_all i all (omega (arith, length-map rules (λ (one : Bor Rule). one.now), past))) so
