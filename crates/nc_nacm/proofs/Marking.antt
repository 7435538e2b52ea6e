-- A path that a rule matches has the mark of each thing that the rule asks for.
use Rattle.std.proofs.Common.{◌≡◌, ◌&&◌, ◌||◌, ◌==◌, ◌+◌, ◌++◌, ◌<◌, ◌≤◌, ◌⊎◌, ℕ, zero, suc, Bool, true, false, List, [], ◌∷◌, get_or, length, take, drop, map, refl, sym, ap, subst, ◌∙◌, arith, eqb-true, eq-eqb, inl, inr, Option, Some, None, Result, Ok, Err, IfOk, Bor}
use Rattle.std.proofs.lemmas.List.{get_or-map, length-map, take_all, take_more}
use Rattle.std.proofs.lemmas.List.Folds.{list_any-append}
use Rattle.std.specs.Cmp.Lexicographic.{bytes_decides}
use Rattle.std.specs.List.{AllZip, flat_map, list_any}
use Rattle.nc_names.specs.Same.{is_same_text}
use Rattle.nc_names.specs.declared.path.Right.{Right}
use Rattle.nc_names.specs.declared.path.Step.{Step}
use Rattle.nc_schema.specs.declared.pattern.PatternStep.{PatternStep}
use Rattle.nc_model.specs.Decision.{covers, covers_keys, covers_step, has_right, is_for_all, is_of_data, is_of_module}
use Rattle.nc_model.specs.Words.{star}
use Rattle.nc_model.specs.declared.policy.Rule.{Rule}
use Rattle.nc_nacm.specs.inner.Chains.{IsAnchor}
use Rattle.nc_nacm.specs.inner.Found.{matches_under}
use Rattle.nc_nacm.specs.inner.Keys.{pattern_in}
use Rattle.nc_nacm.specs.inner.Marks.{given_marks, is_among, key_mark, key_marks, module_mark, node_mark, path_marks, pattern_marks, pattern_step_marks, step_marks}
use Rattle.nc_nacm.proofs.Covering.{either, kind_covers, kind_without, left_true, or_left, or_right, right_true}

given_there : (node at : ℕ) (given : List (Option (List ℕ))) (keys : List (List ℕ)) (mark : ℕ) → covers_keys given keys ≡ true →
    is_among (given_marks node at given) mark ≡ true → is_among (key_marks node at keys) mark ≡ true
given_there node at [] keys mark covered there = absurd (cc)
given_there node at (None ∷ given) [] mark covered there = given_there node (at + 1) given [] mark covered there
given_there node at (Some text ∷ given) [] mark covered there = absurd (cc)
given_there node at (None ∷ given) (key ∷ keys) mark covered there =
    or_right (key_mark node at key == mark) (is_among (key_marks node (at + 1) keys) mark) (given_there node (at + 1) given keys mark covered there)
given_there node at (Some text ∷ given) (key ∷ keys) mark covered there =
    by (either (key_mark node at text == mark) (is_among (given_marks node (at + 1) given) mark) there)
    (given_there node (at + 1) given keys mark (right_true (is_same_text text key) (covers_keys given keys) covered))
  where
    same : text ≡ key
    same = (bytes_decides text key).0 (left_true (is_same_text text key) (covers_keys given keys) covered)

    by : (((key_mark node at text == mark) ≡ true) ⊎ (is_among (given_marks node (at + 1) given) mark ≡ true)) →
        (is_among (given_marks node (at + 1) given) mark ≡ true → is_among (key_marks node (at + 1) keys) mark ≡ true) →
        is_among (key_marks node at (key ∷ keys)) mark ≡ true
    by (inl here) more = or_left (key_mark node at key == mark) (is_among (key_marks node (at + 1) keys) mark) (ap (λ one. key_mark node at one == mark) (sym same) ∙ here)
    by (inr behind) more = or_right (key_mark node at key == mark) (is_among (key_marks node (at + 1) keys) mark) (more behind)

step_there : (one : PatternStep) (step : Step) (mark : ℕ) → covers_step one step ≡ true → is_among (pattern_step_marks one) mark ≡ true → is_among (step_marks step) mark ≡ true
step_there one step mark covered there = by (either (node_mark one.node == mark) (is_among (given_marks one.node 0 one.keys) mark) there)
  where
    node : one.node ≡ step.node
    node = eqb-true one.node step.node (left_true (one.node == step.node) (covers_keys one.keys step.keys) covered)

    by : (((node_mark one.node == mark) ≡ true) ⊎ (is_among (given_marks one.node 0 one.keys) mark ≡ true)) → is_among (step_marks step) mark ≡ true
    by (inl here) = or_left (node_mark step.node == mark) (is_among (key_marks step.node 0 step.keys) mark) (ap (λ number. node_mark number == mark) (sym node) ∙ here)
    by (inr behind) =
        or_right (node_mark step.node == mark) (is_among (key_marks step.node 0 step.keys) mark)
        (ap (λ number. is_among (key_marks number 0 step.keys) mark) (sym node)
        ∙ given_there one.node 0 one.keys step.keys mark (right_true (one.node == step.node) (covers_keys one.keys step.keys) covered) behind)

among_both : (xs ys : List ℕ) (mark : ℕ) → is_among (xs ++ ys) mark ≡ (is_among xs mark || is_among ys mark)
among_both xs ys mark = list_any-append (λ one. one == mark) xs ys

pattern_there : (pattern : List PatternStep) (steps : List Step) (mark : ℕ) → covers pattern steps ≡ true → is_among (pattern_marks pattern) mark ≡ true →
    is_among (flat_map step_marks steps) mark ≡ true
pattern_there [] steps mark covered there = absurd (cc)
pattern_there (one ∷ pattern) [] mark covered there = absurd (cc)
pattern_there (one ∷ pattern) (step ∷ steps) mark covered there =
    among_both (step_marks step) (flat_map step_marks steps) mark
    ∙ by (either (is_among (pattern_step_marks one) mark) (is_among (pattern_marks pattern) mark) (sym (among_both (pattern_step_marks one) (pattern_marks pattern) mark) ∙ there))
    (pattern_there pattern steps mark (right_true (covers_step one step) (covers pattern steps) covered))
  where
    by : ((is_among (pattern_step_marks one) mark ≡ true) ⊎ (is_among (pattern_marks pattern) mark ≡ true)) →
        (is_among (pattern_marks pattern) mark ≡ true → is_among (flat_map step_marks steps) mark ≡ true) →
        (is_among (step_marks step) mark || is_among (flat_map step_marks steps) mark) ≡ true
    by (inl here) more =
        or_left (is_among (step_marks step) mark) (is_among (flat_map step_marks steps) mark)
        (step_there one step mark (left_true (covers_step one step) (covers pattern steps) covered) here)
    by (inr behind) more = or_right (is_among (step_marks step) mark) (is_among (flat_map step_marks steps) mark) (more behind)

-- what any rule is about that matches
about_data : (rule : Rule) (name : List ℕ) (steps : List Step) (right : Right) → matches_under name steps right rule ≡ true → is_of_data rule.kind steps ≡ true
about_data rule name steps right matched = right_true (is_of_module rule name && has_right rule.operations right) (is_of_data rule.kind steps) matched

of_module : (rule : Rule) (name : List ℕ) (steps : List Step) (right : Right) → matches_under name steps right rule ≡ true → is_of_module rule name ≡ true
of_module rule name steps right matched =
    left_true (is_of_module rule name) (has_right rule.operations right)
    (left_true (is_of_module rule name && has_right rule.operations right) (is_of_data rule.kind steps) matched)

module_there : (rule : Rule) (name : List ℕ) (steps : List Step) (mark : ℕ) → is_of_module rule name ≡ true → (module_mark rule.module == mark) ≡ true → is_among (path_marks name steps) mark ≡ true
module_there rule name steps mark of here = by (either (is_for_all rule.module) (is_same_text rule.module name) of)
  where
    by : ((is_for_all rule.module ≡ true) ⊎ (is_same_text rule.module name ≡ true)) → is_among (path_marks name steps) mark ≡ true
    by (inl all) =
        or_left (module_mark star == mark) (is_among (module_mark name ∷ flat_map step_marks steps) mark)
        (ap (λ called. module_mark called == mark) (sym ((bytes_decides rule.module star).0 all)) ∙ here)
    by (inr own) =
        or_right (module_mark star == mark) (is_among (module_mark name ∷ flat_map step_marks steps) mark)
        (or_left (module_mark name == mark) (is_among (flat_map step_marks steps) mark)
        (ap (λ called. module_mark called == mark) (sym ((bytes_decides rule.module name).0 own)) ∙ here))

pub is_anchor : (rule : Rule) (pattern : List PatternStep) (mark : ℕ) → pattern_in rule.kind ≡ Some pattern →
    is_among (module_mark rule.module ∷ pattern_marks pattern) mark ≡ true → IsAnchor mark rule
is_anchor rule pattern mark some among = λ name steps right matched.
    by name steps (either (module_mark rule.module == mark) (is_among (pattern_marks pattern) mark) among) (of_module rule name steps right matched)
    (sym (kind_covers rule.kind pattern steps some) ∙ about_data rule name steps right matched)
  where
    by : (name : List ℕ) (steps : List Step) → (((module_mark rule.module == mark) ≡ true) ⊎ (is_among (pattern_marks pattern) mark ≡ true)) →
        is_of_module rule name ≡ true → covers pattern steps ≡ true → is_among (path_marks name steps) mark ≡ true
    by name steps (inl here) of covered = module_there rule name steps mark of here
    by name steps (inr there) of covered =
        or_right (module_mark star == mark) (is_among (module_mark name ∷ flat_map step_marks steps) mark)
        (or_right (module_mark name == mark) (is_among (flat_map step_marks steps) mark) (pattern_there pattern steps mark covered there))

-- a rule that is not about data is found by any mark
pub any_anchor : (rule : Rule) (mark : ℕ) → pattern_in rule.kind ≡ None → IsAnchor mark rule
any_anchor rule mark none = λ name steps right matched.
    let clash : false ≡ true = sym (kind_without rule.kind steps none) ∙ about_data rule name steps right matched in
    absurd (cc)

-- ---- the mark that is chosen
pub first_among : (first : ℕ) (others : List ℕ) → is_among (first ∷ others) first ≡ true
first_among first others = or_left (first == first) (is_among others first) (eq-eqb first first refl)

among_there : (marks : List ℕ) (i d : ℕ) → i < length marks → is_among marks (get_or marks i d) ≡ true
among_there [] i d within = absurd (omega (arith, within))
among_there (mark ∷ marks) zero d within = first_among mark marks
among_there (mark ∷ marks) (suc i) d within =
    or_right (mark == get_or marks i d) (is_among marks (get_or marks i d)) (among_there marks i d (omega (arith, within)))

pub kept_among : (first : ℕ) (others : List ℕ) (i mark best new : ℕ) → i < length others → mark ≡ get_or others i 0 → ((new ≡ best) ⊎ (new ≡ mark)) →
    is_among (first ∷ others) best ≡ true → is_among (first ∷ others) new ≡ true
kept_among first others i mark best new within is (inl same) so = ap (is_among (first ∷ others)) same ∙ so
kept_among first others i mark best new within is (inr same) so =
    ap (is_among (first ∷ others)) (same ∙ is)
    ∙ or_right (first == get_or others i 0) (is_among others (get_or others i 0)) (among_there others i 0 within)

-- ---- one rule more
push_anchor : (marks : List ℕ) (rules : List Rule) (mark : ℕ) (rule : Rule) → AllZip IsAnchor marks rules → IsAnchor mark rule → AllZip IsAnchor (marks ++ mark ∷ []) (rules ++ rule ∷ [])
push_anchor [] [] mark rule all one = (one, tt)
push_anchor [] (other ∷ rules) mark rule all one = absurd all
push_anchor (first ∷ marks) [] mark rule all one = absurd all
push_anchor (first ∷ marks) (other ∷ rules) mark rule all one = (all.0, push_anchor marks rules mark rule all.1 one)

pub anchor_more : (old new : List ℕ) (rules : List (Bor Rule)) (i : ℕ) (rule : Bor Rule) (mark : ℕ) → i < length rules → rule ≡ get_or rules i rule →
    new ≡ old ++ mark ∷ [] → IsAnchor mark rule.now → AllZip IsAnchor old (take i (map (λ (one : Bor Rule). one.now) rules)) →
    AllZip IsAnchor new (take (i + 1) (map (λ (one : Bor Rule). one.now) rules))
anchor_more old new rules i rule mark within is put one so =
    let all : List Rule = map (λ (one : Bor Rule). one.now) rules in
    let long : length all ≡ length rules = length-map rules (λ (one : Bor Rule). one.now) in
    let next : take (i + 1) all ≡ take i all ++ rule.now ∷ [] =
    take_more all i rule.now (omega (arith, long, within))
    ∙ ap (λ one. take i all ++ one ∷ []) (get_or-map (λ (one : Bor Rule). one.now) rules i rule rule.now within ∙ ap (λ (one : Bor Rule). one.now) (sym is)) in
    subst (λ (marks : List ℕ). AllZip IsAnchor marks (take (i + 1) all)) (sym put)
    (subst (λ (some : List Rule). AllZip IsAnchor (old ++ mark ∷ []) some) (sym next) (push_anchor old (take i all) mark rule.now so one))

pub all_anchors : (marks : List ℕ) (rules : List (Bor Rule)) (i : ℕ) → length rules ≤ i →
    AllZip IsAnchor marks (take i (map (λ (one : Bor Rule). one.now) rules)) → AllZip IsAnchor marks (map (λ (one : Bor Rule). one.now) rules)
all_anchors marks rules i past so =
    let all : List Rule = map (λ (one : Bor Rule). one.now) rules in
    subst (λ (some : List Rule). AllZip IsAnchor marks some) (take_all i all (omega (arith, length-map rules (λ (one : Bor Rule). one.now), past))) so
