-- A rule matches exactly where it stands at a key that is sought.
use Rattle.std.proofs.Common.{◌≡◌, ◌&&◌, ◌||◌, ◌==◌, ◌⊎◌, ℕ, zero, suc, Bool, true, false, List, [], ◌∷◌, map, refl, sym, ap, ◌∙◌, arith, eqb-true, eq-eqb, inl, inr, Option, Some, None}
use Rattle.std.proofs.lemmas.Cmp.{tied_itself}
use Rattle.std.proofs.lemmas.List.Elements.{All-weaker}
use Rattle.std.specs.Cmp.Lexicographic.{bytes_decides}
use Rattle.std.specs.List.{Contains, list_any, position_from}
use Rattle.std.specs.Option.{option_map_or}
use Rattle.std.specs.Ordering.{is_eq}
use Rattle.std.specs.Prelude.{IfSome, is_some}
use Rattle.nc_names.specs.Same.{is_same_text}
use Rattle.nc_names.specs.declared.path.Right.{Right}
use Rattle.nc_names.specs.declared.path.Step.{Step}
use Rattle.nc_schema.specs.declared.pattern.PatternStep.{PatternStep}
use Rattle.nc_model.specs.Decision.{covers, covers_keys, covers_step, has_right, is_for_all, is_of_data, is_of_module}
use Rattle.nc_model.specs.Words.{star}
use Rattle.nc_model.specs.declared.policy.Rule.{Rule}
use Rattle.nc_model.specs.declared.policy.RuleKind.{RuleKind}
use Rattle.nc_model.specs.declared.policy.RuleKind.TheVariants.{OfAll, OfOperation, OfNotification, OfData, OfNothing}
use Rattle.nc_nacm.specs.declared.key.Key.{Key}
use Rattle.nc_nacm.specs.declared.key.KeyStep.{KeyStep}
use Rattle.nc_nacm.specs.inner.Found.{matches_under, under}
use Rattle.nc_nacm.specs.inner.Keys.{is_at, is_at_with, key_cmp, key_of, key_step, masked, masked_keys, pattern_in, shape_of, sought}
use Rattle.nc_nacm.specs.inner.Tables.{HasShapes}
use Rattle.nc_nacm.proofs.Firsts.{same_first}
use Rattle.nc_nacm.proofs.Orders.{key_same, key_total}

-- ---- tests
same_test : (a b : Bool) → (a ≡ true → b ≡ true) → (b ≡ true → a ≡ true) → a ≡ b
same_test true b there back = sym (there refl)
same_test false true there back = back refl
same_test false false there back = refl

pub left_true : (a b : Bool) → (a && b) ≡ true → a ≡ true
left_true true b e = refl
left_true false b e = e

pub right_true : (a b : Bool) → (a && b) ≡ true → b ≡ true
right_true true b e = e
right_true false b e = absurd (cc)

pub both : (a b : Bool) → a ≡ true → b ≡ true → (a && b) ≡ true
both a b e f = cc

pub either : (a b : Bool) → (a || b) ≡ true → (a ≡ true) ⊎ (b ≡ true)
either true b e = inl refl
either false b e = inr e

pub or_left : (a b : Bool) → a ≡ true → (a || b) ≡ true
or_left a b e = cc

pub or_right : (a b : Bool) → b ≡ true → (a || b) ≡ true
or_right true b e = refl
or_right false b e = e

some_passes : {X : Type 0} (p : X → Bool) (xs : List X) → list_any p xs ≡ true → (x : X) × (p x ≡ true)
some_passes p [] e = absurd (cc)
some_passes p (x ∷ xs) e = by (p x) refl e (some_passes p xs)
  where
    by : (b : Bool) → p x ≡ b → (b || list_any p xs) ≡ true → (list_any p xs ≡ true → (y : _) × (p y ≡ true)) → (y : _) × (p y ≡ true)
    by true is f rest = (x, is)
    by false is f rest = rest f

passes_there : {X : Type 0} (p : X → Bool) (xs : List X) (x : X) → Contains xs x → p x ≡ true → list_any p xs ≡ true
passes_there p [] x (k, within, here) passes = absurd (omega (arith, within))
passes_there p (y ∷ xs) x (zero, within, here) passes = or_left (p y) (list_any p xs) (ap p here ∙ passes)
passes_there p (y ∷ xs) x (suc k, within, here) passes =
    or_right (p y) (list_any p xs) (passes_there p xs x (k, omega (arith, within), here) passes)

-- ---- keys
text_itself : (text : List ℕ) → is_same_text text text ≡ true
text_itself text = (bytes_decides text text).1 refl

masked_is_covered : (given : List Bool) (keys : List (List ℕ)) → covers_keys (masked_keys given keys) keys ≡ true
masked_is_covered [] keys = refl
masked_is_covered (true ∷ given) [] = masked_is_covered given []
masked_is_covered (false ∷ given) [] = masked_is_covered given []
masked_is_covered (true ∷ given) (key ∷ keys) = both (is_same_text key key) (covers_keys (masked_keys given keys) keys) (text_itself key) (masked_is_covered given keys)
masked_is_covered (false ∷ given) (key ∷ keys) = masked_is_covered given keys

covered_is_masked : (given : List (Option (List ℕ))) (keys : List (List ℕ)) → covers_keys given keys ≡ true → given ≡ masked_keys (map is_some given) keys
covered_is_masked [] keys e = refl
covered_is_masked (None ∷ given) [] e = ap (λ more. None ∷ more) (covered_is_masked given [] e)
covered_is_masked (Some text ∷ given) [] e = absurd (cc)
covered_is_masked (None ∷ given) (key ∷ keys) e = ap (λ more. None ∷ more) (covered_is_masked given keys e)
covered_is_masked (Some text ∷ given) (key ∷ keys) e =
    let same : text ≡ key = (bytes_decides text key).0 (left_true (is_same_text text key) (covers_keys given keys) e) in
    let more = covered_is_masked given keys (right_true (is_same_text text key) (covers_keys given keys) e) in
    λ i. Some (same i) ∷ more i

-- ---- patterns
first_step : (a b : KeyStep) (xs ys : List KeyStep) → a ∷ xs ≡ b ∷ ys → a ≡ b
first_step a b xs ys e = cc

other_steps : (a b : KeyStep) (xs ys : List KeyStep) → a ∷ xs ≡ b ∷ ys → xs ≡ ys
other_steps a b xs ys e = cc

same_number : (a b : ℕ) → a ≡ b → (a == b) ≡ true
same_number a b e = eq-eqb a b e

pub masked_covers : (pattern : List PatternStep) (shape : List (List Bool)) (steps : List Step) → map key_step pattern ≡ masked shape steps → covers pattern steps ≡ true
masked_covers [] shape steps e = refl
masked_covers (one ∷ pattern) [] steps e = absurd (cc)
masked_covers (one ∷ pattern) (given ∷ shape) [] e = absurd (cc)
masked_covers (one ∷ pattern) (given ∷ shape) (step ∷ steps) e =
    let head : key_step one ≡ record { node = step.node; keys = masked_keys given step.keys } = first_step _ _ _ _ e in
    let tail : map key_step pattern ≡ masked shape steps = other_steps _ _ _ _ e in
    both (covers_step one step) (covers pattern steps)
    (both (one.node == step.node) (covers_keys one.keys step.keys) (same_number one.node step.node (ap (λ (s : KeyStep). s.node) head))
    (ap (λ (s : KeyStep). covers_keys s.keys step.keys) head ∙ masked_is_covered given step.keys))
    (masked_covers pattern shape steps tail)

pub covers_masked : (pattern : List PatternStep) (steps : List Step) → covers pattern steps ≡ true → map key_step pattern ≡ masked (shape_of pattern) steps
covers_masked [] steps e = refl
covers_masked (one ∷ pattern) [] e = absurd (cc)
covers_masked (one ∷ pattern) (step ∷ steps) e =
    let here = left_true (covers_step one step) (covers pattern steps) e in
    let node : one.node ≡ step.node = eqb-true one.node step.node (left_true (one.node == step.node) (covers_keys one.keys step.keys) here) in
    let keys = covered_is_masked one.keys step.keys (right_true (one.node == step.node) (covers_keys one.keys step.keys) here) in
    let more = covers_masked pattern steps (right_true (covers_step one step) (covers pattern steps) e) in
    λ i. record { node = node i; keys = keys i } ∷ more i

pub kind_covers : (kind : RuleKind) (pattern : List PatternStep) (steps : List Step) → pattern_in kind ≡ Some pattern → is_of_data kind steps ≡ covers pattern steps
kind_covers OfAll pattern steps e = let same : [] ≡ pattern = cc in ap (λ found. covers found steps) same
kind_covers (OfData given) pattern steps e = let same : given.steps ≡ pattern = cc in ap (λ found. covers found steps) same
kind_covers (OfOperation name) pattern steps e = absurd (cc)
kind_covers (OfNotification name) pattern steps e = absurd (cc)
kind_covers OfNothing pattern steps e = absurd (cc)

pub kind_without : (kind : RuleKind) (steps : List Step) → pattern_in kind ≡ None → is_of_data kind steps ≡ false
kind_without OfAll steps e = absurd (cc)
kind_without (OfData given) steps e = absurd (cc)
kind_without (OfOperation name) steps e = refl
kind_without (OfNotification name) steps e = refl
kind_without OfNothing steps e = refl

-- ---- rules
module _ (name : List ℕ) (steps : List Step) (right : Right) (shapes : List (List (List Bool))) (rule : Rule) where
  abbrev has : Bool
  has = has_right rule.operations right

  abbrev AtKey : Option (List PatternStep) → List ℕ → List (List Bool) → Bool
  AtKey found called shape = option_map_or (λ pattern. is_eq (key_cmp (key_of rule pattern) (sought called shape steps))) found false

  module_there : (called : List ℕ) → (called ≡ star) ⊎ (called ≡ name) → rule.module ≡ called → is_of_module rule name ≡ true
  module_there called (inl is) same = or_left (is_for_all rule.module) (is_same_text rule.module name) ((bytes_decides rule.module star).1 (same ∙ is))
  module_there called (inr is) same = or_right (is_for_all rule.module) (is_same_text rule.module name) ((bytes_decides rule.module name).1 (same ∙ is))

  matched_by : (found : Option (List PatternStep)) → pattern_in rule.kind ≡ found → (called : List ℕ) (shape : List (List Bool)) → (called ≡ star) ⊎ (called ≡ name) →
      (AtKey found called shape && has) ≡ true → matches_under name steps right rule ≡ true
  matched_by None e called shape which at = absurd (cc)
  matched_by (Some pattern) e called shape which at =
      let same : key_of rule pattern ≡ sought called shape steps =
      key_same _ _ (left_true (is_eq (key_cmp (key_of rule pattern) (sought called shape steps))) has at) in
      both (is_of_module rule name && has) (is_of_data rule.kind steps)
      (both (is_of_module rule name) has (module_there called which (ap (λ (k : Key). k.module) same)) (right_true (AtKey (Some pattern) called shape) has at))
      (kind_covers rule.kind pattern steps e ∙ masked_covers pattern shape steps (ap (λ (k : Key). k.steps) same))

  key_there : (pattern : List PatternStep) (called : List ℕ) → rule.module ≡ called → covers pattern steps ≡ true →
      is_eq (key_cmp (key_of rule pattern) (sought called (shape_of pattern) steps)) ≡ true
  key_there pattern called name_is covered =
      let names = name_is in
      let patterns = covers_masked pattern steps covered in
      let same : key_of rule pattern ≡ sought called (shape_of pattern) steps = λ i. record { «module» = names i; steps = patterns i } in
      ap (λ (k : Key). is_eq (key_cmp (key_of rule pattern) k)) (sym same) ∙ ap is_eq (tied_itself key_total (key_of rule pattern))

  under_there : (found : Option (List PatternStep)) → pattern_in rule.kind ≡ found → IfSome found (λ pattern. Contains shapes (shape_of pattern)) →
      matches_under name steps right rule ≡ true → list_any (λ shape. under name steps right shape rule) shapes ≡ true
  under_there None e there matched =
      let about : is_of_data rule.kind steps ≡ true = right_true (is_of_module rule name && has) (is_of_data rule.kind steps) matched in
      let clash : false ≡ true = sym (kind_without rule.kind steps e) ∙ about in
      absurd (cc)
  under_there (Some pattern) e there matched =
      passes_there (λ shape. under name steps right shape rule) shapes (shape_of pattern) there (by (either (is_for_all rule.module) (is_same_text rule.module name) named))
    where
      about : is_of_data rule.kind steps ≡ true
      about = right_true (is_of_module rule name && has) (is_of_data rule.kind steps) matched

      covered : covers pattern steps ≡ true
      covered = sym (kind_covers rule.kind pattern steps e) ∙ about

      named : is_of_module rule name ≡ true
      named = left_true (is_of_module rule name) has (left_true (is_of_module rule name && has) (is_of_data rule.kind steps) matched)

      given : has ≡ true
      given = right_true (is_of_module rule name) has (left_true (is_of_module rule name && has) (is_of_data rule.kind steps) matched)

      at : (called : List ℕ) → rule.module ≡ called → is_at_with (sought called (shape_of pattern) steps) right rule ≡ true
      at called is =
          both (is_at (sought called (shape_of pattern) steps) rule) has
          (ap (λ found. AtKey found called (shape_of pattern)) e ∙ key_there pattern called is covered) given

      by : (is_for_all rule.module ≡ true) ⊎ (is_same_text rule.module name ≡ true) → under name steps right (shape_of pattern) rule ≡ true
      by (inl all) =
          or_left (is_at_with (sought star (shape_of pattern) steps) right rule) (is_at_with (sought name (shape_of pattern) steps) right rule)
          (at star ((bytes_decides rule.module star).0 all))
      by (inr own) =
          or_right (is_at_with (sought star (shape_of pattern) steps) right rule) (is_at_with (sought name (shape_of pattern) steps) right rule)
          (at name ((bytes_decides rule.module name).0 own))

  under_matches : list_any (λ shape. under name steps right shape rule) shapes ≡ true → matches_under name steps right rule ≡ true
  under_matches e = by (some_passes (λ shape. under name steps right shape rule) shapes e)
    where
      by : (shape : List (List Bool)) × (under name steps right shape rule ≡ true) → matches_under name steps right rule ≡ true
      by (shape, passes) = go (either (is_at_with (sought star shape steps) right rule) (is_at_with (sought name shape steps) right rule) passes)
        where
          go : (is_at_with (sought star shape steps) right rule ≡ true) ⊎ (is_at_with (sought name shape steps) right rule ≡ true) → matches_under name steps right rule ≡ true
          go (inl at) = matched_by (pattern_in rule.kind) refl star shape (inl refl) at
          go (inr at) = matched_by (pattern_in rule.kind) refl name shape (inr refl) at

  pub found_matches : IfSome (pattern_in rule.kind) (λ pattern. Contains shapes (shape_of pattern)) →
      list_any (λ shape. under name steps right shape rule) shapes ≡ matches_under name steps right rule
  found_matches there =
      same_test _ _ under_matches (under_there (pattern_in rule.kind) refl there)

pub all_found : (name : List ℕ) (steps : List Step) (right : Right) (shapes : List (List (List Bool))) (rules : List Rule) → HasShapes shapes rules →
    position_from (λ (rule : Rule). list_any (λ shape. under name steps right shape rule) shapes) 0 rules ≡ position_from (matches_under name steps right) 0 rules
all_found name steps right shapes rules there =
    same_first (λ (rule : Rule). list_any (λ shape. under name steps right shape rule) shapes) (matches_under name steps right) 0 rules
    (All-weaker (λ (rule : Rule). IfSome (pattern_in rule.kind) (λ pattern. Contains shapes (shape_of pattern))) _
    (λ rule its. found_matches name steps right shapes rule its) rules there)
