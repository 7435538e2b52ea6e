-- Steps of patterns and paths, and keys, one after another.
use Rattle.std.proofs.Common.{◌≡◌, ◌<◌, ◌≤◌, ◌+◌, ℕ, zero, suc, List, [], ◌∷◌, ◌++◌, Option, Some, None, length, drop, get_or, option_map, option_and_then, refl, sym, ap, ◌∙◌, append-nil, append_assoc, drop-cons, arith}
use Rattle.nc_names.specs.declared.name.Bound.{Bound}
use Rattle.nc_names.specs.declared.path.Step.{Step}
use Rattle.nc_schema.specs.InstancePaths.{all_given, instance_step, instance_steps, pattern_step, pattern_steps}
use Rattle.nc_schema.specs.Tables.{Tables}
use Rattle.nc_schema.specs.declared.pattern.PatternStep.{PatternStep}
use Rattle.nc_schema.specs.declared.written.WrittenStep.{WrittenStep}
use Rattle.nc_paths.specs.inner.Prepend.{before}

-- what comes at a place of a list
pub from_there : {X : Type 0} (xs : List X) (i : ℕ) (x : X) → i < length xs → x ≡ get_or xs i x → drop i xs ≡ x ∷ drop (i + 1) xs
from_there xs i x less e =
    let next : suc i ≡ i + 1 = omega arith in
    drop-cons xs i x less ∙ ap (λ y. y ∷ drop (suc i) xs) (sym e) ∙ ap (λ k. x ∷ drop k xs) next

pub before_more : {X : Type 0} (found : List X) (one : X) (rest : Option (List X)) → before found (option_and_then (λ more. Some (one ∷ more)) rest) ≡ before (found ++ one ∷ []) rest
before_more found one None = refl
before_more found one (Some more) = λ i. Some (sym (append_assoc found (one ∷ []) more) i)

pub before_mapped : {X : Type 0} (found : List X) (one : X) (rest : Option (List X)) → before found (option_map (λ more. one ∷ more) rest) ≡ before (found ++ one ∷ []) rest
before_mapped found one None = refl
before_mapped found one (Some more) = λ i. Some (sym (append_assoc found (one ∷ []) more) i)

nothing_left : {X : Type 0} (xs : List X) (i : ℕ) → length xs ≤ i → drop i xs ≡ []
nothing_left [] zero past = refl
nothing_left [] (suc i) past = refl
nothing_left (x ∷ xs) zero past = absurd (omega (arith, past))
nothing_left (x ∷ xs) (suc i) past = nothing_left xs i (omega (arith, past))

-- ---- patterns
pattern_go : (tables : Tables) (bounds : List Bound) (above : Option ℕ) (one : WrittenStep) (rest : List WrittenStep) (step : PatternStep) → pattern_step tables bounds above one ≡ Some step → pattern_steps tables bounds above (one ∷ rest) ≡ option_and_then (λ more. Some (step ∷ more)) (pattern_steps tables bounds (Some step.node) rest)
pattern_go tables bounds above one rest step e = rw e refl

pattern_fail : (tables : Tables) (bounds : List Bound) (above : Option ℕ) (one : WrittenStep) (rest : List WrittenStep) → pattern_step tables bounds above one ≡ None → pattern_steps tables bounds above (one ∷ rest) ≡ None
pattern_fail tables bounds above one rest e = rw e refl

pub next_pattern : (whole : Option (List PatternStep)) (tables : Tables) (bounds : List Bound) (above : Option ℕ) (written : List WrittenStep) (i : ℕ) (one : WrittenStep) (steps : List PatternStep) (step : PatternStep) → whole ≡ before steps (pattern_steps tables bounds above (drop i written)) → i < length written → one ≡ get_or written i one → pattern_step tables bounds above one ≡ Some step → whole ≡ before (steps ++ step ∷ []) (pattern_steps tables bounds (Some step.node) (drop (i + 1) written))
next_pattern whole tables bounds above written i one steps step e less at is =
    e ∙ ap (λ xs. before steps (pattern_steps tables bounds above xs)) (from_there written i one less at)
    ∙ ap (before steps) (pattern_go tables bounds above one (drop (i + 1) written) step is) ∙ before_more steps step (pattern_steps tables bounds (Some step.node) (drop (i + 1) written))

pub bad_pattern : (whole : Option (List PatternStep)) (tables : Tables) (bounds : List Bound) (above : Option ℕ) (written : List WrittenStep) (i : ℕ) (one : WrittenStep) (steps : List PatternStep) → whole ≡ before steps (pattern_steps tables bounds above (drop i written)) → i < length written → one ≡ get_or written i one → pattern_step tables bounds above one ≡ None → whole ≡ None
bad_pattern whole tables bounds above written i one steps e less at is =
    e ∙ ap (λ xs. before steps (pattern_steps tables bounds above xs)) (from_there written i one less at)
    ∙ ap (before steps) (pattern_fail tables bounds above one (drop (i + 1) written) is)

pub whole_pattern : (whole : Option (List PatternStep)) (tables : Tables) (bounds : List Bound) (above : Option ℕ) (written : List WrittenStep) (i : ℕ) (steps : List PatternStep) → whole ≡ before steps (pattern_steps tables bounds above (drop i written)) → length written ≤ i → whole ≡ Some steps
whole_pattern whole tables bounds above written i steps e past =
    e ∙ ap (λ xs. before steps (pattern_steps tables bounds above xs)) (nothing_left written i past) ∙ (λ k. Some (append-nil steps k))

-- ---- keys
pub next_key : (whole : Option (List (List ℕ))) (keys : List (Option (List ℕ))) (i : ℕ) (given : List (List ℕ)) (key : List ℕ) → whole ≡ before given (all_given (drop i keys)) → i < length keys → Some key ≡ get_or keys i (Some key) → whole ≡ before (given ++ key ∷ []) (all_given (drop (i + 1) keys))
next_key whole keys i given key e less at =
    e ∙ ap (λ xs. before given (all_given xs)) (from_there keys i (Some key) less at) ∙ before_mapped given key (all_given (drop (i + 1) keys))

pub no_key : (whole : Option (List (List ℕ))) (keys : List (Option (List ℕ))) (i : ℕ) (given : List (List ℕ)) → whole ≡ before given (all_given (drop i keys)) → i < length keys → None ≡ get_or keys i None → whole ≡ None
no_key whole keys i given e less at = e ∙ ap (λ xs. before given (all_given xs)) (from_there keys i None less at)

pub every_key : (whole : Option (List (List ℕ))) (keys : List (Option (List ℕ))) (i : ℕ) (given : List (List ℕ)) → whole ≡ before given (all_given (drop i keys)) → length keys ≤ i → whole ≡ Some given
every_key whole keys i given e past =
    e ∙ ap (λ xs. before given (all_given xs)) (nothing_left keys i past) ∙ (λ k. Some (append-nil given k))

-- ---- paths
instance_go : (one : PatternStep) (rest : List PatternStep) (step : Step) → instance_step one ≡ Some step → instance_steps (one ∷ rest) ≡ option_and_then (λ more. Some (step ∷ more)) (instance_steps rest)
instance_go one rest step e = rw e refl

instance_fail : (one : PatternStep) (rest : List PatternStep) → instance_step one ≡ None → instance_steps (one ∷ rest) ≡ None
instance_fail one rest e = rw e refl

pub next_instance : (whole : Option (List Step)) (pattern : List PatternStep) (i : ℕ) (one : PatternStep) (steps : List Step) (step : Step) → whole ≡ before steps (instance_steps (drop i pattern)) → i < length pattern → one ≡ get_or pattern i one → instance_step one ≡ Some step → whole ≡ before (steps ++ step ∷ []) (instance_steps (drop (i + 1) pattern))
next_instance whole pattern i one steps step e less at is =
    e ∙ ap (λ xs. before steps (instance_steps xs)) (from_there pattern i one less at)
    ∙ ap (before steps) (instance_go one (drop (i + 1) pattern) step is) ∙ before_more steps step (instance_steps (drop (i + 1) pattern))

pub bad_instance : (whole : Option (List Step)) (pattern : List PatternStep) (i : ℕ) (one : PatternStep) (steps : List Step) → whole ≡ before steps (instance_steps (drop i pattern)) → i < length pattern → one ≡ get_or pattern i one → instance_step one ≡ None → whole ≡ None
bad_instance whole pattern i one steps e less at is =
    e ∙ ap (λ xs. before steps (instance_steps xs)) (from_there pattern i one less at) ∙ ap (before steps) (instance_fail one (drop (i + 1) pattern) is)

pub whole_instance : (whole : Option (List Step)) (pattern : List PatternStep) (i : ℕ) (steps : List Step) → whole ≡ before steps (instance_steps (drop i pattern)) → length pattern ≤ i → whole ≡ Some steps
whole_instance whole pattern i steps e past =
    e ∙ ap (λ xs. before steps (instance_steps xs)) (nothing_left pattern i past) ∙ (λ k. Some (append-nil steps k))

-- ---- one step
