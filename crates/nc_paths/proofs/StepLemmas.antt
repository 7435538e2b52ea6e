-- Predicates and steps read one after another.
use Rattle.std.proofs.Common.{◌≡◌, ◌<◌, ◌≤◌, ◌+◌, ◌-◌, ℕ, zero, suc, true, false, eqb, List, [], ◌∷◌, ◌++◌, Option, Some, None, length, option_map, refl, sym, ap, ◌∙◌, append-nil, append_assoc, arith}
use Rattle.nc_names.specs.Signs.{opening_bracket, slash}
use Rattle.nc_schema.specs.PathWords.{begins_with, predicate, predicates, sign, steps_within, written_name, written_step, written_steps}
use Rattle.nc_schema.specs.declared.written.WrittenName.{WrittenName}
use Rattle.nc_schema.specs.declared.written.WrittenPredicate.{WrittenPredicate}
use Rattle.nc_schema.specs.declared.written.WrittenStep.{WrittenStep}
use Rattle.nc_paths.specs.inner.Prepend.{prepend, before}

one_more : (n i : ℕ) → i < n → n - i ≡ suc (n - (i + 1))
one_more n i less = omega (arith, less)

-- ---- predicates
prepend_more : (found : List WrittenPredicate) (one : WrittenPredicate) (rest : Option (List WrittenPredicate × List ℕ)) → prepend found (option_map (λ more. (one ∷ more.0, more.1)) rest) ≡ prepend (found ++ one ∷ []) rest
prepend_more found one None = refl
prepend_more found one (Some more) = λ i. Some (sym (append_assoc found (one ∷ []) more.0) i, more.1)

predicates_stop : (most : ℕ) (text : List ℕ) → begins_with opening_bracket text ≡ false → predicates most text ≡ Some ([], text)
predicates_stop zero text e = refl
predicates_stop (suc most) text e = rw e refl

predicates_go : (most : ℕ) (text after : List ℕ) (one : WrittenPredicate) → begins_with opening_bracket text ≡ true → predicate text ≡ Some (one, after) → predicates (suc most) text ≡ option_map (λ more. (one ∷ more.0, more.1)) (predicates most after)
predicates_go most text after one e f = rw (e, f) refl

predicates_fail : (most : ℕ) (text : List ℕ) → begins_with opening_bracket text ≡ true → predicate text ≡ None → predicates (suc most) text ≡ None
predicates_fail most text e f = rw (e, f) refl

pub all_predicates : (whole : Option (List WrittenPredicate × List ℕ)) (n i : ℕ) (found : List WrittenPredicate) (rest : List ℕ) → whole ≡ prepend found (predicates (n - i) rest) → begins_with opening_bracket rest ≡ false → whole ≡ Some (found, rest)
all_predicates whole n i found rest e stop =
    e ∙ ap (prepend found) (predicates_stop (n - i) rest stop) ∙ (λ k. Some (append-nil found k, rest))

pub most_predicates : (whole : Option (List WrittenPredicate × List ℕ)) (n i : ℕ) (found : List WrittenPredicate) (rest : List ℕ) → whole ≡ prepend found (predicates (n - i) rest) → n ≤ i → whole ≡ Some (found, rest)
most_predicates whole n i found rest e past =
    let none : n - i ≡ 0 = omega (arith, past) in
    e ∙ ap (λ k. prepend found (predicates k rest)) none ∙ (λ k. Some (append-nil found k, rest))

pub next_predicate : (whole : Option (List WrittenPredicate × List ℕ)) (n i : ℕ) (found : List WrittenPredicate) (rest after : List ℕ) (one : WrittenPredicate) → whole ≡ prepend found (predicates (n - i) rest) → i < n → begins_with opening_bracket rest ≡ true → predicate rest ≡ Some (one, after) → whole ≡ prepend (found ++ one ∷ []) (predicates (n - (i + 1)) after)
next_predicate whole n i found rest after one e less begins is =
    e ∙ ap (λ k. prepend found (predicates k rest)) (one_more n i less)
    ∙ ap (prepend found) (predicates_go (n - (i + 1)) rest after one begins is) ∙ prepend_more found one (predicates (n - (i + 1)) after)

pub bad_predicate : (whole : Option (List WrittenPredicate × List ℕ)) (n i : ℕ) (found : List WrittenPredicate) (rest : List ℕ) → whole ≡ prepend found (predicates (n - i) rest) → i < n → begins_with opening_bracket rest ≡ true → predicate rest ≡ None → whole ≡ None
bad_predicate whole n i found rest e less begins is =
    e ∙ ap (λ k. prepend found (predicates k rest)) (one_more n i less) ∙ ap (prepend found) (predicates_fail (n - (i + 1)) rest begins is)

-- ---- a step
pub step_no_slash : (text : List ℕ) → sign slash text ≡ None → written_step text ≡ None
unfolding written_step
step_no_slash text e = rw e refl

pub step_no_name : (text a : List ℕ) → sign slash text ≡ Some a → written_name a ≡ None → written_step text ≡ None
unfolding written_step
step_no_name text a e f = rw (e, f) refl

pub step_bad : (text a b : List ℕ) (name : WrittenName) → sign slash text ≡ Some a → written_name a ≡ Some (name, b) → predicates (length b) b ≡ None → written_step text ≡ None
unfolding written_step
step_bad text a b name e f g = rw (e, f, g) refl

pub step_whole : (text a b rest : List ℕ) (name : WrittenName) (found : List WrittenPredicate) → sign slash text ≡ Some a → written_name a ≡ Some (name, b) → predicates (length b) b ≡ Some (found, rest) → written_step text ≡ Some (record { name = name; predicates = found }, rest)
unfolding written_step
step_whole text a b rest name found e f g = rw (e, f, g) refl

-- ---- steps
steps_more : (found : List WrittenStep) (one : WrittenStep) (rest : Option (List WrittenStep)) → before found (option_map (λ more. one ∷ more) rest) ≡ before (found ++ one ∷ []) rest
steps_more found one None = refl
steps_more found one (Some more) = λ i. Some (sym (append_assoc found (one ∷ []) more) i)

steps_go : (most : ℕ) (c : ℕ) (cs after : List ℕ) (one : WrittenStep) → written_step (c ∷ cs) ≡ Some (one, after) → steps_within (suc most) (c ∷ cs) ≡ option_map (λ more. one ∷ more) (steps_within most after)
steps_go most c cs after one e = rw e refl

steps_fail : (most : ℕ) (c : ℕ) (cs : List ℕ) → written_step (c ∷ cs) ≡ None → steps_within (suc most) (c ∷ cs) ≡ None
steps_fail most c cs e = rw e refl

pub next_step : (whole : Option (List WrittenStep)) (n i : ℕ) (found : List WrittenStep) (rest after : List ℕ) (one : WrittenStep) → whole ≡ before found (steps_within (n - i) rest) → i < n → written_step rest ≡ Some (one, after) → 0 < length rest → whole ≡ before (found ++ one ∷ []) (steps_within (n - (i + 1)) after)
next_step whole n i found [] after one e less is some = absurd (omega (arith, some))
next_step whole n i found (c ∷ cs) after one e less is some =
    e ∙ ap (λ k. before found (steps_within k (c ∷ cs))) (one_more n i less)
    ∙ ap (before found) (steps_go (n - (i + 1)) c cs after one is) ∙ steps_more found one (steps_within (n - (i + 1)) after)

pub bad_step : (whole : Option (List WrittenStep)) (n i : ℕ) (found : List WrittenStep) (rest : List ℕ) → whole ≡ before found (steps_within (n - i) rest) → i < n → written_step rest ≡ None → 0 < length rest → whole ≡ None
bad_step whole n i found [] e less is some = absurd (omega (arith, some))
bad_step whole n i found (c ∷ cs) e less is some =
    e ∙ ap (λ k. before found (steps_within k (c ∷ cs))) (one_more n i less) ∙ ap (before found) (steps_fail (n - (i + 1)) c cs is)

steps_done : (most : ℕ) → steps_within most [] ≡ Some []
steps_done zero = refl
steps_done (suc most) = refl

pub all_steps : (whole : Option (List WrittenStep)) (n i : ℕ) (found : List WrittenStep) (rest : List ℕ) → whole ≡ before found (steps_within (n - i) rest) → length rest ≡ 0 → whole ≡ Some found
all_steps whole n i found [] e none = e ∙ ap (before found) (steps_done (n - i)) ∙ (λ k. Some (append-nil found k))
all_steps whole n i found (c ∷ cs) e none = absurd (omega (arith, none))

pub too_many_steps : (whole : Option (List WrittenStep)) (n i : ℕ) (found : List WrittenStep) (rest : List ℕ) → whole ≡ before found (steps_within (n - i) rest) → n ≤ i → 0 < length rest → whole ≡ None
too_many_steps whole n i found [] e past some = absurd (omega (arith, some))
too_many_steps whole n i found (c ∷ cs) e past some =
    let none : n - i ≡ 0 = omega (arith, past) in
    e ∙ ap (λ k. before found (steps_within k (c ∷ cs))) none

pub steps_are : (text : List ℕ) → 0 < length text → written_steps text ≡ steps_within (length text) text
steps_are [] some = absurd (omega (arith, some))
steps_are (c ∷ cs) some = refl

pub no_steps : (text : List ℕ) → length text ≡ 0 → written_steps text ≡ None
no_steps [] none = refl
no_steps (c ∷ cs) none = absurd (omega (arith, none))

pub some_length : (text : List ℕ) → eqb (length text) 0 ≡ false → 0 < length text
some_length [] e = cc
some_length (c ∷ cs) e = omega arith
