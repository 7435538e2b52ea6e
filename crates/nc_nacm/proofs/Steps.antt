-- Steps, keys, and what is found in a list of lists.
use Rattle.std.proofs.Common.{◌≡◌, ◌+◌, ◌-◌, ◌<◌, ◌≤◌, ◌&&◌, add-one, get_or, ℕ, zero, suc, Bool, true, false, cond, List, [], ◌∷◌, ◌++◌, length, take, drop, map, Option, Some, None, refl, sym, ap, ◌∙◌, arith}
use Rattle.std.proofs.lemmas.List.{at_drop_more, drop_all, drop-map, length-map}
use Rattle.std.specs.List.{find, flat_map, list_all}
use Rattle.nc_names.specs.declared.path.Step.{Step}
use Rattle.nc_schema.specs.Blocks.{above_last, above_from}
use Rattle.nc_model.specs.Sight.{beginnings}

-- ---- the steps but the last
take_from : (step : Step) (steps : List Step) → take (length steps) (step ∷ steps) ≡ above_from step steps
take_from step [] = refl
take_from step (next ∷ rest) = ap (λ n. take n (step ∷ next ∷ rest)) (one_more (length rest)) ∙ ap (λ more. step ∷ more) (take_from next rest)
  where
    one_more : (n : ℕ) → suc n ≡ suc n
    one_more n = refl

pub take_above : (steps : List Step) → take (length steps - 1) steps ≡ above_last steps
take_above [] = refl
take_above (step ∷ steps) = ap (λ n. take n (step ∷ steps)) less ∙ take_from step steps
  where
    less : length (step ∷ steps) - 1 ≡ length steps
    less = omega arith

-- ---- the first that is found
abbrev pub or_found : {X : Type 0} → Option X → Option X → Option X
or_found None other = other
or_found (Some x) other = Some x

pub find_append : {X : Type 0} (p : X → Bool) (xs ys : List X) → find p (xs ++ ys) ≡ or_found (find p xs) (find p ys)
find_append p [] ys = refl
find_append p (x ∷ xs) ys = by (p x) (find_append p xs ys)
  where
    by : (b : Bool) → find p (xs ++ ys) ≡ or_found (find p xs) (find p ys) →
        cond b (Some x) (find p (xs ++ ys)) ≡ or_found (cond b (Some x) (find p xs)) (find p ys)
    by true more = refl
    by false more = more

-- what is found from a list on: in it, or else in those after it
pub found_at : {L X : Type 0} (p : X → Bool) (f : L → List X) (xs : List L) (i : ℕ) (x : L) → i < length xs → x ≡ get_or xs i x →
    find p (flat_map f (drop i xs)) ≡ or_found (find p (f x)) (find p (flat_map f (drop (i + 1) xs)))
found_at p f xs i x within is =
    at_drop_more (λ rest. find p (flat_map f rest)) xs i x within
    ∙ ap (λ y. find p (f y ++ flat_map f (drop (i + 1) xs))) (sym is)
    ∙ find_append p (f x) (flat_map f (drop (i + 1) xs))

pub goes_on : {L X : Type 0} (p : X → Bool) (f : L → List X) (xs : List L) (i : ℕ) (x : L) (all : Option X) → i < length xs → x ≡ get_or xs i x →
    find p (f x) ≡ None → find p (flat_map f (drop i xs)) ≡ all → find p (flat_map f (drop (i + 1) xs)) ≡ all
goes_on p f xs i x all within is none so =
    sym (found_at p f xs i x within is ∙ ap (λ found. or_found found (find p (flat_map f (drop (i + 1) xs)))) none) ∙ so

pub stops : {L X : Type 0} (p : X → Bool) (f : L → List X) (xs : List L) (i : ℕ) (x : L) (all : Option X) (one : X) → i < length xs → x ≡ get_or xs i x →
    find p (f x) ≡ Some one → find p (flat_map f (drop i xs)) ≡ all → Some one ≡ all
stops p f xs i x all one within is some so =
    sym (found_at p f xs i x within is ∙ ap (λ found. or_found found (find p (flat_map f (drop (i + 1) xs)))) some) ∙ so

-- ---- beginnings
pub beginning_suc : (steps : List Step) (i : ℕ) → i < length steps → drop i (beginnings steps) ≡ take (suc i) steps ∷ drop (suc i) (beginnings steps)
beginning_suc [] i within = absurd (omega (arith, within))
beginning_suc (step ∷ rest) zero within = refl
beginning_suc (step ∷ rest) (suc i) within =
    drop-map (λ above. step ∷ above) i (beginnings rest)
    ∙ ap (map (λ above. step ∷ above)) (beginning_suc rest i (omega (arith, within)))
    ∙ ap (λ more. (step ∷ take (suc i) rest) ∷ more) (sym (drop-map (λ above. step ∷ above) (suc i) (beginnings rest)))

pub beginning_at : (steps : List Step) (i : ℕ) → i < length steps → drop i (beginnings steps) ≡ take (i + 1) steps ∷ drop (i + 1) (beginnings steps)
beginning_at steps i within = rw add-one (beginning_suc steps i within)

pub length_beginnings : (steps : List Step) → length (beginnings steps) ≡ length steps
length_beginnings [] = refl
length_beginnings (step ∷ rest) = ap suc (length-map (beginnings rest) (λ above. step ∷ above) ∙ length_beginnings rest)

pub past_beginnings : (steps : List Step) (i : ℕ) → length steps ≤ i → drop i (beginnings steps) ≡ []
past_beginnings steps i past = drop_all i (beginnings steps) (omega (arith, length_beginnings steps, past))

-- a walk along them, as far as all pass
pub all_at : (p : List Step → Bool) (steps : List Step) (i : ℕ) (all : Bool) → i < length steps → p (take (i + 1) steps) ≡ true →
    list_all p (drop i (beginnings steps)) ≡ all → list_all p (drop (i + 1) (beginnings steps)) ≡ all
all_at p steps i all within passes so =
    sym (ap (list_all p) (beginning_at steps i within) ∙ ap (λ b. b && list_all p (drop (i + 1) (beginnings steps))) passes) ∙ so

pub all_stops : (p : List Step → Bool) (steps : List Step) (i : ℕ) (all : Bool) → i < length steps → p (take (i + 1) steps) ≡ false →
    list_all p (drop i (beginnings steps)) ≡ all → false ≡ all
all_stops p steps i all within fails so =
    sym (ap (list_all p) (beginning_at steps i within) ∙ ap (λ b. b && list_all p (drop (i + 1) (beginnings steps))) fails) ∙ so
