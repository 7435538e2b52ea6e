-- The first violation among those of the rows.
use Rattle.std.proofs.Common.{◌≡◌, ◌+◌, ◌++◌, ◌<◌, ℕ, List, [], ◌∷◌, Option, Some, length, drop, get_or, sym, ap, ◌∙◌}
use Rattle.std.specs.Prelude.{slice_get}
use Rattle.std.specs.List.{flat_map}
use Rattle.std.proofs.lemmas.List.{drop_more}

pub first_found : {X Y : Type 0} (f : X → List Y) (xs : List X) (at : ℕ) (x : X) (y : Y) → at < length xs → x ≡ get_or xs at x → y ∷ [] ≡ f x →
    Some y ≡ slice_get (flat_map f (drop at xs)) 0
first_found f xs at x y within is found =
    ap (λ ys. slice_get (ys ++ flat_map f (drop (at + 1) xs)) 0) (found ∙ ap f is) ∙ ap (λ left. slice_get (flat_map f left) 0) (sym (drop_more xs at x within))

-- a row that breaks nothing is passed over
pub passed_over : {X Y : Type 0} (f : X → List Y) (xs : List X) (at : ℕ) (x : X) (whole : Option Y) → at < length xs → x ≡ get_or xs at x → f x ≡ [] →
    slice_get (flat_map f (drop at xs)) 0 ≡ whole → slice_get (flat_map f (drop (at + 1) xs)) 0 ≡ whole
passed_over f xs at x whole within is none known =
    ap (λ ys. slice_get (ys ++ flat_map f (drop (at + 1) xs)) 0) (sym none ∙ ap f is) ∙ ap (λ left. slice_get (flat_map f left) 0) (sym (drop_more xs at x within)) ∙ known
