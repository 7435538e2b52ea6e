-- The first element of two lists together.
use Rattle.std.proofs.Common.{◌≡◌, ◌++◌, List, [], ◌∷◌, refl, Some, None}
use Rattle.std.specs.Prelude.{slice_get}

pub first_of_left : {X : Type 0} (xs ys : List X) (x : X) → Some x ≡ slice_get xs 0 → Some x ≡ slice_get (xs ++ ys) 0
first_of_left [] ys x is = cc
first_of_left (y ∷ xs) ys x is = is

pub first_of_right : {X : Type 0} (xs ys : List X) → None ≡ slice_get xs 0 → slice_get ys 0 ≡ slice_get (xs ++ ys) 0
first_of_right [] ys is = refl
first_of_right (y ∷ xs) ys is = cc
