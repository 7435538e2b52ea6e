-- How many bytes parts of rows take in a record.
use Rattle.std.proofs.Common.{◌≡◌, ◌+◌, ◌++◌, ◌∙◌, ℕ, Bool, true, false, List, [], ◌∷◌, Option, Some, None, sym, ap, zero-add}
use Rattle.std.specs.Prelude.{IfSome, SomeIff}
use Rattle.std.proofs.lemmas.List.Sums.{sum-map, sum_by-append}
use Rattle.nc_names.specs.declared.path.Row.{Row}
use Rattle.nc_branches.specs.Sizes.{row_size, size_of}
use Rattle.nc_branches.specs.inner.Shoots.{Shoot, own_rows, rows_of}

size_both : (xs ys : List Row) → size_of (xs ++ ys) ≡ size_of xs + size_of ys
size_both xs ys =
    sum-map row_size (xs ++ ys) ∙ sum_by-append row_size xs ys ∙ (λ i. sym (sum-map row_size xs) i + sym (sum-map row_size ys) i)

-- the rows of three parts
pub three_sizes : (left here right : List Row) (bytes : ℕ) → bytes ≡ size_of left + size_of here + size_of right → bytes ≡ size_of (left ++ here ++ right)
three_sizes left here right bytes is =
    is ∙ ap (λ n. n + size_of right) (sym (size_both left here)) ∙ sym (size_both (left ++ here) right)

-- the rows of a node that stands
own_sum : (shoot : Shoot) → shoot.stands ≡ true → row_size shoot.row + size_of shoot.below.rows ≡ size_of (rows_of shoot)
own_sum shoot stands = by shoot.stands stands
  where
    by : (b : Bool) → b ≡ true → row_size shoot.row + size_of shoot.below.rows ≡ size_of (own_rows b shoot.row ++ shoot.below.rows)
    by true e = sym (size_both (shoot.row ∷ []) shoot.below.rows ∙ ap (λ n. n + size_of shoot.below.rows) (zero-add (row_size shoot.row)))
    by false e = absurd (cc e)

pub own_more : (shoot : Shoot) (own below : ℕ) (P : Type 0) (result : Option ℕ) → shoot.stands ≡ true → own ≡ row_size shoot.row → below ≡ size_of shoot.below.rows →
    SomeIff result P (own + below) → IfSome result (λ n. n ≡ size_of (rows_of shoot))
own_more shoot own below P None stands one rest sum = tt
own_more shoot own below P (Some n) stands one rest sum = sum.1 ∙ (λ i. one i + rest i) ∙ own_sum shoot stands

-- and of one that does not
pub none_own : (shoot : Shoot) (below : ℕ) → shoot.stands ≡ false → below ≡ size_of shoot.below.rows → below ≡ size_of (rows_of shoot)
none_own shoot below stands rest = by shoot.stands stands
  where
    by : (b : Bool) → b ≡ false → below ≡ size_of (own_rows b shoot.row ++ shoot.below.rows)
    by true e = absurd (cc e)
    by false e = rest
