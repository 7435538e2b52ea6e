-- No row has a shorter path.
use Rattle.std.proofs.Common.{◌++◌, ◌≤◌, ℕ, Bool, true, false, List, [], arith, length}
use Rattle.std.specs.List.{All}
use Rattle.std.proofs.lemmas.List.Elements.{All-append, All-cons, All-nil, All-weaker}
use Rattle.nc_names.specs.declared.path.Row.{Row}
use Rattle.nc_branches.specs.inner.Depths.{AreLong}
use Rattle.nc_branches.specs.inner.Shoots.{Shoot, own_rows, rows_of}

pub long_none : (least : ℕ) → AreLong least []
unfolding AreLong
long_none least = All-nil (λ row. least ≤ length row.path.steps)

pub long_parts : (least l h r : ℕ) (left here right : List Row) → AreLong l left → AreLong h here → AreLong r right → least ≤ l → least ≤ h → least ≤ r → AreLong least (left ++ here ++ right)
unfolding AreLong
long_parts least l h r left here right one two three under_l under_h under_r =
    let P : Row → Type 0 = λ row. least ≤ length row.path.steps in
    All-append P (left ++ here) right
    (All-append P left here (All-weaker (λ row. l ≤ length row.path.steps) P (λ row e. omega (arith, e, under_l)) left one) (All-weaker (λ row. h ≤ length row.path.steps) P (λ row e. omega (arith, e, under_h)) here two))
    (All-weaker (λ row. r ≤ length row.path.steps) P (λ row e. omega (arith, e, under_r)) right three)

pub long_twig : (least below : ℕ) (twig : Shoot) → AreLong below twig.below.rows → least ≤ below → least ≤ length twig.row.path.steps → AreLong least (rows_of twig)
unfolding AreLong
long_twig least below twig all one two = All-append P (own_rows twig.stands twig.row) twig.below.rows (own twig.stands) (All-weaker (λ row. below ≤ length row.path.steps) P (λ row e. omega (arith, e, one)) twig.below.rows all)
  where
    P : Row → Type 0
    P row = least ≤ length row.path.steps

    own : (stands : Bool) → All P (own_rows stands twig.row)
    own true = All-cons P twig.row [] two (All-nil P)
    own false = All-nil P
