-- The first row at some steps, where it is looked for in a part of the rows.
use Rattle.std.proofs.Common.{◌≡◌, ◌++◌, ℕ, ◌<◌, ◌≤◌, Bool, true, false, List, [], ◌∷◌, length, Option, Some, None, refl, sym, ap, ◌∙◌, arith}
use Rattle.std.specs.Option.{option_or}
use Rattle.std.proofs.lemmas.List.Folds.{find-append}
use Rattle.std.proofs.lemmas.List.Elements.{All-head, All-tail}
use Rattle.nc_names.proofs.SameLemmas.{path_decide}
use Rattle.nc_names.specs.Same.{is_at_or_below, is_same_path}
use Rattle.nc_names.specs.declared.path.Row.{Row}
use Rattle.nc_names.specs.declared.path.Step.{Step}
use Rattle.nc_schema.specs.Blocks.{row_at}
use Rattle.nc_branches.specs.Branches.{Branches}
use Rattle.nc_branches.specs.inner.Shoots.{rows_of}
use Rattle.nc_branches.specs.inner.Forks.{IsForkOf}
use Rattle.nc_branches.specs.declared.tree.Fork.{Fork}
use Rattle.nc_branches.specs.inner.Depths.{AreLong}
use Rattle.nc_branches.specs.inner.Places.{AreApart}
use Rattle.nc_branches.proofs.Places.{is_below}
use Rattle.std.proofs.lemmas.List.{append-nil}

-- what is not at or below some steps is not at them
pub not_same : (steps : List Step) (row : Row) → is_at_or_below steps row.path ≡ false → is_same_path row.path.steps steps ≡ false
not_same steps row apart = by (is_same_path row.path.steps steps) refl
  where
    by : (b : Bool) → is_same_path row.path.steps steps ≡ b → b ≡ false
    by false e = refl
    by true e = let within : is_at_or_below steps row.path ≡ true = is_below steps [] row ((path_decide row.path.steps steps).0 e ∙ sym (append-nil steps)) in cc

pub found_apart : (steps : List Step) (rows : List Row) → AreApart steps rows → row_at rows steps ≡ None
unfolding AreApart
found_apart steps [] apart = refl
found_apart steps (row ∷ rows) apart =
    let P : Row → Type 0 = λ row. is_at_or_below steps row.path ≡ false in
    rw (not_same steps row (All-head P row rows apart)) (found_apart steps rows (All-tail P row rows apart))

-- a path is not one of fewer steps
not_longer : (path steps : List Step) → length steps < length path → (b : Bool) → is_same_path path steps ≡ b → b ≡ false
not_longer path steps longer false e = refl
not_longer path steps longer true e = absurd (omega (arith, longer, ap length ((path_decide path steps).0 e)))

-- rows whose paths all have more steps have none at some
pub found_long : (steps : List Step) (least : ℕ) (rows : List Row) → AreLong least rows → length steps < least → row_at rows steps ≡ None
unfolding AreLong
found_long steps least [] long few = refl
found_long steps least (row ∷ rows) long few =
    let P : Row → Type 0 = λ row. least ≤ length row.path.steps in
    let own : least ≤ length row.path.steps = All-head P row rows long in
    rw (not_longer row.path.steps steps (omega (arith, own, few)) (is_same_path row.path.steps steps) refl)
    (found_long steps least rows (All-tail P row rows long) few)

found_among : (steps : List Step) (left here right : List Row) → row_at (left ++ here ++ right) steps ≡ option_or (option_or (row_at left steps) (row_at here steps)) (row_at right steps)
found_among steps left here right =
    find-append (λ row. is_same_path row.path.steps steps) (left ++ here) right
    ∙ ap (λ o. option_or o (row_at right steps)) (find-append (λ row. is_same_path row.path.steps steps) left here)

or_none : (o : Option Row) → option_or o None ≡ o
or_none None = refl
or_none (Some row) = refl

pub found_anywhere : (steps : List Step) (branches : Branches) (fork : Fork) → IsForkOf branches fork →
    row_at branches.rows steps ≡ option_or (option_or (row_at fork.left.rows steps) (row_at (rows_of fork.twig) steps)) (row_at fork.right.rows steps)
found_anywhere steps branches fork is = ap (λ rows. row_at rows steps) is.rows ∙ found_among steps fork.left.rows (rows_of fork.twig) fork.right.rows

pub found_left : (steps : List Step) (branches : Branches) (fork : Fork) → IsForkOf branches fork → AreApart steps (rows_of fork.twig) → AreApart steps fork.right.rows → row_at branches.rows steps ≡ row_at fork.left.rows steps
found_left steps branches fork is here right =
    found_anywhere steps branches fork is
    ∙ ap (λ o. option_or (option_or (row_at fork.left.rows steps) (row_at (rows_of fork.twig) steps)) o) (found_apart steps fork.right.rows right)
    ∙ or_none (option_or (row_at fork.left.rows steps) (row_at (rows_of fork.twig) steps))
    ∙ ap (λ o. option_or (row_at fork.left.rows steps) o) (found_apart steps (rows_of fork.twig) here)
    ∙ or_none (row_at fork.left.rows steps)

pub found_here : (steps : List Step) (branches : Branches) (fork : Fork) → IsForkOf branches fork → AreApart steps fork.left.rows → AreApart steps fork.right.rows → row_at branches.rows steps ≡ row_at (rows_of fork.twig) steps
found_here steps branches fork is left right =
    found_anywhere steps branches fork is
    ∙ ap (λ o. option_or (option_or (row_at fork.left.rows steps) (row_at (rows_of fork.twig) steps)) o) (found_apart steps fork.right.rows right)
    ∙ or_none (option_or (row_at fork.left.rows steps) (row_at (rows_of fork.twig) steps))
    ∙ ap (λ o. option_or o (row_at (rows_of fork.twig) steps)) (found_apart steps fork.left.rows left)

pub found_right : (steps : List Step) (branches : Branches) (fork : Fork) → IsForkOf branches fork → AreApart steps fork.left.rows → AreApart steps (rows_of fork.twig) → row_at branches.rows steps ≡ row_at fork.right.rows steps
found_right steps branches fork is left here =
    found_anywhere steps branches fork is
    ∙ ap (λ o. option_or (option_or o (row_at (rows_of fork.twig) steps)) (row_at fork.right.rows steps)) (found_apart steps fork.left.rows left)
    ∙ ap (λ o. option_or o (row_at fork.right.rows steps)) (found_apart steps (rows_of fork.twig) here)

pub found_first : (steps : List Step) (branches : Branches) (fork : Fork) (row : Row) → IsForkOf branches fork → row_at fork.left.rows steps ≡ Some row → row_at branches.rows steps ≡ Some row
found_first steps branches fork row is left =
    found_anywhere steps branches fork is ∙ ap (λ o. option_or (option_or o (row_at (rows_of fork.twig) steps)) (row_at fork.right.rows steps)) left

pub found_second : (steps : List Step) (branches : Branches) (fork : Fork) (row : Row) → IsForkOf branches fork → row_at fork.left.rows steps ≡ None → row_at (rows_of fork.twig) steps ≡ Some row → row_at branches.rows steps ≡ Some row
found_second steps branches fork row is left here =
    found_anywhere steps branches fork is ∙ ap (λ o. option_or (option_or o (row_at (rows_of fork.twig) steps)) (row_at fork.right.rows steps)) left
    ∙ ap (λ o. option_or o (row_at fork.right.rows steps)) here

pub found_last : (steps : List Step) (branches : Branches) (fork : Fork) → IsForkOf branches fork → row_at fork.left.rows steps ≡ None → row_at (rows_of fork.twig) steps ≡ None → row_at branches.rows steps ≡ row_at fork.right.rows steps
found_last steps branches fork is left here =
    found_anywhere steps branches fork is ∙ ap (λ o. option_or (option_or o (row_at (rows_of fork.twig) steps)) (row_at fork.right.rows steps)) left
    ∙ ap (λ o. option_or o (row_at fork.right.rows steps)) here
