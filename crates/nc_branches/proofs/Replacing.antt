-- The first row at a path, replaced in a part of the rows.
use Rattle.std.proofs.Common.{◌≡◌, ◌++◌, Bool, true, false, cond, List, [], ◌∷◌, Option, Some, None, refl, sym, ap, ◌∙◌}
use Rattle.std.specs.Prelude.{is_some}
use Rattle.std.specs.List.{All}
use Rattle.std.specs.Option.{option_or}
use Rattle.std.proofs.lemmas.List.Elements.{All-cons, All-head, All-tail}
use Rattle.nc_names.proofs.SameLemmas.{path_decide}
use Rattle.nc_names.specs.Same.{is_same_path}
use Rattle.nc_names.specs.declared.path.Row.{Row}
use Rattle.nc_names.specs.declared.path.Step.{Step}
use Rattle.nc_schema.specs.Blocks.{row_at}
use Rattle.nc_branches.specs.Branches.{Branches, replaced}
use Rattle.nc_branches.specs.inner.Shoots.{Shoot, own_rows, rows_of}
use Rattle.nc_branches.specs.inner.Forks.{IsForkOf}
use Rattle.nc_branches.specs.declared.tree.Fork.{Fork}
use Rattle.nc_branches.specs.inner.Order.{AreUnder, IsUnder}
use Rattle.nc_branches.specs.inner.Places.{AreApart}
use Rattle.nc_branches.proofs.Found.{found_apart}

-- where there is none, nothing changes
none_same : (rows : List Row) (row : Row) → row_at rows row.path.steps ≡ None → replaced rows row ≡ rows
none_same [] row none = refl
none_same (x ∷ rows) row none = by (is_same_path x.path.steps row.path.steps) none (none_same rows row)
  where
    by : (b : Bool) → cond b (Some x) (row_at rows row.path.steps) ≡ None → (row_at rows row.path.steps ≡ None → replaced rows row ≡ rows) → cond b (row ∷ rows) (x ∷ replaced rows row) ≡ x ∷ rows
    by true e same = cc
    by false e same = ap (λ xs. x ∷ xs) (same e)

-- the first of two parts has it
some_first : (xs ys : List Row) (row : Row) → is_some (row_at xs row.path.steps) ≡ true → replaced (xs ++ ys) row ≡ replaced xs row ++ ys
some_first [] ys row some = cc
some_first (x ∷ xs) ys row some = by (is_same_path x.path.steps row.path.steps) some (some_first xs ys row)
  where
    by : (b : Bool) → is_some (cond b (Some x) (row_at xs row.path.steps)) ≡ true → (is_some (row_at xs row.path.steps) ≡ true → replaced (xs ++ ys) row ≡ replaced xs row ++ ys) → cond b (row ∷ xs ++ ys) (x ∷ replaced (xs ++ ys) row) ≡ cond b (row ∷ xs) (x ∷ replaced xs row) ++ ys
    by true e same = refl
    by false e same = ap (λ zs. x ∷ zs) (same e)

-- or it has none
pub none_first : (xs ys : List Row) (row : Row) → row_at xs row.path.steps ≡ None → replaced (xs ++ ys) row ≡ xs ++ replaced ys row
none_first [] ys row none = refl
none_first (x ∷ xs) ys row none = by (is_same_path x.path.steps row.path.steps) none (none_first xs ys row)
  where
    by : (b : Bool) → cond b (Some x) (row_at xs row.path.steps) ≡ None → (row_at xs row.path.steps ≡ None → replaced (xs ++ ys) row ≡ xs ++ replaced ys row) → cond b (row ∷ (xs ++ ys)) (x ∷ replaced (xs ++ ys) row) ≡ x ∷ (xs ++ replaced ys row)
    by true e same = cc
    by false e same = ap (λ zs. x ∷ zs) (same e)

pub none_second : (xs ys : List Row) (row : Row) → row_at ys row.path.steps ≡ None → replaced (xs ++ ys) row ≡ replaced xs row ++ ys
none_second [] ys row none = none_same ys row none
none_second (x ∷ xs) ys row none = by (is_same_path x.path.steps row.path.steps) (none_second xs ys row none)
  where
    by : (b : Bool) → replaced (xs ++ ys) row ≡ replaced xs row ++ ys → cond b (row ∷ (xs ++ ys)) (x ∷ replaced (xs ++ ys) row) ≡ cond b (row ∷ xs) (x ∷ replaced xs row) ++ ys
    by true same = refl
    by false same = ap (λ zs. x ∷ zs) same

pub apart_same : (rows : List Row) (row : Row) → AreApart row.path.steps rows → rows ≡ replaced rows row
apart_same rows row apart = sym (none_same rows row (found_apart row.path.steps rows apart))

pub own_same : (twig : Shoot) (row : Row) → twig.stands ≡ true → true ≡ is_same_path twig.row.path.steps row.path.steps → row ∷ twig.below.rows ≡ replaced (rows_of twig) row
own_same twig row stands same =
    sym (ap (λ b. replaced (own_rows b twig.row ++ twig.below.rows) row) stands ∙ ap (λ b. cond b (row ∷ twig.below.rows) (twig.row ∷ replaced twig.below.rows row)) (sym same))

pub bare_inner : (twig : Shoot) (row : Row) → twig.stands ≡ false → own_rows twig.stands twig.row ++ replaced twig.below.rows row ≡ replaced (rows_of twig) row
bare_inner twig row bare = ap (λ b. own_rows b twig.row ++ replaced twig.below.rows row) bare ∙ sym (ap (λ b. replaced (own_rows b twig.row ++ twig.below.rows) row) bare)

pub other_inner : (twig : Shoot) (row : Row) → false ≡ is_same_path twig.row.path.steps row.path.steps → own_rows twig.stands twig.row ++ replaced twig.below.rows row ≡ replaced (rows_of twig) row
other_inner twig row other = by twig.stands
  where
    by : (stands : Bool) → own_rows stands twig.row ++ replaced twig.below.rows row ≡ replaced (own_rows stands twig.row ++ twig.below.rows) row
    by true = sym (ap (λ b. cond b (row ∷ twig.below.rows) (twig.row ∷ replaced twig.below.rows row)) (sym other))
    by false = refl

pub replaced_under : (path : List Step) (rows : List Row) (row : Row) → AreUnder path rows → AreUnder path (replaced rows row)
unfolding AreUnder
replaced_under path [] row all = all
replaced_under path (x ∷ rows) row all = by (is_same_path x.path.steps row.path.steps) refl (replaced_under path rows row (All-tail (IsUnder path) x rows all))
  where
    by : (b : Bool) → is_same_path x.path.steps row.path.steps ≡ b → All (IsUnder path) (replaced rows row) → All (IsUnder path) (cond b (row ∷ rows) (x ∷ replaced rows row))
    by true e rest =
        let first : IsUnder path x = All-head (IsUnder path) x rows all in
        let same : x.path.steps ≡ row.path.steps = (path_decide x.path.steps row.path.steps).0 e in
        All-cons (IsUnder path) row rows (first.0, sym same ∙ first.1) (All-tail (IsUnder path) x rows all)
    by false e rest = All-cons (IsUnder path) x (replaced rows row) (All-head (IsUnder path) x rows all) rest

pub in_left : (branches : Branches) (fork : Fork) (row : Row) → IsForkOf branches fork → AreApart row.path.steps (rows_of fork.twig) → AreApart row.path.steps fork.right.rows → replaced fork.left.rows row ++ rows_of fork.twig ++ fork.right.rows ≡ replaced branches.rows row
in_left branches fork row is here right =
    sym (ap (λ rows. replaced rows row) is.rows ∙ none_second (fork.left.rows ++ rows_of fork.twig) fork.right.rows row (found_apart row.path.steps fork.right.rows right)
    ∙ ap (λ xs. xs ++ fork.right.rows) (none_second fork.left.rows (rows_of fork.twig) row (found_apart row.path.steps (rows_of fork.twig) here)))

pub in_here : (branches : Branches) (fork : Fork) (row : Row) → IsForkOf branches fork → AreApart row.path.steps fork.left.rows → AreApart row.path.steps fork.right.rows → fork.left.rows ++ replaced (rows_of fork.twig) row ++ fork.right.rows ≡ replaced branches.rows row
in_here branches fork row is left right =
    sym (ap (λ rows. replaced rows row) is.rows ∙ none_second (fork.left.rows ++ rows_of fork.twig) fork.right.rows row (found_apart row.path.steps fork.right.rows right)
    ∙ ap (λ xs. xs ++ fork.right.rows) (none_first fork.left.rows (rows_of fork.twig) row (found_apart row.path.steps fork.left.rows left)))

either_none : (a b : Option Row) → a ≡ None → b ≡ None → option_or a b ≡ None
either_none a b first second = ap (λ o. option_or o b) first ∙ second

pub first_right : (branches : Branches) (fork : Fork) (row : Row) → IsForkOf branches fork → row_at fork.left.rows row.path.steps ≡ None → row_at (rows_of fork.twig) row.path.steps ≡ None → fork.left.rows ++ rows_of fork.twig ++ replaced fork.right.rows row ≡ replaced branches.rows row
first_right branches fork row is left here =
    sym (ap (λ rows. replaced rows row) (is.rows ∙ Rattle.std.proofs.lemmas.List.append_assoc fork.left.rows (rows_of fork.twig) fork.right.rows)
    ∙ none_first fork.left.rows (rows_of fork.twig ++ fork.right.rows) row left ∙ ap (λ xs. fork.left.rows ++ xs) (none_first (rows_of fork.twig) fork.right.rows row here)
    ∙ sym (Rattle.std.proofs.lemmas.List.append_assoc fork.left.rows (rows_of fork.twig) (replaced fork.right.rows row)))

pub in_right : (branches : Branches) (fork : Fork) (row : Row) → IsForkOf branches fork → AreApart row.path.steps fork.left.rows → AreApart row.path.steps (rows_of fork.twig) → fork.left.rows ++ rows_of fork.twig ++ replaced fork.right.rows row ≡ replaced branches.rows row
in_right branches fork row is left here = first_right branches fork row is (found_apart row.path.steps fork.left.rows left) (found_apart row.path.steps (rows_of fork.twig) here)

pub first_left : (branches : Branches) (fork : Fork) (row : Row) → IsForkOf branches fork → true ≡ is_some (row_at fork.left.rows row.path.steps) → replaced fork.left.rows row ++ rows_of fork.twig ++ fork.right.rows ≡ replaced branches.rows row
first_left branches fork row is some =
    sym (ap (λ rows. replaced rows row) (is.rows ∙ Rattle.std.proofs.lemmas.List.append_assoc fork.left.rows (rows_of fork.twig) fork.right.rows)
    ∙ some_first fork.left.rows (rows_of fork.twig ++ fork.right.rows) row (sym some) ∙ sym (Rattle.std.proofs.lemmas.List.append_assoc (replaced fork.left.rows row) (rows_of fork.twig) fork.right.rows))

pub first_here : (branches : Branches) (fork : Fork) (row : Row) → IsForkOf branches fork → row_at fork.left.rows row.path.steps ≡ None → true ≡ is_some (row_at (rows_of fork.twig) row.path.steps) → fork.left.rows ++ replaced (rows_of fork.twig) row ++ fork.right.rows ≡ replaced branches.rows row
first_here branches fork row is left some =
    sym (ap (λ rows. replaced rows row) (is.rows ∙ Rattle.std.proofs.lemmas.List.append_assoc fork.left.rows (rows_of fork.twig) fork.right.rows)
    ∙ none_first fork.left.rows (rows_of fork.twig ++ fork.right.rows) row left ∙ ap (λ xs. fork.left.rows ++ xs) (some_first (rows_of fork.twig) fork.right.rows row (sym some))
    ∙ sym (Rattle.std.proofs.lemmas.List.append_assoc fork.left.rows (replaced (rows_of fork.twig) row) fork.right.rows))
