-- The rows at some steps and below them, and how many they are, from those of parts.
use Rattle.std.proofs.Common.{◌≡◌, ◌++◌, ◌+◌, ◌≤◌, ℕ, suc, Bool, true, false, cond, List, [], ◌∷◌, sym, ap, ◌∙◌, arith, length}
use Rattle.std.proofs.lemmas.List.{length-append}
use Rattle.nc_names.specs.Same.{is_at_or_below}
use Rattle.nc_names.specs.declared.path.Row.{Row}
use Rattle.nc_names.specs.declared.path.Step.{Step}
use Rattle.nc_schema.specs.Standing.{block_at}
use Rattle.nc_branches.specs.Branches.{Branches}
use Rattle.nc_branches.specs.inner.Shoots.{Shoot, rows_of}
use Rattle.nc_branches.specs.inner.Forks.{IsForkOf}
use Rattle.nc_branches.specs.declared.tree.Fork.{Fork}
use Rattle.nc_branches.specs.inner.Order.{AreUnder}
use Rattle.nc_branches.specs.inner.Places.{AreApart}
use Rattle.nc_branches.proofs.Nth.{lengths}
use Rattle.nc_branches.proofs.Parts.{block_all, block_here, block_left, block_none, block_right, own_block, split_block, within_twig}

-- of a node
pub part_apart : (steps : List Step) (rows : List Row) → AreApart steps rows → [] ≡ block_at rows steps
part_apart steps rows apart = sym (block_none steps rows apart)

pub part_within : (steps : List Step) (twig : Shoot) → true ≡ is_at_or_below steps twig.row.path → AreUnder twig.row.path.steps twig.below.rows → rows_of twig ≡ block_at (rows_of twig) steps
part_within steps twig within under = sym (block_all steps (rows_of twig) (within_twig steps twig (sym within) under))

pub part_below : (steps : List Step) (twig : Shoot) → false ≡ is_at_or_below steps twig.row.path → block_at twig.below.rows steps ≡ block_at (rows_of twig) steps
part_below steps twig other = sym (own_block steps twig (sym other))

pub count_apart : (steps : List Step) (rows : List Row) → AreApart steps rows → 0 ≡ length (block_at rows steps)
count_apart steps rows apart = ap length (part_apart steps rows apart)

pub count_within : (steps : List Step) (len : ℕ) (twig : Shoot) → len ≡ length (rows_of twig) → true ≡ is_at_or_below steps twig.row.path → AreUnder twig.row.path.steps twig.below.rows → len ≡ length (block_at (rows_of twig) steps)
count_within steps len twig is within under = is ∙ ap length (part_within steps twig within under)

pub count_below : (steps : List Step) (twig : Shoot) → false ≡ is_at_or_below steps twig.row.path → length (block_at twig.below.rows steps) ≡ length (block_at (rows_of twig) steps)
count_below steps twig other = ap length (part_below steps twig other)

-- of a tree
pub part_left : (steps : List Step) (branches : Branches) (fork : Fork) → IsForkOf branches fork → AreApart steps (rows_of fork.twig) → AreApart steps fork.right.rows → block_at fork.left.rows steps ≡ block_at branches.rows steps
part_left steps branches fork is here right = block_left steps [] branches fork is here right

pub part_here : (steps : List Step) (branches : Branches) (fork : Fork) → IsForkOf branches fork → AreApart steps fork.left.rows → AreApart steps fork.right.rows → block_at (rows_of fork.twig) steps ≡ block_at branches.rows steps
part_here steps branches fork is left right = block_here steps [] branches fork is left right

pub part_right : (steps : List Step) (branches : Branches) (fork : Fork) → IsForkOf branches fork → AreApart steps fork.left.rows → AreApart steps (rows_of fork.twig) → block_at fork.right.rows steps ≡ block_at branches.rows steps
part_right steps branches fork is left here = block_right steps [] branches fork is left here

pub part_anywhere : (steps : List Step) (branches : Branches) (fork : Fork) → IsForkOf branches fork → block_at fork.left.rows steps ++ block_at (rows_of fork.twig) steps ++ block_at fork.right.rows steps ≡ block_at branches.rows steps
part_anywhere steps branches fork is = sym (split_block steps branches fork is)

pub count_left : (steps : List Step) (branches : Branches) (fork : Fork) → IsForkOf branches fork → AreApart steps (rows_of fork.twig) → AreApart steps fork.right.rows → length (block_at fork.left.rows steps) ≡ length (block_at branches.rows steps)
count_left steps branches fork is here right = ap length (part_left steps branches fork is here right)

pub count_here : (steps : List Step) (branches : Branches) (fork : Fork) → IsForkOf branches fork → AreApart steps fork.left.rows → AreApart steps fork.right.rows → length (block_at (rows_of fork.twig) steps) ≡ length (block_at branches.rows steps)
count_here steps branches fork is left right = ap length (part_here steps branches fork is left right)

pub count_right : (steps : List Step) (branches : Branches) (fork : Fork) → IsForkOf branches fork → AreApart steps fork.left.rows → AreApart steps (rows_of fork.twig) → length (block_at fork.right.rows steps) ≡ length (block_at branches.rows steps)
count_right steps branches fork is left here = ap length (part_right steps branches fork is left here)

pub count_anywhere : (steps : List Step) (branches : Branches) (fork : Fork) → IsForkOf branches fork → length (block_at fork.left.rows steps) + length (block_at (rows_of fork.twig) steps) + length (block_at fork.right.rows steps) ≡ length (block_at branches.rows steps)
count_anywhere steps branches fork is =
    sym (ap length (split_block steps branches fork is) ∙ length-append (block_at fork.left.rows steps ++ block_at (rows_of fork.twig) steps) (block_at fork.right.rows steps)
    ∙ ap (λ n. n + length (block_at fork.right.rows steps)) (length-append (block_at fork.left.rows steps) (block_at (rows_of fork.twig) steps)))

some_of : (steps : List Step) (rows : List Row) → length (block_at rows steps) ≤ length rows
some_of steps [] = omega arith
some_of steps (row ∷ rows) = by (is_at_or_below steps row.path) (some_of steps rows)
  where
    by : (b : Bool) → length (block_at rows steps) ≤ length rows → length (cond b (row ∷ block_at rows steps) (block_at rows steps)) ≤ suc (length rows)
    by true less = omega (arith, less)
    by false less = omega (arith, less)

-- a part has no more rows than all
pub count_room : (steps : List Step) (branches : Branches) (fork : Fork) → IsForkOf branches fork →
    length (block_at fork.left.rows steps) + length (block_at (rows_of fork.twig) steps) + length (block_at fork.right.rows steps) ≤ length branches.rows
count_room steps branches fork is = omega (arith, lengths branches fork is, some_of steps fork.left.rows, some_of steps (rows_of fork.twig), some_of steps fork.right.rows)
