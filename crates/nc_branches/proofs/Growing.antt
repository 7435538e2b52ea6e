-- Rows that are put below nodes.
use Rattle.std.proofs.Common.{◌≡◌, ◌++◌, ℕ, true, List, [], ◌∷◌, sym, ap, subst, ◌∙◌, take, drop, length}
use Rattle.std.proofs.lemmas.List.{append_assoc, append-nil, take-append-drop}
use Rattle.std.proofs.lemmas.List.Elements.{All-cons, All-nil, All-push}
use Rattle.nc_names.specs.Same.{is_at_or_below}
use Rattle.nc_names.specs.declared.path.Row.{Row}
use Rattle.nc_names.specs.declared.path.Step.{Step}
use Rattle.nc_branches.specs.Branches.{Branches}
use Rattle.nc_branches.specs.inner.Shoots.{Shoot, own_rows, rows_of}
use Rattle.nc_branches.specs.inner.Forks.{IsForkOf}
use Rattle.nc_branches.specs.declared.tree.Fork.{Fork}
use Rattle.nc_branches.specs.inner.Order.{AreUnder, IsUnder}
use Rattle.nc_branches.proofs.Places.{goes_on}

pub none_under : (steps : List Step) → AreUnder steps []
unfolding AreUnder
none_under steps = All-nil (IsUnder steps)

-- a row is below the first steps of its path
pub head_under : (n : ℕ) (steps : List Step) (row : Row) (rows : List Row) → steps ≡ take n row.path.steps → rows ≡ row ∷ [] → AreUnder steps rows
unfolding AreUnder
head_under n steps row rows head only =
    subst (AreUnder steps) (sym only)
    (All-cons (IsUnder steps) row [] (drop n row.path.steps, sym (take-append-drop n row.path.steps) ∙ ap (λ xs. xs ++ drop n row.path.steps) (sym head)) (All-nil (IsUnder steps)))

-- one more row at or below a node
pub one_under : (steps : List Step) (rows : List Row) (row : Row) → AreUnder steps rows → true ≡ is_at_or_below steps row.path → AreUnder steps (rows ++ row ∷ [])
unfolding AreUnder
one_under steps rows row under within = All-push (IsUnder steps) rows row under (drop (length steps) row.path.steps, goes_on steps row (sym within))

pub one_below : (twig : Shoot) (row : Row) (rows : List Row) → rows ≡ twig.below.rows ++ row ∷ [] → own_rows twig.stands twig.row ++ rows ≡ rows_of twig ++ row ∷ []
one_below twig row rows is = ap (λ xs. own_rows twig.stands twig.row ++ xs) is ∙ sym (append_assoc (own_rows twig.stands twig.row) twig.below.rows (row ∷ []))

-- the last row goes below the last node
pub one_inner : (branches : Branches) (fork : Fork) (row : Row) (here : List Row) → IsForkOf branches fork → fork.right.rows ≡ [] → here ≡ rows_of fork.twig ++ row ∷ [] → fork.left.rows ++ here ++ fork.right.rows ≡ branches.rows ++ row ∷ []
one_inner branches fork row here is none same =
    ap (λ xs. fork.left.rows ++ here ++ xs) none ∙ append-nil (fork.left.rows ++ here) ∙ ap (λ xs. fork.left.rows ++ xs) same
    ∙ sym (append_assoc fork.left.rows (rows_of fork.twig) (row ∷ []))
    ∙ ap (λ xs. xs ++ row ∷ []) (sym (append-nil (fork.left.rows ++ rows_of fork.twig)) ∙ ap (λ xs. fork.left.rows ++ rows_of fork.twig ++ xs) (sym none) ∙ sym is.rows)

-- or it stands beside it
pub one_beside : (branches : Branches) (fork : Fork) (row : Row) (right : List Row) → IsForkOf branches fork → right ≡ fork.right.rows ++ row ∷ [] → fork.left.rows ++ rows_of fork.twig ++ right ≡ branches.rows ++ row ∷ []
one_beside branches fork row right is same =
    ap (λ xs. fork.left.rows ++ rows_of fork.twig ++ xs) same ∙ sym (append_assoc (fork.left.rows ++ rows_of fork.twig) fork.right.rows (row ∷ []))
    ∙ ap (λ xs. xs ++ row ∷ []) (sym is.rows)

pub one_last : (branches : Branches) (row : Row) (rows : List Row) → branches.rows ≡ [] → rows ≡ row ∷ [] → rows ≡ branches.rows ++ row ∷ []
one_last branches row rows none only = only ∙ ap (λ xs. xs ++ row ∷ []) (sym none)
