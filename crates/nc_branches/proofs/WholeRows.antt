-- Rows of siblings.
use Rattle.std.proofs.Common.{◌≡◌, ◌++◌, ◌<◌, ◌+◌, ℕ, true, List, [], ◌∷◌, refl, sym, ap, subst, ◌∙◌, length, take, get_or}
use Rattle.std.proofs.lemmas.List.Elements.{All-nil}
use Rattle.nc_names.specs.Same.{is_at_or_below}
use Rattle.nc_names.specs.declared.path.Step.{Step}
use Rattle.nc_branches.specs.inner.Order.{AreUnder, IsUnder}
use Rattle.nc_branches.proofs.Growing.{one_under}
use Rattle.std.proofs.lemmas.List.{append_assoc, append-nil, take_more}
use Rattle.nc_names.specs.declared.path.Row.{Row}
use Rattle.nc_branches.specs.Branches.{Branches}
use Rattle.nc_branches.specs.inner.Shoots.{Shoot, own_rows, rows_of, rows_of_all}
use Rattle.nc_branches.specs.inner.Cuts.{IsCutOff}

pub all_append : (xs ys : List Shoot) → rows_of_all (xs ++ ys) ≡ rows_of_all xs ++ rows_of_all ys
all_append [] ys = refl
all_append (x ∷ xs) ys = ap (λ rows. rows_of x ++ rows) (all_append xs ys) ∙ sym (append_assoc (rows_of x) (rows_of_all xs) (rows_of_all ys))

-- two halves with a node between them
pub all_of : (all left right : List Shoot) (twig : Shoot) → all ≡ left ++ twig ∷ right → rows_of_all left ++ rows_of twig ++ rows_of_all right ≡ rows_of_all all
all_of all left right twig is = append_assoc (rows_of_all left) (rows_of twig) (rows_of_all right) ∙ sym (all_append left (twig ∷ right)) ∙ ap rows_of_all (sym is)

pub all_push : (xs : List Shoot) (x : Shoot) → rows_of_all (xs ++ x ∷ []) ≡ rows_of_all xs ++ rows_of x
all_push xs x = all_append xs (x ∷ []) ∙ ap (λ rows. rows_of_all xs ++ rows) (append-nil (rows_of x))

pub all_put : (all more : List Shoot) (rows rest inner left : List Row) (node new : Shoot) (below : Branches) → rows_of_all all ++ rest ≡ rows → IsCutOff rest node inner left → below.rows ≡ inner → new ≡ record { row = node.row; stands = node.stands; below = below } → more ≡ all ++ new ∷ [] → rows_of_all more ++ left ≡ rows
all_put all more rows rest inner left node new below is cut same made put =
    ap (λ xs. rows_of_all xs ++ left) put ∙ ap (λ xs. xs ++ left) (all_push all new ∙ ap (λ n. rows_of_all all ++ rows_of n) made ∙ ap (λ xs. rows_of_all all ++ (own_rows node.stands node.row ++ xs)) same)
    ∙ append_assoc (rows_of_all all) (own_rows node.stands node.row ++ inner) left
    ∙ ap (λ xs. rows_of_all all ++ xs) (sym cut.rows_are) ∙ is

pub run_none : (steps : List Step) (rows : List Row) → AreUnder steps (take 0 rows)
unfolding AreUnder
run_none steps rows = All-nil (IsUnder steps)

-- one more of some rows is below a node
pub run_more : (steps path : List Step) (rows : List Row) (n m : ℕ) (row : Row) → n ≡ m → m < length rows → row ≡ get_or rows m row → path ≡ row.path.steps → true ≡ is_at_or_below steps (record { steps = path }) → AreUnder steps (take n rows) → AreUnder steps (take (n + 1) rows)
run_more steps path rows n m row same less is own within under =
    subst (AreUnder steps) (sym (ap (λ k. take (k + 1) rows) same ∙ take_more rows m row less ∙ (λ i. take (sym same i) rows ++ sym is i ∷ [])))
    (one_under steps (take n rows) row under (within ∙ ap (λ p. is_at_or_below steps (record { steps = p })) own))

pub all_done : (all : List Shoot) (rows rest : List Row) → rows_of_all all ++ rest ≡ rows → rest ≡ [] → rows_of_all all ≡ rows
all_done all rows rest is none = sym (append-nil (rows_of_all all)) ∙ ap (λ xs. rows_of_all all ++ xs) (sym none) ∙ is
