-- Rows that are listed one part after another.
use Rattle.std.proofs.Common.{◌≡◌, ◌++◌, true, false, List, [], ◌∷◌, sym, ap, ◌∙◌, Bor}
use Rattle.std.proofs.lemmas.List.{append_assoc, map-append}
use Rattle.nc_names.specs.declared.path.Row.{Row}
use Rattle.nc_branches.specs.Branches.{Branches, rows_in}
use Rattle.nc_branches.specs.inner.Shoots.{Shoot, own_rows, rows_of}
use Rattle.nc_branches.specs.inner.Forks.{IsForkOf}
use Rattle.nc_branches.specs.declared.tree.Fork.{Fork}

pub listed_fork : (old first second new : List Row) (branches : Branches) (fork : Fork) → IsForkOf branches fork →
    first ≡ old ++ fork.left.rows → second ≡ first ++ rows_of fork.twig → new ≡ second ++ fork.right.rows → new ≡ old ++ branches.rows
listed_fork old first second new branches fork is one two three =
    three ∙ ap (λ xs. xs ++ fork.right.rows) (two ∙ ap (λ xs. xs ++ rows_of fork.twig) one)
    ∙ append_assoc (old ++ fork.left.rows) (rows_of fork.twig) fork.right.rows ∙ append_assoc old fork.left.rows (rows_of fork.twig ++ fork.right.rows)
    ∙ ap (λ xs. old ++ xs) (sym (append_assoc fork.left.rows (rows_of fork.twig) fork.right.rows)) ∙ ap (λ xs. old ++ xs) (sym is.rows)

pub listed_bare : (old new : List Row) (twig : Shoot) → twig.stands ≡ false → new ≡ old ++ twig.below.rows → new ≡ old ++ rows_of twig
listed_bare old new twig bare is = is ∙ ap (λ b. old ++ (own_rows b twig.row ++ twig.below.rows)) (sym bare)

pub listed_twig : (old : List (Bor Row)) (row : Bor Row) (new : List Row) (twig : Shoot) → twig.stands ≡ true → row.now ≡ twig.row → new ≡ rows_in (old ++ row ∷ []) ++ twig.below.rows → new ≡ rows_in old ++ rows_of twig
listed_twig old row new twig stands same is =
    is ∙ ap (λ xs. xs ++ twig.below.rows) (map-append (λ (x : Bor Row). x.now) old (row ∷ [])) ∙ append_assoc (rows_in old) (row.now ∷ []) twig.below.rows
    ∙ ap (λ x. rows_in old ++ (x ∷ twig.below.rows)) same
    ∙ ap (λ b. rows_in old ++ (own_rows b twig.row ++ twig.below.rows)) (sym stands)

pub shared_bare : (old new : List Row) (twig : Shoot) → twig.stands ≡ false → new ≡ old ++ twig.below.rows → new ≡ old ++ rows_of twig
shared_bare old new twig bare is = listed_bare old new twig bare is

pub shared_twig : (old new : List Row) (twig : Shoot) → twig.stands ≡ true → new ≡ (old ++ twig.row ∷ []) ++ twig.below.rows → new ≡ old ++ rows_of twig
shared_twig old new twig stands is =
    is ∙ append_assoc old (twig.row ∷ []) twig.below.rows ∙ ap (λ b. old ++ (own_rows b twig.row ++ twig.below.rows)) (sym stands)
