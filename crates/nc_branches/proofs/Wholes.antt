-- Entries that have rows of their own where rows stand below them.
use Rattle.std.proofs.Common.{◌≡◌, ◌++◌, ◌||◌, ◌-◌, ◌<◌, ◌≤◌, ℕ, Bool, true, false, ltb, List, [], ◌∷◌, refl, sym, ap, subst, ◌∙◌, arith, length, take}
use Rattle.std.specs.Prelude.{drop}
use Rattle.std.specs.List.{All, list_any}
use Rattle.std.proofs.lemmas.Bool.{ltb-false, ltb-true}
use Rattle.std.proofs.lemmas.List.{length-append}
use Rattle.std.proofs.lemmas.List.Elements.{All-head, All-tail}
use Rattle.std.proofs.lemmas.List.Folds.{list_any-append}
use Rattle.std.proofs.Math.Seq.{take-append_seam}
use Rattle.nc_names.proofs.SameLemmas.{path_decide}
use Rattle.nc_names.specs.Same.{is_at_or_below, is_same_path}
use Rattle.nc_names.specs.declared.path.Row.{Row}
use Rattle.nc_names.specs.declared.path.Step.{Step}
use Rattle.nc_schema.specs.Standing.{exists, has_row}
use Rattle.nc_branches.specs.Branches.{Branches}
use Rattle.nc_branches.specs.inner.Forks.{IsForkOf}
use Rattle.nc_branches.specs.declared.tree.Fork.{Fork}
use Rattle.nc_branches.specs.inner.Order.{AreUnder, IsUnder, depth_of}
use Rattle.nc_branches.specs.inner.Shoots.{Shoot, own_rows, rows_of}
use Rattle.nc_branches.specs.Entries.{is_entry}
use Rattle.nc_branches.specs.inner.Steady.{AreWhole}
use Rattle.nc_branches.proofs.Numbers.{or_true}
use Rattle.nc_branches.proofs.Places.{goes_on}
use Rattle.nc_branches.proofs.Placing.{own_under}

pub has_append : (xs ys : List Row) (steps : List Step) → has_row (xs ++ ys) steps ≡ (has_row xs steps || has_row ys steps)
has_append xs ys steps = list_any-append (λ row. is_same_path row.path.steps steps) xs ys

pub exists_append : (xs ys : List Row) (steps : List Step) → exists (xs ++ ys) steps ≡ (exists xs steps || exists ys steps)
exists_append xs ys steps = list_any-append (λ row. is_at_or_below steps row.path) xs ys

pub none_whole : (depth : ℕ) → AreWhole depth []
unfolding AreWhole
none_whole depth = λ steps long entry some. some

pub whole_two : (depth : ℕ) (xs ys : List Row) → AreWhole depth xs → AreWhole depth ys → AreWhole depth (xs ++ ys)
unfolding AreWhole
whole_two depth xs ys one two = λ steps long entry some. by steps long entry (exists xs steps) refl (sym (exists_append xs ys steps) ∙ some)
  where
    by : (steps : List Step) → depth < length steps → is_entry steps ≡ true → (b : Bool) → exists xs steps ≡ b → (exists xs steps || exists ys steps) ≡ true → has_row (xs ++ ys) steps ≡ true
    by steps long entry true e some = has_append xs ys steps ∙ ap (λ b. b || has_row ys steps) (one steps long entry e)
    by steps long entry false e some =
        has_append xs ys steps
        ∙ ap (λ b. has_row xs steps || b) (two steps long entry (sym (ap (λ b. b || exists ys steps) e) ∙ some))
        ∙ or_true (has_row xs steps)

whole_three : (depth : ℕ) (left here right : List Row) → AreWhole depth left → AreWhole depth here → AreWhole depth right → AreWhole depth (left ++ here ++ right)
whole_three depth left here right one two three = whole_two depth (left ++ here) right (whole_two depth left here one two) three

-- one of some rows passes a test
pub some_one : {C : Type 0} (P : Row → Type 0) (test : Row → Bool) (rows : List Row) → All P rows → ((row : Row) → P row → test row ≡ true → C) → list_any test rows ≡ true → C
some_one P test [] all found some = absurd (cc some)
some_one {C = C} P test (row ∷ rows) all found some = by (test row) refl some (some_one P test rows (All-tail P row rows all) found)
  where
    by : (b : Bool) → test row ≡ b → (b || list_any test rows) ≡ true → (list_any test rows ≡ true → C) → C
    by true e more rest = found row (All-head P row rows all) e
    by false e more rest = rest more

-- paths of one row that are as long are the same
pub as_long : (p q rest more : List Step) → p ++ rest ≡ q ++ more → length p ≡ length q → p ≡ q
as_long p q rest more same len =
    sym (take-append_seam p rest) ∙ (λ i. take (len i) (same i)) ∙ take-append_seam q more

-- a path so deep that leads to a row at or below a node is that of the node, or longer
node_of : (p q : List Step) (row : Row) → length p - 1 < length q → length q ≤ length p → IsUnder p row → is_at_or_below q row.path ≡ true → p ≡ q
node_of p q row long short under within =
    let below : row.path.steps ≡ q ++ drop (length q) row.path.steps = goes_on q row within in
    as_long p q under.0 (drop (length q) row.path.steps) (sym under.1 ∙ below) (omega (arith, long, short))

pub whole_twig : (twig : Shoot) → AreUnder twig.row.path.steps twig.below.rows → (is_entry twig.row.path.steps ≡ true → twig.stands ≡ true) →
    AreWhole (length twig.row.path.steps) twig.below.rows → AreWhole (depth_of twig) (rows_of twig)
unfolding AreWhole
whole_twig twig under stand below = λ steps long entry some. by steps long entry some (ltb (length twig.row.path.steps) (length steps)) refl
  where
    path : List Step
    path = twig.row.path.steps

    own_row : (steps : List Step) → path ≡ steps → has_row (own_rows true twig.row ++ twig.below.rows) steps ≡ true
    own_row steps same = ap (λ b. b || has_row twig.below.rows steps) ((path_decide path steps).1 same)

    shorter : (steps : List Step) → length path < length steps → (stands : Bool) → exists (own_rows stands twig.row) steps ≡ true → ⊥
    shorter steps long false some = cc some
    shorter steps long true some = one (is_at_or_below steps twig.row.path) refl some
      where
        one : (b : Bool) → is_at_or_below steps twig.row.path ≡ b → (b || false) ≡ true → ⊥
        one false e more = cc more
        one true e more =
            let same : length path ≡ length (steps ++ drop (length steps) path) = ap length (goes_on steps twig.row e) in
            omega (arith, long, same, length-append steps (drop (length steps) path))

    deeper : (steps : List Step) → depth_of twig < length steps → is_entry steps ≡ true → length path < length steps → (b : Bool) → exists (own_rows twig.stands twig.row) steps ≡ b →
        (b || exists twig.below.rows steps) ≡ true → has_row (rows_of twig) steps ≡ true
    deeper steps long entry far true e some = absurd (shorter steps far twig.stands e)
    deeper steps long entry far false e some =
        has_append (own_rows twig.stands twig.row) twig.below.rows steps
        ∙ ap (λ b. has_row (own_rows twig.stands twig.row) steps || b) (below steps far entry some) ∙ or_true (has_row (own_rows twig.stands twig.row) steps)

    by : (steps : List Step) → depth_of twig < length steps → is_entry steps ≡ true → exists (rows_of twig) steps ≡ true → (b : Bool) → ltb (length path) (length steps) ≡ b → has_row (rows_of twig) steps ≡ true
    by steps long entry some true far =
        deeper steps long entry (ltb-true (length path) (length steps) far) (exists (own_rows twig.stands twig.row) steps) refl
        (sym (exists_append (own_rows twig.stands twig.row) twig.below.rows steps) ∙ some)
    by steps long entry some false near =
        let same : path ≡ steps =
        some_one (IsUnder path) (λ row. is_at_or_below steps row.path) (rows_of twig) (own_under twig under)
        (λ row u e. node_of path steps row long (ltb-false (length path) (length steps) near) u e) some in
        subst (λ stands. has_row (own_rows stands twig.row ++ twig.below.rows) steps ≡ true) (sym (stand (subst (λ s. is_entry s ≡ true) (sym same) entry))) (own_row steps same)

pub fork_whole : (depth : ℕ) (branches : Branches) (fork : Fork) → IsForkOf branches fork → fork.whole ≡ true → depth_of fork.twig ≡ depth → AreWhole depth branches.rows
fork_whole depth branches fork is whole same =
    let parts = is.wholes whole in
    subst (λ d. AreWhole d branches.rows) same
    (subst (AreWhole (depth_of fork.twig)) (sym is.rows) (whole_three (depth_of fork.twig) fork.left.rows (rows_of fork.twig) fork.right.rows parts.0 parts.1 parts.2))
