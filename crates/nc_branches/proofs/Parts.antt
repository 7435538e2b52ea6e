-- The rows at some steps and below them, and the others, from those of parts.
use Rattle.std.proofs.Common.{◌≡◌, ◌++◌, ◌||◌, ℕ, suc, Bool, true, false, not, ltb, List, [], ◌∷◌, refl, sym, ap, ◌∙◌, rules, length}
use Rattle.std.specs.List.{All, filter, list_any}
use Rattle.std.specs.Option.{option_map_or}
use Rattle.std.proofs.lemmas.List.{append_assoc, append-nil}
use Rattle.std.proofs.lemmas.List.Elements.{All-append, All-cons, All-filter, All-head, All-nil, All-tail, All-weaker, filter-append}
use Rattle.nc_names.specs.Same.{is_at_or_below}
use Rattle.nc_names.specs.declared.path.Row.{Row}
use Rattle.nc_names.specs.declared.path.Step.{Step}
use Rattle.nc_schema.specs.Standing.{block_at, exists}
use Rattle.nc_branches.specs.Branches.{Branches, without_block}
use Rattle.nc_branches.specs.inner.Shoots.{Shoot, own_rows, rows_of}
use Rattle.nc_branches.specs.inner.Forks.{IsForkOf}
use Rattle.nc_branches.specs.declared.tree.Fork.{Fork}
use Rattle.nc_branches.specs.inner.Order.{AreUnder, IsUnder}
use Rattle.nc_branches.specs.inner.Places.{AreApart}
use Rattle.nc_branches.proofs.Places.{goes_on, is_below}

-- all rows are at the steps or below them
abbrev pub AreWithin : List Step → List Row → Type 0
AreWithin steps rows = All (λ row. is_at_or_below steps row.path ≡ true) rows

pub within_twig : (steps : List Step) (twig : Shoot) → is_at_or_below steps twig.row.path ≡ true → AreUnder twig.row.path.steps twig.below.rows → AreWithin steps (rows_of twig)
unfolding AreUnder
within_twig steps twig within under = All-append P (own_rows twig.stands twig.row) twig.below.rows (own twig.stands) (All-weaker (IsUnder twig.row.path.steps) P inner twig.below.rows under)
  where
    P : Row → Type 0
    P row = is_at_or_below steps row.path ≡ true

    own : (stands : Bool) → All P (own_rows stands twig.row)
    own true = All-cons P twig.row [] within (All-nil P)
    own false = All-nil P

    inner : (row : Row) → IsUnder twig.row.path.steps row → P row
    inner row under = is_below steps (drop_rest ++ under.0) row (under.1 ∙ ap (λ xs. xs ++ under.0) (goes_on steps twig.row within) ∙ append_assoc steps drop_rest under.0)
      where
        drop_rest : List Step
        drop_rest = Rattle.std.specs.Prelude.drop (length steps) twig.row.path.steps

pub block_none : (steps : List Step) (rows : List Row) → AreApart steps rows → block_at rows steps ≡ []
unfolding AreApart
block_none steps [] apart = refl
block_none steps (row ∷ rows) apart =
    let P : Row → Type 0 = λ row. is_at_or_below steps row.path ≡ false in
    rw (All-head P row rows apart) (block_none steps rows (All-tail P row rows apart))

pub block_all : (steps : List Step) (rows : List Row) → AreWithin steps rows → block_at rows steps ≡ rows
block_all steps [] within = refl
block_all steps (row ∷ rows) within =
    let P : Row → Type 0 = λ row. is_at_or_below steps row.path ≡ true in
    rw (All-head P row rows within) (ap (λ xs. row ∷ xs) (block_all steps rows (All-tail P row rows within)))

pub rest_all : (steps : List Step) (rows : List Row) → AreApart steps rows → without_block rows steps ≡ rows
unfolding AreApart
rest_all steps [] apart = refl
rest_all steps (row ∷ rows) apart =
    let P : Row → Type 0 = λ row. is_at_or_below steps row.path ≡ false in
    rw (All-head P row rows apart) (ap (λ xs. row ∷ xs) (rest_all steps rows (All-tail P row rows apart)))

rest_none : (steps : List Step) (rows : List Row) → AreWithin steps rows → without_block rows steps ≡ []
rest_none steps [] within = refl
rest_none steps (row ∷ rows) within =
    let P : Row → Type 0 = λ row. is_at_or_below steps row.path ≡ true in
    rw (All-head P row rows within) (rest_none steps rows (All-tail P row rows within))

any_none : (steps : List Step) (rows : List Row) → AreApart steps rows → exists rows steps ≡ false
unfolding AreApart
any_none steps [] apart = refl
any_none steps (row ∷ rows) apart =
    let P : Row → Type 0 = λ row. is_at_or_below steps row.path ≡ false in
    rw (All-head P row rows apart) (any_none steps rows (All-tail P row rows apart))

any_append : (steps : List Step) (xs ys : List Row) → exists (xs ++ ys) steps ≡ (exists xs steps || exists ys steps)
any_append steps [] ys = refl
any_append steps (x ∷ xs) ys = by (is_at_or_below steps x.path) (any_append steps xs ys)
  where
    by : (b : Bool) → exists (xs ++ ys) steps ≡ (exists xs steps || exists ys steps) → (b || exists (xs ++ ys) steps) ≡ ((b || exists xs steps) || exists ys steps)
    by true e = refl
    by false e = e

-- the rows of a node that is not itself at the steps or below them
pub own_block : (steps : List Step) (twig : Shoot) → is_at_or_below steps twig.row.path ≡ false → block_at (rows_of twig) steps ≡ block_at twig.below.rows steps
own_block steps twig other = by twig.stands
  where
    by : (stands : Bool) → block_at (own_rows stands twig.row ++ twig.below.rows) steps ≡ block_at twig.below.rows steps
    by true = rw other refl
    by false = refl

own_any : (steps : List Step) (twig : Shoot) → is_at_or_below steps twig.row.path ≡ false → exists (rows_of twig) steps ≡ exists twig.below.rows steps
own_any steps twig other = by twig.stands
  where
    by : (stands : Bool) → exists (own_rows stands twig.row ++ twig.below.rows) steps ≡ exists twig.below.rows steps
    by true = rw other refl
    by false = refl

own_rest : (steps : List Step) (twig : Shoot) → is_at_or_below steps twig.row.path ≡ false → without_block (rows_of twig) steps ≡ own_rows twig.stands twig.row ++ without_block twig.below.rows steps
own_rest steps twig other = by twig.stands
  where
    by : (stands : Bool) → without_block (own_rows stands twig.row ++ twig.below.rows) steps ≡ own_rows stands twig.row ++ without_block twig.below.rows steps
    by true = rw other refl
    by false = refl

-- of a node
pub exists_apart : (steps : List Step) (rows : List Row) → AreApart steps rows → false ≡ exists rows steps
exists_apart steps rows apart = sym (any_none steps rows apart)

pub exists_below : (steps : List Step) (twig : Shoot) → false ≡ is_at_or_below steps twig.row.path → exists twig.below.rows steps ≡ exists (rows_of twig) steps
exists_below steps twig other = sym (own_any steps twig (sym other))

pub block_apart : (steps : List Step) (old rows : List Row) → AreApart steps rows → old ≡ old ++ block_at rows steps
block_apart steps old rows apart = sym (ap (λ xs. old ++ xs) (block_none steps rows apart) ∙ append-nil old)

pub block_within : (steps : List Step) (old : List Row) (twig : Shoot) → true ≡ is_at_or_below steps twig.row.path → AreUnder twig.row.path.steps twig.below.rows → old ++ rows_of twig ≡ old ++ block_at (rows_of twig) steps
block_within steps old twig within under = ap (λ xs. old ++ xs) (sym (block_all steps (rows_of twig) (within_twig steps twig (sym within) under)))

pub block_below : (steps : List Step) (old : List Row) (twig : Shoot) → false ≡ is_at_or_below steps twig.row.path → old ++ block_at twig.below.rows steps ≡ old ++ block_at (rows_of twig) steps
block_below steps old twig other = ap (λ xs. old ++ xs) (sym (own_block steps twig (sym other)))

pub rest_apart : (steps : List Step) (rows : List Row) → AreApart steps rows → rows ≡ without_block rows steps
rest_apart steps rows apart = sym (rest_all steps rows apart)

pub rest_within : (steps : List Step) (twig : Shoot) → true ≡ is_at_or_below steps twig.row.path → AreUnder twig.row.path.steps twig.below.rows → [] ≡ without_block (rows_of twig) steps
rest_within steps twig within under = sym (rest_none steps (rows_of twig) (within_twig steps twig (sym within) under))

pub rest_below : (steps : List Step) (twig : Shoot) → false ≡ is_at_or_below steps twig.row.path → own_rows twig.stands twig.row ++ without_block twig.below.rows steps ≡ without_block (rows_of twig) steps
rest_below steps twig other = sym (own_rest steps twig (sym other))

pub rest_under : (path steps : List Step) (rows : List Row) → AreUnder path rows → AreUnder path (without_block rows steps)
unfolding AreUnder
rest_under path steps rows under = All-filter (λ row. not (is_at_or_below steps row.path)) (IsUnder path) rows under

-- of a tree
pub split_block : (steps : List Step) (branches : Branches) (fork : Fork) → IsForkOf branches fork → block_at branches.rows steps ≡ block_at fork.left.rows steps ++ block_at (rows_of fork.twig) steps ++ block_at fork.right.rows steps
split_block steps branches fork is =
    ap (λ rows. block_at rows steps) is.rows ∙ filter-append (λ row. is_at_or_below steps row.path) (fork.left.rows ++ rows_of fork.twig) fork.right.rows
    ∙ ap (λ xs. xs ++ block_at fork.right.rows steps) (filter-append (λ row. is_at_or_below steps row.path) fork.left.rows (rows_of fork.twig))

split_rest : (steps : List Step) (branches : Branches) (fork : Fork) → IsForkOf branches fork → without_block branches.rows steps ≡ without_block fork.left.rows steps ++ without_block (rows_of fork.twig) steps ++ without_block fork.right.rows steps
split_rest steps branches fork is =
    ap (λ rows. without_block rows steps) is.rows ∙ filter-append (λ row. not (is_at_or_below steps row.path)) (fork.left.rows ++ rows_of fork.twig) fork.right.rows
    ∙ ap (λ xs. xs ++ without_block fork.right.rows steps) (filter-append (λ row. not (is_at_or_below steps row.path)) fork.left.rows (rows_of fork.twig))

split_any : (steps : List Step) (branches : Branches) (fork : Fork) → IsForkOf branches fork → exists branches.rows steps ≡ (exists fork.left.rows steps || exists (rows_of fork.twig) steps || exists fork.right.rows steps)
split_any steps branches fork is =
    ap (λ rows. exists rows steps) is.rows ∙ any_append steps (fork.left.rows ++ rows_of fork.twig) fork.right.rows
    ∙ ap (λ b. b || exists fork.right.rows steps) (any_append steps fork.left.rows (rows_of fork.twig))

or_false : (b : Bool) → (b || false) ≡ b
or_false true = refl
or_false false = refl

pub exists_own : (steps : List Step) (twig : Shoot) → twig.stands ≡ true → true ≡ is_at_or_below steps twig.row.path → true ≡ exists (rows_of twig) steps
exists_own steps twig stands within = sym (ap (λ b. exists (own_rows b twig.row ++ twig.below.rows) steps) stands ∙ ap (λ b. b || exists twig.below.rows steps) (sym within))

positive : (n : ℕ) → ltb 0 (suc n) ≡ true
positive n = search rules

any_all : (steps : List Step) (rows : List Row) → AreWithin steps rows → ltb 0 (length rows) ≡ exists rows steps
any_all steps [] within = refl
any_all steps (row ∷ rows) within = positive (length rows) ∙ sym (ap (λ b. b || exists rows steps) (All-head (λ row. is_at_or_below steps row.path ≡ true) row rows within))

pub exists_inner : (steps : List Step) (twig : Shoot) (n : ℕ) → twig.stands ≡ false → true ≡ is_at_or_below steps twig.row.path → AreUnder twig.row.path.steps twig.below.rows → n ≡ length twig.below.rows → ltb 0 n ≡ exists (rows_of twig) steps
exists_inner steps twig n bare within under is =
    let rows : rows_of twig ≡ twig.below.rows = ap (λ b. own_rows b twig.row ++ twig.below.rows) bare in
    ap (λ m. ltb 0 m) (is ∙ ap length (sym rows)) ∙ any_all steps (rows_of twig) (within_twig steps twig (sym within) under)

pub exists_left : (steps : List Step) (branches : Branches) (fork : Fork) → IsForkOf branches fork → AreApart steps (rows_of fork.twig) → AreApart steps fork.right.rows → exists fork.left.rows steps ≡ exists branches.rows steps
exists_left steps branches fork is here right =
    sym (split_any steps branches fork is ∙ ap (λ b. exists fork.left.rows steps || exists (rows_of fork.twig) steps || b) (any_none steps fork.right.rows right)
    ∙ or_false (exists fork.left.rows steps || exists (rows_of fork.twig) steps) ∙ ap (λ b. exists fork.left.rows steps || b) (any_none steps (rows_of fork.twig) here)
    ∙ or_false (exists fork.left.rows steps))

pub exists_here : (steps : List Step) (branches : Branches) (fork : Fork) → IsForkOf branches fork → AreApart steps fork.left.rows → AreApart steps fork.right.rows → exists (rows_of fork.twig) steps ≡ exists branches.rows steps
exists_here steps branches fork is left right =
    sym (split_any steps branches fork is ∙ ap (λ b. exists fork.left.rows steps || exists (rows_of fork.twig) steps || b) (any_none steps fork.right.rows right)
    ∙ or_false (exists fork.left.rows steps || exists (rows_of fork.twig) steps) ∙ ap (λ b. b || exists (rows_of fork.twig) steps) (any_none steps fork.left.rows left))

pub exists_right : (steps : List Step) (branches : Branches) (fork : Fork) → IsForkOf branches fork → AreApart steps fork.left.rows → AreApart steps (rows_of fork.twig) → exists fork.right.rows steps ≡ exists branches.rows steps
exists_right steps branches fork is left here =
    sym (split_any steps branches fork is ∙ ap (λ b. b || exists (rows_of fork.twig) steps || exists fork.right.rows steps) (any_none steps fork.left.rows left)
    ∙ ap (λ b. b || exists fork.right.rows steps) (any_none steps (rows_of fork.twig) here))

pub exists_anywhere : (steps : List Step) (branches : Branches) (fork : Fork) → IsForkOf branches fork → (exists fork.left.rows steps || exists (rows_of fork.twig) steps || exists fork.right.rows steps) ≡ exists branches.rows steps
exists_anywhere steps branches fork is = sym (split_any steps branches fork is)

pub block_left : (steps : List Step) (old : List Row) (branches : Branches) (fork : Fork) → IsForkOf branches fork → AreApart steps (rows_of fork.twig) → AreApart steps fork.right.rows → old ++ block_at fork.left.rows steps ≡ old ++ block_at branches.rows steps
block_left steps old branches fork is here right =
    ap (λ xs. old ++ xs) (sym (split_block steps branches fork is ∙ ap (λ xs. block_at fork.left.rows steps ++ block_at (rows_of fork.twig) steps ++ xs) (block_none steps fork.right.rows right)
    ∙ append-nil (block_at fork.left.rows steps ++ block_at (rows_of fork.twig) steps) ∙ ap (λ xs. block_at fork.left.rows steps ++ xs) (block_none steps (rows_of fork.twig) here)
    ∙ append-nil (block_at fork.left.rows steps)))

pub block_here : (steps : List Step) (old : List Row) (branches : Branches) (fork : Fork) → IsForkOf branches fork → AreApart steps fork.left.rows → AreApart steps fork.right.rows → old ++ block_at (rows_of fork.twig) steps ≡ old ++ block_at branches.rows steps
block_here steps old branches fork is left right =
    ap (λ xs. old ++ xs) (sym (split_block steps branches fork is ∙ ap (λ xs. block_at fork.left.rows steps ++ block_at (rows_of fork.twig) steps ++ xs) (block_none steps fork.right.rows right)
    ∙ append-nil (block_at fork.left.rows steps ++ block_at (rows_of fork.twig) steps) ∙ ap (λ xs. xs ++ block_at (rows_of fork.twig) steps) (block_none steps fork.left.rows left)))

pub block_right : (steps : List Step) (old : List Row) (branches : Branches) (fork : Fork) → IsForkOf branches fork → AreApart steps fork.left.rows → AreApart steps (rows_of fork.twig) → old ++ block_at fork.right.rows steps ≡ old ++ block_at branches.rows steps
block_right steps old branches fork is left here =
    ap (λ xs. old ++ xs) (sym (split_block steps branches fork is ∙ ap (λ xs. xs ++ block_at (rows_of fork.twig) steps ++ block_at fork.right.rows steps) (block_none steps fork.left.rows left)
    ∙ ap (λ xs. xs ++ block_at fork.right.rows steps) (block_none steps (rows_of fork.twig) here)))

pub block_anywhere : (steps : List Step) (old first second new : List Row) (branches : Branches) (fork : Fork) → IsForkOf branches fork →
    first ≡ old ++ block_at fork.left.rows steps → second ≡ first ++ block_at (rows_of fork.twig) steps → new ≡ second ++ block_at fork.right.rows steps → new ≡ old ++ block_at branches.rows steps
block_anywhere steps old first second new branches fork is one two three =
    three ∙ ap (λ xs. xs ++ block_at fork.right.rows steps) (two ∙ ap (λ xs. xs ++ block_at (rows_of fork.twig) steps) one)
    ∙ append_assoc (old ++ block_at fork.left.rows steps) (block_at (rows_of fork.twig) steps) (block_at fork.right.rows steps)
    ∙ append_assoc old (block_at fork.left.rows steps) (block_at (rows_of fork.twig) steps ++ block_at fork.right.rows steps)
    ∙ ap (λ xs. old ++ xs) (sym (append_assoc (block_at fork.left.rows steps) (block_at (rows_of fork.twig) steps) (block_at fork.right.rows steps)))
    ∙ ap (λ xs. old ++ xs) (sym (split_block steps branches fork is))

pub rest_left : (steps : List Step) (branches : Branches) (fork : Fork) → IsForkOf branches fork → AreApart steps (rows_of fork.twig) → AreApart steps fork.right.rows → without_block fork.left.rows steps ++ rows_of fork.twig ++ fork.right.rows ≡ without_block branches.rows steps
rest_left steps branches fork is here right =
    sym (split_rest steps branches fork is ∙ ap (λ xs. without_block fork.left.rows steps ++ without_block (rows_of fork.twig) steps ++ xs) (rest_all steps fork.right.rows right)
    ∙ ap (λ xs. without_block fork.left.rows steps ++ xs ++ fork.right.rows) (rest_all steps (rows_of fork.twig) here))

pub rest_here : (steps : List Step) (branches : Branches) (fork : Fork) → IsForkOf branches fork → AreApart steps fork.left.rows → AreApart steps fork.right.rows → fork.left.rows ++ without_block (rows_of fork.twig) steps ++ fork.right.rows ≡ without_block branches.rows steps
rest_here steps branches fork is left right =
    sym (split_rest steps branches fork is ∙ ap (λ xs. without_block fork.left.rows steps ++ without_block (rows_of fork.twig) steps ++ xs) (rest_all steps fork.right.rows right)
    ∙ ap (λ xs. xs ++ without_block (rows_of fork.twig) steps ++ fork.right.rows) (rest_all steps fork.left.rows left))

pub rest_right : (steps : List Step) (branches : Branches) (fork : Fork) → IsForkOf branches fork → AreApart steps fork.left.rows → AreApart steps (rows_of fork.twig) → fork.left.rows ++ rows_of fork.twig ++ without_block fork.right.rows steps ≡ without_block branches.rows steps
rest_right steps branches fork is left here =
    sym (split_rest steps branches fork is ∙ ap (λ xs. xs ++ without_block (rows_of fork.twig) steps ++ without_block fork.right.rows steps) (rest_all steps fork.left.rows left)
    ∙ ap (λ xs. fork.left.rows ++ xs ++ without_block fork.right.rows steps) (rest_all steps (rows_of fork.twig) here))

pub rest_anywhere : (steps : List Step) (branches : Branches) (fork : Fork) → IsForkOf branches fork → without_block fork.left.rows steps ++ without_block (rows_of fork.twig) steps ++ without_block fork.right.rows steps ≡ without_block branches.rows steps
rest_anywhere steps branches fork is = sym (split_rest steps branches fork is)
