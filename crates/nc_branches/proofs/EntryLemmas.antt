-- The entries of a list, from those of parts.
use Rattle.std.proofs.Common.{◌≡◌, ◌++◌, ◌-◌, ◌<◌, ◌≤◌, ◌&&◌, ℕ, suc, Bool, true, false, cond, List, [], ◌∷◌, Some, None, refl, sym, ap, ◌∙◌, arith, length, Bor}
use Rattle.std.specs.List.{All, cons_option}
use Rattle.std.proofs.lemmas.List.{append_assoc, append-nil, length-append, map-append}
use Rattle.std.proofs.lemmas.List.Elements.{All-head, All-tail, filter_map-append}
use Rattle.nc_names.specs.Same.{is_at_or_below, is_same_step}
use Rattle.nc_names.specs.declared.path.Row.{Row}
use Rattle.nc_names.specs.declared.path.Step.{Step}
use Rattle.nc_schema.specs.Standing.{entries, keys_in}
use Rattle.nc_branches.specs.Beneath.{keys_of}
use Rattle.nc_branches.specs.inner.Depths.{AreLong}
use Rattle.nc_branches.specs.Branches.{Branches}
use Rattle.nc_branches.specs.inner.Shoots.{Shoot, own_rows, rows_of}
use Rattle.nc_branches.specs.inner.Forks.{IsForkOf}
use Rattle.nc_branches.specs.declared.tree.Fork.{Fork}
use Rattle.nc_branches.specs.inner.Order.{AreUnder, IsUnder}
use Rattle.nc_branches.specs.inner.Places.{AreApart}
use Rattle.nc_branches.proofs.Placing.{own_under}

-- a path that is not below the steps is that of no entry there
none_there : (above : List Step) (number : ℕ) (row : Row) → is_at_or_below above row.path ≡ false → keys_in above number row.path.steps ≡ None
none_there above number row apart = there above row.path.steps apart
  where
    there : (over steps : List Step) → is_at_or_below over (record { steps = steps }) ≡ false → keys_in over number steps ≡ None
    there [] steps e = absurd (cc e)
    there (o ∷ over) [] e = refl
    there (o ∷ over) (s ∷ steps) e = by (is_same_step o s) e (there over steps)
      where
        by : (b : Bool) → (b && is_at_or_below over (record { steps = steps })) ≡ false → (is_at_or_below over (record { steps = steps }) ≡ false → keys_in over number steps ≡ None) → cond b (keys_in over number steps) None ≡ None
        by true e more = more e
        by false e more = refl

-- nor is one that is longer by more than a step
pub too_long : (above : List Step) (number : ℕ) (steps : List Step) → suc (length above) < length steps → keys_in above number steps ≡ None
too_long [] number [] long = absurd (omega (arith, long))
too_long [] number (s ∷ []) long = absurd (omega (arith, long))
too_long [] number (s ∷ t ∷ steps) long = refl
too_long (o ∷ above) number [] long = refl
too_long (o ∷ above) number (s ∷ steps) long = by (is_same_step o s) (too_long above number steps (omega (arith, long)))
  where
    by : (b : Bool) → keys_in above number steps ≡ None → cond b (keys_in above number steps) None ≡ None
    by true e = e
    by false e = refl

none_of : (above : List Step) (number : ℕ) (rows : List Row) → All (λ row. keys_in above number row.path.steps ≡ None) rows → entries rows above number ≡ []
none_of above number [] all = refl
none_of above number (row ∷ rows) all =
    let P : Row → Type 0 = λ row. keys_in above number row.path.steps ≡ None in
    ap (λ o. cons_option o (entries rows above number)) (All-head P row rows all) ∙ none_of above number rows (All-tail P row rows all)

pub entries_apart : (above : List Step) (number : ℕ) (rows : List Row) → AreApart above rows → entries rows above number ≡ []
unfolding AreApart
entries_apart above number [] apart = refl
entries_apart above number (row ∷ rows) apart =
    let P : Row → Type 0 = λ row. is_at_or_below above row.path ≡ false in
    ap (λ o. cons_option o (entries rows above number)) (none_there above number row (All-head P row rows apart)) ∙ entries_apart above number rows (All-tail P row rows apart)

deep : (above : List Step) (number : ℕ) (rows : List Row) → All (λ row. suc (suc (length above)) ≤ length row.path.steps) rows → entries rows above number ≡ []
deep above number [] all = refl
deep above number (row ∷ rows) all =
    let P : Row → Type 0 = λ row. suc (suc (length above)) ≤ length row.path.steps in
    let long : suc (suc (length above)) ≤ length row.path.steps = All-head P row rows all in
    ap (λ o. cons_option o (entries rows above number)) (too_long above number row.path.steps (omega (arith, long))) ∙ deep above number rows (All-tail P row rows all)

pub entries_deep : (above : List Step) (number least : ℕ) (rows : List Row) → AreLong least rows → length above < least → 1 < least - length above → entries rows above number ≡ []
unfolding AreLong
entries_deep above number least rows all one two =
    deep above number rows (Rattle.std.proofs.lemmas.List.Elements.All-weaker (λ row. least ≤ length row.path.steps) (λ row. suc (suc (length above)) ≤ length row.path.steps) (λ row e. omega (arith, e, one, two)) rows all)

pub entries_long : (above : List Step) (number : ℕ) (twig : Shoot) → AreUnder twig.row.path.steps twig.below.rows → length above < length twig.row.path.steps → 1 < length twig.row.path.steps - length above → entries (rows_of twig) above number ≡ []
unfolding AreUnder
entries_long above number twig under one two =
    deep above number (rows_of twig) (Rattle.std.proofs.lemmas.List.Elements.All-weaker (IsUnder twig.row.path.steps) (λ row. suc (suc (length above)) ≤ length row.path.steps)
    (λ row u. let long : length row.path.steps ≡ length (twig.row.path.steps ++ u.0) = ap length u.1 in omega (arith, long, length-append twig.row.path.steps u.0, one, two)) (rows_of twig) (own_under twig under))

-- of a node
pub own_bare : (above : List Step) (number : ℕ) (old : List (List (List ℕ))) (twig : Shoot) → twig.stands ≡ false → old ≡ old ++ entries (own_rows twig.stands twig.row) above number
own_bare above number old twig bare = sym (ap (λ b. old ++ entries (own_rows b twig.row) above number) bare ∙ append-nil old)

pub own_none : (above : List Step) (number : ℕ) (old : List (List (List ℕ))) (twig : Shoot) → twig.stands ≡ true → keys_in above number twig.row.path.steps ≡ None → old ≡ old ++ entries (own_rows twig.stands twig.row) above number
own_none above number old twig stands none =
    sym (ap (λ b. old ++ entries (own_rows b twig.row) above number) stands ∙ ap (λ o. old ++ cons_option o []) none ∙ append-nil old)

pub own_some : (above : List Step) (number : ℕ) (old : List (Bor (List (List ℕ)))) (keys : Bor (List (List ℕ))) (twig : Shoot) → twig.stands ≡ true → keys_in above number twig.row.path.steps ≡ Some keys.now →
    keys_of (old ++ keys ∷ []) ≡ keys_of old ++ entries (own_rows twig.stands twig.row) above number
own_some above number old keys twig stands some =
    map-append (λ (k : Bor (List (List ℕ))). k.now) old (keys ∷ [])
    ∙ sym (ap (λ b. keys_of old ++ entries (own_rows b twig.row) above number) stands ∙ ap (λ o. keys_of old ++ cons_option o []) some)

pub twig_none : (above : List Step) (number : ℕ) (old : List (List (List ℕ))) (rows : List Row) → entries rows above number ≡ [] → old ≡ old ++ entries rows above number
twig_none above number old rows none = sym (ap (λ xs. old ++ xs) none ∙ append-nil old)

twig_split : (above : List Step) (number : ℕ) (twig : Shoot) → entries (rows_of twig) above number ≡ entries (own_rows twig.stands twig.row) above number ++ entries twig.below.rows above number
twig_split above number twig = filter_map-append (λ (row : Row). keys_in above number row.path.steps) (own_rows twig.stands twig.row) twig.below.rows

pub twig_own : (above : List Step) (number : ℕ) (old new : List (List (List ℕ))) (twig : Shoot) → new ≡ old ++ entries (own_rows twig.stands twig.row) above number → entries twig.below.rows above number ≡ [] → new ≡ old ++ entries (rows_of twig) above number
twig_own above number old new twig is none =
    is ∙ ap (λ xs. old ++ xs) (sym (twig_split above number twig ∙ ap (λ xs. entries (own_rows twig.stands twig.row) above number ++ xs) none ∙ append-nil (entries (own_rows twig.stands twig.row) above number)))

pub twig_both : (above : List Step) (number : ℕ) (old first new : List (List (List ℕ))) (twig : Shoot) → first ≡ old ++ entries (own_rows twig.stands twig.row) above number → new ≡ first ++ entries twig.below.rows above number → new ≡ old ++ entries (rows_of twig) above number
twig_both above number old first new twig one two =
    two ∙ ap (λ xs. xs ++ entries twig.below.rows above number) one ∙ append_assoc old (entries (own_rows twig.stands twig.row) above number) (entries twig.below.rows above number)
    ∙ ap (λ xs. old ++ xs) (sym (twig_split above number twig))

-- of a tree
split : (above : List Step) (number : ℕ) (branches : Branches) (fork : Fork) → IsForkOf branches fork → entries branches.rows above number ≡ entries fork.left.rows above number ++ entries (rows_of fork.twig) above number ++ entries fork.right.rows above number
split above number branches fork is =
    ap (λ rows. entries rows above number) is.rows ∙ filter_map-append (λ (row : Row). keys_in above number row.path.steps) (fork.left.rows ++ rows_of fork.twig) fork.right.rows
    ∙ ap (λ xs. xs ++ entries fork.right.rows above number) (filter_map-append (λ (row : Row). keys_in above number row.path.steps) fork.left.rows (rows_of fork.twig))

pub entries_left : (above : List Step) (number : ℕ) (old : List (List (List ℕ))) (branches : Branches) (fork : Fork) → IsForkOf branches fork → AreApart above (rows_of fork.twig) → AreApart above fork.right.rows → old ++ entries fork.left.rows above number ≡ old ++ entries branches.rows above number
entries_left above number old branches fork is here right =
    ap (λ xs. old ++ xs) (sym (split above number branches fork is ∙ (λ i. entries fork.left.rows above number ++ entries_apart above number (rows_of fork.twig) here i ++ entries_apart above number fork.right.rows right i)
    ∙ append-nil (entries fork.left.rows above number ++ []) ∙ append-nil (entries fork.left.rows above number)))

pub entries_here : (above : List Step) (number : ℕ) (old : List (List (List ℕ))) (branches : Branches) (fork : Fork) → IsForkOf branches fork → AreApart above fork.left.rows → AreApart above fork.right.rows → old ++ entries (rows_of fork.twig) above number ≡ old ++ entries branches.rows above number
entries_here above number old branches fork is left right =
    ap (λ xs. old ++ xs) (sym (split above number branches fork is ∙ (λ i. entries_apart above number fork.left.rows left i ++ entries (rows_of fork.twig) above number ++ entries_apart above number fork.right.rows right i)
    ∙ append-nil (entries (rows_of fork.twig) above number)))

pub entries_right : (above : List Step) (number : ℕ) (old : List (List (List ℕ))) (branches : Branches) (fork : Fork) → IsForkOf branches fork → AreApart above fork.left.rows → AreApart above (rows_of fork.twig) → old ++ entries fork.right.rows above number ≡ old ++ entries branches.rows above number
entries_right above number old branches fork is left here =
    ap (λ xs. old ++ xs) (sym (split above number branches fork is ∙ (λ i. entries_apart above number fork.left.rows left i ++ entries_apart above number (rows_of fork.twig) here i ++ entries fork.right.rows above number)))

pub entries_anywhere : (above : List Step) (number : ℕ) (old first second new : List (List (List ℕ))) (branches : Branches) (fork : Fork) → IsForkOf branches fork →
    first ≡ old ++ entries fork.left.rows above number → second ≡ first ++ entries (rows_of fork.twig) above number → new ≡ second ++ entries fork.right.rows above number → new ≡ old ++ entries branches.rows above number
entries_anywhere above number old first second new branches fork is one two three =
    three ∙ ap (λ xs. xs ++ entries fork.right.rows above number) (two ∙ ap (λ xs. xs ++ entries (rows_of fork.twig) above number) one)
    ∙ append_assoc (old ++ entries fork.left.rows above number) (entries (rows_of fork.twig) above number) (entries fork.right.rows above number)
    ∙ append_assoc old (entries fork.left.rows above number) (entries (rows_of fork.twig) above number ++ entries fork.right.rows above number)
    ∙ ap (λ xs. old ++ xs) (sym (append_assoc (entries fork.left.rows above number) (entries (rows_of fork.twig) above number) (entries fork.right.rows above number)))
    ∙ ap (λ xs. old ++ xs) (sym (split above number branches fork is))
