-- Whether a child of a number exists, from parts.
use Rattle.std.proofs.Common.{◌≡◌, ◌≢◌, ◌++◌, ◌||◌, ◌&&◌, ◌==◌, ◌<◌, ◌≤◌, ℕ, suc, Bool, true, false, cond, ltb, List, [], ◌∷◌, Option, Some, None, refl, sym, ap, subst, ◌∙◌, arith, length, rules}
use Rattle.std.specs.Prelude.{slice_get, option_map}
use Rattle.std.specs.List.{All, list_any}
use Rattle.std.specs.Option.{option_map_or}
use Rattle.std.specs.Ordering.{MatchOrdering, nat_cmp, ordering_then}
use Rattle.std.specs.Cmp.Lexicographic.{slice_cmp}
use Rattle.std.specs.declared.cmp.Ordering.{Ordering}
use Rattle.std.specs.declared.cmp.Ordering.TheVariants.{Less, Equal, Greater}
use Rattle.std.proofs.lemmas.Cmp.{ranked}
use Rattle.std.proofs.lemmas.Bool.Decides.{Decides-eqb}
use Rattle.std.proofs.lemmas.List.Elements.{All-head, All-tail}
use Rattle.std.proofs.lemmas.List.Folds.{list_any-append}
use Rattle.nc_names.proofs.SameLemmas.{step_itself}
use Rattle.nc_names.specs.Same.{is_at_or_below, is_same_step}
use Rattle.nc_names.specs.declared.path.Row.{Row}
use Rattle.nc_names.specs.declared.path.Step.{Step}
use Rattle.nc_branches.specs.Beneath.{goes_by, has_node}
use Rattle.nc_branches.specs.inner.Depths.{is_by}
use Rattle.nc_branches.specs.Branches.{Branches}
use Rattle.nc_branches.specs.inner.Shoots.{Shoot, own_rows, rows_of}
use Rattle.nc_branches.specs.inner.Children.{IsNumbered}
use Rattle.nc_branches.specs.inner.Forks.{IsForkOf, IsParted}
use Rattle.nc_branches.specs.declared.tree.Fork.{Fork}
use Rattle.nc_branches.specs.inner.Order.{AreUnder, AreBefore, AreAfter, IsSide, IsUnder, depth_of, step_cmp}
use Rattle.nc_branches.specs.inner.Places.{AreApart}
use Rattle.nc_branches.proofs.Placing.{own_under}
use Rattle.nc_branches.proofs.RowSides.{get_common}
use Rattle.nc_branches.proofs.Sides.{get_append}

other_number : (n k : ℕ) → n ≢ k → (n == k) ≡ false
other_number n k differ = by (n == k) refl
  where
    by : (b : Bool) → (n == k) ≡ b → b ≡ false
    by false e = refl
    by true e = absurd (differ ((Decides-eqb n k).0 e))

none_by : (p : Row → Bool) (rows : List Row) → All (λ row. p row ≡ false) rows → list_any p rows ≡ false
none_by p [] all = refl
none_by p (row ∷ rows) all = ap (λ b. b || list_any p rows) (All-head (λ row. p row ≡ false) row rows all) ∙ none_by p rows (All-tail (λ row. p row ≡ false) row rows all)

-- a step before another has no higher number, and one after it no lower
less_number : (s own : Step) → step_cmp s own ≡ Less → s.node ≤ own.node
less_number s own side = by (nat_cmp s.node own.node) (ranked s.node own.node (nat_cmp s.node own.node) refl) side
  where
    by : (o : Ordering) → MatchOrdering o (s.node < own.node) (s.node ≡ own.node) (own.node < s.node) → ordering_then o (slice_cmp (slice_cmp nat_cmp) s.keys own.keys) ≡ Less → s.node ≤ own.node
    by Less before is = omega (arith, before)
    by Equal same is = omega (arith, same)
    by Greater after is = cc

more_number : (s own : Step) → step_cmp s own ≡ Greater → own.node ≤ s.node
more_number s own side = by (nat_cmp s.node own.node) (ranked s.node own.node (nat_cmp s.node own.node) refl) side
  where
    by : (o : Ordering) → MatchOrdering o (s.node < own.node) (s.node ≡ own.node) (own.node < s.node) → ordering_then o (slice_cmp (slice_cmp nat_cmp) s.keys own.keys) ≡ Greater → own.node ≤ s.node
    by Less before is = cc
    by Equal same is = omega (arith, same)
    by Greater after is = omega (arith, after)

not_by : (depth other : ℕ) (own : Step) (side : Ordering) (o : Option Step) → ((s : Step) → step_cmp s own ≡ side → s.node ≢ other) → option_map (λ s. step_cmp s own) o ≡ Some side → option_map_or (λ (s : Step). s.node == other) o false ≡ false
not_by depth other own side None far e = refl
not_by depth other own side (Some s) far e = let on : step_cmp s own ≡ side = cc in other_number s.node other (far s on)

side_none : (depth other : ℕ) (own : Step) (side : Ordering) (rows : List Row) → ((s : Step) → step_cmp s own ≡ side → s.node ≢ other) → All (IsSide side depth own) rows → list_any (is_by depth other) rows ≡ false
side_none depth other own side [] far all = refl
side_none depth other own side (row ∷ rows) far all =
    ap (λ b. b || list_any (is_by depth other) rows) (not_by depth other own side (slice_get row.path.steps depth) far (All-head (IsSide side depth own) row rows all))
    ∙ side_none depth other own side rows far (All-tail (IsSide side depth own) row rows all)

-- all rows of a node have its step
own_by : (depth other : ℕ) (own : Step) (path : List Step) (row : Row) → slice_get path depth ≡ Some own → IsUnder path row → is_by depth other row ≡ (own.node == other)
own_by depth other own path row is under = ap (λ o. option_map_or (λ (s : Step). s.node == other) o false) (ap (λ xs. slice_get xs depth) under.1 ∙ get_append path under.0 depth own is)

all_by : (depth other : ℕ) (own : Step) (path : List Step) (rows : List Row) → slice_get path depth ≡ Some own → (own.node == other) ≡ false → All (IsUnder path) rows → list_any (is_by depth other) rows ≡ false
all_by depth other own path [] is far all = refl
all_by depth other own path (row ∷ rows) is far all =
    ap (λ b. b || list_any (is_by depth other) rows) (own_by depth other own path row is (All-head (IsUnder path) row rows all) ∙ far) ∙ all_by depth other own path rows is far (All-tail (IsUnder path) row rows all)

pub twig_other : (depth number : ℕ) (own : Step) (twig : Shoot) → slice_get twig.row.path.steps depth ≡ Some own → AreUnder twig.row.path.steps twig.below.rows → own.node ≢ number → false ≡ list_any (is_by depth number) (rows_of twig)
unfolding AreUnder
twig_other depth number own twig is under far = sym (all_by depth number own twig.row.path.steps (rows_of twig) is (other_number own.node number far) (own_under twig under))

pub twig_own : (depth number : ℕ) (own : Step) (twig : Shoot) → slice_get twig.row.path.steps depth ≡ Some own → own.node ≡ number → twig.stands ≡ true → true ≡ list_any (is_by depth number) (rows_of twig)
twig_own depth number own twig is same stands =
    sym (ap (λ b. list_any (is_by depth number) (own_rows b twig.row ++ twig.below.rows)) stands
    ∙ ap (λ b. b || list_any (is_by depth number) twig.below.rows) (ap (λ o. option_map_or (λ (s : Step). s.node == number) o false) is ∙ (Decides-eqb own.node number).1 same))

positive : (n : ℕ) → ltb 0 (suc n) ≡ true
positive n = search rules

any_by : (depth number : ℕ) (own : Step) (path : List Step) (rows : List Row) → slice_get path depth ≡ Some own → own.node ≡ number → All (IsUnder path) rows → ltb 0 (length rows) ≡ list_any (is_by depth number) rows
any_by depth number own path [] is same all = refl
any_by depth number own path (row ∷ rows) is same all =
    positive (length rows) ∙ sym (ap (λ b. b || list_any (is_by depth number) rows) (own_by depth number own path row is (All-head (IsUnder path) row rows all) ∙ (Decides-eqb own.node number).1 same))

pub twig_rows : (depth number n : ℕ) (own : Step) (twig : Shoot) → slice_get twig.row.path.steps depth ≡ Some own → AreUnder twig.row.path.steps twig.below.rows → own.node ≡ number → twig.stands ≡ false → n ≡ length twig.below.rows → ltb 0 n ≡ list_any (is_by depth number) (rows_of twig)
unfolding AreUnder
twig_rows depth number n own twig is under same bare len =
    ap (λ m. ltb 0 m) len ∙ any_by depth number own twig.row.path.steps twig.below.rows is same under
    ∙ ap (λ b. list_any (is_by depth number) (own_rows b twig.row ++ twig.below.rows)) (sym bare)

pub twig_short : (depth number : ℕ) (twig : Shoot) → slice_get twig.row.path.steps depth ≡ None → list_any (is_by depth number) twig.below.rows ≡ list_any (is_by depth number) (rows_of twig)
twig_short depth number twig none = by twig.stands
  where
    by : (stands : Bool) → list_any (is_by depth number) twig.below.rows ≡ list_any (is_by depth number) (own_rows stands twig.row ++ twig.below.rows)
    by true = sym (ap (λ o. option_map_or (λ (s : Step). s.node == number) o false || list_any (is_by depth number) twig.below.rows) none)
    by false = refl

pub numbered : (depth : ℕ) (own : Step) (fork : Fork) → IsParted fork → fork.ordered ≡ true → depth_of fork.twig ≡ depth → slice_get fork.twig.row.path.steps (depth_of fork.twig) ≡ Some own → AreUnder fork.twig.row.path.steps fork.twig.below.rows → IsNumbered depth own.node fork
unfolding AreUnder AreBefore AreAfter
numbered depth own fork parted ordered depth_is own_is under =
    let there : slice_get fork.twig.row.path.steps depth ≡ Some own = ap (slice_get fork.twig.row.path.steps) (sym depth_is) ∙ own_is in
    let sides = parted ordered own own_is in
    let before : All (IsSide Less depth own) fork.left.rows = subst (λ d. All (IsSide Less d own) fork.left.rows) depth_is sides.0 in
    let after : All (IsSide Greater depth own) fork.right.rows = subst (λ d. All (IsSide Greater d own) fork.right.rows) depth_is sides.1 in
    record {
      left = λ other more. side_none depth other own Less fork.left.rows (λ s on same. let most = less_number s own on in absurd (omega (arith, most, same, more))) before;
      lower = λ other less. all_by depth other own fork.twig.row.path.steps (rows_of fork.twig) there (other_number own.node other (λ same. absurd (omega (arith, same, less)))) (own_under fork.twig under);
      higher = λ other more. all_by depth other own fork.twig.row.path.steps (rows_of fork.twig) there (other_number own.node other (λ same. absurd (omega (arith, same, more)))) (own_under fork.twig under);
      right = λ other less. side_none depth other own Greater fork.right.rows (λ s on same. let least = more_number s own on in absurd (omega (arith, least, same, less))) after;
    }

-- of a tree
or_false : (b : Bool) → (b || false) ≡ b
or_false true = refl
or_false false = refl

or_true : (b : Bool) → (b || true) ≡ true
or_true true = refl
or_true false = refl

split : (p : Row → Bool) (branches : Branches) (fork : Fork) → IsForkOf branches fork → list_any p branches.rows ≡ (list_any p fork.left.rows || list_any p (rows_of fork.twig) || list_any p fork.right.rows)
split p branches fork is =
    ap (list_any p) is.rows ∙ list_any-append p (fork.left.rows ++ rows_of fork.twig) fork.right.rows
    ∙ ap (λ b. b || list_any p fork.right.rows) (list_any-append p fork.left.rows (rows_of fork.twig))

only_left : (p : Row → Bool) (branches : Branches) (fork : Fork) → IsForkOf branches fork → list_any p (rows_of fork.twig) ≡ false → list_any p fork.right.rows ≡ false → list_any p fork.left.rows ≡ list_any p branches.rows
only_left p branches fork is here right =
    sym (split p branches fork is ∙ (λ i. list_any p fork.left.rows || here i || right i) ∙ or_false (list_any p fork.left.rows || false) ∙ or_false (list_any p fork.left.rows))

only_here : (p : Row → Bool) (branches : Branches) (fork : Fork) → IsForkOf branches fork → list_any p fork.left.rows ≡ false → list_any p fork.right.rows ≡ false → list_any p (rows_of fork.twig) ≡ list_any p branches.rows
only_here p branches fork is left right =
    sym (split p branches fork is ∙ (λ i. left i || list_any p (rows_of fork.twig) || right i) ∙ or_false (list_any p (rows_of fork.twig)))

only_right : (p : Row → Bool) (branches : Branches) (fork : Fork) → IsForkOf branches fork → list_any p fork.left.rows ≡ false → list_any p (rows_of fork.twig) ≡ false → list_any p fork.right.rows ≡ list_any p branches.rows
only_right p branches fork is left here = sym (split p branches fork is ∙ (λ i. left i || here i || list_any p fork.right.rows))

pub by_left : (depth number own : ℕ) (branches : Branches) (fork : Fork) → IsForkOf branches fork → IsNumbered depth own fork → number < own → list_any (is_by depth number) fork.left.rows ≡ list_any (is_by depth number) branches.rows
by_left depth number own branches fork is parts less = only_left (is_by depth number) branches fork is (parts.lower number less) (parts.right number less)

pub by_right : (depth number own : ℕ) (branches : Branches) (fork : Fork) → IsForkOf branches fork → IsNumbered depth own fork → own < number → list_any (is_by depth number) fork.right.rows ≡ list_any (is_by depth number) branches.rows
by_right depth number own branches fork is parts more = only_right (is_by depth number) branches fork is (parts.left number more) (parts.higher number more)

pub by_here : (depth number : ℕ) (branches : Branches) (fork : Fork) → IsForkOf branches fork → list_any (is_by depth number) (rows_of fork.twig) ≡ true → true ≡ list_any (is_by depth number) branches.rows
by_here depth number branches fork is here =
    sym (split (is_by depth number) branches fork is ∙ ap (λ b. list_any (is_by depth number) fork.left.rows || b || list_any (is_by depth number) fork.right.rows) here
    ∙ ap (λ b. b || list_any (is_by depth number) fork.right.rows) (or_true (list_any (is_by depth number) fork.left.rows)))

pub by_sides : (depth number : ℕ) (branches : Branches) (fork : Fork) → IsForkOf branches fork → list_any (is_by depth number) (rows_of fork.twig) ≡ false → (list_any (is_by depth number) fork.left.rows || list_any (is_by depth number) fork.right.rows) ≡ list_any (is_by depth number) branches.rows
by_sides depth number branches fork is here =
    sym (split (is_by depth number) branches fork is ∙ ap (λ b. list_any (is_by depth number) fork.left.rows || b || list_any (is_by depth number) fork.right.rows) here
    ∙ ap (λ b. b || list_any (is_by depth number) fork.right.rows) (or_false (list_any (is_by depth number) fork.left.rows)))

-- a path that is not below a node does not go on from it
none_there : (above : List Step) (number : ℕ) (row : Row) → is_at_or_below above row.path ≡ false → goes_by above number row.path.steps ≡ false
none_there above number row apart = there above row.path.steps apart
  where
    there : (over steps : List Step) → is_at_or_below over (record { steps = steps }) ≡ false → goes_by over number steps ≡ false
    there [] steps e = absurd (cc e)
    there (o ∷ over) [] e = refl
    there (o ∷ over) (s ∷ steps) e = by (is_same_step o s) e (there over steps)
      where
        by : (b : Bool) → (b && is_at_or_below over (record { steps = steps })) ≡ false → (is_at_or_below over (record { steps = steps }) ≡ false → goes_by over number steps ≡ false) → cond b (goes_by over number steps) false ≡ false
        by true e more = more e
        by false e more = refl

apart_none : (above : List Step) (number : ℕ) (rows : List Row) → AreApart above rows → has_node rows above number ≡ false
unfolding AreApart
apart_none above number [] apart = refl
apart_none above number (row ∷ rows) apart =
    let P : Row → Type 0 = λ row. is_at_or_below above row.path ≡ false in
    ap (λ b. b || has_node rows above number) (none_there above number row (All-head P row rows apart)) ∙ apart_none above number rows (All-tail P row rows apart)

pub node_apart : (above : List Step) (number : ℕ) (rows : List Row) → AreApart above rows → false ≡ has_node rows above number
node_apart above number rows apart = sym (apart_none above number rows apart)

goes_rest : (above rest : List Step) (number : ℕ) → goes_by above number (above ++ rest) ≡ goes_by [] number rest
goes_rest [] rest number = refl
goes_rest (over ∷ above) rest number = rw (step_itself over) (goes_rest above rest number)

first_by : (steps : List Step) (number : ℕ) → option_map_or (λ (s : Step). s.node == number) (slice_get steps 0) false ≡ goes_by [] number steps
first_by [] number = refl
first_by (step ∷ steps) number = refl

goes_self : (above : List Step) (number : ℕ) → goes_by above number above ≡ false
goes_self [] number = refl
goes_self (over ∷ above) number = rw (step_itself over) (goes_self above number)

there_by : (above : List Step) (number : ℕ) (rows : List Row) → All (IsUnder above) rows → list_any (is_by (length above) number) rows ≡ has_node rows above number
there_by above number [] all = refl
there_by above number (row ∷ rows) all =
    let under : IsUnder above row = All-head (IsUnder above) row rows all in
    let same : is_by (length above) number row ≡ goes_by above number row.path.steps =
    ap (λ xs. option_map_or (λ (s : Step). s.node == number) (slice_get xs (length above)) false) under.1
    ∙ ap (λ o. option_map_or (λ (s : Step). s.node == number) o false) (get_common above under.0) ∙ first_by under.0 number ∙ sym (goes_rest above under.0 number) ∙ ap (goes_by above number) (sym under.1) in
    (λ i. same i || there_by above number rows (All-tail (IsUnder above) row rows all) i)

pub node_there : (above : List Step) (number : ℕ) (twig : Shoot) → twig.row.path.steps ≡ above → AreUnder twig.row.path.steps twig.below.rows → list_any (is_by (length above) number) twig.below.rows ≡ has_node (rows_of twig) above number
unfolding AreUnder
node_there above number twig path under =
    there_by above number twig.below.rows (subst (λ p. All (IsUnder p) twig.below.rows) path under) ∙ by twig.stands
  where
    by : (stands : Bool) → has_node twig.below.rows above number ≡ has_node (own_rows stands twig.row ++ twig.below.rows) above number
    by true = sym (ap (λ b. b || has_node twig.below.rows above number) (ap (goes_by above number) path ∙ goes_self above number))
    by false = refl

pub node_below : (above : List Step) (number : ℕ) (own : Bool) (twig : Shoot) → own ≡ (twig.stands && goes_by above number twig.row.path.steps) → (own || has_node twig.below.rows above number) ≡ has_node (rows_of twig) above number
node_below above number own twig is = ap (λ b. b || has_node twig.below.rows above number) is ∙ by twig.stands
  where
    by : (stands : Bool) → ((stands && goes_by above number twig.row.path.steps) || has_node twig.below.rows above number) ≡ has_node (own_rows stands twig.row ++ twig.below.rows) above number
    by true = refl
    by false = refl

pub node_left : (above : List Step) (number : ℕ) (branches : Branches) (fork : Fork) → IsForkOf branches fork → AreApart above (rows_of fork.twig) → AreApart above fork.right.rows → has_node fork.left.rows above number ≡ has_node branches.rows above number
node_left above number branches fork is here right = only_left (λ row. goes_by above number row.path.steps) branches fork is (apart_none above number (rows_of fork.twig) here) (apart_none above number fork.right.rows right)

pub node_here : (above : List Step) (number : ℕ) (branches : Branches) (fork : Fork) → IsForkOf branches fork → AreApart above fork.left.rows → AreApart above fork.right.rows → has_node (rows_of fork.twig) above number ≡ has_node branches.rows above number
node_here above number branches fork is left right = only_here (λ row. goes_by above number row.path.steps) branches fork is (apart_none above number fork.left.rows left) (apart_none above number fork.right.rows right)

pub node_right : (above : List Step) (number : ℕ) (branches : Branches) (fork : Fork) → IsForkOf branches fork → AreApart above fork.left.rows → AreApart above (rows_of fork.twig) → has_node fork.right.rows above number ≡ has_node branches.rows above number
node_right above number branches fork is left here = only_right (λ row. goes_by above number row.path.steps) branches fork is (apart_none above number fork.left.rows left) (apart_none above number (rows_of fork.twig) here)

pub node_anywhere : (above : List Step) (number : ℕ) (branches : Branches) (fork : Fork) → IsForkOf branches fork → (has_node fork.left.rows above number || has_node (rows_of fork.twig) above number || has_node fork.right.rows above number) ≡ has_node branches.rows above number
node_anywhere above number branches fork is = sym (split (λ row. goes_by above number row.path.steps) branches fork is)

pub node_top : (above : List Step) (number : ℕ) (rows : List Row) → above ≡ [] → list_any (is_by 0 number) rows ≡ has_node rows above number
node_top above number rows none = top rows ∙ ap (λ a. has_node rows a number) (sym none)
  where
    top : (rows : List Row) → list_any (is_by 0 number) rows ≡ has_node rows [] number
    top [] = refl
    top (row ∷ rows) = (λ i. first_by row.path.steps number i || top rows i)
