-- Rows that part from a path at a step, on the side that the orders say.
use Rattle.std.proofs.Common.{◌≡◌, ◌++◌, ◌||◌, ℕ, suc, Bool, true, false, List, [], ◌∷◌, Option, Some, None, refl, sym, ap, subst, ◌∙◌, length, drop, take}
use Rattle.std.specs.Prelude.{slice_get, slice_index_or}
use Rattle.std.specs.List.{All, list_any}
use Rattle.std.proofs.lemmas.List.{append_assoc}
use Rattle.std.proofs.lemmas.List.Elements.{All-append, All-head, All-nil, All-tail}
use Rattle.nc_names.proofs.SameLemmas.{step_decide}
use Rattle.nc_names.specs.Same.{is_at_or_below, is_same_step}
use Rattle.nc_names.specs.declared.path.Row.{Row}
use Rattle.nc_names.specs.declared.path.Step.{Step}
use Rattle.nc_schema.specs.Order.{keys_above}
use Rattle.nc_schema.specs.Standing.{cases_differ, cases_of, excludes, sibling_before}
use Rattle.nc_branches.specs.Branches.{Branches}
use Rattle.nc_branches.specs.inner.Shoots.{Shoot, rows_of}
use Rattle.nc_branches.specs.inner.Forks.{IsForkOf}
use Rattle.nc_branches.specs.declared.tree.Fork.{Fork}
use Rattle.nc_branches.specs.inner.Order.{AreUnder, IsUnder}
use Rattle.nc_branches.specs.Orders.{before_in, first_order}
use Rattle.nc_branches.specs.inner.Putting.{Aiming, AreAside, IsAside, IsAt, IsPut, last_node}
use Rattle.nc_branches.specs.Sides.{among, is_front}
use Rattle.nc_branches.proofs.Placing.{own_under, parts_under}
use Rattle.nc_branches.proofs.Places.{goes_on}
use Rattle.nc_branches.proofs.Putting.{here_among, left_among, right_among}
use Rattle.nc_branches.proofs.RowSides.{get_common, same_back, split_get, stay, taken_length}
use Rattle.nc_branches.proofs.SideOrder.{before_common, excludes_common}
use Rattle.nc_branches.proofs.Sides.{get_append}

-- the steps of a row from what it has in common with the path on
pub record Parted (aim : Aiming) (depth : ℕ) (asked own : Step) (row : Row) : Type 0 where
  pub rest : List Step
  pub is : row.path.steps ≡ take depth aim.steps ++ own ∷ rest

pub parted : (aim : Aiming) (depth : ℕ) (asked own : Step) (row : Row) → slice_get aim.steps depth ≡ Some asked → slice_get row.path.steps depth ≡ Some own → IsUnder (take depth aim.steps) row → Parted aim depth asked own row
parted aim depth asked own row asked_is own_is under = by under.0 under.1
  where
    len : length (take depth aim.steps) ≡ depth
    len = taken_length depth aim.steps asked asked_is

    there : (rest : List Step) → row.path.steps ≡ take depth aim.steps ++ rest → slice_get rest 0 ≡ Some own
    there rest is = sym (ap (λ xs. slice_get xs (length (take depth aim.steps))) is ∙ get_common (take depth aim.steps) rest) ∙ ap (slice_get row.path.steps) len ∙ own_is

    by : (rest : List Step) → row.path.steps ≡ take depth aim.steps ++ rest → Parted aim depth asked own row
    by [] is = let e : slice_get {X = Step} [] 0 ≡ Some own = there [] is in cc
    by (s ∷ ss) is = let e : slice_get (s ∷ ss) 0 ≡ Some own = there (s ∷ ss) is in let same : s ≡ own = cc in record { rest = ss; is = is ∙ ap (λ x. take depth aim.steps ++ x ∷ ss) same }

module _ (aim : Aiming) (depth : ℕ) (above : Option ℕ) (before : Bool) (asked own : Step)
    (asked_is : slice_get aim.steps depth ≡ Some asked) (above_is : above ≡ last_node None (take depth aim.steps))
    (differ : is_same_step own asked ≡ false) (cases : cases_differ (cases_of aim.tables asked.node) (cases_of aim.tables own.node) ≡ false)
    (side : sibling_before aim.tables (keys_above aim.tables above) (first_order (drop depth aim.orders)) own asked ≡ before) where
  path_is : aim.steps ≡ take depth aim.steps ++ asked ∷ drop (suc depth) aim.steps
  path_is = split_get depth aim.steps asked asked_is

  aside_front : (row : Row) → Parted aim depth asked own row → is_front aim.tables aim.orders aim.steps row ≡ before
  unfolding is_front
  aside_front row at =
      ap (λ xs. before_in aim.tables aim.orders None xs aim.steps) at.is
      ∙ ap (λ xs. before_in aim.tables aim.orders None (take depth aim.steps ++ own ∷ at.rest) xs) path_is
      ∙ before_common aim.tables aim.orders None (take depth aim.steps) own asked at.rest (drop (suc depth) aim.steps) differ
      ∙ (λ i. sibling_before aim.tables (keys_above aim.tables (sym above_is i)) (first_order (drop (taken_length depth aim.steps asked asked_is i) aim.orders)) own asked)
      ∙ side

  none_excludes : (row : Row) → Parted aim depth asked own row → (block : List Row) → All (IsUnder aim.steps) block → list_any (λ added. excludes aim.tables added.path.steps row.path.steps) block ≡ false
  none_excludes row at [] all = refl
  none_excludes row at (added ∷ block) all =
      let under : IsUnder aim.steps added = All-head (IsUnder aim.steps) added block all in
      let path : added.path.steps ≡ take depth aim.steps ++ asked ∷ (drop (suc depth) aim.steps ++ under.0) = under.1 ∙ ap (λ xs. xs ++ under.0) path_is ∙ append_assoc (take depth aim.steps) (asked ∷ drop (suc depth) aim.steps) under.0 in
      let one : excludes aim.tables added.path.steps row.path.steps ≡ false =
      ap (λ xs. excludes aim.tables xs row.path.steps) path ∙ ap (λ xs. excludes aim.tables (take depth aim.steps ++ asked ∷ (drop (suc depth) aim.steps ++ under.0)) xs) at.is
      ∙ excludes_common aim.tables (take depth aim.steps) own asked at.rest (drop (suc depth) aim.steps ++ under.0) (same_back asked own differ) ∙ cases in
      ap (λ b. b || list_any (λ added. excludes aim.tables added.path.steps row.path.steps) block) one
      ∙ none_excludes row at block (All-tail (IsUnder aim.steps) added block all)

  apart : (row : Row) → slice_get row.path.steps depth ≡ Some own → is_at_or_below aim.steps row.path ≡ false
  apart row own_is = by (is_at_or_below aim.steps row.path) refl
    where
      by : (b : Bool) → is_at_or_below aim.steps row.path ≡ b → b ≡ false
      by false e = refl
      by true e =
          let there : slice_get row.path.steps depth ≡ Some asked = ap (λ xs. slice_get xs depth) (goes_on aim.steps row e) ∙ get_append aim.steps (drop (length aim.steps) row.path.steps) depth asked asked_is in
          let same : own ≡ asked = cc in
          let is : is_same_step own asked ≡ true = (step_decide own asked).1 same in
          cc

  pub aside_row : All (IsUnder aim.steps) aim.block → (row : Row) → slice_get row.path.steps depth ≡ Some own → IsUnder (take depth aim.steps) row → IsAt aim before row
  aside_row block row own_is under =
      let at = parted aim depth asked own row asked_is own_is under in
      (stay aim.tables aim.steps aim.block row (apart row own_is) (none_excludes row at aim.block block), aside_front row at)

-- all rows of a node are on its side
pub twig_aside : (before : Bool) (aim : Aiming) (depth : ℕ) (above : Option ℕ) (twig : Shoot) → IsAside before aim depth above twig → AreAside before aim depth above (rows_of twig)
unfolding AreAside AreUnder
twig_aside before aim depth above twig at = λ block level k d l.
    let row = slice_index_or (rows_of twig) k d in
    let inner = own_under twig at.under k d l in
    let own_is : slice_get row.path.steps depth ≡ Some at.own = ap (λ xs. slice_get xs depth) inner.1 ∙ get_append twig.row.path.steps inner.0 depth at.own at.own_is in
    aside_row aim depth above before at.asked at.own at.asked_is level.above_is at.differ at.cases at.side block row own_is (level.under k d l)

pub none_aside : (before : Bool) (aim : Aiming) (depth : ℕ) (above : Option ℕ) (rows : List Row) → rows ≡ [] → AreAside before aim depth above rows
unfolding AreAside
none_aside before aim depth above rows none = λ block level. subst (All (IsAt aim before)) (sym none) (All-nil (IsAt aim before))

pub fork_aside : (before : Bool) (aim : Aiming) (depth : ℕ) (above : Option ℕ) (branches : Branches) (fork : Fork) → IsForkOf branches fork →
    AreAside before aim depth above fork.left.rows → AreAside before aim depth above (rows_of fork.twig) → AreAside before aim depth above fork.right.rows → AreAside before aim depth above branches.rows
unfolding AreAside
fork_aside before aim depth above branches fork is left here right = λ block level.
    let P : Row → Type 0 = IsAt aim before in
    let u = parts_under (take depth aim.steps) branches fork is level.under in
    subst (All P) (sym is.rows)
    (All-append P (fork.left.rows ++ rows_of fork.twig) fork.right.rows
    (All-append P fork.left.rows (rows_of fork.twig) (left block (record { above_is = level.above_is; under = u.0 })) (here block (record { above_is = level.above_is; under = u.1 })))
    (right block (record { above_is = level.above_is; under = u.2 })))

-- the path goes on in a part, and the others are on their sides
pub put_left_of : (aim : Aiming) (depth : ℕ) (above : Option ℕ) (branches : Branches) (fork : Fork) (left new : List Row) → IsForkOf branches fork →
    AreAside false aim depth above (rows_of fork.twig) → AreAside false aim depth above fork.right.rows → IsPut aim depth above fork.left.rows left → new ≡ left ++ rows_of fork.twig ++ fork.right.rows → IsPut aim depth above branches.rows new
unfolding AreAside
put_left_of aim depth above branches fork left new is here right inner same = record {
  put = λ block level.
      let u = parts_under (take depth aim.steps) branches fork is level.under in
      let put : left ≡ among aim.tables aim.orders aim.steps aim.block fork.left.rows = inner.put block (record { above_is = level.above_is; under = u.0 }) in
      same ∙ ap (λ xs. xs ++ rows_of fork.twig ++ fork.right.rows) put
      ∙ sym (left_among aim.tables aim.orders aim.steps aim.block fork.left.rows (rows_of fork.twig) fork.right.rows (here block (record { above_is = level.above_is; under = u.1 })) (right block (record { above_is = level.above_is; under = u.2 })))
      ∙ ap (among aim.tables aim.orders aim.steps aim.block) (sym is.rows);
}

pub put_right_of : (aim : Aiming) (depth : ℕ) (above : Option ℕ) (branches : Branches) (fork : Fork) (right new : List Row) → IsForkOf branches fork →
    AreAside true aim depth above fork.left.rows → AreAside true aim depth above (rows_of fork.twig) → IsPut aim depth above fork.right.rows right → new ≡ fork.left.rows ++ rows_of fork.twig ++ right → IsPut aim depth above branches.rows new
unfolding AreAside
put_right_of aim depth above branches fork right new is left here inner same = record {
  put = λ block level.
      let u = parts_under (take depth aim.steps) branches fork is level.under in
      let put : right ≡ among aim.tables aim.orders aim.steps aim.block fork.right.rows = inner.put block (record { above_is = level.above_is; under = u.2 }) in
      same ∙ ap (λ xs. fork.left.rows ++ rows_of fork.twig ++ xs) put
      ∙ sym (right_among aim.tables aim.orders aim.steps aim.block fork.left.rows (rows_of fork.twig) fork.right.rows (left block (record { above_is = level.above_is; under = u.0 })) (here block (record { above_is = level.above_is; under = u.1 })))
      ∙ ap (among aim.tables aim.orders aim.steps aim.block) (sym is.rows);
}

pub put_between : (aim : Aiming) (depth : ℕ) (above : Option ℕ) (branches : Branches) (fork : Fork) (here new : List Row) → IsForkOf branches fork →
    AreAside true aim depth above fork.left.rows → AreAside false aim depth above fork.right.rows → IsPut aim depth above (rows_of fork.twig) here → new ≡ fork.left.rows ++ here ++ fork.right.rows → IsPut aim depth above branches.rows new
unfolding AreAside
put_between aim depth above branches fork here new is left right inner same = record {
  put = λ block level.
      let u = parts_under (take depth aim.steps) branches fork is level.under in
      let put : here ≡ among aim.tables aim.orders aim.steps aim.block (rows_of fork.twig) = inner.put block (record { above_is = level.above_is; under = u.1 }) in
      same ∙ ap (λ xs. fork.left.rows ++ xs ++ fork.right.rows) put
      ∙ sym (here_among aim.tables aim.orders aim.steps aim.block fork.left.rows (rows_of fork.twig) fork.right.rows (left block (record { above_is = level.above_is; under = u.0 })) (right block (record { above_is = level.above_is; under = u.2 })))
      ∙ ap (among aim.tables aim.orders aim.steps aim.block) (sym is.rows);
}
