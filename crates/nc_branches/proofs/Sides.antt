-- All rows of a tree on one side of a step.
use Rattle.std.proofs.Common.{◌≡◌, ◌++◌, ◌<◌, ℕ, zero, suc, Bool, true, false, List, [], ◌∷◌, Option, Some, None, sym, ap, subst, ◌∙◌, arith, length}
use Rattle.std.specs.Prelude.{slice_get, option_map}
use Rattle.std.specs.List.{All}
use Rattle.std.specs.Cmp.{IsTotalOrder}
use Rattle.std.specs.Ordering.{ordering_reverse}
use Rattle.std.specs.declared.cmp.Ordering.{Ordering}
use Rattle.std.specs.declared.cmp.Ordering.TheVariants.{Less, Greater}
use Rattle.std.proofs.lemmas.Cmp.{lists_total, nat_cmp_total, nat_list_cmp_total, on_total, then_total}
use Rattle.std.proofs.lemmas.List.Elements.{All-append, All-cons, All-head, All-nil, All-weaker}
use Rattle.nc_names.specs.declared.path.Row.{Row}
use Rattle.nc_names.specs.declared.path.Step.{Step}
use Rattle.nc_branches.specs.Branches.{Branches}
use Rattle.nc_branches.specs.inner.Shoots.{Shoot, own_rows, rows_of}
use Rattle.nc_branches.specs.inner.Forks.{IsForkOf}
use Rattle.nc_branches.specs.declared.tree.Fork.{Fork}
use Rattle.nc_branches.specs.inner.Order.{AreUnder, AreBefore, AreAfter, AreParted, HasBeside, IsOnSide, IsSide, IsUnder, depth_of, step_cmp}

pub step_total : IsTotalOrder step_cmp
step_total = then_total (on_total (λ (s : Step). s.node) nat_cmp_total) (on_total (λ (s : Step). s.keys) (lists_total nat_list_cmp_total))

pub chain_greater : (x y z : Step) → step_cmp x y ≡ Greater → step_cmp y z ≡ Greater → step_cmp x z ≡ Greater
chain_greater x y z first second =
    let one : step_cmp y x ≡ Less = step_total.antisymm y x ∙ ap ordering_reverse first in
    let two : step_cmp z y ≡ Less = step_total.antisymm z y ∙ ap ordering_reverse second in
    step_total.antisymm x z ∙ ap ordering_reverse (step_total.trans z y x two one)

-- what is on one side of a step is on that side of what is further on
pub through : (side : Ordering) (own step : Step) → ((x : Step) → step_cmp x own ≡ side → step_cmp x step ≡ side) → (o : Option Step) → option_map (λ s. step_cmp s own) o ≡ Some side → option_map (λ s. step_cmp s step) o ≡ Some side
through side own step chain None e = cc
through side own step chain (Some x) e = let inner : step_cmp x own ≡ side = cc in ap Some (chain x inner)

pub get_append : {X : Type 0} (xs ys : List X) (n : ℕ) (x : X) → slice_get xs n ≡ Some x → slice_get (xs ++ ys) n ≡ Some x
get_append [] ys n x e = cc
get_append (y ∷ xs) ys zero x e = e
get_append (y ∷ xs) ys (suc n) x e = get_append xs ys n x e

-- the rows at and below a node are on its side
pub twig_side : (side : Ordering) (depth : ℕ) (step : Step) (twig : Shoot) → IsOnSide side depth step twig → All (IsSide side depth step) (rows_of twig)
unfolding AreUnder
twig_side side depth step twig at = All-append (IsSide side depth step) (own_rows twig.stands twig.row) twig.below.rows (own twig.stands) (All-weaker (IsUnder twig.row.path.steps) (IsSide side depth step) under twig.below.rows at.under)
  where
    there : (row : Row) → slice_get row.path.steps depth ≡ Some at.own → IsSide side depth step row
    there row is = ap (option_map (λ s. step_cmp s step)) is ∙ ap Some at.side_is

    own : (stands : Bool) → All (IsSide side depth step) (own_rows stands twig.row)
    own true = All-cons (IsSide side depth step) twig.row [] (there twig.row at.own_is) (All-nil (IsSide side depth step))
    own false = All-nil (IsSide side depth step)

    under : (row : Row) → IsUnder twig.row.path.steps row → IsSide side depth step row
    under row below = there row (ap (λ steps. slice_get steps depth) below.1 ∙ get_append twig.row.path.steps below.0 depth at.own at.own_is)

pub before_none : (depth : ℕ) (step : Step) → AreBefore depth step []
unfolding AreBefore
before_none depth step = All-nil (IsSide Less depth step)

pub after_none : (depth : ℕ) (step : Step) → AreAfter depth step []
unfolding AreAfter
after_none depth step = All-nil (IsSide Greater depth step)

pub before_more : (depth : ℕ) (step : Step) (left right others : List Row) (twig : Shoot) → AreParted twig left others → IsOnSide Less depth step twig → AreBefore depth step right → AreBefore depth step (left ++ rows_of twig ++ right)
unfolding AreBefore AreAfter
before_more depth step left right others twig parted at on_right =
    let P : Row → Type 0 = IsSide Less depth step in
    let there : slice_get twig.row.path.steps (depth_of twig) ≡ Some at.own = subst (λ d. slice_get twig.row.path.steps d ≡ Some at.own) (sym at.depth_is) at.own_is in
    let far : All (IsSide Less depth at.own) left = subst (λ d. All (IsSide Less d at.own) left) at.depth_is (parted at.own there).0 in
    let near : All P left = All-weaker (IsSide Less depth at.own) P (λ row e. through Less at.own step (λ x f. step_total.trans x at.own step f at.side_is) (slice_get row.path.steps depth) e) left far in
    All-append P (left ++ rows_of twig) right (All-append P left (rows_of twig) near (twig_side Less depth step twig at)) on_right

pub after_more : (depth : ℕ) (step : Step) (left right others : List Row) (twig : Shoot) → AreParted twig others right → IsOnSide Greater depth step twig → AreAfter depth step left → AreAfter depth step (left ++ rows_of twig ++ right)
unfolding AreBefore AreAfter
after_more depth step left right others twig parted at on_left =
    let P : Row → Type 0 = IsSide Greater depth step in
    let there : slice_get twig.row.path.steps (depth_of twig) ≡ Some at.own = subst (λ d. slice_get twig.row.path.steps d ≡ Some at.own) (sym at.depth_is) at.own_is in
    let far : All (IsSide Greater depth at.own) right = subst (λ d. All (IsSide Greater d at.own) right) at.depth_is (parted at.own there).1 in
    let near : All P right = All-weaker (IsSide Greater depth at.own) P (λ row e. through Greater at.own step (λ x f. chain_greater x at.own step f at.side_is) (slice_get row.path.steps depth) e) right far in
    All-append P (left ++ rows_of twig) right (All-append P left (rows_of twig) on_left (twig_side Greater depth step twig at)) near

pub fork_before : (depth : ℕ) (step : Step) (branches : Branches) (fork : Fork) → IsForkOf branches fork → fork.ordered ≡ true → IsOnSide Less depth step fork.twig → AreBefore depth step fork.right.rows → AreBefore depth step branches.rows
fork_before depth step branches fork is ordered at rest =
    subst (AreBefore depth step) (sym is.rows) (before_more depth step fork.left.rows fork.right.rows fork.right.rows fork.twig (is.parted ordered) at rest)

pub fork_after : (depth : ℕ) (step : Step) (branches : Branches) (fork : Fork) → IsForkOf branches fork → fork.ordered ≡ true → IsOnSide Greater depth step fork.twig → AreAfter depth step fork.left.rows → AreAfter depth step branches.rows
fork_after depth step branches fork is ordered at rest =
    subst (AreAfter depth step) (sym is.rows) (after_more depth step fork.left.rows fork.right.rows fork.left.rows fork.twig (is.parted ordered) at rest)

-- what has something after it that comes before a step comes before that step
less_between : (own step : Step) (o : Option Step) → option_map (λ s. step_cmp s own) o ≡ Some Greater → option_map (λ s. step_cmp s step) o ≡ Some Less → step_cmp own step ≡ Less
less_between own step None far near = cc
less_between own step (Some x) far near =
    let after : step_cmp x own ≡ Greater = cc in
    let before : step_cmp x step ≡ Less = cc in
    step_total.trans own x step (step_total.antisymm own x ∙ ap ordering_reverse after) before

greater_between : (own step : Step) (o : Option Step) → option_map (λ s. step_cmp s own) o ≡ Some Less → option_map (λ s. step_cmp s step) o ≡ Some Greater → step_cmp own step ≡ Greater
greater_between own step None far near = cc
greater_between own step (Some x) far near =
    let before : step_cmp x own ≡ Less = cc in
    let after : step_cmp x step ≡ Greater = cc in
    chain_greater own x step (step_total.antisymm own x ∙ ap ordering_reverse before) after

less_by_first : (depth : ℕ) (own step : Step) (rows : List Row) → 0 < length rows → All (IsSide Greater depth own) rows → All (IsSide Less depth step) rows → step_cmp own step ≡ Less
less_by_first depth own step [] some far near = absurd (omega (arith, some))
less_by_first depth own step (row ∷ rows) some far near =
    less_between own step (slice_get row.path.steps depth) (All-head (IsSide Greater depth own) row rows far) (All-head (IsSide Less depth step) row rows near)

greater_by_first : (depth : ℕ) (own step : Step) (rows : List Row) → 0 < length rows → All (IsSide Less depth own) rows → All (IsSide Greater depth step) rows → step_cmp own step ≡ Greater
greater_by_first depth own step [] some far near = absurd (omega (arith, some))
greater_by_first depth own step (row ∷ rows) some far near =
    greater_between own step (slice_get row.path.steps depth) (All-head (IsSide Less depth own) row rows far) (All-head (IsSide Greater depth step) row rows near)

-- the step of a node that parts its siblings is on the side of those beside it
beside_less : (depth : ℕ) (step : Step) (left right : List Row) (twig : Shoot) → AreParted twig left right → HasBeside depth twig right → AreBefore depth step right → IsOnSide Less depth step twig
unfolding AreBefore AreAfter
beside_less depth step left right twig parted at near =
    let there : slice_get twig.row.path.steps (depth_of twig) ≡ Some at.own = subst (λ d. slice_get twig.row.path.steps d ≡ Some at.own) (sym at.depth_is) at.own_is in
    let far : All (IsSide Greater depth at.own) right = subst (λ d. All (IsSide Greater d at.own) right) at.depth_is (parted at.own there).1 in
    record { depth_is = at.depth_is; own = at.own; own_is = at.own_is; side_is = less_by_first depth at.own step right at.some far near; under = at.under }

beside_greater : (depth : ℕ) (step : Step) (left right : List Row) (twig : Shoot) → AreParted twig left right → HasBeside depth twig left → AreAfter depth step left → IsOnSide Greater depth step twig
unfolding AreBefore AreAfter
beside_greater depth step left right twig parted at near =
    let there : slice_get twig.row.path.steps (depth_of twig) ≡ Some at.own = subst (λ d. slice_get twig.row.path.steps d ≡ Some at.own) (sym at.depth_is) at.own_is in
    let far : All (IsSide Less depth at.own) left = subst (λ d. All (IsSide Less d at.own) left) at.depth_is (parted at.own there).0 in
    record { depth_is = at.depth_is; own = at.own; own_is = at.own_is; side_is = greater_by_first depth at.own step left at.some far near; under = at.under }

pub led_before : (depth : ℕ) (step : Step) (branches : Branches) (fork : Fork) → IsForkOf branches fork → fork.ordered ≡ true → HasBeside depth fork.twig fork.right.rows → AreBefore depth step fork.right.rows → AreBefore depth step branches.rows
led_before depth step branches fork is ordered at rest =
    fork_before depth step branches fork is ordered (beside_less depth step fork.left.rows fork.right.rows fork.twig (is.parted ordered) at rest) rest

pub led_after : (depth : ℕ) (step : Step) (branches : Branches) (fork : Fork) → IsForkOf branches fork → fork.ordered ≡ true → HasBeside depth fork.twig fork.left.rows → AreAfter depth step fork.left.rows → AreAfter depth step branches.rows
led_after depth step branches fork is ordered at rest =
    fork_after depth step branches fork is ordered (beside_greater depth step fork.left.rows fork.right.rows fork.twig (is.parted ordered) at rest) rest
