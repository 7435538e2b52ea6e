-- Where the rows at some steps, and below them, stand.
use Rattle.std.proofs.Common.{◌≡◌, ◌≢◌, ◌++◌, ℕ, Bool, true, false, List, Option, Some, None, refl, sym, ap, subst, ◌∙◌, length}
use Rattle.std.specs.Prelude.{slice_get, option_map, drop}
use Rattle.std.specs.List.{All}
use Rattle.std.specs.declared.cmp.Ordering.{Ordering}
use Rattle.std.specs.declared.cmp.Ordering.TheVariants.{Less, Equal, Greater}
use Rattle.std.proofs.lemmas.Slice.Eq.{starts_is}
use Rattle.std.proofs.lemmas.List.Elements.{All-weaker}
use Rattle.std.proofs.lemmas.Cmp.{tied_itself}
use Rattle.nc_names.proofs.SameLemmas.{step_decide}
use Rattle.nc_names.specs.Same.{is_at_or_below}
use Rattle.nc_names.specs.declared.path.Row.{Row}
use Rattle.nc_names.specs.declared.path.Step.{Step}
use Rattle.nc_branches.specs.inner.Shoots.{Shoot, rows_of}
use Rattle.nc_branches.specs.inner.Forks.{IsParted}
use Rattle.nc_branches.specs.declared.tree.Fork.{Fork}
use Rattle.nc_branches.specs.inner.Order.{AreBefore, AreAfter, IsSide, depth_of, step_cmp}
use Rattle.nc_branches.specs.inner.Places.{AreApart, IsAsked}
use Rattle.nc_branches.proofs.Sides.{get_append, step_total, twig_side}

-- what is at or below steps goes on with them
pub goes_on : (steps : List Step) (row : Row) → is_at_or_below steps row.path ≡ true → row.path.steps ≡ steps ++ drop (length steps) row.path.steps
goes_on steps row is = (starts_is step_decide row.path.steps steps (is_at_or_below steps row.path) refl).0 is

pub is_below : (steps rest : List Step) (row : Row) → row.path.steps ≡ steps ++ rest → is_at_or_below steps row.path ≡ true
is_below steps rest row is = (starts_is step_decide row.path.steps steps (is_at_or_below steps row.path) refl).1 rest is

-- a row that has another step at a depth is apart
pub other_step : (steps : List Step) (row : Row) (depth : ℕ) (asked own : Step) → slice_get steps depth ≡ Some asked → slice_get row.path.steps depth ≡ Some own → step_cmp own asked ≢ Equal → is_at_or_below steps row.path ≡ false
other_step steps row depth asked own asked_is own_is other = by (is_at_or_below steps row.path) refl
  where
    by : (b : Bool) → is_at_or_below steps row.path ≡ b → b ≡ false
    by false e = refl
    by true e =
        let there : slice_get row.path.steps depth ≡ Some asked = ap (λ xs. slice_get xs depth) (goes_on steps row e) ∙ get_append steps (drop (length steps) row.path.steps) depth asked asked_is in
        let same : own ≡ asked = cc in
        absurd (other (subst (λ s. step_cmp own s ≡ Equal) same (tied_itself step_total own)))

-- rows on one side of a step are apart from steps on another side
side_apart : (steps : List Step) (depth : ℕ) (asked own : Step) (side way : Ordering) → slice_get steps depth ≡ Some asked → step_cmp asked own ≡ way → side ≢ way →
    (rows : List Row) → All (IsSide side depth own) rows → AreApart steps rows
unfolding AreApart
side_apart steps depth asked own side way asked_is way_is other rows all = All-weaker (IsSide side depth own) (λ row. is_at_or_below steps row.path ≡ false) (λ row e. at row (slice_get row.path.steps depth) refl e) rows all
  where
    far : (x : Step) → step_cmp x own ≡ side → step_cmp x asked ≢ Equal
    far x on same = other (sym on ∙ step_total.congr x asked own same ∙ way_is)

    at : (row : Row) (o : Option Step) → slice_get row.path.steps depth ≡ o → option_map (λ s. step_cmp s own) o ≡ Some side → is_at_or_below steps row.path ≡ false
    at row None is e = cc
    at row (Some x) is e = let on : step_cmp x own ≡ side = cc in other_step steps row depth asked x asked_is is (far x on)

-- so is all that is at or below a node with another step
pub twig_apart : (steps : List Step) (twig : Shoot) (way : Ordering) → IsAsked way steps twig → Equal ≢ way → AreApart steps (rows_of twig)
twig_apart steps twig way at other =
    side_apart steps (depth_of twig) at.asked at.own Equal way at.asked_is at.way_is other (rows_of twig)
    (twig_side Equal (depth_of twig) at.own twig (record { depth_is = refl; own = at.own; own_is = at.own_is; side_is = tied_itself step_total at.own; under = at.under }))

left_apart : (steps : List Step) (fork : Fork) (way : Ordering) → IsParted fork → fork.ordered ≡ true → IsAsked way steps fork.twig → Less ≢ way → AreApart steps fork.left.rows
unfolding AreBefore
left_apart steps fork way parted ordered at other = side_apart steps (depth_of fork.twig) at.asked at.own Less way at.asked_is at.way_is other fork.left.rows (parted ordered at.own at.own_is).0

right_apart : (steps : List Step) (fork : Fork) (way : Ordering) → IsParted fork → fork.ordered ≡ true → IsAsked way steps fork.twig → Greater ≢ way → AreApart steps fork.right.rows
unfolding AreAfter
right_apart steps fork way parted ordered at other = side_apart steps (depth_of fork.twig) at.asked at.own Greater way at.asked_is at.way_is other fork.right.rows (parted ordered at.own at.own_is).1

pub on_the_left : (steps : List Step) (fork : Fork) → IsParted fork → fork.ordered ≡ true → IsAsked Less steps fork.twig → AreApart steps (rows_of fork.twig) × AreApart steps fork.right.rows
on_the_left steps fork parted ordered at = (twig_apart steps fork.twig Less at (λ e. cc), right_apart steps fork Less parted ordered at (λ e. cc))

pub on_the_right : (steps : List Step) (fork : Fork) → IsParted fork → fork.ordered ≡ true → IsAsked Greater steps fork.twig → AreApart steps fork.left.rows × AreApart steps (rows_of fork.twig)
on_the_right steps fork parted ordered at = (left_apart steps fork Greater parted ordered at (λ e. cc), twig_apart steps fork.twig Greater at (λ e. cc))

pub here : (steps : List Step) (fork : Fork) → IsParted fork → fork.ordered ≡ true → IsAsked Equal steps fork.twig → AreApart steps fork.left.rows × AreApart steps fork.right.rows
here steps fork parted ordered at = (left_apart steps fork Equal parted ordered at (λ e. cc), right_apart steps fork Equal parted ordered at (λ e. cc))
