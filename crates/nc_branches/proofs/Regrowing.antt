-- What was marked of siblings, when others are put among them on one side of a node.
use Rattle.std.proofs.Common.{◌≡◌, ℕ, Bool, true, false, List, Option, Some, None, refl, sym, ap, subst, ◌∙◌}
use Rattle.std.specs.Prelude.{IfSome, slice_get, option_map}
use Rattle.std.specs.List.{All}
use Rattle.std.specs.Option.{option_map_or}
use Rattle.std.specs.Ordering.{is_gt, is_lt}
use Rattle.std.specs.declared.cmp.Ordering.{Ordering}
use Rattle.std.specs.declared.cmp.Ordering.TheVariants.{Less, Equal, Greater}
use Rattle.std.proofs.lemmas.List.Elements.{All-weaker}
use Rattle.nc_names.specs.declared.path.Row.{Row}
use Rattle.nc_names.specs.declared.path.Step.{Step}
use Rattle.nc_branches.specs.Branches.{Branches}
use Rattle.nc_branches.specs.inner.Forks.{IsForkOf}
use Rattle.nc_branches.specs.inner.Order.{AreAfter, AreBefore, AreParted, AreUnder, IsSide, IsUnder, depth_of, step_cmp}
use Rattle.nc_branches.specs.inner.Places.{IsAsked}
use Rattle.nc_branches.specs.inner.Putting.{Aiming, IsFrom}
use Rattle.nc_branches.specs.inner.Regrown.{IsPassed, IsRegrown}
use Rattle.nc_branches.specs.inner.Steady.{AreBy, AreNumbered, AreWhole, AreWholeParts, is_high, is_low}
use Rattle.nc_branches.specs.inner.Turning.{Puts}
use Rattle.nc_branches.specs.declared.labels.Turn.{Turn}
use Rattle.nc_branches.specs.declared.tree.Fork.{Fork}
use Rattle.nc_branches.proofs.Sides.{get_append}

some_same : (a b : Step) → Some a ≡ Some b → a ≡ b
some_same a b e = cc

-- a row at or below a path has its steps
under_get : (steps : List Step) (depth : ℕ) (asked : Step) → slice_get steps depth ≡ Some asked → (row : Row) → IsUnder steps row → slice_get row.path.steps depth ≡ Some asked
under_get steps depth asked there row under = ap (λ xs. slice_get xs depth) under.1 ∙ get_append steps under.0 depth asked there

-- Whether a row is on one side of a step, as a test.

abbrev on_side : (Ordering → Bool) → ℕ → Step → Row → Bool
on_side is depth step row = option_map_or (λ own. is (step_cmp own step)) (slice_get row.path.steps depth) false

module _ (is : Ordering → Bool) (side : Ordering) (only : (o : Ordering) → is o ≡ true → o ≡ side) (it : is side ≡ true) where
  side_of : (depth : ℕ) (step : Step) (row : Row) → IsSide side depth step row → on_side is depth step row ≡ true
  side_of depth step row e = by (slice_get row.path.steps depth) e
    where
      by : (o : Option Step) → option_map (λ own. step_cmp own step) o ≡ Some side → option_map_or (λ own. is (step_cmp own step)) o false ≡ true
      by None e = absurd (cc e)
      by (Some own) e = let on : step_cmp own step ≡ side = cc in ap is on ∙ it

  side_by : (depth : ℕ) (step : Step) (row : Row) → on_side is depth step row ≡ true → IsSide side depth step row
  side_by depth step row e = by (slice_get row.path.steps depth) e
    where
      by : (o : Option Step) → option_map_or (λ own. is (step_cmp own step)) o false ≡ true → option_map (λ own. step_cmp own step) o ≡ Some side
      by None e = absurd (cc e)
      by (Some own) e = ap Some (only (step_cmp own step) e)

  -- rows from some on a side of a step, and from a block that is on that side too, are there
  stay_on : (aim : Aiming) (depth : ℕ) (step asked : Step) (old new : List Row) → slice_get aim.steps depth ≡ Some asked → step_cmp asked step ≡ side → AreUnder aim.steps aim.block → IsFrom aim.block old new →
      All (IsSide side depth step) old → All (IsSide side depth step) new
  unfolding AreUnder
  stay_on aim depth step asked old new there on under from sides =
      let test : Row → Bool = on_side is depth step in
      let P : Row → Type 0 = λ row. test row ≡ true in
      let Q : Row → Type 0 = IsSide side depth step in
      let block : All Q aim.block = All-weaker (IsUnder aim.steps) Q (λ row u. ap (option_map (λ own. step_cmp own step)) (under_get aim.steps depth asked there row u) ∙ ap Some on) aim.block under in
      All-weaker P Q (side_by depth step) new
      (from test (All-weaker Q P (side_of depth step) old sides) (All-weaker Q P (side_of depth step) aim.block block))

lt_only : (o : Ordering) → is_lt o ≡ true → o ≡ Less
lt_only Less e = refl
lt_only Equal e = absurd (cc e)
lt_only Greater e = absurd (cc e)

gt_only : (o : Ordering) → is_gt o ≡ true → o ≡ Greater
gt_only Less e = absurd (cc e)
gt_only Equal e = absurd (cc e)
gt_only Greater e = refl

-- how the path's step compares with the node's
compared : (way : Ordering) (aim : Aiming) (side : Option Ordering) (fork : Fork) (old new : List Row) → IsRegrown aim side fork old new → side ≡ Some way → IsAsked way aim.steps fork.twig
compared way aim side fork old new grown is =
    subst (λ (o : Option Ordering). IfSome o (λ found. IsAsked found aim.steps fork.twig)) is grown.compared

asked_on : (way : Ordering) (aim : Aiming) (fork : Fork) (step : Step) → (at : IsAsked way aim.steps fork.twig) → slice_get fork.twig.row.path.steps (depth_of fork.twig) ≡ Some step → step_cmp at.asked step ≡ way
asked_on way aim fork step at step_is =
    subst (λ own. step_cmp at.asked own ≡ way) (some_same at.own step (sym at.own_is ∙ step_is)) at.way_is

pub parted_left : (aim : Aiming) (side : Option Ordering) (fork : Fork) (left : List Row) → IsRegrown aim side fork fork.left.rows left → fork.ordered ≡ true → side ≡ Some Less → AreParted fork.twig left fork.right.rows
unfolding AreBefore
parted_left aim side fork left grown ordered is = λ step step_is.
    let at = compared Less aim side fork fork.left.rows left grown is in
    let both = grown.is.parted ordered step step_is in (
      stay_on is_lt Less lt_only refl aim (depth_of fork.twig) step at.asked fork.left.rows left at.asked_is (asked_on Less aim fork step at step_is) grown.under grown.from both.0,
      both.1,
    )

pub parted_right : (aim : Aiming) (side : Option Ordering) (fork : Fork) (right : List Row) → IsRegrown aim side fork fork.right.rows right → fork.ordered ≡ true → side ≡ Some Greater → AreParted fork.twig fork.left.rows right
unfolding AreAfter
parted_right aim side fork right grown ordered is = λ step step_is.
    let at = compared Greater aim side fork fork.right.rows right grown is in
    let both = grown.is.parted ordered step step_is in (
      both.0,
      stay_on is_gt Greater gt_only refl aim (depth_of fork.twig) step at.asked fork.right.rows right at.asked_is (asked_on Greater aim fork step at step_is) grown.under grown.from both.1,
    )

-- rows whose steps pass a test at a depth, and a block whose step passes it
stay_by : (test : Step → Bool) (aim : Aiming) (depth : ℕ) (asked : Step) (old new : List Row) → slice_get aim.steps depth ≡ Some asked → test asked ≡ true → AreUnder aim.steps aim.block → IsFrom aim.block old new → AreBy depth test old → AreBy depth test new
unfolding AreBy AreUnder
stay_by test aim depth asked old new there passes under from all =
    let by : Row → Bool = λ row. option_map_or test (slice_get row.path.steps depth) false in
    from by all (All-weaker (IsUnder aim.steps) (λ row. by row ≡ true) (λ row u. ap (λ (o : Option Step). option_map_or test o false) (under_get aim.steps depth asked there row u) ∙ passes) aim.block under)

pub numbered_left : (aim : Aiming) (side : Option Ordering) (fork : Fork) (left : List Row) → IsRegrown aim side fork fork.left.rows left → fork.numbered ≡ true → IsPassed is_low aim.steps fork.twig → AreNumbered fork.twig left fork.right.rows
numbered_left aim side fork left grown numbered at = λ step step_is.
    let both = grown.is.numbers numbered step step_is in
    let passes : is_low step at.asked ≡ true = subst (λ own. is_low own at.asked ≡ true) (some_same at.own step (sym at.own_is ∙ step_is)) at.passes in
    (stay_by (is_low step) aim (depth_of fork.twig) at.asked fork.left.rows left at.asked_is passes grown.under grown.from both.0, both.1)

pub numbered_right : (aim : Aiming) (side : Option Ordering) (fork : Fork) (right : List Row) → IsRegrown aim side fork fork.right.rows right → fork.numbered ≡ true → IsPassed is_high aim.steps fork.twig → AreNumbered fork.twig fork.left.rows right
numbered_right aim side fork right grown numbered at = λ step step_is.
    let both = grown.is.numbers numbered step step_is in
    let passes : is_high step at.asked ≡ true = subst (λ own. is_high own at.asked ≡ true) (some_same at.own step (sym at.own_is ∙ step_is)) at.passes in
    (both.0, stay_by (is_high step) aim (depth_of fork.twig) at.asked fork.right.rows right at.asked_is passes grown.under grown.from both.1)

pub whole_left : (aim : Aiming) (side : Option Ordering) (fork : Fork) (left : List Row) → IsRegrown aim side fork fork.left.rows left → fork.whole ≡ true → AreWhole (depth_of fork.twig) left → AreWholeParts fork.twig left fork.right.rows
whole_left aim side fork left grown whole beside = let parts = grown.is.wholes whole in (beside, parts.1, parts.2)

pub whole_right : (aim : Aiming) (side : Option Ordering) (fork : Fork) (right : List Row) → IsRegrown aim side fork fork.right.rows right → fork.whole ≡ true → AreWhole (depth_of fork.twig) right → AreWholeParts fork.twig fork.left.rows right
whole_right aim side fork right grown whole beside = let parts = grown.is.wholes whole in (parts.0, parts.1, beside)

-- so it is with what was put in a part
pub regrown : (turn : Turn) (free : Bool) (aim : Aiming) (depth : ℕ) (above : Option ℕ) (side : Option Ordering) (branches : Branches) (fork : Fork) (old new : List Row) → IsForkOf branches fork → IfSome side (λ way. IsAsked way aim.steps fork.twig) → AreUnder aim.steps aim.block →
    Puts turn free aim depth above old new → IsRegrown aim side fork old new
regrown turn free aim depth above side branches fork old new is asked under puts = record { branches = branches; is = is; compared = asked; under = under; from = puts.from }
