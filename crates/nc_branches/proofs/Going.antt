-- Rows that are put in a part of a tree, where the entries stand so to the path.
use Rattle.std.proofs.Common.{◌≡◌, ◌++◌, ◌+◌, ◌<◌, ℕ, Bool, true, List, [], ◌∷◌, Option, Some, sym, ap, subst, ◌∙◌, arith, length, drop}
use Rattle.std.specs.Prelude.{slice_get}
use Rattle.std.specs.List.{All}
use Rattle.std.specs.Option.{option_map_or}
use Rattle.std.proofs.lemmas.List.{append-nil, length-append, nil_from_length}
use Rattle.std.proofs.lemmas.List.Elements.{All-append, All-head, All-weaker}
use Rattle.nc_names.proofs.SameLemmas.{value_decide}
use Rattle.nc_names.specs.Same.{is_at_or_below, is_same_value}
use Rattle.nc_names.specs.declared.path.Row.{Row}
use Rattle.nc_names.specs.declared.path.Step.{Step}
use Rattle.nc_branches.specs.Branches.{Branches}
use Rattle.nc_branches.specs.inner.Forks.{IsForkOf}
use Rattle.nc_branches.specs.inner.Free.{FreeWhere}
use Rattle.nc_branches.specs.inner.Order.{AreUnder, IsUnder}
use Rattle.nc_branches.specs.inner.Putting.{Aiming, HasBlock, IsAlone, Leads, Pass}
use Rattle.nc_branches.specs.inner.Shoots.{Shoot, own_rows, rows_of}
use Rattle.nc_branches.specs.inner.Turning.{IsPartOf, IsTurned, Puts, PutsIn}
use Rattle.nc_branches.specs.inner.Ways.{Goes}
use Rattle.nc_branches.specs.declared.labels.Turn.{Turn}
use Rattle.nc_branches.specs.declared.tree.Fork.{Fork}
use Rattle.nc_branches.specs.declared.way.Way.{Way}
use Rattle.nc_branches.specs.declared.way.Way.TheVariants.{Left, Here, Right}
use Rattle.nc_branches.proofs.Beside.{goes_in_left, goes_in_right}
use Rattle.nc_branches.proofs.FreeRows.{free_left, free_right}
use Rattle.nc_branches.proofs.Leading.{put_on, put_there}
use Rattle.nc_branches.proofs.Places.{goes_on, is_below}
use Rattle.nc_branches.proofs.Placing.{all_first, all_second, parts_all, put_none, whole_all}
use Rattle.nc_branches.proofs.Turned.{turned_below}
use Rattle.nc_branches.proofs.Ways.{in_here, in_left, in_right}

-- what passes a test
abbrev P : (Row → Bool) → Row → Type 0
P test row = test row ≡ true

-- nothing stood there
pub puts_none : (turn : Turn) (free : Bool) (aim : Aiming) (depth : ℕ) (above : Option ℕ) (old new : List Row) → old ≡ [] → new ≡ aim.block → Puts turn free aim depth above old new
puts_none turn free aim depth above old new none same = record {
  from = λ test old block. subst (Pass test) (sym same) block;
  put = λ turned seen. put_none aim depth above old new none same;
}

-- in one of the three parts
pub puts_left : (turn next : Turn) (free : Bool) (way : Way) (aim : Aiming) (depth : ℕ) (above : Option ℕ) (branches : Branches) (fork : Fork) (left new : List Row) → IsForkOf branches fork → way ≡ Left → (IsTurned turn aim depth branches.rows → FreeWhere free aim depth branches.rows → Goes way next aim depth above branches fork) → Puts next free aim depth above fork.left.rows left → new ≡ left ++ rows_of fork.twig ++ fork.right.rows → Puts turn free aim depth above branches.rows new
puts_left turn next free way aim depth above branches fork left new is on goes inner same = record {
  from = λ test old block. let u = parts_all (P test) branches fork is old in subst (Pass test) (sym same) (whole_all (P test) left (rows_of fork.twig) fork.right.rows (inner.from test u.0 block) u.1 u.2);
  put = λ turned seen.
      let way_on = subst (λ (w : Way). Goes w next aim depth above branches fork) on (goes turned seen) in
      in_left aim depth above branches fork way_on.on left new (inner.put (goes_in_left next aim depth fork way_on.turned) (λ e. free_left aim depth branches fork is (seen e))) same;
}

pub puts_here : (turn next : Turn) (free : Bool) (way : Way) (aim : Aiming) (depth : ℕ) (above : Option ℕ) (branches : Branches) (fork : Fork) (here new : List Row) → IsForkOf branches fork → way ≡ Here → (IsTurned turn aim depth branches.rows → FreeWhere free aim depth branches.rows → Goes way next aim depth above branches fork) → PutsIn aim depth fork.twig here → new ≡ fork.left.rows ++ here ++ fork.right.rows → Puts turn free aim depth above branches.rows new
puts_here turn next free way aim depth above branches fork here new is on goes inner same = record {
  from = λ test old block. let u = parts_all (P test) branches fork is old in subst (Pass test) (sym same) (whole_all (P test) fork.left.rows here fork.right.rows u.0 (inner.from test u.1 block) u.2);
  put = λ turned seen.
      let way_on = subst (λ (w : Way). Goes w next aim depth above branches fork) on (goes turned seen) in
      in_here aim depth above branches fork way_on.on here new (inner.put above (turned_below turn aim depth branches fork is turned)) same;
}

pub puts_right : (turn next : Turn) (free : Bool) (way : Way) (aim : Aiming) (depth : ℕ) (above : Option ℕ) (branches : Branches) (fork : Fork) (right new : List Row) → IsForkOf branches fork → way ≡ Right → (IsTurned turn aim depth branches.rows → FreeWhere free aim depth branches.rows → Goes way next aim depth above branches fork) → Puts next free aim depth above fork.right.rows right → new ≡ fork.left.rows ++ rows_of fork.twig ++ right → Puts turn free aim depth above branches.rows new
puts_right turn next free way aim depth above branches fork right new is on goes inner same = record {
  from = λ test old block. let u = parts_all (P test) branches fork is old in subst (Pass test) (sym same) (whole_all (P test) fork.left.rows (rows_of fork.twig) right u.0 u.1 (inner.from test u.2 block));
  put = λ turned seen.
      let way_on = subst (λ (w : Way). Goes w next aim depth above branches fork) on (goes turned seen) in
      in_right aim depth above branches fork way_on.on right new (inner.put (goes_in_right next aim depth fork way_on.turned) (λ e. free_right aim depth branches fork is (seen e))) same;
}

-- at the node to which the path leads, or below it
pub puts_last : (aim : Aiming) (depth : ℕ) (twig : Shoot) (new : List Row) → Leads aim depth twig → length aim.steps ≡ depth + 1 → new ≡ aim.block → PutsIn aim depth twig new
puts_last aim depth twig new at len same = record {
  from = λ test old block. subst (Pass test) (sym same) block;
  put = λ above part. put_there aim depth above twig new at len same;
}

pub puts_on : (turn : Turn) (free : Bool) (aim : Aiming) (depth : ℕ) (step : Step) (twig : Shoot) (below : List Row) → Leads aim depth twig → depth + 1 < length aim.steps → slice_get aim.steps depth ≡ Some step → ((rows : List Row) → IsPartOf aim rows → IsTurned turn aim (depth + 1) rows) → FreeWhere free aim (depth + 1) twig.below.rows → Puts turn free aim (depth + 1) (Some step.node) twig.below.rows below → PutsIn aim depth twig (own_rows twig.stands twig.row ++ below)
puts_on turn free aim depth step twig below at long step_is turns seen inner = record {
  from = λ test old block.
      let own = all_first (P test) (own_rows twig.stands twig.row) twig.below.rows old in
      let rest = all_second (P test) (own_rows twig.stands twig.row) twig.below.rows old in
      All-append (P test) (own_rows twig.stands twig.row) below own (inner.from test rest block);
  put = λ above part. put_on aim depth above step twig below at long step_is (inner.put (turns twig.below.rows part) seen);
}

-- what is below the node is below its path
below_of : (path : List Step) (row : Row) → is_at_or_below path row.path ≡ true → IsUnder path row
below_of path row within = (drop (length path) row.path.steps, goes_on path row within)

pub puts_under : (turn : Turn) (free : Bool) (aim : Aiming) (depth : ℕ) (above : Option ℕ) (twig : Shoot) (below : List Row) → Leads aim depth twig → Puts turn free aim (depth + 1) above twig.below.rows below → AreUnder twig.row.path.steps below
unfolding AreUnder
puts_under turn free aim depth above twig below at put =
    let path = twig.row.path.steps in
    let test : Row → Bool = λ row. is_at_or_below path row.path in
    let pass : (rows : List Row) → All (IsUnder path) rows → Pass test rows = λ rows all. All-weaker (IsUnder path) (P test) (λ row under. is_below path under.0 row under.1) rows all in
    All-weaker (P test) (IsUnder path) (below_of path) below (put.from test (pass twig.below.rows at.under) (pass aim.block at.block))

-- Where nothing changes.

-- the node has the block already
pub alone_own : (row : Row) (twig : Shoot) → row ≡ twig.row → twig.stands ≡ true → twig.below.rows ≡ [] → IsAlone row twig
alone_own row twig is stands none = record {
  row_is = is;
  rows_are = (λ i. own_rows (stands i) (sym is i) ++ none i);
}

pub block_alone : (new : Option Shoot) (twig : Shoot) (row : Row) → new ≡ Some twig → IsAlone row twig → option_map_or rows_of new [] ≡ row ∷ []
block_alone new twig row is alone = ap (λ (o : Option Shoot). option_map_or rows_of o []) is ∙ alone.rows_are

pub has_block : (aim : Aiming) (twig : Shoot) (own row : Row) (same : Bool) → IsAlone own twig → aim.block ≡ row ∷ [] → length own.path.steps ≡ length row.path.steps → same ≡ is_same_value own.value row.value → same ≡ true → HasBlock aim twig
has_block aim twig own row same alone block len is e = record {
  row = row;
  block_is = block;
  rows_are = alone.rows_are ∙ ap (λ x. x ∷ []) alone.row_is;
  length_is = ap (λ (x : Row). length x.path.steps) (sym alone.row_is) ∙ len;
  value_is = ap (λ (x : Row). x.value) (sym alone.row_is) ∙ (value_decide own.value row.value).0 (sym is ∙ e);
}

-- a row at or below another one's path that is as long, with its value, is the same
same_row : (own row : Row) → IsUnder own.path.steps row → length own.path.steps ≡ length row.path.steps → own.value ≡ row.value → own ≡ row
same_row own row under len value =
    let none : under.0 ≡ [] = nil_from_length under.0 (shorter own.path.steps under.0 (len ∙ ap length under.1)) in
    let path : own.path.steps ≡ row.path.steps = sym (under.1 ∙ ap (λ xs. own.path.steps ++ xs) none ∙ append-nil own.path.steps) in
    λ i. record { path = record { steps = path i }; value = value i }
  where
    shorter : (path rest : List Step) → length path ≡ length (path ++ rest) → length rest ≡ 0
    shorter path rest same = omega (arith, same, length-append path rest)

pub puts_kept : (aim : Aiming) (depth : ℕ) (twig : Shoot) → Leads aim depth twig → length aim.steps ≡ depth + 1 → HasBlock aim twig → PutsIn aim depth twig (rows_of twig)
unfolding AreUnder
puts_kept aim depth twig at len has =
    let path = twig.row.path.steps in
    let under : All (IsUnder path) (has.row ∷ []) = subst (All (IsUnder path)) has.block_is at.block in
    let same : twig.row ≡ has.row = same_row twig.row has.row (All-head (IsUnder path) has.row [] under) has.length_is has.value_is in
    puts_last aim depth twig (rows_of twig) at len (has.rows_are ∙ ap (λ row. row ∷ []) same ∙ sym has.block_is)
