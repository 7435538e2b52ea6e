-- Where a path goes on in a tree.
use Rattle.std.proofs.Common.{◌≡◌, ◌++◌, ℕ, true, false, List, Option}
use Rattle.nc_names.specs.declared.path.Row.{Row}
use Rattle.std.specs.declared.cmp.Ordering.TheVariants.{Less, Equal, Greater}
use Rattle.nc_branches.specs.Branches.{Branches}
use Rattle.nc_branches.specs.inner.Shoots.{rows_of}
use Rattle.nc_branches.specs.inner.Forks.{IsForkOf}
use Rattle.nc_branches.specs.inner.Places.{IsAsked}
use Rattle.nc_branches.specs.inner.Putting.{Aiming, AreAside, IsPut}
use Rattle.nc_branches.specs.inner.Ready.{IsReady}
use Rattle.nc_branches.specs.inner.Free.{FreeAt}
use Rattle.nc_branches.specs.inner.Ways.{GoesOn}
use Rattle.nc_branches.specs.declared.way.Way.TheVariants.{Left, Here, Right, Unknown}
use Rattle.nc_branches.specs.declared.tree.Fork.{Fork}
use Rattle.nc_branches.proofs.Aside.{put_between, put_left_of, put_right_of}
use Rattle.nc_branches.proofs.Placing.{put_here, put_left, put_right}

pub unknown : (aim : Aiming) (depth : ℕ) (above : Option ℕ) (branches : Branches) (fork : Fork) → GoesOn Unknown aim depth above branches fork
unfolding GoesOn
unknown aim depth above branches fork = tt

pub marked_left : (aim : Aiming) (depth : ℕ) (above : Option ℕ) (branches : Branches) (fork : Fork) → IsForkOf branches fork → IsReady aim depth above fork → FreeAt aim depth branches.rows → IsAsked Less aim.steps fork.twig → GoesOn Left aim depth above branches fork
unfolding GoesOn
marked_left aim depth above branches fork is ready free at = λ left new inner same. put_left aim depth above branches fork left new is ready free at inner same

pub marked_here : (aim : Aiming) (depth : ℕ) (above : Option ℕ) (branches : Branches) (fork : Fork) → IsForkOf branches fork → IsReady aim depth above fork → FreeAt aim depth branches.rows → IsAsked Equal aim.steps fork.twig → GoesOn Here aim depth above branches fork
unfolding GoesOn
marked_here aim depth above branches fork is ready free at = λ here new inner same. put_here aim depth above branches fork here new is ready free at inner same

pub marked_right : (aim : Aiming) (depth : ℕ) (above : Option ℕ) (branches : Branches) (fork : Fork) → IsForkOf branches fork → IsReady aim depth above fork → FreeAt aim depth branches.rows → IsAsked Greater aim.steps fork.twig → GoesOn Right aim depth above branches fork
unfolding GoesOn
marked_right aim depth above branches fork is ready free at = λ right new inner same. put_right aim depth above branches fork right new is ready free at inner same

pub seen_left : (aim : Aiming) (depth : ℕ) (above : Option ℕ) (branches : Branches) (fork : Fork) → IsForkOf branches fork → AreAside false aim depth above (rows_of fork.twig) → AreAside false aim depth above fork.right.rows → GoesOn Left aim depth above branches fork
unfolding GoesOn
seen_left aim depth above branches fork is here right = λ left new inner same. put_left_of aim depth above branches fork left new is here right inner same

pub seen_right : (aim : Aiming) (depth : ℕ) (above : Option ℕ) (branches : Branches) (fork : Fork) → IsForkOf branches fork → AreAside true aim depth above fork.left.rows → AreAside true aim depth above (rows_of fork.twig) → GoesOn Right aim depth above branches fork
unfolding GoesOn
seen_right aim depth above branches fork is left here = λ right new inner same. put_right_of aim depth above branches fork right new is left here inner same

pub seen_here : (aim : Aiming) (depth : ℕ) (above : Option ℕ) (branches : Branches) (fork : Fork) → IsForkOf branches fork → AreAside true aim depth above fork.left.rows → AreAside false aim depth above fork.right.rows → GoesOn Here aim depth above branches fork
unfolding GoesOn
seen_here aim depth above branches fork is left right = λ here new inner same. put_between aim depth above branches fork here new is left right inner same

pub in_left : (aim : Aiming) (depth : ℕ) (above : Option ℕ) (branches : Branches) (fork : Fork) → GoesOn Left aim depth above branches fork → (left new : List Row) → IsPut aim depth above fork.left.rows left → new ≡ left ++ rows_of fork.twig ++ fork.right.rows → IsPut aim depth above branches.rows new
unfolding GoesOn
in_left aim depth above branches fork on = on

pub in_here : (aim : Aiming) (depth : ℕ) (above : Option ℕ) (branches : Branches) (fork : Fork) → GoesOn Here aim depth above branches fork → (here new : List Row) → IsPut aim depth above (rows_of fork.twig) here → new ≡ fork.left.rows ++ here ++ fork.right.rows → IsPut aim depth above branches.rows new
unfolding GoesOn
in_here aim depth above branches fork on = on

pub in_right : (aim : Aiming) (depth : ℕ) (above : Option ℕ) (branches : Branches) (fork : Fork) → GoesOn Right aim depth above branches fork → (right new : List Row) → IsPut aim depth above fork.right.rows right → new ≡ fork.left.rows ++ rows_of fork.twig ++ right → IsPut aim depth above branches.rows new
unfolding GoesOn
in_right aim depth above branches fork on = on
