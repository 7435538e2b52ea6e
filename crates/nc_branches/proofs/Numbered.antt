-- Where a path goes on among siblings that stand by their numbers.
use Rattle.std.proofs.Common.{◌≡◌, ◌||◌, ◌&&◌, ◌==◌, ◌<◌, ℕ, Bool, true, false, ltb, Option, Some, refl, sym, ap, subst, ◌∙◌, arith, drop}
use Rattle.std.specs.Prelude.{slice_get, slice_index_or}
use Rattle.std.specs.Option.{option_map_or}
use Rattle.std.proofs.lemmas.Bool.{ltb-true}
use Rattle.std.proofs.lemmas.List.Elements.{All-weaker}
use Rattle.nc_names.proofs.SameLemmas.{step_decide}
use Rattle.nc_names.specs.Same.{is_same_step}
use Rattle.nc_names.specs.declared.path.Row.{Row}
use Rattle.nc_names.specs.declared.path.Step.{Step}
use Rattle.nc_schema.specs.Order.{keys_above}
use Rattle.nc_schema.specs.Standing.{sibling_before}
use Rattle.nc_branches.specs.Branches.{Branches}
use Rattle.nc_branches.specs.Entries.{are_some}
use Rattle.nc_branches.specs.Orders.{first_order}
use Rattle.nc_branches.specs.inner.Forks.{IsForkOf}
use Rattle.nc_branches.specs.declared.tree.Fork.{Fork}
use Rattle.nc_branches.specs.inner.Free.{AreFree, FreeAt}
use Rattle.nc_branches.specs.inner.Order.{AreUnder, IsUnder, depth_of}
use Rattle.nc_branches.specs.inner.Putting.{Aiming, AreAside}
use Rattle.nc_branches.specs.inner.Shoots.{rows_of}
use Rattle.nc_branches.specs.inner.Steady.{AreBy, is_high, is_low}
use Rattle.nc_branches.specs.inner.Turning.{IsSided, IsSingle}
use Rattle.nc_branches.specs.inner.Ways.{GoesOn, IsOwn}
use Rattle.nc_branches.specs.declared.way.Way.TheVariants.{Left, Here, Right}
use Rattle.nc_branches.proofs.Placing.{own_under, three_free}
use Rattle.nc_branches.proofs.Sides.{get_append}
use Rattle.nc_branches.proofs.Turning.{aside_sided, high_sided, low_sided, side_high, side_low, step_other, stepped}
use Rattle.nc_branches.proofs.Ways.{seen_here, seen_left, seen_right}

-- the rows on the two sides of a node
pub left_by : (depth : ℕ) (own : Step) (branches : Branches) (fork : Fork) → IsForkOf branches fork → fork.numbered ≡ true → IsOwn depth own fork.twig → AreBy depth (is_low own) fork.left.rows
left_by depth own branches fork is numbered at =
    let there : slice_get fork.twig.row.path.steps (depth_of fork.twig) ≡ Some own = subst (λ d. slice_get fork.twig.row.path.steps d ≡ Some own) (sym at.depth_is) at.own_is in
    subst (λ d. AreBy d (is_low own) fork.left.rows) at.depth_is (is.numbers numbered own there).0

pub right_by : (depth : ℕ) (own : Step) (branches : Branches) (fork : Fork) → IsForkOf branches fork → fork.numbered ≡ true → IsOwn depth own fork.twig → AreBy depth (is_high own) fork.right.rows
right_by depth own branches fork is numbered at =
    let there : slice_get fork.twig.row.path.steps (depth_of fork.twig) ≡ Some own = subst (λ d. slice_get fork.twig.row.path.steps d ≡ Some own) (sym at.depth_is) at.own_is in
    subst (λ d. AreBy d (is_high own) fork.right.rows) at.depth_is (is.numbers numbered own there).1

-- where all give no way those of each part do not
frees_at : (aim : Aiming) (depth : ℕ) (asked : Step) (branches : Branches) (fork : Fork) → IsForkOf branches fork → slice_get aim.steps depth ≡ Some asked → FreeAt aim depth branches.rows →
    AreFree aim.tables depth asked fork.left.rows × AreFree aim.tables depth asked (rows_of fork.twig) × AreFree aim.tables depth asked fork.right.rows
unfolding FreeAt
frees_at aim depth asked branches fork is asked_is free = three_free branches fork aim.tables depth asked is (free asked asked_is)

-- a node of another number
twig_numbered : (before : Bool) (aim : Aiming) (depth : ℕ) (above : Option ℕ) (asked own : Step) (fork : Fork) → AreFree aim.tables depth asked (rows_of fork.twig) → slice_get aim.steps depth ≡ Some asked → IsOwn depth own fork.twig → is_same_step own asked ≡ false →
    sibling_before aim.tables (keys_above aim.tables above) (first_order (drop depth aim.orders)) own asked ≡ before → AreAside before aim depth above (rows_of fork.twig)
unfolding AreUnder
twig_numbered before aim depth above asked own fork free asked_is at differ side =
    aside_sided before aim depth above asked (rows_of fork.twig) asked_is free (λ k d l.
    let row : Row = slice_index_or (rows_of fork.twig) k d in
    let inner : IsUnder fork.twig.row.path.steps row = own_under fork.twig at.under k d l in
    record {
      own = own;
      own_is = ap (λ xs. slice_get xs depth) inner.1 ∙ get_append fork.twig.row.path.steps inner.0 depth own at.own_is;
      differ = differ;
      side = side;
    })

pub numbered_right : (aim : Aiming) (depth : ℕ) (above : Option ℕ) (asked own : Step) (branches : Branches) (fork : Fork) → IsForkOf branches fork → fork.numbered ≡ true → IsSingle aim.tables above asked → slice_get aim.steps depth ≡ Some asked → IsOwn depth own fork.twig → FreeAt aim depth branches.rows → own.node < asked.node →
    GoesOn Right aim depth above branches fork
numbered_right aim depth above asked own branches fork is numbered single asked_is at free less =
    seen_right aim depth above branches fork is
    (aside_sided true aim depth above asked fork.left.rows asked_is (frees_at aim depth asked branches fork is asked_is free).0 (low_sided aim depth above asked own fork.left.rows single less (left_by depth own branches fork is numbered at)))
    (twig_numbered true aim depth above asked own fork (frees_at aim depth asked branches fork is asked_is free).1 asked_is at (step_other own asked (λ same. omega (arith, same, less)))
    (side_low aim.tables (keys_above aim.tables above) (first_order (drop depth aim.orders)) own asked single.keys less))

pub numbered_left : (aim : Aiming) (depth : ℕ) (above : Option ℕ) (asked own : Step) (branches : Branches) (fork : Fork) → IsForkOf branches fork → fork.numbered ≡ true → IsSingle aim.tables above asked → slice_get aim.steps depth ≡ Some asked → IsOwn depth own fork.twig → FreeAt aim depth branches.rows → asked.node < own.node →
    GoesOn Left aim depth above branches fork
numbered_left aim depth above asked own branches fork is numbered single asked_is at free more =
    seen_left aim depth above branches fork is
    (twig_numbered false aim depth above asked own fork (frees_at aim depth asked branches fork is asked_is free).1 asked_is at (step_other own asked (λ same. omega (arith, same, more)))
    (side_high aim.tables (keys_above aim.tables above) (first_order (drop depth aim.orders)) own asked single.keys more))
    (aside_sided false aim depth above asked fork.right.rows asked_is (frees_at aim depth asked branches fork is asked_is free).2 (high_sided aim depth above asked own fork.right.rows single more (right_by depth own branches fork is numbered at)))

-- of two steps of one number one of which has no keys the other is lower, or higher
and_none : (a b : Bool) → (a && (b && false)) ≡ false
and_none true true = refl
and_none true false = refl
and_none false b = refl

or_none : (b c : Bool) → c ≡ false → (b || c) ≡ true → b ≡ true
or_none true c none e = refl
or_none false c none e = cc

-- the node is that of the path's step, which has no keys
pub numbered_here : (aim : Aiming) (depth : ℕ) (above : Option ℕ) (asked own : Step) (branches : Branches) (fork : Fork) → IsForkOf branches fork → fork.numbered ≡ true → IsSingle aim.tables above asked → slice_get aim.steps depth ≡ Some asked → IsOwn depth own fork.twig → FreeAt aim depth branches.rows →
    is_same_step own asked ≡ true → are_some asked.keys ≡ false → GoesOn Here aim depth above branches fork
unfolding AreBy
numbered_here aim depth above asked own branches fork is numbered single asked_is at free same none =
    seen_here aim depth above branches fork is
    (aside_sided true aim depth above asked fork.left.rows asked_is (frees_at aim depth asked branches fork is asked_is free).0
    (All-weaker (λ row. option_map_or (is_low own) (slice_get row.path.steps depth) false ≡ true) (IsSided true aim depth above asked) lower fork.left.rows (left_by depth own branches fork is numbered at)))
    (aside_sided false aim depth above asked fork.right.rows asked_is (frees_at aim depth asked branches fork is asked_is free).2
    (All-weaker (λ row. option_map_or (is_high own) (slice_get row.path.steps depth) false ≡ true) (IsSided false aim depth above asked) higher fork.right.rows (right_by depth own branches fork is numbered at)))
  where
    path : own ≡ asked
    path = (step_decide own asked).0 same

    bare : are_some own.keys ≡ false
    bare = ap (λ (s : Step). are_some s.keys) path ∙ none

    none_beside : (s : Step) → (s.node == own.node && (are_some s.keys && are_some own.keys)) ≡ false
    none_beside s = ap (λ b. s.node == own.node && (are_some s.keys && b)) bare ∙ and_none (s.node == own.node) (are_some s.keys)

    lower : (row : Row) → option_map_or (is_low own) (slice_get row.path.steps depth) false ≡ true → IsSided true aim depth above asked row
    lower row e =
        let s = stepped (is_low own) depth row e in
        let l : s.own.node < own.node = ltb-true s.own.node own.node (or_none (ltb s.own.node own.node) (s.own.node == own.node && (are_some s.own.keys && are_some own.keys)) (none_beside s.own) s.is) in
        let less : s.own.node < asked.node = subst (λ (p : Step). s.own.node < p.node) path l in
        record { own = s.own; own_is = s.own_is; differ = step_other s.own asked (λ same. omega (arith, same, less)); side = side_low aim.tables (keys_above aim.tables above) (first_order (drop depth aim.orders)) s.own asked single.keys less }

    higher : (row : Row) → option_map_or (is_high own) (slice_get row.path.steps depth) false ≡ true → IsSided false aim depth above asked row
    higher row e =
        let s = stepped (is_high own) depth row e in
        let l : own.node < s.own.node = ltb-true own.node s.own.node (or_none (ltb own.node s.own.node) (s.own.node == own.node && (are_some s.own.keys && are_some own.keys)) (none_beside s.own) s.is) in
        let more : asked.node < s.own.node = subst (λ (p : Step). p.node < s.own.node) path l in
        record { own = s.own; own_is = s.own_is; differ = step_other s.own asked (λ same. omega (arith, same, more)); side = side_high aim.tables (keys_above aim.tables above) (first_order (drop depth aim.orders)) s.own asked single.keys more }
