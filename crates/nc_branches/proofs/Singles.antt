-- Rows of which no two have one path, part by part.
use Rattle.std.proofs.Common.{◌≡◌, ◌≢◌, ◌++◌, ◌<◌, ◌≤◌, ℕ, true, false, List, [], ◌∷◌, Some, refl, sym, ap, subst, ◌∙◌, arith, length}
use Rattle.std.specs.Prelude.{slice_get, option_map}
use Rattle.std.specs.List.{All}
use Rattle.std.specs.declared.cmp.Ordering.{Ordering}
use Rattle.std.specs.declared.cmp.Ordering.TheVariants.{Less, Equal, Greater}
use Rattle.std.proofs.lemmas.Cmp.{tied_itself}
use Rattle.std.proofs.lemmas.List.Elements.{All-append, All-head, All-tail, All-weaker}
use Rattle.nc_names.specs.declared.path.Row.{Row}
use Rattle.nc_names.specs.declared.path.Step.{Step}
use Rattle.nc_branches.specs.Singles.{AreSingle}
use Rattle.nc_branches.specs.inner.Depths.{AreLong}
use Rattle.nc_branches.specs.inner.Order.{AreBefore, AreAfter, AreParted, HasStep, IsSide, depth_of, step_cmp}
use Rattle.nc_branches.specs.inner.Shoots.{Shoot, own_rows, rows_of}
use Rattle.nc_branches.proofs.Sides.{step_total, twig_side}

-- rows have other paths than others
abbrev AreApart : List Row → List Row → Type 0
AreApart rows others = All (λ (row : Row). All (λ (other : Row). row.path.steps ≢ other.path.steps) others) rows

pub single_none : AreSingle []
unfolding AreSingle
single_none = tt

single_append : (rows others : List Row) → AreSingle rows → AreSingle others → AreApart rows others → AreSingle (rows ++ others)
unfolding AreSingle
single_append [] others one two apart = two
single_append (row ∷ rows) others one two apart =
    let P : Row → Type 0 = λ x. All (λ (other : Row). x.path.steps ≢ other.path.steps) others in (
      All-append (λ (other : Row). row.path.steps ≢ other.path.steps) rows others one.0 (All-head P row rows apart),
      single_append rows others one.1 two (All-tail P row rows apart),
    )

-- rows on two sides of a step
sides_differ : (depth : ℕ) (own : Step) (one two : Ordering) (row other : Row) → one ≢ two → IsSide one depth own row → IsSide two depth own other → row.path.steps ≢ other.path.steps
sides_differ depth own one two row other differ here there = λ same.
    let both : Some one ≡ Some two = sym here ∙ ap (λ steps. option_map (λ s. step_cmp s own) (slice_get steps depth)) same ∙ there in
    let sides : one ≡ two = cc in
    differ sides

sides_apart : (depth : ℕ) (own : Step) (one two : Ordering) (rows others : List Row) → one ≢ two → All (IsSide one depth own) rows → All (IsSide two depth own) others → AreApart rows others
sides_apart depth own one two rows others differ here there =
    All-weaker (IsSide one depth own) (λ (row : Row). All (λ (other : Row). row.path.steps ≢ other.path.steps) others)
    (λ row at. All-weaker (IsSide two depth own) (λ (other : Row). row.path.steps ≢ other.path.steps) (λ other on. sides_differ depth own one two row other differ at on) others there) rows here

pub single_parts : (left right : List Row) (twig : Shoot) → AreParted twig left right → HasStep twig → AreSingle left → AreSingle (rows_of twig) → AreSingle right → AreSingle (left ++ rows_of twig ++ right)
unfolding AreBefore AreAfter
single_parts left right twig parted at one here two =
    let depth = depth_of twig in
    let before : All (IsSide Less depth at.own) left = (parted at.own at.own_is).0 in
    let after : All (IsSide Greater depth at.own) right = (parted at.own at.own_is).1 in
    let on : All (IsSide Equal depth at.own) (rows_of twig) = twig_side Equal depth at.own twig (record { depth_is = refl; own = at.own; own_is = at.own_is; side_is = tied_itself step_total at.own; under = at.under }) in
    single_append (left ++ rows_of twig) right
    (single_append left (rows_of twig) one here (sides_apart depth at.own Less Equal left (rows_of twig) (λ e. cc) before on)) two
    (All-append (λ (row : Row). All (λ (other : Row). row.path.steps ≢ other.path.steps) right) left (rows_of twig)
    (sides_apart depth at.own Less Greater left right (λ e. cc) before after) (sides_apart depth at.own Equal Greater (rows_of twig) right (λ e. cc) on after))

pub single_bare : (twig : Shoot) → twig.stands ≡ false → AreSingle twig.below.rows → AreSingle (rows_of twig)
single_bare twig bare below = subst (λ b. AreSingle (own_rows b twig.row ++ twig.below.rows)) (sym bare) below

longer : (least : ℕ) (steps others : List Step) → least ≤ length others → length steps < least → steps ≢ others
longer least steps others long more = λ same. omega (arith, long, more, ap length same)

-- all rows below a node have longer paths than its own
pub single_own : (least : ℕ) (twig : Shoot) → twig.stands ≡ true → AreSingle twig.below.rows → AreLong least twig.below.rows → length twig.row.path.steps < least → AreSingle (rows_of twig)
unfolding AreSingle AreLong
single_own least twig stands below long more =
    subst (λ b. AreSingle (own_rows b twig.row ++ twig.below.rows)) (sym stands) (
      All-weaker (λ (row : Row). least ≤ length row.path.steps) (λ (row : Row). twig.row.path.steps ≢ row.path.steps) (λ row is. longer least twig.row.path.steps row.path.steps is more) twig.below.rows long,
      below,
    )
