-- Siblings that stand by their numbers.
use Rattle.std.proofs.Common.{◌≡◌, ◌++◌, ◌||◌, ◌&&◌, ◌==◌, ◌<◌, ℕ, Bool, true, false, ltb, List, [], ◌∷◌, Option, Some, None, refl, sym, ap, subst, ◌∙◌, arith, length}
use Rattle.std.specs.Prelude.{slice_get}
use Rattle.std.specs.List.{All}
use Rattle.std.specs.Option.{option_map_or}
use Rattle.std.proofs.lemmas.Bool.{lt-ltb, ltb-true}
use Rattle.std.proofs.lemmas.Bool.Decides.{Decides-eqb}
use Rattle.std.proofs.lemmas.List.Elements.{All-append, All-cons, All-head, All-nil, All-weaker}
use Rattle.nc_names.proofs.SameLemmas.{both_true, first_true, second_true}
use Rattle.nc_names.specs.declared.path.Row.{Row}
use Rattle.nc_names.specs.declared.path.Step.{Step}
use Rattle.nc_branches.specs.inner.Order.{AreUnder, HasBeside, IsUnder, depth_of}
use Rattle.nc_branches.specs.inner.Shoots.{Shoot, own_rows, rows_of}
use Rattle.nc_branches.specs.Branches.{Branches}
use Rattle.nc_branches.specs.inner.Forks.{IsForkOf}
use Rattle.nc_branches.specs.declared.tree.Fork.{Fork}
use Rattle.nc_branches.specs.Entries.{are_some}
use Rattle.nc_branches.specs.inner.Steady.{AreBy, AreNumbered, IsBy, is_high, is_low}
use Rattle.nc_branches.proofs.Sides.{get_append}

pub or_true : (b : Bool) → (b || true) ≡ true
or_true true = refl
or_true false = refl

-- both are of one list
abbrev beside : Step → Step → Bool
beside t s = s.node == t.node && (are_some s.keys && are_some t.keys)

number_of : (t s : Step) → beside t s ≡ true → s.node ≡ t.node
number_of t s e = (Decides-eqb s.node t.node).0 (first_true (s.node == t.node) (are_some s.keys && are_some t.keys) e)

beside_chain : (u t s : Step) → beside u t ≡ true → beside t s ≡ true → beside u s ≡ true
beside_chain u t s two one =
    both_true (s.node == u.node) (are_some s.keys && are_some u.keys) ((Decides-eqb s.node u.node).1 (number_of t s one ∙ number_of u t two))
    (both_true (are_some s.keys) (are_some u.keys)
    (first_true (are_some s.keys) (are_some t.keys) (second_true (s.node == t.node) (are_some s.keys && are_some t.keys) one))
    (second_true (are_some t.keys) (are_some u.keys) (second_true (t.node == u.node) (are_some t.keys && are_some u.keys) two)))

-- what is before a step is before what comes after that
pub low_chain : (u t s : Step) → is_low u t ≡ true → is_low t s ≡ true → is_low u s ≡ true
low_chain u t s two one = by (ltb s.node t.node) refl (ltb t.node u.node) refl one two
  where
    less : s.node < u.node → is_low u s ≡ true
    less e = ap (λ b. b || beside u s) (lt-ltb s.node u.node e)

    by : (b : Bool) → ltb s.node t.node ≡ b → (c : Bool) → ltb t.node u.node ≡ c → (b || beside t s) ≡ true → (c || beside u t) ≡ true → is_low u s ≡ true
    by true e true f one two = less (omega (arith, ltb-true s.node t.node e, ltb-true t.node u.node f))
    by true e false f one two = less (omega (arith, ltb-true s.node t.node e, number_of u t two))
    by false e true f one two = less (omega (arith, ltb-true t.node u.node f, number_of t s one))
    by false e false f one two = ap (λ b. ltb s.node u.node || b) (beside_chain u t s two one) ∙ or_true (ltb s.node u.node)

pub high_chain : (u t s : Step) → is_high u t ≡ true → is_high t s ≡ true → is_high u s ≡ true
high_chain u t s two one = by (ltb t.node s.node) refl (ltb u.node t.node) refl one two
  where
    more : u.node < s.node → is_high u s ≡ true
    more e = ap (λ b. b || beside u s) (lt-ltb u.node s.node e)

    by : (b : Bool) → ltb t.node s.node ≡ b → (c : Bool) → ltb u.node t.node ≡ c → (b || beside t s) ≡ true → (c || beside u t) ≡ true → is_high u s ≡ true
    by true e true f one two = more (omega (arith, ltb-true t.node s.node e, ltb-true u.node t.node f))
    by true e false f one two = more (omega (arith, ltb-true t.node s.node e, number_of u t two))
    by false e true f one two = more (omega (arith, ltb-true u.node t.node f, number_of t s one))
    by false e false f one two = ap (λ b. ltb u.node s.node || b) (beside_chain u t s two one) ∙ or_true (ltb u.node s.node)

pub none_by : (depth : ℕ) (test : Step → Bool) → AreBy depth test []
unfolding AreBy
none_by depth test = All-nil (λ row. option_map_or test (slice_get row.path.steps depth) false ≡ true)

-- where one test passes another does
pub by_weaker : (depth : ℕ) (one two : Step → Bool) (rows : List Row) → ((step : Step) → one step ≡ true → two step ≡ true) → AreBy depth one rows → AreBy depth two rows
unfolding AreBy
by_weaker depth one two rows more all =
    All-weaker (λ row. option_map_or one (slice_get row.path.steps depth) false ≡ true) (λ row. option_map_or two (slice_get row.path.steps depth) false ≡ true) (λ row e. at (slice_get row.path.steps depth) e) rows all
  where
    at : (o : Option Step) → option_map_or one o false ≡ true → option_map_or two o false ≡ true
    at None e = cc
    at (Some step) e = more step e

pub by_three : (depth : ℕ) (test : Step → Bool) (left here right : List Row) → AreBy depth test left → AreBy depth test here → AreBy depth test right → AreBy depth test (left ++ here ++ right)
unfolding AreBy
by_three depth test left here right one two three =
    let P : Row → Type 0 = λ row. option_map_or test (slice_get row.path.steps depth) false ≡ true in
    All-append P (left ++ here) right (All-append P left here one two) three

-- the rows at and below a node have its step
pub twig_by : (test : Step → Bool) (depth : ℕ) (twig : Shoot) → IsBy test depth twig → AreBy depth test (rows_of twig)
unfolding AreBy AreUnder
twig_by test depth twig at = All-append P (own_rows twig.stands twig.row) twig.below.rows (own twig.stands) (All-weaker (IsUnder twig.row.path.steps) P under twig.below.rows at.under)
  where
    P : Row → Type 0
    P row = option_map_or test (slice_get row.path.steps depth) false ≡ true

    there : (row : Row) → slice_get row.path.steps depth ≡ Some at.own → P row
    there row is = ap (λ o. option_map_or test o false) is ∙ at.is

    own : (stands : Bool) → All P (own_rows stands twig.row)
    own true = All-cons P twig.row [] (there twig.row at.own_is) (All-nil P)
    own false = All-nil P

    under : (row : Row) → IsUnder twig.row.path.steps row → P row
    under row below = there row (ap (λ steps. slice_get steps depth) below.1 ∙ get_append twig.row.path.steps below.0 depth at.own at.own_is)

-- what is on the left of a node is before what the node is before
pub low_more : (depth : ℕ) (step : Step) (left right others : List Row) (twig : Shoot) → AreNumbered twig left others → IsBy (is_low step) depth twig → AreBy depth (is_low step) right → AreBy depth (is_low step) (left ++ rows_of twig ++ right)
low_more depth step left right others twig numbered at on_right =
    let there : slice_get twig.row.path.steps (depth_of twig) ≡ Some at.own = subst (λ d. slice_get twig.row.path.steps d ≡ Some at.own) (sym at.depth_is) at.own_is in
    let far : AreBy depth (is_low at.own) left = subst (λ d. AreBy d (is_low at.own) left) at.depth_is (numbered at.own there).0 in
    let near : AreBy depth (is_low step) left = by_weaker depth (is_low at.own) (is_low step) left (λ s e. low_chain step at.own s at.is e) far in
    by_three depth (is_low step) left (rows_of twig) right near (twig_by (is_low step) depth twig at) on_right

pub high_more : (depth : ℕ) (step : Step) (left right others : List Row) (twig : Shoot) → AreNumbered twig others right → IsBy (is_high step) depth twig → AreBy depth (is_high step) left → AreBy depth (is_high step) (left ++ rows_of twig ++ right)
high_more depth step left right others twig numbered at on_left =
    let there : slice_get twig.row.path.steps (depth_of twig) ≡ Some at.own = subst (λ d. slice_get twig.row.path.steps d ≡ Some at.own) (sym at.depth_is) at.own_is in
    let far : AreBy depth (is_high at.own) right = subst (λ d. AreBy d (is_high at.own) right) at.depth_is (numbered at.own there).1 in
    let near : AreBy depth (is_high step) right = by_weaker depth (is_high at.own) (is_high step) right (λ s e. high_chain step at.own s at.is e) far in
    by_three depth (is_high step) left (rows_of twig) right on_left (twig_by (is_high step) depth twig at) near

pub none_low : (depth : ℕ) (step : Step) → AreBy depth (is_low step) []
none_low depth step = none_by depth (is_low step)

pub none_high : (depth : ℕ) (step : Step) → AreBy depth (is_high step) []
none_high depth step = none_by depth (is_high step)

pub fork_low : (depth : ℕ) (step : Step) (branches : Branches) (fork : Fork) → IsForkOf branches fork → fork.numbered ≡ true → IsBy (is_low step) depth fork.twig → AreBy depth (is_low step) fork.right.rows → AreBy depth (is_low step) branches.rows
fork_low depth step branches fork is numbered at rest =
    subst (AreBy depth (is_low step)) (sym is.rows) (low_more depth step fork.left.rows fork.right.rows fork.right.rows fork.twig (is.numbers numbered) at rest)

pub fork_high : (depth : ℕ) (step : Step) (branches : Branches) (fork : Fork) → IsForkOf branches fork → fork.numbered ≡ true → IsBy (is_high step) depth fork.twig → AreBy depth (is_high step) fork.left.rows → AreBy depth (is_high step) branches.rows
fork_high depth step branches fork is numbered at rest =
    subst (AreBy depth (is_high step)) (sym is.rows) (high_more depth step fork.left.rows fork.right.rows fork.left.rows fork.twig (is.numbers numbered) at rest)

-- what comes after a step has that before it, and the other way round
beside_swap : (t s : Step) → beside t s ≡ true → beside s t ≡ true
beside_swap t s e =
    let keys : (are_some s.keys && are_some t.keys) ≡ true = second_true (s.node == t.node) (are_some s.keys && are_some t.keys) e in
    both_true (t.node == s.node) (are_some t.keys && are_some s.keys) ((Decides-eqb t.node s.node).1 (sym (number_of t s e)))
    (both_true (are_some t.keys) (are_some s.keys) (second_true (are_some s.keys) (are_some t.keys) keys) (first_true (are_some s.keys) (are_some t.keys) keys))

high_low : (u t : Step) → is_high t u ≡ true → is_low u t ≡ true
high_low u t e = by (ltb t.node u.node) e
  where
    by : (b : Bool) → (b || beside t u) ≡ true → (b || beside u t) ≡ true
    by true e = refl
    by false e = beside_swap t u e

low_high : (u t : Step) → is_low t u ≡ true → is_high u t ≡ true
low_high u t e = by (ltb u.node t.node) e
  where
    by : (b : Bool) → (b || beside t u) ≡ true → (b || beside u t) ≡ true
    by true e = refl
    by false e = beside_swap t u e

low_between : (own step : Step) (o : Option Step) → option_map_or (is_high own) o false ≡ true → option_map_or (is_low step) o false ≡ true → is_low step own ≡ true
low_between own step None far near = cc
low_between own step (Some x) far near = low_chain step x own near (high_low x own far)

high_between : (own step : Step) (o : Option Step) → option_map_or (is_low own) o false ≡ true → option_map_or (is_high step) o false ≡ true → is_high step own ≡ true
high_between own step None far near = cc
high_between own step (Some x) far near = high_chain step x own near (low_high x own far)

low_by_first : (depth : ℕ) (own step : Step) (rows : List Row) → 0 < length rows → AreBy depth (is_high own) rows → AreBy depth (is_low step) rows → is_low step own ≡ true
unfolding AreBy
low_by_first depth own step [] some far near = absurd (omega (arith, some))
low_by_first depth own step (row ∷ rows) some far near =
    low_between own step (slice_get row.path.steps depth)
    (All-head (λ row. option_map_or (is_high own) (slice_get row.path.steps depth) false ≡ true) row rows far)
    (All-head (λ row. option_map_or (is_low step) (slice_get row.path.steps depth) false ≡ true) row rows near)

high_by_first : (depth : ℕ) (own step : Step) (rows : List Row) → 0 < length rows → AreBy depth (is_low own) rows → AreBy depth (is_high step) rows → is_high step own ≡ true
unfolding AreBy
high_by_first depth own step [] some far near = absurd (omega (arith, some))
high_by_first depth own step (row ∷ rows) some far near =
    high_between own step (slice_get row.path.steps depth)
    (All-head (λ row. option_map_or (is_low own) (slice_get row.path.steps depth) false ≡ true) row rows far)
    (All-head (λ row. option_map_or (is_high step) (slice_get row.path.steps depth) false ≡ true) row rows near)

-- the step of a node whose siblings stand by their numbers is on the side of those beside it
beside_low : (depth : ℕ) (step : Step) (left right : List Row) (twig : Shoot) → AreNumbered twig left right → HasBeside depth twig right → AreBy depth (is_low step) right → IsBy (is_low step) depth twig
beside_low depth step left right twig numbered at near =
    let there : slice_get twig.row.path.steps (depth_of twig) ≡ Some at.own = subst (λ d. slice_get twig.row.path.steps d ≡ Some at.own) (sym at.depth_is) at.own_is in
    let far : AreBy depth (is_high at.own) right = subst (λ d. AreBy d (is_high at.own) right) at.depth_is (numbered at.own there).1 in
    record { depth_is = at.depth_is; own = at.own; own_is = at.own_is; is = low_by_first depth at.own step right at.some far near; under = at.under }

beside_high : (depth : ℕ) (step : Step) (left right : List Row) (twig : Shoot) → AreNumbered twig left right → HasBeside depth twig left → AreBy depth (is_high step) left → IsBy (is_high step) depth twig
beside_high depth step left right twig numbered at near =
    let there : slice_get twig.row.path.steps (depth_of twig) ≡ Some at.own = subst (λ d. slice_get twig.row.path.steps d ≡ Some at.own) (sym at.depth_is) at.own_is in
    let far : AreBy depth (is_low at.own) left = subst (λ d. AreBy d (is_low at.own) left) at.depth_is (numbered at.own there).0 in
    record { depth_is = at.depth_is; own = at.own; own_is = at.own_is; is = high_by_first depth at.own step left at.some far near; under = at.under }

pub led_low : (depth : ℕ) (step : Step) (branches : Branches) (fork : Fork) → IsForkOf branches fork → fork.numbered ≡ true → HasBeside depth fork.twig fork.right.rows → AreBy depth (is_low step) fork.right.rows → AreBy depth (is_low step) branches.rows
led_low depth step branches fork is numbered at rest =
    fork_low depth step branches fork is numbered (beside_low depth step fork.left.rows fork.right.rows fork.twig (is.numbers numbered) at rest) rest

pub led_high : (depth : ℕ) (step : Step) (branches : Branches) (fork : Fork) → IsForkOf branches fork → fork.numbered ≡ true → HasBeside depth fork.twig fork.left.rows → AreBy depth (is_high step) fork.left.rows → AreBy depth (is_high step) branches.rows
led_high depth step branches fork is numbered at rest =
    fork_high depth step branches fork is numbered (beside_high depth step fork.left.rows fork.right.rows fork.twig (is.numbers numbered) at rest) rest
