-- A path that leads to a node, and goes on below it.
use Rattle.std.proofs.Common.{◌≡◌, ◌++◌, ◌+◌, ◌-◌, ◌<◌, ℕ, zero, suc, true, List, [], ◌∷◌, Option, Some, None, refl, sym, ap, subst, ◌∙◌, arith, length, drop, take}
use Rattle.std.specs.Prelude.{slice_get}
use Rattle.std.specs.List.{starts_with}
use Rattle.std.proofs.lemmas.List.{append_assoc, append-nil, take-append-drop}
use Rattle.std.proofs.lemmas.List.Elements.{All-cons, All-nil, All-weaker}
use Rattle.std.proofs.lemmas.Slice.Eq.{starts_is}
use Rattle.nc_names.proofs.SameLemmas.{step_decide}
use Rattle.nc_names.specs.Same.{is_same_step}
use Rattle.nc_names.specs.declared.path.Row.{Row}
use Rattle.nc_names.specs.declared.path.Step.{Step}
use Rattle.nc_branches.specs.Branches.{Branches}
use Rattle.nc_branches.specs.inner.Shoots.{Shoot, own_rows, rows_of}
use Rattle.nc_branches.specs.inner.Order.{AreUnder, IsUnder}
use Rattle.nc_branches.specs.inner.Putting.{Aiming, IsNode, IsPut, Leads, last_node}
use Rattle.nc_branches.specs.Sides.{among}
use Rattle.nc_branches.specs.inner.Forks.{IsForkOf}
use Rattle.nc_branches.specs.declared.tree.Fork.{Fork}
use Rattle.nc_branches.proofs.Placing.{own_under, put_below, put_last}

-- rows below a path are below what it goes on from
pub shorter_under : (path rest steps : List Step) (rows : List Row) → steps ≡ path ++ rest → AreUnder steps rows → AreUnder path rows
unfolding AreUnder
shorter_under path rest steps rows is all =
    All-weaker (IsUnder steps) (IsUnder path) (λ row u. (rest ++ u.0, u.1 ∙ ap (λ xs. xs ++ u.0) is ∙ append_assoc path rest u.0)) rows all

pub leads : (aim : Aiming) (depth : ℕ) (twig : Shoot) → starts_with is_same_step aim.steps twig.row.path.steps ≡ true → depth < length twig.row.path.steps → length twig.row.path.steps - depth ≡ 1 → AreUnder twig.row.path.steps twig.below.rows → AreUnder aim.steps aim.block → Leads aim depth twig
leads aim depth twig starts longer len under block =
    let path = twig.row.path.steps in
    let rest = drop (length path) aim.steps in
    let is : aim.steps ≡ path ++ rest = (starts_is step_decide aim.steps path (starts_with is_same_step aim.steps path) refl).0 starts in
    record { rest = rest; steps_are = is; length_is = omega (arith, longer, len); under = under; block = shorter_under path rest aim.steps aim.block is block }

last_taken : (above : Option ℕ) (n : ℕ) (steps : List Step) (step : Step) → slice_get steps n ≡ Some step → last_node above (take (suc n) steps) ≡ Some step.node
last_taken above n [] step e = cc
last_taken above zero (s ∷ steps) step e = let same : s ≡ step = cc in ap (λ (x : Step). Some x.node) same
last_taken above (suc n) (s ∷ steps) step e = last_taken (Some s.node) n steps step e

pub put_there : (aim : Aiming) (depth : ℕ) (above : Option ℕ) (twig : Shoot) (new : List Row) → Leads aim depth twig → length aim.steps ≡ depth + 1 → new ≡ aim.block → IsPut aim depth above (rows_of twig) new
put_there aim depth above twig new at len same = put_last aim depth above twig new at len same

pub put_on : (aim : Aiming) (depth : ℕ) (above : Option ℕ) (step : Step) (twig : Shoot) (below : List Row) → Leads aim depth twig → depth + 1 < length aim.steps → slice_get aim.steps depth ≡ Some step → IsPut aim (depth + 1) (Some step.node) twig.below.rows below → IsPut aim depth above (rows_of twig) (own_rows twig.stands twig.row ++ below)
put_on aim depth above step twig below at long step_is inner =
    put_below aim depth above step.node twig below (own_rows twig.stands twig.row ++ below) at long
    (let next : suc depth ≡ depth + 1 = omega arith in subst (λ n. last_node None (take n aim.steps) ≡ Some step.node) next (last_taken None depth aim.steps step step_is)) inner refl

-- a node is below the first steps to it
pub raised_under : (n : ℕ) (steps : List Step) (twig : Shoot) (rows : List Row) → steps ≡ take n twig.row.path.steps → AreUnder twig.row.path.steps twig.below.rows → rows ≡ rows_of twig → AreUnder steps rows
unfolding AreUnder
raised_under n steps twig rows head under same =
    subst (AreUnder steps) (sym same)
    (shorter_under steps (drop n twig.row.path.steps) twig.row.path.steps (rows_of twig) (sym (take-append-drop n twig.row.path.steps) ∙ ap (λ xs. xs ++ drop n twig.row.path.steps) (sym head)) (own_under twig under))

pub node_under : (steps : List Step) (branches : Branches) (fork : Fork) → IsForkOf branches fork → fork.left.rows ≡ [] → fork.right.rows ≡ [] → fork.twig.row.path.steps ≡ steps → AreUnder fork.twig.row.path.steps fork.twig.below.rows → IsNode steps branches.rows fork.twig
unfolding AreUnder
node_under steps branches fork is left right path under = record {
  rows_are = sym (is.rows ∙ (λ i. left i ++ rows_of fork.twig ++ right i) ∙ append-nil (rows_of fork.twig));
  under = subst (λ p. AreUnder p (rows_of fork.twig)) path (own_under fork.twig under);
}

pub none_at_all : (steps : List Step) → AreUnder steps []
unfolding AreUnder
none_at_all steps = All-nil (IsUnder steps)

top_under : (rows : List Row) → AreUnder [] rows
unfolding AreUnder
top_under [] = All-nil (IsUnder [])
top_under (row ∷ rows) = All-cons (IsUnder []) row rows (row.path.steps, refl) (top_under rows)

pub put_top : (aim : Aiming) (old new : List Row) → AreUnder aim.steps aim.block → IsPut aim 0 None old new → new ≡ among aim.tables aim.orders aim.steps aim.block old
put_top aim old new block put = put.put block (record { above_is = refl; under = top_under old })
