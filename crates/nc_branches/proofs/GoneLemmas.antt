-- Rows of other cases may be taken away before new rows are put in their place.
use Rattle.std.proofs.Common.{◌≡◌, ◌||◌, ◌++◌, ℕ, Bool, true, false, cond, not, List, [], ◌∷◌, refl, sym, ap, subst, ◌∙◌, drop, length}
use Rattle.std.specs.List.{filter, list_any}
use Rattle.nc_names.specs.Same.{is_at_or_below, is_same_step}
use Rattle.nc_names.specs.declared.path.Row.{Row}
use Rattle.nc_names.specs.declared.path.Step.{Step}
use Rattle.nc_schema.specs.Standing.{cases_differ, cases_of, excludes}
use Rattle.nc_schema.specs.Tables.{Tables}
use Rattle.nc_branches.specs.Branches.{without_block}
use Rattle.nc_branches.specs.inner.Gone.{HasFirst, LeavesStaying}
use Rattle.nc_branches.specs.inner.Order.{IsUnder}
use Rattle.nc_branches.specs.Sides.{among, is_front, stays}
use Rattle.nc_branches.proofs.Places.{goes_on}

excludes_more : (tables : Tables) (steps path more rest : List Step) → excludes tables steps path ≡ true → excludes tables (steps ++ more) (path ++ rest) ≡ true
excludes_more tables [] path more rest e = absurd (cc e)
excludes_more tables (s ∷ steps) [] more rest e = absurd (cc e)
excludes_more tables (s ∷ steps) (p ∷ path) more rest e = by (is_same_step s p) e (excludes_more tables steps path more rest)
  where
    by : (b : Bool) → cond b (excludes tables steps path) (cases_differ (cases_of tables s.node) (cases_of tables p.node)) ≡ true → (excludes tables steps path ≡ true → excludes tables (steps ++ more) (path ++ rest) ≡ true) →
        cond b (excludes tables (steps ++ more) (path ++ rest)) (cases_differ (cases_of tables s.node) (cases_of tables p.node)) ≡ true
    by true e inner = inner e
    by false e inner = e

or_true : (b : Bool) → (b || true) ≡ true
or_true true = refl
or_true false = refl

-- a row at or below a node that is excluded does not stay
goes : (tables : Tables) (steps path : List Step) (added row : Row) (more : List Row) → excludes tables steps path ≡ true → IsUnder steps added → is_at_or_below path row.path ≡ true → stays tables steps (added ∷ more) row ≡ false
unfolding stays
goes tables steps path added row more other under at =
    let out : excludes tables added.path.steps row.path.steps ≡ true =
    (λ i. excludes tables (under.1 i) (goes_on path row at i)) ∙ excludes_more tables steps path under.0 (drop (length path) row.path.steps) other in
    ap (λ b. not (is_at_or_below steps row.path || (b || list_any (λ one. excludes tables one.path.steps row.path.steps) more))) out
    ∙ ap not (or_true (is_at_or_below steps row.path))

pub same_left : (tables : Tables) (steps : List Step) (rows : List Row) → LeavesStaying tables steps rows rows
unfolding LeavesStaying
same_left tables steps rows = λ added more under. refl

pub leaves_staying : (tables : Tables) (steps path : List Step) (rows : List Row) → true ≡ excludes tables steps path → LeavesStaying tables steps rows (without_block rows path)
unfolding LeavesStaying
leaves_staying tables steps path rows other = λ added more under. all added more under rows
  where
    all : (added : Row) (more : List Row) → IsUnder steps added → (rows : List Row) → filter (stays tables steps (added ∷ more)) (without_block rows path) ≡ filter (stays tables steps (added ∷ more)) rows
    all added more under [] = refl
    all added more under (row ∷ rows) = by (is_at_or_below path row.path) refl (all added more under rows)
      where
        test : Row → Bool
        test = stays tables steps (added ∷ more)

        by : (b : Bool) → is_at_or_below path row.path ≡ b → filter test (without_block rows path) ≡ filter test rows →
            filter test (cond (not b) (row ∷ without_block rows path) (without_block rows path)) ≡ filter test (row ∷ rows)
        by true e same = same ∙ sym (ap (λ b. cond b (row ∷ filter test rows) (filter test rows)) (goes tables steps path added row more (sym other) under e))
        by false e same = ap (λ xs. cond (test row) (row ∷ xs) xs) same

pub left_chain : (tables : Tables) (steps : List Step) (old middle new : List Row) → LeavesStaying tables steps old middle → LeavesStaying tables steps middle new → LeavesStaying tables steps old new
unfolding LeavesStaying
left_chain tables steps old middle new one two = λ added more under. two added more under ∙ one added more under

pub first_of : (steps : List Step) (block : List Row) (added : Row) → Rattle.std.specs.Prelude.slice_get block 0 ≡ Rattle.std.proofs.Common.Some added → true ≡ is_at_or_below steps added.path → HasFirst steps block
first_of steps [] added is at = absurd (cc is)
first_of steps (row ∷ block) added is at =
    let same : row ≡ added = cc in
    record { added = row; more = block; is = refl; under = subst (IsUnder steps) (sym same) (drop (length steps) added.path.steps, goes_on steps added (sym at)) }

pub among_left : (tables : Tables) (orders : List (List (List (List ℕ)))) (steps : List Step) (block old new : List Row) → HasFirst steps block → LeavesStaying tables steps old new → among tables orders steps block new ≡ among tables orders steps block old
unfolding LeavesStaying
among_left tables orders steps block old new first left =
    subst (λ (b : List Row). among tables orders steps b new ≡ among tables orders steps b old) (sym first.is)
    (let same = left first.added first.more first.under in
    λ i. filter (is_front tables orders steps) (same i) ++ (first.added ∷ first.more) ++ filter (λ row. not (is_front tables orders steps row)) (same i))
