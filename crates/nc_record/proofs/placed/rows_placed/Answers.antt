use Rattle.std.proofs.Common.{◌≡◌, ◌++◌, ◌∷◌, [], sym, subst, List}
use Rattle.nc_names.specs.declared.path.Row.{Row}
use Rattle.nc_names.specs.declared.path.Step.{Step}
use Rattle.nc_record.specs.inner.Placing.{IsNextIn, IsPlaced}
use Rattle.nc_record.proofs.NextRow.{placed_more}
use Rattle.nc_record.proofs.placed.rows_placed.Goals as goal

pub loop-first-preserved : goal.loop-first-preserved
loop-first-preserved c = λ rows tree is.
    let first_and_rest : c.loop-first.left.now ≡ c.in-Some.first.now ∷ c.in-Some.more.now = c.in-Some.ensures.cases.0 in
    let pushed : c.push.new.self ≡ c.loop-first.rows ++ c.in_ok-row.row ∷ [] = c.in_ok-push.ensures.ok in
    subst (λ (z : List Row). IsPlaced rows z c.in-Some.more.now) (sym pushed)
    (placed_more c.args.schema.now rows c.loop-first.rows c.loop-first.left.now c.in-Some.more.now c.in-Some.first.now c.in_ok-row.row tree (c.loop-first.invariant rows tree is) first_and_rest
    (λ done rest row next. c.in_ok-row.ensures done rest row (subst (λ (b : List Step). IsNextIn c.args.schema.now b c.in-Some.first.now c.in-Some.more.now done row rest) (sym c.last_steps.ensures) next)))
