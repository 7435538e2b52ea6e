use Rattle.std.proofs.Common.{◌∙◌, Bor, ap, sym}
use Rattle.std.specs.List.{list_all}
use Rattle.std.proofs.lemmas.List.{take_all}
use Rattle.std.proofs.lemmas.List.Folds.{list_all-map}
use Rattle.nc_names.specs.Same.{is_at_or_below}
use Rattle.nc_names.specs.declared.path.Row.{Row}
use Rattle.nc_filter.proofs.front.are_below.Goals as goal

pub returns : goal.returns
returns c = λ _.
    let rows = c.args.rows.now in
    list_all-map (λ (row : Row). is_at_or_below c.args.steps.now row.path) (λ (row : Bor Row). row.now) rows
    ∙ sym (ap (list_all (λ (row : Bor Row). is_at_or_below c.args.steps.now row.now.path)) (take_all c.loop-row.row-index rows c.loop-row-test.false))
    ∙ c.loop-row.invariant
