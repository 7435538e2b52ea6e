use Rattle.std.proofs.Common.{◌≡◌, ◌∙◌, ◌++◌, ◌∷◌, [], ap, List}
use Rattle.nc_names.specs.declared.path.Row.{Row}
use Rattle.nc_names.specs.declared.path.Step.{Step}
use Rattle.nc_record.proofs.NextRow.{IsRow, next_row, row_made}
use Rattle.nc_record.proofs.row.row_of.Goals as goal

pub returns : goal.returns
returns c = λ done rest row next.
    let it : IsRow c.args.schema.now c.args.before.now c.args.spelled.now c.args.following.now row = next_row c.args.schema.now c.requires.places.parents c.args.before.now c.args.spelled.now c.args.following.now done rest row next in
    let above : c.in_ok-steps.steps ≡ it.above = c.in_ok-steps.ensures it.above it.step it.node it.way in
    let pushed : c.push.new.self ≡ c.in_ok-steps.steps ++ record { node = c.args.spelled.now.node; keys = c.in_ok-keys.keys } ∷ [] = c.in_ok-push.ensures.ok in
    ap (λ (z : List Step). let it : Row = record { path = record { steps = z }; value = c.in_ok-value.value } in it) pushed
    ∙ row_made c.args.schema.now c.args.before.now c.args.spelled.now c.args.following.now row it c.in_ok-steps.steps c.in_ok-keys.keys c.in_ok-value.value above c.in_ok-keys.ensures c.in_ok-value.ensures
