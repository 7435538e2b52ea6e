use Rattle.std.proofs.Common.{◌≡◌, sym, ◌∙◌}
use Rattle.nc_yang.proofs.Ruling.{by_loops_in}
use Rattle.nc_yang.proofs.rules.first_by_names.Goals as goal

pub returns : goal.returns
returns c =
    by_loops_in c.args.scopes.now.texts c.first_loop.result c.in_default.ensures
    (sym c.first_unrevised.ensures ∙ c.in_default-first_unrevised.is) c.first_loop.ensures
