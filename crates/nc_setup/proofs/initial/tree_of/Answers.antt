use Rattle.std.proofs.Common.{sym, ◌∙◌}
use Rattle.nc_setup.specs.Initial.{HasAnotherRoot}
use Rattle.nc_setup.proofs.initial.tree_of.Goals as goal

pub returns-then-not-may_be_root : goal.returns-then-not-may_be_root
returns-then-not-may_be_root c =
    HasAnotherRoot c.in-Ok.tree c.in-Ok.ensures.spells (sym c.may_be_root.ensures ∙ c.if-not-may_be_root.true)
