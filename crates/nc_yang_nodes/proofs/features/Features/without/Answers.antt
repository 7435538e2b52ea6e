use Rattle.std.proofs.Common.{◌∙◌}
use Rattle.nc_yang_nodes.proofs.FeatureLemmas.{one_fewer, one_less}
use Rattle.nc_yang_nodes.proofs.features.Features.without.Goals as goal

pub returns-clause-others : goal.returns-clause-others
returns-clause-others c = one_less c.args.self (record { names = c.remove.new.self }) c.args.text c.args.name c.remove.ensures.updates.0

pub returns-clause-fewer : goal.returns-clause-fewer
returns-clause-fewer c = λ on. one_fewer c.args.self (record { names = c.remove.new.self }) c.remove.result c.remove.ensures.len (c.remove.ensures.test ∙ on)
