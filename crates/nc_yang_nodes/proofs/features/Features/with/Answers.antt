use Rattle.nc_yang_nodes.proofs.FeatureLemmas.{one_more}
use Rattle.nc_yang_nodes.proofs.features.Features.with.Goals as goal

pub returns : goal.returns
returns c = one_more c.args.self (record { names = c.insert.new.self }) c.args.text c.args.name c.in_ok-insert.ensures.updates.0
