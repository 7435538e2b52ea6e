use Rattle.std.proofs.Common.{ap, sym, ◌∙◌}
use Rattle.nc_partial.specs.inner.Given.{given_in}
use Rattle.nc_partial.proofs.locks.PartialLocks.next_id.Goals as goal

pub returns : goal.returns
returns c = λ s is. c.told.ensures ∙ ap (λ granted. given_in granted c.args.session c.args.nodes.now) (sym is)
