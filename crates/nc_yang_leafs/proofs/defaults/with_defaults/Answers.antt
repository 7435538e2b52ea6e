use Rattle.nc_yang_leafs.proofs.PutLemmas.{have_defaults}
use Rattle.nc_yang_leafs.proofs.defaults.with_defaults.Goals as goal

pub returns : goal.returns
returns c = λ are typed.
    have_defaults c.args.scopes.now c.args.plan.now c.args.typed c.put_all.new.schema c.in_ok-found.found typed (c.in_ok-found.ensures.found are typed) c.in_ok-put_all.ensures
