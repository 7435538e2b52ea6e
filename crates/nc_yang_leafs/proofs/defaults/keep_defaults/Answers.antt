use Rattle.nc_yang_leafs.proofs.PutLemmas.{keep_rules}
use Rattle.nc_yang_leafs.proofs.defaults.keep_defaults.Goals as goal

pub returns : goal.returns
returns c = λ are typed.
    keep_rules c.args.scopes.now c.args.plan.now c.args.typed.now c.in_ok-all_defaults.field-0 (c.in_ok-all_defaults.ensures.found are typed)
