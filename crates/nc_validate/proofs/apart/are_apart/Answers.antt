use Rattle.nc_defaults.specs.Within.{places_in}
use Rattle.nc_validate.proofs.ApartLemmas.{none_broken}
use Rattle.nc_validate.proofs.apart.are_apart.Goals as goal

pub returns-then-apart : goal.returns-then-apart
returns-then-apart c = λ yes.
    none_broken c.args.children.now c.args.leafs.now c.loop-leaf.leaf-index c.loop-leaf-test.true (places_in c.args.config.now c.args.entries.now)
    (c.in_ok-apart.ensures c.if-apart.true)
