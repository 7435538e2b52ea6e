use Rattle.nc_yang.proofs.JudgedLemmas.{no_part, plain_part}
use Rattle.nc_yang.proofs.typedefs.has_plain_type.Goals as goal

pub returns-in-Some : goal.returns-in-Some
returns-in-Some c = λ on are l here.
    plain_part c.args.scopes.now c.args.meanings.now on are l c.in-Some.of_type c.means_plain.result c.means_plain.ensures (c.in-Some.ensures l here)

pub returns-in-None : goal.returns-in-None
returns-in-None c = λ on are l here. no_part c.args.scopes.now c.args.meanings.now on are l (c.in-None.ensures l here)
