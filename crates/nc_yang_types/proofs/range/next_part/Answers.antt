use Rattle.nc_yang_types.proofs.CutLemmas.{last_part, parts_cut}
use Rattle.nc_yang_types.proofs.range.next_part.Goals as goal

pub returns-in-Some : goal.returns-in-Some
returns-in-Some c = parts_cut c.args.text.now c.in-Some.part c.in-Some.rest c.in-Some.ensures

pub returns-in-None : goal.returns-in-None
returns-in-None c = last_part c.args.text.now c.in-None.ensures
