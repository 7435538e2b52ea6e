-- The last part.
use Rattle.nc_paths.proofs.LeafrefLemmas.{part_last}
use Rattle.nc_paths.proofs.leafref.next_part.Goals as goal

pub returns-in-None-clause-parts : goal.returns-in-None-clause-parts
returns-in-None-clause-parts c = part_last c.args.text.now c.in-None.ensures
