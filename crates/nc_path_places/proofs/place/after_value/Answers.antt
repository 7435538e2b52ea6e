-- The value that is read.
use Rattle.std.proofs.Common.{rules}
use Rattle.nc_path_places.proofs.place.after_value.Goals as goal

pub returns-in-Some-clause-ok : goal.returns-in-Some-clause-ok
returns-in-Some-clause-ok c = (c.in-Some.field-0-0.now, search rules)
