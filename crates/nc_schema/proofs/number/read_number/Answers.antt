-- The number of a text.
use Rattle.std.proofs.Common.{◌∙◌}
use Rattle.nc_schema.proofs.NumberLemmas.{number_is}
use Rattle.nc_schema.proofs.number.read_number.Goals as goal

pub returns : goal.returns
returns c = c.ok.ensures.value ∙ number_is c.args.text.now c.from_str_radix.result c.from_str_radix.ensures.value
