use Rattle.std.proofs.Common.{◌==◌, ◌||◌}
use Rattle.std.specs.List.{list_any}
use Rattle.nc_filter.specs.inner.Sets.{bit_of}
use Rattle.nc_filter.proofs.members.Members.of_bits.Goals as goal

pub returns : goal.returns
returns c = λ n i. list_any (λ one. one == n) (c.new-few.ensures i) || bit_of c.args.words n
