use Rattle.std.proofs.Common.{◌∙◌}
use Rattle.nc_filter.proofs.MemberLemmas.{keys_held}
use Rattle.nc_filter.proofs.groups.held_many.Goals as goal

pub returns : goal.returns
returns c = λ whole here among keys_are.
    keys_held c.args.keys.now c.args.table.now.items whole here c.args.from.now c.of_bits.result (λ n. c.of_bits.ensures n ∙ c.in_ok-numbers.ensures n) among keys_are
