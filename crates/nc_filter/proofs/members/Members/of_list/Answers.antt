use Rattle.std.proofs.Common.{◌∙◌, ◌==◌, ◌||◌, ap}
use Rattle.std.specs.List.{list_any}
use Rattle.nc_filter.specs.inner.Sets.{bit_of}
use Rattle.nc_filter.proofs.BitLemmas.{empty_bits}
use Rattle.nc_filter.proofs.Unions.{or_false}
use Rattle.nc_filter.proofs.members.Members.of_list.Goals as goal

pub returns : goal.returns
returns c = λ n.
    (λ i. list_any (λ one. one == n) c.args.few || bit_of (c.new-words.ensures i) n)
    ∙ ap (λ b. list_any (λ one. one == n) c.args.few || b) (empty_bits n) ∙ or_false (list_any (λ one. one == n) c.args.few)
