use Rattle.nc_filter.proofs.BitLemmas.{bits_whole, from_none}
use Rattle.nc_filter.proofs.members.bits_of.Goals as goal

pub returns : goal.returns
returns c = λ n.
    from_none c.args.members.now c.new-none.result c.in_ok-all.all n c.new-none.ensures
    (bits_whole c.args.members.now c.new-none.result c.in_ok-few.few c.in_ok-all.all c.as_slice.result.now c.as_slice-2.result.now n c.as_slice.ensures c.as_slice-2.ensures
    (c.in_ok-few.ensures n) (c.in_ok-all.ensures n))
