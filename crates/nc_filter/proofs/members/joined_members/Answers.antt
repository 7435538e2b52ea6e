use Rattle.nc_filter.proofs.BitLemmas.{bits_whole}
use Rattle.nc_filter.proofs.members.joined_members.Goals as goal

pub returns : goal.returns
returns c = λ n.
    bits_whole c.args.members.now c.args.words c.in_ok-few.few c.in_ok-all.all c.as_slice.result.now c.as_slice-2.result.now n c.as_slice.ensures c.as_slice-2.ensures
    (c.in_ok-few.ensures n) (c.in_ok-all.ensures n)
