use Rattle.std.proofs.Common.{◌∙◌, sym}
use Rattle.nc_filter.proofs.MemberLemmas.{none_of}
use Rattle.nc_filter.proofs.members.Members.is_empty.Goals as goal

pub returns-then-is_empty : goal.returns-then-is_empty
returns-then-is_empty c = λ e n.
    none_of c.args.self.now c.as_slice.result.now n (c.is_empty.ensures.0 c.if-is_empty.true) c.as_slice.ensures (sym c.are_zeros.ensures ∙ e)
