use Rattle.nc_filter.proofs.members.is_alike.Goals as goal

pub returns-then-is_same_list : goal.returns-then-is_same_list
returns-then-is_same_list c = λ same i. record { few = c.is_same_list.ensures c.if-is_same_list.true i; words = c.are_same_bits.ensures same i }
