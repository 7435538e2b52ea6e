use Rattle.nc_edit.proofs.behind.is_next.Goals as goal

pub returns : goal.returns
returns c = λ is. record { lower = c.are_lower.ensures is; later = c.is_as_high.ensures.0 c.if-not-is_as_high.false }
