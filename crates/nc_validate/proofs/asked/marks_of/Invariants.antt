use Rattle.nc_validate.proofs.asked.marks_of.Given as goal

abbrev pub decreases-loop-left : goal.decreases-loop-left
decreases-loop-left l = l.left
