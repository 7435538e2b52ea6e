use Rattle.nc_record.proofs.row.+steps_above.Given as goal

abbrev pub decreases-steps_above : goal.decreases-steps_above
decreases-steps_above l = l.number
