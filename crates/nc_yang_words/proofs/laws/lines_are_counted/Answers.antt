use Rattle.nc_yang_words.proofs.Places.{the_lines_are_counted, the_end_is_counted}
use Rattle.nc_yang_words.proofs.laws.lines_are_counted.Goals as goal

pub returns-clause-lines : goal.returns-clause-lines
returns-clause-lines c = the_lines_are_counted

pub returns-clause-end : goal.returns-clause-end
returns-clause-end c = the_end_is_counted
