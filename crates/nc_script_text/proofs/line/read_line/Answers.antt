-- No line ends.
use Rattle.nc_script_text.proofs.Firsts.{none_without_feed}
use Rattle.nc_script_text.proofs.line.read_line.Goals as goal

pub returns-in-None : goal.returns-in-None
returns-in-None c = none_without_feed c.args.text.now c.in-None.ensures
