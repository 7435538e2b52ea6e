-- A line that is no text.
use Rattle.std.proofs.Common.{◌+◌, take, drop}
use Rattle.nc_script_text.proofs.Firsts.{none_not_text}
use Rattle.nc_script_text.proofs.line.read_cut.Goals as goal

pub returns-in-None : goal.returns-in-None
returns-in-None c =
    none_not_text c.args.text.now (take c.args.end c.args.text.now) (drop (c.args.end + 1) c.args.text.now) c.requires.2 c.requires.1
    c.in-None.ensures
