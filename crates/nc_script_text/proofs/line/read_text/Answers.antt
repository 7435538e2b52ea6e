-- A step and its body.
use Rattle.nc_script_text.proofs.Firsts.{first_found}
use Rattle.nc_script_text.proofs.line.read_text.Goals as goal

pub returns-in-Ok-complete : goal.returns-in-Ok-complete
returns-in-Ok-complete c =
    first_found c.args.line.now c.args.after.now c.in-Ok.head c.in-Ok-complete.found c.requires.feed c.requires.text c.in-Ok.ensures
    c.in-Ok-complete.ensures
