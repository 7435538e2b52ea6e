use Rattle.std.proofs.Common.{[], map}
use Rattle.nc_message.specs.Written.{use_of}
use Rattle.nc_message.proofs.Declaring.{declares_more}
use Rattle.nc_message.proofs.start.push_declarations.Goals as goal

pub returns : goal.returns
returns c =
    (declares_more (map use_of c.args.attrs.now) c.args.bounds.now c.in_ok-push_attr_uses.ensures.ok
    c.in_ok-push_bound_uses.ensures.ok).output [] c.new-seen.ensures
