use Rattle.std.proofs.Common.{sym}
use Rattle.std.proofs.lemmas.Map.Lookups.{exact_bytes}
use Rattle.nc_message_read.proofs.Sets.{ok_as}
use Rattle.nc_message_read.proofs.known.Known.looked_up.Goals as goal

pub returns-in-Some : goal.returns-in-Some
returns-in-Some c =
    ok_as c.copy.result c.in-Some.known.now c.args.text (sym (exact_bytes c.args.text c.in-Some.known.now c.in-Some.ensures.same_key)) c.copy.ensures
