use Rattle.std.proofs.Common.{◌∙◌, Some, ap, sym}
use Rattle.nc_message_read.proofs.Resolving.{themselves}
use Rattle.nc_message_read.proofs.text.resolve.Goals as goal

pub returns-then-are_themselves : goal.returns-then-are_themselves
returns-then-are_themselves c =
    themselves c.args.refers c.args.in_value c.args.raw.now (sym c.are_themselves.ensures ∙ c.if-are_themselves.true) ∙ ap Some (sym c.in_ok-bytes.ensures)
