-- The reply is that for what the session sees.
use Rattle.nc_machine.proofs.Replies.{reply_is}
use Rattle.nc_machine.proofs.server.Server.reply_to.Goals as goal

pub returns : goal.returns
returns c =
    reply_is c.args.self.now c.args.session c.args.request.now c.args.verdict.now c.shared_schema.result.now.value c.in_ok-sees.sees
    c.in_ok-reply.reply c.shared_schema.ensures c.in_ok-sees.ensures c.in_ok-reply.ensures
