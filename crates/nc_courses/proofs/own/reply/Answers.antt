use Rattle.std.proofs.Common.{◌≡◌, ◌∙◌, Bool, ap, subst}
use Rattle.std.specs.Prelude.{IfOk}
use Rattle.nc_names.specs.declared.path.Path.{Path}
use Rattle.nc_schema.specs.Tables.{Tables}
use Rattle.nc_protocol.specs.Reply.{named_by, reply_naming}
use Rattle.nc_courses.proofs.own.reply.Goals as goal

pub returns : goal.returns
returns g c =
    subst (λ (named : Path → Bool). IfOk c.reply_naming.result
    (λ it. it ≡ reply_naming c.args.schema.now.value (g.S.Sees.seen c.args.sees.now) named c.args.request.now c.args.verdict.now))
    (λ i path. (c.in_ok-own.ensures path ∙ ap (λ (t : Tables). named_by t c.args.request.now.asked path) c.deref.ensures) i)
    c.reply_naming.ensures
