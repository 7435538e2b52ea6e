use Rattle.std.proofs.Common.{◌∙◌, ap, sym, subst, Option}
use Rattle.nc_message_read.specs.declared.marks.Marks.{Marks}
use Rattle.nc_message_read.specs.declared.marked.Marked.{Marked}
use Rattle.nc_message_read.specs.inner.Marks.{IsFound, attr_mark, sign_of}
use Rattle.nc_message_read.proofs.Sets.{ok_as}
use Rattle.nc_message_read.proofs.apart.sign.Goals as goal

pub returns-in-Some : goal.returns-in-Some
returns-in-Some c =
    let marked = c.in-Some.marked in
    let a = c.args.attr.now in
    ok_as c.mark_for.result _ _
    (ap (λ (m : Marks). attr_mark m marked.bounds a.prefix) c.get.ensures
    ∙ subst (λ (o : Option Marked). IsFound o a) c.in-Some.is c.requires
    ∙ ap (λ (o : Option Marked). sign_of o a.name.space) (sym c.in-Some.is)) c.mark_for.ensures
