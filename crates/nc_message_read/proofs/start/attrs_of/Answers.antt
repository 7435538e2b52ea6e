use Rattle.std.proofs.Common.{◌≡◌, ◌<◌, ◌∙◌, ap, sym, Some, length, arith}
use Rattle.nc_message.specs.Tokens.{Attribute}
use Rattle.nc_message.specs.Resolved.{is_declaration, attr_of}
use Rattle.nc_message_read.proofs.Attrs.{attrs_more}
use Rattle.nc_message_read.proofs.start.attrs_of.Goals as goal

pub loop-attribute-preserved : goal.loop-attribute-preserved
loop-attribute-preserved c =
    let a = c.attribute-item.result in
    let less : c.loop-attribute.attribute-index < length c.args.attributes.now = omega arith in
    let read : attr_of c.args.bounds.now a ≡ Some c.in-Some.attr = sym c.in_ok-attr.ensures ∙ c.in-Some.is in
    c.loop-attribute.invariant
    ∙ attrs_more c.args.bounds.now c.args.attributes.now c.loop-attribute.attribute-index a c.in-Some.attr c.loop-attribute.attrs c.push.new.self less c.attribute-item.is
    (sym (ap (λ (a : Attribute). is_declaration a.name) c.attribute.view_is) ∙ sym c.is_declaration.ensures ∙ c.if-is_declaration.false) read c.in_ok-push.ensures.ok
