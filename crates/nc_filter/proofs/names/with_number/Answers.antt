use Rattle.std.proofs.Common.{◌∙◌, sym}
use Rattle.nc_filter.proofs.NameLemmas.{elem_not, elem_past, elem_put}
use Rattle.nc_filter.proofs.names.with_number.Goals as goal

pub returns-then-number-elems : goal.returns-then-number-elems
returns-then-number-elems c = elem_past c.args.schema.now c.args.node c.args.elems.now c.args.number c.args.out c.if-number-elems.true

pub returns-then-not-is_named : goal.returns-then-not-is_named
returns-then-not-is_named c =
    elem_not c.args.schema.now c.args.node c.args.elems.now c.args.number c.index-elems-number.result c.args.out c.if-number-elems.false c.index-elems-number.is
    (sym c.if-not-is_named.true ∙ c.is_named.ensures)

pub returns : goal.returns
returns c =
    elem_put c.args.schema.now c.args.node c.args.elems.now c.args.number c.index-elems-number.result c.args.out c.push.new.self c.if-number-elems.false c.index-elems-number.is
    (sym c.if-not-is_named.false ∙ c.is_named.ensures) c.in_ok-push.ensures.ok
