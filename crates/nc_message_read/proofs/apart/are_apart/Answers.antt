use Rattle.std.proofs.Common.{◌≡◌, ◌∙◌, sym, ap, not, true, ◌++◌, ◌∷◌, [], arith}
use Rattle.std.specs.List.{list_any}
use Rattle.nc_names.specs.Same.{is_same_name}
use Rattle.nc_message_read.proofs.Sets.{names_more, differ_more, found_left}
use Rattle.nc_message_read.proofs.apart.are_apart.Goals as goal

pub add_name-requires : goal.add_name-requires
add_name-requires c =
    (found_left c.args.marked.now c.args.attrs.now c.loop-attr.attr-index c.attr-item.result (omega arith) c.attr-item.is c.loop-attr.invariant.3).0

pub loop-attr-preserved : goal.loop-attr-preserved
loop-attr-preserved c =
    let before = c.loop-attr.invariant.0 in
    let a = c.attr-item.result in
    let is = c.in_ok-add_name.ensures in
    let new : not (list_any (is_same_name a.name) before) ≡ true = sym (ap not (c.loop-attr.invariant.1 a.name)) ∙ sym is.0 ∙ c.if-not-branch.false in (
      before ++ a.name ∷ [],
      names_more c.args.marked.now c.loop-attr.names c.add_name.new.names a.name c.in_ok-add_name.field-0 before is c.loop-attr.invariant.1,
      c.loop-attr.invariant.2 ∙ differ_more c.args.attrs.now c.loop-attr.attr-index a before (omega arith) c.attr-item.is new,
      (found_left c.args.marked.now c.args.attrs.now c.loop-attr.attr-index a (omega arith) c.attr-item.is c.loop-attr.invariant.3).1,
    )
