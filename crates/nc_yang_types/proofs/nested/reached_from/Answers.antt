use Rattle.std.proofs.Common.{◌==◌, ◌∙◌, ap, length, sym}
use Rattle.std.specs.List.{list_all}
use Rattle.nc_yang_order.specs.Orders.{targets}
use Rattle.nc_yang_types.proofs.NestedLemmas.{copied_last, found_from}
use Rattle.nc_yang_types.proofs.nested.reached_from.Goals as goal

pub returns-then-are_last : goal.returns-then-are_last
returns-then-are_last c =
    copied_last c.args.graph.now c.args.number c.in-Some.members.now c.in-Some.ensures.lookup.3.0 c.in-Some.ensures.lookup.1
    c.as_slice-then-are_last.result.now c.as_slice-then-are_last.ensures
    (sym (c.if-are_last.ensures ∙ ap (list_all (λ n. length (targets c.args.graph.now n) == 0)) c.as_slice.ensures)) c.copied.result c.copied.ensures

pub returns : goal.returns
returns c =
    found_from c.args.graph.now c.args.number c.in-Some.members.now c.in-Some.ensures.lookup.3.0 c.in-Some.ensures.lookup.1 c.as_slice-2.result.now c.as_slice-2.ensures
    c.in_ok-of.field-0 c.found_in.result c.in_ok-of.ensures c.found_in.ensures
