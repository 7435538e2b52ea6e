use Rattle.std.proofs.Common.{◌+◌, ap, arith}
use Rattle.nc_defaults.proofs.ListLemmas.{lists_start, lists_whole}
use Rattle.nc_defaults.proofs.children.Children.of.Goals as goal

pub loop-number-init : goal.loop-number-init
loop-number-init c = record {
  lower = c.nodes-count.ensures.lower;
  so_far = lists_start c.args.schema.now.nodes (c.nodes-count.result + 1) c.in_ok-lists.lists c.in_ok-lists.ensures (ap (λ n. n + 1) c.nodes-count.ensures.number);
}

pub invariant_of-result : goal.invariant_of-result
invariant_of-result c =
    lists_whole c.args.schema.now.nodes c.loop-number.number c.loop-number.lists (omega (arith, c.nodes-count.ensures.number)) (omega (arith, c.nodes-count.ensures.number))
    c.loop-number.invariant.so_far
