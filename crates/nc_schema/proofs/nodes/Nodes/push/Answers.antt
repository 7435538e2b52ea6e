use Rattle.std.proofs.Common.{◌≡◌, List, length, false, sym, subst}
use Rattle.nc_schema.specs.Children.{IsAbove, HasRoom}
use Rattle.nc_schema.specs.inner.Index.{IsIndexOf, IsIndexed}
use Rattle.nc_schema.specs.declared.node.Node.{Node}
use Rattle.nc_schema.proofs.IndexLemmas.{indexed_more}
use Rattle.nc_schema.proofs.nodes.Nodes.push.Goals as goal

pub invariant_of-self-2 : goal.invariant_of-self-2
invariant_of-self-2 c =
    let items : List Node = c.self.inside.items in
    let node = c.args.node in
    let same : items ≡ c.args.self.now = c.self.view_is in
    let room : HasRoom items = subst (λ (ns : List Node). HasRoom ns) (sym same) c.requires.room in
    let above : IsAbove node.parent (length items) = subst (λ (ns : List Node). IsAbove node.parent (length ns)) (sym same) c.requires.above in
    let before : IsIndexOf items c.refresh.new.index = subst (λ (ns : List Node). IsIndexOf ns c.refresh.new.index) c.as_slice.ensures c.in_ok-refresh.ensures in
    subst (λ (ns : List Node). IsIndexed ns c.add.new.self false) (sym c.in_ok-push.ensures.ok)
    (indexed_more items node c.add.new.self false c.self.invariant.list room above (c.in_ok-add.ensures items before))
