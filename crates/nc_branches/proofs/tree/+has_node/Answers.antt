use Rattle.std.proofs.Common.{sym, ◌∙◌, length}
use Rattle.std.proofs.lemmas.Bool.Decides.{Decides-eqb}
use Rattle.std.proofs.lemmas.List.{nil_from_length}
use Rattle.nc_branches.proofs.ChildLemmas.{node_top}
use Rattle.nc_branches.proofs.tree.+has_node.Goals as goal

pub Tree::has_node-returns-then-is_empty : goal.Tree::has_node-returns-then-is_empty
Tree::has_node-returns-then-is_empty t c =
    let above = c.args.above.now in
    c.has_number.ensures
    ∙ node_top above c.args.number c.args.self.now.rows (nil_from_length above ((Decides-eqb (length above) 0).0 (sym c.is_empty.ensures ∙ c.if-is_empty.true)))
