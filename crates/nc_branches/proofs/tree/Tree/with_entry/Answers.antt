use Rattle.std.proofs.Common.{◌∙◌, sym, subst, ap, List}
use Rattle.nc_names.specs.declared.path.Step.{Step}
use Rattle.nc_branches.specs.inner.Located.{IsHead}
use Rattle.nc_branches.specs.inner.Shoots.{rows_of}
use Rattle.nc_branches.proofs.Exchanging.{replaced_exchanged}
use Rattle.nc_branches.proofs.tree.Tree.with_entry.Goals as goal

pub returns : goal.returns
returns c =
    let exchanges = rw c.in-Some-2.is at c.in_ok-with_node.ensures in
    let steps = c.as_slice.ensures ∙ ap (λ row. row.path.steps) c.get.ensures in
    let head = subst (λ (q : List Step). IsHead c.entry_in-path.result.now q) steps c.entry_in-path.ensures in
    replaced_exchanged c.args.known.now.rows c.entry_in-path.result.now c.args.self.now.rows (rows_of c.in_ok-replaced.field-0) c.in-Some-2.tree.rows c.args.row.now c.in-Some.twig.now
    head c.in-Some.ensures c.requires (sym c.is_entry.ensures ∙ c.if-not-is_entry.false) c.in_ok-replaced.ensures exchanges
