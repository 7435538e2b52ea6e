use Rattle.std.proofs.Common.{◌∙◌, sym}
use Rattle.nc_branches.proofs.Locating.{within_head}
use Rattle.nc_branches.proofs.tree.Tree.within.Goals as goal

pub returns-in-Some : goal.returns-in-Some
returns-in-Some c =
    within_head c.args.known.now.rows c.args.steps.now c.entry_in-entry.result.now c.args.self.now.rows c.in-Some.twig.now
    c.entry_in-entry.ensures c.requires (sym c.is_entry.ensures ∙ c.if-not-is_entry.false) c.in-Some.ensures
