use Rattle.std.proofs.Common.{◌≡◌, ◌++◌, List, sym, subst}
use Rattle.std.specs.Prelude.{OnOk}
use Rattle.nc_names.specs.declared.path.Row.{Row}
use Rattle.nc_branches.specs.Branches.{rows_in}
use Rattle.nc_branches.proofs.Locating.{block_within}
use Rattle.nc_branches.proofs.tree.Tree.push_block_known.Goals as goal

pub returns-in-Some : goal.returns-in-Some
returns-in-Some c = record {
  ok = subst (λ (b : List Row). OnOk c.push_block.result (rows_in c.push_block.new.out ≡ rows_in c.args.out.now ++ b))
      (sym (block_within c.args.steps.now c.args.self.now.rows c.in-Some.twig.now c.in-Some.ensures)) c.push_block.ensures.ok;
}
