use Rattle.std.proofs.Common.{refl}
use Rattle.nc_branches.proofs.Laying.{laid_kept}
use Rattle.nc_branches.proofs.tree.Tree.lay_there.Goals as goal

pub lay_by-requires-clause-turned : goal.lay_by-requires-clause-turned
lay_by-requires-clause-turned c = laid_kept _ _ refl refl refl refl c.requires.tallied c.requires.kept
