use Rattle.nc_branches.proofs.tree.Tree.lay_moved.Goals as goal

pub lay_at-laid-requires-clause-rest : goal.lay_at-laid-requires-clause-rest
lay_at-laid-requires-clause-rest c = rw c.in-Ok-Some.field-0-is at c.in-Ok-Some.ensures.rest

pub lay_at-laid-requires-clause-berth : goal.lay_at-laid-requires-clause-berth
lay_at-laid-requires-clause-berth c = rw c.in-Ok-Some.field-0-is at c.in-Ok-Some.ensures.berth
