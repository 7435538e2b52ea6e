use Rattle.nc_schema.specs.Children.{HasLowerParents}
use Rattle.nc_defaults.specs.inner.Lists.{AreListsSoFar}
use Rattle.nc_defaults.proofs.children.Children.of.Given as goal

abbrev pub invariant-loop-number : goal.invariant-loop-number
invariant-loop-number l = record {
  lower : HasLowerParents l.schema.nodes;
  so_far : AreListsSoFar l.schema.nodes l.number l.lists;
}
