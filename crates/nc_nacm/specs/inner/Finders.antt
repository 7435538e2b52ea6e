-- How the first of some rules is found that matches.
use Rattle.std.specs.Prelude.{⊤, List}
use Rattle.nc_model.specs.declared.policy.Rule.{Rule}
use Rattle.nc_nacm.specs.declared.finder.Finder.{Finder}
use Rattle.nc_nacm.specs.declared.finder.Finder.TheVariants.{Each, Shapes, Chained}
use Rattle.nc_nacm.specs.inner.Chains.{IsChained}
use Rattle.nc_nacm.specs.inner.Found.{IsIndex}

abbrev pub IsFinder : List Rule → Finder → Type 0
IsFinder rules Each = ⊤
IsFinder rules (Shapes index) = IsIndex rules index
IsFinder rules (Chained chains) = IsChained rules chains
