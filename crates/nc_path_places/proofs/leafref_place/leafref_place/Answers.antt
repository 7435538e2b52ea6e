-- Where there is no leaf.
use Rattle.std.proofs.Common.{false, length, sym, ap, ◌∙◌, arith}
use Rattle.std.specs.Option.{option_copied}
use Rattle.nc_path_places.proofs.LeafrefPlaces.{no_leaf_halts}
use Rattle.nc_path_places.proofs.leafref_place.leafref_place.Goals as goal

pub returns-in_default : goal.returns-in_default
returns-in_default g c = (
  length c.args.text.now,
  no_leaf_halts (record { tables = c.args.schema.now; bounds = g.B.Binds.bound c.args.bounds.now; all = false }) c.args.leaf c.args.text.now
      (sym c.node.ensures ∙ ap option_copied c.in_default.is),
  omega arith,
)
