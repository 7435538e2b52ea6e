use Rattle.std.proofs.Common.{ap}
use Rattle.nc_yang_scopes.specs.Scopes.{Scoping}
use Rattle.nc_yang_nodes.specs.FeaturesOn.{is_on}
use Rattle.nc_yang.proofs.Outcomes.{types_on}
use Rattle.nc_yang.proofs.schema.with_types.Goals as goal

pub typed-requires : goal.typed-requires
typed-requires c = record {
  meanings = c.requires.meanings;
  whole = c.requires.whole;
  prefixes = c.requires.prefixes;
  located = ap (λ (s : Scoping). s.located) c.in_ok-names.ensures;
  blank = c.requires.blank;
}

pub returns : goal.returns
returns c =
    types_on c.args.scopes.now c.in_ok-names.names (is_on c.args.features.now) c.args.plan.now c.args.untyped c.in_ok-names.ensures
    c.typed.result c.typed.ensures
