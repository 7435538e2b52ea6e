use Rattle.std.proofs.Common.{◌-◌, ◌≡◌, ◌≤◌, Bor}
use Rattle.std.specs.Prelude.{option_map, IfSome}
use Rattle.std.specs.BTreeMap.{get}
use Rattle.std.specs.Option.{option_or}
use Rattle.nc_names.specs.declared.path.Step.{Step}
use Rattle.nc_schema.specs.Places.{parts}
use Rattle.nc_defaults.specs.Within.{rows_between}
use Rattle.nc_refs.specs.inner.Branches.{IsSpan, first_part, part_at, step_order}
use Rattle.nc_refs.proofs.branches.Branches.of.Given as goal

abbrev pub invariant-part : goal.invariant-part
invariant-part l = record {
  after : l.here.from ≤ l.at;
  within : l.at ≤ l.here.to;
  rest : (key : Bor Step) →
      option_or (option_map (part_at l.config key.now) (get step_order l.table key))
      (first_part key.now (parts l.depth (rows_between l.config l.at l.here.to)))
      ≡ first_part key.now (parts l.depth (rows_between l.config l.here.from l.here.to));
  spans : (key : Bor Step) → IfSome (get step_order l.table key) (IsSpan l.config);
}

abbrev pub decreases-part : goal.decreases-part
decreases-part l = l.here.to - l.at
