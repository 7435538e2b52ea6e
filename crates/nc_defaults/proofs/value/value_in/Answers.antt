use Rattle.std.proofs.Common.{◌≡◌, ◌∙◌, true, false, sym, length, arith}
use Rattle.std.specs.Prelude.{None, Some}
use Rattle.nc_schema.specs.InUse.{defaults_there, first_value}
use Rattle.nc_schema.specs.Places.{Part, is_of}
use Rattle.nc_defaults.specs.Within.{place_here, rows_between}
use Rattle.nc_defaults.specs.inner.Runs.{next_at}
use Rattle.nc_defaults.proofs.PartsLemmas.{find_value, first_between, skip_empty, skip_other, skip_value}
use Rattle.nc_defaults.proofs.value.value_in.Goals as goal

pub returns-then-is_named : goal.returns-then-is_named
returns-then-is_named c =
    let args = c.args in
    let run = c.run_end-end.ensures in
    let rows = rows_between args.config.now c.part.at c.run_end-end.result in
    let part : Part = record { step = next_at (length args.steps.now) args.config.now c.part.at; rows = rows } in
    let here = c.next_of.ensures in
    let test = c.if-is_of.ensures rows in
    let passes : is_of args.step.now.node part ≡ true = cc in
    let is : first_value rows ≡ Some c.in-Some.value.now = first_between c.part.at c.run_end-end.result args.config.now run.later ∙ sym c.in-Some.ensures in
    sym (find_value c.part.stands args.step.now (defaults_there args.schema.now (place_here args.config.now args.steps.now args.here) args.step.now.node) part _ _ c.in-Some.value.now run.run passes is (sym c.if-is_named.ensures))
    ∙ c.part.invariant.rest

pub part-preserved-else-is_named : goal.part-preserved-else-is_named
part-preserved-else-is_named c =
    let args = c.args in
    let run = c.run_end-end.ensures in
    let rows = rows_between args.config.now c.part.at c.run_end-end.result in
    let part : Part = record { step = next_at (length args.steps.now) args.config.now c.part.at; rows = rows } in
    let here = c.next_of.ensures in
    let test = c.if-is_of.ensures rows in
    let passes : is_of args.step.now.node part ≡ true = cc in
    let is : first_value rows ≡ Some c.in-Some.value.now = first_between c.part.at c.run_end-end.result args.config.now run.later ∙ sym c.in-Some.ensures in
    record {
      after = omega (arith, c.part.invariant.after, run.later);
      within = run.within;
      rest = sym (skip_value c.part.stands args.step.now (defaults_there args.schema.now (place_here args.config.now args.steps.now args.here) args.step.now.node) part _ _ c.in-Some.value.now run.run passes is (sym c.if-is_named.ensures)) ∙ c.part.invariant.rest;
    }

pub part-preserved-in_default : goal.part-preserved-in_default
part-preserved-in_default c =
    let args = c.args in
    let run = c.run_end-end.ensures in
    let rows = rows_between args.config.now c.part.at c.run_end-end.result in
    let part : Part = record { step = next_at (length args.steps.now) args.config.now c.part.at; rows = rows } in
    let here = c.next_of.ensures in
    let test = c.if-is_of.ensures rows in
    let passes : is_of args.step.now.node part ≡ true = cc in
    let is : first_value rows ≡ None = first_between c.part.at c.run_end-end.result args.config.now run.later ∙ sym c.in_default.ensures in
    record {
      after = omega (arith, c.part.invariant.after, run.later);
      within = run.within;
      rest = sym (skip_empty c.part.stands args.step.now (defaults_there args.schema.now (place_here args.config.now args.steps.now args.here) args.step.now.node) part _ _ run.run passes is) ∙ c.part.invariant.rest;
    }

pub part-preserved : goal.part-preserved
part-preserved c =
    let args = c.args in
    let run = c.run_end-end.ensures in
    let rows = rows_between args.config.now c.part.at c.run_end-end.result in
    let part : Part = record { step = next_at (length args.steps.now) args.config.now c.part.at; rows = rows } in
    let here = c.next_of.ensures in
    let test = c.if-is_of.ensures rows in
    let fails : is_of args.step.now.node part ≡ false = cc in
    record {
      after = omega (arith, c.part.invariant.after, run.later);
      within = run.within;
      rest = sym (skip_other c.part.stands args.step.now (defaults_there args.schema.now (place_here args.config.now args.steps.now args.here) args.step.now.node) part _ _ run.run fails) ∙ c.part.invariant.rest;
    }
