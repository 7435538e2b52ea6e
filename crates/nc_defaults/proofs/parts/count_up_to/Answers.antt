use Rattle.std.proofs.Common.{◌≡◌, true, false, arith}
use Rattle.nc_schema.specs.Places.{is_of}
use Rattle.nc_defaults.specs.Within.{rows_between}
use Rattle.nc_defaults.specs.inner.Runs.{next_at}
use Rattle.nc_defaults.proofs.PartsLemmas.{count_one, count_none}
use Rattle.nc_defaults.proofs.parts.count_up_to.Goals as goal

pub part-preserved-then-is_of : goal.part-preserved-then-is_of
part-preserved-then-is_of c =
    let args = c.args in
    let kept = c.part.invariant in
    let end = c.run_end-end.result in
    let run = c.run_end-end.ensures in
    let rows = rows_between args.config.now c.part.at end in
    let here = c.next_of.ensures in
    let test = c.if-is_of.ensures rows in
    let passes : is_of args.number (record { step = next_at args.depth args.config.now c.part.at; rows = rows }) ≡ true = cc in
    record {
      after = omega (arith, kept.after, run.later);
      within = run.within;
      few = omega (arith, kept.few, run.later, kept.after);
      rest = count_one (is_of args.number) (record { step = next_at args.depth args.config.now c.part.at; rows = rows }) _ _ c.part.count _ run.run passes kept.rest;
    }

pub part-preserved : goal.part-preserved
part-preserved c =
    let args = c.args in
    let kept = c.part.invariant in
    let end = c.run_end-end.result in
    let run = c.run_end-end.ensures in
    let rows = rows_between args.config.now c.part.at end in
    let here = c.next_of.ensures in
    let test = c.if-is_of.ensures rows in
    let fails : is_of args.number (record { step = next_at args.depth args.config.now c.part.at; rows = rows }) ≡ false = cc in
    record {
      after = omega (arith, kept.after, run.later);
      within = run.within;
      few = omega (arith, kept.few, run.later, kept.after);
      rest = count_none (is_of args.number) (record { step = next_at args.depth args.config.now c.part.at; rows = rows }) _ _ c.part.count _ run.run fails kept.rest;
    }
