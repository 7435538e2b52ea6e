use Rattle.std.proofs.Common.{◌≡◌, true, false, arith}
use Rattle.nc_schema.specs.Places.{is_same_next}
use Rattle.nc_defaults.specs.inner.Runs.{next_at}
use Rattle.nc_defaults.proofs.Runs.{one_on, parts_of_run}
use Rattle.nc_defaults.proofs.parts.run_end.Goals as goal

pub returns-then-not-is_same_next-clause-run : goal.returns-then-not-is_same_next-clause-run
returns-then-not-is_same_next-clause-run c =
    let args = c.args in
    let kept = c.run.invariant in
    let test = c.if-not-is_same_next.ensures in
    let first = c.next_of-step.ensures in
    let here = c.next_of.ensures in
    let differs : is_same_next (next_at args.depth args.config.now args.from) (next_at args.depth args.config.now c.run.at) ≡ false = cc in
    parts_of_run args.depth args.from c.run.at args.to args.config.now kept.later kept.within c.requires.end kept.same (λ lt. differs)

pub run-preserved : goal.run-preserved
run-preserved c =
    let args = c.args in
    let kept = c.run.invariant in
    let test = c.if-not-is_same_next.ensures in
    let first = c.next_of-step.ensures in
    let here = c.next_of.ensures in
    let same : is_same_next (next_at args.depth args.config.now args.from) (next_at args.depth args.config.now c.run.at) ≡ true = cc in
    record {
      later = omega (arith, kept.later);
      within = omega (arith, c.run-test.true);
      same = one_on args.depth args.from c.run.at args.config.now kept.same same;
    }

pub returns-clause-run : goal.returns-clause-run
returns-clause-run c =
    let args = c.args in
    let kept = c.run.invariant in
    parts_of_run args.depth args.from c.run.at args.to args.config.now kept.later kept.within c.requires.end kept.same (λ lt. absurd (omega (arith, lt, c.run-test.false)))
