use Rattle.std.proofs.Common.{◌≡◌, ℕ, ◌+◌, ◌<◌, ◌≤◌, length, get_or, [], sym, ◌∙◌, ap, subst, arith, refl}
use Rattle.std.proofs.lemmas.Result.{err_from_is_err_and}
use Rattle.nc_journal.specs.inner.Headers.{HasModules}
use Rattle.nc_journal.proofs.FaultLemmas.{refused_on}
use Rattle.nc_journal.proofs.Looking.{looks_none, looks_then}
use Rattle.nc_journal.proofs.Headers.{no_modules, more_modules, next_module}
use Rattle.nc_journal.proofs.header.modules_end.Goals as goal

pub loop-done-init : goal.loop-done-init
loop-done-init g c = (
  looks_none g.D.Disk.seen g.D.Disk.may_leave g.D.Disk.moment g.D.Disk.left_since g.met.D.Disk.only_now c.args.disk.now,
  refl,
  omega (arith, c.requires),
  omega arith,
  λ file told long. no_modules c.args.at file,
)

pub returns-in_err-end-clause-none : goal.returns-in_err-end-clause-none
returns-in_err-end-clause-none g c =
    let p = err_from_is_err_and c.from_residual.result c.from_residual.ensures.1 in
    let inv = c.loop-done.invariant in
    refused_on ℕ _ c.from_residual.result c.in_err-end.field-0.0 p.0 _ _ p.1 p.2 c.in_err-end.ensures.none (λ f why. (
      why.0,
      λ file told long modules count small stands.
          let within : c.loop-done.done < length modules = omega (arith, c.loop-done-test.true, count) in
          why.1 file (inv.0.same ∙ told) long (get_or modules c.loop-done.done [])
          (small c.loop-done.done [] within)
          (next_module c.args.at c.loop-done.done c.loop-done.end file (inv.4 file told long) modules within small stands),
    ))

pub loop-done-preserved : goal.loop-done-preserved
loop-done-preserved g c =
    let inv = c.loop-done.invariant in (
      looks_then g.D.Disk.seen g.D.Disk.may_leave g.D.Disk.moment g.D.Disk.left_since g.met.D.Disk.only_now c.args.disk.now
          c.loop-done.disk c.counted_end.new.disk inv.0 c.counted_end.ensures.only_reads,
      c.in_ok-end.ensures.cause.same ∙ inv.1,
      c.in_ok-end.ensures.within,
      omega (arith, c.loop-done-test.true),
      λ file told long.
          more_modules c.args.at c.loop-done.done c.loop-done.end c.in_ok-end.end file (inv.4 file told long)
          (c.in_ok-end.ensures.sound file (inv.0.same ∙ told) long),
    )
