use Rattle.std.proofs.Common.{◌≡◌, ℕ, List, length, Contains, Option, Some, is_some, refl, sym, ◌∙◌, ap, subst, arith}
use Rattle.nc_journal.specs.declared.whole.Whole.{Whole}
use Rattle.nc_journal.specs.Journal.{at_rest}
use Rattle.nc_journal.proofs.FaultLemmas.{left_alone, refused_told, stopped_not}
use Rattle.nc_journal.proofs.journal.Journal.begin.Goals as goal

pub returns-in-Ok-clause-begun : goal.returns-in-Ok-clause-begun
returns-in-Ok-clause-begun g c = λ file told.
    let opened = c.in-Ok.ensures.opened file told in
    record {
      opens = c.in-Ok.ensures.read file told;
      stands = at_rest
          (record {
            told = c.open.ensures.tells ∙ ap is_some told;
            gate = opened.gate_is;
            count = omega (arith, c.len-records.ensures);
          })
          refl refl opened.images;
      fresh = λ is. (c.in-Ok.ensures.fresh file told is).0;
      held = λ others doubt holds. (c.in-Ok.ensures.held file told others doubt holds).0;
      among = λ among held.
          let it = c.in-Ok.ensures.held file told held.bodies held.doubt held.holds in
          subst (λ (l : List (List ℕ)). Contains among l) (sym it.0) held.bodies_allowed;
    }

pub returns-in-Ok-clause-moments : goal.returns-in-Ok-clause-moments
returns-in-Ok-clause-moments g c = λ file told. (
  record { fresh = c.open.ensures.moments_fresh file told; held = c.open.ensures.moments_held file told },
  tt,
)

pub returns-in-Err-clause-moments : goal.returns-in-Err-clause-moments
returns-in-Err-clause-moments g c = λ file told. (
  tt,
  record { fresh = c.open.ensures.moments_fresh file told; held = c.open.ensures.moments_held file told },
)

pub returns-in-Err-clause-refused : goal.returns-in-Err-clause-refused
returns-in-Err-clause-refused g c = (
  refused_told Whole c.in-Err.fault c.args.header.now (g.D.Disk.seen c.args.disk) c.in-Err.ensures.why,
  left_alone Whole c.in-Err.fault c.args.header.now g.D.Disk.seen g.D.Disk.may_leave g.D.Disk.moment g.D.Disk.left_since c.args.disk
      c.open.new.disk c.in-Err.ensures.left c.in-Err.ensures.spared,
)

pub returns-in-Err-clause-unfailed : goal.returns-in-Err-clause-unfailed
returns-in-Err-clause-unfailed g c = stopped_not Whole c.in-Err.fault _ c.in-Err.ensures.cause.other
