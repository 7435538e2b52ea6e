use Rattle.std.proofs.Common.{◌≡◌, ℕ, List, length, map, Option, Some, is_some, refl, sym, ◌∙◌, ap, subst}
use Rattle.nc_outside.specs.Disks.{LeavesOnly, IsSettled}
use Rattle.nc_journal.specs.Files.{HoldsAmong}
use Rattle.nc_journal.specs.Journal.{allowed}
use Rattle.nc_journal.proofs.Standing.{on_err, only_then}
use Rattle.nc_journal.proofs.Settled.{holds_among, looked_settled, looked_moments}
use Rattle.std.proofs.lemmas.Result.{err_from_is_err_and}
use Rattle.nc_journal.specs.declared.whole.Whole.{Whole}
use Rattle.nc_journal.proofs.FaultLemmas.{on_stopped, refused_on}
use Rattle.nc_journal.proofs.whole.mend.Goals as goal

pub returns-in_err-whole-clause-moments : goal.returns-in_err-whole-clause-moments
returns-in_err-whole-clause-moments g c = λ file told settled long bodies doubt holds.
    looked_moments g.D.Disk.seen g.D.Disk.may_leave g.D.Disk.moment g.D.Disk.left_since c.args.disk.now c.read_whole.new.disk file (HoldsAmong c.args.header.now (allowed bodies doubt))
    c.read_whole.ensures.only_reads settled (holds_among c.args.header.now bodies doubt file holds)

pub returns-in_err-repair-clause-moments : goal.returns-in_err-repair-clause-moments
returns-in_err-repair-clause-moments g c = λ file told settled long bodies doubt holds.
    let read = c.in_ok-whole.ensures.held file told long bodies doubt holds in
    let mid = c.read_whole.ensures.only_reads.same ∙ told in
    only_then g.D.Disk.moment g.D.Disk.left_since c.args.disk.now c.read_whole.new.disk c.repair.new.disk (HoldsAmong c.args.header.now (allowed bodies doubt))
    (looked_moments g.D.Disk.seen g.D.Disk.may_leave g.D.Disk.moment g.D.Disk.left_since c.args.disk.now c.read_whole.new.disk file (HoldsAmong c.args.header.now (allowed bodies doubt))
    c.read_whole.ensures.only_reads settled (holds_among c.args.header.now bodies doubt file holds))
    (c.repair.ensures.moments file mid (looked_settled g.D.Disk.seen g.D.Disk.may_leave g.D.Disk.moment g.D.Disk.left_since c.args.disk.now c.read_whole.new.disk file c.read_whole.ensures.only_reads settled)
    c.args.header.now c.in_ok-whole.whole.start bodies doubt read.0 read.2)

pub returns-clause-clean : goal.returns-clause-clean
returns-clause-clean g c = λ file told settled long bodies doubt holds.
    let read = c.in_ok-whole.ensures.held file told long bodies doubt holds in
    let mid = c.read_whole.ensures.only_reads.same ∙ told in (
      read.1,
      read.2,
      c.in_ok-repair.ensures.done file mid (looked_settled g.D.Disk.seen g.D.Disk.may_leave g.D.Disk.moment g.D.Disk.left_since c.args.disk.now c.read_whole.new.disk file c.read_whole.ensures.only_reads settled)
          c.args.header.now c.in_ok-whole.whole.start bodies doubt read.0 read.2,
    )

pub returns-clause-moments : goal.returns-clause-moments
returns-clause-moments g c = λ file told settled long bodies doubt holds.
    let read = c.in_ok-whole.ensures.held file told long bodies doubt holds in
    let mid = c.read_whole.ensures.only_reads.same ∙ told in
    only_then g.D.Disk.moment g.D.Disk.left_since c.args.disk.now c.read_whole.new.disk c.repair.new.disk (HoldsAmong c.args.header.now (allowed bodies doubt))
    (looked_moments g.D.Disk.seen g.D.Disk.may_leave g.D.Disk.moment g.D.Disk.left_since c.args.disk.now c.read_whole.new.disk file (HoldsAmong c.args.header.now (allowed bodies doubt))
    c.read_whole.ensures.only_reads settled (holds_among c.args.header.now bodies doubt file holds))
    (c.repair.ensures.moments file mid (looked_settled g.D.Disk.seen g.D.Disk.may_leave g.D.Disk.moment g.D.Disk.left_since c.args.disk.now c.read_whole.new.disk file c.read_whole.ensures.only_reads settled)
    c.args.header.now c.in_ok-whole.whole.start bodies doubt read.0 read.2)

pub returns-clause-rests : goal.returns-clause-rests
returns-clause-rests g c = λ file told settled long.
    let it = c.in_ok-whole.ensures.names file told long in
    let mid = c.read_whole.ensures.only_reads.same ∙ told in (
      it.1,
      c.in_ok-repair.ensures.clean file mid (looked_settled g.D.Disk.seen g.D.Disk.may_leave g.D.Disk.moment g.D.Disk.left_since c.args.disk.now c.read_whole.new.disk file c.read_whole.ensures.only_reads settled)
          c.args.header.now c.in_ok-whole.whole.start _ it.0 it.1 it.2,
    )

pub returns-in_err-whole-clause-why : goal.returns-in_err-whole-clause-why
returns-in_err-whole-clause-why g c =
    let p = err_from_is_err_and c.from_residual.result c.from_residual.ensures.1 in
    refused_on Whole _ c.from_residual.result c.in_err-whole.field-0.0 p.0 _ _ p.1 p.2 c.in_err-whole.ensures.why (λ f why. why)

pub returns-in_err-whole-clause-left : goal.returns-in_err-whole-clause-left
returns-in_err-whole-clause-left g c = on_stopped _ c.from_residual.result _ c.read_whole.ensures.only_reads

pub returns-in_err-whole-clause-spared : goal.returns-in_err-whole-clause-spared
returns-in_err-whole-clause-spared g c =
    on_err c.from_residual.result _ (λ file told long none. c.read_whole.ensures.only_reads)

pub returns-in_err-repair-clause-spared : goal.returns-in_err-repair-clause-spared
returns-in_err-repair-clause-spared g c = on_err c.from_residual-in_err-repair.result _ (λ file told long none.
    absurd (none c.in_ok-whole.whole.bodies (c.in_ok-whole.ensures.read file told long)))
