use Rattle.std.proofs.Common.{◌≡◌, Option, Some, None, refl, sym, arith}
use Rattle.nc_journal.proofs.Standing.{undo_within, undo_moments, undo_kept, undo_done, stands_now, on_err}
use Rattle.nc_journal.proofs.Growing.{undo_grows}
use Rattle.nc_journal.proofs.journal.Journal.resolve.Goals as goal

pub put-requires : goal.put-requires
put-requires g c = λ file told.
    let s = c.requires.1 file told in
    omega (
      arith,
      undo_within g.D.Disk.seen g.D.Disk.may_leave g.D.Disk.moment g.D.Disk.left_since g.met.D.Disk.seen_is_left
          c.requires.0 c.args.self.now s.bodies s.doubt s.stands c.in-Some.undo c.in-Some.is file told,
    )

pub returns-in_err-put-clause-kept : goal.returns-in_err-put-clause-kept
returns-in_err-put-clause-kept g c = on_err c.from_residual.result _ (λ header bodies doubt stands.
    undo_kept g.D.Disk.seen g.D.Disk.may_leave g.D.Disk.moment g.D.Disk.left_since g.met.D.Disk.seen_is_left
    header c.args.self.now _ bodies doubt stands c.in-Some.undo c.in-Some.is refl (record { second = refl; start = refl; gate = refl; records = refl })
    c.put.ensures.tells c.put.ensures.passes)

pub returns-in_err-put-clause-moments : goal.returns-in_err-put-clause-moments
returns-in_err-put-clause-moments g c = λ header bodies doubt stands.
    undo_moments g.D.Disk.seen g.D.Disk.may_leave g.D.Disk.moment g.D.Disk.left_since g.met.D.Disk.seen_is_left
    header c.args.self.now bodies doubt stands c.in-Some.undo c.in-Some.is c.put.new.disk c.put.ensures.passes

pub returns-in_ok-put-clause-done : goal.returns-in_ok-put-clause-done
returns-in_ok-put-clause-done g c = λ header bodies doubt stands.
    undo_done g.D.Disk.seen g.D.Disk.may_leave g.D.Disk.moment g.D.Disk.left_since g.met.D.Disk.seen_is_left
    header c.args.self.now _ bodies doubt stands c.in-Some.undo c.in-Some.is refl (record { second = refl; start = refl; gate = refl; records = refl })
    c.put.ensures.tells c.in_ok-put.ensures.done

pub returns-in_ok-put-clause-moments : goal.returns-in_ok-put-clause-moments
returns-in_ok-put-clause-moments g c = λ header bodies doubt stands.
    undo_moments g.D.Disk.seen g.D.Disk.may_leave g.D.Disk.moment g.D.Disk.left_since g.met.D.Disk.seen_is_left
    header c.args.self.now bodies doubt stands c.in-Some.undo c.in-Some.is c.put.new.disk c.put.ensures.passes

pub returns-in_default-clause-moments : goal.returns-in_default-clause-moments
returns-in_default-clause-moments g c = λ header bodies doubt stands.
    stands_now g.D.Disk.seen g.D.Disk.may_leave g.D.Disk.moment g.D.Disk.left_since g.met.D.Disk.seen_is_left g.met.D.Disk.only_now
    header c.args.self.now bodies doubt stands

pub returns-in_err-put-clause-within : goal.returns-in_err-put-clause-within
returns-in_err-put-clause-within g c = λ file told limit before.
    let s = c.requires.1 file told in
    undo_grows g.D.Disk.seen g.D.Disk.may_leave g.D.Disk.moment g.D.Disk.left_since g.met.D.Disk.seen_is_left
    c.requires.0 c.args.self.now s.bodies s.doubt s.stands c.in-Some.undo c.in-Some.is c.put.new.disk c.put.ensures.passes limit before

pub returns-in_ok-put-clause-within : goal.returns-in_ok-put-clause-within
returns-in_ok-put-clause-within g c = λ file told limit before.
    let s = c.requires.1 file told in
    undo_grows g.D.Disk.seen g.D.Disk.may_leave g.D.Disk.moment g.D.Disk.left_since g.met.D.Disk.seen_is_left
    c.requires.0 c.args.self.now s.bodies s.doubt s.stands c.in-Some.undo c.in-Some.is c.put.new.disk c.put.ensures.passes limit before
