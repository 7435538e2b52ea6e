use Rattle.std.proofs.Common.{◌≡◌, ℕ, ◌+◌, ◌≤◌, length, sym, ◌∙◌, arith}
use Rattle.nc_journal.proofs.Looking.{looks_then, read_more}
use Rattle.nc_journal.proofs.read.fill.Goals as goal

pub loop-done-preserved : goal.loop-done-preserved
loop-done-preserved g c =
    let inv = c.loop-done.invariant in (
      omega (arith, c.in_ok-count.ensures.within, c.read_rest.auto.into),
      looks_then g.D.Disk.seen g.D.Disk.may_leave g.D.Disk.moment g.D.Disk.left_since g.met.D.Disk.only_now c.args.disk.now c.loop-done.disk c.read_rest.new.disk inv.1 c.read_rest.ensures.only_reads,
      λ file told.
          let mid = inv.1.same ∙ told in
          read_more c.args.at c.loop-done.done c.in_ok-count.count c.loop-done.into c.read_rest.new.into file (inv.2 file told) c.read_rest.ensures.front
          (c.in_ok-count.ensures.bytes file mid) (c.in_ok-count.ensures.some file mid).0,
      c.in_ok-count.ensures.cause.same ∙ inv.3,
    )
