use Rattle.std.proofs.Common.{◌≡◌, ℕ, ◌+◌, ◌≤◌, length, take, drop, refl, sym, ◌∙◌, ap, subst, arith}
use Rattle.nc_journal.specs.Files.{At}
use Rattle.nc_journal.proofs.Looking.{looks_then, part_at, parts_at}
use Rattle.nc_journal.proofs.read.matches.Goals as goal

pub returns-then-not-branch-clause-other : goal.returns-then-not-branch-clause-other
returns-then-not-branch-clause-other g c = λ no file told at.
    let inv = c.loop-done.invariant in
    c.in_ok-is_piece.ensures.other c.if-not-branch.true file (inv.1.same ∙ told)
    (subst (λ l. At (c.args.at + c.loop-done.done) l file) (sym c.part-piece.ensures)
    (part_at c.args.at c.loop-done.done c.min-count.result c.args.expected.now file (omega arith) at))

pub loop-done-preserved : goal.loop-done-preserved
loop-done-preserved g c =
    let inv = c.loop-done.invariant in (
      omega arith,
      looks_then g.D.Disk.seen g.D.Disk.may_leave g.D.Disk.moment g.D.Disk.left_since g.met.D.Disk.only_now c.args.disk.now c.loop-done.disk c.is_piece.new.disk inv.1 c.is_piece.ensures.only_reads,
      λ file told.
          parts_at c.args.at c.loop-done.done c.min-count.result c.args.expected.now file (omega arith) (inv.2 file told)
          (subst (λ l. At (c.args.at + c.loop-done.done) l file) c.part-piece.ensures
          (c.in_ok-is_piece.ensures.same c.if-not-branch.false file (inv.1.same ∙ told))),
      c.in_ok-is_piece.ensures.cause.same ∙ inv.3,
    )
