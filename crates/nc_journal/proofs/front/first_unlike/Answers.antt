use Rattle.std.proofs.Common.{◌≡◌, ◌+◌, ◌≤◌, ◌<◌, ℕ, List, length, take, refl, sym, ◌∙◌, subst, arith}
use Rattle.std.proofs.lemmas.List.{take_all}
use Rattle.nc_journal.specs.Files.{At}
use Rattle.nc_journal.proofs.Looking.{looks_none, looks_then, unlike_more}
use Rattle.nc_journal.proofs.front.first_unlike.Goals as goal

pub loop-at-init : goal.loop-at-init
loop-at-init g c = (
  omega arith,
  looks_none g.D.Disk.seen g.D.Disk.may_leave g.D.Disk.moment g.D.Disk.left_since g.met.D.Disk.only_now c.args.disk.now,
  λ file told. record { is = refl },
  refl,
)

pub returns-then-not-branch-clause-unlike : goal.returns-then-not-branch-clause-unlike
returns-then-not-branch-clause-unlike g c = λ file told absent.
    let inv = c.loop-at.invariant in
    record {
      within = c.loop-at-test.true;
      front = inv.2 file told;
      unlike = λ same. c.in_ok-is_byte.ensures.no c.if-not-branch.true file (inv.1.same ∙ told) (same ∙ c.item.ensures);
    }

pub loop-at-preserved : goal.loop-at-preserved
loop-at-preserved g c =
    let inv = c.loop-at.invariant in (
      omega (arith, c.loop-at-test.true),
      looks_then g.D.Disk.seen g.D.Disk.may_leave g.D.Disk.moment g.D.Disk.left_since g.met.D.Disk.only_now c.args.disk.now
          c.loop-at.disk c.is_byte.new.disk inv.1 c.is_byte.ensures.only_reads,
      λ file told.
          unlike_more c.loop-at.at c.item.result c.args.expected.now file c.loop-at-test.true c.item.ensures (inv.2 file told)
          (c.in_ok-is_byte.ensures.yes c.if-not-branch.false file (inv.1.same ∙ told)),
      c.in_ok-is_byte.ensures.cause.same ∙ inv.3,
    )

pub returns-clause-unlike : goal.returns-clause-unlike
returns-clause-unlike g c = λ file told absent.
    let inv = c.loop-at.invariant in
    absurd (absent (subst (λ (l : List ℕ). At 0 l file)
    (take_all c.loop-at.at c.args.expected.now (omega (arith, c.loop-at-test.false))) (inv.2 file told)))
