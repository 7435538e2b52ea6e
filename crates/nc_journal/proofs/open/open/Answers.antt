use Rattle.std.proofs.Common.{◌≡◌, ℕ, ◌+◌, Bool, false, List, [], length, Option, Some, is_some, Result, refl, sym, ◌∙◌, ap, subst}
use Rattle.std.proofs.lemmas.List.{append-nil}
use Rattle.nc_outside.specs.Disks.{LeavesOnly, IsSettled}
use Rattle.nc_outside.proofs.DiskFiles.{told_before}
use Rattle.nc_journal.specs.Files.{HoldsAmong}
use Rattle.nc_journal.specs.Journal.{allowed}
use Rattle.nc_journal.proofs.Standing.{on_err, only_as, only_then}
use Rattle.nc_journal.specs.Opening.{StartsNew, StartsAmong, StartsFresh, left_before, stands, left_before_making, fresh, as_new, as_read}
use Rattle.nc_journal.specs.inner.Reading.{OnlyReads, IsOpened}
use Rattle.nc_journal.specs.declared.whole.Whole.{Whole}
use Rattle.nc_journal.proofs.FaultLemmas.{err_map, on_stopped, refused_map, stopped_map}
use Rattle.nc_journal.proofs.Fronts.{holds_not_new}
use Rattle.nc_journal.proofs.Looking.{looks_none, looks_then, if_ok_also}
use Rattle.nc_journal.proofs.Settled.{looked_settled, first_moments}
use Rattle.nc_journal.proofs.open.open.Goals as goal

pub returns-then-not-branch-clause-fresh : goal.returns-then-not-branch-clause-fresh
returns-then-not-branch-clause-fresh g c = if_ok_also c.mend.result _ _ c.mend.ensures.clean (λ it clean file told new.
    let one = c.settle.ensures.seen ∙ told in
    let done = c.in_ok-size.ensures.done file told in
    let two = c.is_new.ensures.only_reads.same ∙ one in
    let long = sym done.0 in
    let rest = c.as_slice.ensures ∙ c.in_ok-rest.ensures in
    absurd (c.in_ok-is_new.ensures.no c.if-not-branch.true file one long c.args.header.now rest new))

pub returns-then-not-branch-clause-held : goal.returns-then-not-branch-clause-held
returns-then-not-branch-clause-held g c = if_ok_also c.mend.result _ _ c.mend.ensures.clean (λ it clean file told bodies doubt holds.
    let one = c.settle.ensures.seen ∙ told in
    let done = c.in_ok-size.ensures.done file told in
    let two = c.is_new.ensures.only_reads.same ∙ one in
    let long = sym done.0 in
    let rest = c.as_slice.ensures ∙ c.in_ok-rest.ensures in
    let settled = looked_settled g.D.Disk.seen g.D.Disk.may_leave g.D.Disk.moment g.D.Disk.left_since c.settle.new.disk c.is_new.new.disk file c.is_new.ensures.only_reads done.1 in
    let all = clean file two settled long bodies doubt holds in
    (all.0, record { gate_is = all.1; images = all.2 }))

pub returns-then-not-branch-clause-moments_fresh : goal.returns-then-not-branch-clause-moments_fresh
returns-then-not-branch-clause-moments_fresh g c = λ file told new.
    let one = c.settle.ensures.seen ∙ told in
    let done = c.in_ok-size.ensures.done file told in
    let two = c.is_new.ensures.only_reads.same ∙ one in
    let long = sym done.0 in
    let rest = c.as_slice.ensures ∙ c.in_ok-rest.ensures in
    absurd (c.in_ok-is_new.ensures.no c.if-not-branch.true file one long c.args.header.now rest new)

pub returns-then-not-branch-clause-moments_held : goal.returns-then-not-branch-clause-moments_held
returns-then-not-branch-clause-moments_held g c = λ file told bodies doubt holds.
    let one = c.settle.ensures.seen ∙ told in
    let done = c.in_ok-size.ensures.done file told in
    let two = c.is_new.ensures.only_reads.same ∙ one in
    let long = sym done.0 in
    let rest = c.as_slice.ensures ∙ c.in_ok-rest.ensures in
    let settled = looked_settled g.D.Disk.seen g.D.Disk.may_leave g.D.Disk.moment g.D.Disk.left_since c.settle.new.disk c.is_new.new.disk file c.is_new.ensures.only_reads done.1 in
    let first : OnlyReads g.D.Disk.seen g.D.Disk.may_leave g.D.Disk.moment g.D.Disk.left_since c.args.disk.now c.settle.new.disk = record { same = c.settle.ensures.seen; passes = c.settle.ensures.passes } in
    let only_reads = looks_then g.D.Disk.seen g.D.Disk.may_leave g.D.Disk.moment g.D.Disk.left_since g.met.D.Disk.only_now c.args.disk.now c.settle.new.disk c.is_new.new.disk first c.is_new.ensures.only_reads in
    only_then g.D.Disk.moment g.D.Disk.left_since c.args.disk.now c.is_new.new.disk c.mend.new.disk (StartsAmong g.D.Disk.may_leave c.args.disk.now c.args.header.now (allowed bodies doubt))
    (first_moments g.D.Disk.seen g.D.Disk.may_leave g.D.Disk.moment g.D.Disk.left_since c.args.disk.now c.is_new.new.disk file (StartsAmong g.D.Disk.may_leave c.args.disk.now c.args.header.now (allowed bodies doubt)) only_reads (λ f left. left_before left))
    (only_as g.D.Disk.moment g.D.Disk.left_since c.is_new.new.disk c.mend.new.disk (HoldsAmong c.args.header.now (allowed bodies doubt)) (StartsAmong g.D.Disk.may_leave c.args.disk.now c.args.header.now (allowed bodies doubt)) (λ f held. stands held) (c.mend.ensures.moments file two settled long bodies doubt holds))

pub returns-then-not-branch-clause-read : goal.returns-then-not-branch-clause-read
returns-then-not-branch-clause-read g c = if_ok_also c.mend.result _ _ c.mend.ensures.read (λ it read file told.
    let one = c.settle.ensures.seen ∙ told in
    let done = c.in_ok-size.ensures.done file told in
    let two = c.is_new.ensures.only_reads.same ∙ one in
    let long = sym done.0 in
    let rest = c.as_slice.ensures ∙ c.in_ok-rest.ensures in
    as_read (read file two long))

pub returns-clause-read : goal.returns-clause-read
returns-clause-read g c = λ file told.
    let one = c.settle.ensures.seen ∙ told in
    let done = c.in_ok-size.ensures.done file told in
    let two = c.is_new.ensures.only_reads.same ∙ one in
    let long = sym done.0 in
    let rest = c.as_slice.ensures ∙ c.in_ok-rest.ensures in
    let new = c.in_ok-is_new.ensures.yes c.if-not-branch.false file one long c.args.header.now rest in
    as_new new c.new.ensures

pub make-requires : goal.make-requires
make-requires g c = λ file now.
    let one = sym c.is_new.ensures.only_reads.same ∙ now in
    let told = sym c.settle.ensures.seen ∙ one in
    let done = c.in_ok-size.ensures.done file told in
    let settled = looked_settled g.D.Disk.seen g.D.Disk.may_leave g.D.Disk.moment g.D.Disk.left_since c.settle.new.disk c.is_new.new.disk file c.is_new.ensures.only_reads done.1 in
    (settled, done.0)

pub returns-in_err-make-clause-moments_fresh : goal.returns-in_err-make-clause-moments_fresh
returns-in_err-make-clause-moments_fresh g c = λ file told new.
    let one = c.settle.ensures.seen ∙ told in
    let done = c.in_ok-size.ensures.done file told in
    let two = c.is_new.ensures.only_reads.same ∙ one in
    let long = sym done.0 in
    let rest = c.as_slice.ensures ∙ c.in_ok-rest.ensures in
    let first : OnlyReads g.D.Disk.seen g.D.Disk.may_leave g.D.Disk.moment g.D.Disk.left_since c.args.disk.now c.settle.new.disk = record { same = c.settle.ensures.seen; passes = c.settle.ensures.passes } in
    let only_reads = looks_then g.D.Disk.seen g.D.Disk.may_leave g.D.Disk.moment g.D.Disk.left_since g.met.D.Disk.only_now c.args.disk.now c.settle.new.disk c.is_new.new.disk first c.is_new.ensures.only_reads in
    only_then g.D.Disk.moment g.D.Disk.left_since c.args.disk.now c.is_new.new.disk c.make.new.disk (StartsFresh g.D.Disk.may_leave c.args.disk.now c.args.header.now)
    (first_moments g.D.Disk.seen g.D.Disk.may_leave g.D.Disk.moment g.D.Disk.left_since c.args.disk.now c.is_new.new.disk file (StartsFresh g.D.Disk.may_leave c.args.disk.now c.args.header.now) only_reads (λ f left. left_before_making left))
    (only_as g.D.Disk.moment g.D.Disk.left_since c.is_new.new.disk c.make.new.disk (StartsNew c.args.header.now) (StartsFresh g.D.Disk.may_leave c.args.disk.now c.args.header.now) (λ f starts. fresh starts) (c.make.ensures.moments file two c.args.header.now (c.as_slice-2.ensures ∙ c.in_ok-rest.ensures) new))

pub returns-clause-moments_fresh : goal.returns-clause-moments_fresh
returns-clause-moments_fresh g c = λ file told new.
    let one = c.settle.ensures.seen ∙ told in
    let done = c.in_ok-size.ensures.done file told in
    let two = c.is_new.ensures.only_reads.same ∙ one in
    let long = sym done.0 in
    let rest = c.as_slice.ensures ∙ c.in_ok-rest.ensures in
    let first : OnlyReads g.D.Disk.seen g.D.Disk.may_leave g.D.Disk.moment g.D.Disk.left_since c.args.disk.now c.settle.new.disk = record { same = c.settle.ensures.seen; passes = c.settle.ensures.passes } in
    let only_reads = looks_then g.D.Disk.seen g.D.Disk.may_leave g.D.Disk.moment g.D.Disk.left_since g.met.D.Disk.only_now c.args.disk.now c.settle.new.disk c.is_new.new.disk first c.is_new.ensures.only_reads in
    only_then g.D.Disk.moment g.D.Disk.left_since c.args.disk.now c.is_new.new.disk c.make.new.disk (StartsFresh g.D.Disk.may_leave c.args.disk.now c.args.header.now)
    (first_moments g.D.Disk.seen g.D.Disk.may_leave g.D.Disk.moment g.D.Disk.left_since c.args.disk.now c.is_new.new.disk file (StartsFresh g.D.Disk.may_leave c.args.disk.now c.args.header.now) only_reads (λ f left. left_before_making left))
    (only_as g.D.Disk.moment g.D.Disk.left_since c.is_new.new.disk c.make.new.disk (StartsNew c.args.header.now) (StartsFresh g.D.Disk.may_leave c.args.disk.now c.args.header.now) (λ f starts. fresh starts) (c.make.ensures.moments file two c.args.header.now (c.as_slice-2.ensures ∙ c.in_ok-rest.ensures) new))

pub returns-in_err-make-clause-moments_held : goal.returns-in_err-make-clause-moments_held
returns-in_err-make-clause-moments_held g c = λ file told bodies doubt holds.
    let one = c.settle.ensures.seen ∙ told in
    let done = c.in_ok-size.ensures.done file told in
    let two = c.is_new.ensures.only_reads.same ∙ one in
    let long = sym done.0 in
    let rest = c.as_slice.ensures ∙ c.in_ok-rest.ensures in
    let new = c.in_ok-is_new.ensures.yes c.if-not-branch.false file one long c.args.header.now rest in
    absurd (holds_not_new c.args.header.now bodies doubt file holds new)

pub returns-clause-moments_held : goal.returns-clause-moments_held
returns-clause-moments_held g c = λ file told bodies doubt holds.
    let one = c.settle.ensures.seen ∙ told in
    let done = c.in_ok-size.ensures.done file told in
    let two = c.is_new.ensures.only_reads.same ∙ one in
    let long = sym done.0 in
    let rest = c.as_slice.ensures ∙ c.in_ok-rest.ensures in
    let new = c.in_ok-is_new.ensures.yes c.if-not-branch.false file one long c.args.header.now rest in
    absurd (holds_not_new c.args.header.now bodies doubt file holds new)

pub returns-clause-held : goal.returns-clause-held
returns-clause-held g c = λ file told bodies doubt holds.
    let one = c.settle.ensures.seen ∙ told in
    let done = c.in_ok-size.ensures.done file told in
    let two = c.is_new.ensures.only_reads.same ∙ one in
    let long = sym done.0 in
    let rest = c.as_slice.ensures ∙ c.in_ok-rest.ensures in
    let new = c.in_ok-is_new.ensures.yes c.if-not-branch.false file one long c.args.header.now rest in
    absurd (holds_not_new c.args.header.now bodies doubt file holds new)

pub returns-clause-fresh : goal.returns-clause-fresh
returns-clause-fresh g c = λ file told new.
    let one = c.settle.ensures.seen ∙ told in
    let done = c.in_ok-size.ensures.done file told in
    let two = c.is_new.ensures.only_reads.same ∙ one in
    let long = sym done.0 in
    let rest = c.as_slice.ensures ∙ c.in_ok-rest.ensures in (
      c.new.ensures,
      record {
        gate_is = ap (λ (l : List ℕ). 26 + length l) (sym (append-nil c.args.header.now));
        images = c.in_ok-make.ensures.done file two c.args.header.now (c.as_slice-2.ensures ∙ c.in_ok-rest.ensures);
      },
    )

pub returns-then-not-branch-clause-opened : goal.returns-then-not-branch-clause-opened
returns-then-not-branch-clause-opened g c = if_ok_also c.mend.result _ _ c.mend.ensures.rests (λ it rests file told.
    let one = c.settle.ensures.seen ∙ told in
    let done = c.in_ok-size.ensures.done file told in
    let two = c.is_new.ensures.only_reads.same ∙ one in
    let long = sym done.0 in
    let settled = looked_settled g.D.Disk.seen g.D.Disk.may_leave g.D.Disk.moment g.D.Disk.left_since c.settle.new.disk c.is_new.new.disk file c.is_new.ensures.only_reads done.1 in
    let all = rests file two settled long in
    record { gate_is = all.0; images = all.1 })

pub returns-clause-opened : goal.returns-clause-opened
returns-clause-opened g c = λ file told.
    let one = c.settle.ensures.seen ∙ told in
    let done = c.in_ok-size.ensures.done file told in
    let two = c.is_new.ensures.only_reads.same ∙ one in
    let long = sym done.0 in
    let rest = c.as_slice.ensures ∙ c.in_ok-rest.ensures in
    let none : c.new.result ≡ [] = c.new.ensures in
    subst (λ (l : List (List ℕ)). IsOpened g.D.Disk.may_leave c.args.header.now l false 26 (26 + length c.args.header.now) c.make.new.disk) (sym none)
    (record {
      gate_is = ap (λ (l : List ℕ). 26 + length l) (sym (append-nil c.args.header.now));
      images = c.in_ok-make.ensures.done file two c.args.header.now (c.as_slice-2.ensures ∙ c.in_ok-rest.ensures);
    })

pub returns-then-not-branch-clause-why : goal.returns-then-not-branch-clause-why
returns-then-not-branch-clause-why g c = refused_map Whole c.mend.result _ _ c.mend.ensures.why (λ f why file told.
    let one = c.settle.ensures.seen ∙ told in
    let done = c.in_ok-size.ensures.done file told in
    let two = c.is_new.ensures.only_reads.same ∙ one in
    let long = sym done.0 in
    let rest = c.as_slice.ensures ∙ c.in_ok-rest.ensures in
    why file two long (c.in_ok-is_new.ensures.no c.if-not-branch.true file one long c.args.header.now rest))

pub returns-in_err-rest-clause-left : goal.returns-in_err-rest-clause-left
returns-in_err-rest-clause-left g c = on_stopped _ c.from_residual.result _
    (looks_none g.D.Disk.seen g.D.Disk.may_leave g.D.Disk.moment g.D.Disk.left_since g.met.D.Disk.only_now c.args.disk.now)

pub returns-in_err-rest-clause-spared : goal.returns-in_err-rest-clause-spared
returns-in_err-rest-clause-spared g c = on_err c.from_residual.result _ (λ file told none.
    looks_none g.D.Disk.seen g.D.Disk.may_leave g.D.Disk.moment g.D.Disk.left_since g.met.D.Disk.only_now c.args.disk.now)

pub returns-in_err-size-clause-spared : goal.returns-in_err-size-clause-spared
returns-in_err-size-clause-spared g c = on_err c.from_residual-in_err-size.result _ (λ file told none.
    record { same = c.settle.ensures.seen; passes = c.settle.ensures.passes })

pub returns-in_err-is_new-clause-spared : goal.returns-in_err-is_new-clause-spared
returns-in_err-is_new-clause-spared g c = on_err c.from_residual-in_err-is_new.result _ (λ file told none.
    let first : OnlyReads g.D.Disk.seen g.D.Disk.may_leave g.D.Disk.moment g.D.Disk.left_since c.args.disk.now c.settle.new.disk =
    record { same = c.settle.ensures.seen; passes = c.settle.ensures.passes } in
    looks_then g.D.Disk.seen g.D.Disk.may_leave g.D.Disk.moment g.D.Disk.left_since g.met.D.Disk.only_now c.args.disk.now c.settle.new.disk c.is_new.new.disk
    first c.is_new.ensures.only_reads)

pub returns-in_err-make-clause-spared : goal.returns-in_err-make-clause-spared
returns-in_err-make-clause-spared g c = on_err c.from_residual-in_err-make.result _ (λ file told none.
    let one = c.settle.ensures.seen ∙ told in
    let long = sym (c.in_ok-size.ensures.done file told).0 in
    let rest = c.as_slice.ensures ∙ c.in_ok-rest.ensures in
    absurd (none [] (as_new (c.in_ok-is_new.ensures.yes c.if-not-branch.false file one long c.args.header.now rest) refl)))

pub returns-then-not-branch-clause-left : goal.returns-then-not-branch-clause-left
returns-then-not-branch-clause-left g c = stopped_map Whole c.mend.result _ _ c.mend.ensures.left (λ reads.
    let first : OnlyReads g.D.Disk.seen g.D.Disk.may_leave g.D.Disk.moment g.D.Disk.left_since c.args.disk.now c.settle.new.disk =
    record { same = c.settle.ensures.seen; passes = c.settle.ensures.passes } in
    looks_then g.D.Disk.seen g.D.Disk.may_leave g.D.Disk.moment g.D.Disk.left_since g.met.D.Disk.only_now c.args.disk.now c.is_new.new.disk c.mend.new.disk
    (looks_then g.D.Disk.seen g.D.Disk.may_leave g.D.Disk.moment g.D.Disk.left_since g.met.D.Disk.only_now c.args.disk.now c.settle.new.disk c.is_new.new.disk first c.is_new.ensures.only_reads)
    reads)

pub returns-then-not-branch-clause-spared : goal.returns-then-not-branch-clause-spared
returns-then-not-branch-clause-spared g c = err_map c.mend.result _ _ c.mend.ensures.spared (λ spared file told none.
    let one = c.settle.ensures.seen ∙ told in
    let two = c.is_new.ensures.only_reads.same ∙ one in
    let long = sym (c.in_ok-size.ensures.done file told).0 in
    let first : OnlyReads g.D.Disk.seen g.D.Disk.may_leave g.D.Disk.moment g.D.Disk.left_since c.args.disk.now c.settle.new.disk =
    record { same = c.settle.ensures.seen; passes = c.settle.ensures.passes } in
    looks_then g.D.Disk.seen g.D.Disk.may_leave g.D.Disk.moment g.D.Disk.left_since g.met.D.Disk.only_now c.args.disk.now c.is_new.new.disk c.mend.new.disk
    (looks_then g.D.Disk.seen g.D.Disk.may_leave g.D.Disk.moment g.D.Disk.left_since g.met.D.Disk.only_now c.args.disk.now c.settle.new.disk c.is_new.new.disk first c.is_new.ensures.only_reads)
    (spared file two long (λ bodies read. none bodies (as_read read))))
