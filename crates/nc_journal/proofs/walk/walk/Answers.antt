use Rattle.std.proofs.Common.{◌≡◌, inl, inr, ℕ, ◌+◌, ◌<◌, ◌≤◌, List, [], ◌∷◌, ◌++◌, length, slice_get, Option, Some, Result, sym, ◌∙◌, ap, subst, arith}
use Rattle.std.proofs.lemmas.Result.{err_from_is_err_and}
use Rattle.nc_journal.specs.Opening.{IsSoFar}
use Rattle.nc_journal.specs.inner.Reading.{HasWalked}
use Rattle.nc_journal.proofs.FaultLemmas.{refused_both, stuck_at}
use Rattle.nc_journal.proofs.Looking.{looks_then}
use Rattle.nc_journal.proofs.Walking.{walked_start, walked_next, walked_more, walked_end, so_far_start, so_far_more, so_far_end}
use Rattle.nc_journal.proofs.walk.walk.Goals as goal

pub loop-byte-init : goal.loop-byte-init
loop-byte-init g c = (
  c.gate_due.ensures.only_reads,
  c.in_ok-byte.ensures.cause.same,
  c.in_ok-byte.ensures.within,
  c.in_ok-byte.ensures.byte,
  λ file told long header place bodies gate area is.
      subst (λ (l : List (List ℕ)). HasWalked header place bodies file l c.args.start c.in_ok-byte.byte) (sym c.new-bodies.ensures)
      (walked_start header place bodies file c.args.start c.in_ok-byte.byte is (c.in_ok-byte.ensures.byte file told)),
  λ file told header place is stands.
      subst (λ (l : List (List ℕ)). IsSoFar header place l file c.args.start) (sym c.new-bodies.ensures) (so_far_start header place c.args.start file is stands),
)

pub loop-byte-preserved : goal.loop-byte-preserved
loop-byte-preserved g c =
    let inv = c.loop-byte.invariant in
    let only_reads = looks_then g.D.Disk.seen g.D.Disk.may_leave g.D.Disk.moment g.D.Disk.left_since g.met.D.Disk.only_now c.args.disk.now c.record_at.new.disk c.gate_due-in-loop-byte.new.disk
    (looks_then g.D.Disk.seen g.D.Disk.may_leave g.D.Disk.moment g.D.Disk.left_since g.met.D.Disk.only_now c.args.disk.now c.loop-byte.disk c.record_at.new.disk inv.0 c.record_at.ensures.only_reads)
    c.gate_due-in-loop-byte.ensures.only_reads in (
      only_reads,
      c.in_ok-byte-2.ensures.cause.same ∙ c.in_ok-body.ensures.cause.same ∙ inv.1,
      c.in_ok-byte-2.ensures.within,
      λ file told. c.in_ok-byte-2.ensures.byte file (c.record_at.ensures.only_reads.same ∙ inv.0.same ∙ told),
      λ file told long header place bodies gate area is.
          let walked = inv.4 file told long header place bodies gate area is in
          let next = walked_next header place bodies gate file _ c.loop-byte.at c.loop-byte.byte area walked c.loop-byte-test.true in
          let mid = inv.0.same ∙ told in
          let read = c.in_ok-body.ensures.body file mid next.body next.small next.stands in
          let more = walked_more header place bodies file c.loop-byte.bodies c.loop-byte.at (c.loop-byte.at + (9 + c.len.result)) c.in_ok-byte-2.byte c.in_ok-body.body
          walked.there next read (omega (arith, c.len.ensures)) (c.in_ok-byte-2.ensures.byte file (c.record_at.ensures.only_reads.same ∙ mid)) in
          let pushed : c.push.new.self ≡ c.loop-byte.bodies ++ c.in_ok-body.body ∷ [] = c.in_ok-push.ensures.ok in
          subst (λ (l : List (List ℕ)). HasWalked header place bodies file l (c.loop-byte.at + (9 + c.len.result)) c.in_ok-byte-2.byte) (sym pushed) more,
      λ file told header place is stands.
          let so_far = inv.5 file told header place is stands in
          let mid = inv.0.same ∙ told in
          let gate : slice_get file c.loop-byte.at ≡ Some 1 = inv.3 file told ∙ ap (λ (b : ℕ). Some b) c.loop-byte-test.true in
          let body = c.in_ok-body.ensures.sound file mid gate in
          let more = so_far_more header place c.loop-byte.bodies file c.loop-byte.at (c.loop-byte.at + (9 + c.len.result)) c.in_ok-body.body so_far body.0 body.1 (omega (arith, c.len.ensures)) in
          let pushed : c.push.new.self ≡ c.loop-byte.bodies ++ c.in_ok-body.body ∷ [] = c.in_ok-push.ensures.ok in
          subst (λ (l : List (List ℕ)). IsSoFar header place l file (c.loop-byte.at + (9 + c.len.result))) (sym pushed) more,
    )

pub returns-clause-read : goal.returns-clause-read
returns-clause-read g c = λ file told long header place bodies gate area is.
    let inv = c.loop-byte.invariant in
    walked_end header place bodies gate file c.loop-byte.bodies c.loop-byte.at c.loop-byte.byte area
    (inv.4 file told long header place bodies gate area is) c.loop-byte-test.false

pub returns-clause-sound : goal.returns-clause-sound
returns-clause-sound g c = λ file told header place is stands.
    let inv = c.loop-byte.invariant in
    so_far_end header place c.loop-byte.bodies file c.loop-byte.at c.loop-byte.byte (inv.5 file told header place is stands) (inv.3 file told) c.loop-byte-test.false

pub returns-in_err-byte-clause-why : goal.returns-in_err-byte-clause-why
returns-in_err-byte-clause-why g c =
    let p = err_from_is_err_and c.from_residual.result c.from_residual.ensures.1 in
    refused_both ℕ _ c.from_residual.result c.in_err-byte.field-0.0 p.0 _ _ _ p.1 p.2
    c.in_err-byte.ensures.place c.in_err-byte.ensures.none (λ f at none file told long header place is stands.
    stuck_at header place c.args.start f file [] at (so_far_start header place c.args.start file is stands)
    (inl (none file told long)))

pub returns-in_err-body-clause-why : goal.returns-in_err-body-clause-why
returns-in_err-body-clause-why g c =
    let p = err_from_is_err_and c.from_residual-in_err-body.result c.from_residual-in_err-body.ensures.1 in
    let inv = c.loop-byte.invariant in
    refused_both (List ℕ) _ c.from_residual-in_err-body.result c.in_err-body.field-0.0 p.0 _ _ _ p.1 p.2
    c.in_err-body.ensures.place c.in_err-body.ensures.none (λ f at none file told long header place is stands.
    let gate : slice_get file c.loop-byte.at ≡ Some 1 = inv.3 file told ∙ ap (λ (b : ℕ). Some b) c.loop-byte-test.true in
    stuck_at header place c.loop-byte.at f file c.loop-byte.bodies at (inv.5 file told header place is stands)
    (inr (gate, none file (inv.0.same ∙ told) long)))

pub returns-in_err-byte-2-clause-why : goal.returns-in_err-byte-2-clause-why
returns-in_err-byte-2-clause-why g c =
    let p = err_from_is_err_and c.from_residual-in_err-byte-2.result c.from_residual-in_err-byte-2.ensures.1 in
    let inv = c.loop-byte.invariant in
    refused_both ℕ _ c.from_residual-in_err-byte-2.result c.in_err-byte-2.field-0.0 p.0 _ _ _ p.1 p.2
    c.in_err-byte-2.ensures.place c.in_err-byte-2.ensures.none (λ f at none file told long header place is stands.
    let mid = inv.0.same ∙ told in
    let gate : slice_get file c.loop-byte.at ≡ Some 1 = inv.3 file told ∙ ap (λ (b : ℕ). Some b) c.loop-byte-test.true in
    let body = c.in_ok-body.ensures.sound file mid gate in
    stuck_at header place (c.loop-byte.at + (9 + c.len.result)) f file (c.loop-byte.bodies ++ c.in_ok-body.body ∷ []) at
    (so_far_more header place c.loop-byte.bodies file c.loop-byte.at (c.loop-byte.at + (9 + c.len.result)) c.in_ok-body.body
    (inv.5 file told header place is stands) body.0 body.1 (omega (arith, c.len.ensures)))
    (inl (none file (c.record_at.ensures.only_reads.same ∙ mid) long)))
