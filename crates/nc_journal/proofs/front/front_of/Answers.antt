use Rattle.std.proofs.Common.{◌≡◌, inl, inr, ℕ, ◌+◌, ◌<◌, ◌≤◌, Bool, nat_eq, List, ◌∷◌, length, slice_get, Option, Some, refl, sym, ◌∙◌, ap, subst, arith}
use Rattle.std.proofs.lemmas.Result.{err_from_is_err_and}
use Rattle.nc_journal.specs.Format.{mark, number, slot_place}
use Rattle.nc_journal.specs.Files.{At, HoldsAt}
use Rattle.nc_journal.proofs.FaultLemmas.{refused_both}
use Rattle.nc_journal.proofs.Fronts.{front_is, opened_is}
use Rattle.nc_journal.proofs.Looking.{if_some_is, none_here}
use Rattle.nc_journal.specs.Refusing.{IsFirstUnlike, bad_mark, short_front, bad_slot}
use Rattle.nc_journal.proofs.Numbers.{slot_last}
use Rattle.nc_journal.proofs.front.front_of.Goals as goal
use Rattle.nc_journal.proofs.front.front_of.Goals.{then-place-lt-AREAS_BEGIN-via-then-place-lt-AREAS_BEGIN, then-place-lt-AREAS_BEGIN-via-else-place-lt-AREAS_BEGIN+then-place-size}

pub returns-then-not-branch-clause-why : goal.returns-then-not-branch-clause-why
returns-then-not-branch-clause-why g c = λ file told long header old.
    bad_mark old (subst (λ (l : List ℕ). IsFirstUnlike l c.in_ok-at.at file) c.opened-expected.ensures
    (c.in_ok-at.ensures.unlike file (c.matches.ensures.only_reads.same ∙ told)
    (c.in_ok-matches.ensures.other c.if-not-branch.true file told)))

pub returns-then-size-lt-AREAS_BEGIN-clause-why : goal.returns-then-size-lt-AREAS_BEGIN-clause-why
returns-then-size-lt-AREAS_BEGIN-clause-why g c = λ file told long header old.
    short_front (subst (λ l. At 0 l file) c.opened-expected.ensures (c.in_ok-matches.ensures.same c.if-not-branch.false file told))
    (omega (arith, c.if-size-lt-AREAS_BEGIN.true, long)) (sym long)

pub returns-in_err-byte-clause-why : goal.returns-in_err-byte-clause-why
returns-in_err-byte-clause-why g c =
    let p = err_from_is_err_and c.from_residual-in_err-byte.result c.from_residual-in_err-byte.ensures.1 in
    refused_both ℕ _ c.from_residual-in_err-byte.result c.in_err-byte.field-0.0 p.0 _ _ _ p.1 p.2
    c.in_err-byte.ensures.place c.in_err-byte.ensures.none (λ f at none file told long header old.
    absurd (omega (arith, none file (c.matches.ensures.only_reads.same ∙ told), c.if-size-lt-AREAS_BEGIN.false, long)))

pub returns-in_default-clause-why : goal.returns-in_default-clause-why
returns-in_default-clause-why g c = λ file told long header old.
    let mid = c.matches.ensures.only_reads.same ∙ told in
    absurd (omega (
      arith,
      c.in_ok-place.ensures.short (none_here c.in_ok-place.field-0 c.in_default.not-Some) file (c.byte_due.ensures.only_reads.same ∙ mid),
      c.slot_of-slot.ensures,
      slot_last (nat_eq c.in_ok-byte.byte 1),
      c.if-size-lt-AREAS_BEGIN.false,
      long,
    ))

pub returns-then-place-lt-AREAS_BEGIN-clause-why : goal.returns-then-place-lt-AREAS_BEGIN-clause-why
returns-then-place-lt-AREAS_BEGIN-clause-why g c = λ file told long header old.
    let mid = c.matches.ensures.only_reads.same ∙ told in
    bad_slot c.in_ok-byte.byte c.in-Some.place
    (subst (λ l. At 0 l file) c.opened-expected.ensures (c.in_ok-matches.ensures.same c.if-not-branch.false file told))
    (omega (arith, c.if-size-lt-AREAS_BEGIN.false, long)) (c.in_ok-byte.ensures.byte file mid) c.slot_of-slot.ensures
    (if_some_is c.in_ok-place.field-0 c.in-Some.place _ c.in-Some.is c.in_ok-place.ensures.sound file (c.byte_due.ensures.only_reads.same ∙ mid))
    (omega arith)
    (elim c.then-place-lt-AREAS_BEGIN.branch [
      | then-place-lt-AREAS_BEGIN-via-then-place-lt-AREAS_BEGIN w ↦ inl w.if-place-lt-AREAS_BEGIN.true
      | then-place-lt-AREAS_BEGIN-via-else-place-lt-AREAS_BEGIN+then-place-size w ↦ inr (omega (arith, w.if-place-size.true, long))
    ])

pub returns-clause-sound : goal.returns-clause-sound
returns-clause-sound g c = λ file told long.
    let mid = c.matches.ensures.only_reads.same ∙ told in
    record {
      opened = subst (λ l. At 0 l file) c.opened-expected.ensures (c.in_ok-matches.ensures.same c.if-not-branch.false file told);
      byte_is = c.in_ok-byte.ensures.byte file mid;
      second_is = refl;
      slot = subst (λ k. At k (number c.in-Some.place) file) c.slot_of-slot.ensures
          (if_some_is c.in_ok-place.field-0 c.in-Some.place _ c.in-Some.is c.in_ok-place.ensures.sound file (c.byte_due.ensures.only_reads.same ∙ mid));
      low = c.if-place-lt-AREAS_BEGIN.false;
      high = omega (arith, long, c.if-place-size.false);
      fits = omega (arith, c.if-place-size.false, c.ranges.size.fits);
    }

pub returns-clause-held : goal.returns-clause-held
returns-clause-held g c = λ file told long header bodies doubt holds.
    let mid = c.matches.ensures.only_reads.same ∙ told in
    let front = front_is header bodies doubt file c.in_ok-byte.byte holds (c.in_ok-byte.ensures.byte file mid) in
    let e : Some c.in-Some.place ≡ Some front.place = sym c.in-Some.is
    ∙ c.in_ok-place.ensures.number file (c.byte_due.ensures.only_reads.same ∙ mid) front.place front.fits (subst (λ k. At k (number front.place) file) (sym c.slot_of-slot.ensures) front.slot) in
    let same : c.in-Some.place ≡ front.place = cc in
    subst (λ p. HoldsAt header (nat_eq c.in_ok-byte.byte 1) p bodies doubt file) (sym same) front.held
