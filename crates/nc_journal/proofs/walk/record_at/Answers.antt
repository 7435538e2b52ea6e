use Rattle.std.proofs.Common.{◌≡◌, ℕ, ◌+◌, ◌<◌, ◌≤◌, List, length, Option, Some, None, sym, ◌∙◌, ap, subst, arith}
use Rattle.nc_journal.specs.Files.{At}
use Rattle.nc_journal.proofs.Looking.{record_parts, record_made, at_same, if_ok_also, if_some_is}
use Rattle.nc_journal.proofs.walk.record_at.Goals as goal
use Rattle.nc_journal.proofs.walk.record_at.Goals.{then-at-size-via-then-at-size, then-at-size-via-else-at-size+then-size-at-lt9, then-count-gt-BODY_LIMIT-via-then-count-gt-BODY_LIMIT, then-count-gt-BODY_LIMIT-via-else-count-gt-BODY_LIMIT+then-count-size}

pub returns-then-at-size-clause-none : goal.returns-then-at-size-clause-none
returns-then-at-size-clause-none g c = λ file told long body small at.
    let parts = record_parts c.args.at body file at in
    elim c.then-at-size.branch [
      | then-at-size-via-then-at-size w ↦ absurd (omega (arith, w.if-at-size.true, parts.within))
      | then-at-size-via-else-at-size+then-size-at-lt9 w ↦ absurd (omega (arith, w.if-at-size.false, w.if-size-at-lt9.true, parts.within))
    ]

pub returns-in_default-clause-none : goal.returns-in_default-clause-none
returns-in_default-clause-none g c = λ file told long body small at.
    let parts = record_parts c.args.at body file at in
    let is = c.in_ok-count.ensures.number file told (length body) (omega arith) parts.long in
    c.in_default.not-Some (length body) is

pub returns-then-count-gt-BODY_LIMIT-clause-none : goal.returns-then-count-gt-BODY_LIMIT-clause-none
returns-then-count-gt-BODY_LIMIT-clause-none g c = λ file told long body small at.
    let parts = record_parts c.args.at body file at in
    let is : Some c.in-Some.count ≡ Some (length body) = sym c.in-Some.is ∙ c.in_ok-count.ensures.number file told (length body) (omega arith) parts.long in
    let same : c.in-Some.count ≡ length body = cc in
    elim c.then-count-gt-BODY_LIMIT.branch [
      | then-count-gt-BODY_LIMIT-via-then-count-gt-BODY_LIMIT w ↦ absurd (omega (arith, w.if-count-gt-BODY_LIMIT.true, small))
      | then-count-gt-BODY_LIMIT-via-else-count-gt-BODY_LIMIT+then-count-size w ↦ absurd (omega (arith, w.if-count-size.true, parts.within))
    ]

pub returns-clause-body : goal.returns-clause-body
returns-clause-body g c = if_ok_also c.bytes_at.result _ _ c.bytes_at.ensures.bytes (λ it read file told body small at.
    let parts = record_parts c.args.at body file at in
    let is : Some c.in-Some.count ≡ Some (length body) = sym c.in-Some.is ∙ c.in_ok-count.ensures.number file told (length body) (omega arith) parts.long in
    let same : c.in-Some.count ≡ length body = cc in
    at_same (c.args.at + 9) it body file (read.0 ∙ same) (read.1 file (c.number_at.ensures.only_reads.same ∙ told)) parts.stands)

pub returns-clause-sound : goal.returns-clause-sound
returns-clause-sound g c = if_ok_also c.bytes_at.result _ _ c.bytes_at.ensures.bytes (λ it read file told gate.
    let number_on = if_some_is c.in_ok-count.field-0 c.in-Some.count _ c.in-Some.is c.in_ok-count.ensures.sound file told in
    (record_made c.args.at c.in-Some.count it file gate number_on read.0 (read.1 file (c.number_at.ensures.only_reads.same ∙ told)), omega (arith, read.0, c.if-count-gt-BODY_LIMIT.false)))
