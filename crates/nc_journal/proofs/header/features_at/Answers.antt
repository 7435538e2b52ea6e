use Rattle.std.proofs.Common.{◌≡◌, ◌+◌, ◌≤◌, length, refl, arith}
use Rattle.nc_journal.proofs.Looking.{if_some_is, none_here}
use Rattle.nc_journal.proofs.Headers.{features_made, features_within, features_count}
use Rattle.nc_journal.proofs.header.features_at.Goals as goal

pub returns-then-size-at-lt8-clause-none : goal.returns-then-size-at-lt8-clause-none
returns-then-size-at-lt8-clause-none g c = (
  refl,
  λ file told long has.
      absurd (omega (arith, features_within c.args.at file has, c.if-size-at-lt8.true, long)),
)

pub returns-in_default-clause-none : goal.returns-in_default-clause-none
returns-in_default-clause-none g c = (
  refl,
  λ file told long has.
      absurd (omega (arith, features_within c.args.at file has, c.in_ok-count.ensures.short (none_here c.in_ok-count.field-0 c.in_default.not-Some) file told)),
)

pub returns-then-count-size-clause-none : goal.returns-then-count-size-clause-none
returns-then-count-size-clause-none g c = (
  refl,
  λ file told long has.
      let number_on = if_some_is c.in_ok-count.field-0 c.in-Some.count _ c.in-Some.is c.in_ok-count.ensures.sound file told in
      let same = features_count c.args.at c.in-Some.count file number_on (omega arith) has in
      absurd (omega (arith, features_within c.args.at file has, c.if-count-size.true, same, long)),
)

pub returns-clause-sound : goal.returns-clause-sound
returns-clause-sound g c = λ file told long.
    let number_on = if_some_is c.in_ok-count.field-0 c.in-Some.count _ c.in-Some.is c.in_ok-count.ensures.sound file told in
    features_made c.args.at c.in-Some.count file number_on (omega arith)
    (omega (arith, c.if-count-size.false, c.if-size-at-lt8.false, long))
