use Rattle.std.proofs.Common.{◌≡◌, ◌+◌, ◌≤◌, length, refl, sym, ◌∙◌, arith}
use Rattle.nc_journal.proofs.Looking.{if_some_is, none_here}
use Rattle.nc_journal.proofs.Segments.{at_front}
use Rattle.nc_journal.specs.Header.{short_number}
use Rattle.nc_journal.proofs.Headers.{counted_made, counted_within, short_numbers_at}
use Rattle.nc_journal.proofs.header.counted_end.Goals as goal

pub returns-then-size-at-lt4-clause-none : goal.returns-then-size-at-lt4-clause-none
returns-then-size-at-lt4-clause-none g c = (
  refl,
  λ file told long text small stands.
      absurd (omega (arith, counted_within c.args.at text file stands, c.if-size-at-lt4.true, long)),
)

pub returns-in_default-clause-none : goal.returns-in_default-clause-none
returns-in_default-clause-none g c = (
  refl,
  λ file told long text small stands.
      absurd (omega (arith, counted_within c.args.at text file stands, c.in_ok-count.ensures.short (none_here c.in_ok-count.field-0 c.in_default.not-Some) file told)),
)

pub returns-then-count-size-clause-none : goal.returns-then-count-size-clause-none
returns-then-count-size-clause-none g c = (
  refl,
  λ file told long text small stands.
      let number_on = if_some_is c.in_ok-count.field-0 c.in-Some.count _ c.in-Some.is c.in_ok-count.ensures.sound file told in
      let same : c.in-Some.count ≡ length text =
      short_numbers_at c.args.at c.in-Some.count (length text) file (omega arith) small number_on
      (at_front c.args.at (short_number (length text)) text file stands) in
      absurd (omega (arith, counted_within c.args.at text file stands, c.if-count-size.true, same, long)),
)

pub returns-clause-sound : goal.returns-clause-sound
returns-clause-sound g c = λ file told long.
    let number_on = if_some_is c.in_ok-count.field-0 c.in-Some.count _ c.in-Some.is c.in_ok-count.ensures.sound file told in
    counted_made c.args.at c.in-Some.count _ file number_on (omega arith)
    (omega (arith, c.if-count-size.false, c.if-size-at-lt4.false, long)) (omega arith)
