use Rattle.std.proofs.Common.{◌≡◌, ℕ, ◌+◌, ◌≤◌, length, refl, sym, ◌∙◌, arith}
use Rattle.std.proofs.lemmas.Result.{err_from_is_err_and}
use Rattle.nc_journal.proofs.FaultLemmas.{refused_on}
use Rattle.nc_journal.proofs.Looking.{if_some_is, none_here}
use Rattle.nc_journal.proofs.Headers.{header_within, header_modules, stands_as, count_of, header_made, features_of}
use Rattle.nc_journal.proofs.header.modules_of.Goals as goal

pub returns-then-size-place-lt4-clause-none : goal.returns-then-size-place-lt4-clause-none
returns-then-size-place-lt4-clause-none g c = (
  refl,
  λ file told long has.
      absurd (omega (arith, (header_within c.args.place file has).0, c.if-size-place-lt4.true, long)),
)

pub returns-in_default-clause-none : goal.returns-in_default-clause-none
returns-in_default-clause-none g c = (
  refl,
  λ file told long has.
      absurd (omega (arith, (header_within c.args.place file has).0, c.in_ok-count.ensures.short (none_here c.in_ok-count.field-0 c.in_default.not-Some) file told)),
)

pub returns-in_err-end-clause-none : goal.returns-in_err-end-clause-none
returns-in_err-end-clause-none g c =
    let p = err_from_is_err_and c.from_residual-in_err-end.result c.from_residual-in_err-end.ensures.1 in
    refused_on ℕ _ c.from_residual-in_err-end.result c.in_err-end.field-0.0 p.0 _ _ p.1 p.2 c.in_err-end.ensures.none (λ f why. (
      why.0,
      λ file told long has.
          let number_on = if_some_is c.in_ok-count.field-0 c.in-Some.count _ c.in-Some.is c.in_ok-count.ensures.sound file told in
          why.1 file (c.short_number_at.ensures.only_reads.same ∙ told) long has.modules
          (count_of c.args.place c.in-Some.count file number_on (omega arith) has) has.is.small
          (header_modules c.args.place has.modules has.features file (stands_as c.args.place file has)),
    ))

pub returns-in_err-features_at-clause-none : goal.returns-in_err-features_at-clause-none
returns-in_err-features_at-clause-none g c =
    let p = err_from_is_err_and c.from_residual-in_err-features_at.result c.from_residual-in_err-features_at.ensures.1 in
    refused_on Unit _ c.from_residual-in_err-features_at.result c.in_err-features_at.field-0.0 p.0 _ _ p.1 p.2 c.in_err-features_at.ensures.none (λ f why. (
      why.0,
      λ file told long has.
          let number_on = if_some_is c.in_ok-count.field-0 c.in-Some.count _ c.in-Some.is c.in_ok-count.ensures.sound file told in
          let one = c.short_number_at.ensures.only_reads.same ∙ told in
          let read = c.in_ok-end.ensures.sound file one long in
          why.1 file (c.modules_end.ensures.only_reads.same ∙ one) long
          (features_of c.args.place c.in-Some.count c.in_ok-end.end file number_on (omega arith) read has),
    ))

pub returns-clause-sound : goal.returns-clause-sound
returns-clause-sound g c = λ file told long.
    let number_on = if_some_is c.in_ok-count.field-0 c.in-Some.count _ c.in-Some.is c.in_ok-count.ensures.sound file told in
    let one = c.short_number_at.ensures.only_reads.same ∙ told in
    let read = c.in_ok-end.ensures.sound file one long in
    header_made c.args.place c.in-Some.count c.in_ok-end.end file number_on (omega arith) read
    (c.in_ok-features_at.ensures.sound file (c.modules_end.ensures.only_reads.same ∙ one) long)
