-- What is dropped at the end are zeros.
use Rattle.std.proofs.Common.{◌≡◌, ◌<◌, ◌∙◌, ℕ, Bool, true, eqb, sym, arith}
use Rattle.std.proofs.lemmas.Bool.Decides.{nat_tests}
use Rattle.nc_names.proofs.EndLemmas.{cut_before, kept, shorter}
use Rattle.nc_schema.specs.NumberTexts.{zero_digit}
use Rattle.nc_types.proofs.zeros.end_of_rest.Goals as goal

abbrev is_zero : ℕ → Bool
is_zero digit = eqb digit zero_digit

zero_low : (c : ℕ) → is_zero c ≡ true → c < 128
zero_low c h = grind (arith, nat_tests)

pub loop-end-preserved : goal.loop-end-preserved
loop-end-preserved c =
    let bytes = c.args.bytes.now in
    let end = c.loop-end.end in
    let within = c.loop-end.invariant.within in
    let zero = sym c.loop-end-test.ensures in
    record {
      same = c.loop-end.invariant.same ∙ shorter is_zero bytes end within zero;
      within = omega (arith, within);
      cut = cut_before is_zero bytes end zero_low within zero;
    }

pub returns-clause-before : goal.returns-clause-before
returns-clause-before c =
    let other = sym c.loop-end-test.ensures in
    sym (c.loop-end.invariant.same ∙ kept is_zero c.args.bytes.now c.loop-end.end c.loop-end.invariant.within other)
