-- What is dropped at the end is white space.
use Rattle.std.proofs.Common.{◌∙◌, sym, arith}
use Rattle.nc_names.specs.Signs.{is_white}
use Rattle.nc_names.proofs.EndLemmas.{cut_before, kept, shorter, white_low}
use Rattle.nc_names.proofs.white.end_of_black.Goals as goal

pub loop-end-preserved : goal.loop-end-preserved
loop-end-preserved c =
    let bytes = c.args.bytes.now in
    let end = c.loop-end.end in
    let within = c.loop-end.invariant.within in
    let white = sym c.loop-end-test.ensures in
    record {
      same = c.loop-end.invariant.same ∙ shorter is_white bytes end within white;
      within = omega (arith, within);
      cut = cut_before is_white bytes end white_low within white;
    }

pub returns-clause-before : goal.returns-clause-before
returns-clause-before c =
    let black = sym c.loop-end-test.ensures in
    sym (c.loop-end.invariant.same ∙ kept is_white c.args.bytes.now c.loop-end.end c.loop-end.invariant.within black)
