use Rattle.std.proofs.Common.{arith}
use Rattle.std.specs.Prelude.{None}
use Rattle.std.proofs.lemmas.Str.Pattern.{strip_prefix_char}
use Rattle.nc_yang_leafs.proofs.ValueLemmas.{no_sign}
use Rattle.nc_yang_leafs.proofs.value.after_sign.Goals as goal

pub returns-in-None-strip_prefix : goal.returns-in-None-strip_prefix
returns-in-None-strip_prefix c =
    no_sign c.args.text.now (strip_prefix_char 45 c.args.text.now None c.in-None.ensures.cases (omega arith))
    (strip_prefix_char 43 c.args.text.now None c.in-None-strip_prefix.ensures.cases (omega arith))
