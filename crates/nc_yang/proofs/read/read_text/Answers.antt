use Rattle.std.proofs.Common.{rules, ◌≡◌, ℕ, List, [], ◌∷◌, false, subst, refl}
use Rattle.std.specs.Str.{is_utf8, chars}
use Rattle.nc_yang_words.specs.Faults.{IsFaultOf}
use Rattle.nc_yang.specs.Texts.{not_utf8}
use Rattle.nc_yang.proofs.TextReading.{bad_in}
use Rattle.nc_yang.proofs.read.read_text.Goals as goal

pub returns-in_default : goal.returns-in_default
returns-in_default c = (refl, not_utf8 (subst (λ bytes. is_utf8 bytes ≡ false) c.as_slice.ensures c.in_default.ensures))

pub returns-in-Err-Bad : goal.returns-in-Err-Bad
returns-in-Err-Bad c = (
  refl,
  bad_in c.args.text.now c.as_slice.result.now c.in-Some.chars.now c.in-Err-Bad.line c.as_slice.ensures
      c.in-Some.ensures.0 c.in-Some.ensures.1
      (subst (IsFaultOf (chars c.in-Some.chars.now)) c.in-Err-Bad.field-0-is c.in-Err-Bad.ensures.fault),
)
