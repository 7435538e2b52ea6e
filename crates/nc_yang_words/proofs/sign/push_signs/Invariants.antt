use Rattle.std.proofs.Common.{◌≡◌, ◌++◌, take}
use Rattle.nc_yang_words.specs.Signs.{utf8}
use Rattle.nc_yang_words.proofs.sign.push_signs.Given as goal

abbrev pub invariant-loop-sign : goal.invariant-loop-sign
invariant-loop-sign l = l.text ≡ l.initial.text ++ utf8 (take l.sign-index l.signs)
