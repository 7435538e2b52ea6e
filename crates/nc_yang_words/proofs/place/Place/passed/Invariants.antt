use Rattle.std.proofs.Common.{◌≡◌, take}
use Rattle.nc_yang_words.specs.Places.{passed}
use Rattle.nc_yang_words.proofs.place.Place.passed.Given as goal

abbrev pub invariant-loop-sign : goal.invariant-loop-sign
invariant-loop-sign l = l.place ≡ passed l.fn.self (take l.sign-index l.signs)
