-- What the reading of a payload is told to be.
use Rattle.std.proofs.Common.{◌≡◌, sym, Result, Ok, Err}
use Rattle.nc_protocol.specs.declared.request.Cause.{Cause}
use Rattle.nc_payload.specs.declared.payload.PayloadFault.TheVariants.{Bad}
use Rattle.nc_payload.specs.inner.Reads.{Answers}

pub told_ok : {A : Type 0} (defined : Result A Cause) (it : A) → Answers defined (Ok it) → Ok it ≡ defined
told_ok (Ok value) it told = cc
told_ok (Err cause) it told = absurd told

pub told_bad : {A : Type 0} (defined : Result A Cause) (cause : Cause) → Answers defined (Err (Bad cause)) → Err cause ≡ defined
told_bad (Ok value) cause told = sym told
told_bad (Err other) cause told = sym told
