-- Readings that may also stop for want of memory.
use Rattle.std.specs.Prelude.{◌≡◌, Result, Ok, Err}
use Rattle.nc_protocol.specs.declared.request.Cause.{Cause}
use Rattle.nc_requests.specs.declared.stop.Stop.{Stop}
use Rattle.nc_requests.specs.declared.stop.Stop.TheVariants.{Refused, Memory}

-- it stops for this cause
abbrev pub StopsFor : Stop → Cause → Type 0
StopsFor (Refused cause) wanted = cause ≡ wanted
StopsFor Memory wanted = Unit {0}

-- the result is this reading
abbrev pub Reads : {A : Type 0} → Result A Stop → Result A Cause → Type 0
Reads (Ok value) reading = reading ≡ Ok value
Reads (Err (Refused cause)) reading = reading ≡ Err cause
Reads (Err Memory) reading = Unit {0}
