-- Why a reading stops.
use Rattle.nc_paths.specs.declared.stop.Stop.{Stop}
use Rattle.nc_paths.specs.declared.stop.Stop.TheVariants.{Refused, Memory}

-- so it is where the text is refused; of want of memory nothing is said
abbrev pub OnRefused : Stop → Type 0 → Type 0
OnRefused Refused P = P
OnRefused Memory P = Unit {0}
