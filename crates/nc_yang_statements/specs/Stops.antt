-- Why a pass over modules gives nothing.
use Rattle.nc_yang_statements.specs.declared.stop.Stop.{Stop}
use Rattle.nc_yang_statements.specs.declared.stop.Stop.TheVariants.{Broken, Memory}

-- so it is with the fault that is given; of want of memory nothing is said
abbrev pub OnBroken : {F : Type 0} → (F → Type 0) → Stop F → Type 0
OnBroken P (Broken fault) = P fault
OnBroken P Memory = Unit {0}
