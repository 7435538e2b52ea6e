-- Where a journal has its live area.
use Rattle.std.specs.Prelude.{◌≡◌}
use Rattle.nc_journal.specs.declared.journal.Journal.{Journal}

-- a journal has its live area where another has it
pub record HasPlaceOf {D : Type 0} (old new : Journal D) : Type 0 where
  pub second : new.second ≡ old.second
  pub start : new.start ≡ old.start
  pub gate : new.gate ≡ old.gate
  pub records : new.records ≡ old.records
