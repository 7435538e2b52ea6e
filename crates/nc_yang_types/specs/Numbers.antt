-- Statements by their numbers.
pub use Rattle.nc_yang_scopes.specs.Numbers.{AreNumbers, IsNumber, OnNumber}
