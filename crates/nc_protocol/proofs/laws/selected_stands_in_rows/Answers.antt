use Rattle.std.proofs.Common.{refl}
use Rattle.std.specs.List.{list_any}
use Rattle.nc_protocol.specs.Filter.{chosen, comes_with}
use Rattle.nc_protocol.proofs.laws.selected_stands_in_rows.Goals as goal

pub returns : goal.returns
returns c tables elem rows = (λ row. list_any (λ other. comes_with tables other row) (chosen tables elem rows), refl)
