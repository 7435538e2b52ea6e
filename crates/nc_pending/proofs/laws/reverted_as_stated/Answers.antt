use Rattle.std.proofs.Common.{ap, refl, false}
use Rattle.std.specs.Option.{option_map_or}
use Rattle.std.specs.Prelude.{nat_le}
use Rattle.nc_pending.proofs.laws.reverted_as_stated.Goals as goal

pub returns : goal.returns
returns c = λ s pending is. record {
  due = ap (λ found. option_map_or (λ it. nat_le it.deadline s.now) found false) is;
  base = ap (λ found. option_map_or (λ it. it.base) found s.running) is;
  none = refl;
}
