use Rattle.std.proofs.Common.{◌≡◌, ◌+◌, drop}
use Rattle.nc_schema.specs.Order.{sibling_place}
use Rattle.nc_payload.proofs.marks.place_among.Given as goal

abbrev pub invariant-loop-key : goal.invariant-loop-key
invariant-loop-key l =
    (l.at ≡ l.key-index) × (l.at + sibling_place (drop l.key-index l.key-items) l.number ≡ sibling_place l.keys l.number)
