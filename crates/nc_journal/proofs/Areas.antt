-- The live area of a file.
use Rattle.std.proofs.Common.{◌≡◌, ◌≢◌, ℕ, ◌≤◌, Bool, true, false, List, [], ◌++◌, Option, Some, None, refl, sym, ◌∙◌, ap, subst, arith}
use Rattle.nc_journal.specs.Format.{area}
use Rattle.nc_journal.specs.Files.{HasArea, HoldsAt, closed_gate, torn_gate, torn_chooser}
use Rattle.nc_journal.specs.Opening.{IsArea}

pub area_of : (header : List ℕ) (second : Bool) (place : ℕ) (bodies : List (List ℕ)) (doubt : Option (List (List ℕ))) (file : List ℕ) → HoldsAt header second place bodies doubt file
    → (gate : ℕ) × IsArea header place bodies gate file
area_of header second place bodies doubt file (closed_gate chosen names closed none) = (0, record { area = names.area; end = closed; not_open = omega arith; small = names.small })
area_of header second place bodies doubt file (torn_gate gate body chosen names at not_zero not_one small behind doubt_is) =
    (gate, record { area = names.area; end = at; not_open = not_one; small = names.small })
area_of header second place bodies doubt file (torn_chooser one other others second_is at not_zero not_one first first_closed last last_closed doubt_is) =
    (0, record { area = first.area; end = first_closed; not_open = omega arith; small = first.small })
