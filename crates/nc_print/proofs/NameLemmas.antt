-- Bindings of the names of pieces, one piece after another.
use Rattle.std.proofs.Common.{◌≡◌, ℕ, List, take, drop, ◌+◌, ap}
use Rattle.std.specs.Prelude.{fold}
use Rattle.nc_names.specs.declared.name.Bound.{Bound}
use Rattle.nc_schema.specs.Tables.{Tables}
use Rattle.nc_protocol.specs.ModuleNames.{with_names, with_piece}
use Rattle.nc_print.specs.inner.Pieces.{IsOnePiece, EndsAt}

pub next_piece : (tables : Tables) (bounds : List Bound) (text : List ℕ) (end : ℕ) → EndsAt text end →
    with_names tables bounds text ≡ with_names tables (with_piece tables bounds (take end text)) (drop (end + 1) text)
next_piece tables bounds text end ends = ap (λ pieces. fold (with_piece tables) bounds pieces) ends.pieces

pub last_piece : (tables : Tables) (bounds : List Bound) (text : List ℕ) → IsOnePiece text →
    with_names tables bounds text ≡ with_piece tables bounds text
last_piece tables bounds text one = ap (λ pieces. fold (with_piece tables) bounds pieces) one
