use Rattle.nc_print.specs.inner.Pieces.{IsOnePiece, EndsAt}
use Rattle.std.specs.Prelude.{MatchOption, Option, Some, None, position, ◌≡◌, List, ℕ}
use Rattle.nc_protocol.specs.ModuleNames.{is_apart}
use Rattle.nc_print.proofs.PieceLemmas.{is_one, ends_at}
use Rattle.nc_print.proofs.module_names.end_of_piece.Goals as goal

found : (text : List ℕ) (r : Option ℕ) → r ≡ position is_apart text → MatchOption r (IsOnePiece text) (λ end. EndsAt text end)
found text None is = is_one text is
found text (Some end) is = ends_at text end is

pub returns : goal.returns
returns c = found c.args.text.now c.place_of.result c.place_of.ensures
