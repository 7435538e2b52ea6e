-- Bytes that stand for themselves.
use Rattle.std.specs.Prelude.{ℕ, ◌==◌, ◌||◌, ◌&&◌, Bool, not}
use Rattle.nc_names.specs.Signs.{ampersand, carriage_return, line_feed, tab}

-- a byte begins no reference and ends no line, and is no white space in a value
abbrev pub is_itself : (refers in_value : Bool) → ℕ → Bool
is_itself refers in_value c =
    not (refers && c == ampersand) && not (c == carriage_return) && not (in_value && (c == tab || c == line_feed))
