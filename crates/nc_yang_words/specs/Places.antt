-- Places in a module text.
use Rattle.std.specs.Prelude.{ℕ, ◌+◌, ◌-◌, ◌^◌, ◌==◌, if◌then◌else◌, min, List, fold}
use Rattle.nc_names.specs.Signs.{line_feed}
use Rattle.nc_yang_words.specs.Signs.{columns}
use Rattle.nc_yang_words.specs.declared.place.Place.{Place}

-- the place after a character: lines are counted by LF, a tab is eight columns (RFC 7950
-- 6.1.3), and either count stands still at its type's end
abbrev pub after : Place → ℕ → Place
after p c =
    if c == line_feed then record { line = min (p.line + 1) (2 ^ 32 - 1); column = 0 }
    else record { line = p.line; column = min (p.column + columns c) (2 ^ 64 - 1) }

-- the place after characters
abbrev pub passed : Place → List ℕ → Place
passed p cs = fold after p cs

-- the place of a text's first character
abbrev pub start : Place
start = record { line = 1; column = 0 }
