use Rattle.std.proofs.Common.{◌≡◌, [], ◌++◌, map, drop}
use Rattle.nc_setup.specs.Folder.{line_text, lines_from}
use Rattle.nc_setup.proofs.features.lines_of.Given as goal

-- the lines so far, and those of the rest, are those of the text
abbrev pub invariant-loop-byte : goal.invariant-loop-byte
invariant-loop-byte l =
    l.lines ++ map line_text (lines_from l.line (drop l.byte-index l.text)) ≡ map line_text (lines_from [] l.text)
