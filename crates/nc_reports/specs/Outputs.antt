-- What a script writes to standard output.
use Rattle.std.specs.Prelude.{ℕ, List, ◌++◌, length, codes, Option, Some, None}
use Rattle.std.specs.Fmt.{decimal}
use Rattle.std.specs.List.{flat_map}
use Rattle.nc_script.specs.declared.output.Output.{Output}
use Rattle.nc_session.specs.declared.end.SessionEnd.{SessionEnd}
use Rattle.nc_session.specs.declared.end.SessionEnd.TheVariants.{Closed, InputEnded, BadHello, BadFrame, Malformed, TooBig, Killed, ReadFault, WriteFault, Full, Spent, Memory}
use Rattle.nc_words.specs.Notes.{line_end, space_word}

-- what each connection's line begins with
unfoldable pub output_word : List ℕ
output_word = codes "== "

-- how a session ended, where it has
unfoldable pub end_word : Option SessionEnd → List ℕ
end_word None = codes "Live"
end_word (Some Closed) = codes "Closed"
end_word (Some InputEnded) = codes "InputEnded"
end_word (Some (BadHello why)) = codes "BadHello"
end_word (Some (BadFrame at)) = codes "BadFrame"
end_word (Some (Malformed at why)) = codes "Malformed"
end_word (Some (TooBig at)) = codes "TooBig"
end_word (Some Killed) = codes "Killed"
end_word (Some ReadFault) = codes "ReadFault"
end_word (Some WriteFault) = codes "WriteFault"
end_word (Some (Full live last)) = codes "Full"
end_word (Some (Spent ticket)) = codes "Spent"
end_word (Some Memory) = codes "Memory"

-- the line of a connection: its number, how its session ended, and how many bytes it was told
abbrev pub number_part : ℕ → List ℕ
number_part connection = output_word ++ (decimal connection ++ space_word)

-- how its session ended, and how many bytes follow
abbrev pub end_part : Option SessionEnd → ℕ → List ℕ
end_part end count = end_word end ++ (space_word ++ decimal count)

-- the end of that line, and what it was told
abbrev pub told_part : List ℕ → List ℕ
told_part bytes = line_end ++ (bytes ++ line_end)

-- what one connection was told, after its line
abbrev pub output_text : Output → List ℕ
output_text output =
    number_part output.connection ++ (end_part output.end (length output.bytes) ++ told_part output.bytes)

-- what each connection was told, in the order in which they began
abbrev pub outputs_text : List Output → List ℕ
outputs_text outputs = flat_map output_text outputs
