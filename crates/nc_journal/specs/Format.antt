-- The bytes of the store's file: one byte that is 01 where the file is whole, the mark, one byte at 9 (the chooser),
-- two slots at 10 and 18, and areas from 26 on. A slot is the place of an area. The chooser 01 chooses the second slot,
-- any other the first; the area that the chosen slot names is the live one. An area is a header, records, and one byte
-- (its gate) that is not 01. Numbers stand with the highest byte first.
use Rattle.std.specs.Prelude.{ℕ, ◌+◌, Bool, List, [], ◌∷◌, ◌++◌, length, if◌then◌else◌, codes}
use Rattle.std.specs.Int.{to_be_bytes, w64}
use Rattle.std.specs.List.{flat_map}

-- the fixed text at its front
unfoldable pub mark : List ℕ
mark = codes "NCSTORE2"

-- a number in eight bytes
unfoldable pub number : ℕ → List ℕ
number n = to_be_bytes w64 n

-- where the chooser stands, and where areas begin
abbrev pub chooser_place : ℕ
chooser_place = 9

-- where the first area stands
abbrev pub areas_begin : ℕ
areas_begin = 26

-- where a slot stands, and the byte that chooses it
abbrev pub slot_place : Bool → ℕ
slot_place second = if second then 18 else 10

-- the byte that chooses the slot
abbrev pub chooser : Bool → ℕ
chooser second = if second then 1 else 0

-- a body as it is written after a gate: its length, the body, and a closed gate
abbrev pub framed : List ℕ → List ℕ
framed body = number (length body) ++ (body ++ 0 ∷ [])

-- a record: an open gate, the length of the body, and the body
abbrev pub recorded : List ℕ → List ℕ
recorded body = 1 ∷ (number (length body) ++ body)

-- an area up to its gate
abbrev pub area : List ℕ → List (List ℕ) → List ℕ
area header bodies = header ++ flat_map recorded bodies

-- the place of the gate of an area that stands at a place
abbrev pub gate_place : List ℕ → List (List ℕ) → ℕ → ℕ
gate_place header bodies place = place + length (area header bodies)

-- a new file without its first byte: its one area, without a record, stands at 26
abbrev pub blank : List ℕ → List ℕ
blank header = mark ++ (0 ∷ [] ++ (number 26 ++ (number 0 ++ (header ++ 0 ∷ []))))
