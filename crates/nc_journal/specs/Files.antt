-- What a file of the store holds.
use Rattle.std.specs.Prelude.{◌≡◌, ◌≢◌, ℕ, ◌+◌, ◌<◌, ◌≤◌, ◌^◌, Bool, true, false, List, [], ◌∷◌, ◌++◌, length, take, drop, All, Contains, Option, Some, None, IfSome}
use Rattle.nc_journal.specs.Format.{mark, number, chooser_place, areas_begin, slot_place, chooser, framed, area, gate_place, blank}
use Rattle.nc_names.specs.Limits.{body_limit}

-- these bytes stand at this place of a file
pub record At (place : ℕ) (bytes file : List ℕ) : Type 0 where
  pub is : take (length bytes) (drop place file) ≡ bytes

-- the file is whole, and a slot names an area with these bodies, whatever its gate is
pub record HasArea (header : List ℕ) (second : Bool) (place : ℕ) (bodies : List (List ℕ)) (file : List ℕ) : Type 0 where
  pub opened : At 0 (1 ∷ mark) file
  pub slot : At (slot_place second) (number place) file
  pub behind : areas_begin ≤ place
  pub fits : place < 2 ^ 64
  pub area : At place (area header bodies) file
  pub small : All (λ body. length body ≤ body_limit) bodies

-- The file holds these bodies in the live area, which this slot names at this place. Where a crash left a byte between
-- two values, others may come in their place (`doubt`): with a gate that is neither 00 nor 01 the record after it as
-- well, with such a chooser the bodies of the area that the second slot names.
pub data HoldsAt (header : List ℕ) (second : Bool) (place : ℕ) (bodies : List (List ℕ)) (doubt : Option (List (List ℕ)))
    (file : List ℕ) : Type 0 where
  closed_gate : At chooser_place (chooser second ∷ []) file → HasArea header second place bodies file
      → At (gate_place header bodies place) (0 ∷ []) file → doubt ≡ None
      → HoldsAt header second place bodies doubt file
  torn_gate : (gate : ℕ) (body : List ℕ)
      → At chooser_place (chooser second ∷ []) file → HasArea header second place bodies file
      → At (gate_place header bodies place) (gate ∷ []) file → gate ≢ 0 → gate ≢ 1
      → length body ≤ body_limit → At (gate_place header bodies place + 1) (framed body) file
      → doubt ≡ Some (bodies ++ body ∷ []) → HoldsAt header second place bodies doubt file
  torn_chooser : (byte other : ℕ) (others : List (List ℕ))
      → second ≡ false → At chooser_place (byte ∷ []) file → byte ≢ 0 → byte ≢ 1
      → HasArea header false place bodies file → At (gate_place header bodies place) (0 ∷ []) file
      → HasArea header true other others file → At (gate_place header others other) (0 ∷ []) file
      → doubt ≡ Some others → HoldsAt header second place bodies doubt file

-- the file holds these bodies, and those in doubt may come in their place
pub record Holds (header : List ℕ) (bodies : List (List ℕ)) (doubt : Option (List (List ℕ))) (file : List ℕ)
    : Type 0 where
  pub second : Bool
  pub place : ℕ
  pub held : HoldsAt header second place bodies doubt file

-- The file is new: it has at most one byte, or its first byte is 00, or that byte is torn and all of a new file stands
-- after it.
pub data IsNew (header file : List ℕ) : Type 0 where
  short : length file ≤ 1 → IsNew header file
  unset : At 0 (0 ∷ []) file → IsNew header file
  torn : (byte : ℕ) → byte ≢ 0 → byte ≢ 1 → file ≡ byte ∷ blank header → IsNew header file

-- the file holds one of these lists of bodies, and if a byte is torn, another of them may come in its place
pub record HoldsAmong (header : List ℕ) (allowed : List (List (List ℕ))) (file : List ℕ) : Type 0 where
  pub bodies : List (List ℕ)
  pub doubt : Option (List (List ℕ))
  pub holds : Holds header bodies doubt file
  pub bodies_allowed : Contains allowed bodies
  pub doubt_allowed : IfSome doubt (Contains allowed)
