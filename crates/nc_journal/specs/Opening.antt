-- What a file is opened to, and what a crash leaves while it is opened.
use Rattle.std.specs.Prelude.{◌≡◌, ◌≢◌, ℕ, ◌≤◌, Bool, List, [], ◌∷◌, length, slice_get, All, Option, Some, None, ◌<◌, ◌^◌, nat_eq}
use Rattle.nc_journal.specs.Format.{mark, number, slot_place, area, gate_place}
use Rattle.nc_names.specs.Limits.{body_limit}
use Rattle.nc_journal.specs.Files.{At, IsNew, Holds, HoldsAmong}

-- the file is new, or is a made one without a body
pub data StartsNew (header file : List ℕ) : Type 0 where
  still_new : IsNew header file → StartsNew header file
  made : Holds header [] None file → StartsNew header file

-- an area with these bodies and this gate
pub record IsArea (header : List ℕ) (place : ℕ) (bodies : List (List ℕ)) (gate : ℕ) (file : List ℕ) : Type 0 where
  pub area : At place (area header bodies) file
  pub end : At (gate_place header bodies place) (gate ∷ []) file
  pub not_open : gate ≢ 1
  pub small : All (λ body. length body ≤ body_limit) bodies

-- what was left at the start, or a file that holds one of these
pub data StartsAmong {D : Type 0} (may_leave : D → List ℕ → Type 0) (start : D) (header : List ℕ)
    (among : List (List (List ℕ))) (file : List ℕ) : Type 0 where
  left_before : may_leave start file → StartsAmong may_leave start header among file
  stands : HoldsAmong header among file → StartsAmong may_leave start header among file

-- what was left at the start, or a file that is new or was just made
pub data StartsFresh {D : Type 0} (may_leave : D → List ℕ → Type 0) (start : D) (header file : List ℕ) : Type 0 where
  left_before_making : may_leave start file → StartsFresh may_leave start header file
  fresh : StartsNew header file → StartsFresh may_leave start header file

-- the file is whole, and the chooser as it stands chooses a slot that names this place
pub record IsFront (file : List ℕ) (byte : ℕ) (second : Bool) (place : ℕ) : Type 0 where
  pub opened : At 0 (1 ∷ mark) file
  pub byte_is : slice_get file 9 ≡ Some byte
  pub second_is : second ≡ nat_eq byte 1
  pub slot : At (slot_place second) (number place) file
  pub low : 26 ≤ place
  pub high : place ≤ length file
  pub fits : place < 2 ^ 64

-- these bodies were read so far, and the next gate is due here
pub record IsSoFar (header : List ℕ) (place : ℕ) (done : List (List ℕ)) (file : List ℕ) (at : ℕ) : Type 0 where
  pub area : At place (area header done) file
  pub there : at ≡ gate_place header done place
  pub small : All (λ body. length body ≤ body_limit) done

-- The file has a reading with this header: front, gates and lengths. What a torn byte may turn into is not asked.
pub record IsRead (header : List ℕ) (bodies : List (List ℕ)) (file : List ℕ) : Type 0 where
  pub byte : ℕ
  pub place : ℕ
  pub gate : ℕ
  pub front : IsFront file byte (nat_eq byte 1) place
  pub live : IsArea header place bodies gate file

-- it is new, or has a reading
pub data Opens (header : List ℕ) (bodies : List (List ℕ)) (file : List ℕ) : Type 0 where
  as_new : IsNew header file → bodies ≡ [] → Opens header bodies file
  as_read : IsRead header bodies file → Opens header bodies file
