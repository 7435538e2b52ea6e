-- The line that names a peer.
use Rattle.std.specs.Prelude.{◌≡◌, ◌≢◌, ◌<◌, ◌≤◌, ◌+◌, ◌-◌, ℕ, List, [], ◌∷◌, ◌++◌, length, All, min}
use Rattle.std.specs.List.{flat_map}
use Rattle.std.specs.Str.{IsUtf8}
use Rattle.std.specs.Str.Lossy.{utf8_valid_len}

-- the signs
abbrev pub space : ℕ
space = 32

-- what ends the line
abbrev pub line_feed : ℕ
line_feed = 10

-- the most bytes of a peer's line, without its line feed
abbrev pub peer_limit : ℕ
peer_limit = 1024

-- a byte of a name is no sign between names
abbrev pub IsNameByte : ℕ → Type 0
IsNameByte b = (b ≢ space) × (b ≢ line_feed)

-- the name of a user or of a group
pub record IsName (name : List ℕ) : Type 0 where
  pub some : 0 < length name
  pub bytes : All IsNameByte name
  pub text : IsUtf8 name

-- names, separated by single spaces and ended by a line feed
abbrev pub line_of : List (List ℕ) → List ℕ
line_of [] = []
line_of (name ∷ []) = name ++ line_feed ∷ []
line_of (name ∷ (next ∷ names)) = name ++ space ∷ line_of (next ∷ names)

-- the line of these names, its line feed among the bytes
pub record IsPeerLine (names : List (List ℕ)) (bytes : List ℕ) : Type 0 where
  pub line : bytes ≡ line_of names
  pub named : All IsName names
  pub short : length bytes ≤ peer_limit + 1

-- a name, and the space that ends it
abbrev pub and_space : List ℕ → List ℕ
and_space name = name ++ space ∷ []

-- a line that goes on: names, each with its space, and a beginning of one more, which need not be text yet
pub record GoesOn (bytes : List ℕ) : Type 0 where
  pub names : List (List ℕ)
  pub word : List ℕ
  pub bytes_are : bytes ≡ flat_map and_space names ++ word
  pub whole : All IsName names
  pub begun : All IsNameByte word
  pub short : length bytes ≤ peer_limit

-- a line goes on until the last of these bytes
pub record GoesOnToLast (bytes : List ℕ) : Type 0 where
  pub front : List ℕ
  pub last : ℕ
  pub bytes_are : bytes ≡ front ++ last ∷ []
  pub goes_on : GoesOn front

-- no peer's line begins with these bytes
abbrev pub BeginsNone : List ℕ → Type 0
BeginsNone bytes = (names : List (List ℕ)) (rest : List ℕ) → IsPeerLine names (bytes ++ rest) → ⊥

-- no line has ended among these bytes
abbrev pub HasNoFeed : List ℕ → Type 0
HasNoFeed bytes = All (λ b. b ≢ line_feed) bytes

-- nor before the last of these: whoever took them took no byte past the end of a line
abbrev pub StopsAtFeed : List ℕ → Type 0
StopsAtFeed bytes = (front : List ℕ) (last : ℕ) → bytes ≡ front ++ last ∷ [] → HasNoFeed front

-- the place at which bytes that begin no line stop to be one: the last of them, or the first that is no text
abbrev pub bad_place : List ℕ → ℕ
bad_place bytes = min (length bytes - 1) (utf8_valid_len bytes)
