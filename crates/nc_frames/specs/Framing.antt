-- Streams of messages (RFC 6242 4.2 and 4.3), as relations between bytes and messages.
use Rattle.std.specs.Prelude.{◌≡◌, ◌≢◌, ℕ, ◌+◌, ◌-◌, ◌^◌, ◌<◌, ◌≤◌, min, List, [], ◌∷◌, ◌++◌, length, map}
use Rattle.std.specs.List.{flat_map, concat, AllByRecursion}
use Rattle.std.specs.Fmt.{decimal}
pub use Rattle.nc_names.specs.Mark.{mark, HasNoMark, IsMarked, with_mark}
use Rattle.nc_names.specs.Limits.{message_limit}
use Rattle.nc_names.specs.Signs.{line_feed, number_sign}

-- how the messages of a stream are framed: with the end-of-message mark, or in chunks
pub data Mode : Type 0 where
  Marks : Mode
  Chunks : Mode

-- the bytes are these messages, each with its mark after it, and then no whole one
pub record EndOfMessage (bytes : List ℕ) (messages : List (List ℕ)) (rest : List ℕ) : Type 0 where
  pub whole : bytes ≡ flat_map with_mark messages ++ rest
  pub each : AllByRecursion IsMarked messages
  pub partial : HasNoMark rest

-- RFC 6242 4.2: LF # size LF octets, and LF # # LF after the last chunk
abbrev pub announced : ℕ → List ℕ
announced size = line_feed ∷ number_sign ∷ decimal size

-- a chunk as it is written
abbrev pub chunk : List ℕ → List ℕ
chunk octets = announced (length octets) ++ line_feed ∷ octets

-- what ends the chunks of a message
abbrev pub end_of_chunks : List ℕ
end_of_chunks = line_feed ∷ number_sign ∷ number_sign ∷ line_feed ∷ []

-- a message in these chunks
abbrev pub in_chunks : List (List ℕ) → List ℕ
in_chunks chunks = flat_map chunk chunks ++ end_of_chunks

-- the largest size of a chunk (RFC 6242 4.2)
abbrev pub largest_size : ℕ
largest_size = 4294967295

-- what a size may be
abbrev pub IsSize : ℕ → Type 0
IsSize size = (0 < size) × (size ≤ largest_size)

-- so many octets may be one chunk
abbrev pub IsChunk : List ℕ → Type 0
IsChunk octets = IsSize (length octets)

-- the chunks of a message: one or more
abbrev pub AreChunks : List (List ℕ) → Type 0
AreChunks chunks = (chunks ≢ []) × AllByRecursion IsChunk chunks

-- the bytes are the beginning of a message in chunks, or the whole of one
pub record BeginsChunks (bytes : List ℕ) : Type 0 where
  pub chunks : List (List ℕ)
  pub each : AreChunks chunks
  pub more : List ℕ
  pub whole : in_chunks chunks ≡ bytes ++ more

-- the bytes are a proper beginning of a message in chunks
pub record IsPartialChunks (bytes : List ℕ) : Type 0 where
  pub chunks : List (List ℕ)
  pub each : AreChunks chunks
  pub more : List ℕ
  pub some : more ≢ []
  pub whole : in_chunks chunks ≡ bytes ++ more

-- the bytes are these messages, each in chunks, and then no whole one
pub record Chunked (bytes : List ℕ) (messages : List (List ℕ)) (rest : List ℕ) : Type 0 where
  pub chunks : List (List (List ℕ))
  pub each : AllByRecursion AreChunks chunks
  pub messages_are : messages ≡ map concat chunks
  pub whole : bytes ≡ flat_map in_chunks chunks ++ rest
  pub partial : IsPartialChunks rest

-- the bytes are this one message as it stands in a stream
pub record IsInChunks (bytes message : List ℕ) : Type 0 where
  pub chunks : List (List ℕ)
  pub each : AreChunks chunks
  pub bytes_are : bytes ≡ in_chunks chunks
  pub message_is : message ≡ concat chunks

-- the bytes of one message, in the framing of the mode
abbrev pub IsFramed : Mode → List ℕ → List ℕ → Type 0
IsFramed Marks bytes message = (bytes ≡ with_mark message) × IsMarked message
IsFramed Chunks bytes message = IsInChunks bytes message

-- the bytes are this message, which is not too long
pub record IsMessage (mode : Mode) (bytes message : List ℕ) : Type 0 where
  pub is_framed : IsFramed mode bytes message
  pub small : length message ≤ message_limit

-- the bytes are no whole message
abbrev pub IsPartial : Mode → List ℕ → Type 0
IsPartial Marks bytes = HasNoMark bytes
IsPartial Chunks bytes = IsPartialChunks bytes

-- the most bytes of a message and its mark together
abbrev pub marked_limit : ℕ
marked_limit = message_limit + length mark

-- so many bytes hold no whole mark: the message has a byte at the place of the limit
pub record IsTooLong (bytes : List ℕ) (place : ℕ) : Type 0 where
  pub front : List ℕ
  pub rest : List ℕ
  pub bytes_are : bytes ≡ front ++ rest
  pub many : length front ≡ marked_limit
  pub unmarked : HasNoMark front
  pub place_is : place ≡ message_limit

-- the announced sizes of the message are more than the limit in sum, with the size that the LF of this
-- place ends
pub record AnnouncesTooMuch (bytes : List ℕ) (place : ℕ) : Type 0 where
  pub chunks : List (List ℕ)
  pub each : AllByRecursion IsChunk chunks
  pub size : ℕ
  pub is_size : IsSize size
  pub rest : List ℕ
  pub bytes_are : bytes ≡ (flat_map chunk chunks ++ announced size) ++ line_feed ∷ rest
  pub before : length (concat chunks) ≤ message_limit
  pub after : message_limit < length (concat chunks) + size
  pub place_is : place ≡ length (flat_map chunk chunks ++ announced size)

-- the message that begins with the bytes is too big, as its byte of this place shows
abbrev pub IsTooBig : Mode → List ℕ → ℕ → Type 0
IsTooBig Marks bytes place = IsTooLong bytes place
IsTooBig Chunks bytes place = AnnouncesTooMuch bytes place

-- no whole message, and no fault
pub record IsUnfinished (mode : Mode) (bytes : List ℕ) : Type 0 where
  pub partial : IsPartial mode bytes
  pub small : (place : ℕ) → ¬ IsTooBig mode bytes place

-- the byte of this place is the first that no message in chunks has there
pub record IsBad (bytes : List ℕ) (place : ℕ) : Type 0 where
  pub before : List ℕ
  pub byte : ℕ
  pub rest : List ℕ
  pub bytes_are : bytes ≡ before ++ byte ∷ rest
  pub unfinished : IsUnfinished Chunks before
  pub wrong : ¬ BeginsChunks (before ++ byte ∷ [])
  pub place_is : place ≡ length before

-- a place as it is answered
abbrev pub capped : ℕ → ℕ
capped place = min place (2 ^ 64 - 1)
