-- The reading of chunks byte by byte. The relations of Framing stand apart from it, and laws tie both.
use Rattle.std.specs.Prelude.{◌≡◌, ℕ, zero, suc, ◌+◌, ◌-◌, ◌*◌, nat_lt, nat_le, ◌==◌, ◌&&◌, if◌then◌else◌, List, [], ◌∷◌, ◌++◌, length, Option, Some, None}
use Rattle.std.specs.Option.{option_and_then}
use Rattle.nc_names.specs.Limits.{message_limit}
use Rattle.nc_names.specs.Signs.{line_feed, number_sign}
use Rattle.nc_frames.specs.Framing.{largest_size}
use Rattle.nc_frames.specs.declared.header.Header.{Header}
use Rattle.nc_frames.specs.declared.header.Header.TheVariants.{Start, Line, Hash, Size, Close}
use Rattle.nc_frames.specs.declared.header.Step.{Step}
use Rattle.nc_frames.specs.declared.header.Step.TheVariants.{On, Octets, Stop as Stops}
use Rattle.nc_frames.specs.declared.header.Stop.{Stop}
use Rattle.nc_frames.specs.declared.header.Stop.TheVariants.{End, Bad, TooBig}

-- the characters of digits
abbrev pub digit_zero : ℕ
digit_zero = 48

-- the last of them
abbrev pub digit_nine : ℕ
digit_nine = 57

-- a number with one digit more
abbrev pub with_digit : ℕ → ℕ → ℕ
with_digit size byte = size * 10 + (byte - digit_zero)

-- the byte after LF #, where this many octets of the message have come
abbrev pub hash_step : ℕ → ℕ → Step
hash_step octets byte =
    if byte == number_sign && nat_lt 0 octets then On Close
    else (if nat_lt digit_zero byte && nat_le byte digit_nine then On (Size (byte - digit_zero)) else Stops Bad)

-- the byte after the digits of a size
abbrev pub size_step : ℕ → ℕ → ℕ → Step
size_step size octets byte =
    if byte == line_feed then (if nat_lt (message_limit - octets) size then Stops TooBig else Octets size)
    else (if nat_le digit_zero byte && nat_le byte digit_nine
    then (if nat_lt largest_size (with_digit size byte) then Stops Bad else On (Size (with_digit size byte)))
    else Stops Bad)

-- the byte after this much of a header
abbrev pub header_step : Header → ℕ → ℕ → Step
header_step Start octets byte = if byte == line_feed then On Line else Stops Bad
header_step Line octets byte = if byte == number_sign then On Hash else Stops Bad
header_step Hash octets byte = hash_step octets byte
header_step (Size size) octets byte = size_step size octets byte
header_step Close octets byte = if byte == line_feed then Stops End else Stops Bad

-- how far the reading of a message has come: what there is of a header, how many octets of the chunk
-- are still to come, and the octets of the message so far
pub record Reading : Type 0 where
  pub header : Header
  pub left : ℕ
  pub message : List ℕ

-- a chunk's header is to come, after these octets of the message
abbrev pub start_of : List ℕ → Reading
start_of message = record { header = Start; left = 0; message = message }

-- a message is to come, of which nothing is read
abbrev pub start : Reading
start = start_of []

-- one step further, where the byte leads further
abbrev pub stepped : Step → List ℕ → Option Reading
stepped (On header) message = Some (record { header = header; left = 0; message = message })
stepped (Octets left) message = Some (record { header = Start; left = left; message = message })
stepped (Stops why) message = None

-- a byte further: within a header, or within the octets of a chunk, of which one less is to come
abbrev pub step_at : Header → ℕ → List ℕ → ℕ → Option Reading
step_at header zero message byte = stepped (header_step header (length message) byte) message
step_at header (suc left) message byte =
    Some (record { header = header; left = left; message = message ++ byte ∷ [] })

-- the same, from how far the reading has come
unfoldable pub step : Reading → ℕ → Option Reading
step s byte = step_at s.header s.left s.message byte

-- the bytes, as far as each leads further
unfoldable pub run : List ℕ → Reading → Option Reading
run [] s = Some s
run (byte ∷ bytes) s = option_and_then (λ t. run bytes t) (step s byte)

-- the byte leads nowhere
pub record StopsAt (s : Reading) (byte : ℕ) (why : Stop) : Type 0 where
  pub left : s.left ≡ 0
  pub stops : header_step s.header (length s.message) byte ≡ Stops why
