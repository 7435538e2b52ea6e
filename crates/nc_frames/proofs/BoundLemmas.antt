-- What is unfinished is not long.
use Rattle.std.proofs.Common.{◌≡◌, inl, inr, ℕ, ◌+◌, ◌*◌, ◌<◌, ◌≤◌, List, [], ◌∷◌, ◌++◌, length, take, drop, Some, None, refl, ap, sym, ◌∙◌, subst, arith}
use Rattle.std.specs.Prelude.{replicate}
use Rattle.std.specs.List.{flat_map, concat, AllByRecursion}
use Rattle.std.specs.Fmt.{decimal}
use Rattle.std.proofs.lemmas.List.{append_assoc, append-nil, length-append, length-replicate, length-take-le, take-append-drop}
use Rattle.std.proofs.lemmas.Fmt.{length-decimal-le, length-decimal-le_succ}
use Rattle.std.proofs.lemmas.Bool.{cases_lt}
use Rattle.nc_names.specs.Limits.{message_limit}
use Rattle.nc_frames.specs.declared.header.Header.{Header}
use Rattle.nc_frames.specs.declared.header.Header.TheVariants.{Start, Line, Hash, Size, Close}
use Rattle.nc_frames.specs.declared.header.Stop.{Stop}
use Rattle.nc_frames.specs.declared.header.Stop.TheVariants.{End, Bad, TooBig}
use Rattle.nc_frames.specs.Framing.{Mode, Marks, Chunks, mark, HasNoMark, chunk, IsChunk, AnnouncesTooMuch, IsUnfinished, marked_limit, largest_size}
use Rattle.nc_frames.specs.Streams.{IsSession}
use Rattle.nc_frames.specs.Laws.{IsBounded, unfinished_limit, session_limit}
use Rattle.nc_frames.specs.inner.Steps.{Reading, run, start, StopsAt}
use Rattle.nc_frames.proofs.StepLemmas.{run-append}
use Rattle.nc_frames.proofs.ChunkLemmas.{text_of, IsGoodHeader, came, good, whole, big, some_from_and}
use Rattle.nc_frames.proofs.ChunkReads.{halts}
use Rattle.nc_frames.proofs.ReadingLemmas.{splits, partial_has_none}

-- with the mark
HasNoMark-front : (front more : List ℕ) → HasNoMark (front ++ more) → HasNoMark front
HasNoMark-front front more none before after e =
    none before (after ++ more) (ap (λ l. l ++ more) e ∙ append_assoc before (mark ++ after) more ∙ ap (λ l. before ++ l) (append_assoc mark after more))

marks_bounded : (bytes : List ℕ) → IsUnfinished Marks bytes → length bytes < marked_limit
marks_bounded bytes u = elim (cases_lt (length bytes) marked_limit) [
  | inl few ↦ few
  | inr many ↦ (
      let front : List ℕ = take marked_limit bytes in
      let rest : List ℕ = drop marked_limit bytes in
      let same : front ++ rest ≡ bytes = take-append-drop marked_limit bytes in
      absurd (u.small message_limit (record {
        front = front;
        rest = rest;
        bytes_are = sym same;
        many = length-take-le marked_limit bytes many;
        unmarked = HasNoMark-front front rest (subst HasNoMark (sym same) u.partial);
        place_is = refl;
      }))
      )
]

-- in chunks: bytes that are unfinished are read to their end
no_stop : (why : Stop) (bytes front rest : List ℕ) (byte : ℕ) (at : Reading) → IsUnfinished Chunks bytes → bytes ≡ front ++ byte ∷ rest → run front start ≡ Some at → StopsAt at byte why → (why ≡ Bad → ⊥) → ⊥
no_stop End bytes front rest byte at u e reads stops other =
    let w = whole front at byte reads stops in
    partial_has_none w.chunks bytes rest w.each u.partial (e ∙ sym (append_assoc front (byte ∷ []) rest) ∙ ap (λ l. l ++ rest) w.bytes_are)
no_stop TooBig bytes front rest byte at u e reads stops other =
    u.small (length front) (subst (λ l. AnnouncesTooMuch l (length front)) (sym e) (big front at byte rest reads stops))
no_stop Bad bytes front rest byte at u e reads stops other = other refl

unfinished_read : (bytes : List ℕ) → IsUnfinished Chunks bytes → (t : Reading) × (run bytes start ≡ Some t)
unfinished_read bytes u =
    let p = u.partial in
    let h = halts p.chunks [] p.each.1 (λ none. absurd (p.each.0 none)) (omega arith) in
    elim (splits h.front bytes (h.byte ∷ h.rest) p.more (sym h.bytes_are ∙ p.whole)) [
      | inl w ↦ within bytes u h.front h.byte h.rest h.at h.why h.reads h.stops h.not_bad w.0 p.more w.1 w.2
      | inr w ↦ (
          let all : run (bytes ++ w.0) start ≡ Some h.at = ap (λ l. run l start) (sym w.1) ∙ h.reads in
          let r = some_from_and (run bytes start) (run w.0) h.at (sym (run-append bytes w.0 start) ∙ all) in
          (r.0, r.1)
          )
    ]
  where
    within : (bytes : List ℕ) → IsUnfinished Chunks bytes → (front : List ℕ) (byte : ℕ) (rest : List ℕ) (at : Reading) (why : Stop) → run front start ≡ Some at → StopsAt at byte why → (why ≡ Bad → ⊥) → (z more : List ℕ) → bytes ≡ front ++ z → byte ∷ rest ≡ z ++ more → (t : Reading) × (run bytes start ≡ Some t)
    within bytes u front byte rest at why reads stops other [] more e f = (at, ap (λ l. run l start) (e ∙ append-nil front) ∙ reads)
    within bytes u front byte rest at why reads stops other (x ∷ z) more e f =
        let head : x ≡ byte = cc in
        absurd (no_stop why bytes front z byte at u (e ∙ ap (λ y. front ++ y ∷ z) head) reads stops other)

-- a chunk takes five bytes for each octet at most
size_length : (size : ℕ) → 0 < size → size ≤ largest_size → length (decimal size) + 3 ≤ size * 4
size_length size some fits = elim (cases_lt size 2) [
  | inl one ↦ omega (arith, length-decimal-le 1 size (omega arith) (omega arith) (omega arith))
  | inr many ↦ omega (arith, length-decimal-le_succ size (omega arith))
]

chunk_length : (octets : List ℕ) → IsChunk octets → length (chunk octets) ≤ length octets * 5
chunk_length octets is =
    omega (arith, length-append (10 ∷ 35 ∷ decimal (length octets)) (10 ∷ octets), size_length (length octets) is.0 is.1)

chunks_length : (chunks : List (List ℕ)) → AllByRecursion IsChunk chunks → length (flat_map chunk chunks) ≤ length (concat chunks) * 5
chunks_length [] each = omega arith
chunks_length (c ∷ cs) each =
    omega (arith, length-append (chunk c) (flat_map chunk cs), length-append c (concat cs), chunk_length c each.0, chunks_length cs each.1)

header_length : (h : Header) (octets : ℕ) → IsGoodHeader h octets → length (text_of h) ≤ 12
header_length Start octets is = omega arith
header_length Line octets is = omega arith
header_length Hash octets is = omega arith
header_length (Size size) octets is =
    let fits : length (decimal size) ≤ 10 = length-decimal-le 10 size (omega arith) (omega (arith, is.1)) (omega (arith, is.1)) in
    omega (arith, fits)
header_length Close octets is = omega arith

chunks_bounded : (bytes : List ℕ) → IsUnfinished Chunks bytes → length bytes ≤ unfinished_limit
chunks_bounded bytes u =
    let r = unfinished_read bytes u in
    let t = r.0 in
    let more : List ℕ = replicate t.left 0 in
    let len : length more ≡ t.left = length-replicate t.left 0 in
    let w = came bytes t more r.1 len in
    let g = good bytes t r.1 in
    omega (arith, len, ap length w.text, ap length w.message, length-append bytes more, length-append (flat_map chunk w.chunks) (text_of t.header), length-append t.message more, chunks_length w.chunks w.each, header_length t.header (length t.message) g.header, g.small)

rest_bounded : (mode : Mode) (bytes : List ℕ) → IsUnfinished mode bytes → length bytes ≤ unfinished_limit
rest_bounded Marks bytes u = omega (arith, marks_bounded bytes u)
rest_bounded Chunks bytes u = chunks_bounded bytes u

session_bounded : (messages : List (List ℕ)) (mode : Mode) (bytes : List ℕ) → IsSession mode bytes messages None → length messages ≤ 1 → length bytes < session_limit
session_bounded [] mode bytes s few =
    omega (arith, ap length s.whole, ap length s.messages_are, length-append s.framed s.rest, marks_bounded s.rest s.ends)
session_bounded (hello ∷ []) mode bytes s few =
    let t = s.4 in
    omega (arith, ap length s.2, length-append s.0 s.1, ap length s.3.is_framed.0, length-append hello mark, s.3.small, ap length t.whole, length-append t.framed t.rest, ap length t.messages_are, rest_bounded mode t.rest t.ends)
session_bounded (hello ∷ other ∷ messages) mode bytes s few = absurd (omega (arith, few))

pub bounded : IsBounded
bounded = record {
  marks = marks_bounded;
  chunks = chunks_bounded;
  session = λ mode bytes messages. session_bounded messages mode bytes;
  number = refl;
}
