-- The byte of a bad frame is the first that no chunked stream has there.
use Rattle.std.proofs.Common.{◌≡◌, inl, inr, ℕ, List, [], ◌∷◌, ◌++◌, ap, sym, ◌∙◌}
use Rattle.std.specs.List.{flat_map, AllByRecursion}
use Rattle.std.proofs.lemmas.List.{append_assoc, append-nil}
use Rattle.nc_frames.specs.Framing.{Chunks, in_chunks, AreChunks, IsPartialChunks, IsBad}
use Rattle.nc_frames.specs.Streams.{AreMessages}
use Rattle.nc_frames.specs.Laws.{BadFrameIsFirst}
use Rattle.nc_frames.proofs.ReadingLemmas.{splits, partial_has_none, one_in_chunks}
use Rattle.nc_frames.proofs.RunLemmas.{chunked_stream}

-- a message that ends where the byte stands, or before it
whole_before : (bytes : List ℕ) (place : ℕ) (b : IsBad bytes place) (cs : List (List ℕ)) (more z : List ℕ) → AreChunks cs → in_chunks cs ≡ b.before ++ z → b.byte ∷ [] ≡ z ++ more → ⊥
whole_before bytes place b cs more [] each e f = partial_has_none cs b.before [] each b.unfinished.partial (sym (append-nil b.before) ∙ sym e ∙ sym (append-nil (in_chunks cs)))
whole_before bytes place b cs more (x ∷ z) each e f =
    let head : x ≡ b.byte = cc in
    b.wrong (record { chunks = cs; each = each; more = z; whole = e ∙ ap (λ y. b.before ++ y ∷ z) head ∙ sym (append_assoc b.before (b.byte ∷ []) z) })

none_here : (bytes : List ℕ) (place : ℕ) (b : IsBad bytes place) (chunks : List (List (List ℕ))) (other : List ℕ) → AllByRecursion AreChunks chunks → IsPartialChunks other → b.before ++ b.byte ∷ [] ≡ flat_map in_chunks chunks ++ other → ⊥
none_here bytes place b [] other each part e =
    b.wrong (record { chunks = part.chunks; each = part.each; more = part.more; whole = part.whole ∙ ap (λ l. l ++ part.more) (sym e) })
none_here bytes place b (cs ∷ css) other each part e =
    let later : List ℕ = flat_map in_chunks css ++ other in
    elim (splits (in_chunks cs) b.before later (b.byte ∷ []) (sym (append_assoc (in_chunks cs) (flat_map in_chunks css) other) ∙ sym e)) [
      | inl w ↦ partial_has_none cs b.before w.0 each.0 b.unfinished.partial w.1
      | inr w ↦ whole_before bytes place b cs later w.0 each.0 w.1 w.2
    ]

none_after : (messages : List (List ℕ)) (framed bytes : List ℕ) (place : ℕ) (b : IsBad bytes place) (chunks : List (List (List ℕ))) (other : List ℕ) → AreMessages Chunks framed messages → AllByRecursion AreChunks chunks → IsPartialChunks other → framed ++ (b.before ++ b.byte ∷ []) ≡ flat_map in_chunks chunks ++ other → ⊥
none_after [] framed bytes place b chunks other f each part e =
    none_here bytes place b chunks other each part (ap (λ l. l ++ (b.before ++ b.byte ∷ [])) (sym f) ∙ e)
none_after (m ∷ ms) framed bytes place b [] other f each part e =
    let later : List ℕ = f.1 ++ (b.before ++ b.byte ∷ []) in
    partial_has_none f.3.is_framed.chunks other later f.3.is_framed.each part (sym e ∙ ap (λ l. l ++ (b.before ++ b.byte ∷ [])) (f.2 ∙ ap (λ l. l ++ f.1) f.3.is_framed.bytes_are) ∙ append_assoc (in_chunks f.3.is_framed.chunks) f.1 (b.before ++ b.byte ∷ []))
none_after (m ∷ ms) framed bytes place b (cs ∷ css) other f each part e =
    let last : List ℕ = b.before ++ b.byte ∷ [] in
    let same : in_chunks f.3.is_framed.chunks ++ (f.1 ++ last) ≡ in_chunks cs ++ (flat_map in_chunks css ++ other) =
    sym (append_assoc (in_chunks f.3.is_framed.chunks) f.1 last) ∙ ap (λ l. l ++ last) (sym (f.2 ∙ ap (λ l. l ++ f.1) f.3.is_framed.bytes_are)) ∙ e ∙ append_assoc (in_chunks cs) (flat_map in_chunks css) other in
    let w = one_in_chunks f.3.is_framed.chunks cs (f.1 ++ last) (flat_map in_chunks css ++ other) f.3.is_framed.each.1 each.0.1 same in
    none_after ms f.1 bytes place b css other f.4 each.1 part w.1

pub bad_is_first : BadFrameIsFirst
bad_is_first messages framed rest place f b = record {
  before = b.before;
  byte = b.byte;
  more = b.rest;
  bytes_are = ap (λ l. framed ++ l) b.bytes_are ∙ sym (append_assoc framed b.before (b.byte ∷ b.rest));
  place_is = b.place_is;
  chunked = chunked_stream messages framed b.before f b.unfinished.partial;
  none = λ others other c. none_after messages framed rest place b c.chunks other f c.each c.partial (sym (append_assoc framed b.before (b.byte ∷ [])) ∙ c.whole);
}
