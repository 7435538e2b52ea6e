-- What the reading of a message says of its bytes.
use Rattle.std.proofs.Common.{◌≡◌, ◌≢◌, ℕ, ◌<◌, ◌≤◌, List, [], ◌∷◌, ◌++◌, length, Some, None, refl, ap, sym, ◌∙◌, subst, arith}
use Rattle.std.specs.Prelude.{replicate}
use Rattle.std.specs.Option.{option_and_then}
use Rattle.std.specs.List.{flat_map, concat, AllByRecursion}
use Rattle.std.specs.Fmt.{decimal}
use Rattle.std.proofs.lemmas.List.{append_assoc, append-nil, length-append, length-replicate}
use Rattle.std.proofs.lemmas.List.Concat.{flat_map-append}
use Rattle.nc_frames.specs.declared.header.Header.{Header}
use Rattle.nc_frames.specs.declared.header.Header.TheVariants.{Start, Line, Hash, Size, Close}
use Rattle.nc_frames.specs.declared.header.Stop.TheVariants.{Bad, TooBig}
use Rattle.nc_frames.specs.Framing.{Chunks, chunk, end_of_chunks, IsChunk, IsPartialChunks, AnnouncesTooMuch, IsUnfinished, IsBad}
use Rattle.nc_frames.specs.inner.Steps.{Reading, run, step, start, start_of, StopsAt}
use Rattle.nc_frames.proofs.StepLemmas.{run-append-some}
use Rattle.nc_frames.proofs.ChunkLemmas.{text_of, IsGoodHeader, came, good}
use Rattle.nc_frames.proofs.ChunkReads.{at_header, run-size, run-chunks, big_size, halts, stops_step, same_stop}

AreChunks-append : (xs ys : List (List ℕ)) → AllByRecursion IsChunk xs → AllByRecursion IsChunk ys → AllByRecursion IsChunk (xs ++ ys)
AreChunks-append [] ys p q = q
AreChunks-append (x ∷ xs) ys p q = (p.0, AreChunks-append xs ys p.1 q)

-- how a message may go on after what there is of a header, after so many octets
record Finish (h : Header) (octets : ℕ) : Type 0 where
  tail : List ℕ
  last : List (List ℕ)
  each : AllByRecursion IsChunk last
  some : 0 < length tail
  text : text_of h ++ tail ≡ flat_map chunk last ++ end_of_chunks
  chunks : last ≡ [] → 0 < octets

longer : (xs : List ℕ) → 0 < length (xs ++ end_of_chunks)
longer xs = omega (arith, length-append xs end_of_chunks)

one : AllByRecursion IsChunk ((0 ∷ []) ∷ [])
one = ((omega arith, omega arith), tt)

not_none : (os : List ℕ) → os ∷ [] ≡ [] → ⊥
not_none os e = cc

finish : (h : Header) (octets : ℕ) → IsGoodHeader h octets → Finish h octets
finish Start n fits = record { tail = flat_map chunk ((0 ∷ []) ∷ []) ++ end_of_chunks; last = (0 ∷ []) ∷ []; each = one; some = longer (flat_map chunk ((0 ∷ []) ∷ [])); text = refl; chunks = λ e. absurd (not_none (0 ∷ []) e) }
finish Line n fits = record { tail = (35 ∷ ((decimal 1 ++ 10 ∷ 0 ∷ []) ++ [])) ++ end_of_chunks; last = (0 ∷ []) ∷ []; each = one; some = longer (35 ∷ ((decimal 1 ++ 10 ∷ 0 ∷ []) ++ [])); text = refl; chunks = λ e. absurd (not_none (0 ∷ []) e) }
finish Hash n fits = record { tail = ((decimal 1 ++ 10 ∷ 0 ∷ []) ++ []) ++ end_of_chunks; last = (0 ∷ []) ∷ []; each = one; some = longer ((decimal 1 ++ 10 ∷ 0 ∷ []) ++ []); text = refl; chunks = λ e. absurd (not_none (0 ∷ []) e) }
finish (Size k) n fits =
    let os : List ℕ = replicate k 0 in
    let len : length os ≡ k = length-replicate k 0 in
    record {
      tail = (10 ∷ os) ++ end_of_chunks;
      last = os ∷ [];
      each = ((omega (arith, fits.0), omega (arith, fits.1)), tt);
      some = longer (10 ∷ os);
      text =
          ap (λ m. (10 ∷ 35 ∷ decimal m) ++ ((10 ∷ os) ++ end_of_chunks)) (sym len)
          ∙ sym (append_assoc (10 ∷ 35 ∷ decimal (length os)) (10 ∷ os) end_of_chunks)
          ∙ ap (λ l. l ++ end_of_chunks) (sym (append-nil (chunk os)));
      chunks = λ e. absurd (not_none os e);
    }
finish Close n fits = record { tail = 10 ∷ []; last = []; each = tt; some = omega arith; text = refl; chunks = λ _. fits }

some_of_two : (xs ys : List (List ℕ)) (octets : ℕ) (m : List ℕ) → concat xs ≡ m → octets ≤ length m → (ys ≡ [] → 0 < octets) → xs ++ ys ≢ []
some_of_two [] [] octets m e within some = λ _. omega (arith, some refl, ap length e)
some_of_two [] (y ∷ ys) octets m e within some = λ none. cc
some_of_two (x ∷ xs) ys octets m e within some = λ none. cc

-- bytes that are read are a proper beginning of a message
pub partial : (bytes : List ℕ) (t : Reading) → run bytes start ≡ Some t → IsPartialChunks bytes
partial bytes t e =
    let more : List ℕ = replicate t.left 0 in
    let w = came bytes t more e (length-replicate t.left 0) in
    let f = finish t.header (length t.message) (good bytes t e).header in
    record {
      chunks = w.chunks ++ f.last;
      each = (some_of_two w.chunks f.last (length t.message) (t.message ++ more) w.message (omega (arith, length-append t.message more)) f.chunks, AreChunks-append w.chunks f.last w.each f.each);
      more = more ++ f.tail;
      some = λ none. omega (arith, ap length none, length-append more f.tail, f.some);
      whole =
          ap (λ l. l ++ end_of_chunks) (flat_map-append chunk w.chunks f.last)
          ∙ append_assoc (flat_map chunk w.chunks) (flat_map chunk f.last) end_of_chunks
          ∙ ap (λ l. flat_map chunk w.chunks ++ l) (sym f.text)
          ∙ sym (append_assoc (flat_map chunk w.chunks) (text_of t.header) f.tail)
          ∙ ap (λ l. l ++ f.tail) (sym w.text)
          ∙ append_assoc bytes more f.tail;
    }

-- the LF at which too much is announced
pub record StopsBig (bytes : List ℕ) (place : ℕ) : Type 0 where
  pub front : List ℕ
  pub rest : List ℕ
  pub at : Reading
  pub bytes_are : bytes ≡ front ++ 10 ∷ rest
  pub reads : run front start ≡ Some at
  pub stops : StopsAt at 10 TooBig
  pub place_is : place ≡ length front

pub stops_big : (bytes : List ℕ) (place : ℕ) → AnnouncesTooMuch bytes place → StopsBig bytes place
stops_big bytes place a = record {
  front = flat_map chunk a.chunks ++ (10 ∷ 35 ∷ decimal a.size);
  rest = a.rest;
  at = at_header (Size a.size) (concat a.chunks);
  bytes_are = a.bytes_are;
  reads =
      run-append-some (flat_map chunk a.chunks) (10 ∷ 35 ∷ decimal a.size) start (start_of (concat a.chunks)) (run-chunks a.chunks [] a.each (omega (arith, a.before)))
      ∙ run-size (concat a.chunks) a.size a.is_size;
  stops = record { left = refl; stops = big_size (concat a.chunks) a.size a.is_size.0 a.after };
  place_is = a.place_is;
}

-- what is after a byte that leads nowhere is not read
pub run_past : (front : List ℕ) (b : ℕ) (rest : List ℕ) (s t : Reading) → run front s ≡ Some t → step t b ≡ None → run (front ++ b ∷ rest) s ≡ None
unfolding run
run_past front b rest s t e none = run-append-some front (b ∷ rest) s t e ∙ ap (λ o. option_and_then (λ u. run rest u) o) none

pub unfinished : (bytes : List ℕ) (t : Reading) → run bytes start ≡ Some t → IsUnfinished Chunks bytes
unfinished bytes t e = record {
  partial = partial bytes t e;
  small = λ place a.
      let w = stops_big bytes place a in
      let none : run bytes start ≡ None = ap (λ l. run l start) w.bytes_are ∙ run_past w.front 10 w.rest start w.at w.reads (stops_step w.at 10 TooBig w.stops) in
      absurd (let no : None ≡ Some t = sym none ∙ e in cc);
}

pub bad : (before : List ℕ) (t : Reading) (b : ℕ) (rest : List ℕ) → run before start ≡ Some t → StopsAt t b Bad → IsBad (before ++ b ∷ rest) (length before)
bad before t b rest e stop = record {
  before = before;
  byte = b;
  rest = rest;
  bytes_are = refl;
  unfinished = unfinished before t e;
  wrong = λ begins.
      let h = halts begins.chunks [] begins.each.1 (λ none. absurd (begins.each.0 none)) (omega arith) in
      let same : h.front ++ h.byte ∷ h.rest ≡ before ++ b ∷ begins.more = sym h.bytes_are ∙ begins.whole ∙ append_assoc before (b ∷ []) begins.more in
      let w = same_stop h.front before h.byte b h.rest begins.more start h.at t same h.reads (stops_step h.at h.byte h.why h.stops) e (stops_step t b Bad stop) in
      h.not_bad (same_why h.at t h.byte b h.why w.at w.byte h.stops stop);
  place_is = refl;
} where
  same_why : (s t : Reading) (x b : ℕ) (why : _) → s ≡ t → x ≡ b → StopsAt s x why → StopsAt t b Bad → why ≡ Bad
  same_why s t x b why st xb p q =
      let r : StopsAt s x Bad = subst (λ u. StopsAt u x Bad) (sym st) (subst (λ y. StopsAt t y Bad) (sym xb) q) in
      let both = sym p.stops ∙ r.stops in
      cc
