-- One answer fits the bytes that are not given.
use Rattle.std.proofs.Common.{◌≡◌, ◌≢◌, inl, inr, ℕ, ◌+◌, ◌<◌, ◌≤◌, List, [], ◌∷◌, ◌++◌, length, Some, refl, ap, sym, ◌∙◌, subst, arith}
use Rattle.std.specs.Prelude.{replicate}
use Rattle.std.specs.List.{flat_map, concat, AllByRecursion}
use Rattle.std.specs.Fmt.{decimal}
use Rattle.std.proofs.lemmas.List.{append_assoc, append-nil, length-append, nil_from_length, length-replicate}
use Rattle.std.proofs.lemmas.List.Concat.{flat_map-append}
use Rattle.nc_names.specs.Limits.{message_limit}
use Rattle.nc_frames.specs.declared.fault.FrameFault.{FrameFault}
use Rattle.nc_frames.specs.declared.fault.FrameFault.TheVariants.{BadFrame, TooBig, Memory}
use Rattle.nc_frames.specs.declared.header.Header.TheVariants.{Close}
use Rattle.nc_frames.specs.declared.header.Stop.TheVariants.{End, TooBig as Big}
use Rattle.nc_frames.specs.Framing.{Mode, Marks, Chunks, mark, with_mark, chunk, end_of_chunks, in_chunks, IsSize, IsChunk, AreChunks, IsPartialChunks, BeginsChunks, IsFramed, IsTooLong, AnnouncesTooMuch, IsBad, IsUnfinished}
use Rattle.nc_frames.specs.inner.Steps.{Reading, run, start, start_of, StopsAt}
use Rattle.nc_frames.specs.Framing.{capped}
use Rattle.nc_frames.specs.Replies.{IsFaultOf}
use Rattle.nc_frames.specs.Laws.{HasOneAnswer}
use Rattle.nc_frames.proofs.StepLemmas.{run-append-some}
use Rattle.nc_frames.proofs.ChunkReads.{at_header, run-chunks, run-close, same_stop, stops_step}
use Rattle.nc_frames.proofs.StreamLemmas.{stops_big}
use Rattle.nc_frames.proofs.ReadingLemmas.{splits, partial_has_none, one_marked, one_in_chunks}

-- a beginning of a beginning
begins_shorter : (front : List ℕ) (byte : ℕ) (rest bytes : List ℕ) → bytes ≡ front ++ byte ∷ rest → IsPartialChunks bytes → BeginsChunks (front ++ byte ∷ [])
begins_shorter front byte rest bytes e p = record {
  chunks = p.chunks;
  each = p.each;
  more = rest ++ p.more;
  whole = p.whole ∙ ap (λ l. l ++ p.more) e ∙ append_assoc front (byte ∷ rest) p.more ∙ sym (append_assoc front (byte ∷ []) (rest ++ p.more));
}

marked_in_front : (m rest : List ℕ) (bytes framed : List ℕ) → bytes ≡ framed ++ rest → framed ≡ with_mark m → bytes ≡ m ++ (mark ++ rest)
marked_in_front m rest bytes framed e f = e ∙ ap (λ l. l ++ rest) f ∙ append_assoc m mark rest

unfinished_message : (mode : Mode) (bytes : List ℕ) → IsUnfinished mode bytes → (framed rest message : List ℕ) → bytes ≡ framed ++ rest → ¬ IsFramed mode framed message
unfinished_message Marks bytes u framed rest message e = λ f. u.partial message rest (marked_in_front message rest bytes framed e f.0)
unfinished_message Chunks bytes u framed rest message e = λ f. partial_has_none f.chunks bytes rest f.each u.partial (e ∙ ap (λ l. l ++ rest) f.bytes_are)

unfinished_fault : (mode : Mode) (bytes : List ℕ) → IsUnfinished mode bytes → (first : ℕ) (fault : FrameFault) → ¬ IsFaultOf mode first bytes fault
unfinished_fault Marks bytes u first (TooBig at) = λ f. u.small f.0 f.1
unfinished_fault Chunks bytes u first (TooBig at) = λ f. u.small f.0 f.1
unfinished_fault Chunks bytes u first (BadFrame at) = λ f. f.1.wrong (begins_shorter f.1.before f.1.byte f.1.rest bytes f.1.bytes_are u.partial)
unfinished_fault Marks bytes u first (BadFrame at) = λ f. f
unfinished_fault Marks bytes u first Memory = λ f. f
unfinished_fault Chunks bytes u first Memory = λ f. f

not_too_long : (bytes framed rest m : List ℕ) (place : ℕ) → bytes ≡ framed ++ rest → framed ≡ with_mark m → length m ≤ message_limit → IsTooLong bytes place → ⊥
not_too_long bytes framed rest m place e f small t = elim (splits framed t.front rest t.rest (sym e ∙ t.bytes_are)) [
  | inl w ↦ t.unmarked m w.0 (marked_in_front m w.0 t.front framed w.1 f)
  | inr w ↦ (
      let len : length framed ≡ length m + 6 = ap length f ∙ length-append m mark in
      let none : w.0 ≡ [] = nil_from_length w.0 (omega (arith, len, ap length w.1, length-append t.front w.0, t.many)) in
      t.unmarked m [] (sym (append-nil t.front) ∙ ap (λ l. t.front ++ l) (sym none) ∙ sym w.1 ∙ f)
      )
]

not_bad : (bytes rest : List ℕ) (cs : List (List ℕ)) (place : ℕ) → bytes ≡ in_chunks cs ++ rest → AreChunks cs → IsBad bytes place → ⊥
not_bad bytes rest cs place e each b = elim (splits (in_chunks cs) b.before rest (b.byte ∷ b.rest) (sym e ∙ b.bytes_are)) [
  | inl w ↦ partial_has_none cs b.before w.0 each b.unfinished.partial w.1
  | inr w ↦ beyond w.0 w.1 w.2
] where
  beyond : (z : List ℕ) → in_chunks cs ≡ b.before ++ z → b.byte ∷ b.rest ≡ z ++ rest → ⊥
  beyond [] f g = partial_has_none cs b.before [] each b.unfinished.partial (sym (append-nil b.before) ∙ sym f ∙ sym (append-nil (in_chunks cs)))
  beyond (x ∷ z) f g =
      let head : x ≡ b.byte = cc in
      b.wrong (record { chunks = cs; each = each; more = z; whole = f ∙ ap (λ y. b.before ++ y ∷ z) head ∙ sym (append_assoc b.before (b.byte ∷ []) z) })

end_is_not_big : End ≢ Big
end_is_not_big = λ e. cc

-- a message that is not too big is read to its last byte
run-whole : (cs : List (List ℕ)) → AreChunks cs → length (concat cs) ≤ message_limit → run (flat_map chunk cs ++ (10 ∷ 35 ∷ 35 ∷ [])) start ≡ Some (at_header Close (concat cs))
run-whole cs each small =
    run-append-some (flat_map chunk cs) (10 ∷ 35 ∷ 35 ∷ []) start (start_of (concat cs)) (run-chunks cs [] each.1 (omega (arith, small)))
    ∙ run-close (concat cs) (some_octets cs each)
  where
    some_octets : (cs : List (List ℕ)) → AreChunks cs → 0 < length (concat cs)
    some_octets [] each = absurd (each.0 refl)
    some_octets (c ∷ cs) each = omega (arith, length-append c (concat cs), each.1.0.0)

not_announced : (bytes rest : List ℕ) (cs : List (List ℕ)) (place : ℕ) → bytes ≡ in_chunks cs ++ rest → AreChunks cs → length (concat cs) ≤ message_limit → AnnouncesTooMuch bytes place → ⊥
not_announced bytes rest cs place e each small a =
    let w = stops_big bytes place a in
    let front : List ℕ = flat_map chunk cs ++ (10 ∷ 35 ∷ 35 ∷ []) in
    let text : in_chunks cs ++ rest ≡ front ++ 10 ∷ rest =
    append_assoc (flat_map chunk cs) end_of_chunks rest ∙ sym (append_assoc (flat_map chunk cs) (10 ∷ 35 ∷ 35 ∷ []) (10 ∷ rest)) in
    let end : StopsAt (at_header Close (concat cs)) 10 End = record { left = refl; stops = refl } in
    let s = same_stop front w.front 10 10 rest w.rest start (at_header Close (concat cs)) w.at (sym text ∙ sym e ∙ w.bytes_are) (run-whole cs each small) (stops_step _ 10 End end) w.reads (stops_step w.at 10 Big w.stops) in
    end_is_not_big (same_reason (at_header Close (concat cs)) w.at s.at end w.stops)
  where
    same_reason : (s t : Reading) → s ≡ t → StopsAt s 10 End → StopsAt t 10 Big → End ≡ Big
    same_reason s t st p q =
        let r : StopsAt s 10 Big = subst (λ u. StopsAt u 10 Big) (sym st) q in
        let both = sym p.stops ∙ r.stops in
        cc

message_fault : (mode : Mode) (bytes framed rest message : List ℕ) → bytes ≡ framed ++ rest → IsFramed mode framed message → length message ≤ message_limit → (first : ℕ) (fault : FrameFault) → ¬ IsFaultOf mode first bytes fault
message_fault Marks bytes framed rest m e f small first (TooBig at) = λ t. not_too_long bytes framed rest m t.0 e f.0 small t.1
message_fault Chunks bytes framed rest m e f small first (TooBig at) = λ t. not_announced bytes rest f.chunks t.0 (e ∙ ap (λ l. l ++ rest) f.bytes_are) f.each (omega (arith, small, ap length f.message_is)) t.1
message_fault Chunks bytes framed rest m e f small first (BadFrame at) = λ t. not_bad bytes rest f.chunks t.0 (e ∙ ap (λ l. l ++ rest) f.bytes_are) f.each t.1
message_fault Marks bytes framed rest m e f small first (BadFrame at) = λ t. t
message_fault Marks bytes framed rest m e f small first Memory = λ t. t
message_fault Chunks bytes framed rest m e f small first Memory = λ t. t

one_framed : (mode : Mode) (bytes framed rest message other more another : List ℕ) → bytes ≡ framed ++ rest → IsFramed mode framed message → bytes ≡ other ++ more → IsFramed mode other another → (message ≡ another) × (rest ≡ more)
one_framed Marks bytes framed rest m other more n e f g h =
    one_marked m n rest more f.1 h.1 (ap (λ l. l ++ rest) (sym f.0) ∙ sym e ∙ g ∙ ap (λ l. l ++ more) h.0)
one_framed Chunks bytes framed rest m other more n e f g h =
    let w = one_in_chunks f.chunks h.chunks rest more f.each.1 h.each.1 (ap (λ l. l ++ rest) (sym f.bytes_are) ∙ sym e ∙ g ∙ ap (λ l. l ++ more) h.bytes_are) in
    (f.message_is ∙ ap concat w.0 ∙ sym h.message_is, w.1)

begins_prefix : (xs ys : List ℕ) → BeginsChunks (xs ++ ys) → BeginsChunks xs
begins_prefix xs ys b = record { chunks = b.chunks; each = b.each; more = ys ++ b.more; whole = b.whole ∙ append_assoc xs ys b.more }

AreChunks-push : (cs : List (List ℕ)) (c : List ℕ) → AllByRecursion IsChunk cs → IsChunk c → AreChunks (cs ++ c ∷ [])
AreChunks-push [] c each is = ((λ e. cc), (is, tt))
AreChunks-push (d ∷ cs) c each is = ((λ e. cc), (each.0, (AreChunks-push cs c each.1 is).1))

-- a size and the LF after it begin a message
begins_size : (cs : List (List ℕ)) (size : ℕ) → AllByRecursion IsChunk cs → IsSize size → BeginsChunks ((flat_map chunk cs ++ (10 ∷ 35 ∷ decimal size)) ++ 10 ∷ [])
begins_size cs size each is =
    let os : List ℕ = replicate size 0 in
    let len : length os ≡ size = length-replicate size 0 in
    let front : List ℕ = flat_map chunk cs ++ (10 ∷ 35 ∷ decimal size) in
    record {
      chunks = cs ++ os ∷ [];
      each = AreChunks-push cs os each (omega (arith, is.0), omega (arith, is.1));
      more = os ++ end_of_chunks;
      whole =
          ap (λ l. l ++ end_of_chunks) (flat_map-append chunk cs (os ∷ []) ∙ ap (λ l. flat_map chunk cs ++ l) (append-nil (chunk os) ∙ ap (λ n. (10 ∷ 35 ∷ decimal n) ++ 10 ∷ os) len) ∙ sym (append_assoc (flat_map chunk cs) (10 ∷ 35 ∷ decimal size) (10 ∷ os)))
          ∙ append_assoc front (10 ∷ os) end_of_chunks
          ∙ sym (append_assoc front (10 ∷ []) (os ++ end_of_chunks));
    }

-- the bytes before the LF that announces too much
abbrev text : {bytes : List ℕ} {place : ℕ} → AnnouncesTooMuch bytes place → List ℕ
text a = flat_map chunk a.chunks ++ (10 ∷ 35 ∷ decimal a.size)

bad_or_big : (bytes : List ℕ) (p q : ℕ) → IsBad bytes p → AnnouncesTooMuch bytes q → ⊥
bad_or_big bytes p q b a = elim (splits b.before (text a) (b.byte ∷ b.rest) (10 ∷ a.rest) (sym b.bytes_are ∙ a.bytes_are)) [
  | inl w ↦ within w.0 w.1 w.2
  | inr w ↦ beyond w.0 w.1 w.2
] where
  begins : BeginsChunks (text a ++ 10 ∷ [])
  begins = begins_size a.chunks a.size a.each a.is_size

  within : (z : List ℕ) → text a ≡ b.before ++ z → b.byte ∷ b.rest ≡ z ++ 10 ∷ a.rest → ⊥
  within [] e f =
      let head : 10 ≡ b.byte = cc in
      b.wrong (subst BeginsChunks (ap (λ l. l ++ 10 ∷ []) (e ∙ append-nil b.before) ∙ ap (λ x. b.before ++ x ∷ []) head) begins)
  within (x ∷ z) e f =
      let head : x ≡ b.byte = cc in
      let longer : text a ++ 10 ∷ [] ≡ (b.before ++ b.byte ∷ []) ++ (z ++ 10 ∷ []) =
      ap (λ l. l ++ 10 ∷ []) (e ∙ ap (λ y. b.before ++ y ∷ z) head ∙ sym (append_assoc b.before (b.byte ∷ []) z)) ∙ append_assoc (b.before ++ b.byte ∷ []) z (10 ∷ []) in
      b.wrong (begins_prefix (b.before ++ b.byte ∷ []) (z ++ 10 ∷ []) (subst BeginsChunks longer begins))

  beyond : (z : List ℕ) → b.before ≡ text a ++ z → 10 ∷ a.rest ≡ z ++ b.byte ∷ b.rest → ⊥
  beyond [] e f =
      let head : 10 ≡ b.byte = cc in
      b.wrong (subst BeginsChunks (ap (λ l. l ++ 10 ∷ []) (sym (e ∙ append-nil (text a))) ∙ ap (λ x. b.before ++ x ∷ []) head) begins)
  beyond (x ∷ z) e f =
      let head : x ≡ 10 = cc in
      b.unfinished.small (length (text a)) (record {
        chunks = a.chunks;
        each = a.each;
        size = a.size;
        is_size = a.is_size;
        rest = z;
        bytes_are = e ∙ ap (λ y. text a ++ y ∷ z) head;
        before = a.before;
        after = a.after;
        place_is = refl;
      })

bad_first : (bytes : List ℕ) (p q : ℕ) (b : IsBad bytes p) (c : IsBad bytes q) (z : List ℕ) → c.before ≡ b.before ++ z → b.byte ∷ b.rest ≡ z ++ c.byte ∷ c.rest → p ≡ q
bad_first bytes p q b c [] e f = b.place_is ∙ ap length (sym (e ∙ append-nil b.before)) ∙ sym c.place_is
bad_first bytes p q b c (x ∷ z) e f =
    let head : x ≡ b.byte = cc in
    absurd (b.wrong (begins_shorter b.before b.byte z c.before (e ∙ ap (λ y. b.before ++ y ∷ z) head) c.unfinished.partial))

one_bad : (bytes : List ℕ) (p q : ℕ) → IsBad bytes p → IsBad bytes q → p ≡ q
one_bad bytes p q b c = elim (splits b.before c.before (b.byte ∷ b.rest) (c.byte ∷ c.rest) (sym b.bytes_are ∙ c.bytes_are)) [
  | inl w ↦ bad_first bytes p q b c w.0 w.1 w.2
  | inr w ↦ sym (bad_first bytes q p c b w.0 w.1 w.2)
]

one_big : (bytes : List ℕ) (p q : ℕ) → AnnouncesTooMuch bytes p → AnnouncesTooMuch bytes q → p ≡ q
one_big bytes p q a b =
    let v = stops_big bytes p a in
    let w = stops_big bytes q b in
    let s = same_stop v.front w.front 10 10 v.rest w.rest start v.at w.at (sym v.bytes_are ∙ w.bytes_are) v.reads (stops_step v.at 10 Big v.stops) w.reads (stops_step w.at 10 Big w.stops) in
    v.place_is ∙ ap length s.front ∙ sym w.place_is

one_fault : (mode : Mode) (bytes : List ℕ) (first : ℕ) (f g : FrameFault) → IsFaultOf mode first bytes f → IsFaultOf mode first bytes g → f ≡ g
one_fault Marks bytes first (TooBig at) (TooBig to) f g = ap TooBig (f.2 ∙ ap (λ n. capped (first + n)) (f.1.place_is ∙ sym g.1.place_is) ∙ sym g.2)
one_fault Chunks bytes first (TooBig at) (TooBig to) f g = ap TooBig (f.2 ∙ ap (λ n. capped (first + n)) (one_big bytes f.0 g.0 f.1 g.1) ∙ sym g.2)
one_fault Chunks bytes first (BadFrame at) (BadFrame to) f g = ap BadFrame (f.2 ∙ ap (λ n. capped (first + n)) (one_bad bytes f.0 g.0 f.1 g.1) ∙ sym g.2)
one_fault Chunks bytes first (BadFrame at) (TooBig to) f g = absurd (bad_or_big bytes f.0 g.0 f.1 g.1)
one_fault Chunks bytes first (TooBig at) (BadFrame to) f g = absurd (bad_or_big bytes g.0 f.0 g.1 f.1)
one_fault Marks bytes first (BadFrame at) g f h = absurd f
one_fault Marks bytes first (TooBig at) (BadFrame to) f g = absurd g
one_fault Marks bytes first (TooBig at) Memory f g = absurd g
one_fault Chunks bytes first (TooBig at) Memory f g = absurd g
one_fault Chunks bytes first (BadFrame at) Memory f g = absurd g
one_fault Marks bytes first Memory g f h = absurd f
one_fault Chunks bytes first Memory g f h = absurd f

pub one_answer : HasOneAnswer
one_answer mode bytes = record {
  no_message = unfinished_message mode bytes;
  no_fault = unfinished_fault mode bytes;
  message_alone = message_fault mode bytes;
  one_message = one_framed mode bytes;
  one_fault = one_fault mode bytes;
}
