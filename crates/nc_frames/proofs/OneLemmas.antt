-- A stream has one list of messages, and one fault or none.
use Rattle.std.proofs.Common.{◌≡◌, ℕ, ◌+◌, List, [], ◌∷◌, ◌++◌, length, Option, Some, None, refl, ap, sym, ◌∙◌, subst, arith}
use Rattle.std.proofs.lemmas.List.{append_assoc, append_cancel_right, length-append}
use Rattle.nc_frames.specs.declared.fault.FrameFault.{FrameFault}
use Rattle.nc_frames.specs.Framing.{Mode, Marks, IsMessage}
use Rattle.nc_frames.specs.Streams.{AreMessages, EndsSo, IsStream, IsSession}
use Rattle.nc_frames.specs.Laws.{HasOneReading}
use Rattle.nc_frames.proofs.AnswerLemmas.{one_answer}

one_end : (mode : Mode) (first : ℕ) (bytes : List ℕ) (end other : Option FrameFault) → EndsSo mode first bytes end → EndsSo mode first bytes other → end ≡ other
one_end mode first bytes None None p q = refl
one_end mode first bytes None (Some fault) p q = absurd ((one_answer mode bytes).no_fault p first fault q)
one_end mode first bytes (Some fault) None p q = absurd ((one_answer mode bytes).no_fault q first fault p)
one_end mode first bytes (Some fault) (Some other) p q = ap Some ((one_answer mode bytes).one_fault first fault other p q)

-- how a stream ends, no message begins
end_is_none : (mode : Mode) (first : ℕ) (bytes framed rest message : List ℕ) (end : Option FrameFault) → EndsSo mode first bytes end → bytes ≡ framed ++ rest → IsMessage mode framed message → ⊥
end_is_none mode first bytes framed rest message None p e m = (one_answer mode bytes).no_message p framed rest message e m.is_framed
end_is_none mode first bytes framed rest message (Some fault) p e m = (one_answer mode bytes).message_alone framed rest message e m.is_framed m.small first fault p

-- one message at the front
record SameFront (framed rest message other more another : List ℕ) : Type 0 where
  message_is : message ≡ another
  rest_is : rest ≡ more
  framed_is : framed ≡ other

same_front : (mode : Mode) (bytes framed rest message other more another : List ℕ) → bytes ≡ framed ++ rest → IsMessage mode framed message → bytes ≡ other ++ more → IsMessage mode other another → SameFront framed rest message other more another
same_front mode bytes framed rest message other more another e m f n =
    let w = (one_answer mode bytes).one_message framed rest message other more another e m.is_framed f n.is_framed in
    record {
      message_is = w.0;
      rest_is = w.1;
      framed_is = append_cancel_right framed other rest (sym e ∙ f ∙ ap (λ l. other ++ l) (sym w.1));
    }

shorter : (bytes framed a more rest : List ℕ) → bytes ≡ framed ++ rest → framed ≡ a ++ more → bytes ≡ a ++ (more ++ rest)
shorter bytes framed a more rest e f = e ∙ ap (λ l. l ++ rest) f ∙ append_assoc a more rest

-- the messages of one list of bytes, and its end
streams : (messages others : List (List ℕ)) (mode : Mode) (first : ℕ) (bytes framed rest other more : List ℕ) (end last : Option FrameFault) → bytes ≡ framed ++ rest → AreMessages mode framed messages → EndsSo mode (first + length framed) rest end → bytes ≡ other ++ more → AreMessages mode other others → EndsSo mode (first + length other) more last → (messages ≡ others) × (end ≡ last)
streams [] [] mode first bytes framed rest other more end last e m p f n q =
    let same : more ≡ rest = sym (ap (λ l. l ++ more) n) ∙ sym f ∙ e ∙ ap (λ l. l ++ rest) m in
    let there : EndsSo mode (first + length framed) rest last = subst (λ l. EndsSo mode (first + length l) rest last) (n ∙ sym m) (subst (λ l. EndsSo mode (first + length other) l last) same q) in
    (refl, one_end mode (first + length framed) rest end last p there)
streams [] (a ∷ ms) mode first bytes framed rest other more end last e m p f n q =
    let front : rest ≡ n.0 ++ (n.1 ++ more) = sym (ap (λ l. l ++ rest) m) ∙ sym e ∙ shorter bytes other n.0 n.1 more f n.2 in
    absurd (end_is_none mode (first + length framed) rest n.0 (n.1 ++ more) a end p front n.3)
streams (a ∷ ms) [] mode first bytes framed rest other more end last e m p f n q =
    let front : more ≡ m.0 ++ (m.1 ++ rest) = sym (ap (λ l. l ++ more) n) ∙ sym f ∙ shorter bytes framed m.0 m.1 rest e m.2 in
    absurd (end_is_none mode (first + length other) more m.0 (m.1 ++ rest) a last q front m.3)
streams (a ∷ ms) (b ∷ bs) mode first bytes framed rest other more end last e m p f n q =
    let w = same_front mode bytes m.0 (m.1 ++ rest) a n.0 (n.1 ++ more) b (shorter bytes framed m.0 m.1 rest e m.2) m.3 (shorter bytes other n.0 n.1 more f n.2) n.3 in
    let v = streams ms bs mode (first + length m.0) (m.1 ++ rest) m.1 rest n.1 more end last refl m.4 (moved mode first framed m.0 m.1 rest end m.2 p) w.rest_is n.4 (subst (λ l. EndsSo mode (first + length l + length n.1) more last) (sym w.framed_is) (moved mode first other n.0 n.1 more last n.2 q)) in
    (ap (λ x. x ∷ ms) w.message_is ∙ ap (λ l. b ∷ l) v.0, v.1)
  where
    moved : (mode : Mode) (first : ℕ) (framed a more rest : List ℕ) (end : Option FrameFault) → framed ≡ a ++ more → EndsSo mode (first + length framed) rest end → EndsSo mode (first + length a + length more) rest end
    moved mode first framed a more rest end e p = subst (λ place. EndsSo mode place rest end) (omega (arith, ap length e, length-append a more)) p

one_stream : (mode : Mode) (first : ℕ) (bytes : List ℕ) (messages others : List (List ℕ)) (end other : Option FrameFault) → IsStream mode first bytes messages end → IsStream mode first bytes others other → (messages ≡ others) × (end ≡ other)
one_stream mode first bytes messages others end other s t =
    streams messages others mode first bytes s.framed s.rest t.framed t.rest end other s.whole s.messages_are s.ends t.whole t.messages_are t.ends

-- no hello begins a stream with marks that has no message
not_both : (bytes framed more hello : List ℕ) (end : Option FrameFault) → IsStream Marks 0 bytes [] end → bytes ≡ framed ++ more → IsMessage Marks framed hello → ⊥
not_both bytes framed more hello end s e m =
    end_is_none Marks (0 + length s.framed) s.rest framed more hello end s.ends (sym (ap (λ l. l ++ s.rest) s.messages_are) ∙ sym s.whole ∙ e) m

one_session : (messages others : List (List ℕ)) (mode : Mode) (bytes : List ℕ) (end other : Option FrameFault) → IsSession mode bytes messages end → IsSession mode bytes others other → (messages ≡ others) × (end ≡ other)
one_session [] [] mode bytes end other s t = one_stream Marks 0 bytes [] [] end other s t
one_session [] (b ∷ bs) mode bytes end other s t = absurd (not_both bytes t.0 t.1 b end s t.2 t.3)
one_session (a ∷ ms) [] mode bytes end other s t = absurd (not_both bytes s.0 s.1 a other t s.2 s.3)
one_session (a ∷ ms) (b ∷ bs) mode bytes end other s t =
    let w = same_front Marks bytes s.0 s.1 a t.0 t.1 b s.2 s.3 t.2 t.3 in
    let there : IsStream mode (length s.0) s.1 bs other = subst (λ l. IsStream mode (length l) s.1 bs other) (sym w.framed_is) (subst (λ l. IsStream mode (length t.0) l bs other) (sym w.rest_is) t.4) in
    let v = one_stream mode (length s.0) s.1 ms bs end other s.4 there in
    (ap (λ x. x ∷ ms) w.message_is ∙ ap (λ l. b ∷ l) v.0, v.1)

one_rest : (messages : List (List ℕ)) (mode : Mode) (framed rest other more : List ℕ) → framed ++ rest ≡ other ++ more → AreMessages mode framed messages → AreMessages mode other messages → rest ≡ more
one_rest [] mode framed rest other more e m n = sym (ap (λ l. l ++ rest) m) ∙ e ∙ ap (λ l. l ++ more) n
one_rest (a ∷ ms) mode framed rest other more e m n =
    let w = same_front mode (framed ++ rest) m.0 (m.1 ++ rest) a n.0 (n.1 ++ more) a (shorter (framed ++ rest) framed m.0 m.1 rest refl m.2) m.3 (shorter (framed ++ rest) other n.0 n.1 more e n.2) n.3 in
    one_rest ms mode m.1 rest n.1 more w.rest_is m.4 n.4

pub one_reading : HasOneReading
one_reading = record {
  stream = one_stream;
  session = λ mode bytes messages others end other. one_session messages others mode bytes end other;
  rest = λ mode framed rest other more messages. one_rest messages mode framed rest other more;
}
