-- The writing of a message chunk by chunk.
use Rattle.std.proofs.Common.{◌≡◌, ℕ, ◌<◌, ◌≤◌, List, [], ◌∷◌, ◌++◌, length, take, drop, refl, ap, sym, ◌∙◌, arith}
use Rattle.std.specs.List.{flat_map, concat, AllByRecursion}
use Rattle.std.proofs.lemmas.List.{append_assoc, append-nil, length-take-le, length-drop, take-append-drop}
use Rattle.std.proofs.lemmas.List.Concat.{flat_map-append}
use Rattle.nc_frames.specs.Framing.{chunk, end_of_chunks}
use Rattle.nc_frames.specs.Writing.{IsCut, AppendsChunks}

abbrev pub IsFull : ℕ → List ℕ → Type 0
IsFull size octets = length octets ≡ size

-- some full chunks are written, and this rest of the message is to come
pub record Cutting (size : ℕ) (old now body rest : List ℕ) : Type 0 where
  pub chunks : List (List ℕ)
  pub full : AllByRecursion (IsFull size) chunks
  pub body_is : body ≡ concat chunks ++ rest
  pub some : 0 < length rest
  pub now_is : now ≡ old ++ flat_map chunk chunks

pub Cutting-none : (size : ℕ) (old body : List ℕ) → 0 < length body → Cutting size old old body body
Cutting-none size old body some = record { chunks = []; full = tt; body_is = refl; some = some; now_is = sym (append-nil old) }

pub concat-append : (xs ys : List (List ℕ)) → concat (xs ++ ys) ≡ concat xs ++ concat ys
concat-append [] ys = refl
concat-append (x ∷ xs) ys = ap (λ l. x ++ l) (concat-append xs ys) ∙ sym (append_assoc x (concat xs) (concat ys))

full-push : (size : ℕ) (chunks : List (List ℕ)) (octets : List ℕ) → AllByRecursion (IsFull size) chunks → IsFull size octets → AllByRecursion (IsFull size) (chunks ++ octets ∷ [])
full-push size [] octets full is = (is, tt)
full-push size (c ∷ cs) octets full is = (full.0, full-push size cs octets full.1 is)

written_push : (old now : List ℕ) (chunks : List (List ℕ)) (octets : List ℕ) → now ≡ old ++ flat_map chunk chunks → now ++ chunk octets ≡ old ++ flat_map chunk (chunks ++ octets ∷ [])
written_push old now chunks octets e =
    ap (λ l. l ++ chunk octets) e
    ∙ append_assoc old (flat_map chunk chunks) (chunk octets)
    ∙ ap (λ l. old ++ (flat_map chunk chunks ++ l)) (sym (append-nil (chunk octets)))
    ∙ ap (λ l. old ++ l) (sym (flat_map-append chunk chunks (octets ∷ [])))

message_push : (body : List ℕ) (chunks : List (List ℕ)) (octets more rest : List ℕ) → body ≡ concat chunks ++ rest → rest ≡ octets ++ more → body ≡ concat (chunks ++ octets ∷ []) ++ more
message_push body chunks octets more rest e f =
    e ∙ ap (λ l. concat chunks ++ l) f
    ∙ sym (append_assoc (concat chunks) octets more)
    ∙ ap (λ l. (concat chunks ++ l) ++ more) (sym (append-nil octets))
    ∙ ap (λ l. l ++ more) (sym (concat-append chunks (octets ∷ [])))

pub Cutting-more : (size : ℕ) (old now new body rest : List ℕ) → Cutting size old now body rest → size < length rest → new ≡ now ++ chunk (take size rest) → Cutting size old new body (drop size rest)
Cutting-more size old now new body rest c many e = record {
  chunks = c.chunks ++ take size rest ∷ [];
  full = full-push size c.chunks (take size rest) c.full (length-take-le size rest (omega arith));
  body_is = message_push body c.chunks (take size rest) (drop size rest) rest c.body_is (sym (take-append-drop size rest));
  some = omega (arith, length-drop size rest);
  now_is = e ∙ written_push old now c.chunks (take size rest) c.now_is;
}

cut-last : (size : ℕ) (chunks : List (List ℕ)) (last : List ℕ) → AllByRecursion (IsFull size) chunks → 0 < length last → length last ≤ size → IsCut size (chunks ++ last ∷ [])
cut-last size [] last full some few = (some, few)
cut-last size (c ∷ []) last full some few = (full.0, (some, few))
cut-last size (c ∷ d ∷ cs) last full some few = (full.0, cut-last size (d ∷ cs) last full.1 some few)

pub Cutting-end : (size : ℕ) (old now new end body rest : List ℕ) → Cutting size old now body rest → length rest ≤ size → new ≡ now ++ chunk rest → end ≡ new ++ end_of_chunks → AppendsChunks size old end body
Cutting-end size old now new end body rest c few e f = record {
  chunks = c.chunks ++ rest ∷ [];
  cut = cut-last size c.chunks rest c.full c.some few;
  message_is = sym (message_push body c.chunks rest [] rest c.body_is (sym (append-nil rest)) ∙ append-nil (concat (c.chunks ++ rest ∷ [])));
  new_is =
      f ∙ ap (λ l. l ++ end_of_chunks) (e ∙ written_push old now c.chunks rest c.now_is)
      ∙ append_assoc old (flat_map chunk (c.chunks ++ rest ∷ [])) end_of_chunks;
}
