-- A reply in chunks, and texts that are written one after another.
use Rattle.std.proofs.Common.{◌≡◌, ◌⊎◌, inl, inr, ℕ, zero, suc, ◌<◌, ◌≤◌, nat_le, true, false, List, [], ◌∷◌, ◌++◌, length, take, drop, refl, ap, sym, subst, ◌∙◌, arith, append_assoc, append-nil, length-append, length-drop, Option, Result, Ok, Err}
use Rattle.std.specs.List.{flat_map, concat}
use Rattle.std.specs.Io.KnownBytes.{append_known}
use Rattle.std.proofs.lemmas.Bool.Decides.{leb_tells}
use Rattle.std.proofs.Math.Seq.{take-append_seam, drop-append_seam}
use Rattle.nc_names.specs.Signs.{line_feed}
use Rattle.nc_frames.specs.Framing.{announced, chunk, end_of_chunks, in_chunks}
use Rattle.nc_frames.specs.Writing.{IsCut, AppendsChunks}
use Rattle.nc_outside.proofs.Known.{append_twice, took_front, took_more}
use Rattle.nc_session.specs.declared.end.SessionEnd.{SessionEnd}
use Rattle.nc_session.specs.declared.end.SessionEnd.TheVariants.{Closed, InputEnded, BadHello, BadFrame, TooBig, Malformed, Killed, ReadFault, WriteFault, Full, Spent, Memory}
use Rattle.nc_message.specs.declared.tree.Tree.{Tree}
use Rattle.nc_message.specs.Written.{written}
use Rattle.nc_session.specs.declared.base.Base.{Base}
use Rattle.nc_session.specs.declared.base.Base.TheVariants.{Base11}
use Rattle.nc_session.specs.Replies.{cut_in, cut, framed, reply_text}
use Rattle.nc_session.specs.inner.Turns.{Writes}

-- a body that is not long is one piece
pub cut_short : (most size : ℕ) (body : List ℕ) → length body ≤ size → cut_in most size body ≡ body ∷ []
cut_short zero size body short = refl
cut_short (suc most) size body short = by (leb_tells (length body) size)
  where
    by : ((nat_le (length body) size ≡ true) × (length body ≤ size)) ⊎ ((nat_le (length body) size ≡ false) × (size < length body)) → cut_in (suc most) size body ≡ body ∷ []
    by (inl p) = rw p.0 refl
    by (inr p) = absurd (omega (arith, p.1, short))

-- a longer one begins with a full piece
pub cut_long : (most size : ℕ) (body : List ℕ) → size < length body → cut_in (suc most) size body ≡ take size body ∷ cut_in most size (drop size body)
cut_long most size body long = by (leb_tells (length body) size)
  where
    by : ((nat_le (length body) size ≡ true) × (length body ≤ size)) ⊎ ((nat_le (length body) size ≡ false) × (size < length body))
        → cut_in (suc most) size body ≡ take size body ∷ cut_in most size (drop size body)
    by (inl p) = absurd (omega (arith, p.1, long))
    by (inr p) = rw p.0 refl

some_octets : (size : ℕ) (chunks : List (List ℕ)) → 0 < size → IsCut size chunks → 0 < length (concat chunks)
some_octets size [] pos cut = absurd cut
some_octets size (last ∷ []) pos cut = omega (arith, length-append last [], cut.0)
some_octets size (octets ∷ next ∷ more) pos cut = omega (arith, length-append octets (concat (next ∷ more)), cut.0, pos)

-- chunks that are cut so are those of the body
pub cut_is : (most size : ℕ) (chunks : List (List ℕ)) → 0 < size → IsCut size chunks → length (concat chunks) ≤ most → cut_in most size (concat chunks) ≡ chunks
cut_is most size [] pos cut few = absurd cut
cut_is most size (last ∷ []) pos cut few =
    cut_short most size (last ++ []) (omega (arith, length-append last [], cut.1)) ∙ ap (λ x. x ∷ []) (append-nil last)
cut_is zero size (octets ∷ next ∷ more) pos cut few = absurd (omega (arith, length-append octets (concat (next ∷ more)), cut.0, pos, few))
cut_is (suc most) size (octets ∷ next ∷ more) pos cut few =
    let rest : List ℕ = concat (next ∷ more) in
    let some : 0 < length rest = some_octets size (next ∷ more) pos cut.1 in
    let front : take size (octets ++ rest) ≡ octets = ap (λ n. take n (octets ++ rest)) (sym cut.0) ∙ take-append_seam octets rest in
    let back : drop size (octets ++ rest) ≡ rest = ap (λ n. drop n (octets ++ rest)) (sym cut.0) ∙ drop-append_seam octets rest in
    cut_long most size (octets ++ rest) (omega (arith, length-append octets rest, cut.0, some))
    ∙ ap (λ x. x ∷ cut_in most size (drop size (octets ++ rest))) front
    ∙ ap (λ x. octets ∷ cut_in most size x) back
    ∙ ap (λ x. octets ∷ x) (cut_is most size (next ∷ more) pos cut.1 (omega (arith, length-append octets rest, cut.0, pos, few)))

-- what is appended in chunks
pub appended : (size : ℕ) (old new body : List ℕ) → 0 < size → AppendsChunks size old new body → new ≡ old ++ in_chunks (cut size body)
appended size old new body pos a =
    let same : cut size (concat a.chunks) ≡ a.chunks = cut_is (length (concat a.chunks)) size a.chunks pos a.cut (omega arith) in
    let P : List ℕ → Type 0 = λ b. new ≡ old ++ in_chunks (cut size b) in
    subst P a.message_is (a.new_is ∙ ap (λ c. old ++ in_chunks c) (sym same))

-- texts one after another
pub writes_then : (xs ys : List ℕ) (before middle now : Option (List ℕ)) (f0 f1 f2 : ℕ) (result : Result (Unit {0}) SessionEnd)
    → middle ≡ append_known before xs → f1 ≡ f0 → Writes ys middle now f1 f2 result → Writes (xs ++ ys) before now f0 f2 result
writes_then xs ys before middle now f0 f1 f2 (Ok u) first same w =
    (w.0 ∙ ap (λ k. append_known k ys) first ∙ append_twice before xs ys, w.1 ∙ same)
writes_then xs ys before middle now f0 f1 f2 (Err WriteFault) first same w =
    let P : ℕ → Type 0 = λ n. Writes (xs ++ ys) before now n f2 (Err WriteFault) in
    subst P same (took_more xs first w.0, w.1)
writes_then xs ys before middle now f0 f1 f2 (Err Memory) first same w = (took_more xs first w.0, w.1 ∙ same)
writes_then xs ys before middle now f0 f1 f2 (Err Closed) first same w = absurd w
writes_then xs ys before middle now f0 f1 f2 (Err InputEnded) first same w = absurd w
writes_then xs ys before middle now f0 f1 f2 (Err (BadHello why)) first same w = absurd w
writes_then xs ys before middle now f0 f1 f2 (Err (BadFrame at)) first same w = absurd w
writes_then xs ys before middle now f0 f1 f2 (Err (Malformed at why)) first same w = absurd w
writes_then xs ys before middle now f0 f1 f2 (Err (TooBig at)) first same w = absurd w
writes_then xs ys before middle now f0 f1 f2 (Err Killed) first same w = absurd w
writes_then xs ys before middle now f0 f1 f2 (Err ReadFault) first same w = absurd w
writes_then xs ys before middle now f0 f1 f2 (Err (Full live last)) first same w = absurd w
writes_then xs ys before middle now f0 f1 f2 (Err (Spent ticket)) first same w = absurd w

-- a beginning of a longer text was written
pub writes_front : (xs ys : List ℕ) (before now : Option (List ℕ)) (f0 f2 : ℕ) (end : SessionEnd) → Writes xs before now f0 f2 (Err end) → Writes (xs ++ ys) before now f0 f2 (Err end)
writes_front xs ys before now f0 f2 WriteFault w = (took_front ys w.0, w.1)
writes_front xs ys before now f0 f2 Memory w = (took_front ys w.0, w.1)
writes_front xs ys before now f0 f2 Closed w = absurd w
writes_front xs ys before now f0 f2 InputEnded w = absurd w
writes_front xs ys before now f0 f2 (BadHello why) w = absurd w
writes_front xs ys before now f0 f2 (BadFrame at) w = absurd w
writes_front xs ys before now f0 f2 (Malformed at why) w = absurd w
writes_front xs ys before now f0 f2 (TooBig at) w = absurd w
writes_front xs ys before now f0 f2 Killed w = absurd w
writes_front xs ys before now f0 f2 ReadFault w = absurd w
writes_front xs ys before now f0 f2 (Full live last) w = absurd w
writes_front xs ys before now f0 f2 (Spent ticket) w = absurd w

-- Some chunks are written; these bytes of the body are left.
pub record Sending (size : ℕ) (body rest : List ℕ) (before now : Option (List ℕ)) (f0 f1 : ℕ) : Type 0 where
  pub most : ℕ
  pub done : List ℕ
  pub enough : length rest ≤ most
  pub text : in_chunks (cut size body) ≡ done ++ in_chunks (cut_in most size rest)
  pub taken : now ≡ append_known before done
  pub same : f1 ≡ f0

in_chunks_more : (octets : List ℕ) (chunks : List (List ℕ)) → in_chunks (octets ∷ chunks) ≡ chunk octets ++ in_chunks chunks
in_chunks_more octets chunks = append_assoc (chunk octets) (flat_map chunk chunks) end_of_chunks

pub sending_none : (size : ℕ) (body : List ℕ) (before : Option (List ℕ)) (f0 : ℕ) → before ≡ append_known before [] → Sending size body body before before f0 f0
sending_none size body before f0 nothing = record { most = length body; done = []; enough = omega arith; text = refl; taken = nothing; same = refl }

module _ (size : ℕ) (body rest : List ℕ) (before middle : Option (List ℕ)) (f0 f1 : ℕ) (s : Sending size body rest before middle f0 f1) where
  -- a full chunk more
  long_text : (most : ℕ) → s.most ≡ suc most → size < length rest → in_chunks (cut size body) ≡ s.done ++ (chunk (take size rest) ++ in_chunks (cut_in most size (drop size rest)))
  long_text most is long =
      s.text ∙ ap (λ n. s.done ++ in_chunks (cut_in n size rest)) is ∙ ap (λ c. s.done ++ in_chunks c) (cut_long most size rest long)
      ∙ ap (λ x. s.done ++ x) (in_chunks_more (take size rest) (cut_in most size (drop size rest)))

  pub sending_more : (now : Option (List ℕ)) (f2 : ℕ) → 0 < size → size < length rest → now ≡ append_known middle (chunk (take size rest)) → f2 ≡ f1
      → Sending size body (drop size rest) before now f0 f2
  sending_more now f2 pos long taken same = by s.most refl
    where
      by : (n : ℕ) → s.most ≡ n → Sending size body (drop size rest) before now f0 f2
      by zero is = absurd (omega (arith, is, s.enough, long))
      by (suc most) is = record {
        most = most;
        done = s.done ++ chunk (take size rest);
        enough = omega (arith, is, s.enough, long, pos, length-drop size rest);
        text = long_text most is long ∙ sym (append_assoc s.done (chunk (take size rest)) (in_chunks (cut_in most size (drop size rest))));
        taken = taken ∙ ap (λ k. append_known k (chunk (take size rest))) s.taken ∙ append_twice before s.done (chunk (take size rest));
        same = same ∙ s.same;
      }

  -- a full chunk is not written whole
  pub sending_failed : (now : Option (List ℕ)) (f2 : ℕ) (end : SessionEnd) → size < length rest → Writes (chunk (take size rest)) middle now f1 f2 (Err end)
      → Writes (in_chunks (cut size body)) before now f0 f2 (Err end)
  sending_failed now f2 end long w = by s.most refl
    where
      by : (n : ℕ) → s.most ≡ n → Writes (in_chunks (cut size body)) before now f0 f2 (Err end)
      by zero is = absurd (omega (arith, is, s.enough, long))
      by (suc most) is =
          let P : List ℕ → Type 0 = λ t. Writes t before now f0 f2 (Err end) in
          subst P (sym (long_text most is long))
          (writes_then s.done (chunk (take size rest) ++ in_chunks (cut_in most size (drop size rest))) before middle now f0 f1 f2 (Err end) s.taken s.same
          (writes_front (chunk (take size rest)) (in_chunks (cut_in most size (drop size rest))) middle now f1 f2 end w))

  last_text : length rest ≤ size → in_chunks (cut size body) ≡ s.done ++ (chunk rest ++ end_of_chunks)
  last_text short =
      s.text ∙ ap (λ c. s.done ++ in_chunks c) (cut_short s.most size rest short)
      ∙ ap (λ x. s.done ++ x) (in_chunks_more rest [])

  -- the last chunk and the end
  pub sending_last : (next now : Option (List ℕ)) (f2 f3 : ℕ) (result : Result (Unit {0}) SessionEnd) → length rest ≤ size
      → next ≡ append_known middle (chunk rest) → f2 ≡ f1 → Writes end_of_chunks next now f2 f3 result
      → Writes (in_chunks (cut size body)) before now f0 f3 result
  sending_last next now f2 f3 result short taken same w =
      let P : List ℕ → Type 0 = λ t. Writes t before now f0 f3 result in
      subst P (sym (last_text short))
      (writes_then s.done (chunk rest ++ end_of_chunks) before middle now f0 f1 f3 result s.taken s.same
      (writes_then (chunk rest) end_of_chunks middle next now f1 f2 f3 result taken same w))

  pub sending_last_failed : (now : Option (List ℕ)) (f2 : ℕ) (end : SessionEnd) → length rest ≤ size → Writes (chunk rest) middle now f1 f2 (Err end)
      → Writes (in_chunks (cut size body)) before now f0 f2 (Err end)
  sending_last_failed now f2 end short w =
      let P : List ℕ → Type 0 = λ t. Writes t before now f0 f2 (Err end) in
      subst P (sym (last_text short))
      (writes_then s.done (chunk rest ++ end_of_chunks) before middle now f0 f1 f2 (Err end) s.taken s.same
      (writes_front (chunk rest) end_of_chunks middle now f1 f2 end w))

-- a chunk is its header and its octets
chunk_is : (octets header : List ℕ) → header ≡ announced (length octets) ++ line_feed ∷ [] → header ++ octets ≡ chunk octets
chunk_is octets header is = ap (λ h. h ++ octets) is ∙ append_assoc (announced (length octets)) (line_feed ∷ []) octets

pub chunk_front : (octets header : List ℕ) (before now : Option (List ℕ)) (f0 f1 : ℕ) (end : SessionEnd) → header ≡ announced (length octets) ++ line_feed ∷ []
    → Writes header before now f0 f1 (Err end) → Writes (chunk octets) before now f0 f1 (Err end)
chunk_front octets header before now f0 f1 end is w =
    let P : List ℕ → Type 0 = λ t. Writes t before now f0 f1 (Err end) in
    subst P (chunk_is octets header is) (writes_front header octets before now f0 f1 end w)

pub chunk_whole : (octets header : List ℕ) (before middle now : Option (List ℕ)) (f0 f1 f2 : ℕ) (result : Result (Unit {0}) SessionEnd) → header ≡ announced (length octets) ++ line_feed ∷ []
    → Writes header before middle f0 f1 (Ok tt) → Writes octets middle now f1 f2 result → Writes (chunk octets) before now f0 f2 result
chunk_whole octets header before middle now f0 f1 f2 result is first w =
    let P : List ℕ → Type 0 = λ t. Writes t before now f0 f2 result in
    subst P (chunk_is octets header is) (writes_then header octets before middle now f0 f1 f2 result first.0 first.1 w)

-- a reply in chunks
pub framed_in_chunks : (base : Base) (text : List ℕ) (reply : Tree) → base ≡ Base11 → text ≡ written reply → framed Base11 text ≡ reply_text base reply
framed_in_chunks base text reply is same = ap (framed Base11) same ∙ ap (λ b. framed b (written reply)) (sym is)
