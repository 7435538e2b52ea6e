-- Of two messages at the front of one list both are one.
use Rattle.std.proofs.Common.{◌≡◌, ◌≢◌, ◌⊎◌, inl, inr, ℕ, ◌+◌, ◌%◌, ◌^◌, ◌<◌, ◌≤◌, List, [], ◌∷◌, ◌++◌, length, refl, ap, sym, ◌∙◌, arith}
use Rattle.std.specs.List.{flat_map, AllByRecursion}
use Rattle.std.specs.Fmt.{decimal}
use Rattle.std.specs.Str.Parse.{digits_value}
use Rattle.std.proofs.lemmas.List.{append_assoc, append-nil, length-append, append_cancel_left, append_cancel_right}
use Rattle.std.proofs.lemmas.Fmt.{decimal_by_steps, decimal_is_IsNumeral}
use Rattle.nc_frames.specs.Framing.{mark, IsMarked, with_mark, chunk, end_of_chunks, in_chunks, IsChunk, AreChunks, IsPartialChunks}

-- of two beginnings of one list one begins the other
abbrev pub IsLonger : (a b x y : List ℕ) → Type 0
IsLonger a b x y = (z : List ℕ) × (b ≡ a ++ z) × (x ≡ z ++ y)

pub splits : (a b x y : List ℕ) → a ++ x ≡ b ++ y → IsLonger a b x y ⊎ IsLonger b a y x
splits [] b x y e = inl (b, refl, e)
splits (p ∷ a) [] x y e = inr (p ∷ a, refl, sym e)
splits (p ∷ a) (q ∷ b) x y e =
    let head : p ≡ q = cc in
    let tails : a ++ x ≡ b ++ y = cc in
    elim (splits a b x y tails) [
      | inl w ↦ inl (w.0, (let f : q ∷ b ≡ p ∷ (a ++ w.0) = (let g = w.1 in cc) in f), w.2)
      | inr w ↦ inr (w.0, (let f : p ∷ a ≡ q ∷ (b ++ w.0) = (let g = w.1 in cc) in f), w.2)
    ]

-- a marked message that another begins is that one
same_marked : (m n z : List ℕ) → IsMarked n → with_mark n ≡ with_mark m ++ z → (m ≡ n) × (z ≡ [])
same_marked m n z marked e =
    let none : z ≡ [] = marked m z (e ∙ append_assoc m mark z) in
    (sym (append_cancel_right n m mark (e ∙ ap (λ l. with_mark m ++ l) none ∙ append-nil (with_mark m))), none)

pub one_marked : (m n x y : List ℕ) → IsMarked m → IsMarked n → with_mark m ++ x ≡ with_mark n ++ y → (m ≡ n) × (x ≡ y)
one_marked m n x y p q e = elim (splits (with_mark m) (with_mark n) x y e) [
  | inl w ↦ (let s = same_marked m n w.0 q w.1 in (s.0, w.2 ∙ ap (λ l. l ++ y) s.1))
  | inr w ↦ (let s = same_marked n m w.0 p w.1 in (sym s.0, sym (w.2 ∙ ap (λ l. l ++ x) s.1)))
]

-- no byte of a decimal is below `0`
abbrev AreDigits : List ℕ → Type 0
AreDigits ds = AllByRecursion (λ d. 48 ≤ d) ds

AreDigits-push : (ds : List ℕ) (d : ℕ) → AreDigits ds → 48 ≤ d → AreDigits (ds ++ d ∷ [])
AreDigits-push [] d p q = (q, tt)
AreDigits-push (x ∷ ds) d p q = (p.0, AreDigits-push ds d p.1 q)

decimal_digits : (n : ℕ) → n < 2 ^ 64 → AreDigits (decimal n) × (0 < length (decimal n))
decimal_digits n fits = decimal_by_steps
    (λ k ds. AreDigits ds × (0 < length ds))
    (λ k small. ((omega arith, tt), omega arith))
    (λ k ds many before. (AreDigits-push ds (48 + k % 10) before.0 (omega arith), omega (arith, length-append ds ((48 + k % 10) ∷ []))))
    n fits

-- digits up to a LF
digits_end : (ds es u v : List ℕ) → AreDigits ds → AreDigits es → ds ++ 10 ∷ u ≡ es ++ 10 ∷ v → (ds ≡ es) × (u ≡ v)
digits_end [] [] u v p q e = (refl, (let f : 10 ∷ u ≡ 10 ∷ v = e in cc))
digits_end [] (x ∷ es) u v p q e = absurd (let head : 10 ≡ x = cc in omega (arith, q.0))
digits_end (x ∷ ds) [] u v p q e = absurd (let head : x ≡ 10 = cc in omega (arith, p.0))
digits_end (x ∷ ds) (y ∷ es) u v p q e =
    let head : x ≡ y = cc in
    let tails : ds ++ 10 ∷ u ≡ es ++ 10 ∷ v = cc in
    let w = digits_end ds es u v p.1 q.1 tails in
    (ap (λ a. a ∷ ds) head ∙ ap (λ l. y ∷ l) w.0, w.1)

same_decimal : (m n : ℕ) → m < 2 ^ 64 → n < 2 ^ 64 → decimal m ≡ decimal n → m ≡ n
same_decimal m n p q e = sym (decimal_is_IsNumeral m p).1 ∙ ap (digits_value 10) e ∙ (decimal_is_IsNumeral n q).1

-- two lists of one length
same_front : (c d u v : List ℕ) → length c ≡ length d → c ++ u ≡ d ++ v → (c ≡ d) × (u ≡ v)
same_front [] [] u v len e = (refl, e)
same_front [] (y ∷ d) u v len e = absurd (omega (arith, len))
same_front (x ∷ c) [] u v len e = absurd (omega (arith, len))
same_front (x ∷ c) (y ∷ d) u v len e =
    let head : x ≡ y = cc in
    let tails : c ++ u ≡ d ++ v = cc in
    let w = same_front c d u v (omega (arith, len)) tails in
    (ap (λ a. a ∷ c) head ∙ ap (λ l. y ∷ l) w.0, w.1)

-- what stands after LF # of a chunk
chunk_text : (c u : List ℕ) → chunk c ++ u ≡ 10 ∷ 35 ∷ (decimal (length c) ++ 10 ∷ (c ++ u))
chunk_text c u = append_assoc (10 ∷ 35 ∷ decimal (length c)) (10 ∷ c) u

one_chunk : (c d u v : List ℕ) → IsChunk c → IsChunk d → chunk c ++ u ≡ chunk d ++ v → (c ≡ d) × (u ≡ v)
one_chunk c d u v p q e =
    let texts : 10 ∷ 35 ∷ (decimal (length c) ++ 10 ∷ (c ++ u)) ≡ 10 ∷ 35 ∷ (decimal (length d) ++ 10 ∷ (d ++ v)) = sym (chunk_text c u) ∙ e ∙ chunk_text d v in
    let inner : decimal (length c) ++ 10 ∷ (c ++ u) ≡ decimal (length d) ++ 10 ∷ (d ++ v) = cc in
    let fc : length c < 2 ^ 64 = omega (arith, p.1) in
    let fd : length d < 2 ^ 64 = omega (arith, q.1) in
    let w = digits_end (decimal (length c)) (decimal (length d)) (c ++ u) (d ++ v) (decimal_digits (length c) fc).0 (decimal_digits (length d) fd).0 inner in
    same_front c d u v (same_decimal (length c) (length d) fc fd w.0) w.1

-- no chunk begins as the end of the chunks does
digits_not_hash : (ds u v : List ℕ) → AreDigits ds → 0 < length ds → ds ++ u ≢ 35 ∷ v
digits_not_hash [] u v p some = λ e. omega (arith, some)
digits_not_hash (x ∷ ds) u v p some = λ e. (let head : x ≡ 35 = cc in omega (arith, p.0))

chunk_not_end : (c u v : List ℕ) → IsChunk c → chunk c ++ u ≢ end_of_chunks ++ v
chunk_not_end c u v p = λ e.
    let texts : 10 ∷ 35 ∷ (decimal (length c) ++ 10 ∷ (c ++ u)) ≡ 10 ∷ 35 ∷ 35 ∷ 10 ∷ v = sym (chunk_text c u) ∙ e in
    let inner : decimal (length c) ++ 10 ∷ (c ++ u) ≡ 35 ∷ 10 ∷ v = cc in
    let d = decimal_digits (length c) (omega (arith, p.1)) in
    digits_not_hash (decimal (length c)) (10 ∷ (c ++ u)) (10 ∷ v) d.0 d.1 inner

in_chunks_cons : (c : List ℕ) (cs : List (List ℕ)) (u : List ℕ) → in_chunks (c ∷ cs) ++ u ≡ chunk c ++ (in_chunks cs ++ u)
in_chunks_cons c cs u = ap (λ l. l ++ u) (append_assoc (chunk c) (flat_map chunk cs) end_of_chunks) ∙ append_assoc (chunk c) (in_chunks cs) u

pub one_in_chunks : (cs ds : List (List ℕ)) (x y : List ℕ) → AllByRecursion IsChunk cs → AllByRecursion IsChunk ds → in_chunks cs ++ x ≡ in_chunks ds ++ y → (cs ≡ ds) × (x ≡ y)
one_in_chunks [] [] x y p q e = (refl, append_cancel_left end_of_chunks x y e)
one_in_chunks [] (d ∷ ds) x y p q e =
    absurd (chunk_not_end d (in_chunks ds ++ y) x q.0 (sym (in_chunks_cons d ds y) ∙ sym e))
one_in_chunks (c ∷ cs) [] x y p q e =
    absurd (chunk_not_end c (in_chunks cs ++ x) y p.0 (sym (in_chunks_cons c cs x) ∙ e))
one_in_chunks (c ∷ cs) (d ∷ ds) x y p q e =
    let heads = one_chunk c d (in_chunks cs ++ x) (in_chunks ds ++ y) p.0 q.0 (sym (in_chunks_cons c cs x) ∙ e ∙ in_chunks_cons d ds y) in
    let tails = one_in_chunks cs ds x y p.1 q.1 heads.1 in
    (ap (λ a. a ∷ cs) heads.0 ∙ ap (λ l. d ∷ l) tails.0, tails.1)

nil_right : (xs ys : List ℕ) → xs ++ ys ≡ [] → ys ≡ []
nil_right [] ys e = e
nil_right (x ∷ xs) ys e = cc

-- a proper beginning of a message has no whole message in front
pub partial_has_none : (cs : List (List ℕ)) (rest more : List ℕ) → AreChunks cs → IsPartialChunks rest → rest ≢ in_chunks cs ++ more
partial_has_none cs rest more each part = λ e.
    let w = one_in_chunks part.chunks cs [] (more ++ part.more) part.each.1 each.1 (append-nil (in_chunks part.chunks) ∙ part.whole ∙ ap (λ l. l ++ part.more) e ∙ append_assoc (in_chunks cs) more part.more) in
    part.some (nil_right more part.more (sym w.1))
