-- Where the mark stands.
use Rattle.std.proofs.Common.{◌≡◌, ◌≢◌, ◌⊎◌, inl, inr, ℕ, ◌+◌, ◌<◌, suc, List, [], ◌∷◌, ◌++◌, length, get_or, take, drop, ◌-◌, ◌≤◌, refl, ap, sym, ◌∙◌, subst, arith}
use Rattle.std.proofs.lemmas.List.{append_assoc, append-nil, same_from_push, take_more, length-take-le, length-drop, get_or-take}
use Rattle.nc_frames.specs.Framing.{mark, HasNoMark}
use Rattle.nc_frames.specs.inner.Marks.{EndsInMark, IsStretch}

-- a list has nothing, or a last element
pub last_of : (xs : List ℕ) → (xs ≡ []) ⊎ ((front : List ℕ) × (last : ℕ) × (xs ≡ front ++ last ∷ []))
last_of [] = inl refl
last_of (x ∷ xs) = elim (last_of xs) [ inl e ↦ inr ([], x, ap (λ l. x ∷ l) e) | inr p ↦ inr (x ∷ p.0, p.1, ap (λ l. x ∷ l) p.2) ]

-- where a mark stands, with something after it, it stands in what is before the last byte too
before_last : (t : List ℕ) (b : ℕ) (before front : List ℕ) (last : ℕ) → t ++ b ∷ [] ≡ before ++ (mark ++ (front ++ last ∷ [])) → t ≡ before ++ (mark ++ front)
before_last t b before front last e = (same_from_push t (before ++ (mark ++ front)) b last (e ∙ sym (append_assoc before (mark ++ front) (last ∷ [])))).0

pub HasNoMark-push : (t : List ℕ) (b : ℕ) → HasNoMark t → ((before : List ℕ) → t ++ b ∷ [] ≢ before ++ mark) → HasNoMark (t ++ b ∷ [])
HasNoMark-push t b none no_end = λ before after e. elim (last_of after) [
  | inl nil ↦ no_end before (e ∙ ap (λ a. before ++ (mark ++ a)) nil)
  | inr p ↦ none before p.0 (before_last t b before p.0 p.1 (e ∙ ap (λ a. before ++ (mark ++ a)) p.2))
]

-- a mark ends in `>`
last_of_mark : (t before : List ℕ) (b : ℕ) → t ++ b ∷ [] ≡ before ++ mark → b ≡ 62
last_of_mark t before b e = (same_from_push t (before ++ (93 ∷ 93 ∷ 62 ∷ 93 ∷ 93 ∷ [])) b 62 (e ∙ sym (append_assoc before (93 ∷ 93 ∷ 62 ∷ 93 ∷ 93 ∷ []) (62 ∷ [])))).1

pub HasNoMark-more : (more t : List ℕ) → HasNoMark t → ((k : ℕ) → k < length more → get_or more k 0 ≢ 62) → HasNoMark (t ++ more)
HasNoMark-more [] t none other = subst HasNoMark (sym (append-nil t)) none
HasNoMark-more (b ∷ bs) t none other =
    let pushed : HasNoMark (t ++ b ∷ []) = HasNoMark-push t b none (λ before e. other 0 (omega arith) (last_of_mark t before b e)) in
    subst HasNoMark (append_assoc t (b ∷ []) bs) (HasNoMark-more bs (t ++ b ∷ []) pushed (λ k h. other (suc k) (omega arith)))

regrouped : (old new front : List ℕ) (last : ℕ) → new ≡ old ++ (front ++ last ∷ []) → (old ++ front) ++ last ∷ [] ≡ new
regrouped old new front last e = append_assoc old front (last ∷ []) ∙ sym e

-- a stretch after which no mark ends holds none
pub HasNoMark-stretch : (old new : List ℕ) → HasNoMark old → IsStretch old new → ((before : List ℕ) → new ≢ before ++ mark) → HasNoMark new
HasNoMark-stretch old new none s no_end =
    let e = regrouped old new s.front s.last s.new_is in
    subst HasNoMark e (HasNoMark-push (old ++ s.front) s.last (HasNoMark-more s.front old none s.none) (λ before h. no_end before (sym e ∙ h)))

-- the first mark that ends after a stretch
pub EndsInMark-stretch : (old new before : List ℕ) → HasNoMark old → IsStretch old new → new ≡ before ++ mark → EndsInMark new
EndsInMark-stretch old new before none s ends =
    let e = regrouped old new s.front s.last s.new_is in
    record {
      message = before;
      bytes_are = ends;
      marked = λ earlier after h. elim (last_of after) [
        | inl nil ↦ nil
        | inr p ↦ absurd (HasNoMark-more s.front old none s.none earlier p.0 (before_last (old ++ s.front) s.last earlier p.0 p.1 (e ∙ ends ∙ h ∙ ap (λ a. earlier ++ (mark ++ a)) p.2)))
      ];
    }

-- the bytes up to and with the first `>`
pub IsStretch-take : (old new rest : List ℕ) (count : ℕ) → 0 < count → count ≤ length rest → ((k : ℕ) → k + 1 < count → get_or rest k 0 ≢ 62) → new ≡ old ++ take count rest → IsStretch old new
IsStretch-take old new rest count some within other e =
    let n : ℕ = count - 1 in
    let is : n + 1 ≡ count = omega arith in
    let whole : take count rest ≡ take n rest ++ get_or rest n 0 ∷ [] = ap (λ k. take k rest) (sym is) ∙ take_more rest n 0 (omega arith) in
    record {
      front = take n rest;
      last = get_or rest n 0;
      new_is = e ∙ ap (λ l. old ++ l) whole;
      none = λ k h.
          let len : length (take n rest) ≡ n = length-take-le n rest (omega arith) in
          let below : k < n = omega arith in
          λ is_mark. other k (omega arith) (sym (get_or-take n rest k 0 below) ∙ is_mark);
    }

-- fewer bytes wait
pub drop_is_shorter : (xs ys : List ℕ) (count : ℕ) → ys ≡ drop count xs → 0 < count → 0 < length xs → length ys < length xs
drop_is_shorter xs ys count e some any = omega (arith, ap length e, length-drop count xs)
