-- How far a text is one of some words, and that no text which goes on otherwise there begins with one.
use Rattle.std.proofs.Common.{◌≡◌, ◌⊎◌, inl, inr, ℕ, suc, ◌<◌, ◌≤◌, ◌-◌, Bool, true, false, cond, eqb, ltb, List, [], ◌∷◌, ◌++◌, length, take, drop, max, refl, sym, ap, ◌∙◌, append_assoc, arith, ltb-true, ltb-false, take-append-drop, length-drop}
use Rattle.std.proofs.lemmas.List.{length-take-le}
use Rattle.std.proofs.lemmas.Bool.Decides.{Decides-eqb}
use Rattle.nc_path_places.specs.inner.Candidates.{common}

pub common_most : (xs ys : List ℕ) → common xs ys ≤ length xs
common_most [] ys = omega arith
common_most (x ∷ xs) [] = omega arith
common_most (x ∷ xs) (y ∷ ys) = by (eqb x y) (common_most xs ys)
  where
    by : (b : Bool) → common xs ys ≤ length xs → cond b (suc (common xs ys)) 0 ≤ length (x ∷ xs)
    by true h = omega (arith, h)
    by false h = omega arith

common_take : (xs ys : List ℕ) → take (common xs ys) xs ≡ take (common xs ys) ys
common_take [] [] = refl
common_take [] (y ∷ ys) = refl
common_take (x ∷ xs) [] = refl
common_take (x ∷ xs) (y ∷ ys) = by (eqb x y) refl (common_take xs ys)
  where
    by : (b : Bool) → eqb x y ≡ b → take (common xs ys) xs ≡ take (common xs ys) ys → take (cond b (suc (common xs ys)) 0) (x ∷ xs) ≡ take (cond b (suc (common xs ys)) 0) (y ∷ ys)
    by true same h = let head : x ≡ y = (Decides-eqb x y).0 same in λ i. head i ∷ h i
    by false same h = refl

-- both begin so
common_least : (front : List ℕ) (c : ℕ) (xs ys : List ℕ) → length front < common (front ++ c ∷ xs) (front ++ c ∷ ys)
common_least [] c xs ys = rw ((Decides-eqb c c).1 refl) (omega arith)
common_least (d ∷ front) c xs ys = rw ((Decides-eqb d d).1 refl) (let further = common_least front c xs ys in omega (arith, further))

pub max_is : (a b : ℕ) → (max a b ≡ a) ⊎ (max a b ≡ b)
max_is a b = by (ltb a b) refl
  where
    by : (t : Bool) → ltb a b ≡ t → (max a b ≡ a) ⊎ (max a b ≡ b)
    by true e = let less = ltb-true a b e in inr (omega (arith, less))
    by false e = let more = ltb-false a b e in inl (omega (arith, more))

-- where two texts begin alike, one goes on as the other does up to a sign, or it ends before
abbrev Meets : List ℕ → ℕ → List ℕ → List ℕ → List ℕ → Type 0
Meets front c next u rest =
    ((more : List ℕ) × (u ≡ front ++ c ∷ more)) ⊎ ((less : List ℕ) × (front ≡ u ++ less) × (rest ≡ less ++ c ∷ next))

meets : (front : List ℕ) (c : ℕ) (next u rest : List ℕ) → front ++ c ∷ next ≡ u ++ rest → Meets front c next u rest
meets [] c next [] rest e = inr ([], refl, sym e)
meets [] c next (d ∷ u) rest e = let same : c ≡ d = cc in inl (u, λ i. sym same i ∷ u)
meets (d ∷ front) c next [] rest e = inr (d ∷ front, refl, sym e)
meets (d ∷ front) c next (b ∷ u) rest e = by (meets front c next u rest cc)
  where
    same : d ≡ b
    same = cc

    by : Meets front c next u rest → Meets (d ∷ front) c next (b ∷ u) rest
    by (inl more) = inl (more.0, λ i. sym same i ∷ more.1 i)
    by (inr less) = inr (less.0, (λ i. same i ∷ less.1 i), less.2)

-- a text stops there to be one of the words: what goes on otherwise begins with a word only if the text does
pub record StopsWord (Word : List ℕ → Type 0) (text : List ℕ) (left : ℕ) : Type 0 where
  pub front : List ℕ
  pub rest : List ℕ
  pub is : text ≡ front ++ rest
  pub long : length rest ≡ left
  pub begun : (front ≡ []) ⊎ ((u : List ℕ) × (more : List ℕ) × Word u × (front ++ more ≡ u))
  pub there : (c : ℕ) (cs next u back : List ℕ) → rest ≡ c ∷ cs → Word u → front ++ c ∷ next ≡ u ++ back → (less : List ℕ) × (back ≡ less ++ c ∷ next) × (text ≡ u ++ (less ++ c ∷ cs))

abbrev pub IsFarthest : (List ℕ → Type 0) → List ℕ → ℕ → Type 0
IsFarthest Word text far = (far ≡ 0) ⊎ ((u : List ℕ) × Word u × (far ≡ common text u))

module _ (Word : List ℕ → Type 0) (text : List ℕ) (far : ℕ) where
  far_most : IsFarthest Word text far → far ≤ length text
  far_most (inl none) = omega (arith, none)
  far_most (inr (u, word, e)) = let most = common_most text u in omega (arith, e, most)

  begun_by : IsFarthest Word text far → (take far text ≡ []) ⊎ ((u : List ℕ) × (more : List ℕ) × Word u × (take far text ++ more ≡ u))
  begun_by (inl none) = inl (ap (λ k. take k text) none)
  begun_by (inr (u, word, e)) =
      let fronts : take far text ≡ take (common text u) u = ap (λ k. take k text) e ∙ common_take text u in
      inr (u, drop (common text u) u, word, ap (λ x. x ++ drop (common text u) u) fronts ∙ take-append-drop (common text u) u)

  goes_on : ((u : List ℕ) → Word u → common text u ≤ far) → (front rest : List ℕ) → text ≡ front ++ rest → length front ≡ far → (c : ℕ) (cs next u back : List ℕ) → rest ≡ c ∷ cs → Word u → front ++ c ∷ next ≡ u ++ back → (less : List ℕ) × (back ≡ less ++ c ∷ next) × (text ≡ u ++ (less ++ c ∷ cs))
  goes_on least front rest is long c cs next u back e word same = by (is ∙ ap (λ x. front ++ x) e) (least u word) (meets front c next u back same)
    where
      by : text ≡ front ++ c ∷ cs → common text u ≤ far → Meets front c next u back → (less : List ℕ) × (back ≡ less ++ c ∷ next) × (text ≡ u ++ (less ++ c ∷ cs))
      by whole most (inl more) =
          let both : common text u ≡ common (front ++ c ∷ cs) (front ++ c ∷ more.0) = (λ i. common (whole i) (more.1 i)) in
          absurd (omega (arith, both, most, long, common_least front c cs more.0))
      by whole most (inr less) = (less.0, less.2, whole ∙ ap (λ x. x ++ c ∷ cs) less.1 ∙ append_assoc u less.0 (c ∷ cs))

  pub stops_word : ((u : List ℕ) → Word u → common text u ≤ far) → IsFarthest Word text far → StopsWord Word text (length text - far)
  stops_word least farthest = record {
    front = take far text;
    rest = drop far text;
    is = sym (take-append-drop far text);
    long = length-drop far text;
    begun = begun_by farthest;
    there = goes_on least (take far text) (drop far text) (sym (take-append-drop far text)) (let most = far_most farthest in omega (arith, most, length-take-le far text most));
  }
