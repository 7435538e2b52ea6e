-- White space at the ends of a text.
use Rattle.std.proofs.Common.{◌≡◌, ◌&&◌, not, cond, ℕ, Bool, true, false, List, [], ◌∷◌, ◌++◌, refl, sym, ap, ◌∙◌}
use Rattle.std.specs.List.{list_all}
use Rattle.nc_names.specs.Ends.{past, trimmed, without_last}
use Rattle.nc_names.specs.Signs.{is_white}

-- no white space at either end
abbrev pub IsTrimmed : List ℕ → Type 0
IsTrimmed text = trimmed text ≡ text

pub left_true : (a b : Bool) → (a && b) ≡ true → a ≡ true
left_true true b e = refl
left_true false b e = e

pub right_true : (a b : Bool) → (a && b) ≡ true → b ≡ true
right_true true b e = e
right_true false b e = cc

and_false : (b : Bool) → (b && false) ≡ false
and_false true = refl
and_false false = refl

-- a text that passes whole after its last signs are dropped passed whole before
dropped_all : (p : ℕ → Bool) (text : List ℕ) → list_all p (without_last p text) ≡ true → list_all p text ≡ true
dropped_all p [] e = refl
dropped_all p (c ∷ cs) e = by (p c && list_all p cs) refl (dropped_all p cs) e
  where
    by : (b : Bool) → (p c && list_all p cs) ≡ b → (list_all p (without_last p cs) ≡ true → list_all p cs ≡ true) →
        list_all p (cond b [] (c ∷ without_last p cs)) ≡ true → (p c && list_all p cs) ≡ true
    by true is rest f = is
    by false is rest f = (λ i. left_true (p c) (list_all p (without_last p cs)) f i && rest (right_true (p c) (list_all p (without_last p cs)) f) i)

dropped_again : (p : ℕ → Bool) (text : List ℕ) → without_last p (without_last p text) ≡ without_last p text
dropped_again p [] = refl
dropped_again p (c ∷ cs) = by (p c && list_all p cs) refl (dropped_again p cs)
  where
    by : (b : Bool) → (p c && list_all p cs) ≡ b → without_last p (without_last p cs) ≡ without_last p cs →
        without_last p (cond b [] (c ∷ without_last p cs)) ≡ cond b [] (c ∷ without_last p cs)
    by true is rest = refl
    by false is rest = go (p c && list_all p (without_last p cs)) refl
      where
        go : (b : Bool) → (p c && list_all p (without_last p cs)) ≡ b → cond b [] (c ∷ without_last p (without_last p cs)) ≡ c ∷ without_last p cs
        go false e = ap (λ more. c ∷ more) rest
        go true e =
            let all : list_all p cs ≡ true = dropped_all p cs (right_true (p c) (list_all p (without_last p cs)) e) in
            let both : (p c && list_all p cs) ≡ true = (λ i. left_true (p c) (list_all p (without_last p cs)) e i && all i) in
            let clash : true ≡ false = sym both ∙ is in
            cc

-- the first sign that is left does not pass
abbrev pub Begins : (ℕ → Bool) → List ℕ → Type 0
Begins p [] = Unit {0}
Begins p (c ∷ cs) = p c ≡ false

past_begins : (p : ℕ → Bool) (text : List ℕ) → Begins p (past p text)
past_begins p [] = tt
past_begins p (c ∷ cs) = by (p c) refl (past_begins p cs)
  where
    by : (b : Bool) → p c ≡ b → Begins p (past p cs) → Begins p (cond b (past p cs) (c ∷ cs))
    by true is rest = rest
    by false is rest = is

dropped_begins : (p : ℕ → Bool) (text : List ℕ) → Begins p text → Begins p (without_last p text)
dropped_begins p [] begins = tt
dropped_begins p (c ∷ cs) begins = by (p c && list_all p cs)
  where
    by : (b : Bool) → Begins p (cond b [] (c ∷ without_last p cs))
    by true = tt
    by false = begins

pub begins_past : (p : ℕ → Bool) (text : List ℕ) → Begins p text → past p text ≡ text
begins_past p [] begins = refl
begins_past p (c ∷ cs) begins = ap (λ b. cond b (past p cs) (c ∷ cs)) begins

pub trimmed_again : (text : List ℕ) → IsTrimmed (trimmed text)
trimmed_again text =
    ap (without_last is_white) (begins_past is_white (trimmed text) (dropped_begins is_white (past is_white text) (past_begins is_white text)))
    ∙ dropped_again is_white (past is_white text)

-- a text without white space
abbrev pub HasNoWhite : List ℕ → Type 0
HasNoWhite text = list_all (λ c. not (is_white c)) text ≡ true

pub not_true : (b : Bool) → not b ≡ true → b ≡ false
not_true true e = let clash : false ≡ true = e in cc
not_true false e = refl

-- a text that ends in no white space keeps its end
pub kept_end : (text : List ℕ) (last : ℕ) → is_white last ≡ false → without_last is_white (text ++ last ∷ []) ≡ text ++ last ∷ []
kept_end [] last ends = ap (λ b. cond (b && true) [] (last ∷ [])) ends
kept_end (c ∷ cs) last ends =
    ap (λ b. cond (is_white c && b) [] (c ∷ without_last is_white (cs ++ last ∷ []))) (none cs)
    ∙ ap (λ b. cond b [] (c ∷ without_last is_white (cs ++ last ∷ []))) (and_false (is_white c))
    ∙ ap (λ more. c ∷ more) (kept_end cs last ends)
  where
    none : (front : List ℕ) → list_all is_white (front ++ last ∷ []) ≡ false
    none [] = ap (λ b. b && true) ends
    none (x ∷ xs) = ap (λ b. is_white x && b) (none xs) ∙ and_false (is_white x)

pub kept_whole : (text : List ℕ) → HasNoWhite text → without_last is_white text ≡ text
kept_whole [] none = refl
kept_whole (c ∷ cs) none =
    let first : is_white c ≡ false = not_true (is_white c) (left_true (not (is_white c)) (list_all (λ d. not (is_white d)) cs) none) in
    ap (λ b. cond (b && list_all is_white cs) [] (c ∷ without_last is_white cs)) first
    ∙ ap (λ more. c ∷ more) (kept_whole cs (right_true (not (is_white c)) (list_all (λ d. not (is_white d)) cs) none))

pub no_white : (text : List ℕ) → HasNoWhite text → IsTrimmed text
no_white [] none = refl
no_white (c ∷ cs) none =
    let first : is_white c ≡ false = not_true (is_white c) (left_true (not (is_white c)) (list_all (λ d. not (is_white d)) cs) none) in
    ap (without_last is_white) (begins_past is_white (c ∷ cs) first) ∙ kept_whole (c ∷ cs) none
