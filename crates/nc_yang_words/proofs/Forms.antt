-- The characters of white space, comments and tokens.
use Rattle.std.proofs.Common.{◌≡◌, ℕ, zero, suc, ◌+◌, Bool, true, false, ◌==◌, ◌||◌, ◌&&◌, if◌then◌else◌, List, [], ◌∷◌, ◌++◌, take, drop, Option, Some, None, inl, inr, refl, ap, sym, subst, ◌∙◌, arith, encode_utf8}
use Rattle.std.specs.Prelude.{not}
use Rattle.std.specs.List.{list_all}
use Rattle.std.proofs.lemmas.List.Concat.{flat_map-cons}
use Rattle.nc_names.specs.Signs.{is_white}
use Rattle.nc_yang_words.specs.Signs.{is_yang_char, is_blank, starts_with}
use Rattle.nc_yang_words.specs.Doubles.{Sign, Plain, Return, Meant, escape, with_sign, signs_of, characters, characters_of, value}
use Rattle.nc_yang_words.specs.Pieces.{piece, token, comment, line_comment, block_comment, single, single_quoted, double_quoted, unquoted_of, word, is_pair, is_space}
use Rattle.nc_yang_words.specs.Parts.{HasForm, IsSpace}
use Rattle.nc_yang_words.specs.declared.piece.Piece.{Piece}
use Rattle.nc_yang_words.specs.declared.piece.Piece.TheVariants.{Gap, Whole, Torn}
use Rattle.nc_yang_words.proofs.Strings.{both, either, same}

take_none : (cs : List ℕ) → take 0 cs ≡ []
take_none [] = refl
take_none (c ∷ cs) = refl

-- the piece that stands first has its form
abbrev pub HasItsForm : ℕ → List ℕ → Piece → Type 0
HasItsForm c cs (Gap n) = HasForm None (c ∷ take n cs)
HasItsForm c cs (Whole kind n) = HasForm (Some kind) (c ∷ take n cs)
HasItsForm c cs Torn = Unit {0}

by_test : (b : Bool) (c : ℕ) (cs : List ℕ) (x y : Piece) → (b ≡ true → HasItsForm c cs x) → HasItsForm c cs y → HasItsForm c cs (if b then x else y)
by_test true c cs x y h k = h refl
by_test false c cs x y h k = k

nothing : {A : Type 0} (m : A) → (let x : Option A = None in x) ≡ Some m → ⊥
nothing m e = cc

just : (k m : ℕ) → (let x : Option ℕ = Some k in x) ≡ Some m → m ≡ k
just k m e = cc

only : (c mark : ℕ) (cs : List ℕ) → c == mark ≡ true → c ∷ take 0 cs ≡ mark ∷ []
only c mark cs h = ap (λ xs. c ∷ xs) (take_none cs) ∙ ap (λ x. x ∷ []) (same c mark h)

none_of : (mark c : ℕ) (cs : List ℕ) → c == mark ≡ false → list_all (λ x. not (x == mark)) cs ≡ true → list_all (λ x. not (x == mark)) (c ∷ cs) ≡ true
none_of mark c cs e h = ap (λ b. not b && list_all (λ x. not (x == mark)) cs) e ∙ h

-- white space
white_by : (c : ℕ) (cs : List ℕ) → is_white c ≡ true → IsSpace (c ∷ take 0 cs)
white_by c cs h = (c, (ap (λ xs. c ∷ xs) (take_none cs), h))

white : (c : ℕ) (cs : List ℕ) → is_space c cs ≡ true → is_white c ≡ true
white c cs h =
    let P : ℕ → Type 0 = λ x. is_white x ≡ true in
    elim (either (is_blank c || c == 10) (is_pair 13 10 c cs) h) [
      | inl a ↦ elim (either (is_blank c) (c == 10) a) [
        | inl b ↦ elim (either (c == 32) (c == 9) b) [
          | inl e ↦ subst P (sym (same c 32 e)) refl
          | inr e ↦ subst P (sym (same c 9 e)) refl
        ]
        | inr e ↦ subst P (sym (same c 10 e)) refl
      ]
      | inr e ↦ subst P (sym (same c 13 (both (c == 13) (starts_with 10 cs) e).0)) refl
    ]

-- a comment to the end of its line
abbrev LineEnds : List ℕ → ℕ → ℕ → Type 0
LineEnds cs k m = (n : ℕ) × ((m ≡ k + n) × (list_all (λ x. not (x == 10)) (take n cs) ≡ true))

line_at : (feed yang : Bool) (c : ℕ) (cs : List ℕ) (k m : ℕ) → c == 10 ≡ feed
    → (if feed then Some k else (if yang then line_comment (k + 1) cs else None)) ≡ Some m
    → (line_comment (k + 1) cs ≡ Some m → LineEnds cs (k + 1) m) → LineEnds (c ∷ cs) k m
line_at true yang c cs k m e h later = (0, (just k m h ∙ omega arith, refl))
line_at false true c cs k m e h later =
    let r = later h in
    let count : m ≡ (k + 1) + r.0 = r.1.0 in
    (suc r.0, (omega arith, none_of 10 c (take r.0 cs) e r.1.1))
line_at false false c cs k m e h later = absurd (nothing m h)

line_ends : (cs : List ℕ) (k m : ℕ) → line_comment k cs ≡ Some m → LineEnds cs k m
line_ends [] k m h = (0, (just k m h ∙ omega arith, refl))
line_ends (c ∷ cs) k m h = line_at (c == 10) (is_yang_char c) c cs k m refl h (λ e. line_ends cs (k + 1) m e)

line_by : (ds : List ℕ) (o : Option ℕ) → line_comment 1 ds ≡ o → HasItsForm 47 (47 ∷ ds) (comment 0 o)
line_by ds None e = tt
line_by ds (Some m) e =
    let r = line_ends ds 1 m e in
    let count : m ≡ 1 + r.0 = r.1.0 in
    let taken : m + 0 ≡ suc r.0 = omega arith in
    inr (inl (take r.0 ds, (ap (λ n. 47 ∷ take n (47 ∷ ds)) taken, r.1.1)))

line_form : (c : ℕ) (cs : List ℕ) → is_pair 47 47 c cs ≡ true → HasItsForm c cs (comment 0 (line_comment 0 cs))
line_form c [] h = absurd (let e : false ≡ true = (both (c == 47) false h).1 in cc)
line_form c (d ∷ ds) h =
    let b = both (c == 47) (d == 47) h in
    let here : HasItsForm 47 (47 ∷ ds) (comment 0 (line_comment 0 (47 ∷ ds))) = line_by ds (line_comment 1 ds) refl in
    subst (λ x. HasItsForm x (d ∷ ds) (comment 0 (line_comment 0 (d ∷ ds)))) (sym (same c 47 b.0))
    (subst (λ x. HasItsForm 47 (x ∷ ds) (comment 0 (line_comment 0 (x ∷ ds)))) (sym (same d 47 b.1)) here)

-- a comment up to its end mark
abbrev BlockEnds : List ℕ → ℕ → ℕ → Type 0
BlockEnds cs k m = (n : ℕ) × ((m ≡ k + suc (suc n)) × (take (suc (suc n)) cs ≡ take n cs ++ 42 ∷ 47 ∷ []))

block_here : (c : ℕ) (cs : List ℕ) → c == 42 && starts_with 47 cs ≡ true → take 2 (c ∷ cs) ≡ 42 ∷ 47 ∷ []
block_here c [] h = absurd (let e : false ≡ true = (both (c == 42) false h).1 in cc)
block_here c (d ∷ ds) h =
    let b = both (c == 42) (d == 47) h in
    ap (λ x. x ∷ d ∷ take 0 ds) (same c 42 b.0) ∙ ap (λ xs. 42 ∷ xs) (only d 47 ds b.1)

block_at : (mark yang : Bool) (c : ℕ) (cs : List ℕ) (k m : ℕ) → c == 42 && starts_with 47 cs ≡ mark
    → (if mark then Some (k + 2) else (if yang then block_comment (k + 1) cs else None)) ≡ Some m
    → (block_comment (k + 1) cs ≡ Some m → BlockEnds cs (k + 1) m) → BlockEnds (c ∷ cs) k m
block_at true yang c cs k m e h later = (0, (just (k + 2) m h ∙ omega arith, block_here c cs e))
block_at false true c cs k m e h later =
    let r = later h in
    let count : m ≡ (k + 1) + suc (suc r.0) = r.1.0 in
    (suc r.0, (omega arith, ap (λ xs. c ∷ xs) r.1.1))
block_at false false c cs k m e h later = absurd (nothing m h)

block_ends : (cs : List ℕ) (k m : ℕ) → block_comment k cs ≡ Some m → BlockEnds cs k m
block_ends [] k m h = absurd (nothing m h)
block_ends (c ∷ cs) k m h = block_at (c == 42 && starts_with 47 cs) (is_yang_char c) c cs k m refl h (λ e. block_ends cs (k + 1) m e)

block_by : (ds : List ℕ) (o : Option ℕ) → block_comment 0 ds ≡ o → HasItsForm 47 (42 ∷ ds) (comment 1 o)
block_by ds None e = tt
block_by ds (Some m) e =
    let r = block_ends ds 0 m e in
    let count : m ≡ 0 + suc (suc r.0) = r.1.0 in
    let taken : m + 1 ≡ suc (suc (suc r.0)) = omega arith in
    inr (inr (take r.0 ds, ap (λ n. 47 ∷ take n (42 ∷ ds)) taken ∙ ap (λ xs. 47 ∷ 42 ∷ xs) r.1.1))

block_form : (c : ℕ) (cs : List ℕ) → is_pair 47 42 c cs ≡ true → HasItsForm c cs (comment 1 (block_comment 0 (drop 1 cs)))
block_form c [] h = absurd (let e : false ≡ true = (both (c == 47) false h).1 in cc)
block_form c (d ∷ ds) h =
    let b = both (c == 47) (d == 42) h in
    let here : HasItsForm 47 (42 ∷ ds) (comment 1 (block_comment 0 (drop 1 (42 ∷ ds)))) = block_by ds (block_comment 0 (drop 1 (42 ∷ ds))) refl in
    subst (λ x. HasItsForm x (d ∷ ds) (comment 1 (block_comment 0 (drop 1 (d ∷ ds))))) (sym (same c 47 b.0))
    (subst (λ x. HasItsForm 47 (x ∷ ds) (comment 1 (block_comment 0 (drop 1 (x ∷ ds))))) (sym (same d 42 b.1)) here)

-- a string between single quotation marks
abbrev SingleEnds : List ℕ → ℕ → ℕ → Type 0
SingleEnds cs k m =
    (n : ℕ) × ((m ≡ k + n) × ((take (suc n) cs ≡ take n cs ++ 39 ∷ []) × (list_all (λ x. not (x == 39)) (take n cs) ≡ true)))

single_at : (mark yang : Bool) (c : ℕ) (cs : List ℕ) (k m : ℕ) → c == 39 ≡ mark
    → (if mark then Some k else (if yang then single (k + 1) cs else None)) ≡ Some m
    → (single (k + 1) cs ≡ Some m → SingleEnds cs (k + 1) m) → SingleEnds (c ∷ cs) k m
single_at true yang c cs k m e h later = (0, (just k m h ∙ omega arith, (only c 39 cs e, refl)))
single_at false true c cs k m e h later =
    let r = later h in
    let count : m ≡ (k + 1) + r.0 = r.1.0 in
    (suc r.0, (omega arith, (ap (λ xs. c ∷ xs) r.1.1.0, none_of 39 c (take r.0 cs) e r.1.1.1)))
single_at false false c cs k m e h later = absurd (nothing m h)

single_ends : (cs : List ℕ) (k m : ℕ) → single k cs ≡ Some m → SingleEnds cs k m
single_ends [] k m h = absurd (nothing m h)
single_ends (c ∷ cs) k m h = single_at (c == 39) (is_yang_char c) c cs k m refl h (λ e. single_ends cs (k + 1) m e)

single_by : (c : ℕ) (cs : List ℕ) (o : Option ℕ) → c == 39 ≡ true → single 0 cs ≡ o → HasItsForm c cs (single_quoted cs o)
single_by c cs None mark e = tt
single_by c cs (Some m) mark e =
    let r = single_ends cs 0 m e in
    let count : m ≡ 0 + r.0 = r.1.0 in
    let is : r.0 ≡ m = omega arith in
    let more : m + 1 ≡ suc m = omega arith in
    let ends : take (suc m) cs ≡ take m cs ++ 39 ∷ [] = subst (λ n. take (suc n) cs ≡ take n cs ++ 39 ∷ []) is r.1.1.0 in
    let none : list_all (λ x. not (x == 39)) (take m cs) ≡ true = subst (λ n. list_all (λ x. not (x == 39)) (take n cs) ≡ true) is r.1.1.1 in
    inl (take m cs, (ap (λ x. x ∷ take (m + 1) cs) (same c 39 mark) ∙ ap (λ xs. 39 ∷ xs) (ap (λ n. take n cs) more ∙ ends), (refl, none)))

-- a string between double quotation marks
abbrev DoubleEnds : Bool → List ℕ → List Sign → Type 0
DoubleEnds escaped cs signs =
    (n : ℕ) × ((n + (if escaped then 1 else 0) ≡ characters_of signs) × ((take (suc n) cs ≡ take n cs ++ 34 ∷ [])
    × (signs_of escaped (take n cs ++ 34 ∷ []) ≡ Some signs)))

sign_before : (sign : Sign) (o : Option (List Sign)) (signs : List Sign) → with_sign sign o ≡ Some signs → (rest : List Sign) × ((o ≡ Some rest) × (sign ∷ rest ≡ signs))
sign_before sign None signs h = absurd (nothing signs h)
sign_before sign (Some rest) signs h = (rest, (refl, (let e : sign ∷ rest ≡ signs = cc in e)))

same_start : (n : ℕ) (cs : List ℕ) → take (suc n) cs ≡ take n cs ++ 34 ∷ [] → starts_with 10 (take n cs ++ 34 ∷ []) ≡ starts_with 10 cs
same_start zero [] h = absurd (let e : (let x : List ℕ = [] in x) ≡ 34 ∷ [] = h in cc)
same_start zero (c ∷ cs) h = ap (λ xs. starts_with 10 xs) (sym h)
same_start (suc n) [] h = absurd (let e : (let x : List ℕ = [] in x) ≡ 34 ∷ [] = h in cc)
same_start (suc n) (c ∷ cs) h = refl

-- one more character before the end
double_more : (escaped later : Bool) (c : ℕ) (cs : List ℕ) (sign : Sign) (rest signs : List Sign) → sign ∷ rest ≡ signs
    → characters sign ≡ (if escaped then 2 else 1) → (r : DoubleEnds false cs rest)
    → signs_of escaped (c ∷ (take r.0 cs ++ 34 ∷ [])) ≡ with_sign sign (signs_of false (take r.0 cs ++ 34 ∷ []))
    → DoubleEnds escaped (c ∷ cs) signs
double_more true later c cs sign rest signs e size r step =
    let count : r.0 + 0 ≡ characters_of rest = r.1.0 in
    (suc r.0, ((let total : suc r.0 + 1 ≡ characters sign + characters_of rest = omega arith in total ∙ ap (λ x. characters_of x) e), (ap (λ xs. c ∷ xs) r.1.1.0, step ∙ (ap (λ o. with_sign sign o) r.1.1.1 ∙ ap (λ x. Some x) e))))
double_more false later c cs sign rest signs e size r step =
    let count : r.0 + 0 ≡ characters_of rest = r.1.0 in
    (suc r.0, ((let total : suc r.0 + 0 ≡ characters sign + characters_of rest = omega arith in total ∙ ap (λ x. characters_of x) e), (ap (λ xs. c ∷ xs) r.1.1.0, step ∙ (ap (λ o. with_sign sign o) r.1.1.1 ∙ ap (λ x. Some x) e))))

double_escaped : (x : Option ℕ) (c : ℕ) (cs : List ℕ) (signs : List Sign) → escape c ≡ x
    → elim x [ None ↦ None | Some x ↦ with_sign (Meant x) (signs_of false cs) ] ≡ Some signs
    → ((rest : List Sign) → signs_of false cs ≡ Some rest → DoubleEnds false cs rest)
    → DoubleEnds true (c ∷ cs) signs
double_escaped None c cs signs e h later = absurd (nothing signs h)
double_escaped (Some x) c cs signs e h later =
    let b = sign_before (Meant x) (signs_of false cs) signs h in
    let r = later b.0 b.1.0 in
    double_more true false c cs (Meant x) b.0 signs b.1.1 refl r
    (ap (λ y. elim y [ None ↦ None | Some y ↦ with_sign (Meant y) (signs_of false (take r.0 cs ++ 34 ∷ [])) ]) e)

double_plain : (mark slash return yang : Bool) (c : ℕ) (cs : List ℕ) (signs : List Sign)
    → c == 34 ≡ mark → c == 92 ≡ slash → c == 13 && starts_with 10 cs ≡ return → is_yang_char c ≡ yang
    → (if mark then Some [] else (if slash then signs_of true cs else (if return then with_sign Return (signs_of false cs) else (if yang then with_sign (Plain c) (signs_of false cs) else None)))) ≡ Some signs
    → ((rest : List Sign) → signs_of false cs ≡ Some rest → DoubleEnds false cs rest)
    → ((rest : List Sign) → signs_of true cs ≡ Some rest → DoubleEnds true cs rest)
    → DoubleEnds false (c ∷ cs) signs
double_plain true slash return yang c cs signs m s r y h later escaped =
    let e : [] ≡ signs = cc in
    (0, (ap (λ x. characters_of x) e, (only c 34 cs m, ap (λ x. Some x) e)))
double_plain false true return yang c cs signs m s r y h later escaped =
    let k = escaped signs h in
    let count : k.0 + 1 ≡ characters_of signs = k.1.0 in
    (suc k.0, (omega arith, (ap (λ xs. c ∷ xs) k.1.1.0, subst (λ x. signs_of false (x ∷ (take k.0 cs ++ 34 ∷ [])) ≡ Some signs) (sym (same c 92 s)) k.1.1.1)))
double_plain false false true yang c cs signs m s r y h later escaped =
    let b = sign_before Return (signs_of false cs) signs h in
    let k = later b.0 b.1.0 in
    let front = take k.0 cs ++ 34 ∷ [] in
    let next = signs_of false front in
    let starts : c == 13 && starts_with 10 front ≡ true = ap (λ t. c == 13 && t) (same_start k.0 cs k.1.1.0) ∙ r in
    double_more false false c cs Return b.0 signs b.1.1 refl k (rw (m, s, starts) refl)
double_plain false false false true c cs signs m s r y h later escaped =
    let b = sign_before (Plain c) (signs_of false cs) signs h in
    let k = later b.0 b.1.0 in
    let front = take k.0 cs ++ 34 ∷ [] in
    let starts : c == 13 && starts_with 10 front ≡ false = ap (λ t. c == 13 && t) (same_start k.0 cs k.1.1.0) ∙ r in
    double_more false false c cs (Plain c) b.0 signs b.1.1 refl k (rw (m, s, starts, y) refl)
double_plain false false false false c cs signs m s r y h later escaped = absurd (nothing signs h)

double_ends : (cs : List ℕ) (signs : List Sign)
    → (signs_of false cs ≡ Some signs → DoubleEnds false cs signs) × (signs_of true cs ≡ Some signs → DoubleEnds true cs signs)
double_ends [] signs = (λ h. absurd (nothing signs h), λ h. absurd (nothing signs h))
double_ends (c ∷ cs) signs = (
  λ h. double_plain (c == 34) (c == 92) (c == 13 && starts_with 10 cs) (is_yang_char c) c cs signs refl refl refl refl h
      (λ rest. (double_ends cs rest).0) (λ rest. (double_ends cs rest).1),
  λ h. double_escaped (escape c) c cs signs refl h (λ rest. (double_ends cs rest).0),
)

double_by : (width c : ℕ) (cs : List ℕ) (o : Option (List Sign)) → c == 34 ≡ true → signs_of false cs ≡ o
    → HasItsForm c cs (double_quoted (elim o [ None ↦ None | Some signs ↦ Some (record { text = value width signs; count = characters_of signs }) ]))
double_by width c cs None mark e = tt
double_by width c cs (Some signs) mark e =
    let r = (double_ends cs signs).0 e in
    let count : r.0 + 0 ≡ characters_of signs = r.1.0 in
    let taken : characters_of signs + 1 ≡ suc r.0 = omega arith in
    inr (width, (take r.0 cs, (signs, (ap (λ x. x ∷ take (characters_of signs + 1) cs) (same c 34 mark) ∙ ap (λ xs. 34 ∷ xs) (ap (λ n. take n cs) taken ∙ r.1.1.0), (r.1.1.1, refl)))))

-- a word
word_by : (c : ℕ) (cs : List ℕ) (n : Option ℕ) → HasItsForm c cs (unquoted_of c cs n)
word_by c cs None = tt
word_by c cs (Some n) = sym (flat_map-cons encode_utf8 c (take n cs))

token_form : (width c : ℕ) (cs : List ℕ) → HasItsForm c cs (token width c cs)
token_form width c cs =
    by_test (c == 59) c cs _ _ (λ h. only c 59 cs h)
    (by_test (c == 123) c cs _ _ (λ h. only c 123 cs h)
    (by_test (c == 125) c cs _ _ (λ h. only c 125 cs h)
    (by_test (c == 39) c cs _ _ (λ h. single_by c cs (single 0 cs) h refl)
    (by_test (c == 34) c cs _ _ (λ h. double_by width c cs (signs_of false cs) h refl)
    (by_test (c == 13 || is_pair 42 47 c cs) c cs _ _ (λ h. tt)
    (by_test (is_yang_char c) c cs _ _ (λ h. word_by c cs (word 0 cs)) tt))))))

pub piece_form : (width c : ℕ) (cs : List ℕ) → HasItsForm c cs (piece width c cs)
piece_form width c cs =
    by_test (is_space c cs) c cs _ _ (λ h. inl (white_by c cs (white c cs h)))
    (by_test (is_pair 47 47 c cs) c cs _ _ (λ h. line_form c cs h)
    (by_test (is_pair 47 42 c cs) c cs _ _ (λ h. block_form c cs h) (token_form width c cs)))
