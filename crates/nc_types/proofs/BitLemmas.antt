-- Words between white space, and names with spaces between.
use Rattle.std.proofs.Common.{◌≡◌, ◌<◌, ◌≤◌, ◌+◌, not, ℕ, zero, suc, Bool, true, false, cond, List, [], ◌∷◌, ◌++◌, length, take, drop, get_or, refl, sym, ap, ◌∙◌, append-nil, append_assoc, arith}
use Rattle.std.specs.List.{filter, join_with_byte, onto_first, position_or_len, slice_split}
use Rattle.std.specs.Prelude.{nat_lt, ◌||◌}
use Rattle.std.specs.BTreeSet.{BTreeSet}
use Rattle.std.specs.Cmp.Lexicographic.{slice_cmp}
use Rattle.std.specs.Ordering.{nat_cmp, is_eq}
use Rattle.std.proofs.lemmas.Map.Text.{is_eq-slice_cmp}
use Rattle.std.proofs.Math.Seq.{take-suc}
use Rattle.nc_names.specs.Signs.{blank, is_white}
use Rattle.nc_schema.specs.Values.{words_of}
use Rattle.nc_schema.proofs.GivenLemmas.{item_there, nothing_left}
use Rattle.nc_names.specs.Same.{is_same_text}
use Rattle.nc_types.specs.inner.Asked.{IsSetOf, has, is_word}

split_step : (b : Bool) (c : ℕ) (cs : List ℕ) (n : ℕ) (parts : List (List ℕ)) (p : ℕ → Bool) → (n < length cs → parts ≡ take n cs ∷ slice_split p (drop (n + 1) cs)) → cond (not b) (1 + n) 0 < length (c ∷ cs) → slice_split p cs ≡ parts → cond b ([] ∷ parts) (onto_first c parts) ≡ take (cond (not b) (1 + n) 0) (c ∷ cs) ∷ slice_split p (drop (cond (not b) (1 + n) 0 + 1) (c ∷ cs))
split_step true c cs n parts p further within whole = ap (λ x. [] ∷ x) (sym whole)
split_step false c cs n parts p further within whole =
    let next : 1 + n ≡ suc n = omega arith in
    let more : suc n + 1 ≡ suc (n + 1) = omega arith in
    rw (further (omega (arith, within)), next, more) refl

split_there : (p : ℕ → Bool) (text : List ℕ) → position_or_len p text < length text → slice_split p text ≡ take (position_or_len p text) text ∷ slice_split p (drop (position_or_len p text + 1) text)
split_there p [] within = absurd (omega (arith, within))
split_there p (c ∷ cs) within = split_step (p c) c cs (position_or_len p cs) (slice_split p cs) p (split_there p cs) within refl

split_end : (b : Bool) (c : ℕ) (cs : List ℕ) (n : ℕ) (parts : List (List ℕ)) → (length cs ≤ n → parts ≡ cs ∷ []) → length (c ∷ cs) ≤ cond (not b) (1 + n) 0 → cond b ([] ∷ parts) (onto_first c parts) ≡ (c ∷ cs) ∷ []
split_end true c cs n parts further past = absurd (omega (arith, past))
split_end false c cs n parts further past = ap (onto_first c) (further (omega (arith, past)))

split_none : (p : ℕ → Bool) (text : List ℕ) → length text ≤ position_or_len p text → slice_split p text ≡ text ∷ []
split_none p [] past = refl
split_none p (c ∷ cs) past = split_end (p c) c cs (position_or_len p cs) (slice_split p cs) (split_none p cs) past

abbrev is_some_word : List ℕ → Bool
is_some_word word = nat_lt 0 (length word)

filter_first : (word : List ℕ) (parts : List (List ℕ)) → filter is_some_word (word ∷ parts) ≡ filter is_some_word (word ∷ []) ++ filter is_some_word parts
filter_first word parts = by (is_some_word word)
  where
    by : (b : Bool) → cond b (word ∷ filter is_some_word parts) (filter is_some_word parts) ≡ cond b (word ∷ []) [] ++ filter is_some_word parts
    by true = refl
    by false = refl

pub next_word : (text rest front after : List ℕ) (at : ℕ) (found more : List (List ℕ)) → words_of text ≡ found ++ words_of rest → at ≡ position_or_len is_white rest → at < length rest → front ≡ take at rest → after ≡ drop (at + 1) rest → more ≡ found ++ filter (λ one. nat_lt 0 (length one)) (front ∷ []) → words_of text ≡ more ++ words_of after
next_word text rest front after at found more e place within is_front is_after is_more =
    let inside : position_or_len is_white rest < length rest = omega (arith, place, within) in
    let parts : words_of rest ≡ filter is_some_word (front ∷ []) ++ words_of after =
    ap (filter is_some_word) (split_there is_white rest inside)
    ∙ (λ k. filter is_some_word (take (sym place k) rest ∷ slice_split is_white (drop (sym place k + 1) rest)))
    ∙ (λ k. filter is_some_word (sym is_front k ∷ slice_split is_white (sym is_after k)))
    ∙ filter_first front (slice_split is_white after) in
    e ∙ ap (λ x. found ++ x) parts ∙ sym (append_assoc found (filter is_some_word (front ∷ [])) (words_of after)) ∙ ap (λ x. x ++ words_of after) (sym is_more)

drop_one : (n : ℕ) (xs : List ℕ) → drop 1 (drop n xs) ≡ drop (n + 1) xs
drop_one zero xs = refl
drop_one (suc n) [] = let next : suc n + 1 ≡ suc (n + 1) = omega arith in rw next refl
drop_one (suc n) (x ∷ xs) = let next : suc n + 1 ≡ suc (n + 1) = omega arith in rw next (drop_one n xs)

pub word_after : (text rest front back after : List ℕ) (at : ℕ) (found more : List (List ℕ)) → words_of text ≡ found ++ words_of rest → at ≡ position_or_len is_white rest → at < length rest → front ≡ take at rest → back ≡ drop at rest → after ≡ drop 1 back → more ≡ found ++ filter (λ one. nat_lt 0 (length one)) (front ∷ []) → words_of text ≡ more ++ words_of after
word_after text rest front back after at found more e place within is_front is_back is_after is_more =
    next_word text rest front after at found more e place within is_front (is_after ∙ ap (drop 1) is_back ∙ drop_one at rest) is_more

pub last_word : (text rest : List ℕ) (at : ℕ) (found more : List (List ℕ)) → words_of text ≡ found ++ words_of rest → at ≡ position_or_len is_white rest → length rest ≤ at → more ≡ found ++ filter (λ one. nat_lt 0 (length one)) (rest ∷ []) → more ≡ words_of text
last_word text rest at found more e place past is_more =
    let outside : length rest ≤ position_or_len is_white rest = omega (arith, place, past) in
    is_more ∙ ap (λ ps. found ++ filter is_some_word ps) (sym (split_none is_white rest outside)) ∙ sym e

-- ---- names with spaces between
join_on : (xs : List (List ℕ)) (y x : List ℕ) → join_with_byte blank ((y ∷ xs) ++ x ∷ []) ≡ join_with_byte blank (y ∷ xs) ++ (blank ∷ x)
join_on [] y x = refl
join_on (z ∷ xs) y x =
    ap (λ w. y ++ (blank ∷ w)) (join_on xs z x) ∙ sym (append_assoc y (blank ∷ join_with_byte blank (z ∷ xs)) (blank ∷ x))

join_some : (xs : List (List ℕ)) (x : List ℕ) → 0 < length xs → join_with_byte blank (xs ++ x ∷ []) ≡ join_with_byte blank xs ++ (blank ∷ x)
join_some [] x some = absurd (omega (arith, some))
join_some (y ∷ xs) x some = join_on xs y x

pub join_more : (names : List (List ℕ)) (i : ℕ) (name out : List ℕ) → i < length names → name ≡ get_or names i name → 0 < i → out ≡ join_with_byte blank (take i names) → (out ++ blank ∷ []) ++ name ≡ join_with_byte blank (take (i + 1) names)
join_more names i name out less here some e =
    let next : i + 1 ≡ suc i = omega arith in
    let front : take (i + 1) names ≡ take i names ++ name ∷ [] = ap (λ k. take k names) next ∙ take-suc names i name less ∙ ap (λ y. take i names ++ y ∷ []) (sym here) in
    append_assoc out (blank ∷ []) name ∙ ap (λ o. o ++ (blank ∷ name)) e ∙ sym (join_some (take i names) name (some_taken names i (omega (arith, less)) some)) ∙ ap (join_with_byte blank) (sym front)
  where
    some_taken : (xs : List (List ℕ)) (n : ℕ) → n ≤ length xs → 0 < n → 0 < length (take n xs)
    some_taken [] n within above = absurd (omega (arith, within, above))
    some_taken (x ∷ xs) zero within above = absurd (omega (arith, above))
    some_taken (x ∷ xs) (suc n) within above = omega arith

pub join_first : (names : List (List ℕ)) (name out : List ℕ) → 0 < length names → name ≡ get_or names 0 name → out ≡ [] → out ++ name ≡ join_with_byte blank (take 1 names)
join_first [] name out less here e = absurd (omega (arith, less))
join_first (x ∷ xs) name out less here e = ap (λ o. o ++ name) e ∙ here

-- ---- names among words
filter_one : (f : List ℕ → Bool) (name : List ℕ) (rest : List (List ℕ)) → filter f (name ∷ rest) ≡ filter f (name ∷ []) ++ filter f rest
filter_one f name rest = by (f name)
  where
    by : (b : Bool) → cond b (name ∷ filter f rest) (filter f rest) ≡ cond b (name ∷ []) [] ++ filter f rest
    by true = refl
    by false = refl

pub next_name : (whole : List (List ℕ)) (words : BTreeSet (List ℕ)) (names : List (List ℕ)) (i : ℕ) (name : List ℕ) (set more : List (List ℕ)) → whole ≡ set ++ filter (has words) (drop i names) → i < length names → name ≡ get_or names i name → more ≡ set ++ filter (has words) (name ∷ []) → whole ≡ more ++ filter (has words) (drop (i + 1) names)
next_name whole words names i name set more e less here is =
    let rest = filter (has words) (drop (i + 1) names) in
    e ∙ ap (λ xs. set ++ filter (has words) xs) (item_there names i name less here) ∙ ap (λ x. set ++ x) (filter_one (has words) name (drop (i + 1) names))
    ∙ sym (append_assoc set (filter (has words) (name ∷ [])) rest) ∙ ap (λ x. x ++ rest) (sym is)

pub every_name : (whole : List (List ℕ)) (words : BTreeSet (List ℕ)) (names : List (List ℕ)) (i : ℕ) (set : List (List ℕ)) → whole ≡ set ++ filter (has words) (drop i names) → length names ≤ i → set ≡ whole
every_name whole words names i set e past =
    sym (e ∙ ap (λ xs. set ++ filter (has words) xs) (nothing_left names i past) ∙ append-nil set)

-- ---- words in a set
word_first : (seen same rest : Bool) → (seen || (same || rest)) ≡ (cond same true seen || rest)
word_first true true rest = refl
word_first true false rest = refl
word_first false true rest = refl
word_first false false rest = refl

pub one_word_more : (words : List (List ℕ)) (i : ℕ) (word : List ℕ) (before after : BTreeSet (List ℕ)) → ((name : List ℕ) → is_word words name ≡ (has before name || is_word (drop i words) name)) → i < length words → word ≡ get_or words i word → ((other : List ℕ) → has after other ≡ cond (is_eq (slice_cmp nat_cmp word other)) true (has before other)) → (name : List ℕ) → is_word words name ≡ (has after name || is_word (drop (i + 1) words) name)
one_word_more words i word before after e less here put name =
    let rest = is_word (drop (i + 1) words) name in
    e name ∙ ap (λ ws. has before name || is_word ws name) (item_there words i word less here)
    ∙ word_first (has before name) (is_same_text word name) rest
    ∙ ap (λ b. cond b true (has before name) || rest) (sym (is_eq-slice_cmp word name))
    ∙ ap (λ b. b || rest) (sym (put name))

or_nothing : (b : Bool) → (b || false) ≡ b
or_nothing true = refl
or_nothing false = refl

pub every_word : (words : List (List ℕ)) (i : ℕ) (set : BTreeSet (List ℕ)) → ((name : List ℕ) → is_word words name ≡ (has set name || is_word (drop i words) name)) → length words ≤ i → IsSetOf set words
every_word words i set e past name =
    sym (e name ∙ ap (λ ws. has set name || is_word ws name) (nothing_left words i past) ∙ or_nothing (has set name))

pub same_names : (set : BTreeSet (List ℕ)) (words names out : List (List ℕ)) → IsSetOf set words → out ≡ filter (has set) names → out ≡ filter (is_word words) names
same_names set words names out e is = is ∙ every names
  where
    every : (xs : List (List ℕ)) → filter (has set) xs ≡ filter (is_word words) xs
    every [] = refl
    every (x ∷ xs) = (λ i. cond (e x i) (x ∷ filter (has set) xs) (filter (has set) xs)) ∙ (λ i. cond (is_word words x) (x ∷ every xs i) (every xs i))
