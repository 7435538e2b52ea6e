-- What is written of text, and of a value, stands for it.
use Rattle.std.proofs.Common.{◌≡◌, ◌==◌, ◌&&◌, ◌||◌, ℕ, Bool, true, false, not, cond, eqb, List, [], ◌∷◌, ◌++◌, drop, None, Some, refl, sym, ap, subst, ◌∙◌}
use Rattle.std.specs.Prelude.{is_some, option_and_then}
use Rattle.std.specs.List.{flat_map, list_all, starts_with}
use Rattle.std.specs.Str.{chars, is_utf8}
use Rattle.std.proofs.lemmas.Bool.Decides.{Decides-eqb}
use Rattle.std.proofs.lemmas.List.Folds.{list_all-append}
use Rattle.std.proofs.lemmas.Slice.Eq.{starts_is}
use Rattle.std.proofs.lemmas.Str.{IsUtf8-from_is_utf8, IsUtf8-append, chars-append}
use Rattle.nc_names.proofs.SameLemmas.{first_true, second_true, both_true}
use Rattle.nc_message.specs.Names.{is_in_run, is_in_value}
use Rattle.nc_message.specs.Pieces.{up_to, prepend}
use Rattle.nc_message.specs.Texts.{is_allowed, is_char, meant, onto, plain, resolved, reference, named, numbered, text_of, value_of}
use Rattle.nc_message.specs.Written.{text_char, value_char}
use Rattle.nc_message.specs.Marks.{ampersand, less_than, greater_than, quotation_mark, carriage_return, tab, line_feed}
use Rattle.nc_message_read.proofs.Resolving.{onto_nil, plain_step}
use Rattle.nc_message_read.proofs.Utf8.{utf8_yes}

-- ---- one character
-- it stands for itself where it is written so
abbrev Stands : (in_value : Bool) → (written : List ℕ) → ℕ → List ℕ → Type 0
Stands in_value written c rest = resolved true in_value 0 (written ++ rest) ≡ onto (c ∷ []) (resolved true in_value 0 rest)

plain_in_text : (c : ℕ) (rest : List ℕ) → (c == 38) ≡ false → (c == 13) ≡ false → Stands false (c ∷ []) c rest
plain_in_text c rest amp cr = sym (onto_nil _) ∙ plain_step true false c c rest rest [] (c ∷ []) amp cr refl refl refl

plain_in_value : (c : ℕ) (rest : List ℕ) → (c == 38) ≡ false → (c == 13) ≡ false → (c == 9) ≡ false → (c == 10) ≡ false → Stands true (c ∷ []) c rest
plain_in_value c rest amp cr tabs ends =
    let same : c ≡ plain true c = sym (ap (λ a. cond (a || (c == 10)) 32 c) tabs ∙ ap (λ a. cond (false || a) 32 c) ends) in
    sym (onto_nil _) ∙ plain_step true true c c rest rest [] (c ∷ []) amp cr same refl refl

ampersand_stands : (v : Bool) (rest : List ℕ) → Stands v ampersand 38 rest
unfolding ampersand reference named lib.Utf8.encode
ampersand_stands v rest = refl

less_stands : (v : Bool) (rest : List ℕ) → Stands v less_than 60 rest
unfolding less_than reference named lib.Utf8.encode
less_stands v rest = refl

greater_stands : (v : Bool) (rest : List ℕ) → Stands v greater_than 62 rest
unfolding greater_than reference named lib.Utf8.encode
greater_stands v rest = refl

quotation_stands : (v : Bool) (rest : List ℕ) → Stands v quotation_mark 34 rest
unfolding quotation_mark reference named lib.Utf8.encode
quotation_stands v rest = refl

return_stands : (v : Bool) (rest : List ℕ) → Stands v carriage_return 13 rest
unfolding carriage_return reference numbered lib.Utf8.encode
return_stands v rest = refl

tab_stands : (v : Bool) (rest : List ℕ) → Stands v tab 9 rest
unfolding tab reference numbered lib.Utf8.encode
tab_stands v rest = refl

feed_stands : (v : Bool) (rest : List ℕ) → Stands v line_feed 10 rest
unfolding line_feed reference numbered lib.Utf8.encode
feed_stands v rest = refl

-- by the test that finds it
abbrev picked : (test : Bool) → (one other : List ℕ) → List ℕ
picked test one other = cond test one other

by_test : (v : Bool) (mark c : ℕ) (one other rest : List ℕ) → Stands v one mark rest → ((c == mark) ≡ false → Stands v other c rest) → Stands v (picked (c == mark) one other) c rest
by_test v mark c one other rest is else = at (c == mark) refl
  where
    at : (b : Bool) → (c == mark) ≡ b → Stands v (picked b one other) c rest
    at true e = subst (λ x. Stands v one x rest) (sym ((Decides-eqb c mark).0 e)) is
    at false e = else e

pub text_stands : (c : ℕ) (rest : List ℕ) → Stands false (text_char c) c rest
text_stands c rest =
    by_test false 38 c ampersand _ rest (ampersand_stands false rest) (λ amp.
    by_test false 60 c less_than _ rest (less_stands false rest) (λ less.
    by_test false 62 c greater_than _ rest (greater_stands false rest) (λ greater.
    by_test false 13 c carriage_return _ rest (return_stands false rest) (λ cr. plain_in_text c rest amp cr))))

pub value_stands : (c : ℕ) (rest : List ℕ) → Stands true (value_char c) c rest
value_stands c rest =
    by_test true 34 c quotation_mark _ rest (quotation_stands true rest) (λ quotes.
    by_test true 9 c tab _ rest (tab_stands true rest) (λ tabs.
    by_test true 10 c line_feed _ rest (feed_stands true rest) (λ ends.
    by_test true 38 c ampersand _ rest (ampersand_stands true rest) (λ amp.
    by_test true 60 c less_than _ rest (less_stands true rest) (λ less.
    by_test true 62 c greater_than _ rest (greater_stands true rest) (λ greater.
    by_test true 13 c carriage_return _ rest (return_stands true rest) (λ cr. plain_in_value c rest amp cr tabs ends)))))))

-- ---- texts
all_stand : (v : Bool) (write : ℕ → List ℕ) → ((c : ℕ) (rest : List ℕ) → Stands v (write c) c rest) → (text : List ℕ) → resolved true v 0 (flat_map write text) ≡ Some text
all_stand v write each [] = refl
all_stand v write each (c ∷ cs) = each c (flat_map write cs) ∙ ap (onto (c ∷ [])) (all_stand v write each cs)

-- what has no `>` has no `]]>`
abbrev pub without : ℕ → List ℕ → Bool
without mark = list_all (λ c. not (c == mark))

abbrev bracket : List ℕ
bracket = 93 ∷ 93 ∷ 62 ∷ []

no_bracket : (text : List ℕ) → without 62 text ≡ true → up_to bracket text ≡ None
no_bracket [] all = refl
no_bracket (c ∷ cs) all = at (starts_with eqb (c ∷ cs) bracket) refl (no_bracket cs (second_true (not (c == 62)) (without 62 cs) all))
  where
    at : (b : Bool) → starts_with eqb (c ∷ cs) bracket ≡ b → up_to bracket cs ≡ None → cond b (Some ([], drop 3 (c ∷ cs))) (prepend (c ∷ []) (up_to bracket cs)) ≡ None
    at true e none =
        let is : c ∷ cs ≡ bracket ++ drop 3 (c ∷ cs) = (starts_is Decides-eqb (c ∷ cs) bracket _ refl).0 e in
        let clash : false ≡ true = sym (ap (without 62) is) ∙ all in
        cc
    at false e none = ap (prepend (c ∷ [])) none

-- a sign that no character is written with stands nowhere in what is written
each_without : (mark : ℕ) (write : ℕ → List ℕ) → ((c : ℕ) → without mark (write c) ≡ true) → (text : List ℕ) → without mark (flat_map write text) ≡ true
each_without mark write each [] = refl
each_without mark write each (c ∷ cs) =
    list_all-append (λ d. not (d == mark)) (write c) (flat_map write cs)
    ∙ both_true (without mark (write c)) (without mark (flat_map write cs)) (each c) (each_without mark write each cs)

-- one of two texts lacks it, and the other where the test fails
lacks : (mark other c : ℕ) (one more : List ℕ) → without mark one ≡ true → ((c == other) ≡ false → without mark more ≡ true) → without mark (cond (c == other) one more) ≡ true
lacks mark other c one more is else = at (c == other) refl
  where
    at : (b : Bool) → (c == other) ≡ b → without mark (cond b one more) ≡ true
    at true e = is
    at false e = else e

single : (mark c : ℕ) → (c == mark) ≡ false → without mark (c ∷ []) ≡ true
single mark c e = ap (λ b. not b && true) e

ampersand_lacks : (without 60 ampersand ≡ true) × (without 62 ampersand ≡ true) × (without 34 ampersand ≡ true)
unfolding ampersand
ampersand_lacks = (refl, refl, refl)

less_lacks : (without 60 less_than ≡ true) × (without 62 less_than ≡ true) × (without 34 less_than ≡ true)
unfolding less_than
less_lacks = (refl, refl, refl)

greater_lacks : (without 60 greater_than ≡ true) × (without 62 greater_than ≡ true) × (without 34 greater_than ≡ true)
unfolding greater_than
greater_lacks = (refl, refl, refl)

return_lacks : (without 60 carriage_return ≡ true) × (without 62 carriage_return ≡ true) × (without 34 carriage_return ≡ true)
unfolding carriage_return
return_lacks = (refl, refl, refl)

value_lacks : (without 60 quotation_mark ≡ true) × (without 34 quotation_mark ≡ true) × (without 60 tab ≡ true) × (without 34 tab ≡ true) × (without 60 line_feed ≡ true) × (without 34 line_feed ≡ true)
unfolding quotation_mark tab line_feed
value_lacks = (refl, refl, refl, refl, refl, refl)

text_without_less : (c : ℕ) → without 60 (text_char c) ≡ true
text_without_less c =
    lacks 60 38 c ampersand _ ampersand_lacks.0 (λ amp. lacks 60 60 c less_than _ less_lacks.0 (λ less. lacks 60 62 c greater_than _ greater_lacks.0 (λ greater.
    lacks 60 13 c carriage_return _ return_lacks.0 (λ cr. single 60 c less))))

text_without_greater : (c : ℕ) → without 62 (text_char c) ≡ true
text_without_greater c =
    lacks 62 38 c ampersand _ ampersand_lacks.1 (λ amp. lacks 62 60 c less_than _ less_lacks.1 (λ less. lacks 62 62 c greater_than _ greater_lacks.1 (λ greater.
    lacks 62 13 c carriage_return _ return_lacks.1 (λ cr. single 62 c greater))))

-- without a quotation mark, where it is none
text_without_quote : (c : ℕ) → (c == 34) ≡ false → without 34 (text_char c) ≡ true
text_without_quote c quotes =
    lacks 34 38 c ampersand _ ampersand_lacks.2 (λ amp. lacks 34 60 c less_than _ less_lacks.2 (λ less. lacks 34 62 c greater_than _ greater_lacks.2 (λ greater.
    lacks 34 13 c carriage_return _ return_lacks.2 (λ cr. single 34 c quotes))))

value_without_less : (c : ℕ) → without 60 (value_char c) ≡ true
value_without_less c =
    lacks 60 34 c quotation_mark _ value_lacks.0 (λ quotes. lacks 60 9 c tab _ value_lacks.2 (λ tabs. lacks 60 10 c line_feed _ value_lacks.4 (λ ends. text_without_less c)))

value_without_quote : (c : ℕ) → without 34 (value_char c) ≡ true
value_without_quote c =
    lacks 34 34 c quotation_mark _ value_lacks.1 (λ quotes. lacks 34 9 c tab _ value_lacks.3 (λ tabs. lacks 34 10 c line_feed _ value_lacks.5 (λ ends. text_without_quote c quotes)))

-- ---- what crates above this file cite
pub text_in_run : (text : List ℕ) → list_all is_in_run (flat_map text_char text) ≡ true
text_in_run text = each_without 60 text_char text_without_less text

both_pass : (mark other : ℕ) (text : List ℕ) → without mark text ≡ true → without other text ≡ true → list_all (λ c. not (c == mark) && not (c == other)) text ≡ true
both_pass mark other [] one two = refl
both_pass mark other (c ∷ cs) one two =
    both_true (not (c == mark) && not (c == other)) (list_all (λ d. not (d == mark) && not (d == other)) cs)
    (both_true (not (c == mark)) (not (c == other)) (first_true (not (c == mark)) (without mark cs) one) (first_true (not (c == other)) (without other cs) two))
    (both_pass mark other cs (second_true (not (c == mark)) (without mark cs) one) (second_true (not (c == other)) (without other cs) two))

pub value_in_marks : (value : List ℕ) → list_all (is_in_value 34) (flat_map value_char value) ≡ true
value_in_marks value = both_pass 60 34 (flat_map value_char value) (each_without 60 value_char value_without_less value) (each_without 34 value_char value_without_quote value)

meant_is : (v : Bool) (raw text : List ℕ) → resolved true v 0 raw ≡ Some text → is_allowed text ≡ true → meant true v raw ≡ Some text
meant_is v raw text read allowed = ap (option_and_then (λ t. cond (is_allowed t) (Some t) None)) read ∙ ap (λ b. cond b (Some text) None) allowed

pub text_is_read : (text : List ℕ) → is_allowed text ≡ true → text_of (flat_map text_char text) ≡ Some text
unfolding text_of
text_is_read text allowed =
    ap (λ o. cond (is_some o) None (meant true false (flat_map text_char text))) (no_bracket (flat_map text_char text) (each_without 62 text_char text_without_greater text))
    ∙ meant_is false (flat_map text_char text) text (all_stand false text_char text_stands text) allowed

pub value_is_read : (value : List ℕ) → is_allowed value ≡ true → value_of (flat_map value_char value) ≡ Some value
value_is_read value allowed = meant_is true (flat_map value_char value) value (all_stand true value_char value_stands value) allowed

-- two allowed texts are one
pub allowed_append : (a b : List ℕ) → is_allowed a ≡ true → is_allowed b ≡ true → is_allowed (a ++ b) ≡ true
allowed_append a b one two =
    let utf8_a = IsUtf8-from_is_utf8 a (first_true (is_utf8 a) (list_all is_char (chars a)) one) in
    let utf8_b = IsUtf8-from_is_utf8 b (first_true (is_utf8 b) (list_all is_char (chars b)) two) in
    both_true (is_utf8 (a ++ b)) (list_all is_char (chars (a ++ b))) (utf8_yes (a ++ b) (IsUtf8-append a b utf8_a utf8_b))
    (ap (list_all is_char) (chars-append a b utf8_a) ∙ list_all-append is_char (chars a) (chars b)
    ∙ both_true (list_all is_char (chars a)) (list_all is_char (chars b)) (second_true (is_utf8 a) (list_all is_char (chars a)) one) (second_true (is_utf8 b) (list_all is_char (chars b)) two))
