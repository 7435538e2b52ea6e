-- A double-quoted string, read one character after another, is its lines, laid out.
use Rattle.std.proofs.Common.{◌≡◌, ℕ, zero, suc, ◌+◌, ◌-◌, Bool, true, false, ◌==◌, ◌||◌, ◌&&◌, if◌then◌else◌, List, [], ◌∷◌, ◌++◌, Option, Some, None, ◌⊎◌, inl, inr, refl, sym, ap, subst, ◌∙◌, append_assoc, append-nil, arith, rules, tests, encode_utf8}
use Rattle.std.specs.List.{list_all}
use Rattle.std.specs.Prelude.{replicate, map}
use Rattle.std.proofs.lemmas.List.Folds.{list_all-append}
use Rattle.std.proofs.lemmas.List.Concat.{flat_map-append, flat_map-cons}
use Rattle.std.proofs.lemmas.List.{map-append}
use Rattle.nc_yang_words.specs.Signs.{is_yang_char, is_blank, columns, starts_with, utf8}
use Rattle.nc_yang_words.specs.Doubles.{Sign, Plain, Return, Meant, escape, with_sign, signs_of, characters, characters_of, meaning, is_line_feed, is_return, is_blank_sign, first_line, later_lines, before_end, strip_end, cut, laid_out, double_string}
use Rattle.nc_yang_words.specs.inner.Streams.{double, with_front, held_more}
use Rattle.nc_yang_words.specs.declared.double.Quoted.{Quoted}
use Rattle.nc_yang_words.proofs.Doubles.{front_twice}

pub both : (a b : Bool) → a && b ≡ true → (a ≡ true) × (b ≡ true)
both true true h = (refl, refl)
both true false h = absurd (let e : false ≡ true = h in cc)
both false b h = absurd (let e : false ≡ true = h in cc)

pub either : (a b : Bool) → a || b ≡ true → (a ≡ true) ⊎ (b ≡ true)
either true b h = inl refl
either false b h = inr h

and_no : (b : Bool) → b && false ≡ false
and_no true = refl
and_no false = refl

if_same : {A : Type 0} (b : Bool) (x : A) → (if b then x else x) ≡ x
if_same true x = refl
if_same false x = refl

pub bool_cases : (b : Bool) → (b ≡ true) ⊎ (b ≡ false)
bool_cases true = inl refl
bool_cases false = inr refl

pub same : (a b : ℕ) → a == b ≡ true → a ≡ b
same a b h = search (rules, tests)

cut_zero : (signs : List Sign) → cut 0 signs ≡ signs
cut_zero [] = refl
cut_zero (Plain c ∷ signs) = if_same (is_blank c) (Plain c ∷ signs)
cut_zero (Return ∷ signs) = refl
cut_zero (Meant c ∷ signs) = refl

-- white space before a line break is stripped whole
strip_blank : (held : List ℕ) → list_all is_blank held ≡ true → strip_end (map Plain held) ≡ []
strip_blank [] h = refl
strip_blank (c ∷ cs) h =
    let b = both (is_blank c) (list_all is_blank cs) h in
    ap (λ xs. before_end (Plain c) xs) (strip_blank cs b.1) ∙ ap (λ x. if x then [] else Plain c ∷ []) b.0

strip_return : (held : List ℕ) → list_all is_blank held ≡ true → strip_end (map Plain held ++ Return ∷ []) ≡ Return ∷ []
strip_return [] h = refl
strip_return (c ∷ cs) h =
    let b = both (is_blank c) (list_all is_blank cs) h in
    ap (λ xs. before_end (Plain c) xs) (strip_return cs b.1)
    ∙ ap (λ x. if x && true then Return ∷ [] else Plain c ∷ Return ∷ []) b.0

-- what stands before another character is kept
before_solid : (sign : Sign) (signs : List Sign) → is_blank_sign sign ≡ false → before_end sign signs ≡ sign ∷ signs
before_solid sign [] h = ap (λ b. if b then [] else sign ∷ []) h
before_solid sign (next ∷ signs) h = ap (λ b. if b && is_return next then next ∷ signs else sign ∷ next ∷ signs) h

before_more : (x : ℕ) (xs : List ℕ) (sign : Sign) (signs : List Sign) → is_return sign ≡ false
    → before_end (Plain x) (map Plain xs ++ sign ∷ signs) ≡ Plain x ∷ (map Plain xs ++ sign ∷ signs)
before_more x [] sign signs h =
    ap (λ r. if is_blank x && r then sign ∷ signs else Plain x ∷ sign ∷ signs) h
    ∙ ap (λ b. if b then sign ∷ signs else Plain x ∷ sign ∷ signs) (and_no (is_blank x))
before_more x (y ∷ ys) sign signs h =
    let rest = Plain y ∷ (map Plain ys ++ sign ∷ signs) in
    ap (λ b. if b then rest else Plain x ∷ rest) (and_no (is_blank x))

strip_held : (held : List ℕ) (sign : Sign) (signs : List Sign) → is_blank_sign sign ≡ false → is_return sign ≡ false
    → strip_end (map Plain held ++ sign ∷ signs) ≡ map Plain held ++ sign ∷ strip_end signs
strip_held [] sign signs blank return = before_solid sign (strip_end signs) blank
strip_held (x ∷ xs) sign signs blank return =
    ap (λ ys. before_end (Plain x) ys) (strip_held xs sign signs blank return) ∙ before_more x xs sign (strip_end signs) return

laid_held : (width : ℕ) (held : List ℕ) (sign : Sign) (signs : List Sign) (later : List (List Sign))
    → is_blank_sign sign ≡ false → is_return sign ≡ false
    → laid_out width (map Plain held ++ sign ∷ signs) later ≡ map Plain held ++ sign ∷ laid_out width signs later
laid_held width held sign signs [] blank return = refl
laid_held width held sign signs (line ∷ later) blank return =
    let next = Plain 10 ∷ laid_out width (cut width line) later in
    ap (λ xs. xs ++ next) (strip_held held sign signs blank return) ∙ append_assoc (map Plain held) (sign ∷ strip_end signs) next

meaning_plain : (held : List ℕ) → map meaning (map Plain held) ≡ held
meaning_plain [] = refl
meaning_plain (c ∷ cs) = ap (λ xs. c ∷ xs) (meaning_plain cs)

text_held : (held : List ℕ) (sign : Sign) (signs : List Sign)
    → utf8 (map meaning (map Plain held ++ sign ∷ signs)) ≡ (utf8 held ++ encode_utf8 (meaning sign)) ++ utf8 (map meaning signs)
text_held held sign signs =
    let rest = meaning sign ∷ map meaning signs in
    ap (λ xs. utf8 xs) (map-append meaning (map Plain held) (sign ∷ signs) ∙ ap (λ xs. xs ++ rest) (meaning_plain held))
    ∙ (flat_map-append encode_utf8 held rest
    ∙ (ap (λ xs. utf8 held ++ xs) (flat_map-cons encode_utf8 (meaning sign) (map meaning signs))
    ∙ sym (append_assoc (utf8 held) (encode_utf8 (meaning sign)) (utf8 (map meaning signs)))))

-- what is still to come of a string, where white space is held before these parts
abbrev text_left : ℕ → ℕ → List ℕ → List Sign → List ℕ
text_left width room held signs = utf8 (map meaning (laid_out width (map Plain held ++ cut room (first_line signs)) (later_lines signs)))

abbrev string_left : ℕ → ℕ → List ℕ → ℕ → Option (List Sign) → Option Quoted
string_left width room held n None = None
string_left width room held n (Some signs) = Some (record { text = text_left width room held signs; count = n + characters_of signs })

same_string : (a b : List ℕ) (m n : ℕ) → a ≡ b → m ≡ n
    → (let x : Option Quoted = Some (record { text = a; count = m }) in x) ≡ Some (record { text = b; count = n })
same_string a b m n e f = ap (λ x. Some (record { text = x; count = m })) e ∙ ap (λ x. Some (record { text = b; count = x })) f

text_solid : (width room : ℕ) (held : List ℕ) (sign : Sign) (signs : List Sign)
    → is_blank_sign sign ≡ false → is_return sign ≡ false → is_line_feed sign ≡ false
    → ((rest : List Sign) → cut room (sign ∷ rest) ≡ sign ∷ rest)
    → (utf8 held ++ encode_utf8 (meaning sign)) ++ text_left width 0 [] signs ≡ text_left width room held (sign ∷ signs)
text_solid width room held sign signs blank return feed uncut =
    let later = later_lines signs in
    let first = first_line signs in
    sym (ap (λ b. utf8 (map meaning (laid_out width (map Plain held ++ cut room (if b then [] else sign ∷ first)) (if b then first ∷ later else later)))) feed
    ∙ (ap (λ xs. utf8 (map meaning (laid_out width (map Plain held ++ xs) later))) (uncut first)
    ∙ (ap (λ xs. utf8 (map meaning xs)) (laid_held width held sign first later blank return)
    ∙ (text_held held sign (laid_out width first later)
    ∙ ap (λ xs. (utf8 held ++ encode_utf8 (meaning sign)) ++ utf8 (map meaning (laid_out width xs later))) (sym (cut_zero first))))))

-- a part that is no white space stands for itself
solid : (width room n m : ℕ) (held : List ℕ) (sign : Sign) (signs : Option (List Sign))
    → is_blank_sign sign ≡ false → is_return sign ≡ false → is_line_feed sign ≡ false
    → ((rest : List Sign) → cut room (sign ∷ rest) ≡ sign ∷ rest) → m ≡ n + characters sign
    → with_front (utf8 held ++ encode_utf8 (meaning sign)) (string_left width 0 [] m signs) ≡ string_left width room held n (with_sign sign signs)
solid width room n m held sign None blank return feed uncut e = refl
solid width room n m held sign (Some signs) blank return feed uncut e =
    same_string _ _ _ _ (text_solid width room held sign signs blank return feed uncut) (omega arith)

-- what a backslash and a character stand for, after white space
meant : (width room n : ℕ) (held : List ℕ) (x : Option ℕ) (signs : Option (List Sign))
    → with_front (utf8 held) (string_left width 0 [] n (elim x [ None ↦ None | Some x ↦ with_sign (Meant x) signs ]))
    ≡ string_left width room held n (elim x [ None ↦ None | Some x ↦ with_sign (Meant x) signs ])
meant width room n held None signs = refl
meant width room n held (Some x) signs =
    let there = string_left width 0 [] (n + 2) signs in
    ap (λ s. with_front (utf8 held) s) (sym (solid width 0 n (n + 2) [] (Meant x) signs refl refl refl (λ rest. refl) refl))
    ∙ (front_twice (utf8 held) (encode_utf8 x) there
    ∙ solid width room n (n + 2) held (Meant x) signs refl refl refl (λ rest. refl) refl)

-- the string is what its parts say, where it goes on with these characters
abbrev Goes : ℕ → List ℕ → Type 0
Goes width cs = (room n : ℕ) (held : List ℕ) → list_all is_blank held ≡ true
    → double width room held false n cs ≡ string_left width room held n (signs_of false cs)

abbrev GoesEscaped : ℕ → List ℕ → Type 0
GoesEscaped width cs = (n : ℕ) → double width 0 [] true (n + 1) cs ≡ string_left width 0 [] n (signs_of true cs)

escaped_by : (width n : ℕ) (x : Option ℕ) (cs : List ℕ) → Goes width cs
    → elim x [ None ↦ None | Some x ↦ with_front (encode_utf8 x) (double width 0 [] false ((n + 1) + 1) cs) ]
    ≡ string_left width 0 [] n (elim x [ None ↦ None | Some x ↦ with_sign (Meant x) (signs_of false cs) ])
escaped_by width n None cs goes = refl
escaped_by width n (Some x) cs goes =
    ap (λ s. with_front (encode_utf8 x) s) (goes 0 ((n + 1) + 1) [] refl)
    ∙ solid width 0 n ((n + 1) + 1) [] (Meant x) (signs_of false cs) refl refl refl (λ rest. refl) (omega arith)

escaped_step : (width : ℕ) (c : ℕ) (cs : List ℕ) → Goes width cs → GoesEscaped width (c ∷ cs)
escaped_step width c cs goes n = escaped_by width n (escape c) cs goes

at_backslash : (width room n : ℕ) (held : List ℕ) (cs : List ℕ)
    → with_front (utf8 held) (string_left width 0 [] n (signs_of true cs)) ≡ string_left width room held n (signs_of true cs)
at_backslash width room n held [] = refl
at_backslash width room n held (c ∷ cs) = meant width room n held (escape c) (signs_of false cs)

-- a line break
at_feed : (width room n : ℕ) (held : List ℕ) (signs : Option (List Sign)) → list_all is_blank held ≡ true
    → with_front (encode_utf8 10) (string_left width width [] (n + 1) signs) ≡ string_left width room held n (with_sign (Plain 10) signs)
at_feed width room n held None blank = refl
at_feed width room n held (Some signs) blank =
    let next = Plain 10 ∷ laid_out width (cut width (first_line signs)) (later_lines signs) in
    same_string _ _ _ _
    (sym (ap (λ xs. utf8 (map meaning (xs ++ next))) (ap (λ xs. strip_end xs) (append-nil (map Plain held)) ∙ strip_blank held blank)
    ∙ flat_map-cons encode_utf8 10 (map meaning (laid_out width (cut width (first_line signs)) (later_lines signs)))))
    (omega arith)

-- the CR of a line break
at_return : (width room n : ℕ) (held : List ℕ) (signs : Option (List Sign)) → list_all is_blank held ≡ true
    → with_front (encode_utf8 13) (string_left width 0 [] (n + 1) (with_sign (Plain 10) signs))
    ≡ string_left width room held n (with_sign Return (with_sign (Plain 10) signs))
at_return width room n held None blank = refl
at_return width room n held (Some signs) blank =
    let next = Plain 10 ∷ laid_out width (cut width (first_line signs)) (later_lines signs) in
    same_string _ _ _ _
    (sym (ap (λ xs. utf8 (map meaning (xs ++ next))) (strip_return held blank) ∙ flat_map-cons encode_utf8 13 (map meaning next)))
    (omega arith)

-- a space or a tab is held, less what is cut of it
plain_spaces : (k : ℕ) → map Plain (replicate k 32) ≡ replicate k (Plain 32)
plain_spaces zero = refl
plain_spaces (suc k) = ap (λ xs. Plain 32 ∷ xs) (plain_spaces k)

not_zero : (r : ℕ) → (suc r == 0) ≡ false
not_zero r = search (rules, tests)

no_room : (n : ℕ) → 0 - n ≡ 0
no_room n = omega arith

cut_here : (room c : ℕ) (signs : List Sign) → is_blank c ≡ true
    → cut room (Plain c ∷ signs) ≡ (if room == 0 then Plain c ∷ signs else replicate (columns c - room) (Plain 32) ++ cut (room - columns c) signs)
cut_here room c signs h =
    ap (λ b. if b then (if room == 0 then Plain c ∷ signs else replicate (columns c - room) (Plain 32) ++ cut (room - columns c) signs) else Plain c ∷ signs) h

cut_blank : (room : ℕ) (held : List ℕ) (c : ℕ) (signs : List Sign) → is_blank c ≡ true
    → map Plain (held_more room held c) ++ cut (room - columns c) signs ≡ map Plain held ++ cut room (Plain c ∷ signs)
cut_blank zero held c signs h =
    ap (λ k. map Plain (held ++ c ∷ []) ++ cut k signs) (no_room (columns c))
    ∙ (ap (λ x. map Plain (held ++ c ∷ []) ++ x) (cut_zero signs)
    ∙ (ap (λ x. x ++ signs) (map-append Plain held (c ∷ []))
    ∙ (append_assoc (map Plain held) (Plain c ∷ []) signs ∙ ap (λ x. map Plain held ++ x) (sym (cut_here 0 c signs h)))))
cut_blank (suc r) held c signs h =
    let more = replicate (columns c - suc r) 32 in
    let plain = replicate (columns c - suc r) (Plain 32) in
    let rest = cut (suc r - columns c) signs in
    ap (λ b. map Plain (held ++ (if b then c ∷ [] else more)) ++ rest) (not_zero r)
    ∙ (ap (λ x. x ++ rest) (map-append Plain held more)
    ∙ (append_assoc (map Plain held) (map Plain more) rest
    ∙ (ap (λ x. map Plain held ++ (x ++ rest)) (plain_spaces (columns c - suc r))
    ∙ ap (λ x. map Plain held ++ x) (sym (cut_here (suc r) c signs h ∙ ap (λ b. if b then Plain c ∷ signs else plain ++ rest) (not_zero r))))))

blank_text : (width room : ℕ) (held : List ℕ) (c : ℕ) (signs : List Sign) → is_blank c ≡ true → is_line_feed (Plain c) ≡ false
    → text_left width (room - columns c) (held_more room held c) signs ≡ text_left width room held (Plain c ∷ signs)
blank_text width room held c signs blank feed =
    let later = later_lines signs in
    let first = first_line signs in
    ap (λ xs. utf8 (map meaning (laid_out width xs later))) (cut_blank room held c first blank)
    ∙ sym (ap (λ b. utf8 (map meaning (laid_out width (map Plain held ++ cut room (if b then [] else Plain c ∷ first)) (if b then first ∷ later else later)))) feed)

at_blank : (width room n : ℕ) (held : List ℕ) (c : ℕ) (signs : Option (List Sign)) → is_blank c ≡ true → is_line_feed (Plain c) ≡ false
    → string_left width (room - columns c) (held_more room held c) (n + 1) signs ≡ string_left width room held n (with_sign (Plain c) signs)
at_blank width room n held c None blank feed = refl
at_blank width room n held c (Some signs) blank feed =
    same_string _ _ _ _ (blank_text width room held c signs blank feed) (omega arith)

spaces_blank : (n : ℕ) → list_all is_blank (replicate n 32) ≡ true
spaces_blank zero = refl
spaces_blank (suc n) = spaces_blank n

more_blank : (b : Bool) (c k : ℕ) → is_blank c ≡ true → list_all is_blank (if b then c ∷ [] else replicate k 32) ≡ true
more_blank true c k h = ap (λ x. x && true) h
more_blank false c k h = spaces_blank k

held_blank : (room : ℕ) (held : List ℕ) (c : ℕ) → list_all is_blank held ≡ true → is_blank c ≡ true → list_all is_blank (held_more room held c) ≡ true
held_blank room held c h b =
    let more = if room == 0 then c ∷ [] else replicate (columns c - room) 32 in
    list_all-append is_blank held more ∙ (ap (λ x. x && list_all is_blank more) h ∙ more_blank (room == 0) c (columns c - room) b)

-- the string at a character, which is each of these
abbrev At : ℕ → ℕ → ℕ → List ℕ → List ℕ → ℕ → Type 0
At width room n held cs c = double width room held false n (c ∷ cs) ≡ string_left width room held n (signs_of false (c ∷ cs))

close_step : (width room n : ℕ) (held cs : List ℕ) → At width room n held cs 34
close_step width room n held cs =
    same_string _ _ _ _ (sym (ap (λ xs. utf8 xs) (ap (λ xs. map meaning xs) (append-nil (map Plain held)) ∙ meaning_plain held))) (omega arith)

backslash_step : (width room n : ℕ) (held cs : List ℕ) → GoesEscaped width cs → At width room n held cs 92
backslash_step width room n held cs escaped = ap (λ s. with_front (utf8 held) s) (escaped n) ∙ at_backslash width room n held cs

feed_step : (width room n : ℕ) (held cs : List ℕ) → list_all is_blank held ≡ true → Goes width cs → At width room n held cs 10
feed_step width room n held cs blank goes =
    ap (λ s. with_front (encode_utf8 10) s) (goes width (n + 1) [] refl) ∙ at_feed width room n held (signs_of false cs) blank

return_feed : (width room n : ℕ) (held cs : List ℕ) → list_all is_blank held ≡ true → Goes width (10 ∷ cs) → At width room n held (10 ∷ cs) 13
return_feed width room n held cs blank goes =
    ap (λ s. with_front (encode_utf8 13) s) (goes 0 (n + 1) [] refl) ∙ at_return width room n held (signs_of false cs) blank

return_step : (width room n : ℕ) (held cs : List ℕ) → list_all is_blank held ≡ true → starts_with 10 cs ≡ true → Goes width cs → At width room n held cs 13
return_step width room n held [] blank h goes = absurd (let e : false ≡ true = h in cc)
return_step width room n held (d ∷ cs) blank h goes =
    let e = same d 10 h in
    subst (λ x. At width room n held (x ∷ cs) 13) (sym e) (return_feed width room n held cs blank (subst (λ x. Goes width (x ∷ cs)) e goes))

blank_step : (width room n : ℕ) (held cs : List ℕ) (c : ℕ) → list_all is_blank held ≡ true → is_blank c ≡ true → Goes width cs → At width room n held cs c
blank_step width room n held cs c blank b goes =
    let space : At width room n held cs 32 = goes (room - 1) (n + 1) (held_more room held 32) (held_blank room held 32 blank refl) ∙ at_blank width room n held 32 (signs_of false cs) refl refl in
    let tab : At width room n held cs 9 = goes (room - 8) (n + 1) (held_more room held 9) (held_blank room held 9 blank refl) ∙ at_blank width room n held 9 (signs_of false cs) refl refl in
    elim (either (c == 32) (c == 9) b) [
      | inl e ↦ subst (λ x. At width room n held cs x) (sym (same c 32 e)) space
      | inr e ↦ subst (λ x. At width room n held cs x) (sym (same c 9 e)) tab
    ]

chain : {A : Type 0} (a b d e f g : Bool) (u v w x y z o : A) → a ≡ false → b ≡ false → d ≡ false → e ≡ false → f ≡ false
    → (if a then u else (if b then v else (if d then w else (if e then x else (if f then y else (if g then z else o)))))) ≡ (if g then z else o)
chain a b d e f g u v w x y z o ha hb hd he hf = rw (ha, hb, hd, he, hf) refl

chain_signs : {A : Type 0} (a b d g : Bool) (u v w z o : A) → a ≡ false → b ≡ false → d ≡ false
    → (if a then u else (if b then v else (if d then w else (if g then z else o)))) ≡ (if g then z else o)
chain_signs a b d g u v w z o ha hb hd = rw (ha, hb, hd) refl

plain_by : (g : Bool) (width room n : ℕ) (held cs : List ℕ) (c : ℕ) → is_blank c ≡ false → (c == 10) ≡ false → Goes width cs
    → (if g then with_front (utf8 held ++ encode_utf8 c) (double width 0 [] false (n + 1) cs) else None)
    ≡ string_left width room held n (if g then with_sign (Plain c) (signs_of false cs) else None)
plain_by true width room n held cs c blank feed goes =
    ap (λ s. with_front (utf8 held ++ encode_utf8 c) s) (goes 0 (n + 1) [] refl)
    ∙ solid width room n (n + 1) held (Plain c) (signs_of false cs) blank refl feed
    (λ rest. ap (λ b. if b then (if room == 0 then Plain c ∷ rest else replicate (columns c - room) (Plain 32) ++ cut (room - columns c) rest) else Plain c ∷ rest) blank) refl
plain_by false width room n held cs c blank feed goes = refl

plain_step : (width room n : ℕ) (held cs : List ℕ) (c : ℕ) → (c == 34) ≡ false → (c == 92) ≡ false → (c == 10) ≡ false
    → (c == 13 && starts_with 10 cs) ≡ false → is_blank c ≡ false → Goes width cs → At width room n held cs c
plain_step width room n held cs c quote backslash feed return blank goes =
    chain (c == 34) (c == 92) (c == 10) (c == 13 && starts_with 10 cs) (is_blank c) (is_yang_char c) _ _ _ _ _ _ _ quote backslash feed return blank
    ∙ (plain_by (is_yang_char c) width room n held cs c blank feed goes
    ∙ ap (λ s. string_left width room held n s)
    (sym (chain_signs (c == 34) (c == 92) (c == 13 && starts_with 10 cs) (is_yang_char c) (Some []) (signs_of true cs) (with_sign Return (signs_of false cs)) (with_sign (Plain c) (signs_of false cs)) None quote backslash return)))

step : (width room n : ℕ) (held cs : List ℕ) (c : ℕ) → list_all is_blank held ≡ true → Goes width cs → GoesEscaped width cs → At width room n held cs c
step width room n held cs c blank goes escaped =
    let P : ℕ → Type 0 = λ x. At width room n held cs x in
    elim (bool_cases (c == 34)) [
      | inl e ↦ subst P (sym (same c 34 e)) (close_step width room n held cs)
      | inr quote ↦ elim (bool_cases (c == 92)) [
        | inl e ↦ subst P (sym (same c 92 e)) (backslash_step width room n held cs escaped)
        | inr backslash ↦ elim (bool_cases (c == 10)) [
          | inl e ↦ subst P (sym (same c 10 e)) (feed_step width room n held cs blank goes)
          | inr feed ↦ elim (bool_cases (c == 13 && starts_with 10 cs)) [
            | inl e ↦ (let b = both (c == 13) (starts_with 10 cs) e in subst P (sym (same c 13 b.0)) (return_step width room n held cs blank b.1 goes))
            | inr return ↦ elim (bool_cases (is_blank c)) [
              | inl e ↦ blank_step width room n held cs c blank e goes
              | inr white ↦ plain_step width room n held cs c quote backslash feed return white goes
            ]
          ]
        ]
      ]
    ]

goes_on : (width : ℕ) (cs : List ℕ) → Goes width cs × GoesEscaped width cs
goes_on width [] = (λ room n held blank. refl, λ n. refl)
goes_on width (c ∷ cs) =
    let rest = goes_on width cs in
    (λ room n held blank. step width room n held cs c blank rest.0 rest.1, escaped_step width c cs rest.0)

whole : (width : ℕ) (signs : Option (List Sign))
    → string_left width 0 [] 0 signs
    ≡ elim signs [ None ↦ None | Some signs ↦ Some (record { text = utf8 (map meaning (laid_out width (first_line signs) (later_lines signs))); count = characters_of signs }) ]
whole width None = refl
whole width (Some signs) =
    same_string _ _ _ _ (ap (λ xs. utf8 (map meaning (laid_out width xs (later_lines signs)))) (cut_zero (first_line signs))) (omega arith)

pub streamed : (width : ℕ) (cs : List ℕ) → double width 0 [] false 0 cs ≡ double_string width cs
streamed width cs = (goes_on width cs).0 0 0 [] refl ∙ whole width (signs_of false cs)
