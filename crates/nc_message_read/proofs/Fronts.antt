-- The first token of what is written: names, values, attributes, tags and runs of text.
use Rattle.std.proofs.Common.{◌≡◌, ◌&&◌, ◌+◌, ◌≤◌, ℕ, zero, suc, Bool, true, false, cond, eqb, List, [], ◌∷◌, ◌++◌, length, take, drop, Option, None, Some, option_and_then, refl, ap, ◌∙◌, append_assoc, arith}
use Rattle.std.proofs.Math.Seq.{drop-append_seam, take-append_seam}
use Rattle.std.proofs.lemmas.Bool.Decides.{nat_tests, Decides-eqb}
use Rattle.std.proofs.lemmas.Slice.Eq.{starts_is}
use Rattle.std.specs.List.{flat_map, list_all, prefix_len, starts_with}
use Rattle.std.specs.Str.{chars, is_utf8}
use Rattle.nc_names.proofs.SameLemmas.{first_true, second_true, both_true}
use Rattle.nc_names.specs.Ends.{after_white, past}
use Rattle.nc_names.specs.Signs.{is_white}
use Rattle.nc_message.specs.Bindings.{is_empty}
use Rattle.nc_message.specs.Names.{begins_name, is_in_name, is_in_value}
use Rattle.nc_message.specs.Pieces.{after, attribute, attributes, first_passes, name, part, prepend, quoted, split, value}
use Rattle.nc_message.specs.Texts.{is_allowed, is_char}
use Rattle.nc_message.specs.Tokens.{Name, Attribute}
use Rattle.nc_message.specs.Written.{prefixed}
use Rattle.nc_message_read.specs.ReadBack.{is_name}

pub bind_is : {A B : Type 0} (o : Option A) (f : A → Option B) (x : A) (v : B) → o ≡ Some x → f x ≡ Some v → option_and_then f o ≡ Some v
bind_is o f x v e h = ap (option_and_then f) e ∙ h

-- the bytes that pass end where one does not
pub passes_all : (p : ℕ → Bool) (xs rest : List ℕ) → list_all p xs ≡ true → first_passes p rest ≡ false → prefix_len p (xs ++ rest) ≡ length xs
passes_all p [] [] all stops = refl
passes_all p [] (c ∷ cs) all stops = ap (λ b. cond b (1 + prefix_len p cs) 0) stops
passes_all p (x ∷ xs) rest all stops =
    let below = passes_all p xs rest (second_true (p x) (list_all p xs) all) stops in
    let more : 1 + prefix_len p (xs ++ rest) ≡ suc (length xs) = omega (arith, below) in
    ap (λ b. cond b (1 + prefix_len p (xs ++ rest)) 0) (first_true (p x) (list_all p xs) all) ∙ more

split_seam : (xs ys : List ℕ) → split (length xs) (xs ++ ys) ≡ (xs, ys)
split_seam xs ys =
    ap (λ x. (x, drop (length xs) (xs ++ ys))) (take-append_seam xs ys) ∙ ap (λ y. (xs, y)) (drop-append_seam xs ys)

-- fixed bytes
pub after_is : (bytes rest : List ℕ) → after bytes (bytes ++ rest) ≡ Some rest
after_is bytes rest =
    let test : starts_with eqb (bytes ++ rest) bytes ≡ true = (starts_is Decides-eqb (bytes ++ rest) bytes _ refl).1 rest refl in
    ap (λ b. cond b (Some (drop (length bytes) (bytes ++ rest))) None) test ∙ ap Some (drop-append_seam bytes rest)

-- ---- names
pub name_parts : (n : List ℕ) → is_name n ≡ true → (first_passes begins_name n ≡ true) × (list_all is_in_name n ≡ true) × (is_allowed n ≡ true)
name_parts n h =
    let more = second_true (first_passes begins_name n) (list_all is_in_name n && is_allowed n) h in
    (first_true (first_passes begins_name n) (list_all is_in_name n && is_allowed n) h, first_true (list_all is_in_name n) (is_allowed n) more, second_true (list_all is_in_name n) (is_allowed n) more)

begins_first : (p : ℕ → Bool) (n rest : List ℕ) → first_passes p n ≡ true → first_passes p (n ++ rest) ≡ true
begins_first p [] rest h = cc
begins_first p (c ∷ cs) rest h = h

part_is : (n rest : List ℕ) → is_name n ≡ true → first_passes is_in_name rest ≡ false → part (n ++ rest) ≡ Some (n, rest)
unfolding part
part_is n rest h stops =
    let parts = name_parts n h in
    let count = passes_all is_in_name n rest parts.1 stops in
    let front : take (prefix_len is_in_name (n ++ rest)) (n ++ rest) ≡ n = ap (λ k. take k (n ++ rest)) count ∙ take-append_seam n rest in
    let utf8 : is_utf8 (take (prefix_len is_in_name (n ++ rest)) (n ++ rest)) ≡ true = ap is_utf8 front ∙ first_true (is_utf8 n) (list_all is_char (chars n)) parts.2 in
    ap (λ b. cond b (Some (split (prefix_len is_in_name (n ++ rest)) (n ++ rest))) None)
    (both_true (first_passes begins_name (n ++ rest)) (is_utf8 (take (prefix_len is_in_name (n ++ rest)) (n ++ rest))) (begins_first begins_name n rest parts.0) utf8)
    ∙ ap (λ k. Some (split k (n ++ rest))) count ∙ ap Some (split_seam n rest)

-- after a name stands none of its bytes, and no colon
pub record EndsName (rest : List ℕ) : Type 0 where
  pub stops : first_passes is_in_name rest ≡ false
  pub bare : starts_with eqb rest (58 ∷ []) ≡ false

pub bare_is : (n rest : List ℕ) → is_name n ≡ true → EndsName rest → name (n ++ rest) ≡ Some (record { prefix = []; local = n }, rest)
unfolding name
bare_is n rest h ends =
    bind_is (part (n ++ rest)) _ (n, rest) _ (part_is n rest h ends.stops) (ap (λ b. cond b (option_and_then (λ (q : List ℕ × List ℕ). Some (record { prefix = n; local = q.0 }, q.1)) (part (drop 1 rest))) (Some (record { prefix = []; local = n }, rest))) ends.bare)

prefixed_is : (p n rest : List ℕ) → is_name p ≡ true → is_name n ≡ true → EndsName rest → name (p ++ 58 ∷ (n ++ rest)) ≡ Some (record { prefix = p; local = n }, rest)
unfolding name
prefixed_is p n rest hp hn ends =
    bind_is (part (p ++ 58 ∷ (n ++ rest))) _ (p, 58 ∷ (n ++ rest)) _ (part_is p (58 ∷ (n ++ rest)) hp refl)
    (bind_is (part (n ++ rest)) _ (n, rest) _ (part_is n rest hn ends.stops) refl)

-- a name as it is written
abbrev pub name_text : Name → List ℕ
name_text n = prefixed n.prefix ++ n.local

-- a name whose parts are names, or that has no prefix
abbrev pub IsFree : Name → Type 0
IsFree n = (is_empty n.prefix ≡ false → is_name n.prefix ≡ true) × (is_name n.local ≡ true)

written_is : (prefix local rest : List ℕ) → IsFree (record { prefix = prefix; local = local }) → EndsName rest
    → name (name_text (record { prefix = prefix; local = local }) ++ rest) ≡ Some (record { prefix = prefix; local = local }, rest)
written_is [] local rest free ends = bare_is local rest free.1 ends
written_is (c ∷ cs) local rest free ends =
    ap name (append_assoc (c ∷ cs ++ 58 ∷ []) local rest ∙ append_assoc (c ∷ cs) (58 ∷ []) (local ++ rest)) ∙ prefixed_is (c ∷ cs) local rest (free.0 refl) free.1 ends

name_begins : (prefix local rest : List ℕ) → IsFree (record { prefix = prefix; local = local }) → first_passes begins_name (name_text (record { prefix = prefix; local = local }) ++ rest) ≡ true
name_begins [] local rest free = begins_first begins_name local rest (name_parts local free.1).0
name_begins (c ∷ cs) local rest free = (name_parts (c ∷ cs) (free.0 refl)).0

-- ---- values and attributes
quoted_is : (v rest : List ℕ) → list_all (is_in_value 34) v ≡ true → quoted (34 ∷ (v ++ 34 ∷ rest)) ≡ Some (v, rest)
unfolding quoted value
quoted_is v rest all =
    let whole = v ++ 34 ∷ rest in
    let n = prefix_len (is_in_value 34) whole in
    let count = passes_all (is_in_value 34) v (34 ∷ rest) all refl in
    let front : take n whole ≡ v = ap (λ k. take k whole) count ∙ take-append_seam v (34 ∷ rest) in
    let behind : drop n whole ≡ 34 ∷ rest = ap (λ k. drop k whole) count ∙ drop-append_seam v (34 ∷ rest) in
    bind_is (after (34 ∷ []) (drop n whole)) (λ r. Some (take n whole, r)) rest (v, rest) (ap (after (34 ∷ [])) behind ∙ after_is (34 ∷ []) rest) (ap (λ x. Some (x, rest)) front)

-- an attribute as it is written, after a space
abbrev pub attribute_text : Attribute → List ℕ
attribute_text a = name_text a.name ++ 61 ∷ 34 ∷ (a.value ++ 34 ∷ [])

pub record IsFreeAttribute (a : Attribute) : Type 0 where
  pub free : IsFree a.name
  pub value : list_all (is_in_value 34) a.value ≡ true

equals_ends : (rest : List ℕ) → EndsName (61 ∷ rest)
equals_ends rest = record { stops = refl; bare = refl }

attribute_is : (a : Attribute) (rest : List ℕ) → IsFreeAttribute a → attribute (attribute_text a ++ rest) ≡ Some (a, rest)
unfolding attribute
attribute_is a rest is =
    let after_name = 61 ∷ 34 ∷ (a.value ++ 34 ∷ rest) in
    let whole : attribute_text a ++ rest ≡ name_text a.name ++ after_name =
    append_assoc (name_text a.name) (61 ∷ 34 ∷ (a.value ++ 34 ∷ [])) rest ∙ ap (λ l. name_text a.name ++ 61 ∷ 34 ∷ l) (append_assoc a.value (34 ∷ []) rest) in
    ap attribute whole
    ∙ bind_is (name (name_text a.name ++ after_name)) _ (a.name, after_name) _ (written_is a.name.prefix a.name.local after_name is.free (equals_ends (34 ∷ (a.value ++ 34 ∷ rest))))
    (bind_is (quoted (34 ∷ (a.value ++ 34 ∷ rest))) _ (a.value, rest) _ (quoted_is a.value rest is.value) refl)

-- attributes, each after a space
abbrev pub attributes_text : List Attribute → List ℕ
attributes_text found = flat_map (λ a. 32 ∷ attribute_text a) found

-- all of them are as they may be written
abbrev pub AreFree : List Attribute → Type 0
AreFree [] = Unit {0}
AreFree (a ∷ more) = IsFreeAttribute a × AreFree more

white_none : (text : List ℕ) → first_passes begins_name text ≡ true → first_passes is_white text ≡ false
white_none [] h = refl
white_none (c ∷ cs) h = no_white c h
  where
    no_white : (c : ℕ) → begins_name c ≡ true → is_white c ≡ false
    no_white c h = grind (arith, nat_tests)

no_white_before : (text : List ℕ) → first_passes is_white text ≡ false → after_white text ≡ text
no_white_before [] h = refl
no_white_before (c ∷ cs) h = ap (λ b. cond b (past is_white cs) (c ∷ cs)) h

space_before : (text : List ℕ) → first_passes is_white text ≡ false → after_white (32 ∷ text) ≡ text
space_before text h = no_white_before text h

-- what follows the attributes of a tag
pub record EndsTag (rest : List ℕ) : Type 0 where
  pub white : first_passes is_white rest ≡ false
  pub begins : first_passes begins_name rest ≡ false

pub attributes_are : (found : List Attribute) (rest : List ℕ) (fuel : ℕ) → AreFree found → EndsTag rest → length found ≤ fuel → attributes (suc fuel) (attributes_text found ++ rest) ≡ Some (found, rest)
attributes_are [] rest fuel free ends enough =
    let none = no_white_before rest ends.white in
    ap (λ text. cond (first_passes begins_name text) (cond (first_passes is_white rest) (option_and_then (λ (a : Attribute × List ℕ). prepend (a.0 ∷ []) (attributes fuel a.1)) (attribute text)) None) (Some ([], text))) none
    ∙ ap (λ b. cond b (cond (first_passes is_white rest) (option_and_then (λ (a : Attribute × List ℕ). prepend (a.0 ∷ []) (attributes fuel a.1)) (attribute rest)) None) (Some ([], rest))) ends.begins
attributes_are (a ∷ more) rest zero free ends enough = absurd (none enough)
  where
    none : suc (length more) ≤ 0 → ⊥
    none h = omega (arith, h)
attributes_are (a ∷ more) rest (suc fuel) free ends enough =
    let behind = attributes_text more ++ rest in
    let tail : attributes_text (a ∷ more) ++ rest ≡ 32 ∷ (attribute_text a ++ behind) = ap (λ l. 32 ∷ l) (append_assoc (attribute_text a) (attributes_text more) rest) in
    let begins : first_passes begins_name (attribute_text a ++ behind) ≡ true =
    ap (first_passes begins_name) (append_assoc (name_text a.name) (61 ∷ 34 ∷ (a.value ++ 34 ∷ [])) behind) ∙ name_begins a.name.prefix a.name.local _ free.0.free in
    let skipped = space_before (attribute_text a ++ behind) (white_none (attribute_text a ++ behind) begins) in
    let step : ◌≡◌ {A = Option (List Attribute × List ℕ)} (attributes (suc (suc fuel)) (32 ∷ (attribute_text a ++ behind))) (prepend (a ∷ []) (attributes (suc fuel) behind)) =
    ap (λ text. cond (first_passes begins_name text) (option_and_then (λ (x : Attribute × List ℕ). prepend (x.0 ∷ []) (attributes (suc fuel) x.1)) (attribute text)) (Some ([], text))) skipped
    ∙ ap (λ b. cond b (option_and_then (λ (x : Attribute × List ℕ). prepend (x.0 ∷ []) (attributes (suc fuel) x.1)) (attribute (attribute_text a ++ behind))) (Some ([], attribute_text a ++ behind))) begins
    ∙ ap (option_and_then (λ (x : Attribute × List ℕ). prepend (x.0 ∷ []) (attributes (suc fuel) x.1))) (attribute_is a behind free.0) in
    let less : length more ≤ fuel = omega (arith, enough) in
    ap (attributes (suc (suc fuel))) tail ∙ step ∙ ap (prepend (a ∷ [])) (attributes_are more rest fuel free.1 ends less)
