-- A written start tag opens the element that it was written for.
use Rattle.std.proofs.Common.{◌≡◌, ◌&&◌, ◌||◌, ℕ, suc, Bool, true, false, not, cond, List, [], ◌∷◌, ◌++◌, map, Option, None, Some, option_and_then, refl, sym, ap, ◌∙◌, append-nil, append_assoc, arith}
use Rattle.std.specs.Prelude.{codes}
use Rattle.std.specs.List.{All, AllPairs, flat_map, list_all, list_any}
use Rattle.std.specs.Str.{bytes_eq, chars, is_utf8, IsAscii}
use Rattle.std.proofs.lemmas.List.Elements.{All-head, All-tail}
use Rattle.std.proofs.lemmas.List.Folds.{list_any-append}
use Rattle.std.proofs.lemmas.Grind.{flat_map-append}
use Rattle.std.proofs.lemmas.Slice.Eq.{bytes_eq-Decides}
use Rattle.std.specs.Cmp.Lexicographic.{bytes_decides}
use Rattle.std.proofs.lemmas.Str.{chars-nil, chars-IsAscii, IsUtf8-from_ascii}
use Rattle.std.proofs.lemmas.Str.Ascii.{IsAscii-cons, IsAscii-nil}
use Rattle.nc_names.proofs.SameLemmas.{second_true, both_true}
use Rattle.nc_names.specs.Bindings.{space_of}
use Rattle.nc_names.specs.Same.{is_same_text}
use Rattle.nc_names.specs.declared.name.Bound.{Bound}
use Rattle.nc_names.specs.declared.name.QName.{QName}
use Rattle.nc_message.specs.declared.tree.Attr.{Attr}
use Rattle.nc_message.specs.declared.tree.Part.{Part}
use Rattle.nc_message.specs.Bindings.{Declared, declares, is_empty}
use Rattle.nc_message.specs.Marks.{default_namespace, prefixed_namespace, value_start}
use Rattle.nc_message.specs.Resolved.{bind, declare, declared, is_allowed_name, is_declaration, is_reserved, nothing}
use Rattle.nc_message.specs.Texts.{is_allowed, is_char, value_of}
use Rattle.nc_message.specs.Tokens.{Attribute}
use Rattle.nc_message.specs.Written.{attribute, declaration, declarations, default_declaration, is_declarable, prefix_declaration, quoted, start_of, uses, value_char}
use Rattle.nc_message_read.specs.ReadBack.{AgreeOn, IsDeclarable, IsProperAttr, IsProperUse, first_uses, is_first_use, is_name, own_default}
use Rattle.nc_message_read.proofs.Escaped.{value_is_read}
use Rattle.nc_message_read.proofs.Fronts.{IsFree, attribute_text, attributes_text, name_parts}
use Rattle.nc_message_read.proofs.Utf8.{utf8_yes}

-- ---- the attributes of a written start tag, with its declarations
abbrev pub default_attributes : (above space : List ℕ) → List Attribute
default_attributes above space = cond (bytes_eq above space) [] (record { name = record { prefix = []; local = codes "xmlns" }; value = flat_map value_char space } ∷ [])

abbrev pub prefix_attribute : Bound → Attribute
prefix_attribute b = record { name = record { prefix = codes "xmlns"; local = b.prefix }; value = flat_map value_char b.space }

abbrev pub attribute_of : Attr → Attribute
attribute_of a = record { name = record { prefix = a.prefix; local = a.name.name }; value = flat_map value_char a.value }

abbrev pub tag_attributes : (above : List ℕ) → QName → List Bound → List Attr → List Part → List Attribute
tag_attributes above name bounds attrs parts =
    default_attributes above name.space ++ (map prefix_attribute (first_uses [] (uses bounds attrs parts)) ++ map attribute_of attrs)

-- they are what is written
default_text : (above space : List ℕ) → default_declaration above space ≡ attributes_text (default_attributes above space)
unfolding default_namespace value_start
default_text above space = at (bytes_eq above space)
  where
    at : (b : Bool) → cond b [] (default_namespace ++ quoted space) ≡ attributes_text (cond b [] (record { name = record { prefix = []; local = codes "xmlns" }; value = flat_map value_char space } ∷ []))
    at true = refl
    at false = sym (append-nil (default_namespace ++ quoted space))

one_declaration : (b : Bound) → prefix_declaration b ≡ 32 ∷ attribute_text (prefix_attribute b)
unfolding prefixed_namespace value_start
one_declaration b = refl

declarations_text : (seen : List (List ℕ)) (us : List Bound) → declarations seen us ≡ attributes_text (map prefix_attribute (first_uses seen us))
declarations_text seen [] = refl
declarations_text seen (u ∷ us) =
    ap (λ l. declaration seen u ++ l) (declarations_text (seen ++ u.prefix ∷ []) us) ∙ at (is_declarable u.prefix) (list_any (bytes_eq u.prefix) seen)
  where
    at : (b c : Bool) → cond b (cond c [] (prefix_declaration u)) [] ++ attributes_text (map prefix_attribute (first_uses (seen ++ u.prefix ∷ []) us))
        ≡ attributes_text (map prefix_attribute (cond (b && not c) (u ∷ []) [] ++ first_uses (seen ++ u.prefix ∷ []) us))
    at true true = refl
    at false c = refl
    at true false = ap (λ l. l ++ attributes_text (map prefix_attribute (first_uses (seen ++ u.prefix ∷ []) us))) (one_declaration u)

one_attribute : (a : Attr) → attribute a ≡ 32 ∷ attribute_text (attribute_of a)
unfolding value_start
one_attribute a = refl

attrs_text : (attrs : List Attr) → flat_map attribute attrs ≡ attributes_text (map attribute_of attrs)
attrs_text [] = refl
attrs_text (a ∷ more) = ap (λ l. l ++ flat_map attribute more) (one_attribute a) ∙ ap (λ l. (32 ∷ attribute_text (attribute_of a)) ++ l) (attrs_text more)

pub start_text_is : (above : List ℕ) (name : QName) (bounds : List Bound) (attrs : List Attr) (parts : List Part)
    → start_of above name bounds attrs parts ≡ 60 ∷ (name.name ++ attributes_text (tag_attributes above name bounds attrs parts))
start_text_is above name bounds attrs parts =
    let dd = default_attributes above name.space in
    let pd = map prefix_attribute (first_uses [] (uses bounds attrs parts)) in
    let aa = map attribute_of attrs in
    let split : attributes_text (dd ++ (pd ++ aa)) ≡ attributes_text dd ++ (attributes_text pd ++ attributes_text aa) =
    flat_map-append (λ a. 32 ∷ attribute_text a) dd (pd ++ aa) ∙ ap (λ l. attributes_text dd ++ l) (flat_map-append (λ a. 32 ∷ attribute_text a) pd aa) in
    ap (λ l. 60 ∷ l) (
    ap (λ l. ((name.name ++ l) ++ declarations [] (uses bounds attrs parts)) ++ flat_map attribute attrs) (default_text above name.space)
    ∙ ap (λ l. ((name.name ++ attributes_text dd) ++ l) ++ flat_map attribute attrs) (declarations_text [] (uses bounds attrs parts))
    ∙ ap (λ l. ((name.name ++ attributes_text dd) ++ attributes_text pd) ++ l) (attrs_text attrs)
    ∙ append_assoc (name.name ++ attributes_text dd) (attributes_text pd) (attributes_text aa)
    ∙ append_assoc name.name (attributes_text dd) (attributes_text pd ++ attributes_text aa)
    ∙ ap (λ l. name.name ++ l) (sym split))

-- ---- names may stand in a message
xmlns_ascii : IsAscii (codes "xmlns")
xmlns_ascii =
    IsAscii-cons 120 (codes "mlns") (omega arith) (IsAscii-cons 109 (codes "lns") (omega arith) (IsAscii-cons 108 (codes "ns") (omega arith)
    (IsAscii-cons 110 (codes "s") (omega arith) (IsAscii-cons 115 [] (omega arith) IsAscii-nil))))

xml_ascii : IsAscii (codes "xml")
xml_ascii = IsAscii-cons 120 (codes "ml") (omega arith) (IsAscii-cons 109 (codes "l") (omega arith) (IsAscii-cons 108 [] (omega arith) IsAscii-nil))

ascii_allowed : (text : List ℕ) → IsAscii text → list_all is_char text ≡ true → is_allowed text ≡ true
ascii_allowed text ascii all =
    both_true (is_utf8 text) (list_all is_char (chars text)) (utf8_yes text (IsUtf8-from_ascii text ascii)) (ap (list_all is_char) (chars-IsAscii text ascii) ∙ all)

pub xmlns_is_name : is_name (codes "xmlns") ≡ true
xmlns_is_name = ascii_allowed (codes "xmlns") xmlns_ascii refl

pub xml_is_name : is_name (codes "xml") ≡ true
xml_is_name = ascii_allowed (codes "xml") xml_ascii refl

name_chars : (n : List ℕ) → is_name n ≡ true → list_all is_char (chars n) ≡ true
name_chars n named = second_true (is_utf8 n) (list_all is_char (chars n)) (name_parts n named).2

nothing_chars : list_all is_char (chars []) ≡ true
nothing_chars = ap (list_all is_char) chars-nil

pub free_allowed : (prefix local : List ℕ) → IsFree (record { prefix = prefix; local = local }) → is_allowed_name (record { prefix = prefix; local = local }) ≡ true
free_allowed [] local free = both_true (list_all is_char (chars [])) (list_all is_char (chars local)) nothing_chars (name_chars local free.1)
free_allowed (c ∷ cs) local free =
    both_true (list_all is_char (chars (c ∷ cs))) (list_all is_char (chars local)) (name_chars (c ∷ cs) (free.0 refl)) (name_chars local free.1)

-- ---- what is used
-- so it is with each
abbrev pub Each : {X : Type 0} → (X → Type 0) → List X → Type 0
Each P [] = Unit {0}
Each P (x ∷ xs) = P x × Each P xs

pub each_of : {X : Type 0} (P : X → Type 0) (xs : List X) → All P xs → Each P xs
each_of P [] all = tt
each_of P (x ∷ xs) all = (All-head P x xs all, each_of P xs (All-tail P x xs all))

pub each_front : {X : Type 0} (P : X → Type 0) (xs ys : List X) → Each P (xs ++ ys) → Each P xs
each_front P [] ys each = tt
each_front P (x ∷ xs) ys each = (each.0, each_front P xs ys each.1)

abbrev pub Agree : List Bound → Type 0
Agree [] = Unit {0}
Agree (u ∷ us) = Each (AgreeOn u) us × Agree us

pub agree_of : (us : List Bound) → AllPairs AgreeOn us → Agree us
agree_of [] pairs = tt
agree_of (u ∷ us) pairs = (each_of (AgreeOn u) us (λ k d less. pairs 0 (suc k) d (omega arith) (omega (arith, less))), agree_of us (λ i j d less within. pairs (suc i) (suc j) d (omega (arith, less)) (omega (arith, within))))

pub same_is : (a b : List ℕ) → is_same_text a b ≡ true → a ≡ b
same_is a b e = (bytes_decides a b).0 e

pub same_itself : (a : List ℕ) → is_same_text a a ≡ true
same_itself a = (bytes_decides a a).1 refl

-- the two tests say the same
pub eq_is_same : (a b : List ℕ) → bytes_eq a b ≡ is_same_text a b
eq_is_same a b = at (is_same_text a b) refl
  where
    other : (d : Bool) → bytes_eq a b ≡ d → is_same_text a b ≡ false → d ≡ false
    other false e f = refl
    other true e f = let same : a ≡ b = (bytes_eq-Decides a b).0 e in let clash : true ≡ false = sym ((bytes_decides a b).1 same) ∙ f in cc

    at : (c : Bool) → is_same_text a b ≡ c → bytes_eq a b ≡ c
    at true e = (bytes_eq-Decides a b).1 (same_is a b e)
    at false e = other (bytes_eq a b) refl e

-- the first use of a prefix has its namespace
abbrev pub Finds : List (List ℕ) → List Bound → Bound → Type 0
Finds seen us u = is_declarable u.prefix ≡ true → list_any (bytes_eq u.prefix) seen ≡ false → space_of u.prefix (first_uses seen us) ≡ Some u.space

seen_more : (p q : List ℕ) (seen : List (List ℕ)) → list_any (bytes_eq p) seen ≡ false → is_same_text p q ≡ false → list_any (bytes_eq p) (seen ++ q ∷ []) ≡ false
seen_more p q seen before apart =
    list_any-append (bytes_eq p) seen (q ∷ []) ∙ ap (λ b. b || (bytes_eq p q || false)) before ∙ ap (λ b. b || false) (eq_is_same p q ∙ apart)

-- one use of another prefix in front changes nothing
other_first : (p : List ℕ) (u : Bound) (test : Bool) (rest : List Bound) → is_same_text p u.prefix ≡ false → space_of p (cond test (u ∷ []) [] ++ rest) ≡ space_of p rest
other_first p u true rest apart = ap (λ b. cond b (Some u.space) (space_of p rest)) apart
other_first p u false rest apart = refl

first_is : (seen : List (List ℕ)) (u : Bound) → is_declarable u.prefix ≡ true → list_any (bytes_eq u.prefix) seen ≡ false → is_first_use seen u ≡ true
first_is seen u able new = both_true (is_declarable u.prefix) (not (list_any (bytes_eq u.prefix) seen)) able (ap not new)

found_here : (seen : List (List ℕ)) (u : Bound) (us : List Bound) → Finds seen (u ∷ us) u
found_here seen u us able new =
    ap (λ b. space_of u.prefix (cond b (u ∷ []) [] ++ first_uses (seen ++ u.prefix ∷ []) us)) (first_is seen u able new)
    ∙ ap (λ b. cond b (Some u.space) (space_of u.prefix (first_uses (seen ++ u.prefix ∷ []) us))) (same_itself u.prefix)

found_later : (seen : List (List ℕ)) (u v : Bound) (us : List Bound) → AgreeOn u v → Finds (seen ++ u.prefix ∷ []) us v → Finds seen (u ∷ us) v
found_later seen u v us agree later able new = at (is_same_text v.prefix u.prefix) refl
  where
    at : (b : Bool) → is_same_text v.prefix u.prefix ≡ b → space_of v.prefix (first_uses seen (u ∷ us)) ≡ Some v.space
    at true e =
        let same : u.prefix ≡ v.prefix = sym (same_is v.prefix u.prefix e) in
        let here = found_here seen u us (ap is_declarable same ∙ able) (ap (λ p. list_any (bytes_eq p) seen) same ∙ new) in
        ap (λ p. space_of p (first_uses seen (u ∷ us))) (sym same) ∙ here ∙ ap Some (agree (ap (is_same_text u.prefix) (sym same) ∙ same_itself u.prefix))
    at false e = other_first v.prefix u (is_first_use seen u) (first_uses (seen ++ u.prefix ∷ []) us) e ∙ later able (seen_more v.prefix u.prefix seen new e)

each_later : (seen : List (List ℕ)) (u : Bound) (us vs : List Bound) → Each (AgreeOn u) vs → Each (Finds (seen ++ u.prefix ∷ []) us) vs → Each (Finds seen (u ∷ us)) vs
each_later seen u us [] agree later = tt
each_later seen u us (v ∷ vs) agree later = (found_later seen u v us agree.0 later.0, each_later seen u us vs agree.1 later.1)

pub all_found : (seen : List (List ℕ)) (us : List Bound) → Agree us → Each (Finds seen us) us
all_found seen [] agree = tt
all_found seen (u ∷ us) agree = (found_here seen u us, each_later seen u us us agree.0 (all_found (seen ++ u.prefix ∷ []) us agree.1))

-- what has a namespace among bindings is one of them
pub bound_is_there : (p space : List ℕ) (bs : List Bound) → space_of p bs ≡ Some space → list_any (λ b. is_same_text p b.prefix) bs ≡ true
bound_is_there p space [] e = cc
bound_is_there p space (b ∷ bs) e = at (is_same_text p b.prefix) e (bound_is_there p space bs)
  where
    at : (c : Bool) → cond c (Some b.space) (space_of p bs) ≡ Some space → (space_of p bs ≡ Some space → list_any (λ b. is_same_text p b.prefix) bs ≡ true) → (c || list_any (λ b. is_same_text p b.prefix) bs) ≡ true
    at true e more = refl
    at false e more = more e

-- an empty prefix is the first use of none
pub none_empty : (seen : List (List ℕ)) (us : List Bound) → list_any (λ b. is_same_text [] b.prefix) (first_uses seen us) ≡ false
none_empty seen [] = refl
none_empty seen (u ∷ us) =
    list_any-append (λ b. is_same_text [] b.prefix) (cond (is_first_use seen u) (u ∷ []) []) (first_uses (seen ++ u.prefix ∷ []) us)
    ∙ ap (λ b. list_any (λ (b : Bound). is_same_text [] b.prefix) (cond (is_first_use seen u) (u ∷ []) []) || b) (none_empty (seen ++ u.prefix ∷ []) us)
    ∙ at u.prefix (list_any (bytes_eq u.prefix) seen)
  where
    at : (p : List ℕ) (c : Bool) → (list_any (λ (b : Bound). is_same_text [] b.prefix) (cond (is_declarable p && not c) (record { prefix = p; space = u.space } ∷ []) []) || false) ≡ false
    at [] c = refl
    at (d ∷ ds) c = test (is_declarable (d ∷ ds) && not c)
      where
        test : (b : Bool) → (list_any (λ (b : Bound). is_same_text [] b.prefix) (cond b (record { prefix = d ∷ ds; space = u.space } ∷ []) []) || false) ≡ false
        test true = refl
        test false = refl

-- ---- what the tag declares
pub declared_append : (d e : Declared) (xs ys : List Attribute) → declared d xs ≡ Some e → declared d (xs ++ ys) ≡ declared e ys
declared_append d e [] ys is = let same : d ≡ e = cc is in ap (λ f. declared f ys) same
declared_append d e (a ∷ xs) ys is = at (is_declaration a.name) is (λ f more. declared_append f e xs ys more)
  where
    bound : (o : Option Declared) → option_and_then (λ f. declared f xs) o ≡ Some e → ((f : Declared) → declared f xs ≡ Some e → declared f (xs ++ ys) ≡ declared e ys)
        → option_and_then (λ f. declared f (xs ++ ys)) o ≡ declared e ys
    bound None is more = cc
    bound (Some f) is more = more f is

    at : (b : Bool) → cond b (option_and_then (λ f. declared f xs) (declare d a)) (declared d xs) ≡ Some e → ((f : Declared) → declared f xs ≡ Some e → declared f (xs ++ ys) ≡ declared e ys)
        → cond b (option_and_then (λ f. declared f (xs ++ ys)) (declare d a)) (declared d (xs ++ ys)) ≡ declared e ys
    at true is more = bound (declare d a) is more
    at false is more = more d is

-- the default namespace
abbrev pub default_of : (above space : List ℕ) → Declared
default_of above space = record { own = own_default above space; undeclares = not (bytes_eq above space) && is_empty space }

pub default_declared : (above space : List ℕ) → is_allowed space ≡ true → declared nothing (default_attributes above space) ≡ Some (default_of above space)
default_declared above space allowed = at (bytes_eq above space)
  where
    by : (space : List ℕ) → value_of (flat_map value_char space) ≡ Some space
        → option_and_then (λ (d : Declared). Some d) (option_and_then (bind nothing []) (value_of (flat_map value_char space)))
        ≡ Some (record { own = cond (is_empty space) [] (record { prefix = []; space = space } ∷ []); undeclares = is_empty space })
    by [] read = ap (λ o. option_and_then (λ (d : Declared). Some d) (option_and_then (bind nothing []) o)) read
    by (c ∷ cs) read = ap (λ o. option_and_then (λ (d : Declared). Some d) (option_and_then (bind nothing []) o)) read

    at : (b : Bool) → declared nothing (cond b [] (record { name = record { prefix = []; local = codes "xmlns" }; value = flat_map value_char space } ∷ []))
        ≡ Some (record { own = cond b [] (cond (is_empty space) [] (record { prefix = []; space = space } ∷ [])); undeclares = not b && is_empty space })
    at true = refl
    at false = by space (value_is_read space allowed)

-- what is declared so far was seen
abbrev pub Known : Declared → List (List ℕ) → Type 0
Known d seen = (q : List ℕ) → is_empty q ≡ false → list_any (λ b. is_same_text q b.prefix) d.own ≡ true → list_any (bytes_eq q) seen ≡ true

not_declared : (d : Declared) (seen : List (List ℕ)) (c : ℕ) (cs : List ℕ) → Known d seen → list_any (bytes_eq (c ∷ cs)) seen ≡ false → declares d (c ∷ cs) ≡ false
not_declared d seen c cs known new = at (list_any (λ b. is_same_text (c ∷ cs) b.prefix) d.own) refl
  where
    last : (b : Bool) → (false || (b && false)) ≡ false
    last true = refl
    last false = refl

    at : (b : Bool) → list_any (λ x. is_same_text (c ∷ cs) x.prefix) d.own ≡ b → (b || (d.undeclares && is_empty (c ∷ cs))) ≡ false
    at true e = let clash : true ≡ false = sym (known (c ∷ cs) refl e) ∙ new in cc
    at false e = last d.undeclares

one_bound : (d : Declared) (seen : List (List ℕ)) (prefix space : List ℕ) → Known d seen → list_any (bytes_eq prefix) seen ≡ false → is_declarable prefix ≡ true
    → IsDeclarable (record { prefix = prefix; space = space }) → bind d prefix space ≡ Some (record { own = d.own ++ record { prefix = prefix; space = space } ∷ []; undeclares = d.undeclares })
one_bound d seen [] space known new able proper = cc
one_bound d seen (c ∷ cs) space known new able proper =
    ap (λ b. cond (b || is_reserved (c ∷ cs) space) None (cond (is_empty space) None (Some (record { own = d.own ++ record { prefix = c ∷ cs; space = space } ∷ []; undeclares = d.undeclares }))))
    (not_declared d seen c cs known new)
    ∙ ap (λ b. cond b None (cond (is_empty space) None (Some (record { own = d.own ++ record { prefix = c ∷ cs; space = space } ∷ []; undeclares = d.undeclares })))) proper.free
    ∙ ap (λ b. cond b None (Some (record { own = d.own ++ record { prefix = c ∷ cs; space = space } ∷ []; undeclares = d.undeclares }))) proper.some

or_true : (a : Bool) → (a || true) ≡ true
or_true true = refl
or_true false = refl

known_more : (d : Declared) (seen : List (List ℕ)) (p : List ℕ) → Known d seen → Known d (seen ++ p ∷ [])
known_more d seen p known q some there =
    list_any-append (bytes_eq q) seen (p ∷ []) ∙ ap (λ b. b || (bytes_eq q p || false)) (known q some there)

known_with : (d : Declared) (seen : List (List ℕ)) (b : Bound) → Known d seen → Known (record { own = d.own ++ b ∷ []; undeclares = d.undeclares }) (seen ++ b.prefix ∷ [])
known_with d seen b known q some there = at (list_any (λ x. is_same_text q x.prefix) d.own) refl
  where
    whole : (list_any (λ x. is_same_text q x.prefix) d.own || (is_same_text q b.prefix || false)) ≡ true
    whole = sym (list_any-append (λ x. is_same_text q x.prefix) d.own (b ∷ [])) ∙ there

    same : (e : Bool) → (false || (e || false)) ≡ true → e ≡ true
    same true h = refl
    same false h = cc

    at : (c : Bool) → list_any (λ x. is_same_text q x.prefix) d.own ≡ c → list_any (bytes_eq q) (seen ++ b.prefix ∷ []) ≡ true
    at true e = list_any-append (bytes_eq q) seen (b.prefix ∷ []) ∙ ap (λ t. t || (bytes_eq q b.prefix || false)) (known q some e)
    at false e =
        list_any-append (bytes_eq q) seen (b.prefix ∷ [])
        ∙ ap (λ t. list_any (bytes_eq q) seen || (t || false)) (eq_is_same q b.prefix ∙ same (is_same_text q b.prefix) (sym (ap (λ t. t || (is_same_text q b.prefix || false)) e) ∙ whole))
        ∙ or_true (list_any (bytes_eq q) seen)

pub prefixes_declared : (d : Declared) (seen : List (List ℕ)) (us : List Bound) → Known d seen → Each IsProperUse us
    → declared d (map prefix_attribute (first_uses seen us)) ≡ Some (record { own = d.own ++ first_uses seen us; undeclares = d.undeclares })
prefixes_declared d seen [] known proper = ap (λ l. Some (record { own = l; undeclares = d.undeclares })) (sym (append-nil d.own))
prefixes_declared d seen (u ∷ us) known proper =
    at (is_declarable u.prefix) (list_any (bytes_eq u.prefix) seen) refl refl
    (prefixes_declared d (seen ++ u.prefix ∷ []) us (known_more d seen u.prefix known) proper.1)
    (prefixes_declared (record { own = d.own ++ u ∷ []; undeclares = d.undeclares }) (seen ++ u.prefix ∷ []) us (known_with d seen u known) proper.1)
  where
    at : (able old : Bool) → is_declarable u.prefix ≡ able → list_any (bytes_eq u.prefix) seen ≡ old
        → declared d (map prefix_attribute (first_uses (seen ++ u.prefix ∷ []) us)) ≡ Some (record { own = d.own ++ first_uses (seen ++ u.prefix ∷ []) us; undeclares = d.undeclares })
        → declared (record { own = d.own ++ u ∷ []; undeclares = d.undeclares }) (map prefix_attribute (first_uses (seen ++ u.prefix ∷ []) us))
        ≡ Some (record { own = (d.own ++ u ∷ []) ++ first_uses (seen ++ u.prefix ∷ []) us; undeclares = d.undeclares })
        → declared d (map prefix_attribute (cond (able && not old) (u ∷ []) [] ++ first_uses (seen ++ u.prefix ∷ []) us))
        ≡ Some (record { own = d.own ++ (cond (able && not old) (u ∷ []) [] ++ first_uses (seen ++ u.prefix ∷ []) us); undeclares = d.undeclares })
    at false old able new skip take = skip
    at true true able new skip take = skip
    at true false able new skip take =
        let proper_use = proper.0 able in
        ap (option_and_then (λ e. declared e (map prefix_attribute (first_uses (seen ++ u.prefix ∷ []) us))))
        (ap (option_and_then (bind d u.prefix)) (value_is_read u.space proper_use.space) ∙ one_bound d seen u.prefix u.space known new able proper_use)
        ∙ take ∙ ap (λ l. Some (record { own = l; undeclares = d.undeclares })) (append_assoc d.own (u ∷ []) (first_uses (seen ++ u.prefix ∷ []) us))

pub attrs_declare_nothing : (d : Declared) (attrs : List Attr) → Each IsProperAttr attrs → declared d (map attribute_of attrs) ≡ Some d
attrs_declare_nothing d [] proper = refl
attrs_declare_nothing d (a ∷ more) proper =
    ap (λ b. cond b (option_and_then (λ e. declared e (map attribute_of more)) (declare d (attribute_of a))) (declared d (map attribute_of more))) proper.0.apart ∙ attrs_declare_nothing d more proper.1
