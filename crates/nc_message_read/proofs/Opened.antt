-- A written start tag opens the element that it was written for.
use Rattle.std.proofs.Common.{◌≡◌, ◌&&◌, ◌||◌, ℕ, Bool, true, false, not, cond, List, [], ◌∷◌, ◌++◌, map, None, Some, option_and_then, refl, sym, ap, ◌∙◌}
use Rattle.std.specs.Prelude.{codes, is_some, option_map}
use Rattle.std.specs.List.{filter, flat_map, list_all, list_any}
use Rattle.std.specs.Str.{bytes_eq}
use Rattle.std.proofs.lemmas.Slice.Eq.{bytes_eq-Decides}
use Rattle.nc_names.proofs.SameLemmas.{both_true}
use Rattle.nc_names.specs.Bindings.{space_of}
use Rattle.nc_names.specs.Same.{is_same_text}
use Rattle.nc_names.specs.declared.name.Bound.{Bound}
use Rattle.nc_names.specs.declared.name.QName.{QName}
use Rattle.nc_message.specs.declared.tree.Attr.{Attr}
use Rattle.nc_message.specs.declared.tree.Part.{Part}
use Rattle.nc_message.specs.Bindings.{Declared, declares, inside, is_empty}
use Rattle.nc_message.specs.Marks.{xml_prefix}
use Rattle.nc_message.specs.Resolved.{Head, are_allowed_names, attr_of, attr_space, attrs_of, declared, default_space, differ_from, has_unbound, head_of, is_allowed_name, is_declaration, is_declared_by, is_reserved, is_unbound, is_xml, is_xmlns, nothing, opened, opened_in, space_for, xml_space}
use Rattle.nc_message.specs.Texts.{onto, value_of}
use Rattle.nc_message.specs.Tokens.{Attribute}
use Rattle.nc_message.specs.Written.{is_declarable, use_of, uses, value_char}
use Rattle.nc_message_read.specs.ReadBack.{IsProperAttr, IsProperElem, IsProperUse, declared_in, first_uses, is_name, own_default}
use Rattle.nc_message_read.proofs.Escaped.{value_in_marks, value_is_read}
use Rattle.nc_message_read.proofs.Fronts.{AreFree, IsFreeAttribute}
use Rattle.nc_message_read.proofs.Opening.{Each, Finds, Known, agree_of, all_found, attribute_of, attrs_declare_nothing, bound_is_there, declared_append, default_attributes, default_declared, default_of, each_front, each_of, eq_is_same, free_allowed, none_empty, prefix_attribute, prefixes_declared, same_is, tag_attributes, xml_is_name, xmlns_is_name}
use Rattle.nc_message_read.proofs.Tagged.{tag_of}

default_known : (above space : List ℕ) → Known (default_of above space) []
default_known above space q some there = at q some (bytes_eq above space) space there
  where
    at : (q : List ℕ) → is_empty q ≡ false → (b : Bool) (space : List ℕ) → list_any (λ (x : Bound). is_same_text q x.prefix) (cond b [] (cond (is_empty space) [] (record { prefix = []; space = space } ∷ []))) ≡ true → false ≡ true
    at q some true space there = there
    at q some false [] there = there
    at [] some false (c ∷ cs) there = sym some
    at (d ∷ ds) some false (c ∷ cs) there = there

-- what a written tag declares
pub tag_declares : (above : List ℕ) (name : QName) (bounds : List Bound) (attrs : List Attr) (parts : List Part) → IsProperElem name bounds attrs parts
    → declared nothing (tag_attributes above name bounds attrs parts) ≡ Some (declared_in above name bounds attrs parts)
tag_declares above name bounds attrs parts proper =
    let us = uses bounds attrs parts in
    let pd = map prefix_attribute (first_uses [] us) in
    let aa = map attribute_of attrs in
    let all = declared_in above name bounds attrs parts in
    declared_append nothing (default_of above name.space) (default_attributes above name.space) (pd ++ aa) (default_declared above name.space proper.space)
    ∙ declared_append (default_of above name.space) all pd aa (prefixes_declared (default_of above name.space) [] us (default_known above name.space) (each_of IsProperUse us proper.used))
    ∙ attrs_declare_nothing all attrs (each_of IsProperAttr attrs proper.proper)

-- ---- prefixes of attributes
-- an attribute has no prefix, that of XML, or one that is declared at its use
data PrefixOf (a : Attr) : Type 0 where
  none : is_empty a.prefix ≡ true → PrefixOf a
  xml : is_empty a.prefix ≡ false → is_xml a.prefix ≡ true → PrefixOf a
  used : is_empty a.prefix ≡ false → is_xml a.prefix ≡ false → is_declarable a.prefix ≡ true → PrefixOf a

declarable_is : (p : List ℕ) → is_empty p ≡ false → is_xml p ≡ false → is_declarable p ≡ true
unfolding xml_prefix
declarable_is [] some other = cc
declarable_is (c ∷ cs) some other = ap (λ b. cond b false true) (eq_is_same (c ∷ cs) (codes "xml") ∙ other)

prefix_of : (a : Attr) → PrefixOf a
prefix_of a = at (is_empty a.prefix) refl (is_xml a.prefix) refl
  where
    at : (b : Bool) → is_empty a.prefix ≡ b → (c : Bool) → is_xml a.prefix ≡ c → PrefixOf a
    at true e c f = none e
    at false e true f = xml e f
    at false e false f = used e f (declarable_is a.prefix e f)

not_xmlns : (prefix space : List ℕ) → is_reserved prefix space ≡ false → is_xmlns prefix ≡ false
not_xmlns prefix space e = at (is_xmlns prefix) e
  where
    at : (b : Bool) → (b || (is_xml prefix && not (is_same_text space xml_space))) ≡ false → b ≡ false
    at false e = refl
    at true e = cc

-- ---- the bindings in force
-- those outside have no prefix that is declared
kept_none : (p : List ℕ) (outer : List Bound) (d : Declared) → declares d p ≡ true → (own : List Bound) → space_of p (filter (λ b. not (declares d b.prefix)) outer ++ own) ≡ space_of p own
kept_none p [] d is own = refl
kept_none p (b ∷ outer) d is own = at (declares d b.prefix) refl (kept_none p outer d is own)
  where
    other : (c : Bool) → is_same_text p b.prefix ≡ c → declares d b.prefix ≡ false → space_of p (filter (λ x. not (declares d x.prefix)) outer ++ own) ≡ space_of p own
        → cond c (Some b.space) (space_of p (filter (λ x. not (declares d x.prefix)) outer ++ own)) ≡ space_of p own
    other false e f more = more
    other true e f more = let clash : true ≡ false = sym is ∙ ap (declares d) (same_is p b.prefix e) ∙ f in cc

    at : (c : Bool) → declares d b.prefix ≡ c → space_of p (filter (λ x. not (declares d x.prefix)) outer ++ own) ≡ space_of p own
        → space_of p (cond (not c) (b ∷ filter (λ x. not (declares d x.prefix)) outer) (filter (λ x. not (declares d x.prefix)) outer) ++ own) ≡ space_of p own
    at true e more = more
    at false e more = other (is_same_text p b.prefix) refl e more

pub declared_space : (p : List ℕ) (outer : List Bound) (d : Declared) → declares d p ≡ true → space_of p (inside outer d) ≡ space_of p d.own
declared_space p outer d is = kept_none p outer d is d.own

-- and keep what is not declared
kept_all : (p : List ℕ) (outer : List Bound) (d : Declared) → declares d p ≡ false → (own : List Bound) → space_of p own ≡ None → space_of p (filter (λ b. not (declares d b.prefix)) outer ++ own) ≡ space_of p outer
kept_all p [] d is own lacks = lacks
kept_all p (b ∷ outer) d is own lacks = at (declares d b.prefix) refl (is_same_text p b.prefix) refl (kept_all p outer d is own lacks)
  where
    at : (c : Bool) → declares d b.prefix ≡ c → (s : Bool) → is_same_text p b.prefix ≡ s → space_of p (filter (λ x. not (declares d x.prefix)) outer ++ own) ≡ space_of p outer
        → space_of p (cond (not c) (b ∷ filter (λ x. not (declares d x.prefix)) outer) (filter (λ x. not (declares d x.prefix)) outer) ++ own) ≡ cond s (Some b.space) (space_of p outer)
    at true e true f more = let clash : true ≡ false = sym e ∙ ap (declares d) (sym (same_is p b.prefix f)) ∙ is in cc
    at true e false f more = more
    at false e s f more = ap (λ t. cond t (Some b.space) (space_of p (filter (λ x. not (declares d x.prefix)) outer ++ own))) f ∙ ap (λ o. cond s (Some b.space) o) more

none_bound : (p : List ℕ) (bs : List Bound) → list_any (λ b. is_same_text p b.prefix) bs ≡ false → space_of p bs ≡ None
none_bound p [] e = refl
none_bound p (b ∷ bs) e = at (is_same_text p b.prefix) e (none_bound p bs)
  where
    at : (c : Bool) → (c || list_any (λ x. is_same_text p x.prefix) bs) ≡ false → (list_any (λ x. is_same_text p x.prefix) bs ≡ false → space_of p bs ≡ None) → cond c (Some b.space) (space_of p bs) ≡ None
    at true e more = cc
    at false e more = more e

-- the default namespace in force is the element's
pub default_space_is : (above : List ℕ) (name : QName) (bounds : List Bound) (attrs : List Attr) (parts : List Part) (outer : List Bound) → default_space (space_of [] outer) ≡ above
    → default_space (space_of [] (inside outer (declared_in above name bounds attrs parts))) ≡ name.space
default_space_is above name bounds attrs parts outer is = at (bytes_eq above name.space) refl name.space refl
  where
    lacks : list_any (λ (b : Bound). is_same_text [] b.prefix) (first_uses [] (uses bounds attrs parts)) ≡ false
    lacks = none_empty [] (uses bounds attrs parts)

    at : (b : Bool) → bytes_eq above name.space ≡ b → (space : List ℕ) → name.space ≡ space
        → default_space (space_of [] (inside outer (record { own = cond b [] (cond (is_empty space) [] (record { prefix = []; space = space } ∷ [])) ++ first_uses [] (uses bounds attrs parts); undeclares = not b && is_empty space }))) ≡ name.space
    at true e space f =
        ap default_space (kept_all [] outer (record { own = first_uses [] (uses bounds attrs parts); undeclares = false }) (ap (λ b. b || false) lacks) (first_uses [] (uses bounds attrs parts)) (none_bound [] (first_uses [] (uses bounds attrs parts)) lacks))
        ∙ is ∙ (bytes_eq-Decides above name.space).0 e
    at false e [] f =
        ap default_space (kept_none [] outer (record { own = first_uses [] (uses bounds attrs parts); undeclares = true }) (ap (λ b. b || true) lacks) (first_uses [] (uses bounds attrs parts)) ∙ none_bound [] (first_uses [] (uses bounds attrs parts)) lacks) ∙ sym f
    at false e (c ∷ cs) f =
        ap default_space (kept_none [] outer (record { own = record { prefix = []; space = c ∷ cs } ∷ first_uses [] (uses bounds attrs parts); undeclares = false }) refl (record { prefix = []; space = c ∷ cs } ∷ first_uses [] (uses bounds attrs parts))) ∙ sym f

-- ---- the attributes
-- so it is with a prefix that is used
abbrev FirstFound : List Bound → Attr → Type 0
FirstFound firsts a = is_declarable a.prefix ≡ true → space_of a.prefix firsts ≡ Some a.name.space

abbrev pub Use : Attr → Type 0
Use a = IsProperUse (use_of a)

attrs_found : (us : List Bound) (attrs : List Attr) → Each (Finds [] us) (map use_of attrs) → Each (FirstFound (first_uses [] us)) attrs
attrs_found us [] each = tt
attrs_found us (a ∷ attrs) each = ((λ able. each.0 able refl), attrs_found us attrs each.1)

attrs_used : (attrs : List Attr) → Each IsProperUse (map use_of attrs) → Each Use attrs
attrs_used [] each = tt
attrs_used (a ∷ attrs) each = (each.0, attrs_used attrs each.1)

own_skips : (p above space : List ℕ) (rest : List Bound) → is_empty p ≡ false → space_of p (own_default above space ++ rest) ≡ space_of p rest
own_skips [] above space rest some = cc
own_skips (c ∷ cs) above space rest some = at (bytes_eq above space) space
  where
    at : (b : Bool) (space : List ℕ) → space_of (c ∷ cs) (cond b [] (cond (is_empty space) [] (record { prefix = []; space = space } ∷ [])) ++ rest) ≡ space_of (c ∷ cs) rest
    at true space = refl
    at false [] = refl
    at false (d ∷ ds) = refl

declares_first : (p space : List ℕ) (d : Declared) → space_of p d.own ≡ Some space → declares d p ≡ true
declares_first p space d e = ap (λ b. b || (d.undeclares && is_empty p)) (bound_is_there p space d.own e)

read_attr : (outer : List Bound) (d : Declared) (a : Attr) → IsProperAttr a → (is_declarable a.prefix ≡ true → space_of a.prefix d.own ≡ Some a.name.space)
    → attr_of (inside outer d) (attribute_of a) ≡ Some a
read_attr outer d a proper found =
    ap (option_and_then (λ (space : List ℕ). option_map (λ value. record { name = record { space = space; name = a.name.name }; prefix = a.prefix; value = value }) (value_of (flat_map value_char a.value)))) (space_is (prefix_of a))
    ∙ ap (option_map (λ (value : List ℕ). record { name = record { space = a.name.space; name = a.name.name }; prefix = a.prefix; value = value })) (value_is_read a.value proper.value)
  where
    space_is : PrefixOf a → attr_space (inside outer d) a.prefix ≡ Some a.name.space
    space_is (none e) = ap (λ b. cond b (Some []) (space_for (inside outer d) a.prefix)) e ∙ ap Some (sym (proper.plain e))
    space_is (xml e f) = ap (λ b. cond b (Some []) (space_for (inside outer d) a.prefix)) e ∙ ap (λ b. cond b (Some xml_space) (space_of a.prefix (inside outer d))) f ∙ ap Some (sym (proper.xml f))
    space_is (used e f able) =
        ap (λ b. cond b (Some []) (space_for (inside outer d) a.prefix)) e ∙ ap (λ b. cond b (Some xml_space) (space_of a.prefix (inside outer d))) f
        ∙ declared_space a.prefix outer d (declares_first a.prefix a.name.space d (found able)) ∙ found able

read_attrs : (outer : List Bound) (d : Declared) (attrs : List Attr) → Each IsProperAttr attrs → Each (FirstFound d.own) attrs → attrs_of (inside outer d) (map attribute_of attrs) ≡ Some attrs
read_attrs outer d [] proper found = refl
read_attrs outer d (a ∷ more) proper found =
    ap (λ b. cond b (attrs_of (inside outer d) (map attribute_of more)) (option_and_then (λ x. onto (x ∷ []) (attrs_of (inside outer d) (map attribute_of more))) (attr_of (inside outer d) (attribute_of a)))) proper.0.apart
    ∙ ap (option_and_then (λ x. onto (x ∷ []) (attrs_of (inside outer d) (map attribute_of more)))) (read_attr outer d a proper.0 found.0)
    ∙ ap (onto (a ∷ [])) (read_attrs outer d more proper.1 found.1)

-- declarations are no attributes of the element
default_skipped : (bounds : List Bound) (above space : List ℕ) (rest : List Attribute) → attrs_of bounds (default_attributes above space ++ rest) ≡ attrs_of bounds rest
default_skipped bounds above space rest = at (bytes_eq above space)
  where
    at : (b : Bool) → attrs_of bounds (cond b [] (record { name = record { prefix = []; local = codes "xmlns" }; value = flat_map value_char space } ∷ []) ++ rest) ≡ attrs_of bounds rest
    at true = refl
    at false = refl

prefixes_skipped : (bounds us : List Bound) (rest : List Attribute) → attrs_of bounds (map prefix_attribute us ++ rest) ≡ attrs_of bounds rest
prefixes_skipped bounds [] rest = refl
prefixes_skipped bounds (u ∷ us) rest = prefixes_skipped bounds us rest

-- ---- prefixes have bindings
any_declared : (us : List Bound) (p : List ℕ) (rest : List Attribute) → list_any (λ b. is_same_text p b.prefix) us ≡ true → is_declared_by (map prefix_attribute us ++ rest) p ≡ true
any_declared [] p rest e = cc
any_declared (u ∷ us) p rest e = at (is_same_text p u.prefix) e (any_declared us p rest)
  where
    at : (b : Bool) → (b || list_any (λ x. is_same_text p x.prefix) us) ≡ true → (list_any (λ x. is_same_text p x.prefix) us ≡ true → is_declared_by (map prefix_attribute us ++ rest) p ≡ true)
        → (b || is_declared_by (map prefix_attribute us ++ rest) p) ≡ true
    at true e more = refl
    at false e more = more e

default_any : (above space p : List ℕ) (rest : List Attribute) → is_declared_by (default_attributes above space ++ rest) p ≡ is_declared_by rest p
default_any above space p rest = at (bytes_eq above space)
  where
    at : (b : Bool) → is_declared_by (cond b [] (record { name = record { prefix = []; local = codes "xmlns" }; value = flat_map value_char space } ∷ []) ++ rest) p ≡ is_declared_by rest p
    at true = refl
    at false = refl

bound_attr : (outer : List Bound) (all : List Attribute) (a : Attr) → Use a → (is_declarable a.prefix ≡ true → is_declared_by all a.prefix ≡ true) → is_unbound outer all a.prefix ≡ false
bound_attr outer all a usage there = by (prefix_of a)
  where
    by : PrefixOf a → is_unbound outer all a.prefix ≡ false
    by (none e) = ap (λ b. not b && not (is_xml a.prefix) && (is_xmlns a.prefix || (not (is_declared_by all a.prefix) && not (is_some (space_of a.prefix outer))))) e
    by (xml e f) =
        ap (λ b. not b && not (is_xml a.prefix) && (is_xmlns a.prefix || (not (is_declared_by all a.prefix) && not (is_some (space_of a.prefix outer))))) e
        ∙ ap (λ b. true && not b && (is_xmlns a.prefix || (not (is_declared_by all a.prefix) && not (is_some (space_of a.prefix outer))))) f
    by (used e f able) =
        ap (λ b. not b && not (is_xml a.prefix) && (is_xmlns a.prefix || (not (is_declared_by all a.prefix) && not (is_some (space_of a.prefix outer))))) e
        ∙ ap (λ b. true && not b && (is_xmlns a.prefix || (not (is_declared_by all a.prefix) && not (is_some (space_of a.prefix outer))))) f
        ∙ ap (λ b. true && true && (b || (not (is_declared_by all a.prefix) && not (is_some (space_of a.prefix outer))))) (not_xmlns a.prefix a.name.space (usage able).free)
        ∙ ap (λ b. true && true && (false || (not b && not (is_some (space_of a.prefix outer))))) (there able)

-- a test of attributes that are no declarations
abbrev Unbound : List Bound → List Attribute → Attribute → Bool
Unbound outer all a = not (is_declaration a.name) && is_unbound outer all a.name.prefix

attrs_bound : (outer : List Bound) (all : List Attribute) (attrs : List Attr) → Each Use attrs → Each (λ a. is_declarable a.prefix ≡ true → is_declared_by all a.prefix ≡ true) attrs
    → list_any (Unbound outer all) (map attribute_of attrs) ≡ false
attrs_bound outer all [] usage there = refl
attrs_bound outer all (a ∷ more) usage there =
    ap (λ b. (not (is_declaration (record { prefix = a.prefix; local = a.name.name })) && b) || list_any (Unbound outer all) (map attribute_of more)) (bound_attr outer all a usage.0 there.0)
    ∙ no_more (is_declaration (record { prefix = a.prefix; local = a.name.name })) ∙ attrs_bound outer all more usage.1 there.1
  where
    no_more : (b : Bool) → ((not b && false) || list_any (Unbound outer all) (map attribute_of more)) ≡ list_any (Unbound outer all) (map attribute_of more)
    no_more true = refl
    no_more false = refl

prefixes_bound : (outer us : List Bound) (all rest : List Attribute) → list_any (Unbound outer all) (map prefix_attribute us ++ rest) ≡ list_any (Unbound outer all) rest
prefixes_bound outer [] all rest = refl
prefixes_bound outer (u ∷ us) all rest = prefixes_bound outer us all rest

default_bound : (outer : List Bound) (above space : List ℕ) (all rest : List Attribute) → list_any (Unbound outer all) (default_attributes above space ++ rest) ≡ list_any (Unbound outer all) rest
default_bound outer above space all rest = at (bytes_eq above space)
  where
    at : (b : Bool) → list_any (Unbound outer all) (cond b [] (record { name = record { prefix = []; local = codes "xmlns" }; value = flat_map value_char space } ∷ []) ++ rest) ≡ list_any (Unbound outer all) rest
    at true = refl
    at false = refl

-- ---- the tag as a whole
default_free : (above space : List ℕ) (rest : List Attribute) → AreFree rest → AreFree (default_attributes above space ++ rest)
default_free above space rest free = at (bytes_eq above space)
  where
    at : (b : Bool) → AreFree (cond b [] (record { name = record { prefix = []; local = codes "xmlns" }; value = flat_map value_char space } ∷ []) ++ rest)
    at true = free
    at false = (record { free = ((λ e. cc), xmlns_is_name); value = value_in_marks space }, free)

prefixes_free : (seen : List (List ℕ)) (us : List Bound) (rest : List Attribute) → Each IsProperUse us → AreFree rest → AreFree (map prefix_attribute (first_uses seen us) ++ rest)
prefixes_free seen [] rest proper free = free
prefixes_free seen (u ∷ us) rest proper free = at (is_declarable u.prefix) refl (list_any (bytes_eq u.prefix) seen) (prefixes_free (seen ++ u.prefix ∷ []) us rest proper.1 free)
  where
    at : (b : Bool) → is_declarable u.prefix ≡ b → (old : Bool) → AreFree (map prefix_attribute (first_uses (seen ++ u.prefix ∷ []) us) ++ rest)
        → AreFree (map prefix_attribute (cond (b && not old) (u ∷ []) [] ++ first_uses (seen ++ u.prefix ∷ []) us) ++ rest)
    at false able old more = more
    at true able true more = more
    at true able false more = (record { free = ((λ e. xmlns_is_name), (proper.0 able).prefix); value = value_in_marks u.space }, more)

attr_free : (a : Attr) → IsProperAttr a → Use a → IsFreeAttribute (attribute_of a)
attr_free a proper usage = record { free = (by (prefix_of a), proper.name); value = value_in_marks a.value }
  where
    by : PrefixOf a → is_empty a.prefix ≡ false → is_name a.prefix ≡ true
    by (none e) some = let clash : true ≡ false = sym e ∙ some in cc
    by (xml e f) some = ap is_name (same_is a.prefix (codes "xml") f) ∙ xml_is_name
    by (used e f able) some = (usage able).prefix

attrs_free : (attrs : List Attr) → Each IsProperAttr attrs → Each Use attrs → AreFree (map attribute_of attrs)
attrs_free [] proper usage = tt
attrs_free (a ∷ more) proper usage = (attr_free a proper.0 usage.0, attrs_free more proper.1 usage.1)

attrs_use : (bounds : List Bound) (attrs : List Attr) (parts : List Part) → Each IsProperUse (uses bounds attrs parts) → Each Use attrs
attrs_use bounds attrs parts each = attrs_used attrs (each_front IsProperUse (map use_of attrs) _ each)

pub tag_free : (above : List ℕ) (name : QName) (bounds : List Bound) (attrs : List Attr) (parts : List Part) → IsProperElem name bounds attrs parts → AreFree (tag_attributes above name bounds attrs parts)
tag_free above name bounds attrs parts proper =
    let us = each_of IsProperUse (uses bounds attrs parts) proper.used in
    default_free above name.space _ (prefixes_free [] (uses bounds attrs parts) (map attribute_of attrs) us
    (attrs_free attrs (each_of IsProperAttr attrs proper.proper) (attrs_use bounds attrs parts us)))

names_allowed : (found : List Attribute) → AreFree found → list_all (λ a. is_allowed_name a.name) found ≡ true
names_allowed [] free = refl
names_allowed (a ∷ more) free =
    both_true (is_allowed_name a.name) (list_all (λ x. is_allowed_name x.name) more) (free_allowed a.name.prefix a.name.local free.0.free) (names_allowed more free.1)

first_found : (name : QName) (bounds : List Bound) (attrs : List Attr) (parts : List Part) → IsProperElem name bounds attrs parts → Each (FirstFound (first_uses [] (uses bounds attrs parts))) attrs
first_found name bounds attrs parts proper = attrs_found (uses bounds attrs parts) attrs (each_front (Finds [] (uses bounds attrs parts)) (map use_of attrs) _ (all_found [] (uses bounds attrs parts) (agree_of (uses bounds attrs parts) proper.agree)))

nonempty : (p : List ℕ) → is_declarable p ≡ true → is_empty p ≡ false
nonempty [] able = sym able
nonempty (c ∷ cs) able = refl

found_in_all : (above space : List ℕ) (firsts : List Bound) (attrs : List Attr) → Each (FirstFound firsts) attrs → Each (FirstFound (own_default above space ++ firsts)) attrs
found_in_all above space firsts [] found = tt
found_in_all above space firsts (a ∷ more) found = ((λ able. own_skips a.prefix above space firsts (nonempty a.prefix able) ∙ found.0 able), found_in_all above space firsts more found.1)

declared_by_all : (above space : List ℕ) (firsts : List Bound) (rest : List Attribute) (attrs : List Attr) → Each (FirstFound firsts) attrs
    → Each (λ a. is_declarable a.prefix ≡ true → is_declared_by (default_attributes above space ++ (map prefix_attribute firsts ++ rest)) a.prefix ≡ true) attrs
declared_by_all above space firsts rest [] found = tt
declared_by_all above space firsts rest (a ∷ more) found = (
  (λ able. default_any above space a.prefix (map prefix_attribute firsts ++ rest) ∙ any_declared firsts a.prefix rest (bound_is_there a.prefix a.name.space firsts (found.0 able))),
  declared_by_all above space firsts rest more found.1,
)

pub tag_is_bound : (above : List ℕ) (name : QName) (bounds : List Bound) (attrs : List Attr) (parts : List Part) (outer : List Bound) (alone : Bool) → IsProperElem name bounds attrs parts
    → has_unbound outer (tag_of name.name (tag_attributes above name bounds attrs parts) alone) ≡ false
tag_is_bound above name bounds attrs parts outer alone proper =
    let us = uses bounds attrs parts in
    let firsts = first_uses [] us in
    let aa = map attribute_of attrs in
    let all = tag_attributes above name bounds attrs parts in
    default_bound outer above name.space all (map prefix_attribute firsts ++ aa) ∙ prefixes_bound outer firsts all aa
    ∙ attrs_bound outer all attrs (attrs_use bounds attrs parts (each_of IsProperUse us proper.used)) (declared_by_all above name.space firsts aa attrs (first_found name bounds attrs parts proper))

-- what the tag opens
abbrev pub opened_head : (above : List ℕ) → QName → List Bound → List Attr → List Part → (outer : List Bound) → Head
opened_head above name bounds attrs parts outer =
    record { prefix = []; name = name; bounds = inside outer (declared_in above name bounds attrs parts); attrs = attrs }

pub tag_opens : (above : List ℕ) (name : QName) (bounds : List Bound) (attrs : List Attr) (parts : List Part) (outer : List Bound) (alone : Bool) → IsProperElem name bounds attrs parts
    → default_space (space_of [] outer) ≡ above
    → opened outer (tag_of name.name (tag_attributes above name bounds attrs parts) alone) ≡ Some (opened_head above name bounds attrs parts outer)
tag_opens above name bounds attrs parts outer alone proper is =
    let us = uses bounds attrs parts in
    let firsts = first_uses [] us in
    let aa = map attribute_of attrs in
    let all = tag_attributes above name bounds attrs parts in
    let tag = tag_of name.name all alone in
    let d = declared_in above name bounds attrs parts in
    let named : are_allowed_names tag ≡ true =
    both_true (is_allowed_name tag.name) (list_all (λ a. is_allowed_name a.name) all) (free_allowed [] name.name ((λ e. cc), proper.local)) (names_allowed all (tag_free above name bounds attrs parts proper)) in
    let read : attrs_of (inside outer d) all ≡ Some attrs =
    default_skipped (inside outer d) above name.space (map prefix_attribute firsts ++ aa) ∙ prefixes_skipped (inside outer d) firsts aa
    ∙ read_attrs outer d attrs (each_of IsProperAttr attrs proper.proper) (found_in_all above name.space firsts attrs (first_found name bounds attrs parts proper)) in
    let space = default_space (space_of [] (inside outer d)) in
    ap (λ b. cond b (option_and_then (λ e. opened_in (inside outer e) tag) (declared nothing all)) None) named
    ∙ ap (option_and_then (λ e. opened_in (inside outer e) tag)) (tag_declares above name bounds attrs parts proper)
    ∙ ap (option_and_then (λ found. cond (differ_from [] found) (Some (head_of (inside outer d) tag space found)) None)) read
    ∙ ap (λ b. cond b (Some (head_of (inside outer d) tag space attrs)) None) proper.differ
    ∙ ap (λ s. Some (head_of (inside outer d) tag s attrs)) (default_space_is above name bounds attrs parts outer is)
