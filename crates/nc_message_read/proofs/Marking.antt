-- Marks tell namespaces apart as these are, and stand beside the bindings in force.
use Rattle.std.proofs.Common.{◌≡◌, ℕ, Bool, true, false, cond, not, ◌||◌, List, [], ◌∷◌, ◌++◌, map, filter, Option, None, Some, option_and_then, option_map, refl, sym, ap, subst, ◌∙◌}
use Rattle.std.specs.Prelude.{◌&&◌, ◌==◌, IfSome}
use Rattle.std.specs.List.{list_any}
use Rattle.std.specs.Cmp.Lexicographic.{bytes_decides}
use Rattle.std.proofs.lemmas.List.{map-append}
use Rattle.std.proofs.lemmas.List.Elements.{filter-append}
use Rattle.nc_names.specs.Same.{is_same_text, is_same_name}
use Rattle.nc_names.specs.declared.name.Bound.{Bound}
use Rattle.nc_names.specs.declared.name.QName.{QName}
use Rattle.nc_names.specs.Bindings.{space_of}
use Rattle.nc_message.specs.Bindings.{Declared, declares, inside, is_empty}
use Rattle.nc_message.specs.declared.tree.Attr.{Attr}
use Rattle.nc_message.specs.Tokens.{Attribute}
use Rattle.nc_message.specs.Texts.{value_of, onto}
use Rattle.nc_message.specs.Resolved.{is_declaration, attr_space, attr_of, attrs_of, default_space, is_xml, xml_space}
use Rattle.nc_message_read.specs.declared.marks.Marks.{Marks}
use Rattle.nc_message_read.specs.declared.marked.Marked.{Marked}
use Rattle.nc_message_read.specs.inner.Marks.{text_at, is_that, number_of, spelled, mark_of, marked_bound, prefixed, marks_of, attr_mark, IsBeside, sign_of, key_of, AreNamed, IsFound, AreFound}

-- No two namespaces have one mark.

-- a number that a namespace has leads back to it
number_leads : (m : Marks) (s n : List ℕ) → number_of m s ≡ Some n → text_at m.spaces n ≡ Some s
number_leads m s n e = found (text_at m.numbers s) e where
  that : (o : Option (List ℕ)) → is_that s o ≡ true → o ≡ Some s
  that None h = absurd (cc h)
  that (Some t) h = ap Some (sym ((bytes_decides s t).0 h))

  tested : (k : List ℕ) (b : Bool) → is_that s (text_at m.spaces k) ≡ b → cond b (Some k) None ≡ Some n
      → text_at m.spaces n ≡ Some s
  tested k true h f =
      let same : k ≡ n = cc f in subst (λ x. text_at m.spaces x ≡ Some s) same (that (text_at m.spaces k) h)
  tested k false h f = absurd (cc f)

  found : (o : Option (List ℕ)) → option_and_then (λ k. cond (is_that s (text_at m.spaces k)) (Some k) None) o ≡ Some n
      → text_at m.spaces n ≡ Some s
  found None f = absurd (cc f)
  found (Some k) f = tested k (is_that s (text_at m.spaces k)) refl f

abbrev is_numbered : List ℕ → Bool
is_numbered [] = false
is_numbered (c ∷ cs) = c == 110

abbrev after_first : List ℕ → List ℕ
after_first [] = []
after_first (c ∷ cs) = cs

some_is : (s t : List ℕ) → Some s ≡ Some t → s ≡ t
some_is s t e = cc e

no_truth : false ≡ true → ⊥
no_truth e = cc e

spelled_apart : (m : Marks) (s t : List ℕ) (o p : Option (List ℕ)) → number_of m s ≡ o → number_of m t ≡ p
    → spelled s o ≡ spelled t p → s ≡ t
spelled_apart m s t None None x y e = ap after_first e
spelled_apart m s t None (Some n) x y e = absurd (no_truth (ap is_numbered e))
spelled_apart m s t (Some k) None x y e = absurd (no_truth (sym (ap is_numbered e)))
spelled_apart m s t (Some k) (Some n) x y e =
    let same : k ≡ n = ap after_first e in
    some_is s t (sym (number_leads m s k x) ∙ ap (text_at m.spaces) same ∙ number_leads m t n y)

spelled_some : (s : List ℕ) (o : Option (List ℕ)) → [] ≡ spelled s o → ⊥
spelled_some s None e = cc e
spelled_some s (Some n) e = cc e

marks_apart : (m : Marks) (s t : List ℕ) → mark_of m s ≡ mark_of m t → s ≡ t
unfolding mark_of
marks_apart m [] [] e = refl
marks_apart m [] (d ∷ ds) e = absurd (spelled_some (d ∷ ds) (number_of m (d ∷ ds)) e)
marks_apart m (c ∷ cs) [] e = absurd (spelled_some (c ∷ cs) (number_of m (c ∷ cs)) (sym e))
marks_apart m (c ∷ cs) (d ∷ ds) e =
    spelled_apart m (c ∷ cs) (d ∷ ds) (number_of m (c ∷ cs)) (number_of m (d ∷ ds)) refl refl e

-- the mark of no namespace, and of any other
no_mark : (m : Marks) → mark_of m [] ≡ []
unfolding mark_of
no_mark m = refl

pub mark_none : (m : Marks) (s : List ℕ) → s ≡ [] → mark_of m s ≡ []
mark_none m s e = ap (mark_of m) e ∙ no_mark m

pub mark_some : (m : Marks) (s : List ℕ) → (s ≡ [] → ⊥) → mark_of m s ≡ spelled s (number_of m s)
unfolding mark_of
mark_some m [] some = absurd (some refl)
mark_some m (c ∷ cs) some = refl

turned : (x y : Bool) → (x ≡ true → y ≡ true) → (y ≡ true → x ≡ true) → x ≡ y
turned true y f g = sym (f refl)
turned false true f g = g refl
turned false false f g = refl

same_marks : (m : Marks) (s t : List ℕ) → is_same_text (mark_of m s) (mark_of m t) ≡ is_same_text s t
same_marks m s t = turned (is_same_text (mark_of m s) (mark_of m t)) (is_same_text s t)
    (λ e. (bytes_decides s t).1 (marks_apart m s t ((bytes_decides (mark_of m s) (mark_of m t)).0 e)))
    (λ e. (bytes_decides (mark_of m s) (mark_of m t)).1 (ap (mark_of m) ((bytes_decides s t).0 e)))

and_swapped : (x y : Bool) → (x && y) ≡ (y && x)
and_swapped true true = refl
and_swapped true false = refl
and_swapped false true = refl
and_swapped false false = refl

same_signs : (marked : Option Marked) (s t : List ℕ)
    → is_same_text (sign_of marked s) (sign_of marked t) ≡ is_same_text s t
same_signs None s t = refl
same_signs (Some marked) s t = same_marks marked.marks s t

-- names are the same where they are kept as the same
pub same_keys : (marked : Option Marked) (a b : QName)
    → is_same_name (key_of marked a) (key_of marked b) ≡ is_same_name a b
same_keys marked a b =
    ap (λ x. is_same_text a.name b.name && x) (same_signs marked a.space b.space)
    ∙ and_swapped (is_same_text a.name b.name) (is_same_text a.space b.space)

-- Beside the bindings in force.

-- one declaration more
pub prefixed_more : (own : List Bound) (b : Bound) → prefixed (own ++ b ∷ []) ≡ prefixed own ++ prefixed (b ∷ [])
prefixed_more own b = filter-append (λ (x : Bound). not (is_empty x.prefix)) own (b ∷ [])

empty_is : (p : List ℕ) → is_empty p ≡ true → p ≡ []
empty_is [] e = refl
empty_is (c ∷ cs) e = absurd (cc e)

-- a binding of this prefix
abbrev binds : List ℕ → Bound → Bool
binds p = λ (b : Bound). is_same_text p b.prefix

-- what only declares the marks declares a prefix where the tag does
any_marked : (m : Marks) (c : ℕ) (cs : List ℕ) (own : List Bound)
    → list_any (binds (c ∷ cs)) (marks_of m own) ≡ list_any (binds (c ∷ cs)) own
any_marked m c cs [] = refl
any_marked m c cs (b ∷ more) = at_first (is_empty b.prefix) refl (any_marked m c cs more) where
  at_first : (t : Bool) → is_empty b.prefix ≡ t
      → list_any (binds (c ∷ cs)) (marks_of m more) ≡ list_any (binds (c ∷ cs)) more
      → list_any (binds (c ∷ cs)) (map (marked_bound m) (cond (not t) (b ∷ prefixed more) (prefixed more)))
      ≡ (is_same_text (c ∷ cs) b.prefix || list_any (binds (c ∷ cs)) more)
  at_first true e h =
      h ∙ ap (λ p. is_same_text (c ∷ cs) p || list_any (binds (c ∷ cs)) more) (sym (empty_is b.prefix e))
  at_first false e h = ap (λ x. is_same_text (c ∷ cs) b.prefix || x) h

-- what a tag declares, as it is declared for the marks
abbrev marked_tag : Marks → Declared → Declared
marked_tag m d = record { own = marks_of m d.own; undeclares = false }

or_and_false : (b u : Bool) → (b || (u && false)) ≡ (b || (false && false))
or_and_false true u = refl
or_and_false false true = refl
or_and_false false false = refl

declares_marked : (m : Marks) (d : Declared) (p : List ℕ) → is_empty p ≡ false
    → declares (marked_tag m d) p ≡ declares d p
declares_marked m d [] e = absurd (cc e)
declares_marked m d (c ∷ cs) e =
    ap (λ b. b || (false && false)) (any_marked m c cs d.own)
    ∙ sym (or_and_false (list_any (binds (c ∷ cs)) d.own) d.undeclares)

-- those that a tag does not replace
abbrev left : Declared → List Bound → List Bound
left d outer = filter (λ (b : Bound). not (declares d b.prefix)) outer

left_marked : (m : Marks) (d : Declared) (outer : List Bound)
    → marks_of m (left d outer) ≡ left (marked_tag m d) (marks_of m outer)
left_marked m d [] = refl
left_marked m d (b ∷ more) = at_first (declares d b.prefix) refl (is_empty b.prefix) refl (left_marked m d more) where
  stays : is_empty b.prefix ≡ false → (k : Bool) → declares d b.prefix ≡ k
      → left (marked_tag m d) (marked_bound m b ∷ marks_of m more)
      ≡ cond (not k) (marked_bound m b ∷ left (marked_tag m d) (marks_of m more))
      (left (marked_tag m d) (marks_of m more))
  stays e k x =
      ap (λ y. cond (not y) (marked_bound m b ∷ left (marked_tag m d) (marks_of m more))
      (left (marked_tag m d) (marks_of m more))) (declares_marked m d b.prefix e ∙ x)

  put : (t : Bool) → is_empty b.prefix ≡ t → (xs : List Bound)
      → marks_of m (b ∷ xs) ≡ map (marked_bound m) (cond (not t) (b ∷ prefixed xs) (prefixed xs))
  put t e xs = ap (λ y. map (marked_bound m) (cond (not y) (b ∷ prefixed xs) (prefixed xs))) e

  at_first : (k : Bool) → declares d b.prefix ≡ k → (t : Bool) → is_empty b.prefix ≡ t
      → marks_of m (left d more) ≡ left (marked_tag m d) (marks_of m more)
      → marks_of m (cond (not k) (b ∷ left d more) (left d more))
      ≡ left (marked_tag m d) (map (marked_bound m) (cond (not t) (b ∷ prefixed more) (prefixed more)))
  at_first true x true e h = h
  at_first true x false e h = h ∙ sym (stays e true x)
  at_first false x true e h = put true e (left d more) ∙ h
  at_first false x false e h =
      put false e (left d more) ∙ ap (λ xs. marked_bound m b ∷ xs) h ∙ sym (stays e false x)

marks_inside : (m : Marks) (outer : List Bound) (d : Declared)
    → marks_of m (inside outer d) ≡ inside (marks_of m outer) (marked_tag m d)
marks_inside m outer d =
    ap (map (marked_bound m)) (filter-append (λ (x : Bound). not (is_empty x.prefix)) (left d outer) d.own)
    ∙ map-append (marked_bound m) (prefixed (left d outer)) (prefixed d.own)
    ∙ ap (λ xs. xs ++ marks_of m d.own) (left_marked m d outer)

-- the marks in an element below
pub marks_below : (m : Marks) (outer marked : List Bound) (d e : Declared) (own : List Bound)
    → marked ≡ marks_of m outer → own ≡ prefixed d.own → e.own ≡ map (marked_bound m) own → e.undeclares ≡ false
    → inside marked e ≡ marks_of m (inside outer d)
marks_below m outer marked d e own is all said none =
    let tags : e.own ≡ marks_of m d.own = said ∙ ap (map (marked_bound m)) all in
    ap (λ (o : List Bound). inside marked (record { own = o; undeclares = e.undeclares })) tags
    ∙ ap (λ (u : Bool). inside marked (record { own = marks_of m d.own; undeclares = u })) none
    ∙ ap (λ (xs : List Bound). inside xs (marked_tag m d)) is
    ∙ sym (marks_inside m outer d)

-- Marks of attributes.

space_marked : (m : Marks) (c : ℕ) (cs : List ℕ) (bounds : List Bound)
    → space_of (c ∷ cs) (marks_of m bounds) ≡ option_map (mark_of m) (space_of (c ∷ cs) bounds)
space_marked m c cs [] = refl
space_marked m c cs (b ∷ more) =
    at_first (is_empty b.prefix) refl (is_same_text (c ∷ cs) b.prefix) refl (space_marked m c cs more) where
      other : (p : List ℕ) → is_empty p ≡ true → is_same_text (c ∷ cs) p ≡ true → ⊥
      other [] e f = cc f
      other (d ∷ ds) e f = cc e

      at_first : (t : Bool) → is_empty b.prefix ≡ t → (u : Bool) → is_same_text (c ∷ cs) b.prefix ≡ u
          → space_of (c ∷ cs) (marks_of m more) ≡ option_map (mark_of m) (space_of (c ∷ cs) more)
          → space_of (c ∷ cs) (map (marked_bound m) (cond (not t) (b ∷ prefixed more) (prefixed more)))
          ≡ option_map (mark_of m) (cond u (Some b.space) (space_of (c ∷ cs) more))
      at_first true e true f h = absurd (other b.prefix e f)
      at_first true e false f h = h
      at_first false e true f h = ap (λ y. cond y (Some (mark_of m b.space)) (space_of (c ∷ cs) (marks_of m more))) f
      at_first false e false f h =
          ap (λ y. cond y (Some (mark_of m b.space)) (space_of (c ∷ cs) (marks_of m more))) f ∙ h

-- an attribute's mark is found by its prefix
mark_found : (m : Marks) (bounds : List Bound) (p s : List ℕ) → attr_space bounds p ≡ Some s
    → attr_mark m (marks_of m bounds) p ≡ mark_of m s
mark_found m bounds [] s e = let none : [] ≡ s = cc e in sym (no_mark m) ∙ ap (mark_of m) none
mark_found m bounds (c ∷ cs) s e = at_xml (is_xml (c ∷ cs)) e where
  at_xml : (b : Bool) → cond b (Some xml_space) (space_of (c ∷ cs) bounds) ≡ Some s
      → cond b (mark_of m xml_space) (default_space (space_of (c ∷ cs) (marks_of m bounds))) ≡ mark_of m s
  at_xml true f = let same : xml_space ≡ s = cc f in ap (mark_of m) same
  at_xml false f = ap default_space (space_marked m c cs bounds ∙ ap (option_map (mark_of m)) f)

one_found : (marked : Option Marked) (bounds : List Bound) (a : Attr) → IfSome marked (IsBeside bounds)
    → attr_space bounds a.prefix ≡ Some a.name.space → IsFound marked a
one_found None bounds a is named = tt
one_found (Some marked) bounds a is named =
    ap (λ (b : List Bound). attr_mark marked.marks b a.prefix) is
    ∙ mark_found marked.marks bounds a.prefix a.name.space named

-- so are those of all
pub all_found : (marked : Option Marked) (bounds : List Bound) (attrs : List Attr) → IfSome marked (IsBeside bounds)
    → AreNamed bounds attrs → AreFound marked attrs
all_found marked bounds [] is named = tt
all_found marked bounds (a ∷ more) is named =
    (one_found marked bounds a is named.0, all_found marked bounds more is named.1)

-- an attribute with this namespace and this value
abbrev with_both : Attribute → (space value : List ℕ) → Attr
with_both a space value =
    record { name = record { space = space; name = a.name.local }; prefix = a.name.prefix; value = value }

-- an attribute that is read has the namespace of its prefix
one_named : (bounds : List Bound) (a : Attribute) (x : Attr) → attr_of bounds a ≡ Some x
    → attr_space bounds x.prefix ≡ Some x.name.space
one_named bounds a x f = spaced (attr_space bounds a.name.prefix) refl f where
  valued : (s : List ℕ) (v : Option (List ℕ)) → attr_space bounds a.name.prefix ≡ Some s
      → option_map (λ value. with_both a s value) v ≡ Some x → attr_space bounds x.prefix ≡ Some x.name.space
  valued s None g f = absurd (cc f)
  valued s (Some v) g f =
      let same : with_both a s v ≡ x = cc f in
      subst (λ (y : Attr). attr_space bounds y.prefix ≡ Some y.name.space) same g

  spaced : (o : Option (List ℕ)) → attr_space bounds a.name.prefix ≡ o
      → option_and_then (λ space. option_map (λ value. with_both a space value) (value_of a.value)) o ≡ Some x
      → attr_space bounds x.prefix ≡ Some x.name.space
  spaced None g f = absurd (cc f)
  spaced (Some s) g f = valued s (value_of a.value) g f

named_more : (bounds : List Bound) (a : Attribute) (rest : Option (List Attr)) (attrs : List Attr)
    → ((xs : List Attr) → rest ≡ Some xs → AreNamed bounds xs)
    → (b : Bool) → cond b rest (option_and_then (λ x. onto (x ∷ []) rest) (attr_of bounds a)) ≡ Some attrs
    → AreNamed bounds attrs
named_more bounds a rest attrs after true f = after attrs f
named_more bounds a rest attrs after false f = first (attr_of bounds a) refl f where
  put : (x : Attr) (o : Option (List Attr)) → attr_of bounds a ≡ Some x → rest ≡ o → onto (x ∷ []) o ≡ Some attrs
      → AreNamed bounds attrs
  put x None g h f = absurd (cc f)
  put x (Some xs) g h f =
      let same : x ∷ xs ≡ attrs = cc f in
      subst (AreNamed bounds) same (one_named bounds a x g, after xs h)

  first : (o : Option Attr) → attr_of bounds a ≡ o → option_and_then (λ x. onto (x ∷ []) rest) o ≡ Some attrs
      → AreNamed bounds attrs
  first None g f = absurd (cc f)
  first (Some x) g f = put x rest g refl f

-- so have all
pub all_named : (bounds : List Bound) (attributes : List Attribute) (attrs : List Attr)
    → attrs_of bounds attributes ≡ Some attrs → AreNamed bounds attrs
all_named bounds [] attrs e = let none : [] ≡ attrs = cc e in subst (AreNamed bounds) none tt
all_named bounds (a ∷ more) attrs e =
    named_more bounds a (attrs_of bounds more) attrs (λ xs h. all_named bounds more xs h) (is_declaration a.name) e
