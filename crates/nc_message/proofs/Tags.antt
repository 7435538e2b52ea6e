-- In a written message each `>` ends a tag, and a `<` stands between it and the one before.
use Rattle.std.proofs.Common.{◌≡◌, ◌≢◌, ℕ, ◌==◌, Bool, true, false, if◌then◌else◌, List, [], ◌∷◌, ◌++◌, map, Option, None, Some, option_and_then, refl, sym, ap, subst, ◌∙◌}
use Rattle.std.specs.List.{flat_map, list_any}
use Rattle.std.specs.Str.{bytes_eq}
use Rattle.std.proofs.lemmas.Bool.{ne_eqb, eqb-false}
use Rattle.nc_names.specs.Mark.{mark, HasNoMark}
use Rattle.nc_names.specs.declared.name.Bound.{Bound}
use Rattle.nc_message.specs.declared.tree.Attr.{Attr}
use Rattle.nc_message.specs.declared.tree.Part.{Part, Child', Chars, Row_of-Part, end_of-Part, more_of-Part}
use Rattle.nc_message.specs.declared.tree.Part.TheVariants.{Child}
use Rattle.nc_message.specs.declared.tree.Part.TheBlock.{Row_of-Elem, end_of-Elem, more_of-Elem, items-the_row-Part}
use Rattle.nc_message.specs.Marks.{ampersand, less_than, greater_than, quotation_mark, carriage_return, tab, line_feed, default_namespace, prefixed_namespace, value_start, empty_end, end_tag}
use Rattle.nc_message.specs.Unmarked.{IsPlain, ArePlainBounds, ArePlainAttrs, IsPlainPart, IsPlainChild, ArePlainParts, HoldsNoMark}
use Rattle.nc_message.specs.Written.{text_char, value_char, quoted, default_declaration, is_declarable, declaration, declarations, prefixed, attribute, is_chars, is_empty, use_of, uses, start_of, end_of, element, written_part, written_child, written_parts}
use Rattle.nc_message.proofs.Children.{written_child_is}

-- whether a tag is open behind a byte; none where a `>` stands outside of a tag
abbrev next : Bool → ℕ → Option Bool
next open_ c = if c == 60 then Some true else (if c == 62 then (if open_ then Some false else None) else Some open_)

abbrev tags : Bool → List ℕ → Option Bool
tags open_ [] = Some open_
tags open_ (c ∷ cs) = option_and_then (λ o. tags o cs) (next open_ c)

tags-append : (o : Bool) (xs ys : List ℕ) → tags o (xs ++ ys) ≡ option_and_then (λ r. tags r ys) (tags o xs)
tags-append o [] ys = refl
tags-append o (c ∷ cs) ys =
    elim (next o c) as
    (λ n. option_and_then (λ r. tags r (cs ++ ys)) n
    ≡ option_and_then (λ r. tags r ys) (option_and_then (λ r. tags r cs) n))
    [ None ↦ refl | Some r ↦ tags-append r cs ys ]

-- from one state to another
then_tags : (o p : Bool) (q : Option Bool) (xs ys : List ℕ) → tags o xs ≡ Some p → tags p ys ≡ q → tags o (xs ++ ys) ≡ q
then_tags o p q xs ys first more = tags-append o xs ys ∙ ap (option_and_then (λ r. tags r ys)) first ∙ more

-- bytes without a sign of a tag
record IsQuiet (xs : List ℕ) : Type 0 where
  pub same : (o : Bool) → tags o xs ≡ Some o

quiet_nil : IsQuiet []
quiet_nil = record { same = λ o. refl }

quiet-append : {xs ys : List ℕ} → IsQuiet xs → IsQuiet ys → IsQuiet (xs ++ ys)
quiet-append {xs} {ys} first second = record { same = λ o. then_tags o o (Some o) xs ys (first.same o) (second.same o) }

quiet_one : (c : ℕ) → c ≢ 60 → c ≢ 62 → IsQuiet (c ∷ [])
quiet_one c not_open not_close = record { same = λ o. rw (ne_eqb c 60 not_open, ne_eqb c 62 not_close) refl }

quiet_plain : (xs : List ℕ) → IsPlain xs → IsQuiet xs
quiet_plain [] plain = quiet_nil
quiet_plain (c ∷ cs) plain = quiet-append (quiet_one c plain.0 plain.1) (quiet_plain cs plain.2)

quiet_if : (b : Bool) {xs ys : List ℕ} → IsQuiet xs → (b ≡ false → IsQuiet ys) → IsQuiet (if b then xs else ys)
quiet_if true first second = first
quiet_if false first second = second refl

quiet_ampersand : IsQuiet ampersand
unfolding ampersand
quiet_ampersand = record { same = λ o. refl }

quiet_less_than : IsQuiet less_than
unfolding less_than
quiet_less_than = record { same = λ o. refl }

quiet_greater_than : IsQuiet greater_than
unfolding greater_than
quiet_greater_than = record { same = λ o. refl }

quiet_quotation_mark : IsQuiet quotation_mark
unfolding quotation_mark
quiet_quotation_mark = record { same = λ o. refl }

quiet_carriage_return : IsQuiet carriage_return
unfolding carriage_return
quiet_carriage_return = record { same = λ o. refl }

quiet_tab : IsQuiet tab
unfolding tab
quiet_tab = record { same = λ o. refl }

quiet_line_feed : IsQuiet line_feed
unfolding line_feed
quiet_line_feed = record { same = λ o. refl }

quiet_default : IsQuiet default_namespace
unfolding default_namespace
quiet_default = record { same = λ o. refl }

quiet_prefixed : IsQuiet prefixed_namespace
unfolding prefixed_namespace
quiet_prefixed = record { same = λ o. refl }

quiet_value_start : IsQuiet value_start
unfolding value_start
quiet_value_start = record { same = λ o. refl }

quiet_text_char : (c : ℕ) → IsQuiet (text_char c)
quiet_text_char c =
    quiet_if (c == 38) quiet_ampersand
    (λ _. quiet_if (c == 60) quiet_less_than (λ open_. quiet_if (c == 62) quiet_greater_than (λ close.
    quiet_if (c == 13) quiet_carriage_return (λ _. quiet_one c (eqb-false c 60 open_) (eqb-false c 62 close)))))

quiet_value_char : (c : ℕ) → IsQuiet (value_char c)
quiet_value_char c =
    quiet_if (c == 34) quiet_quotation_mark
    (λ _. quiet_if (c == 9) quiet_tab (λ _. quiet_if (c == 10) quiet_line_feed (λ _. quiet_text_char c)))

quiet_each : (f : ℕ → List ℕ) → ((c : ℕ) → IsQuiet (f c)) → (xs : List ℕ) → IsQuiet (flat_map f xs)
quiet_each f quiet [] = quiet_nil
quiet_each f quiet (c ∷ cs) = quiet-append (quiet c) (quiet_each f quiet cs)

quiet_quote : IsQuiet (34 ∷ [])
quiet_quote = record { same = λ o. refl }

quiet_quoted : (value : List ℕ) → IsQuiet (quoted value)
quiet_quoted value =
    quiet-append (quiet-append quiet_value_start (quiet_each value_char quiet_value_char value)) quiet_quote

quiet_default_declaration : (above space : List ℕ) → IsQuiet (default_declaration above space)
quiet_default_declaration above space =
    quiet_if (bytes_eq above space) quiet_nil (λ _. quiet-append quiet_default (quiet_quoted space))

quiet_both : (b : Bool) {xs ys : List ℕ} → IsQuiet xs → IsQuiet ys → IsQuiet (if b then xs else ys)
quiet_both true first second = first
quiet_both false first second = second

quiet_declaration : (seen : List (List ℕ)) (b : Bound) → IsPlain b.prefix → IsQuiet (declaration seen b)
quiet_declaration seen b plain =
    quiet_both (is_declarable b.prefix)
    (quiet_both (list_any (bytes_eq b.prefix) seen) quiet_nil
    (quiet-append (quiet-append quiet_prefixed (quiet_plain b.prefix plain)) (quiet_quoted b.space)))
    quiet_nil

quiet_declarations : (seen : List (List ℕ)) (bs : List Bound) → ArePlainBounds bs → IsQuiet (declarations seen bs)
quiet_declarations seen [] plain = quiet_nil
quiet_declarations seen (b ∷ bs) plain =
    quiet-append (quiet_declaration seen b plain.0) (quiet_declarations (seen ++ b.prefix ∷ []) bs plain.1)

quiet_prefix : (prefix : List ℕ) → IsPlain prefix → IsQuiet (prefixed prefix)
quiet_prefix [] plain = quiet_nil
quiet_prefix (c ∷ cs) plain = quiet-append (quiet_plain (c ∷ cs) plain) (record { same = λ o. refl })

quiet_attribute : (a : Attr) → IsPlain a.prefix → IsPlain a.name.name → IsQuiet (attribute a)
quiet_attribute a prefix name =
    quiet-append {xs = 32 ∷ prefixed a.prefix ++ a.name.name}
    (quiet-append {xs = 32 ∷ prefixed a.prefix}
    (quiet-append {xs = 32 ∷ []} (record { same = λ o. refl }) (quiet_prefix a.prefix prefix))
    (quiet_plain a.name.name name)) (quiet_quoted a.value)

quiet_attributes : (xs : List Attr) → ArePlainAttrs xs → IsQuiet (flat_map attribute xs)
quiet_attributes [] plain = quiet_nil
quiet_attributes (a ∷ xs) plain = quiet-append (quiet_attribute a plain.0 plain.1) (quiet_attributes xs plain.2)

plain_bounds-append : (bs cs : List Bound) → ArePlainBounds bs → ArePlainBounds cs → ArePlainBounds (bs ++ cs)
plain_bounds-append [] cs first second = second
plain_bounds-append (b ∷ bs) cs first second = (first.0, plain_bounds-append bs cs first.1 second)

plain_used : (xs : List Attr) → ArePlainAttrs xs → ArePlainBounds (map use_of xs)
plain_used [] plain = tt
plain_used (a ∷ xs) plain = (plain.0, plain_used xs plain.2)

plain_if : (b : Bool) (bs : List Bound) → ArePlainBounds bs → ArePlainBounds (if b then bs else [])
plain_if true bs plain = plain
plain_if false bs plain = tt

-- a start tag opens
opens : (o : Bool) (above space name : List ℕ) (bounds : List Bound) (attrs : List Attr) (parts : List Part)
    → IsPlain name → ArePlainBounds bounds → ArePlainAttrs attrs
    → tags o (start_of above (record { space = space; name = name }) bounds attrs parts) ≡ Some true
opens o above space name bounds attrs parts plain_name plain_bounds plain_attrs =
    let plain_uses =
    plain_bounds-append (map use_of attrs) (if list_any is_chars parts then bounds else [])
    (plain_used attrs plain_attrs)
    (plain_if (list_any is_chars parts) bounds plain_bounds) in
    let first : tags o (60 ∷ name) ≡ Some true = (quiet_plain name plain_name).same true in
    let second : tags o (60 ∷ name ++ default_declaration above space) ≡ Some true =
    then_tags o true (Some true) (60 ∷ name) (default_declaration above space) first
    ((quiet_default_declaration above space).same true) in
    let third : tags o (60 ∷ name ++ default_declaration above space ++ declarations [] (uses bounds attrs parts))
    ≡ Some true =
    then_tags o true (Some true) (60 ∷ name ++ default_declaration above space)
    (declarations [] (uses bounds attrs parts)) second
    ((quiet_declarations [] (uses bounds attrs parts) plain_uses).same true) in
    then_tags o true (Some true)
    (60 ∷ name ++ default_declaration above space ++ declarations [] (uses bounds attrs parts))
    (flat_map attribute attrs) third
    ((quiet_attributes attrs plain_attrs).same true)

closes_empty : tags true empty_end ≡ Some false
unfolding empty_end
closes_empty = refl

opens_end : tags false end_tag ≡ Some true
unfolding end_tag
opens_end = refl

-- an end tag opens and closes
closes : (space name : List ℕ) → IsPlain name → tags false (end_of (record { space = space; name = name })) ≡ Some false
closes space name plain =
    then_tags false true (Some false) (end_tag ++ name) (62 ∷ [])
    (then_tags false true (Some true) end_tag name opens_end ((quiet_plain name plain).same true)) refl

ends : (b : Bool) (content behind : List ℕ) → tags false content ≡ Some false → tags false behind ≡ Some false
    → tags true (if b then empty_end else 62 ∷ content ++ behind) ≡ Some false
ends true content behind inner last = closes_empty
ends false content behind inner last = then_tags true false (Some false) (62 ∷ content) behind inner last

whole : (above space name : List ℕ) (bounds : List Bound) (attrs : List Attr) (parts : List Part) (content : List ℕ)
    → IsPlain name → ArePlainBounds bounds → ArePlainAttrs attrs → tags false content ≡ Some false
    → tags false (element above (record { space = space; name = name }) bounds attrs parts content) ≡ Some false
whole above space name bounds attrs parts content plain_name plain_bounds plain_attrs inner =
    then_tags false true (Some false) (start_of above (record { space = space; name = name }) bounds attrs parts)
    (if is_empty parts then empty_end else 62 ∷ content ++ end_of (record { space = space; name = name }))
    (opens false above space name bounds attrs parts plain_name plain_bounds plain_attrs)
    (ends (is_empty parts) content (end_of (record { space = space; name = name })) inner
    (closes space name plain_name))

mutual
  closed_part : (space : List ℕ) (p : Part) → IsPlainPart p → tags false (written_part space p) ≡ Some false
  closed_part space (Chars text) plain = (quiet_each text_char quiet_text_char text).same false
  closed_part space (Child' u child) plain = closed_child space child plain

  closed_child : (above : List ℕ) {n : _} (child : Row_of-Elem n) → IsPlainChild child →
      tags false (written_child above child) ≡ Some false
  closed_child above end_of-Elem plain = refl
  closed_child above (more_of-Elem name bounds attrs shape parts none) plain =
      whole above name.space name.name bounds attrs (items-the_row-Part _ parts)
      (written_parts name.space parts) plain.0 plain.1 plain.2
      (closed_parts name.space parts plain.3)

  closed_parts : (space : List ℕ) {n : _} (parts : Row_of-Part n) → ArePlainParts parts →
      tags false (written_parts space parts) ≡ Some false
  closed_parts space end_of-Part plain = refl
  closed_parts space (more_of-Part part more) plain =
      then_tags false false (Some false) (written_part space part) (written_parts space more)
      (closed_part space part plain.0) (closed_parts space more plain.1)

-- two `>` with no `<` between them end no tags
no_tags : (o : Bool) (after : List ℕ) → tags o (mark ++ after) ≡ None
no_tags true after = refl
no_tags false after = refl

unmarked : (xs : List ℕ) → tags false xs ≡ Some false → HasNoMark xs
unmarked xs closed before after e =
    let split : tags false (before ++ (mark ++ after)) ≡ Some false = ap (tags false) (sym e) ∙ closed in
    let joined : option_and_then (λ r. tags r (mark ++ after)) (tags false before) ≡ Some false =
    sym (tags-append false before (mark ++ after)) ∙ split in
    none_behind (tags false before) joined
  where
    none_behind : (o : Option Bool) → option_and_then (λ r. tags r (mark ++ after)) o ≡ Some false → ⊥
    none_behind None e = cc
    none_behind (Some r) e = let clash : ◌≡◌ {A = Option Bool} None (Some false) = sym (no_tags r after) ∙ e in cc

pub holds_no_mark : HoldsNoMark
holds_no_mark tree plain =
    let same = written_child_is [] tree.root in
    let P : List ℕ → Type 0 = λ xs. HasNoMark xs in
    subst P same (unmarked (written_part [] (Child tree.root)) (closed_part [] (Child tree.root) plain))
