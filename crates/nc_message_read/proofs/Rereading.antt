-- What is written of a tree is read back.
use Rattle.std.proofs.Common.{◌≡◌, ◌==◌, ◌<◌, ℕ, zero, suc, Bool, true, false, cond, List, [], ◌∷◌, ◌++◌, length, refl, sym, ap, subst, ◌∙◌, append-nil, append_assoc, inl, inr, arith}
use Rattle.std.specs.List.{flat_map, list_all}
use Rattle.std.specs.Str.{chars, is_utf8}
use Rattle.std.proofs.lemmas.Grind.{flat_map-append}
use Rattle.std.proofs.lemmas.Str.{chars-nil, IsUtf8-from_ascii}
use Rattle.std.proofs.lemmas.Str.Ascii.{IsAscii-nil}
use Rattle.nc_names.proofs.SameLemmas.{both_true}
use Rattle.nc_names.specs.Bindings.{space_of}
use Rattle.nc_names.specs.Limits.{element_depth}
use Rattle.nc_names.specs.declared.name.Bound.{Bound}
use Rattle.nc_names.specs.declared.name.QName.{QName}
use Rattle.nc_message.specs.declared.tree.Attr.{Attr}
use Rattle.nc_message.specs.declared.tree.Elem.{Elem}
use Rattle.nc_message.specs.declared.tree.Part.{Part, Child', Chars, Row_of-Part, end_of-Part, more_of-Part}
use Rattle.nc_message.specs.declared.tree.Part.TheVariants.{Child}
use Rattle.nc_message.specs.declared.tree.Part.TheBlock.{Row_of-Elem, end_of-Elem, more_of-Elem, items-the_row-Part}
use Rattle.nc_message.specs.declared.tree.Part.TheBlock.{hidden-the_row-Part-0, hidden-the_row-Elem-1}
use denote.Hole.Carrier.{hidden}
use Rattle.nc_message.specs.Bindings.{inside, is_empty as is_empty_text}
use Rattle.nc_message.specs.Faults.{IsCut}
use Rattle.nc_message.specs.Marks.{ampersand, carriage_return, empty_end, end_tag, greater_than, less_than}
use Rattle.nc_message.specs.Names.{is_in_run}
use Rattle.nc_message.specs.Pieces.{first_passes}
use Rattle.nc_message.specs.Resolved.{default_space}
use Rattle.nc_message.specs.Spells.{AreBits, Bit, Inner, SpellsElem, Words, chars_of, joined}
use Rattle.nc_message.specs.Texts.{is_allowed, is_char}
use Rattle.nc_message.specs.Tokens.{End, Run, Start, Token}
use Rattle.nc_message.specs.Written.{element, end_of, is_chars, is_empty, start_of, text_char, written_child, written_part, written_parts}
use Rattle.nc_message.proofs.Children.{written_child_is}
use Rattle.nc_message_read.specs.Laws.{WrittenIsRead}
use Rattle.nc_message_read.specs.ReadBack.{AreProperParts, IsProperChild, IsProperElem, IsProperPart, declared_in, elem_in, is_name, read_child, read_elem, read_part, read_parts}
use Rattle.nc_message_read.proofs.Escaped.{allowed_append, text_in_run, text_is_read}
use Rattle.nc_message_read.proofs.Opened.{default_space_is, opened_head, tag_free, tag_is_bound, tag_opens}
use Rattle.nc_message_read.proofs.Opening.{same_itself, start_text_is, tag_attributes}
use Rattle.nc_message_read.proofs.Fronts.{attributes_text}
use Rattle.nc_message_read.proofs.Tagged.{end_token, run_token, start_token, tag_end, tag_of}
use Rattle.nc_message_read.proofs.Utf8.{utf8_yes}

-- ---- tokens one after another
cut_join : (a b c : List ℕ) (ts us : List Token) → IsCut a ts b → IsCut b us c → IsCut a (ts ++ us) c
cut_join a b c [] us one two = subst (λ x. IsCut x us c) (sym one) two
cut_join a b c (t ∷ ts) us one two = (one.0, one.1, one.2, cut_join one.0 b c ts us one.3 two)

some_bytes : (c : ℕ) (cs : List ℕ) → 0 < length (c ∷ cs)
some_bytes c cs = omega arith

-- the text is cut into tokens that spell these parts
record Spelled (levels : ℕ) (bounds : List Bound) (text rest : List ℕ) (parts : List Part) : Type 0 where
  bits : List Bit
  tokens : List Token
  are : AreBits (SpellsElem levels bounds) bits tokens
  cut : IsCut text tokens rest
  joined_is : joined [] bits ≡ parts

-- it is cut into tokens that spell an element
record SpelledElem (levels : ℕ) (outer : List Bound) (text rest : List ℕ) (e : Elem) : Type 0 where
  tokens : List Token
  spells : SpellsElem levels outer e tokens
  cut : IsCut text tokens rest

-- ---- text
picked_some : (test : Bool) (one other rest : List ℕ) → is_empty_text (one ++ rest) ≡ false → is_empty_text (other ++ rest) ≡ false → is_empty_text (cond test one other ++ rest) ≡ false
picked_some true one other rest a b = a
picked_some false one other rest a b = b

text_some : (c : ℕ) (rest : List ℕ) → is_empty_text (text_char c ++ rest) ≡ false
unfolding ampersand less_than greater_than carriage_return
text_some c rest =
    picked_some (c == 38) ampersand _ rest refl (picked_some (c == 60) less_than _ rest refl (picked_some (c == 62) greater_than _ rest refl (picked_some (c == 13) carriage_return (c ∷ []) rest refl refl)))

run_cut : (raw rest : List ℕ) → is_empty_text raw ≡ false → list_all is_in_run raw ≡ true → first_passes is_in_run rest ≡ false → IsCut (raw ++ rest) (Run raw ∷ []) rest
run_cut [] rest some all stops = cc
run_cut (c ∷ cs) rest some all stops = (rest, some_bytes c (cs ++ rest), run_token c cs rest all stops, refl)

-- some text, and then what is cut
flushed : (levels : ℕ) (bounds : List Bound) (before text rest : List ℕ) (bits : List Bit) (ts : List Token) (parts : List Part) → is_allowed before ≡ true → first_passes is_in_run text ≡ false
    → AreBits (SpellsElem levels bounds) bits ts → IsCut text ts rest → joined before bits ≡ parts → Spelled levels bounds (flat_map text_char before ++ text) rest parts
flushed levels bounds [] text rest bits ts parts allowed stops are cut is = record { bits = bits; tokens = ts; are = are; cut = cut; joined_is = is }
flushed levels bounds (c ∷ cs) text rest bits ts parts allowed stops are cut is =
    let raw = flat_map text_char (c ∷ cs) in
    let run = run_cut raw text (text_some c (flat_map text_char cs)) (text_in_run (c ∷ cs)) stops in
    record {
      bits = Words (c ∷ cs) ∷ bits;
      tokens = Run raw ∷ ts;
      are = (Run raw ∷ [], ts, refl, (Run raw, refl, text_is_read (c ∷ cs) allowed), are);
      cut = cut_join (raw ++ text) text rest (Run raw ∷ []) ts run cut;
      joined_is = is;
    }

nothing_allowed : is_allowed [] ≡ true
nothing_allowed = both_true (is_utf8 []) (list_all is_char (chars [])) (utf8_yes [] (IsUtf8-from_ascii [] IsAscii-nil)) (ap (list_all is_char) chars-nil)

-- ---- one element
alone_is : (space : List ℕ) (bounds : List Bound) (n : _) (row : Row_of-Part n) → is_empty (items-the_row-Part n row) ≡ true → joined [] (read_parts space bounds row) ≡ []
alone_is space bounds n end_of-Part e = refl
alone_is space bounds n (more_of-Part part more) e = cc

-- a start tag, and what follows it
tag_text : (above : List ℕ) (name : QName) (bounds : List Bound) (attrs : List Attr) (parts : List Part) (ending : List ℕ)
    → start_of above name bounds attrs parts ++ ending ≡ 60 ∷ (name.name ++ (attributes_text (tag_attributes above name bounds attrs parts) ++ ending))
tag_text above name bounds attrs parts ending =
    ap (λ l. l ++ ending) (start_text_is above name bounds attrs parts)
    ∙ ap (λ l. 60 ∷ l) (append_assoc name.name (attributes_text (tag_attributes above name bounds attrs parts)) ending)

tag_cut : (above : List ℕ) (name : QName) (bounds : List Bound) (attrs : List Attr) (parts : List Part) (alone : Bool) (rest : List ℕ) → IsProperElem name bounds attrs parts
    → IsCut (start_of above name bounds attrs parts ++ (tag_end alone ++ rest)) (Start (tag_of name.name (tag_attributes above name bounds attrs parts) alone) ∷ []) rest
tag_cut above name bounds attrs parts alone rest proper =
    subst (λ text. IsCut text (Start (tag_of name.name (tag_attributes above name bounds attrs parts) alone) ∷ []) rest) (sym (tag_text above name bounds attrs parts (tag_end alone ++ rest)))
    (rest, some_bytes 60 _, start_token name.name (tag_attributes above name bounds attrs parts) alone rest proper.local (tag_free above name bounds attrs parts proper), refl)

-- `/>`
alone_spelled : (levels : ℕ) (above : List ℕ) (name : QName) (bounds : List Bound) (attrs : List Attr) (parts : List Part) (outer : List Bound) (rest : List ℕ) (read : List Bit)
    → IsProperElem name bounds attrs parts → default_space (space_of [] outer) ≡ above → joined [] read ≡ []
    → SpelledElem (suc levels) outer (start_of above name bounds attrs parts ++ empty_end ++ rest) rest (read_elem (inside outer (declared_in above name bounds attrs parts)) name attrs read)
unfolding empty_end
alone_spelled levels above name bounds attrs parts outer rest read proper is nothing_in =
    let tag = tag_of name.name (tag_attributes above name bounds attrs parts) true in
    record {
      tokens = Start tag ∷ [];
      spells = record {
        tag = tag;
        first = opened_head above name bounds attrs parts outer;
        bits = [];
        behind = [];
        whole = refl;
        bound = tag_is_bound above name bounds attrs parts outer true proper;
        opens = tag_opens above name bounds attrs parts outer true proper is;
        tree = ap (λ found. record { name = name; bounds = inside outer (declared_in above name bounds attrs parts); attrs = attrs; parts = found }) nothing_in;
        ending = inl (refl, refl, refl);
      };
      cut = subst (λ text. IsCut text (Start tag ∷ []) rest) (sym (append_assoc (start_of above name bounds attrs parts) empty_end rest)) (tag_cut above name bounds attrs parts true rest proper);
    }

end_cut : (name : QName) (rest : List ℕ) → is_name name.name ≡ true → IsCut (end_of name ++ rest) (End (record { prefix = []; local = name.name }) ∷ []) rest
unfolding end_tag
end_cut name rest named =
    subst (λ text. IsCut text (End (record { prefix = []; local = name.name }) ∷ []) rest) (ap (λ l. 60 ∷ 47 ∷ l) (sym (append_assoc name.name (62 ∷ []) rest)))
    (rest, some_bytes 60 (47 ∷ (name.name ++ 62 ∷ rest)), end_token name.name rest named, refl)

-- `>`, content and an end tag
closed_spelled : (levels : ℕ) (above : List ℕ) (name : QName) (bounds : List Bound) (attrs : List Attr) (parts : List Part) (outer : List Bound) (content rest : List ℕ) (read : List Bit)
    → IsProperElem name bounds attrs parts → default_space (space_of [] outer) ≡ above
    → Spelled levels (inside outer (declared_in above name bounds attrs parts)) (content ++ (end_of name ++ rest)) (end_of name ++ rest) (joined [] read)
    → SpelledElem (suc levels) outer (start_of above name bounds attrs parts ++ (62 ∷ content ++ end_of name) ++ rest) rest (read_elem (inside outer (declared_in above name bounds attrs parts)) name attrs read)
closed_spelled levels above name bounds attrs parts outer content rest read proper is inner =
    let tag = tag_of name.name (tag_attributes above name bounds attrs parts) false in
    let ending = End (record { prefix = []; local = name.name }) ∷ [] in
    let text : start_of above name bounds attrs parts ++ (62 ∷ content ++ end_of name) ++ rest ≡ start_of above name bounds attrs parts ++ (tag_end false ++ (content ++ (end_of name ++ rest))) =
    append_assoc (start_of above name bounds attrs parts) (62 ∷ content ++ end_of name) rest ∙ ap (λ l. start_of above name bounds attrs parts ++ 62 ∷ l) (append_assoc content (end_of name) rest) in
    let after_tag : IsCut (content ++ (end_of name ++ rest)) (inner.tokens ++ ending) rest =
    cut_join (content ++ (end_of name ++ rest)) (end_of name ++ rest) rest inner.tokens ending inner.cut (end_cut name rest proper.local) in
    record {
      tokens = Start tag ∷ (inner.tokens ++ ending);
      spells = record {
        tag = tag;
        first = opened_head above name bounds attrs parts outer;
        bits = inner.bits;
        behind = inner.tokens ++ ending;
        whole = refl;
        bound = tag_is_bound above name bounds attrs parts outer false proper;
        opens = tag_opens above name bounds attrs parts outer false proper is;
        tree = ap (λ found. record { name = name; bounds = inside outer (declared_in above name bounds attrs parts); attrs = attrs; parts = found }) (sym inner.joined_is);
        ending = inr (record {
          inner = inner.tokens;
          name = record { prefix = []; local = name.name };
          whole = refl;
          open_to = refl;
          ends = same_itself name.name;
          are = inner.are;
        });
      };
      cut = subst (λ t. IsCut t (Start tag ∷ (inner.tokens ++ ending)) rest) (sym text)
          (cut_join (start_of above name bounds attrs parts ++ (tag_end false ++ (content ++ (end_of name ++ rest)))) (content ++ (end_of name ++ rest)) rest (Start tag ∷ []) (inner.tokens ++ ending)
          (tag_cut above name bounds attrs parts false (content ++ (end_of name ++ rest)) proper) after_tag);
    }

elem_spelled : (levels : ℕ) (above : List ℕ) (name : QName) (bounds : List Bound) (attrs : List Attr) (parts : List Part) (outer : List Bound) (content rest : List ℕ) (read : List Bit)
    → IsProperElem name bounds attrs parts → default_space (space_of [] outer) ≡ above → (is_empty parts ≡ true → joined [] read ≡ [])
    → Spelled levels (inside outer (declared_in above name bounds attrs parts)) (content ++ (end_of name ++ rest)) (end_of name ++ rest) (joined [] read)
    → SpelledElem (suc levels) outer (element above name bounds attrs parts content ++ rest) rest (read_elem (inside outer (declared_in above name bounds attrs parts)) name attrs read)
elem_spelled levels above name bounds attrs parts outer content rest read proper is none inner = at (is_empty parts) refl
  where
    at : (b : Bool) → is_empty parts ≡ b → SpelledElem (suc levels) outer (start_of above name bounds attrs parts ++ (cond b empty_end (62 ∷ content ++ end_of name)) ++ rest) rest (read_elem (inside outer (declared_in above name bounds attrs parts)) name attrs read)
    at true e = alone_spelled levels above name bounds attrs parts outer rest read proper is (none e)
    at false e = closed_spelled levels above name bounds attrs parts outer content rest read proper is inner

-- ---- trees
-- what begins with a tag begins with no text
begins_tag : (above : List ℕ) (n : _) (child : Row_of-Elem n) (levels : ℕ) (rest : List ℕ) → IsProperChild levels child → first_passes is_in_run (written_child above child ++ rest) ≡ false
begins_tag above n end_of-Elem levels rest proper = absurd proper
begins_tag above n (more_of-Elem name bounds attrs shape parts none) levels rest proper = refl

ends_text : (name : QName) (rest : List ℕ) → first_passes is_in_run (end_of name ++ rest) ≡ false
unfolding end_tag
ends_text name rest = refl

with_child : (levels : ℕ) (bounds : List Bound) (before child more rest : List ℕ) (e : Elem) (read : List Bit) → is_allowed before ≡ true → first_passes is_in_run (child ++ (more ++ rest)) ≡ false
    → SpelledElem levels bounds (child ++ (more ++ rest)) (more ++ rest) e → Spelled levels bounds (more ++ rest) rest (joined [] read)
    → Spelled levels bounds (flat_map text_char before ++ ((child ++ more) ++ rest)) rest (joined before (Inner e ∷ read))
with_child levels bounds before child more rest e read allowed stops one others =
    subst (λ l. Spelled levels bounds (flat_map text_char before ++ l) rest (joined before (Inner e ∷ read))) (sym (append_assoc child more rest))
    (flushed levels bounds before (child ++ (more ++ rest)) rest (Inner e ∷ others.bits) (one.tokens ++ others.tokens) (joined before (Inner e ∷ read)) allowed stops
    (one.tokens, others.tokens, refl, one.spells, others.are)
    (cut_join (child ++ (more ++ rest)) (more ++ rest) rest one.tokens others.tokens one.cut others.cut)
    (ap (λ l. chars_of before ++ Child e ∷ l) others.joined_is))

with_words : (levels : ℕ) (bounds : List Bound) (before text more rest : List ℕ) (parts : List Part) → Spelled levels bounds (flat_map text_char (before ++ text) ++ (more ++ rest)) rest parts
    → Spelled levels bounds (flat_map text_char before ++ ((flat_map text_char text ++ more) ++ rest)) rest parts
with_words levels bounds before text more rest parts is =
    subst (λ l. Spelled levels bounds l rest parts) (
    ap (λ l. l ++ (more ++ rest)) (flat_map-append text_char before text) ∙ append_assoc (flat_map text_char before) (flat_map text_char text) (more ++ rest)
    ∙ ap (λ l. flat_map text_char before ++ l) (sym (append_assoc (flat_map text_char text) more rest))) is

mutual
  child_spelled : (levels : ℕ) (above : List ℕ) (outer : List Bound) {n : _} (child : Row_of-Elem n) → IsProperChild levels child → default_space (space_of [] outer) ≡ above → (rest : List ℕ)
      → SpelledElem levels outer (written_child above child ++ rest) rest (read_child above outer child)
  child_spelled levels above outer end_of-Elem proper is rest = absurd proper
  child_spelled zero above outer (more_of-Elem name bounds attrs shape parts none) proper is rest = absurd proper
  child_spelled (suc levels) above outer (more_of-Elem name bounds attrs shape parts none) proper is rest =
      elem_spelled levels above name bounds attrs (items-the_row-Part _ parts) outer (written_parts name.space parts) rest
      (read_parts name.space (inside outer (declared_in above name bounds attrs (items-the_row-Part _ parts))) parts) proper.0 is
      (alone_is name.space (inside outer (declared_in above name bounds attrs (items-the_row-Part _ parts))) _ parts)
      (parts_spelled levels name.space (inside outer (declared_in above name bounds attrs (items-the_row-Part _ parts))) parts [] proper.1 nothing_allowed
      (default_space_is above name bounds attrs (items-the_row-Part _ parts) outer is) (end_of name ++ rest) (ends_text name rest))

  parts_spelled : (levels : ℕ) (space : List ℕ) (bounds : List Bound) {n : _} (parts : Row_of-Part n) (before : List ℕ) → AreProperParts levels parts → is_allowed before ≡ true
      → default_space (space_of [] bounds) ≡ space → (rest : List ℕ) → first_passes is_in_run rest ≡ false
      → Spelled levels bounds (flat_map text_char before ++ (written_parts space parts ++ rest)) rest (joined before (read_parts space bounds parts))
  parts_spelled levels space bounds end_of-Part before proper allowed is rest stops = flushed levels bounds before rest rest [] [] (joined before []) allowed stops refl refl refl
  parts_spelled levels space bounds (more_of-Part (Chars text) more) before proper allowed is rest stops =
      with_words levels bounds before text (written_parts space more) rest (joined (before ++ text) (read_parts space bounds more))
      (parts_spelled levels space bounds more (before ++ text) proper.1 (allowed_append before text allowed proper.0) is rest stops)
  parts_spelled levels space bounds (more_of-Part (Child' u child) more) before proper allowed is rest stops =
      with_child levels bounds before (written_child space child) (written_parts space more) rest (read_child space bounds child) (read_parts space bounds more) allowed
      (begins_tag space _ child levels (written_parts space more ++ rest) proper.0)
      (child_spelled levels space bounds child proper.0 is (written_parts space more ++ rest))
      (parts_spelled levels space bounds more [] proper.1 nothing_allowed is rest stops)

part_spelled : (p : Part) → is_chars p ≡ false → IsProperPart element_depth p → SpelledElem element_depth [] (written_part [] p ++ []) [] (elem_in (read_part [] [] p))
part_spelled (Chars text) e proper = cc
part_spelled (Child' u child) e proper = child_spelled element_depth [] [] child proper refl []

no_text : (e : Elem) → is_chars (Child e) ≡ false
unfolding hidden-the_row-Part-0 hidden-the_row-Elem-1 hidden
no_text e = refl

pub written_is_read : WrittenIsRead
written_is_read tree proper =
    let one = part_spelled (Child tree.root) (no_text tree.root) proper in
    record {
      tokens = one.tokens;
      cut = subst (λ text. IsCut text one.tokens []) (append-nil (written_part [] (Child tree.root)) ∙ written_child_is [] tree.root) one.cut;
      spells = inl (record { before = []; middle = one.tokens; after = []; whole = sym (append-nil one.tokens); misc_before = tt; element = one.spells; misc_after = tt });
    }
