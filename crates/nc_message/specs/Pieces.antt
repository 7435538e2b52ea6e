-- What stands first in the bytes of a message, and what is left after it.
use Rattle.std.specs.Prelude.{ℕ, zero, suc, ◌||◌, ◌&&◌, Bool, true, false, not, nat_eq, nat_le, codes, List, [], ◌∷◌, ◌++◌, length, take, drop, Option, None, Some, option_and_then, option_map, if◌then◌else◌}
use Rattle.std.specs.Char.{is_ascii_digit}
use Rattle.std.specs.List.{prefix_len, starts_with, list_all}
use Rattle.std.specs.Str.{is_utf8}
use Rattle.nc_names.specs.Ends.{after_white}
use Rattle.nc_names.specs.Same.{is_same_text}
use Rattle.nc_names.specs.Signs.{closing_bracket, colon, equals, exclamation, greater_than, hyphen, is_white, less_than, opening_bracket, question, slash}
use Rattle.nc_message.specs.Tokens.{Name, Attribute, Tag, Token, Start, End, Run, Section, Comment, Instruction, Declaration}
use Rattle.nc_message.specs.Names.{begins_name, is_in_name, is_in_value, is_in_run, is_quote, is_same_in_any_case}

-- the marks with which tokens begin and end (XML 1.0, 2.5 to 2.7, 3.1)

-- `</`
abbrev pub end_mark : List ℕ
end_mark = less_than ∷ slash ∷ []

-- `/>`
abbrev pub alone_mark : List ℕ
alone_mark = slash ∷ greater_than ∷ []

-- `<!--`
abbrev pub comment_mark : List ℕ
comment_mark = less_than ∷ exclamation ∷ hyphen ∷ hyphen ∷ []

-- `--`
abbrev pub comment_end : List ℕ
comment_end = hyphen ∷ hyphen ∷ []

-- `<![`
abbrev pub bracket_mark : List ℕ
bracket_mark = less_than ∷ exclamation ∷ opening_bracket ∷ []

-- `<![CDATA[`
abbrev pub section_mark : List ℕ
section_mark = bracket_mark ++ codes "CDATA" ++ opening_bracket ∷ []

-- `]]>`
abbrev pub section_end : List ℕ
section_end = closing_bracket ∷ closing_bracket ∷ greater_than ∷ []

-- `<?`
abbrev pub instruction_mark : List ℕ
instruction_mark = less_than ∷ question ∷ []

-- `?>`
abbrev pub instruction_end : List ℕ
instruction_end = question ∷ greater_than ∷ []

-- the next reading, of what the last one left
infixl 10 ◌>>=◌
-- one reading after another
abbrev pub ◌>>=◌ : {A B : Type 0} → Option A → (A → Option B) → Option B
o >>= f = option_and_then f o

-- the text after these bytes, where it begins with them
abbrev pub after : List ℕ → List ℕ → Option (List ℕ)
after bytes text = if starts_with nat_eq text bytes then Some (drop (length bytes) text) else None

-- so many bytes, and the text after them
abbrev pub split : ℕ → List ℕ → List ℕ × List ℕ
split count text = (take count text, drop count text)

-- there is a first byte, and it passes
abbrev pub first_passes : (ℕ → Bool) → List ℕ → Bool
first_passes p [] = false
first_passes p (c ∷ cs) = p c

-- a part of a name (`NCName` of Namespaces in XML 1.0, 3)
unfoldable pub part : List ℕ → Option (List ℕ × List ℕ)
part text =
    if first_passes begins_name text && is_utf8 (take (prefix_len is_in_name text) text)
    then Some (split (prefix_len is_in_name text) text)
    else None

-- a name, which has at most one colon (`QName` of Namespaces in XML 1.0, 4)
unfoldable pub name : List ℕ → Option (Name × List ℕ)
name text =
    part text >>= (λ p. if starts_with nat_eq p.1 (colon ∷ [])
    then (part (drop 1 p.1) >>= (λ q. Some (record { prefix = p.0; local = q.0 }, q.1)))
    else Some (record { prefix = []; local = p.0 }, p.1))

-- the text up to a quotation mark, and what is left after the mark
unfoldable pub value : ℕ → List ℕ → Option (List ℕ × List ℕ)
value mark text =
    after (mark ∷ []) (drop (prefix_len (is_in_value mark) text) text)
    >>= (λ rest. Some (take (prefix_len (is_in_value mark) text) text, rest))

-- a value between two quotation marks of one kind (`AttValue` of 2.3)
unfoldable pub quoted : List ℕ → Option (List ℕ × List ℕ)
quoted [] = None
quoted (c ∷ cs) = if is_quote c then value c cs else None

-- a name, `=` and a value, with white space round the sign (`Attribute` of 3.1)
unfoldable pub attribute : List ℕ → Option (Attribute × List ℕ)
attribute text = do
  n ← name text
  r ← after (equals ∷ []) (after_white n.1)
  v ← quoted (after_white r)
  Some (record { name = n.0; value = v.0 }, v.1)

-- what was read, with these before it
abbrev pub prepend : {X : Type 0} → List X → Option (List X × List ℕ) → Option (List X × List ℕ)
prepend xs o = option_map (λ p. (xs ++ p.0, p.1)) o

-- attributes, each after white space, and the white space after them; `fuel` is more than the bytes
abbrev pub attributes : (fuel : ℕ) → List ℕ → Option (List Attribute × List ℕ)
attributes zero text = None
attributes (suc n) text =
    if first_passes begins_name (after_white text)
    then (if first_passes is_white text
    then (attribute (after_white text) >>= (λ a. prepend (a.0 ∷ []) (attributes n a.1)))
    else None)
    else Some ([], after_white text)

-- `>`, or `/>` of an element without content
unfoldable pub close : List ℕ → Option (Bool × List ℕ)
close text =
    if starts_with nat_eq text alone_mark then Some (true, drop 2 text)
    else (after (greater_than ∷ []) text >>= (λ rest. Some (false, rest)))

-- a start tag (`STag` and `EmptyElemTag` of 3.1)
unfoldable pub start : List ℕ → Option (Tag × List ℕ)
start text = do
  r ← after (less_than ∷ []) text
  n ← name r
  found ← attributes (suc (length n.1)) n.1
  last ← close found.1
  Some (record { name = n.0; attributes = found.0; alone = last.0 }, last.1)

-- an end tag (`ETag` of 3.1)
unfoldable pub end : List ℕ → Option (Name × List ℕ)
end text = do
  r ← after end_mark text
  n ← name r
  rest ← after (greater_than ∷ []) (after_white n.1)
  Some (n.0, rest)

-- what stands before the first place of a mark, and what is left after the mark
abbrev pub up_to : (mark : List ℕ) → List ℕ → Option (List ℕ × List ℕ)
up_to mark [] = None
up_to mark (c ∷ cs) =
    if starts_with nat_eq (c ∷ cs) mark then Some ([], drop (length mark) (c ∷ cs))
    else prepend (c ∷ []) (up_to mark cs)

-- a CDATA section: `<![CDATA[`, up to the first `]]>` (2.7)
unfoldable pub section : List ℕ → Option (List ℕ × List ℕ)
section text = after section_mark text >>= up_to section_end

-- a comment: `<!--`, up to the first `--`, which `>` follows (2.5)
unfoldable pub comment : List ℕ → Option (List ℕ × List ℕ)
comment text = do
  r ← after comment_mark text
  c ← up_to comment_end r
  rest ← after (greater_than ∷ []) c.1
  Some (c.0, rest)

-- whether a name is not that of the declaration, `xml`, in any case (2.6)
abbrev pub is_target : Name → Bool
is_target n = not (is_same_text n.prefix [] && is_same_in_any_case n.local (codes "xml"))

-- a processing instruction: `<?`, a name, and up to the first `?>`, with white space between them if
-- anything (2.6)
unfoldable pub instruction : List ℕ → Option (List ℕ × List ℕ)
instruction text = do
  r ← after instruction_mark text
  n ← name r
  c ← up_to instruction_end r
  if is_target n.0 && (starts_with nat_eq n.1 instruction_end || first_passes is_white n.1) then Some c else None

-- the parts of the declaration (2.8, 4.3.3, 2.9): `version` with `1.` and digits, `encoding` with UTF-8 in any
-- case, and `standalone` with `yes` or `no`

-- the attribute has this name, without a prefix
abbrev pub is_named : List ℕ → Attribute → Bool
is_named word a = is_same_text a.name.prefix [] && is_same_text a.name.local word

-- `VersionNum` of 2.8
abbrev pub is_version_number : List ℕ → Bool
is_version_number value =
    starts_with nat_eq value (codes "1.") && (nat_le 3 (length value) && list_all is_ascii_digit (drop 2 value))

-- `VersionInfo` of 2.8
abbrev pub is_version : Attribute → Bool
is_version a = is_named (codes "version") a && is_version_number a.value

-- `EncodingDecl` of 4.3.3, of the one encoding that messages have
abbrev pub is_encoding : Attribute → Bool
is_encoding a = is_named (codes "encoding") a && is_same_in_any_case a.value (codes "utf-8")

-- `yes` or `no`
abbrev pub is_yes_or_no : List ℕ → Bool
is_yes_or_no value = is_same_text value (codes "yes") || is_same_text value (codes "no")

-- `SDDecl` of 2.9
abbrev pub is_standalone : Attribute → Bool
is_standalone a = is_named (codes "standalone") a && is_yes_or_no a.value

-- the version, then the encoding and `standalone`, each if it stands (2.8)
abbrev pub declares_version : List Attribute → Bool
declares_version (a ∷ []) = is_version a
declares_version (a ∷ b ∷ []) = is_version a && (is_encoding b || is_standalone b)
declares_version (a ∷ b ∷ c ∷ []) = is_version a && is_encoding b && is_standalone c
declares_version _ = false

-- the declaration: `<?xml`, its parts, each after white space, and `?>` after white space, if any
unfoldable pub declaration : List ℕ → Option (List ℕ)
declaration text = do
  r ← after (codes "<?xml") text
  found ← attributes (suc (length r)) r
  rest ← after instruction_end found.1
  if declares_version found.0 then Some rest else None

-- `<?xml`, which no other byte of a name follows
abbrev pub begins_declaration : List ℕ → Bool
begins_declaration text =
    starts_with nat_eq text (codes "<?xml") && not (first_passes is_in_name (drop 5 text))
    && not (starts_with nat_eq (drop 5 text) (colon ∷ []))

-- what begins with `<?`: the declaration or a processing instruction
unfoldable pub questioned : List ℕ → Option (Token × List ℕ)
questioned text =
    if begins_declaration text then option_map (λ rest. (Declaration, rest)) (declaration text)
    else option_map (λ t. (Instruction t.0, t.1)) (instruction text)

-- the first whole token
unfoldable pub token : List ℕ → Option (Token × List ℕ)
token text =
    if starts_with nat_eq text end_mark then (end text >>= (λ t. Some (End t.0, t.1)))
    else if starts_with nat_eq text comment_mark then (comment text >>= (λ t. Some (Comment t.0, t.1)))
    else if starts_with nat_eq text bracket_mark then (section text >>= (λ t. Some (Section t.0, t.1)))
    else if starts_with nat_eq text instruction_mark then questioned text
    else if starts_with nat_eq text (less_than ∷ []) then (start text >>= (λ t. Some (Start t.0, t.1)))
    else Some (Run (take (prefix_len is_in_run text) text), drop (prefix_len is_in_run text) text)
