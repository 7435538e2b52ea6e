-- Rules of reading at work, one row each: what is written at the left, what it is read as at the right.
use Rattle.std.proofs.Common.{◌≡◌, ℕ, true, false, List, [], ◌∷◌, None, Some, refl}
use Rattle.std.specs.Prelude.{codes}
use Rattle.nc_names.specs.declared.name.Bound.{Bound}
use Rattle.nc_message.specs.declared.tree.Part.TheVariants.{Chars}
use Rattle.nc_message.specs.Bindings.{inside}
use Rattle.nc_message.specs.Pieces.{begins_declaration, close, comment, declares_version, is_target, quoted, section, token, value}
use Rattle.nc_message.specs.Resolved.{is_declaration, declared_prefix, is_reserved, is_unbound, attr_space, elem_space}
use Rattle.nc_message.specs.Spells.{Remark, Words, joined}
use Rattle.nc_message.specs.Texts.{is_char, named, numbered, reference, resolved}
use Rattle.nc_message.specs.Tokens.{Attribute, Run}

-- ---- what bytes stand for
-- the five entities (XML 1.0 4.6)
entities : resolved true false 0 (codes "&lt;&amp;&gt;&quot;&apos;") ≡ Some (codes "<&>\"'")
unfolding reference named lib.Utf8.encode
entities = refl

-- references by number, in both radices (XML 1.0 4.1)
numbers : resolved true false 0 (codes "&#65;&#x42;") ≡ Some (codes "AB")
unfolding reference numbered lib.Utf8.encode
numbers = refl

-- a reference to what is no character, and one that does not end, are none
no_character : (reference (codes "#0;") ≡ None) × (reference (codes "#xD800;") ≡ None) × (reference (codes "#x110000;") ≡ None) × (reference (codes "amp") ≡ None) × (reference (codes "#;") ≡ None)
unfolding reference named numbered
no_character = (refl, refl, refl, refl, refl)

-- the ends of lines (XML 1.0 2.11), and in a value white space (3.3.3) that is not written as a reference
lines : resolved true false 0 (97 ∷ 13 ∷ 10 ∷ 98 ∷ 13 ∷ 99 ∷ []) ≡ Some (97 ∷ 10 ∷ 98 ∷ 10 ∷ 99 ∷ [])
lines = refl

value_lines : resolved true true 0 (97 ∷ 13 ∷ 10 ∷ 9 ∷ 38 ∷ 35 ∷ 57 ∷ 59 ∷ []) ≡ Some (97 ∷ 32 ∷ 32 ∷ 9 ∷ [])
unfolding reference numbered lib.Utf8.encode
value_lines = refl

-- no reference in a CDATA section (XML 1.0 2.7)
no_reference : resolved false false 0 (codes "&lt;") ≡ Some (codes "&lt;")
no_reference = refl

characters : (is_char 9 ≡ true) × (is_char 8 ≡ false) × (is_char 65534 ≡ false) × (is_char 65536 ≡ true)
characters = (refl, refl, refl, refl)

-- ---- tokens
comments : comment (codes "<!--a-b-->c") ≡ Some (codes "a-b", codes "c")
unfolding comment
comments = refl

-- `--` stands in no comment (XML 1.0 2.5)
no_comment : comment (codes "<!--a--b-->") ≡ None
unfolding comment
no_comment = refl

sections : section (codes "<![CDATA[a]]b]]>c") ≡ Some (codes "a]]b", codes "c")
unfolding section
sections = refl

values : (quoted (codes "'a\"b'c") ≡ Some (codes "a\"b", codes "c")) × (quoted (codes "\"a<b\"") ≡ None) × (quoted (codes "a") ≡ None)
unfolding quoted value
values = (refl, refl, refl)

ends_of_tags : (close (codes "/>a") ≡ Some (true, codes "a")) × (close (codes ">a") ≡ Some (false, codes "a")) × (close (codes "/ >") ≡ None)
unfolding close
ends_of_tags = (refl, refl, refl)

runs : token (codes "a&b<c/>") ≡ Some (Run (codes "a&b"), codes "<c/>")
unfolding token
runs = refl

-- what begins the declaration, and what a processing instruction may be named (XML 1.0 2.6, 2.8)
declarations : (begins_declaration (codes "<?xml version") ≡ true) × (begins_declaration (codes "<?xmlx") ≡ false) × (begins_declaration (codes "<?xml:a") ≡ false)
declarations = (refl, refl, refl)

targets : (is_target (record { prefix = []; local = codes "Xml" }) ≡ false) × (is_target (record { prefix = []; local = codes "xmlx" }) ≡ true)
targets = (refl, refl)

word : List ℕ → List ℕ → Attribute
word local value = record { name = record { prefix = []; local = local }; value = value }

versions : (declares_version (word (codes "version") (codes "1.1") ∷ []) ≡ true) × (declares_version (word (codes "version") (codes "1.") ∷ []) ≡ false)
    × (declares_version (word (codes "version") (codes "1.0") ∷ word (codes "encoding") (codes "Utf-8") ∷ word (codes "standalone") (codes "no") ∷ []) ≡ true)
    × (declares_version (word (codes "version") (codes "1.0") ∷ word (codes "standalone") (codes "no") ∷ word (codes "encoding") (codes "utf-8") ∷ []) ≡ false)
unfolding word
versions = (refl, refl, refl, refl)

-- ---- namespaces
bound : List ℕ → List ℕ → Bound
bound prefix space = record { prefix = prefix; space = space }

-- an inner declaration stands in the place of an outer one, and at its own tag's place in the list
inner : inside (bound (codes "p") (codes "urn:a") ∷ bound (codes "q") (codes "urn:b") ∷ []) (record { own = bound (codes "p") (codes "urn:c") ∷ []; undeclares = false })
    ≡ bound (codes "q") (codes "urn:b") ∷ bound (codes "p") (codes "urn:c") ∷ []
unfolding bound
inner = refl

-- `xmlns=""` takes the default namespace away
undeclared : inside (bound [] (codes "urn:a") ∷ bound (codes "q") (codes "urn:b") ∷ []) (record { own = []; undeclares = true }) ≡ bound (codes "q") (codes "urn:b") ∷ []
unfolding bound
undeclared = refl

declaring : (is_declaration (record { prefix = []; local = codes "xmlns" }) ≡ true) × (is_declaration (record { prefix = codes "xmlns"; local = codes "p" }) ≡ true)
    × (is_declaration (record { prefix = codes "p"; local = codes "xmlns" }) ≡ false)
declaring = (refl, refl, refl)

reserved : (is_reserved (codes "xmlns") (codes "urn:a") ≡ true) × (is_reserved (codes "xml") (codes "urn:a") ≡ true) × (is_reserved (codes "p") (codes "urn:a") ≡ false)
unfolding Rattle.nc_message.specs.Resolved.xml_space
reserved = (refl, refl, refl)

-- the default namespace is an element's and no attribute's
default : (elem_space (bound [] (codes "urn:a") ∷ []) [] ≡ Some (codes "urn:a")) × (attr_space (bound [] (codes "urn:a") ∷ []) [] ≡ Some [])
unfolding bound
default = (refl, refl)

unbound : (is_unbound (bound (codes "p") (codes "urn:a") ∷ []) [] (codes "p") ≡ false) × (is_unbound [] [] (codes "p") ≡ true) × (is_unbound [] [] (codes "xml") ≡ false) × (is_unbound [] [] (codes "xmlns") ≡ true)
unfolding bound
unbound = (refl, refl, refl, refl)

-- ---- parts
-- adjacent text is one part, whatever is skipped in it, and no text is none
joining : joined [] (Words (codes "a") ∷ Remark ∷ Words (codes "b") ∷ Words [] ∷ []) ≡ Chars (codes "ab") ∷ []
joining = refl

no_words : joined [] (Words [] ∷ Remark ∷ []) ≡ []
no_words = refl
