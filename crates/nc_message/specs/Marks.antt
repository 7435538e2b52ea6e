-- The fixed texts of which a written message is made.
use Rattle.std.specs.Prelude.{ℕ, List, codes}

-- references to characters that would be read as markup or changed (XML 1.0, 2.4, 4.6)

-- of `&`
unfoldable pub ampersand : List ℕ
ampersand = codes "&amp;"

-- of `<`
unfoldable pub less_than : List ℕ
less_than = codes "&lt;"

-- of `>`
unfoldable pub greater_than : List ℕ
greater_than = codes "&gt;"

-- of `"`
unfoldable pub quotation_mark : List ℕ
quotation_mark = codes "&quot;"

-- of a carriage return
unfoldable pub carriage_return : List ℕ
carriage_return = codes "&#13;"

-- of a tab
unfoldable pub tab : List ℕ
tab = codes "&#9;"

-- of the end of a line
unfoldable pub line_feed : List ℕ
line_feed = codes "&#10;"

-- what declares a namespace (Namespaces in XML 1.0, 3)

-- the default one
unfoldable pub default_namespace : List ℕ
default_namespace = codes " xmlns"

-- one of a prefix, which follows
unfoldable pub prefixed_namespace : List ℕ
prefixed_namespace = codes " xmlns:"

-- round a value (XML 1.0, 3.1)
unfoldable pub value_start : List ℕ
value_start = codes "=\""

-- the end of a tag without content (XML 1.0, 3.1)
unfoldable pub empty_end : List ℕ
empty_end = codes "/>"

-- what an end tag begins with (XML 1.0, 3.1)
unfoldable pub end_tag : List ℕ
end_tag = codes "</"

-- the prefix that is bound from the start (Namespaces in XML 1.0, 3)
unfoldable pub xml_prefix : List ℕ
xml_prefix = codes "xml"
