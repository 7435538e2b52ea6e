-- What access control denies where no rule matches, by the two extensions of the module ietf-netconf-acm (RFC 8341
-- 3.5.2). Its text is the first of all.
use Rattle.std.specs.Prelude.{ℕ, ◌&&◌, Bool, false, if◌then◌else◌, List, Some, codes}
use Rattle.std.specs.List.{list_any}
use Rattle.nc_names.specs.Same.{is_same_text}
use Rattle.nc_schema.specs.Children.{is_same_number}
use Rattle.nc_schema.specs.declared.node.Deny.{Deny}
use Rattle.nc_schema.specs.declared.node.Deny.TheVariants.{All, Nothing, Write}
use Rattle.nc_yang_words.specs.declared.statement.Statement.{Statement}
use Rattle.nc_yang_statements.specs.Statements.{below}
use Rattle.nc_yang_scopes.specs.Names.{keyword_text}
use Rattle.nc_yang_scopes.specs.Scopes.{Located, has_colon, local_of, prefix_of, text_of_prefix}

-- the word of such a statement
unfoldable pub is_word_of : Deny → List ℕ → Bool
is_word_of All word = is_same_text word (codes "default-deny-all")
is_word_of Write word = is_same_text word (codes "default-deny-write")
is_word_of Nothing word = false

-- the number of the text of ietf-netconf-acm
abbrev pub access_text : ℕ
access_text = 0

-- a keyword in a text is such a word, with a prefix that stands for ietf-netconf-acm there
abbrev pub says : List Statement → (text : ℕ) → Deny → List ℕ → Bool
says texts text deny keyword =
    has_colon keyword
    && (is_word_of deny (local_of keyword)
    && is_same_number (text_of_prefix texts text (prefix_of keyword)) (Some access_text))

-- so does the keyword of a statement
abbrev pub says_it : List Statement → (text : ℕ) → Deny → Statement → Bool
says_it texts text deny s = says texts text deny (keyword_text s)

-- one of these statements of a text says it
abbrev pub has_said : List Statement → (text : ℕ) → Deny → List Statement → Bool
has_said texts text deny ss = list_any (says_it texts text deny) ss

-- what statements directly in one say; where both stand, `default-deny-all` decides
abbrev pub said_in : List Statement → (text : ℕ) → List Statement → Deny
said_in texts text ss =
    if has_said texts text All ss then All else (if has_said texts text Write ss then Write else Nothing)

-- what a statement denies by those that stand directly in it
abbrev pub denial : List Statement → Located → Deny
denial texts l = said_in texts l.place.text (below l.statement)

-- both together
abbrev pub together : Deny → Deny → Deny
together All other = All
together Write All = All
together Write other = Write
together Nothing other = other
