-- The arguments that statements may have (RFC 7950 14).
use Rattle.std.specs.Prelude.{ℕ, ◌+◌, ◌-◌, ◌==◌, ◌&&◌, ◌||◌, not, Bool, true, false, nat_le, if◌then◌else◌, List, [], ◌∷◌, length, slice_get, slice_index, count_by, ℤ, pos, negsuc, int_le, Option, Some, None, is_some, codes}
use Rattle.std.specs.Char.{is_ascii_digit}
use Rattle.std.specs.List.{list_all, list_any, slice_split}
use Rattle.std.specs.Option.{option_map_or}
use Rattle.nc_names.specs.Identifiers.{is_identifier}
use Rattle.nc_names.specs.Same.{is_same_text}
use Rattle.nc_names.specs.Signs.{colon, slash, hyphen, dot, opening_bracket, is_white}
use Rattle.nc_schema.specs.NumberTexts.{number_of, zero_digit}
use Rattle.nc_yang_statements.specs.declared.fault.ModuleWhy.{ModuleWhy}
use Rattle.nc_yang_statements.specs.declared.fault.ModuleWhy.TheVariants.{Unsupported, BadArgument}
use Rattle.nc_yang_statements.specs.declared.keyword.Keyword.{Keyword}
use Rattle.nc_yang_statements.specs.declared.keyword.Keyword.TheVariants.{Module, YangVersion, Namespace, Prefix, Import, RevisionDate, Revision, Typedef, Grouping, Uses, Container, List as ListWord, Key, Unique, Leaf, LeafList, Choice, Case, Mandatory, MinElements, MaxElements, OrderedBy, Config, Identity, Base, Feature, IfFeature, TypeName, EnumName, Bit, FractionDigits, Path, RequireInstance, Value, Position, Prefixed, Unknown}
use Rattle.nc_yang_statements.specs.Keywords.{is_refused}
use Rattle.nc_yang_statements.specs.BuiltIns.{built_in_of}

-- an empty text
abbrev pub is_nothing : List ℕ → Bool
is_nothing text = length text == 0

-- an identifier, perhaps after a prefix and a colon (`identifier-ref`)
abbrev pub is_reference : List ℕ → Bool
is_reference text =
    list_all is_identifier (slice_split (λ c. c == colon) text) && nat_le (count_by (λ c. c == colon) text) 1

-- there is a character that is not white space
abbrev pub is_visible : List ℕ → Bool
is_visible text = list_any (λ c. not (is_white c)) text

-- names between white space (`key-arg`)
abbrev pub are_references : List ℕ → Bool
are_references text =
    is_visible text && list_all (λ part. is_nothing part || is_reference part) (slice_split is_white text)

-- names between slashes (`descendant-schema-nodeid`)
abbrev pub is_descendant : List ℕ → Bool
is_descendant text = list_all is_reference (slice_split (λ c. c == slash) text)

-- such names between white space (`unique-arg`)
abbrev pub are_descendants : List ℕ → Bool
are_descendants text =
    is_visible text && list_all (λ part. is_nothing part || is_descendant part) (slice_split is_white text)

-- `../` stands first
abbrev pub begins_up : List ℕ → Bool
begins_up text =
    ((nat_le 3 (length text) && slice_index text 0 == dot) && slice_index text 1 == dot) && slice_index text 2 == slash

-- the text after each `../` at its beginning
abbrev pub after_ups : List ℕ → List ℕ
after_ups (a ∷ b ∷ c ∷ rest) = if (a == dot && b == dot) && c == slash then after_ups rest else a ∷ b ∷ c ∷ rest
after_ups text = text

-- names after a slash (`absolute-path` without predicates)
abbrev pub is_absolute : List ℕ → Bool
is_absolute [] = false
is_absolute (c ∷ cs) = c == slash && is_descendant cs

-- a path of a leafref without predicates (`path-arg`)
abbrev pub is_path : List ℕ → Bool
is_path text = is_absolute text || (begins_up text && is_descendant (after_ups text))

-- predicates are not read; else it is to be a path (RFC 7950 9.9.2)
abbrev pub why_path : List ℕ → Option ModuleWhy
why_path text =
    if list_any (λ c. c == opening_bracket) text then Some Unsupported
    else (if is_path text then None else Some BadArgument)

-- the character in a place of a date (`date-arg`)
abbrev pub fits_date : ℕ → ℕ → Bool
fits_date place c = if place == 4 || place == 7 then c == hyphen else is_ascii_digit c

-- the characters from a place on
abbrev pub are_of_date : ℕ → List ℕ → Bool
are_of_date place [] = true
are_of_date place (c ∷ cs) = fits_date place c && are_of_date (place + 1) cs

-- a date (RFC 7950 14, `date-arg`)
abbrev pub is_date : List ℕ → Bool
is_date text = length text == 10 && are_of_date 0 text

-- `0`, or digits of which the first is another (`non-negative-integer-value`)
abbrev pub is_plain : List ℕ → Bool
is_plain [] = false
is_plain (c ∷ cs) = if c == zero_digit then is_nothing cs else list_all is_ascii_digit (c ∷ cs)

-- without a minus at its front
abbrev pub without_minus : List ℕ → List ℕ
without_minus [] = []
without_minus (c ∷ cs) = if c == hyphen then cs else c ∷ cs

-- such a number, perhaps after a minus (`integer-value`), within bounds
abbrev pub is_between : ℤ → ℤ → List ℕ → Bool
is_between least most text =
    option_map_or (λ n. int_le least n && int_le n most) (number_of text) false && is_plain (without_minus text)

-- the texts that stand for themselves
unfoldable pub is_true_text : List ℕ → Bool
is_true_text text = is_same_text text (codes "true")

-- the argument `false`
unfoldable pub is_false_text : List ℕ → Bool
is_false_text text = is_same_text text (codes "false")

-- the argument `unbounded` of `max-elements`
unfoldable pub is_unbounded : List ℕ → Bool
is_unbounded text = is_same_text text (codes "unbounded")

-- an argument of `ordered-by`
unfoldable pub is_order : List ℕ → Bool
is_order text = is_same_text text (codes "user") || is_same_text text (codes "system")

-- an argument of `yang-version`
unfoldable pub is_version : List ℕ → Bool
is_version text = is_same_text text (codes "1") || is_same_text text (codes "1.1")

-- `true` or `false`
abbrev pub is_boolean : List ℕ → Bool
is_boolean text = is_true_text text || is_false_text text

-- such a number without a sign, up to a bound
abbrev pub is_at_most : ℤ → List ℕ → Bool
is_at_most most text = is_plain text && is_between (pos 0) most text

-- how many entries there have to be, and may be (RFC 7950 7.7.5, 7.7.6)
abbrev pub is_least : List ℕ → Bool
is_least text = is_at_most (pos 18446744073709551615) text

-- an argument of `max-elements`
abbrev pub is_most : List ℕ → Bool
is_most text = is_unbounded text || is_between (pos 1) (pos 18446744073709551615) text

-- a letter, small or large
abbrev pub is_letter : ℕ → ℕ → ℕ → Bool
is_letter small large c = c == small || c == large

-- `xml` stands first, in letters of any case
abbrev pub begins_xml : List ℕ → Bool
begins_xml text =
    ((nat_le 3 (length text) && is_letter 120 88 (slice_index text 0)) && is_letter 109 77 (slice_index text 1))
    && is_letter 108 76 (slice_index text 2)

-- a module's name (RFC 7950 7.1)
abbrev pub is_module_name : List ℕ → Bool
is_module_name text = is_identifier text && not (begins_xml text)

-- a typedef has no name of a built-in type (RFC 7950 7.3)
abbrev pub is_type_name : List ℕ → Bool
is_type_name text = is_identifier text && not (is_some (built_in_of text))

-- a sign that is no white space stands at that place
abbrev pub is_visible_at : List ℕ → ℕ → Bool
is_visible_at text place = option_map_or (λ c. not (is_white c)) (slice_get text place) false

-- a name of an enumeration has no white space at its ends (RFC 7950 9.6.4)
abbrev pub is_enum_name : List ℕ → Bool
is_enum_name text = is_visible_at text 0 && is_visible_at text (length text - 1)

-- the keyword's statement may have this number as its argument; true of others
abbrev pub suits_number : Keyword → List ℕ → Bool
suits_number MinElements text = is_least text
suits_number FractionDigits text = is_between (pos 1) (pos 18) text
suits_number Value text = is_between (negsuc 2147483647) (pos 2147483647) text
suits_number Position text = is_at_most (pos 4294967295) text
suits_number keyword text = true

-- the keyword's statement may have this argument
abbrev pub suits : Keyword → List ℕ → Bool
suits Module text = is_module_name text
suits YangVersion text = is_version text
suits Namespace text = not (is_nothing text)
suits Prefix text = is_identifier text
suits Import text = is_identifier text
suits RevisionDate text = is_date text
suits Revision text = is_date text
suits Typedef text = is_type_name text
suits Grouping text = is_identifier text
suits Uses text = is_reference text
suits Container text = is_identifier text
suits ListWord text = is_identifier text
suits Key text = are_references text
suits Unique text = are_descendants text
suits Leaf text = is_identifier text
suits LeafList text = is_identifier text
suits Choice text = is_identifier text
suits Case text = is_identifier text
suits Mandatory text = is_boolean text
suits MaxElements text = is_most text
suits OrderedBy text = is_order text
suits Config text = is_boolean text
suits Identity text = is_identifier text
suits Base text = is_reference text
suits Feature text = is_identifier text
suits TypeName text = is_reference text
suits EnumName text = is_enum_name text
suits Bit text = is_identifier text
suits RequireInstance text = is_boolean text
suits keyword text = suits_number keyword text

-- the reason, unless the test is passed
abbrev pub why_unless : Bool → ModuleWhy → Option ModuleWhy
why_unless passed why = if passed then None else Some why

-- why it may not: a condition of one name alone is read (RFC 7950 7.20.2)
abbrev pub why_argument : Keyword → List ℕ → Option ModuleWhy
why_argument IfFeature text = why_unless (is_reference text) Unsupported
why_argument Path text = why_path text
why_argument keyword text = why_unless (suits keyword text) BadArgument

-- a statement of which nothing is asked
abbrev pub is_free : Keyword → Bool
is_free Prefixed = true
is_free Unknown = true
is_free keyword = is_refused keyword

-- every other statement has an argument
abbrev pub why_misfit : Keyword → Option (List ℕ) → Option ModuleWhy
why_misfit keyword None = if is_free keyword then None else Some BadArgument
why_misfit keyword (Some text) = if is_free keyword then None else why_argument keyword text
