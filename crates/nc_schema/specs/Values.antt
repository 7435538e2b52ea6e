-- The canonical texts of values (RFC 7950 9.1): what texts a type admits, and the one text that stands
-- for the value of each.
use Rattle.std.specs.Prelude.{◌≡◌, ◌==◌, ◌&&◌, ◌||◌, ℕ, zero, suc, Bool, true, false, not, if◌then◌else◌, nat_le, nat_lt, List, [], ◌∷◌, ◌++◌, length, count_by, filter, pos, Option, Some, None, codes, slice_get, option_map, option_and_then}
use Rattle.std.specs.List.{flat_map, join_with_byte, list_all, list_any, slice_split, before_first, after_first, zip}
use Rattle.std.specs.Option.{option_map_or}
use Rattle.base64.specs.Engines.{standard}
use Rattle.base64.specs.GeneralPurpose.{decoded_of}
use Rattle.nc_names.specs.declared.name.Bound.{Bound}
use Rattle.nc_names.specs.declared.name.QName.{QName}
use Rattle.nc_names.specs.declared.path.Step.{Step}
use Rattle.nc_names.specs.Bindings.{space_of}
use Rattle.nc_names.specs.Ends.{trimmed}
use Rattle.nc_names.specs.Same.{is_same_name, is_same_text}
use Rattle.nc_names.specs.Signs.{is_white, apostrophe, asterisk, blank, colon, quote, slash}
use Rattle.nc_patterns.specs.Admits.{admits_each}
use Rattle.nc_schema.specs.Bindings.{module_bounds, module_of}
use Rattle.nc_schema.specs.InstancePaths.{instance_path, key_nodes, node_pattern}
use Rattle.nc_schema.specs.Kinds.{has_value}
use Rattle.nc_schema.specs.NumberTexts.{decimal_text, is_among, whole_text}
use Rattle.nc_schema.specs.Order.{keys_above}
use Rattle.nc_schema.specs.PathTexts.{key_predicate, path_text_of, prefixed_name, value_predicate}
use Rattle.nc_schema.specs.PathWords.{◌>>=◌, begins_with}
use Rattle.nc_schema.specs.Tables.{Tables}
use Rattle.nc_schema.specs.declared.pattern.PatternStep.{PatternStep}
use Rattle.nc_schema.specs.declared.value_type.Between.{Between}
use Rattle.nc_schema.specs.declared.value_type.ValueType.{ValueType}
use Rattle.nc_schema.specs.declared.value_type.ValueType.TheVariants.{Whole, Decimal, Chars, Boolean, Enumeration, Bits, Binary, Empty, Union, Identity, Leafref, Instance, NodeInstance}

-- what gives the canonical text of a text, by the number of a data node or of a type
abbrev pub Gives : Type 0
Gives = ℕ → List ℕ → Option (List ℕ)

-- a byte that begins a character (RFC 3629 3)
abbrev pub begins_character : ℕ → Bool
begins_character byte = nat_lt byte 0x80 || nat_le 0xC0 byte

-- so many bytes begin a character
abbrev pub character_count : List ℕ → ℕ
character_count text = count_by begins_character text

-- a string has a length in characters (RFC 7950 9.4.4); a group name does not begin with `*`
-- (RFC 8341, `group-name-type`); each pattern of the type admits the string (RFC 7950 9.4.5). `patterns` are
-- those of the schema, and `numbers` name those of the type
unfoldable pub string_text :
    (patterns : List (List ℕ)) → List Between → Bool → (numbers : List ℕ) → List ℕ → Option (List ℕ)
string_text patterns lengths starless numbers text =
    if is_among lengths (pos (character_count text)) && not (starless && begins_with asterisk text)
    && admits_each patterns numbers text
    then Some text else None

-- the text, where it is one of these (RFC 7950 9.5.1, 9.6.1)
abbrev pub one_of : List (List ℕ) → List ℕ → Option (List ℕ)
one_of names text = if list_any (λ name. is_same_text name text) names then Some text else None

-- a boolean: `true` or `false` (RFC 7950 9.5)
unfoldable pub boolean_text : List ℕ → Option (List ℕ)
boolean_text text = one_of (codes "true" ∷ codes "false" ∷ []) text

-- what stands between white space
abbrev pub words_of : List ℕ → List (List ℕ)
words_of text = filter (λ word. nat_lt 0 (length word)) (slice_split is_white text)

-- names of bits, none twice: there are as many words as bits that they name; in the order of their
-- positions, with single spaces (RFC 7950 9.7.2)
unfoldable pub bits_text : List (List ℕ) → List ℕ → Option (List ℕ)
bits_text names text =
    let words = words_of text in
    let set = filter (λ name. list_any (λ word. is_same_text word name) words) names in
    if length set == length words then Some (join_with_byte blank set) else None

-- base64 (RFC 4648 4) in which white space may stand, with a length in octets (RFC 7950 9.8)
unfoldable pub binary_text : List Between → List ℕ → Option (List ℕ)
binary_text lengths text =
    let symbols = filter (λ c. not (is_white c)) text in
    option_and_then (λ octets. if is_among lengths (pos (length octets)) then Some symbols else None)
    (decoded_of standard symbols)

-- an empty value: no text at all (RFC 7950 9.11)
unfoldable pub empty_text : List ℕ → Option (List ℕ)
empty_text text = if length text == 0 then Some [] else None

-- the name in that namespace, where there is one
abbrev pub name_in : Option (List ℕ) → List ℕ → Option QName
name_in space name = option_map (λ found. record { space = found; name = name }) space

-- the name of an identity: with a prefix, or in the default namespace (RFC 7950 9.10.3)
abbrev pub identity_name : List Bound → List ℕ → Option QName
identity_name bounds text =
    if list_any (λ c. c == colon) text
    then (let prefix = before_first (λ c. c == colon) text in
    if length prefix == 0 then None else name_in (space_of prefix bounds) (after_first (λ c. c == colon) text))
    else name_in (space_of [] bounds) text

-- one of the identities, with the name of its module as prefix
unfoldable pub identity_text : Tables → List QName → List Bound → List ℕ → Option (List ℕ)
identity_text tables among bounds text = do
  name ← identity_name bounds text
  found ← module_of tables name.space
  if list_any (is_same_name name) among then Some (found.name ++ colon ∷ name.name) else None

-- every member before gives this text too, or none
abbrev pub agrees : List ℕ → Option (List ℕ) → Bool
agrees text None = true
agrees text (Some other) = is_same_text text other

-- the canonical text by the first member that admits a text, unless an earlier one would read that
-- canonical text as another value (RFC 7950 9.12). `gives` is what a type makes of a text under these
-- bindings, and `names` the bindings of canonical texts
abbrev pub union_text :
    (gives : List Bound → Gives) → (names bounds : List Bound) → (earlier members : List ℕ) → List ℕ → Option (List ℕ)
union_text gives names bounds earlier [] text = None
union_text gives names bounds earlier (member ∷ members) text =
    elim (gives bounds member text) [
      | None ↦ union_text gives names bounds (earlier ++ member ∷ []) members text
      | Some found ↦ if list_all (λ other. agrees found (gives names other found)) earlier then Some found else None
    ]

-- the canonical texts of keys. `gives` is what a data node makes of a text
abbrev pub canonical_keys : (gives : Gives) → List ℕ → List (List ℕ) → Option (List (List ℕ))
canonical_keys gives (node ∷ nodes) (key ∷ keys) = do
  first ← gives node key
  more ← canonical_keys gives nodes keys
  Some (first ∷ more)
canonical_keys gives nodes keys = Some []

-- the step with canonical keys
abbrev pub canonical_step : Tables → Gives → Step → Option Step
canonical_step tables gives step =
    option_map (λ keys. record { node = step.node; keys = keys })
    (canonical_keys gives (key_nodes tables step.node) step.keys)

-- the steps with canonical keys
abbrev pub canonical_steps : Tables → Gives → List Step → Option (List Step)
canonical_steps tables gives [] = Some []
canonical_steps tables gives (step ∷ rest) = do
  first ← canonical_step tables gives step
  more ← canonical_steps tables gives rest
  Some (first ∷ more)

-- the text of the path, with canonical keys, that an instance identifier names
unfoldable pub instance_text : Tables → (keys : List Bound → Gives) → List Bound → List ℕ → Option (List ℕ)
instance_text tables keys bounds text = do
  path ← instance_path tables text bounds
  steps ← canonical_steps tables (keys bounds) path.steps
  Some (path_text_of tables (record { steps = steps }))

-- keys that are left out stay so
abbrev pub canonical_given : (gives : Gives) → List ℕ → List (Option (List ℕ)) → Option (List (Option (List ℕ)))
canonical_given gives (node ∷ nodes) (None ∷ keys) = option_map (λ more. None ∷ more) (canonical_given gives nodes keys)
canonical_given gives (node ∷ nodes) (Some key ∷ keys) = do
  first ← gives node key
  more ← canonical_given gives nodes keys
  Some (Some first ∷ more)
canonical_given gives nodes keys = Some []

-- the step of a pattern with canonical keys where they are given
abbrev pub canonical_part : Tables → Gives → PatternStep → Option PatternStep
canonical_part tables gives step =
    option_map (λ keys. record { node = step.node; keys = keys })
    (canonical_given gives (key_nodes tables step.node) step.keys)

-- the steps of a pattern with canonical keys where they are given
abbrev pub canonical_pattern : Tables → Gives → List PatternStep → Option (List PatternStep)
canonical_pattern tables gives [] = Some []
canonical_pattern tables gives (step ∷ rest) = do
  first ← canonical_part tables gives step
  more ← canonical_pattern tables gives rest
  Some (first ∷ more)

-- the predicate of a key, or of the value of a leaf-list entry; none where it is left out
abbrev pub given_predicate : Tables → ℕ → ℕ → Option (List ℕ) → List ℕ
given_predicate tables number key None = []
given_predicate tables number key (Some value) =
    if key == number then value_predicate value else key_predicate tables key value

-- the text of one step of a pattern, without the predicates that are left out
abbrev pub pattern_step_text : Tables → PatternStep → List ℕ
pattern_step_text tables step =
    slash ∷ prefixed_name tables step.node
    ++ flat_map (λ pair. given_predicate tables step.node pair.0 pair.1) (zip (key_nodes tables step.node) step.keys)

-- the text of a pattern: that of a path without the predicates that are left out; `/` for the root
abbrev pub pattern_text : Tables → List PatternStep → List ℕ
pattern_text tables steps = if length steps == 0 then slash ∷ [] else flat_map (pattern_step_text tables) steps

-- the text of the pattern, with canonical keys, that a node-instance identifier names (RFC 8341 3.5.2)
unfoldable pub node_instance_text : Tables → (keys : List Bound → Gives) → List Bound → List ℕ → Option (List ℕ)
node_instance_text tables keys bounds text = do
  pattern ← node_pattern tables text bounds
  steps ← canonical_pattern tables (keys bounds) pattern.steps
  Some (pattern_text tables steps)

-- the type of a leaf or leaf-list
abbrev pub type_of : Tables → ℕ → Option ℕ
type_of tables number =
    option_and_then (λ node. if has_value node.kind then Some node.kind_of_value else None)
    (slice_get tables.nodes number)

-- what gives canonical texts: `keys` those of the keys in paths, by the data node's number, and `types`
-- those of members and targets, by the type's number
pub record Givers : Type 0 where
  pub keys : List Bound → Gives
  pub types : List Bound → Gives

-- the canonical text of a value of a type. A string, a union's and a leafref's text is taken as it is;
-- white space at the ends of another does not count
abbrev pub text_in_type : Tables → Givers → ValueType → List Bound → List ℕ → Option (List ℕ)
text_in_type tables givers (Whole among) bounds text = whole_text among (trimmed text)
text_in_type tables givers (Decimal digits among) bounds text = decimal_text digits among (trimmed text)
text_in_type tables givers (Chars lengths starless numbers) bounds text =
    string_text tables.patterns lengths starless numbers text
text_in_type tables givers Boolean bounds text = boolean_text (trimmed text)
text_in_type tables givers (Enumeration names) bounds text = one_of names (trimmed text)
text_in_type tables givers (Bits names) bounds text = bits_text names (trimmed text)
text_in_type tables givers (Binary lengths) bounds text = binary_text lengths (trimmed text)
text_in_type tables givers Empty bounds text = empty_text (trimmed text)
text_in_type tables givers (Union members) bounds text =
    union_text givers.types (module_bounds tables) bounds [] members text
text_in_type tables givers (Identity among) bounds text = identity_text tables among bounds (trimmed text)
text_in_type tables givers (Leafref target above required) bounds text =
    option_and_then (λ number. givers.types bounds number text) (type_of tables target)
text_in_type tables givers (Instance required) bounds text = instance_text tables givers.keys bounds (trimmed text)
text_in_type tables givers NodeInstance bounds text = node_instance_text tables givers.keys bounds (trimmed text)

-- the same by the type's number. A type that is reached again from itself, by members of unions or
-- targets of leafrefs, admits nothing: `chain` are the types that are being asked, of which there are
-- at most as many as the schema has, so that `most` more can be asked
abbrev pub type_text :
    Tables → (keys : List Bound → Gives) → (most : ℕ) → (chain : List ℕ) → List Bound → Gives
type_text tables keys zero chain bounds number text = None
type_text tables keys (suc most) chain bounds number text =
    if list_any (λ asked. asked == number) chain then None
    else (let givers : Givers = record { keys = keys; types = type_text tables keys most (number ∷ chain) } in
    option_and_then (λ type. text_in_type tables givers type bounds text) (slice_get tables.types number))

-- a value lacks one kind of quotation mark
abbrev pub is_quotable : List ℕ → Bool
is_quotable value = not (list_any (λ c. c == apostrophe) value && list_any (λ c. c == quote) value)

-- the node is a key of the list in which it stands
abbrev pub is_key_above : Tables → ℕ → Bool
is_key_above tables number =
    option_map_or (λ node. list_any (λ key. key == number) (keys_above tables node.parent))
    (slice_get tables.nodes number) false

-- the values of the node stand in paths: it is a key or a leaf-list
abbrev pub stands_in_paths : Tables → ℕ → Bool
stands_in_paths tables number = is_key_above tables number || list_any (λ key. key == number) (key_nodes tables number)

-- a value that stands in paths can be quoted there
abbrev pub fits_paths : Tables → ℕ → List ℕ → Bool
fits_paths tables number value = not (stands_in_paths tables number) || is_quotable value

-- the canonical text at a data node, where `keys` gives those of the keys within it. A key, and the
-- value of a leaf-list entry, has none where it holds both kinds of quotation mark, since no path could
-- name its entry
abbrev pub node_text : Tables → (keys : List Bound → Gives) → List Bound → Gives
node_text tables keys bounds number text = do
  type ← type_of tables number
  value ← type_text tables keys (length tables.types) [] bounds type text
  if fits_paths tables number value then Some value else None

-- with values in keys in values, so deep
abbrev pub text_within : Tables → (depth : ℕ) → List Bound → Gives
text_within tables zero bounds number text = None
text_within tables (suc depth) bounds number text = node_text tables (text_within tables depth) bounds number text

-- a key's value stands between marks of a kind that it lacks, so the keys in an instance identifier are
-- no deeper than the keys of its keys: these hold no mark at all, and so no key
abbrev pub value_depth : ℕ
value_depth = 3

-- the canonical text of the value that a text has at a data node, with these bindings in force; none
-- where the text is no value of the node's type
unfoldable pub canonical : Tables → ℕ → List ℕ → List Bound → Option (List ℕ)
canonical tables number text bounds = text_within tables value_depth bounds number text

-- the text is the canonical one of a value, whichever text the value was given as
abbrev pub IsCanonical : Tables → ℕ → List ℕ → Type 0
IsCanonical tables number text =
    (given : List ℕ) × (bounds : List Bound) × (canonical tables number given bounds ≡ Some text)
