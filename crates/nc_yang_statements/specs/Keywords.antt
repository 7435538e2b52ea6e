-- Keywords (RFC 7950 6.1.2, 14).
use Rattle.std.specs.Prelude.{ℕ, Bool, true, false, ◌||◌, ◌==◌, if◌then◌else◌, List, [], ◌∷◌, find, unwrap_or, codes}
use Rattle.std.specs.List.{list_any}
use Rattle.nc_names.specs.Same.{is_same_text}
use Rattle.nc_names.specs.Signs.{colon}
use Rattle.nc_yang_statements.specs.declared.keyword.Keyword.{Keyword}
use Rattle.nc_yang_statements.specs.declared.keyword.Keyword.TheVariants.{Module, YangVersion, Namespace, Prefix, Import, RevisionDate, Revision, Typedef, Grouping, Uses, Container, Presence, List as ListWord, Key, Unique, Leaf, LeafList, Choice, Case, Mandatory, Default, MinElements, MaxElements, OrderedBy, Config, Identity, Base, Feature, IfFeature, TypeName, Range, Length, EnumName, Bit, FractionDigits, Path, RequireInstance, Value, Position, Organization, Contact, Description, Reference, Units, Status, ErrorMessage, ErrorAppTag, Extension, Rpc, Action, Notification, Submodule, BelongsTo, Include, Augment, Refine, Deviation, Deviate, Anydata, Anyxml, Must, When, Pattern, Modifier, Input, Output, Argument, YinElement, Prefixed, Unknown}

-- the word of a keyword
unfoldable pub word_of : Keyword → List ℕ
word_of Module = codes "module"
word_of YangVersion = codes "yang-version"
word_of Namespace = codes "namespace"
word_of Prefix = codes "prefix"
word_of Import = codes "import"
word_of RevisionDate = codes "revision-date"
word_of Revision = codes "revision"
word_of Typedef = codes "typedef"
word_of Grouping = codes "grouping"
word_of Uses = codes "uses"
word_of Container = codes "container"
word_of Presence = codes "presence"
word_of ListWord = codes "list"
word_of Key = codes "key"
word_of Unique = codes "unique"
word_of Leaf = codes "leaf"
word_of LeafList = codes "leaf-list"
word_of Choice = codes "choice"
word_of Case = codes "case"
word_of Mandatory = codes "mandatory"
word_of Default = codes "default"
word_of MinElements = codes "min-elements"
word_of MaxElements = codes "max-elements"
word_of OrderedBy = codes "ordered-by"
word_of Config = codes "config"
word_of Identity = codes "identity"
word_of Base = codes "base"
word_of Feature = codes "feature"
word_of IfFeature = codes "if-feature"
word_of TypeName = codes "type"
word_of Range = codes "range"
word_of Length = codes "length"
word_of EnumName = codes "enum"
word_of Bit = codes "bit"
word_of FractionDigits = codes "fraction-digits"
word_of Path = codes "path"
word_of RequireInstance = codes "require-instance"
word_of Value = codes "value"
word_of Position = codes "position"
word_of Organization = codes "organization"
word_of Contact = codes "contact"
word_of Description = codes "description"
word_of Reference = codes "reference"
word_of Units = codes "units"
word_of Status = codes "status"
word_of ErrorMessage = codes "error-message"
word_of ErrorAppTag = codes "error-app-tag"
word_of Extension = codes "extension"
word_of Rpc = codes "rpc"
word_of Action = codes "action"
word_of Notification = codes "notification"
word_of Submodule = codes "submodule"
word_of BelongsTo = codes "belongs-to"
word_of Include = codes "include"
word_of Augment = codes "augment"
word_of Refine = codes "refine"
word_of Deviation = codes "deviation"
word_of Deviate = codes "deviate"
word_of Anydata = codes "anydata"
word_of Anyxml = codes "anyxml"
word_of Must = codes "must"
word_of When = codes "when"
word_of Pattern = codes "pattern"
word_of Modifier = codes "modifier"
word_of Input = codes "input"
word_of Output = codes "output"
word_of Argument = codes "argument"
word_of YinElement = codes "yin-element"
word_of Prefixed = []
word_of Unknown = []

-- the keywords of the standard
unfoldable pub keywords : List Keyword
keywords =
    Module ∷ YangVersion ∷ Namespace ∷ Prefix ∷ Import ∷ RevisionDate ∷ Revision ∷ Typedef ∷ Grouping ∷
    Uses ∷ Container ∷ Presence ∷ ListWord ∷ Key ∷ Unique ∷ Leaf ∷ LeafList ∷ Choice ∷ Case ∷ Mandatory ∷
    Default ∷ MinElements ∷ MaxElements ∷ OrderedBy ∷ Config ∷ Identity ∷ Base ∷ Feature ∷ IfFeature ∷
    TypeName ∷ Range ∷ Length ∷ EnumName ∷ Bit ∷ FractionDigits ∷ Path ∷ RequireInstance ∷ Value ∷
    Position ∷ Organization ∷ Contact ∷ Description ∷ Reference ∷ Units ∷ Status ∷ ErrorMessage ∷
    ErrorAppTag ∷ Extension ∷ Rpc ∷ Action ∷ Notification ∷ Submodule ∷ BelongsTo ∷ Include ∷ Augment ∷
    Refine ∷ Deviation ∷ Deviate ∷ Anydata ∷ Anyxml ∷ Must ∷ When ∷ Pattern ∷ Modifier ∷ Input ∷ Output ∷
    Argument ∷ YinElement ∷ []

-- a word that is none of the standard: one with a prefix is a statement of an extension (RFC 7950 7.19)
abbrev pub other_keyword : List ℕ → Keyword
other_keyword word = if list_any (λ c. c == colon) word then Prefixed else Unknown

-- the keyword that a word is
unfoldable pub keyword_of : List ℕ → Keyword
keyword_of word = unwrap_or (find (λ k. is_same_text (word_of k) word) keywords) (other_keyword word)

-- a statement of the standard that the server does not have
abbrev pub is_refused : Keyword → Bool
is_refused Submodule = true
is_refused BelongsTo = true
is_refused Include = true
is_refused Augment = true
is_refused Refine = true
is_refused Deviation = true
is_refused Deviate = true
is_refused Anydata = true
is_refused Anyxml = true
is_refused Must = true
is_refused When = true
is_refused Modifier = true
is_refused Input = true
is_refused Output = true
is_refused Argument = true
is_refused YinElement = true
is_refused keyword = false

-- a statement that is passed over with all that stands below it
abbrev pub is_read_over : Keyword → Bool
is_read_over Organization = true
is_read_over Contact = true
is_read_over Description = true
is_read_over Reference = true
is_read_over Units = true
is_read_over Status = true
is_read_over ErrorMessage = true
is_read_over ErrorAppTag = true
is_read_over Extension = true
is_read_over Rpc = true
is_read_over Action = true
is_read_over Notification = true
is_read_over Prefixed = true
is_read_over keyword = false

-- nothing is asked of what stands below such a statement
abbrev pub is_closed : Keyword → Bool
is_closed keyword = is_refused keyword || is_read_over keyword

-- a number for each keyword
abbrev pub tag : Keyword → ℕ
tag Module = 0
tag YangVersion = 1
tag Namespace = 2
tag Prefix = 3
tag Import = 4
tag RevisionDate = 5
tag Revision = 6
tag Typedef = 7
tag Grouping = 8
tag Uses = 9
tag Container = 10
tag Presence = 11
tag ListWord = 12
tag Key = 13
tag Unique = 14
tag Leaf = 15
tag LeafList = 16
tag Choice = 17
tag Case = 18
tag Mandatory = 19
tag Default = 20
tag MinElements = 21
tag MaxElements = 22
tag OrderedBy = 23
tag Config = 24
tag Identity = 25
tag Base = 26
tag Feature = 27
tag IfFeature = 28
tag TypeName = 29
tag Range = 30
tag Length = 31
tag EnumName = 32
tag Bit = 33
tag FractionDigits = 34
tag Path = 35
tag RequireInstance = 36
tag Value = 37
tag Position = 38
tag Organization = 39
tag Contact = 40
tag Description = 41
tag Reference = 42
tag Units = 43
tag Status = 44
tag ErrorMessage = 45
tag ErrorAppTag = 46
tag Extension = 47
tag Rpc = 48
tag Action = 49
tag Notification = 50
tag Submodule = 51
tag BelongsTo = 52
tag Include = 53
tag Augment = 54
tag Refine = 55
tag Deviation = 56
tag Deviate = 57
tag Anydata = 58
tag Anyxml = 59
tag Must = 60
tag When = 61
tag Pattern = 62
tag Modifier = 63
tag Input = 64
tag Output = 65
tag Argument = 66
tag YinElement = 67
tag Prefixed = 68
tag Unknown = 69

-- two keywords are the same
abbrev pub is_same_keyword : Keyword → Keyword → Bool
is_same_keyword a b = tag a == tag b
