-- The names of enumerations and of bits with their numbers (RFC 7950 9.6.4, 9.7.4).
use Rattle.std.specs.Prelude.{ℕ, ◌&&◌, ◌||◌, not, Bool, if◌then◌else◌, List, [], ◌∷◌, ◌++◌, map, ℤ, pos, negsuc, true, int_le, int_lt, ◌+ℤ◌, Option, Some, None}
use Rattle.std.specs.List.{filter, flat_map, fold, list_any}
use Rattle.std.specs.Ordering.{int_cmp, int_eq}
use Rattle.std.specs.BTreeMap.{insert_entry}
use Rattle.nc_names.specs.Same.{is_same_text}
use Rattle.nc_schema.specs.NumberTexts.{number_of}
use Rattle.nc_yang_words.specs.declared.statement.Statement.{Statement}
use Rattle.nc_yang_statements.specs.declared.fault.Fault.{Fault}
use Rattle.nc_yang_statements.specs.declared.fault.ModuleWhy.{ModuleWhy}
use Rattle.nc_yang_statements.specs.declared.fault.ModuleWhy.TheVariants.{Missing, Twice, BadArgument}
use Rattle.nc_yang_statements.specs.declared.keyword.Keyword.{Keyword}
use Rattle.nc_yang_statements.specs.declared.keyword.Keyword.TheVariants.{EnumName, Bit, IfFeature, Value, Position}
use Rattle.nc_yang_statements.specs.Keywords.{is_same_keyword}
use Rattle.nc_yang_statements.specs.Rules.{at_if}
use Rattle.nc_yang_statements.specs.Statements.{below, has, kind, name, part}
use Rattle.nc_yang_types.specs.declared.member.Listed.{Listed}
use Rattle.nc_yang_types.specs.declared.member.Named.{Named}
use Rattle.nc_yang_types.specs.declared.member.Listed.TheVariants.{Enums, Flags}

-- the statement of a name, and the one below it that gives the number
abbrev pub member_word : Listed → Keyword
member_word Enums = EnumName
member_word Flags = Bit

-- the statement that numbers a member
abbrev pub number_word : Listed → Keyword
number_word Enums = Value
number_word Flags = Position

-- the numbers that there are: 32 bits, with a sign in enumerations (RFC 7950 9.6.4.2, 9.7.4.2)
abbrev pub least : Listed → ℤ
least Enums = negsuc 2147483647
least Flags = pos 0

-- the highest number (RFC 7950 9.6.4.2, 9.7.4.2)
abbrev pub most : Listed → ℤ
most Enums = pos 2147483647
most Flags = pos 4294967295

-- an `enum`, or a `bit`
abbrev pub is_member : Listed → Statement → Bool
is_member listed s = is_same_keyword (member_word listed) (kind s)

-- one of the statements gives that name
abbrev pub gives_name : Listed → List ℕ → Statement → Bool
gives_name listed text s = is_member listed s && is_same_text (name s) text

-- one of the statements gives that name
abbrev pub has_name : Listed → List ℕ → List Statement → Bool
has_name listed text ss = list_any (gives_name listed text) ss

-- a name stands once (RFC 7950 9.6.4, 9.7.4)
abbrev pub renamed : Listed → List Statement → List Statement → List Fault
renamed listed before [] = []
renamed listed before (s ∷ ss) =
    at_if (is_member listed s && has_name listed (name s) before) s Twice ++ renamed listed (before ++ s ∷ []) ss

-- a number that is written, where there is such a number
abbrev pub in_bounds : Listed → Option ℤ → Option ℤ
in_bounds listed None = None
in_bounds listed (Some n) = if int_le (least listed) n && int_le n (most listed) then Some n else None

-- one more than the highest number before, 0 where there is none; none past the last number
abbrev pub next_number : Listed → Option ℤ → Option ℤ
next_number listed None = Some (pos 0)
next_number listed (Some high) = if int_lt high (most listed) then Some (high +ℤ pos 1) else None

-- the number of a name: the one that it is given, or the next (RFC 7950 9.6.4.2, 9.7.4.2)
abbrev pub number_by : Listed → Option ℤ → Option Statement → Option ℤ
number_by listed high None = next_number listed high
number_by listed high (Some given) = in_bounds listed (number_of (name given))

-- the number of a member, by its own statement or after the highest before
abbrev pub number_at : Listed → Option ℤ → Statement → Option ℤ
number_at listed high s = number_by listed high (part (number_word listed) (below s))

-- the higher of the highest before and of one more
abbrev pub higher : Option ℤ → Option ℤ → Option ℤ
higher high None = high
higher None (Some n) = Some n
higher (Some high) (Some n) = if int_le high n then Some n else Some high

-- the names with their numbers, after others of which the highest is given
abbrev pub numbered : Listed → Option ℤ → List Statement → List (Statement × Option ℤ)
numbered listed high [] = []
numbered listed high (s ∷ ss) =
    if is_member listed s
    then (s, number_at listed high s) ∷ numbered listed (higher high (number_at listed high s)) ss
    else numbered listed high ss

-- the statement that is at fault where a number is
abbrev pub numbering : Listed → Statement → Option Statement → Statement
numbering listed s None = s
numbering listed s (Some given) = given

-- a fault at the number of a member
abbrev pub at_number : Listed → Statement → Bool → ModuleWhy → List Fault
at_number listed s bad why = at_if bad (numbering listed s (part (number_word listed) (below s))) why

-- there is no number, or another name has it
abbrev pub is_unfit : List ℤ → Option ℤ → Bool
is_unfit before None = true
is_unfit before (Some n) = list_any (λ other. int_eq other n) before

-- then the one that is written or counted stands twice, the one that is written is past the bounds, or none is written
-- after the last one
abbrev pub why_unfit : Option Statement → Option ℤ → ModuleWhy
why_unfit given (Some n) = Twice
why_unfit (Some given) None = BadArgument
why_unfit None None = Missing

-- with the number of one more
abbrev pub with_number : List ℤ → Option ℤ → List ℤ
with_number before None = before
with_number before (Some n) = before ++ n ∷ []

-- each name has a number that no other has (RFC 7950 9.6.4.2, 9.7.4.2)
abbrev pub misnumbered : Listed → List ℤ → List (Statement × Option ℤ) → List Fault
misnumbered listed before [] = []
misnumbered listed before (p ∷ ps) =
    at_number listed p.0 (is_unfit before p.1) (why_unfit (part (number_word listed) (below p.0)) p.1)
    ++ misnumbered listed (with_number before p.1) ps

-- all rules of the names and numbers
abbrev pub ill_listed : Listed → List Statement → List Fault
ill_listed listed ss = renamed listed [] ss ++ misnumbered listed [] (numbered listed None ss)

-- the names of an enumeration whose conditions hold, in the order of the text (RFC 7950 7.20.2)
abbrev pub enum_name : (Statement → Bool) → Statement → List (List ℕ)
enum_name stands s = if is_member Enums s && stands s then name s ∷ [] else []

-- the names of those whose conditions hold
abbrev pub enum_names : (Statement → Bool) → List Statement → List (List ℕ)
enum_names stands ss = flat_map (enum_name stands) ss

-- a bit at its place among those before, by its position
abbrev pub with_bit : (Statement → Bool) → List (ℤ × List ℕ) → Statement × Option ℤ → List (ℤ × List ℕ)
with_bit stands before (s, None) = before
with_bit stands before (s, Some position) =
    if stands s then insert_entry int_cmp before position (name s) else before

-- the bits of those whose conditions hold, in the order of their positions
abbrev pub with_bits : (Statement → Bool) → List (ℤ × List ℕ) → List (Statement × Option ℤ) → List (ℤ × List ℕ)
with_bits stands before [] = before
with_bits stands before (p ∷ ps) = with_bits stands (with_bit stands before p) ps

-- the names of the bits whose conditions hold, in the order of their positions (RFC 7950 9.7.4.2)
abbrev pub bit_names : (Statement → Bool) → List Statement → List (List ℕ)
bit_names stands ss = map (λ entry. entry.1) (with_bits stands [] (numbered Flags None ss))

-- ---- types over others that list names
-- an `if-feature` makes the name of a statement conditional, whether its feature is on or off (RFC 7950 7.20.2)
abbrev pub is_guarded : Statement → Bool
is_guarded s = has IfFeature (below s)

-- a name with its number, if it has one
abbrev pub named_by : Statement × Option ℤ → List Named
named_by (s, None) = []
named_by (s, Some number) = record { name = name s; number = number; conditional = is_guarded s } ∷ []

-- the names that a built-in type lists, each with its number, whether its conditions hold or not
abbrev pub listing : Listed → List Statement → List Named
listing listed ss = flat_map named_by (numbered listed None ss)

-- the number that one of these names has, the last of that name
abbrev pub number_with : List ℕ → Option ℤ → Named → Option ℤ
number_with text found n = if is_same_text n.name text then Some n.number else found

-- the number of a name among those of the type below
abbrev pub number_in : List Named → List ℕ → Option ℤ
number_in names text = fold (number_with text) None names

-- the number that is written is another
abbrev pub is_other : ℤ → Option ℤ → Bool
is_other number None = true
is_other number (Some written) = not (int_eq written number)

-- another number than it has there
abbrev pub renumbered : ℤ → Option Statement → List Fault
renumbered number None = []
renumbered number (Some given) = at_if (is_other number (number_of (name given))) given BadArgument

-- the base has no such name, or with another number
abbrev pub unlike : Listed → Option ℤ → Statement → List Fault
unlike listed None s = at_if true s BadArgument
unlike listed (Some number) s = renumbered number (part (number_word listed) (below s))

-- the faults of a member over another type
abbrev pub ill_choice : Listed → List Named → Statement → List Fault
ill_choice listed names s = if is_member listed s then unlike listed (number_in names (name s)) s else []

-- all rules of the names of a type over one that lists these (RFC 7950 9.6.3, 9.7.3)
abbrev pub ill_choices : Listed → List Named → List Statement → List Fault
ill_choices listed names ss = renamed listed [] ss ++ flat_map (ill_choice listed names) ss

-- a name is given by one of the statements whose conditions hold
abbrev pub is_chosen : (Statement → Bool) → Listed → List Statement → List ℕ → Bool
is_chosen stands listed ss text = list_any (λ s. gives_name listed text s && stands s) ss

-- what is left of the names that the base takes, where a type over it lists some; else all are
abbrev pub chosen : (Statement → Bool) → Listed → List Statement → List (List ℕ) → List (List ℕ)
chosen stands listed ss names =
    if has (member_word listed) ss then filter (is_chosen stands listed ss) names else names

-- names for which a test holds are conditional too
abbrev pub guarded_by : (List ℕ → Bool) → Named → Named
guarded_by test n = record n { conditional = n.conditional || test n.name }

-- what is left of those that it lists, whether conditions hold or not; its own conditions count beside those of the
-- base
abbrev pub still_listed : Listed → List Statement → List Named → List Named
still_listed listed ss names =
    if has (member_word listed) ss
    then map (guarded_by (is_chosen is_guarded listed ss)) (filter (λ n. is_chosen (λ s. true) listed ss n.name) names)
    else names
