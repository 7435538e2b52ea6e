-- What a `type` statement says by its own parts: over a built-in type that needs no other name, or over the entry of
-- another type (RFC 7950 9). The rules of its single statements are kept.
use Rattle.std.specs.Prelude.{ℕ, ◌&&◌, not, nat_le, Bool, true, false, if◌then◌else◌, List, [], ◌∷◌, ◌++◌, ℤ, pos, negsuc, Option, Some, None, is_some, option_map}
use Rattle.nc_schema.specs.NumberTexts.{number_of}
use Rattle.nc_schema.specs.declared.value_type.Between.{Between}
use Rattle.nc_schema.specs.declared.value_type.ValueType.{ValueType}
use Rattle.nc_schema.specs.declared.value_type.ValueType.TheVariants.{Whole, Decimal, Chars as String, Boolean as Truth, Enumeration as Names, Bits as Set, Binary as Octets, Empty as Nothing, Leafref, Instance}
use Rattle.nc_yang_words.specs.declared.statement.Statement.{Statement}
use Rattle.nc_yang_statements.specs.declared.built_in.BuiltIn.{BuiltIn}
use Rattle.nc_yang_statements.specs.declared.built_in.BuiltIn.TheVariants.{Binary, Bits, Boolean, Decimal64, Empty, Enumeration, IdentityRef, InstanceIdentifier, Int8, Int16, Int32, Int64, LeafRef, Chars, Uint8, Uint16, Uint32, Uint64, Union}
use Rattle.nc_yang_statements.specs.declared.fault.Fault.{Fault}
use Rattle.nc_yang_statements.specs.declared.fault.ModuleWhy.TheVariants.{BadArgument}
use Rattle.nc_yang_statements.specs.declared.keyword.Keyword.{Keyword}
use Rattle.nc_yang_statements.specs.declared.keyword.Keyword.TheVariants.{Range, Length, FractionDigits, RequireInstance}
use Rattle.nc_yang_statements.specs.Arguments.{is_true_text}
use Rattle.nc_yang_statements.specs.Rules.{at_if}
use Rattle.nc_yang_statements.specs.Statements.{below, has, name, part}
use Rattle.nc_yang_types.specs.declared.bound.Counted.{Counted}
use Rattle.nc_yang_types.specs.declared.bound.Counted.TheVariants.{Units, Lengths}
use Rattle.nc_yang_types.specs.declared.member.Listed.TheVariants.{Enums, Flags}
use Rattle.nc_yang_types.specs.declared.member.Named.{Named}
use Rattle.nc_yang_types.specs.Members.{bit_names, chosen, enum_names, ill_choices, ill_listed, listing, member_word, still_listed}
use Rattle.nc_yang_types.specs.Parts.{foreign_over, misshapen}
use Rattle.nc_yang_types.specs.Patterns.{ill_patterns}
use Rattle.nc_yang_types.specs.Ranges.{restriction}

-- the numbers from one to another
abbrev pub between : ℤ → ℤ → List Between
between least most = record { least = least; most = most } ∷ []

-- the numbers of an integer type (RFC 7950 9.2)
abbrev pub integers : BuiltIn → List Between
integers Int8 = between (negsuc 127) (pos 127)
integers Int16 = between (negsuc 32767) (pos 32767)
integers Int32 = between (negsuc 2147483647) (pos 2147483647)
integers Int64 = between (negsuc 9223372036854775807) (pos 9223372036854775807)
integers Uint8 = between (pos 0) (pos 255)
integers Uint16 = between (pos 0) (pos 65535)
integers Uint32 = between (pos 0) (pos 4294967295)
integers Uint64 = between (pos 0) (pos 18446744073709551615)
integers built_in = []

-- those of decimal64, in units of its last digit (RFC 7950 9.3.4)
abbrev pub decimals : List Between
decimals = between (negsuc 9223372036854775807) (pos 9223372036854775807)

-- lengths (RFC 7950 9.4.4)
abbrev pub lengths : List Between
lengths = between (pos 0) (pos 18446744073709551615)

-- the numbers that a part leaves of those of the base, which are all without that part
abbrev pub restricted_by : Counted → List Between → Option Statement → Option (List Between)
restricted_by counted base None = Some base
restricted_by counted base (Some given) = restriction counted base (name given)

-- the parts that a `range` or `length` leaves, or all
abbrev pub restricted : Counted → Keyword → List Between → List Statement → Option (List Between)
restricted counted keyword base ss = restricted_by counted base (part keyword ss)

-- a part that may not stand over the base
abbrev pub misread_by : Counted → List Between → Option Statement → List Fault
misread_by counted base None = []
misread_by counted base (Some given) = at_if (not (is_some (restriction counted base (name given)))) given BadArgument

-- its faults
abbrev pub misread : Counted → Keyword → List Between → List Statement → List Fault
misread counted keyword base ss = misread_by counted base (part keyword ss)

-- how many fraction digits there are: from 1 to 18 (RFC 7950 9.3.4)
abbrev pub digits_in : Option ℤ → Option ℕ
digits_in (Some (pos n)) = if nat_le 1 n && nat_le n 18 then Some n else None
digits_in number = None

-- the number that a `fraction-digits` gives
abbrev pub digits_by : Option Statement → Option ℕ
digits_by None = None
digits_by (Some given) = digits_in (number_of (name given))

-- the same, among statements
abbrev pub digits_of : List Statement → Option ℕ
digits_of ss = digits_by (part FractionDigits ss)

-- the faults of a `fraction-digits`
abbrev pub ill_digits_by : Option Statement → List Fault
ill_digits_by None = []
ill_digits_by (Some given) = at_if (not (is_some (digits_in (number_of (name given))))) given BadArgument

-- the same, among statements
abbrev pub ill_digits : List Statement → List Fault
ill_digits ss = ill_digits_by (part FractionDigits ss)

-- of bounds nothing is asked where it is not known what they count
abbrev pub misread_units : Option ℕ → List Statement → List Fault
misread_units None ss = []
misread_units (Some digits) ss = misread (Units digits) Range decimals ss

-- the faults of what a decimal64 has below it
abbrev pub ill_decimal : List Statement → List Fault
ill_decimal ss = ill_digits ss ++ misread_units (digits_of ss) ss

-- what is named has to be there, unless it is said that it has not (RFC 7950 9.9.3)
abbrev pub required_by : Bool → Option Statement → Bool
required_by before None = before
required_by before (Some given) = is_true_text (name given)

-- whether an instance has to be there, by `require-instance`
abbrev pub required : Bool → List Statement → Bool
required before ss = required_by before (part RequireInstance ss)

-- the faults of the parts that a built-in type has
abbrev pub misused : BuiltIn → List Statement → List Fault
misused Binary ss = misread Lengths Length lengths ss
misused Bits ss = ill_listed Flags ss
misused Boolean ss = []
misused Decimal64 ss = ill_decimal ss
misused Empty ss = []
misused Enumeration ss = ill_listed Enums ss
misused IdentityRef ss = []
misused InstanceIdentifier ss = []
misused LeafRef ss = []
misused Chars ss = misread Lengths Length lengths ss
misused Union ss = []
misused built_in ss = misread (Units 0) Range (integers built_in) ss

-- the faults of a type of its own parts
abbrev pub own_faults : BuiltIn → Statement → List Fault
own_faults built_in s = misshapen built_in s ++ (ill_patterns (below s) ++ misused built_in (below s))

-- a decimal64 of so many digits
abbrev pub decimal : Option ℕ → List Statement → Option ValueType
decimal None ss = None
decimal (Some digits) ss = option_map (λ among. Decimal digits among) (restricted (Units digits) Range decimals ss)

-- the entry of a built-in type with these parts; a type over identities, paths or other types has none by itself.
-- `stands` are the conditions of names (RFC 7950 7.20.2). The patterns of a string are no part of it: they have no
-- numbers yet
abbrev pub own : (stands : Statement → Bool) → BuiltIn → List Statement → Option ValueType
own stands Binary ss = option_map Octets (restricted Lengths Length lengths ss)
own stands Bits ss = Some (Set (bit_names stands ss))
own stands Boolean ss = Some Truth
own stands Decimal64 ss = decimal (digits_of ss) ss
own stands Empty ss = Some Nothing
own stands Enumeration ss = Some (Names (enum_names stands ss))
own stands IdentityRef ss = None
own stands InstanceIdentifier ss = Some (Instance (required true ss))
own stands LeafRef ss = None
own stands Chars ss = option_map (λ among. String among false []) (restricted Lengths Length lengths ss)
own stands Union ss = None
own stands built_in ss = option_map Whole (restricted (Units 0) Range (integers built_in) ss)

-- the names that a built-in type lists, with their numbers
abbrev pub listing_of : BuiltIn → List Statement → List Named
listing_of Enumeration ss = listing Enums ss
listing_of Bits ss = listing Flags ss
listing_of built_in ss = []

-- the faults of a type over another, whose entry is given and the names that it lists
abbrev pub misnarrowed : ValueType → List Named → List Statement → List Fault
misnarrowed (Whole among) names ss = misread (Units 0) Range among ss
misnarrowed (Decimal digits among) names ss = misread (Units digits) Range among ss
misnarrowed (String among starless patterns) names ss = misread Lengths Length among ss
misnarrowed (Octets among) names ss = misread Lengths Length among ss
misnarrowed (Names taken) names ss = ill_choices Enums names ss
misnarrowed (Set taken) names ss = ill_choices Flags names ss
misnarrowed base names ss = []

-- the faults of a type over another one
abbrev pub narrowed_faults : ValueType → List Named → List Statement → List Fault
narrowed_faults base names ss = foreign_over base ss ++ (ill_patterns ss ++ misnarrowed base names ss)

-- the entry of a type over another
abbrev pub narrowed : (stands : Statement → Bool) → ValueType → List Statement → Option ValueType
narrowed stands (Whole among) ss = option_map Whole (restricted (Units 0) Range among ss)
narrowed stands (Decimal digits among) ss =
    option_map (λ left. Decimal digits left) (restricted (Units digits) Range among ss)
narrowed stands (String among starless patterns) ss =
    option_map (λ left. String left starless patterns) (restricted Lengths Length among ss)
narrowed stands (Octets among) ss = option_map Octets (restricted Lengths Length among ss)
narrowed stands (Names taken) ss = Some (Names (chosen stands Enums ss taken))
narrowed stands (Set taken) ss = Some (Set (chosen stands Flags ss taken))
narrowed stands (Leafref target above need) ss = Some (Leafref target above (required need ss))
narrowed stands (Instance need) ss = Some (Instance (required need ss))
narrowed stands base ss = Some base

-- a type over another lists names of its own
abbrev pub lists : ValueType → List Statement → Bool
lists (Names taken) ss = has (member_word Enums) ss
lists (Set taken) ss = has (member_word Flags) ss
lists base ss = false

-- the names that are left to those that it lists
abbrev pub names_left : ValueType → List Named → List Statement → List Named
names_left (Names taken) names ss = still_listed Enums ss names
names_left (Set taken) names ss = still_listed Flags ss names
names_left base names ss = names
