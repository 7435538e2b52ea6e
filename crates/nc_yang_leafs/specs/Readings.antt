-- What the text of a default stands for (RFC 7950 7.1.4, 7.1.5, 7.6.4, 7.7.4, 9.2.1).
use Rattle.std.specs.Prelude.{ℕ, ◌&&◌, Bool, true, false, if◌then◌else◌, length, nat_lt, List, Option, None, slice_get, option_and_then}
use Rattle.std.specs.Option.{option_map_or}
use Rattle.std.specs.Str.Parse.{without_leading_sign}
use Rattle.nc_names.specs.Ends.{trimmed}
use Rattle.nc_schema.specs.NumberTexts.{zero_digit}
use Rattle.nc_schema.specs.PathWords.{begins_with}
use Rattle.nc_schema.specs.Tables.{Tables}
use Rattle.nc_schema.specs.Values.{canonical, type_of}
use Rattle.nc_schema.specs.declared.value_type.ValueType.{ValueType}
use Rattle.nc_schema.specs.declared.value_type.ValueType.TheVariants.{Whole}
use Rattle.nc_yang_words.specs.declared.statement.Statement.{Statement}
use Rattle.nc_yang_statements.specs.Statements.{name}
use Rattle.nc_yang_scopes.specs.Prefixes.{prefixes_in}
use Rattle.nc_yang_scopes.specs.Scopes.{Located}

-- a `0` before other digits, as of an octal or a hexadecimal number: as a default none is read (RFC 7950 9.2.1)
abbrev pub is_other_base : List ℕ → Bool
is_other_base text =
    let digits = without_leading_sign (trimmed text) in begins_with zero_digit digits && nat_lt 1 (length digits)

-- an integer type (RFC 7950 9.2)
abbrev pub is_whole : ValueType → Bool
is_whole (Whole among) = true
is_whole other = false

-- the type of a data node is one
abbrev pub has_whole : Tables → ℕ → Bool
has_whole tables number =
    option_map_or is_whole (option_and_then (slice_get tables.types) (type_of tables number)) false

-- the canonical text of a default at the data node of a number, read with the prefixes of the text in which the
-- `default` statement stands; none where it is no value of the node's type
abbrev pub value_of : List Statement → Tables → ℕ → Located → Option (List ℕ)
value_of texts tables number default =
    let text = name default.statement in
    if has_whole tables number && is_other_base text then None
    else canonical tables number text (prefixes_in texts default.place.text)
