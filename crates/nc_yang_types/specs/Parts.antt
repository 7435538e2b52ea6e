-- Which parts a type has, may have and has to have (RFC 7950 7.4, 9).
use Rattle.std.specs.Prelude.{◌||◌, not, Bool, false, if◌then◌else◌, List, [], ◌++◌, Option, Some, None}
use Rattle.std.specs.List.{flat_map}
use Rattle.nc_schema.specs.declared.value_type.ValueType.{ValueType}
use Rattle.nc_schema.specs.declared.value_type.ValueType.TheVariants.{Whole, Decimal, Chars as String, Enumeration as Names, Bits as Flags, Binary as Octets, Leafref, Instance}
use Rattle.nc_yang_words.specs.declared.statement.Statement.{Statement}
use Rattle.nc_yang_statements.specs.declared.built_in.BuiltIn.{BuiltIn}
use Rattle.nc_yang_statements.specs.declared.built_in.BuiltIn.TheVariants.{Binary, Bits, Boolean, Decimal64, Empty, Enumeration, IdentityRef, InstanceIdentifier, LeafRef, Chars, Union}
use Rattle.nc_yang_statements.specs.declared.fault.Fault.{Fault}
use Rattle.nc_yang_statements.specs.declared.fault.ModuleWhy.{ModuleWhy}
use Rattle.nc_yang_statements.specs.declared.fault.ModuleWhy.TheVariants.{UnknownStatement, Missing}
use Rattle.nc_yang_statements.specs.declared.keyword.Keyword.{Keyword}
use Rattle.nc_yang_statements.specs.declared.keyword.Keyword.TheVariants.{Base, TypeName, Range, Length, Pattern, EnumName, Bit, FractionDigits, Path, RequireInstance}
use Rattle.nc_yang_statements.specs.Keywords.{is_closed, is_same_keyword}
use Rattle.nc_yang_statements.specs.Rules.{at, at_if}
use Rattle.nc_yang_statements.specs.Statements.{below, has, kind}

-- the parts of a built-in type; the other ones are integers (RFC 7950 9.2 to 9.13)
abbrev pub takes : BuiltIn → Keyword → Bool
takes Binary keyword = is_same_keyword Length keyword
takes Bits keyword = is_same_keyword Bit keyword
takes Boolean keyword = false
takes Decimal64 keyword = is_same_keyword FractionDigits keyword || is_same_keyword Range keyword
takes Empty keyword = false
takes Enumeration keyword = is_same_keyword EnumName keyword
takes IdentityRef keyword = is_same_keyword Base keyword
takes InstanceIdentifier keyword = is_same_keyword RequireInstance keyword
takes LeafRef keyword = is_same_keyword Path keyword || is_same_keyword RequireInstance keyword
takes Chars keyword = is_same_keyword Length keyword || is_same_keyword Pattern keyword
takes Union keyword = is_same_keyword TypeName keyword
takes built_in keyword = is_same_keyword Range keyword

-- the part without which a built-in type says nothing (RFC 7950 9.3.4, 9.6.4, 9.7.4, 9.9.2, 9.10.2, 9.12)
abbrev pub needs : BuiltIn → Option Keyword
needs Bits = Some Bit
needs Decimal64 = Some FractionDigits
needs Enumeration = Some EnumName
needs IdentityRef = Some Base
needs LeafRef = Some Path
needs Union = Some TypeName
needs built_in = None

-- the parts by which a type over this one may be narrower (RFC 7950 9.2.3, 9.3.3, 9.4.3, 9.6.3, 9.7.3, 9.8.1,
-- 9.9.3, 9.13.1)
abbrev pub narrows : ValueType → Keyword → Bool
narrows (Whole among) keyword = is_same_keyword Range keyword
narrows (Decimal digits among) keyword = is_same_keyword Range keyword
narrows (String lengths starless patterns) keyword =
    is_same_keyword Length keyword || is_same_keyword Pattern keyword
narrows (Octets lengths) keyword = is_same_keyword Length keyword
narrows (Leafref target above required) keyword = is_same_keyword RequireInstance keyword
narrows (Instance required) keyword = is_same_keyword RequireInstance keyword
narrows (Names names) keyword = is_same_keyword EnumName keyword
narrows (Flags names) keyword = is_same_keyword Bit keyword
narrows base keyword = false

-- why a part may not stand in a built-in type; nothing is asked of what is passed over
abbrev pub why_foreign : BuiltIn → Keyword → Option ModuleWhy
why_foreign built_in keyword = if is_closed keyword || takes built_in keyword then None else Some UnknownStatement

-- what may not stand below such a type
abbrev pub foreign : BuiltIn → List Statement → List Fault
foreign built_in ss = flat_map (λ t. at (why_foreign built_in (kind t)) t) ss

-- the part that it needs is not there
abbrev pub lacking_part : Option Keyword → Statement → List Fault
lacking_part None s = []
lacking_part (Some keyword) s = at_if (not (has keyword (below s))) s Missing

-- what has to stand below it and does not
abbrev pub lacking : BuiltIn → Statement → List Fault
lacking built_in s = lacking_part (needs built_in) s

-- the parts of a built-in type
abbrev pub misshapen : BuiltIn → Statement → List Fault
misshapen built_in s = foreign built_in (below s) ++ lacking built_in s

-- why a part may not stand in a type over another
abbrev pub why_foreign_over : ValueType → Keyword → Option ModuleWhy
why_foreign_over base keyword =
    if is_closed keyword || narrows base keyword then None else Some UnknownStatement

-- what may not stand below a type over another one
abbrev pub foreign_over : ValueType → List Statement → List Fault
foreign_over base ss = flat_map (λ t. at (why_foreign_over base (kind t)) t) ss
