-- What the laws say.
use Rattle.std.specs.Prelude.{◌≡◌, ◌≢◌, ℕ, Bool, true, false, List, [], ◌∷◌, ◌&&◌, ℤ, int_lt, Some, None, IsSome}
use Rattle.std.specs.List.{AllPairs}
use Rattle.nc_schema.specs.NumberTexts.{is_among}
use Rattle.nc_schema.specs.declared.value_type.Between.{Between}
use Rattle.nc_schema.specs.declared.value_type.ValueType.{ValueType}
use Rattle.nc_yang_words.specs.declared.statement.Statement.{Statement}
use Rattle.nc_yang_statements.specs.declared.built_in.BuiltIn.{BuiltIn}
use Rattle.nc_yang_statements.specs.declared.built_in.BuiltIn.TheVariants.{Bits, IdentityRef, LeafRef, Union}
use Rattle.nc_yang_statements.specs.Statements.{below}
use Rattle.nc_yang_types.specs.declared.bound.Counted.{Counted}
use Rattle.nc_yang_types.specs.Entries.{narrowed, narrowed_faults, own, own_faults}
use Rattle.nc_yang_types.specs.Members.{bit_names, numbered, with_bits}
use Rattle.nc_yang_types.specs.Ranges.{restriction}
use Rattle.nc_yang_types.specs.declared.member.Listed.TheVariants.{Flags}
use Rattle.nc_yang_types.specs.declared.member.Named.{Named}

-- a range or a length admits no number that its base does not (RFC 7950 9.2.4, 9.4.4)
abbrev pub RestrictionsNarrow : Type 0
RestrictionsNarrow =
    (counted : Counted) (base parts : List Between) (text : List ℕ) (number : ℤ) →
    restriction counted base text ≡ Some parts → is_among parts number ≡ true → is_among base number ≡ true

-- a type whose entry rests on other names
abbrev pub needs_names : BuiltIn → Bool
needs_names IdentityRef = true
needs_names LeafRef = true
needs_names Union = true
needs_names built_in = false

-- every other built-in type has an entry where no rule is broken
abbrev pub OwnGives : Type 0
OwnGives =
    (stands : Statement → Bool) (built_in : BuiltIn) (s : Statement) →
    needs_names built_in ≡ false → own_faults built_in s ≡ [] → IsSome (own stands built_in (below s))

-- so has a type over another
abbrev pub NarrowedGives : Type 0
NarrowedGives =
    (stands : Statement → Bool) (base : ValueType) (names : List Named) (ss : List Statement) →
    narrowed_faults base names ss ≡ [] → IsSome (narrowed stands base ss)

-- each position is lower than the next
abbrev pub is_before : ℤ → List (ℤ × List ℕ) → Bool
is_before position [] = true
is_before position (bit ∷ bits) = int_lt position bit.0

-- the positions rise
abbrev pub ascend : List (ℤ × List ℕ) → Bool
ascend [] = true
ascend (bit ∷ bits) = is_before bit.0 bits && ascend bits

-- bits stand in the order of their positions, each position once (RFC 7950 9.7.4.2)
abbrev pub BitsAscend : Type 0
BitsAscend =
    (stands : Statement → Bool) (ss : List Statement) → ascend (with_bits stands [] (numbered Flags None ss)) ≡ true

-- a name of a bit stands once (RFC 7950 9.7.4)
abbrev pub BitsAreApart : Type 0
BitsAreApart =
    (stands : Statement → Bool) (s : Statement) → own_faults Bits s ≡ [] →
    AllPairs (λ name later. name ≢ later) (bit_names stands (below s))
