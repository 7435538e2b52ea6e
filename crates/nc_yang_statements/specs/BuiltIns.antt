-- The built-in types (RFC 7950 4.2.4, 9).
use Rattle.std.specs.Prelude.{ℕ, List, [], ◌∷◌, Option, find, codes}
use Rattle.nc_names.specs.Same.{is_same_text}
use Rattle.nc_yang_statements.specs.declared.built_in.BuiltIn.{BuiltIn}
use Rattle.nc_yang_statements.specs.declared.built_in.BuiltIn.TheVariants.{Binary, Bits, Boolean, Decimal64, Empty, Enumeration, IdentityRef, InstanceIdentifier, Int8, Int16, Int32, Int64, LeafRef, Chars, Uint8, Uint16, Uint32, Uint64, Union}

-- the name of a built-in type
unfoldable pub built_in_word : BuiltIn → List ℕ
built_in_word Binary = codes "binary"
built_in_word Bits = codes "bits"
built_in_word Boolean = codes "boolean"
built_in_word Decimal64 = codes "decimal64"
built_in_word Empty = codes "empty"
built_in_word Enumeration = codes "enumeration"
built_in_word IdentityRef = codes "identityref"
built_in_word InstanceIdentifier = codes "instance-identifier"
built_in_word Int8 = codes "int8"
built_in_word Int16 = codes "int16"
built_in_word Int32 = codes "int32"
built_in_word Int64 = codes "int64"
built_in_word LeafRef = codes "leafref"
built_in_word Chars = codes "string"
built_in_word Uint8 = codes "uint8"
built_in_word Uint16 = codes "uint16"
built_in_word Uint32 = codes "uint32"
built_in_word Uint64 = codes "uint64"
built_in_word Union = codes "union"

-- the built-in types
unfoldable pub built_ins : List BuiltIn
built_ins =
    Binary ∷ Bits ∷ Boolean ∷ Decimal64 ∷ Empty ∷ Enumeration ∷ IdentityRef ∷ InstanceIdentifier ∷ Int8 ∷
    Int16 ∷ Int32 ∷ Int64 ∷ LeafRef ∷ Chars ∷ Uint8 ∷ Uint16 ∷ Uint32 ∷ Uint64 ∷ Union ∷ []

-- the built-in type of a name
unfoldable pub built_in_of : List ℕ → Option BuiltIn
built_in_of word = find (λ b. is_same_text (built_in_word b) word) built_ins
