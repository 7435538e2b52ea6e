-- What a reading makes of texts.
use Rattle.std.specs.Prelude.{ℕ, Bool, true, false, List, [], Option, None}
use Rattle.nc_names.specs.declared.name.Bound.{Bound}
use Rattle.nc_schema.specs.Bindings.{module_bounds}
use Rattle.nc_schema.specs.Tables.{Tables}
use Rattle.nc_schema.specs.Values.{Givers, Gives, text_in_type, type_text}
use Rattle.nc_schema.specs.declared.value_type.ValueType.{ValueType}
use Rattle.nc_schema.specs.declared.value_type.ValueType.TheVariants.{Union, Identity, Leafref, Instance, NodeInstance}
use Rattle.nc_types.specs.declared.reading.Reading.{Reading}
use Rattle.nc_types.specs.inner.Asked.{givers}
use Rattle.nc_types.specs.inner.Scopes.{under}

-- the bindings in force
abbrev pub in_force : {K B : Type 0} → (B → List Bound) → Reading K B → List Bound
in_force bound reading = under reading.by_names (module_bounds reading.schema.now) (bound reading.bounds.now)

-- what types make of a text, by their numbers: so many more can be asked beside those of the chain
abbrev pub types_of :
    {K B : Type 0} → (Tables → List Bound → Gives) → Reading K B → (most : ℕ) → (chain : List ℕ) → List Bound → Gives
types_of gives reading most chain = type_text reading.schema.now (gives reading.schema.now) most chain

-- what gives canonical texts once these types are being asked
abbrev pub givers_of :
    {K B : Type 0} → (Tables → List Bound → Gives) → Reading K B → (most : ℕ) → (chain : List ℕ) → Givers
givers_of gives reading most chain = givers reading.schema.now (gives reading.schema.now) most chain

-- a value of the type is read by the type alone: no prefix counts, and no other type is asked
abbrev pub is_plain : ValueType → Bool
is_plain (Union members) = false
is_plain (Identity among) = false
is_plain (Leafref target above required) = false
is_plain (Instance required) = false
is_plain NodeInstance = false
is_plain other = true

-- nothing is given for a key, a member or a target
abbrev pub nothing_given : Givers
nothing_given = record { keys = λ bounds number text. None; types = λ bounds number text. None }

-- the canonical text by the type alone
abbrev pub plain_text : Tables → ValueType → List ℕ → Option (List ℕ)
plain_text tables found text = text_in_type tables nothing_given found [] text
