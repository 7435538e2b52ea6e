-- What is read of `default` statements, one after another, and of a data node's.
use Rattle.std.specs.Prelude.{◌≡◌, ◌≢◌, ◌<◌, ℕ, true, List, ◌∷◌, ◌++◌, map, length, Option, Some, None, Result, Ok, Err, slice_get, Contains, MatchResult}
use Rattle.std.specs.List.{AllPairs}
use Rattle.nc_schema.specs.Kinds.{has_value}
use Rattle.nc_schema.specs.Tables.{Tables}
use Rattle.nc_schema.specs.declared.node.Node.{Node}
use Rattle.nc_types.specs.declared.fault.TypeFault.{TypeFault}
use Rattle.nc_types.specs.declared.fault.TypeFault.TheVariants.{NotInType, Memory as NoMemory}
use Rattle.nc_yang_words.specs.declared.statement.Statement.{Statement}
use Rattle.nc_yang_scopes.specs.Scopes.{Located, Scoping}
use Rattle.nc_yang_scopes.specs.declared.naming.TextFault.{TextFault}
use Rattle.nc_yang_nodes.specs.declared.planned.Plan.{Plan}
use Rattle.nc_yang_scopes.specs.Numbers.{AreNumbers}
use Rattle.nc_yang_statements.specs.declared.stop.Stop.{Stop}
use Rattle.nc_yang_leafs.specs.Defaults.{AreDefaultsOf, AreValues, BreaksAt, StopsAt, bad_default, blamed}
use Rattle.nc_yang_statements.specs.Stops.{OnBroken}
use Rattle.nc_yang_leafs.specs.declared.values.BadDefault.{BadDefault}
use Rattle.nc_yang_leafs.specs.Readings.{value_of}
use Rattle.nc_yang_leafs.specs.Sources.{BringsTo, Defined, IsDefined, own_of}
use Rattle.nc_yang_leafs.specs.Typed.{HasMeaning}

-- a text that is read, or none where it is no value; of want of memory nothing is said
abbrev pub IsReading : Option (List ℕ) → Result (List ℕ) TypeFault → Type 0
IsReading wanted (Ok value) = wanted ≡ Some value
IsReading wanted (Err NotInType) = wanted ≡ None
IsReading wanted (Err NoMemory) = Unit {0}

-- the first have these values, and the one of that number, which is next, has none
pub record Lacks (scoping : Scoping) (tables : Tables) (number : ℕ) (defaults : List Located)
    (values : List (List ℕ)) (stop : ℕ) : Type 0 where
  pub before : List Located
  pub after : List Located
  pub default : Located
  pub cut : defaults ≡ before ++ default ∷ after
  pub read : map (value_of scoping.texts tables number) before ≡ map Some values
  pub is : slice_get scoping.located stop ≡ Some default
  pub none : value_of scoping.texts tables number default ≡ None

-- all have these values, or as many as there are before the first that has none
abbrev pub AreRead : Scoping → Tables → ℕ → List Located → List (List ℕ) → Option ℕ → Type 0
AreRead scoping tables number defaults values None =
    map (value_of scoping.texts tables number) defaults ≡ map Some values
AreRead scoping tables number defaults values (Some stop) = Lacks scoping tables number defaults values stop

-- a text that stands before it, and the texts before that place are apart
pub record IsAgain (values : List (List ℕ)) (place : ℕ) : Type 0 where
  pub before : List (List ℕ)
  pub after : List (List ℕ)
  pub value : List ℕ
  pub cut : values ≡ before ++ value ∷ after
  pub counted : length before ≡ place
  pub apart : AllPairs (λ one later. one ≢ later) before
  pub again : Contains before value

-- the place of the first text that came before, too, or that all texts are apart
abbrev pub IsFirstAgain : List (List ℕ) → Option ℕ → Type 0
IsFirstAgain values None = AllPairs (λ one later. one ≢ later) values
IsFirstAgain values (Some place) = IsAgain values place

-- the statement of a number is the first that breaks a rule, for that reason
pub record IsStop (scoping : Scoping) (tables : Tables) (number : ℕ) (defaults : List Located)
    (stop : BadDefault) : Type 0 where
  pub default : Located
  pub is : slice_get scoping.located stop.at ≡ Some default
  pub stops : StopsAt scoping.texts tables number defaults default
  pub why : stop.why ≡ stops.why

-- what is found of `default` statements that have these numbers
abbrev pub FindsValues : Scoping → Tables → ℕ → List ℕ → Result (List (List ℕ)) (Stop BadDefault) → Type 0
FindsValues scoping tables number numbers result =
    (defaults : List Located) → AreNumbers scoping.located numbers defaults → MatchResult result
    (AreValues scoping.texts tables number defaults) (OnBroken (IsStop scoping tables number defaults))

-- the number of the default that a type brings to a data node, or that it brings none
abbrev pub IsBrought : Scoping → Defined → Option ℕ → Type 0
IsBrought scoping d None = (default : Located) → BringsTo scoping.texts d default → ⊥
IsBrought scoping d (Some number) =
    (default : Located) × (slice_get scoping.located number ≡ Some default) × BringsTo scoping.texts d default

-- a rule that a data node's defaults break
pub record IsFault (texts : List Statement) (tables : Tables) (d : Defined) (fault : TextFault) : Type 0 where
  pub default : Located
  pub breaks : BreaksAt texts tables d default
  pub is : fault ≡ bad_default breaks.stops.why (blamed (own_of d.node.kind d.statement) d.statement default)

-- a data node with its number and the statement that defines it
abbrev pub defined : ℕ → Node → Located → Defined
defined number node l = record { number = number; node = node; statement = l }

-- its type means something, if it has one
abbrev pub MeansIt : List Statement → Defined → Type 0
MeansIt texts d = has_value d.node.kind ≡ true → HasMeaning texts d.statement

-- what is found of a data node
abbrev pub FindsDefaults : Scoping → Tables → Defined → Result (List (List ℕ)) (Stop TextFault) → Type 0
FindsDefaults scoping tables d result =
    MatchResult result (AreDefaultsOf scoping.texts tables d) (OnBroken (IsFault scoping.texts tables d))

-- the defaults of the first data nodes
pub record AreFound (scoping : Scoping) (plan : Plan) (tables : Tables) (count : ℕ)
    (found : List (List (List ℕ))) : Type 0 where
  pub counted : length found ≡ count
  pub each : (d : Defined) → IsDefined scoping plan tables d → d.number < count
      → (values : List (List ℕ)) × (slice_get found d.number ≡ Some values)
      × AreDefaultsOf scoping.texts tables d values
