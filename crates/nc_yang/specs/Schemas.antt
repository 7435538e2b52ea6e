-- The schema that modules define, or the rules that they break (RFC 7950 5 to 9). Before them comes ietf-netconf-acm.
use Rattle.std.specs.Prelude.{◌≡◌, ℕ, List, [], map, Contains, MatchOption, ◌⊎◌}
use Rattle.std.specs.List.{All}
use Rattle.nc_names.specs.declared.name.QName.{QName}
use Rattle.nc_schema.specs.Tables.{Tables}
use Rattle.nc_yang_words.specs.declared.statement.Statement.{Statement}
use Rattle.nc_yang_statements.specs.declared.fault.Fault.{Fault}
use Rattle.nc_yang_statements.specs.Statements.{name}
use Rattle.nc_yang_scopes.specs.Numbers.{IsScoping}
use Rattle.nc_yang_scopes.specs.Prefixes.{namespace_at}
use Rattle.nc_yang_scopes.specs.Scopes.{Located, Scoping}
use Rattle.nc_yang_scopes.specs.declared.naming.TextFault.{TextFault}
use Rattle.nc_yang.specs.Rules.{BreaksText, KeepsTexts}
use Rattle.nc_yang.specs.Texts.{IsUnread}
use Rattle.nc_yang.specs.declared.text.ModuleText.{ModuleText}
use Rattle.nc_yang_nodes.specs.Plans.{IsFirstPast, IsPlan}
use Rattle.nc_yang_nodes.specs.Roles.{FeatureTest}
use Rattle.nc_yang_nodes.specs.Supported.{AreOn}
use Rattle.nc_yang_nodes.specs.declared.planned.Plan.{Plan}
use Rattle.nc_yang_nodes.specs.Values.{AreDerived}
use Rattle.nc_yang_data.specs.Data.{data_faults, data_tables}
use Rattle.nc_yang_types.specs.Faults.{BreaksTypes, KeepsTypes}
use Rattle.nc_yang_leafs.specs.Bases.{Basis, basis_on}
use Rattle.nc_yang_leafs.specs.Conditions.{holds}
use Rattle.nc_yang_leafs.specs.Faults.{BreaksLeafref}
use Rattle.nc_yang_leafs.specs.Patterns.{IsRefused, Refusals, without_patterns}
use Rattle.nc_yang_leafs.specs.Typings.{IsTyped}
use Rattle.nc_yang_leafs.specs.Circles.{BreaksCircle, HasNoCircle}
use Rattle.nc_yang_leafs.specs.Defaults.{BreaksDefault, HasDefaults, KeepsDefaults}
use Rattle.nc_yang.specs.Access.{HaveStatements, in_file}
use Rattle.nc_yang.specs.Depths.{BreaksDepth, KeepsDepth}
use Rattle.nc_yang.specs.Features.{IsFirstUnknown, NamesFeature, is_given}
use Rattle.nc_yang.specs.Typedefs.{AreJudged, typedef_plan, typedef_tables}
use Rattle.nc_yang.specs.declared.texts.Compilation.{Compilation}

-- texts whose statements keep all rules that need no data node, the numbers of these statements, and the features that
-- are on by the lines that name some
pub record IsBegun (modules : List ModuleText) (lines : List (List ℕ)) (scoping : Scoping)
    (on : FeatureTest) : Type 0 where
  pub read : HaveStatements modules scoping.texts
  pub keeps : KeepsTexts scoping.texts
  pub numbers : IsScoping scoping
  pub features : AreOn scoping (is_given scoping.texts lines) on

-- the name of an identity, in the namespace of its module (RFC 7950 7.18)
abbrev pub identity_name : List Statement → Located → QName
identity_name texts l = record { space = namespace_at texts l.place.text; name = name l.statement }

-- the names of the identities that are derived from each that `base` statements name (RFC 7950 9.10.2)
abbrev pub AreNames : Scoping → FeatureTest → List Located → List QName → Type 0
AreNames scoping on bases names =
    (found : List Located) × AreDerived scoping on bases found × (names ≡ map (identity_name scoping.texts) found)

-- what the types of planned leafs and leaf-lists stand on, which are such data nodes
abbrev pub basis_of : Scoping → FeatureTest → Plan → (given : Tables) → Basis
basis_of scoping on plan given = basis_on (holds scoping.texts on) scoping plan given

-- the same, where they are the data nodes of modules
abbrev pub basis : Scoping → FeatureTest → Plan → Basis
basis scoping on plan = basis_of scoping on plan (data_tables scoping on plan)

-- data nodes with their types, where these keep all rules in which no pattern is asked
pub record IsBareOf (scoping : Scoping) (on : FeatureTest) (plan : Plan) (given typed : Tables) : Type 0 where
  pub straight : HasNoCircle (basis_of scoping on plan given)
  pub types : IsTyped (AreNames scoping on) (basis_of scoping on plan given) typed
  pub shallow : KeepsDepth scoping plan (without_patterns typed)
  pub defaults : KeepsDefaults scoping plan (without_patterns typed)

-- their types break one: a leafref leads in a circle; the path of a leafref leads nowhere; a value is read through too
-- many types; a default suits no type, whatever its patterns
pub data BreaksBare (scoping : Scoping) (on : FeatureTest) (plan : Plan) (given : Tables) : TextFault → Type 0 where
  circle : (found : TextFault) → BreaksCircle (basis_of scoping on plan given) found
      → BreaksBare scoping on plan given found
  leafref : (found : TextFault) → BreaksLeafref (basis_of scoping on plan given) found
      → BreaksBare scoping on plan given found
  deep : (found : TextFault) (typed : Tables) → HasNoCircle (basis_of scoping on plan given)
      → IsTyped (AreNames scoping on) (basis_of scoping on plan given) typed
      → BreaksDepth scoping plan (without_patterns typed) found → BreaksBare scoping on plan given found
  default : (found : TextFault) (typed : Tables) → HasNoCircle (basis_of scoping on plan given)
      → IsTyped (AreNames scoping on) (basis_of scoping on plan given) typed
      → BreaksDefault scoping plan (without_patterns typed) found → BreaksBare scoping on plan given found

-- what the types of typedefs stand on, as leafs of a schema of their own
abbrev pub typedef_basis : Scoping → FeatureTest → List ℕ → Basis
typedef_basis scoping on numbers =
    basis_of scoping on (typedef_plan numbers) (typedef_tables scoping on numbers)

-- the typedefs that are judged, as leafs with their types: their defaults are values of these, but for patterns
pub record AreSuited (scoping : Scoping) (on : FeatureTest) (numbers : List ℕ) (typed : Tables) : Type 0 where
  pub are : AreJudged (holds scoping.texts on) scoping numbers
  pub bare : IsBareOf scoping on (typedef_plan numbers) (typedef_tables scoping on numbers) typed

-- the defaults of typedefs are values of their types
pub record KeepsTypedefs (scoping : Scoping) (on : FeatureTest) : Type 0 where
  pub numbers : List ℕ
  pub typed : Tables
  pub suited : AreSuited scoping on numbers typed
  pub defaults : KeepsDefaults scoping (typedef_plan numbers) typed

-- or one is not, whatever the patterns, or is read through too many types; or one is not by the patterns alone
pub data BreaksTypedefs (scoping : Scoping) (on : FeatureTest) : TextFault → Type 0 where
  suits_none : (numbers : List ℕ) (found : TextFault) → AreJudged (holds scoping.texts on) scoping numbers
      → BreaksBare scoping on (typedef_plan numbers) (typedef_tables scoping on numbers) found
      → BreaksTypedefs scoping on found
  unadmitted : (numbers : List ℕ) (typed : Tables) (found : TextFault) → AreSuited scoping on numbers typed
      → BreaksDefault scoping (typedef_plan numbers) typed found → BreaksTypedefs scoping on found

-- the schema of a plan of data nodes with its types, where these keep all rules in which no pattern is asked
pub record IsTypedOf (scoping : Scoping) (on : FeatureTest) (plan : Plan) (typed : Tables) : Type 0 where
  pub keeps : data_faults scoping on plan ≡ []
  pub bare : IsBareOf scoping on plan (data_tables scoping on plan) typed

-- the schema of a plan of data nodes, which keep their rules: leafs and leaf-lists have their types, and then their
-- defaults
pub record IsSchemaOf (scoping : Scoping) (on : FeatureTest) (plan : Plan) (tables : Tables) : Type 0 where
  pub typed : Tables
  pub is : IsTypedOf scoping on plan typed
  pub defaults : HasDefaults scoping plan typed tables

-- data nodes of a plan break a rule: one on a data node or choice in its place; one on types, whatever their patterns;
-- or a default suits no type by these alone. A rule on what others define is asked where these keep theirs
pub data BreaksPlan (scoping : Scoping) (on : FeatureTest) (plan : Plan) : TextFault → Type 0 where
  in_place : (found : TextFault) → Contains (data_faults scoping on plan) found → BreaksPlan scoping on plan found
  by_types : (found : TextFault) → data_faults scoping on plan ≡ []
      → BreaksBare scoping on plan (data_tables scoping on plan) found → BreaksPlan scoping on plan found
  by_pattern : (found : TextFault) (typed : Tables) → IsTypedOf scoping on plan typed
      → BreaksDefault scoping plan typed found → BreaksPlan scoping on plan found

-- texts whose types and typedefs keep their rules and whose data nodes keep the limits give this schema
pub record GivesSchema (scoping : Scoping) (on : FeatureTest) (tables : Tables) : Type 0 where
  pub types : KeepsTypes (holds scoping.texts on) scoping.texts
  pub typedefs : KeepsTypedefs scoping on
  pub plan : Plan
  pub planned : IsPlan scoping on plan
  pub is : IsSchemaOf scoping on plan tables

-- a type of texts breaks a rule, the default of a typedef does, a limit on data nodes is passed, or the data nodes
-- break a rule
pub data BreaksSchema (scoping : Scoping) (on : FeatureTest) : TextFault → Type 0 where
  ill_typed : (found : TextFault) → BreaksTypes (holds scoping.texts on) scoping.texts found.text found.fault
      → BreaksSchema scoping on found
  of_typedef : (found : TextFault) → KeepsTypes (holds scoping.texts on) scoping.texts
      → BreaksTypedefs scoping on found → BreaksSchema scoping on found
  past : (found : TextFault) → IsFirstPast scoping on found → BreaksSchema scoping on found
  in_plan : (plan : Plan) (found : TextFault) → KeepsTypes (holds scoping.texts on) scoping.texts
      → IsPlan scoping on plan → BreaksPlan scoping on plan found → BreaksSchema scoping on found

-- or a maker refused a pattern that data nodes use, or one that the judged typedefs use, where all rules are kept in
-- which no pattern is asked
pub record RefusesSchema (scoping : Scoping) (on : FeatureTest) (refusals : Refusals) (found : TextFault) : Type 0 where
  pub types : KeepsTypes (holds scoping.texts on) scoping.texts
  pub numbers : List ℕ
  pub suits : Tables
  pub suited : AreSuited scoping on numbers suits
  pub plan : Plan
  pub planned : IsPlan scoping on plan
  pub typed : Tables
  pub is : IsTypedOf scoping on plan typed
  pub refused : IsRefused (basis scoping on plan) refusals found
      ⊎ IsRefused (typedef_basis scoping on numbers) refusals found

-- the schema that modules define, with the features that lines name
pub record Defines (modules : List ModuleText) (lines : List (List ℕ)) (tables : Tables) : Type 0 where
  pub scoping : Scoping
  pub on : FeatureTest
  pub begun : IsBegun modules lines scoping on
  pub gives : GivesSchema scoping on tables

-- what modules define, and the first of the lines that names no feature of them
pub record IsCompiled (modules : List ModuleText) (lines : List (List ℕ)) (it : Compilation) : Type 0 where
  pub defines : Defines modules lines it.schema
  pub unknown : MatchOption it.unknown (All (NamesFeature modules) lines) (IsFirstUnknown modules lines)

-- a file breaks a rule: its text has no statements; a rule on statements and names is broken; or a rule on types and
-- data nodes is, where texts keep theirs
pub data Breaks (modules : List ModuleText) (lines : List (List ℕ)) : ℕ → Fault → Type 0 where
  unread : (file : ℕ) (fault : Fault) → IsUnread modules file fault → Breaks modules lines file fault
  text : (texts : List Statement) (file : ℕ) (fault : Fault) → HaveStatements modules texts
      → BreaksText texts (in_file file fault) → Breaks modules lines file fault
  in_schema : (scoping : Scoping) (on : FeatureTest) (file : ℕ) (fault : Fault) → IsBegun modules lines scoping on
      → BreaksSchema scoping on (in_file file fault) → Breaks modules lines file fault

-- a maker refused a pattern that modules use, and these keep all rules in which no pattern is asked
pub record Refuses (modules : List ModuleText) (lines : List (List ℕ)) (refusals : Refusals)
    (found : TextFault) : Type 0 where
  pub scoping : Scoping
  pub on : FeatureTest
  pub begun : IsBegun modules lines scoping on
  pub refuses : RefusesSchema scoping on refusals found

-- why modules give no schema: a file breaks a rule, or a maker refused a pattern in it
abbrev pub GivesNone : List ModuleText → List (List ℕ) → Refusals → ℕ → Fault → Type 0
GivesNone modules lines refusals file fault =
    Breaks modules lines file fault ⊎ Refuses modules lines refusals (in_file file fault)
