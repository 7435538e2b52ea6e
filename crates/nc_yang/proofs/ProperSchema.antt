-- The schema that modules define is a proper one.
use Rattle.std.proofs.Common.{◌≡◌, ◌≢◌, ◌<◌, ℕ, List, length, refl, sym, subst, ◌∙◌}
use Rattle.std.specs.Prelude.{Option, Some, None, IsSome, IsSomeAnd, Result, Ok, Err, IfOk, MatchResult, slice_get}
use Rattle.std.specs.List.{All, AllPairs}
use Rattle.nc_names.specs.declared.name.Module.{Module as SchemaModule}
use Rattle.nc_schema.specs.Proper.{AreInPlace, AreModules, AreTypesProper, EachNode, HasItsDefaults, IsProperModule, IsProperSchema}
use Rattle.nc_schema.specs.Tables.{Tables}
use Rattle.nc_schema.specs.declared.node.Node.{Node}
use Rattle.nc_yang_scopes.specs.Scopes.{Located, Scoping}
use Rattle.nc_yang_scopes.proofs.Lists.{get_within}
use Rattle.nc_yang_nodes.specs.Plans.{IsPlan, statement_of}
use Rattle.nc_yang_nodes.specs.Roles.{FeatureTest}
use Rattle.nc_yang_nodes.specs.declared.planned.Plan.{Plan}
use Rattle.nc_yang.specs.Rules.{KeepsTexts}
use Rattle.nc_yang.specs.Texts.{OnModule}
use Rattle.nc_yang.specs.declared.fault.CompileFault.{CompileFault}
use Rattle.nc_yang.specs.declared.text.ModuleText.{ModuleText}
use Rattle.nc_yang_data.specs.Data.{data_tables}
use Rattle.nc_yang_data.proofs.Lawful.{in_place}
use Rattle.nc_yang_types.specs.Faults.{KeepsTypes}
use Rattle.nc_yang_leafs.specs.Bases.{AllMeanWhole}
use Rattle.nc_yang_leafs.specs.Conditions.{holds}
use Rattle.nc_yang_leafs.specs.Patterns.{Refusals}
use Rattle.nc_yang_leafs.specs.Typings.{HasItsType, IsSameNode, IsTyped, NameEach}
use Rattle.nc_yang_leafs.proofs.ProperLemmas.{types_are_proper}
use Rattle.nc_yang_leafs.specs.Defaults.{HasDefaults, HasItsDefault}
use Rattle.nc_yang_leafs.specs.Typed.{IsTyped as IsReady}
use Rattle.nc_yang_leafs.proofs.LawLemmas.{has_one}
use Rattle.nc_yang_leafs.proofs.OutcomeLemmas.{outcome_canonical}
use Rattle.nc_yang.specs.Laws.{DefaultsAreCanonical, HasCanonicalDefaults, SchemasAreProper}
use Rattle.nc_yang.specs.Schemas.{AreNames, Defines, GivesNone, IsCompiled, IsSchemaOf, basis}
use Rattle.nc_yang.specs.declared.texts.Compilation.{Compilation}
use Rattle.nc_yang.proofs.Carried.{AreAlike, IsAlike, back, some_and, still_in_place, still_proper_types, still_turn, still_typed}
use Rattle.nc_yang.proofs.DataTypes.{data_types_mean}
use Rattle.nc_yang.proofs.IdentityNames.{are_identities}
use Rattle.nc_yang.proofs.Modules.{modules_are_proper}
use Rattle.nc_yang.proofs.ReadyLemmas.{is_ready}

-- with types
module _ (scoping : Scoping) (on : FeatureTest) (plan : Plan) (typed : Tables) (is : IsTyped (AreNames scoping on) (basis scoping on plan) typed) where
  given_alike : AreAlike (data_tables scoping on plan) typed
  given_alike = record {
    modules = is.modules;
    choices = is.choices;
    counted = is.counted;
    nodes = λ number old at. some_and
        (λ (new : Node). IsSameNode old new × HasItsType (AreNames scoping on) (NameEach typed.patterns) (basis scoping on plan) typed.types number new.kind new.kind_of_value) (IsAlike old)
        (λ new same. record { of_value = new.kind_of_value; defaults = old.defaults; is = same.0 }) (slice_get typed.nodes number) (is.nodes number old at);
  }

  types_proper : KeepsTexts scoping.texts → AllMeanWhole (basis scoping on plan) → AreTypesProper typed
  types_proper keeps whole =
      types_are_proper (AreNames scoping on) (basis scoping on plan) typed is whole (are_identities scoping keeps on typed is.modules)

-- with defaults
module _ (scoping : Scoping) (plan : Plan) (typed tables : Tables) (ready : IsReady scoping plan typed) (has : HasDefaults scoping plan typed tables) where
  stated : (number : ℕ) → number < length typed.nodes → (l : Located) × (statement_of scoping plan number ≡ Some l)
  stated number less = by (statement_of scoping plan number) refl (ready.stated number (subst (λ n. number < n) ready.counted less))
    where
      by : (o : Option Located) → statement_of scoping plan number ≡ o → IsSome o → (l : Located) × (statement_of scoping plan number ≡ Some l)
      by None none some = absurd (cc)
      by (Some l) there some = (l, there)

  -- a data node as it was
  pub record Was (number : ℕ) (old : Node) : Type 0 where
    statement : Located
    its : HasItsDefault scoping.texts typed tables (record { number = number; node = old; statement = statement })

  was : (number : ℕ) (old : Node) → slice_get typed.nodes number ≡ Some old → Was number old
  was number old at =
      let l = stated number (get_within typed.nodes number old at) in
      record { statement = l.0; its = has.nodes (record { number = number; node = old; statement = l.0 }) (at, l.1) }

  typed_alike : AreAlike typed tables
  typed_alike = record {
    modules = has.modules;
    choices = has.choices;
    counted = has.counted;
    nodes = λ number old at.
        let w = was number old at in
        subst (λ o. IsSomeAnd o (IsAlike old)) (sym w.its.there) (record { of_value = old.kind_of_value; defaults = w.its.values; is = refl });
  }

  values_kept : EachNode typed (λ number old. IsSomeAnd (slice_get tables.nodes number) (λ new. new.kind_of_value ≡ old.kind_of_value))
  values_kept number old at = let w = was number old at in subst (λ o. IsSomeAnd o (λ new. new.kind_of_value ≡ old.kind_of_value)) (sym w.its.there) refl

  its_defaults : EachNode tables (λ number node. HasItsDefaults node)
  its_defaults number new at =
      let b = back typed tables typed_alike number new at in
      let w = was number b.0 b.1 in
      let same : new ≡ record b.0 { defaults = w.its.values } = (let e : Some new ≡ Some (record b.0 { defaults = w.its.values }) = sym at ∙ w.its.there in cc) in
      subst HasItsDefaults (sym same) (has_one scoping.texts typed (record { number = number; node = b.0; statement = w.statement }) w.its.values w.its.are)

-- all together
module _ (scoping : Scoping) (on : FeatureTest) (plan : Plan) (tables : Tables) (keeps : KeepsTexts scoping.texts) (types : KeepsTypes (holds scoping.texts on) scoping.texts)
    (planned : IsPlan scoping on plan) (is : IsSchemaOf scoping on plan tables) where
  abbrev given : Tables
  given = data_tables scoping on plan

  whole : AllMeanWhole (basis scoping on plan)
  whole = data_types_mean (holds scoping.texts on) scoping on plan keeps types planned

  ready : IsReady scoping plan is.typed
  ready = is_ready scoping on plan planned (AreNames scoping on) (NameEach is.typed.patterns) is.typed is.is.bare.types whole

  first : AreAlike given is.typed
  first = given_alike scoping on plan is.typed is.is.bare.types

  second : AreAlike is.typed tables
  second = typed_alike scoping plan is.typed tables ready is.defaults

  proper_of : AreModules given → AreInPlace tables → AreTypesProper is.typed → IsProperSchema tables
  proper_of m p t =
      let kept = values_kept scoping plan is.typed tables ready is.defaults in
      let same : tables.modules ≡ given.modules = second.modules ∙ first.modules in
      record {
        modules = record {
          modules = subst (All IsProperModule) (sym same) m.modules;
          modules_apart = subst (AllPairs (λ (one later : SchemaModule). (one.name ≢ later.name) × (one.space ≢ later.space))) (sym same) m.modules_apart;
        };
        places = p;
        types = record {
          typed = still_typed is.typed tables second is.defaults.types kept t.typed;
          types = still_proper_types is.typed tables second is.defaults.types kept t.types;
          leafrefs = still_turn is.typed tables second is.defaults.types kept t.leafrefs;
        };
        defaults = its_defaults scoping plan is.typed tables ready is.defaults;
      }

  pub schema_is_proper : IsProperSchema tables
  schema_is_proper =
      proper_of (modules_are_proper scoping on plan keeps)
      (still_in_place is.typed tables second (still_in_place given is.typed first (in_place scoping on plan planned is.is.keeps)))
      (types_proper scoping on plan is.typed is.is.bare.types keeps whole)

  pub defaults_are_canonical_in : HasCanonicalDefaults tables
  defaults_are_canonical_in = outcome_canonical scoping plan is.typed tables ready is.defaults

pub schemas_are_proper : SchemasAreProper
schemas_are_proper modules lines tables d =
    schema_is_proper d.scoping d.on d.gives.plan tables d.begun.keeps d.gives.types d.gives.planned d.gives.is

pub defaults_are_canonical : DefaultsAreCanonical
defaults_are_canonical modules lines tables d =
    defaults_are_canonical_in d.scoping d.on d.gives.plan tables d.begun.keeps d.gives.types d.gives.planned d.gives.is

-- what is so of each schema that modules define is so of the one that is compiled
if_compiled : (P : Tables → Type 0) (modules : List ModuleText) (lines : List (List ℕ)) (B : CompileFault → Type 0) (result : Result Compilation CompileFault)
    → ((tables : Tables) → Defines modules lines tables → P tables) → MatchResult result (IsCompiled modules lines) B → IfOk result (λ it. P it.schema)
if_compiled P modules lines B (Ok it) law d = law it.schema d.defines
if_compiled P modules lines B (Err fault) law b = tt

abbrev pub IsOutcome : List ModuleText → List (List ℕ) → Refusals → Result Compilation CompileFault → Type 0
IsOutcome modules lines refusals result = MatchResult result (IsCompiled modules lines) (OnModule (GivesNone modules lines refusals))

pub proper : (modules : List ModuleText) (lines : List (List ℕ)) (refusals : Refusals) (result : Result Compilation CompileFault)
    → IsOutcome modules lines refusals result → IfOk result (λ it. IsProperSchema it.schema)
proper modules lines refusals result =
    if_compiled IsProperSchema modules lines (OnModule (GivesNone modules lines refusals)) result (schemas_are_proper modules lines)

pub canonical : (modules : List ModuleText) (lines : List (List ℕ)) (refusals : Refusals) (result : Result Compilation CompileFault)
    → IsOutcome modules lines refusals result → IfOk result (λ it. HasCanonicalDefaults it.schema)
canonical modules lines refusals result =
    if_compiled HasCanonicalDefaults modules lines (OnModule (GivesNone modules lines refusals)) result
    (defaults_are_canonical modules lines)
