-- What each pass answers, as what modules define or the rule that they break.
use Rattle.std.proofs.Common.{inl, inr, ◌≡◌, ℕ, suc, List, [], length, ap, sym, subst, ◌∙◌}
use Rattle.std.specs.Prelude.{slice_get, Option, Result, Ok, Err, Some, IfOk, MatchResult, OnOk}
use Rattle.nc_names.specs.declared.memory.Memory.{Memory as NamesMemory}
use Rattle.nc_schema.specs.Tables.{Tables}
use Rattle.nc_yang_words.specs.declared.statement.Statement.{Statement}
use Rattle.nc_yang_statements.specs.declared.fault.Fault.{Fault}
use Rattle.nc_yang_statements.specs.Rules.{first}
use Rattle.nc_yang_statements.specs.Stops.{OnBroken}
use Rattle.nc_yang_statements.specs.declared.stop.Stop.{Stop}
use Rattle.nc_yang_statements.specs.declared.stop.Stop.TheVariants.{Broken, Memory}
use Rattle.nc_yang_statements.proofs.Firsts.{first_contains}
use Rattle.nc_yang_scopes.specs.Numbers.{IsScoping}
use Rattle.nc_yang_scopes.specs.Scopes.{Scoping}
use Rattle.nc_yang_scopes.specs.declared.naming.TextFault.{TextFault}
use Rattle.nc_yang.specs.Rules.{BreaksText, KeepsTexts}
use Rattle.nc_yang.specs.Texts.{IsUnread, OnModule}
use Rattle.nc_yang.specs.declared.fault.CompileFault.{CompileFault}
use Rattle.nc_yang.specs.declared.fault.CompileFault.TheVariants.{Module, Memory as NoMemory}
use Rattle.nc_yang.specs.declared.text.ModuleText.{ModuleText}
use Rattle.nc_yang_nodes.specs.FeaturesOn.{is_on}
use Rattle.nc_yang_nodes.specs.Plans.{IsFirstPast, IsPlan}
use Rattle.nc_yang_nodes.specs.Roles.{FeatureTest}
use Rattle.nc_yang_nodes.specs.Supported.{AreOn}
use Rattle.nc_yang_nodes.specs.declared.features.Features.{Features}
use Rattle.nc_yang_nodes.specs.declared.planned.Plan.{Plan}
use Rattle.nc_yang_data.specs.Data.{data_faults, data_tables}
use Rattle.nc_yang_types.specs.Faults.{BreaksTypes, KeepsTypes}
use Rattle.nc_yang_leafs.specs.Bases.{AllMeanWhole}
use Rattle.nc_yang_leafs.specs.Conditions.{holds}
use Rattle.nc_yang_leafs.specs.Faults.{BreaksLeafref}
use Rattle.nc_yang_leafs.specs.Patterns.{AreTypings, HasPatterns, Refusals, RefusesType}
use Rattle.nc_yang_leafs.specs.declared.bare.Typed.{Typed}
use Rattle.nc_yang_leafs.proofs.PatternLemmas.{refused_in_use, stated_typed}
use Rattle.nc_yang_leafs.specs.Circles.{BreaksCircle, HasNoCircle}
use Rattle.nc_yang_leafs.specs.Defaults.{BreaksDefault, HasDefaults, KeepsDefaults}
use Rattle.nc_yang_leafs.specs.Typed.{IsTyped as IsReady}
use Rattle.nc_yang.specs.Access.{HaveStatements, in_file}
use Rattle.nc_yang.specs.Depths.{BreaksDepth, KeepsDepth}
use Rattle.nc_yang.specs.Features.{is_given}
use Rattle.nc_yang.specs.Schemas.{AreNames, BreaksSchema, BreaksTypedefs, GivesNone, GivesSchema, IsBegun, IsSchemaOf, IsTypedOf, RefusesSchema, basis, basis_of, by_pattern, by_types, circle, deep, default, ill_typed, in_place, in_plan, in_schema, leafref, of_typedef, past, text, unread}
use Rattle.nc_yang.specs.declared.suited.Suited.{Suited}
use Rattle.nc_yang.specs.inner.Finishing.{Ends, Finishes, GivesNoSchema, GivesNothing, broken, refused as refused_last, too_deep, unsuited as unsuited_last}
use Rattle.nc_yang.specs.inner.Judged.{BreaksPatterned, HasBare, IsSuited, KeepsPatterned, refused, unsuited}
use Rattle.nc_yang.specs.inner.Stops.{IsInFile, OnFile}
use Rattle.nc_yang.proofs.Bare.{bare_stated, bare_with}
use Rattle.nc_yang.proofs.SuitedLemmas.{keeps_patterned, refused_patterned, suited_stated, unsuited_patterned}

-- ---- faults of the passes
pub data_stops : (scoping : Scoping) (on : FeatureTest) (plan : Plan) (refusals : Refusals) (met : Stop TextFault) → OnBroken (λ (found : TextFault). Some found ≡ first (data_faults scoping on plan)) met
    → OnBroken (GivesNoSchema scoping on plan refusals) met
data_stops scoping on plan refusals (Broken found) b = inl (in_place found (first_contains (data_faults scoping on plan) found (sym b)))
data_stops scoping on plan refusals Memory b = tt

pub meaning_stops : (scoping : Scoping) (on : FeatureTest) (refusals : Refusals) (met : Stop TextFault) → OnBroken (λ (it : TextFault). BreaksTypes (holds scoping.texts on) scoping.texts it.text it.fault) met
    → OnBroken (GivesNothing scoping on refusals) met
meaning_stops scoping on refusals (Broken found) b = inl (ill_typed found b)
meaning_stops scoping on refusals Memory b = tt

pub typedef_stops : (scoping : Scoping) (on : FeatureTest) (refusals : Refusals) → KeepsTypes (holds scoping.texts on) scoping.texts → (met : Stop TextFault) → OnBroken (BreaksTypedefs scoping on) met
    → OnBroken (GivesNothing scoping on refusals) met
typedef_stops scoping on refusals types (Broken found) b = inl (of_typedef found types b)
typedef_stops scoping on refusals types Memory b = tt

pub plan_stops : (scoping : Scoping) (on : FeatureTest) (refusals : Refusals) (met : Stop TextFault) → OnBroken (IsFirstPast scoping on) met → OnBroken (GivesNothing scoping on refusals) met
plan_stops scoping on refusals (Broken found) b = inl (past found b)
plan_stops scoping on refusals Memory b = tt

-- ---- what stands on the tables of a plan
pub all_mean : (scoping : Scoping) (on : FeatureTest) (plan : Plan) (given : Tables) → given ≡ data_tables scoping on plan
    → AllMeanWhole (basis scoping on plan) → AllMeanWhole (basis_of scoping on plan given)
all_mean scoping on plan given is h = subst (λ (t : Tables). AllMeanWhole (basis_of scoping on plan t)) (sym is) h

pub types_on : (scoping names : Scoping) (on : FeatureTest) (plan : Plan) (given : Tables) → names ≡ scoping → (result : Result Typed (Stop TextFault))
    → MatchResult result (AreTypings (AreNames names on) (basis_of scoping on plan given)) (OnBroken (BreaksLeafref (basis_of scoping on plan given)))
    → MatchResult result (AreTypings (AreNames scoping on) (basis_of scoping on plan given)) (OnBroken (BreaksLeafref (basis_of scoping on plan given)))
types_on scoping names on plan given named result h =
    subst (λ (s : Scoping). MatchResult result (AreTypings (AreNames s on) (basis_of scoping on plan given)) (OnBroken (BreaksLeafref (basis_of scoping on plan given)))) named h

pub no_types : (scoping : Scoping) (on : FeatureTest) (plan : Plan) (given : Tables) → given ≡ data_tables scoping on plan → (given.types ≡ []) × (given.patterns ≡ [])
no_types scoping on plan given is = (ap (λ (t : Tables). t.types) is, ap (λ (t : Tables). t.patterns) is)

-- ---- what comes of a plan
pub leafref_stops : (scoping : Scoping) (on : FeatureTest) (plan : Plan) (refusals : Refusals) → data_faults scoping on plan ≡ [] → (stop : Stop TextFault) → OnBroken (BreaksLeafref (basis scoping on plan)) stop
    → OnBroken (GivesNoSchema scoping on plan refusals) stop
leafref_stops scoping on plan refusals kept (Broken found) b = inl (by_types found kept (leafref found b))
leafref_stops scoping on plan refusals kept Memory b = tt

pub circle_stops : (scoping : Scoping) (on : FeatureTest) (plan : Plan) (refusals : Refusals) → data_faults scoping on plan ≡ [] → (stop : Stop TextFault) → OnBroken (BreaksCircle (basis scoping on plan)) stop
    → OnBroken (GivesNoSchema scoping on plan refusals) stop
circle_stops scoping on plan refusals kept (Broken found) b = inl (by_types found kept (circle found b))
circle_stops scoping on plan refusals kept Memory b = tt

-- the schema with its types as they were found, and what its defaults and patterns come to
module _ (scoping : Scoping) (on : FeatureTest) (plan : Plan) (typed : Typed) (refusals : Refusals) (kept : data_faults scoping on plan ≡ []) (none : HasNoCircle (basis scoping on plan))
    (are : AreTypings (AreNames scoping on) (basis scoping on plan) typed) where
  has_bare : KeepsDepth scoping plan typed.schema → KeepsDefaults scoping plan typed.schema → HasBare scoping on plan (data_tables scoping on plan) typed
  has_bare shallow keeps = record { straight = none; typings = are; shallow = shallow; defaults = keeps }

  of_patterns : (tables : Tables) → HasPatterns scoping.located typed tables → KeepsDepth scoping plan typed.schema → KeepsDefaults scoping plan typed.schema → IsTypedOf scoping on plan tables
  of_patterns tables has shallow keeps = record { keeps = kept; bare = bare_with scoping on plan (data_tables scoping on plan) typed (has_bare shallow keeps) tables has }

  ends : (found : TextFault) → Ends scoping plan typed refusals found → GivesNoSchema scoping on plan refusals found
  ends _ (too_deep found h) =
      let t = stated_typed (AreNames scoping on) (basis scoping on plan) typed are in
      inl (by_types found kept (deep found t.0 none t.1 (subst (λ z. BreaksDepth scoping plan z found) (sym t.2) h)))
  ends _ (broken found h) =
      let t = stated_typed (AreNames scoping on) (basis scoping on plan) typed are in
      inl (by_types found kept (default found t.0 none t.1 (subst (λ z. BreaksDefault scoping plan z found) (sym t.2) h)))
  ends _ (refused_last found shallow keeps h) =
      let t = bare_stated scoping on plan (data_tables scoping on plan) typed (has_bare shallow keeps) in
      inr (record {
        typed = t.0;
        is = record { keeps = kept; bare = t.1 };
        refused = refused_in_use (AreNames scoping on) (basis scoping on plan) typed are refusals found h;
      })
  ends _ (unsuited_last found patterned shallow keeps has h) = inl (by_pattern found patterned (of_patterns patterned has shallow keeps) h)

  pub finishes : (result : Result Tables (Stop TextFault)) → MatchResult result (Finishes scoping plan typed) (OnBroken (Ends scoping plan typed refusals))
      → MatchResult result (IsSchemaOf scoping on plan) (OnBroken (GivesNoSchema scoping on plan refusals))
  finishes (Ok tables) h = record { typed = h.patterned; is = of_patterns h.patterned h.has h.shallow h.keeps; defaults = h.defaults }
  finishes (Err (Broken found)) h = ends found h
  finishes (Err Memory) h = tt

-- depths that are looked at first, and defaults before the patterns and after them
pub deep_first : (scoping : Scoping) (plan : Plan) (typed : Typed) (refusals : Refusals) (stop : Stop TextFault) → OnBroken (BreaksDepth scoping plan typed.schema) stop
    → OnBroken (Ends scoping plan typed refusals) stop
deep_first scoping plan typed refusals (Broken found) b = too_deep found b
deep_first scoping plan typed refusals Memory b = tt

pub broken_first : (scoping : Scoping) (plan : Plan) (typed : Typed) (refusals : Refusals) (stop : Stop TextFault) → OnBroken (BreaksDefault scoping plan typed.schema) stop
    → OnBroken (Ends scoping plan typed refusals) stop
broken_first scoping plan typed refusals (Broken found) b = broken found b
broken_first scoping plan typed refusals Memory b = tt

pub refused_then : (scoping : Scoping) (plan : Plan) (typed : Typed) (refusals : Refusals) → KeepsDepth scoping plan typed.schema → KeepsDefaults scoping plan typed.schema → (stop : Stop TextFault)
    → OnBroken (RefusesType scoping.located typed refusals) stop → OnBroken (Ends scoping plan typed refusals) stop
refused_then scoping plan typed refusals shallow keeps (Broken found) b = refused_last found shallow keeps b
refused_then scoping plan typed refusals shallow keeps Memory b = tt

pub defaults_last : (scoping : Scoping) (plan : Plan) (typed : Typed) (refusals : Refusals) (patterned : Tables) → KeepsDepth scoping plan typed.schema → KeepsDefaults scoping plan typed.schema
    → HasPatterns scoping.located typed patterned → (result : Result Tables (Stop TextFault)) → MatchResult result (HasDefaults scoping plan patterned) (OnBroken (BreaksDefault scoping plan patterned))
    → MatchResult result (Finishes scoping plan typed) (OnBroken (Ends scoping plan typed refusals))
defaults_last scoping plan typed refusals patterned shallow keeps has (Ok tables) h = record { shallow = shallow; keeps = keeps; patterned = patterned; has = has; defaults = h }
defaults_last scoping plan typed refusals patterned shallow keeps has (Err (Broken found)) h = unsuited_last found patterned shallow keeps has h
defaults_last scoping plan typed refusals patterned shallow keeps has (Err Memory) h = tt

-- what is so whatever was found
pub whatever : {A E : Type 0} (P : Type 0) (result : Result A E) → P → OnOk result P
whatever P (Ok it) p = p
whatever P (Err e) p = tt

-- what makes a schema ready for its defaults does not depend on its types
pub ready_again : (scoping : Scoping) (plan : Plan) (typed : Typed) (tables : Tables) → IsReady scoping plan typed.schema → HasPatterns scoping.located typed tables → IsReady scoping plan tables
ready_again scoping plan typed tables ready has = record {
  counted = ap length has.nodes ∙ ready.counted;
  stated = ready.stated;
  meanings = λ d is valued. ready.meanings d (ap (λ z. slice_get z d.number) (sym has.nodes) ∙ is.0, is.1) valued;
  fresh = λ d is. ready.fresh d (ap (λ z. slice_get z d.number) (sym has.nodes) ∙ is.0, is.1);
}

-- ---- of texts
-- features are on by the lines that name them
pub on_by : (scoping : Scoping) (lines : List (List ℕ)) (given : Features) → ((text : ℕ) (feature : List ℕ) → is_on given text feature ≡ is_given scoping.texts lines text feature)
    → (result : Result Features NamesMemory) → IfOk result (λ it. AreOn scoping (is_on given) (is_on it)) → IfOk result (λ it. AreOn scoping (is_given scoping.texts lines) (is_on it))
on_by scoping lines given same result h =
    subst (λ (f : FeatureTest). IfOk result (λ it. AreOn scoping f (is_on it))) (λ i text feature. same text feature i) h

-- a schema of a plan, beside typedefs whose defaults suit their types but for patterns
module _ (scoping : Scoping) (on : FeatureTest) (plan : Plan) (types : KeepsTypes (holds scoping.texts on) scoping.texts) (suited : Suited) (is : IsSuited scoping on suited) (planned : IsPlan scoping on plan) where
  pub schema_stops : (refusals : Refusals) (stop : Stop TextFault) → OnBroken (GivesNoSchema scoping on plan refusals) stop → OnBroken (GivesNothing scoping on refusals) stop
  schema_stops refusals (Broken found) (inl h) = inl (in_plan plan found types planned h)
  schema_stops refusals (Broken found) (inr h) =
      let t = suited_stated scoping on suited is in
      inr (record { types = types; numbers = is.numbers; suits = t.0; suited = t.1; plan = plan; planned = planned; typed = h.typed; is = h.is; refused = inl h.refused })
  schema_stops refusals Memory h = tt

  module _ (tables : Tables) (schema : IsSchemaOf scoping on plan tables) where
    pub patterned_stops : (refusals : Refusals) (stop : Stop TextFault) → OnBroken (BreaksPatterned scoping suited refusals) stop → OnBroken (GivesNothing scoping on refusals) stop
    patterned_stops refusals (Broken found) h = by found h
      where
        by : (found : TextFault) → BreaksPatterned scoping suited refusals found → GivesNothing scoping on refusals found
        by _ (refused found r) =
            let t = suited_stated scoping on suited is in
            inr (record {
              types = types;
              numbers = is.numbers;
              suits = t.0;
              suited = t.1;
              plan = plan;
              planned = planned;
              typed = schema.typed;
              is = schema.is;
              refused = inr (refused_patterned scoping on suited is refusals found r);
            })
        by _ (unsuited found patterned has breaks) = inl (of_typedef found types (unsuited_patterned scoping on suited is found patterned has breaks))
    patterned_stops refusals Memory h = tt

    pub gives : KeepsPatterned scoping suited → GivesSchema scoping on tables
    gives keeps = record { types = types; typedefs = keeps_patterned scoping on suited is keeps; plan = plan; planned = planned; is = schema }

pub text_stops : (modules : List ModuleText) (lines : List (List ℕ)) (refusals : Refusals) (roots : List Statement) → HaveStatements modules roots → (stop : Stop TextFault) → OnBroken (BreaksText roots) stop
    → OnBroken (OnFile (GivesNone modules lines refusals)) stop
text_stops modules lines refusals roots read (Broken found) b = λ file is. inl (text roots file found.fault read (subst (BreaksText roots) is b))
text_stops modules lines refusals roots read Memory b = tt

-- texts that are read, and keep the rules that need no data node
pub begins : (modules : List ModuleText) (lines : List (List ℕ)) (scoping : Scoping) (on : FeatureTest) (roots : List Statement) → scoping.texts ≡ roots → HaveStatements modules roots → KeepsTexts roots
    → IsScoping scoping → AreOn scoping (is_given scoping.texts lines) on → IsBegun modules lines scoping on
begins modules lines scoping on roots same read keeps numbers features = record {
  read = subst (HaveStatements modules) (sym same) read;
  keeps = subst KeepsTexts (sym same) keeps;
  numbers = numbers;
  features = features;
}

pub begun_stops : (modules : List ModuleText) (lines : List (List ℕ)) (refusals : Refusals) (scoping : Scoping) (on : FeatureTest) → IsBegun modules lines scoping on
    → (stop : Stop TextFault) → OnBroken (GivesNothing scoping on refusals) stop → OnBroken (OnFile (GivesNone modules lines refusals)) stop
begun_stops modules lines refusals scoping on begun (Broken found) (inl h) = λ file is. inl (in_schema scoping on file found.fault begun (subst (BreaksSchema scoping on) is h))
begun_stops modules lines refusals scoping on begun (Broken found) (inr h) = λ file is. inr (record { scoping = scoping; on = on; begun = begun; refuses = subst (RefusesSchema scoping on refusals) is h })
begun_stops modules lines refusals scoping on begun Memory h = tt

-- ---- of files
pub unread_stops : (modules : List ModuleText) (lines : List (List ℕ)) (refusals : Refusals) (fault : CompileFault) → OnModule (IsUnread modules) fault → OnModule (GivesNone modules lines refusals) fault
unread_stops modules lines refusals (Module file line why) h = inl (unread file (record { line = line; why = why }) h)
unread_stops modules lines refusals NoMemory h = tt

-- a fault of a text after the first is one of the file before it
pub file_of : (found : TextFault) (file : ℕ) → suc file ≡ found.text → found ≡ in_file file (record { line = found.fault.line; why = found.fault.why })
file_of found file is = λ i. record { text = sym is i; fault = found.fault }

pub file_stops : (P : ℕ → Fault → Type 0) (stop : Stop TextFault) (fault : CompileFault) → IsInFile stop fault → OnBroken (OnFile P) stop → OnModule P fault
file_stops P (Broken found) (Module file line why) is b =
    let same : found.fault ≡ record { line = line; why = why } = ap (λ (f : TextFault). f.fault) is in
    subst (P file) same (b file (is ∙ ap (in_file file) (sym same)))
file_stops P Memory (Module file line why) is b = absurd is
file_stops P stop NoMemory is b = tt
