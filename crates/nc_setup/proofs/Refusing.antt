-- What is found refuses what the folder holds.
use Rattle.std.proofs.Common.{◌≡◌, ◌<◌, ◌+◌, ℕ, List, length, refl, subst}
use Rattle.std.specs.Prelude.{Err, IsSomeAnd, MatchOption, MatchResult, None, Ok, Option, Result, Some, slice_get}
use Rattle.std.specs.List.{All}
use Rattle.std.proofs.lemmas.Option.{slice_get_within}
use Rattle.nc_protocol.specs.declared.request.Cause.{Cause}
use Rattle.nc_schema.specs.Tables.{Tables}
use Rattle.nc_yang_leafs.specs.Patterns.{Refusals}
use Rattle.nc_yang.specs.Features.{IsFirstUnknown, NamesFeature}
use Rattle.nc_yang.specs.Schemas.{GivesNone, IsCompiled}
use Rattle.nc_yang.specs.declared.texts.Compilation.{Compilation}
use Rattle.nc_yang_statements.specs.declared.fault.ModuleWhy.{ModuleWhy}
use Rattle.nc_setup.specs.Initial.{IsRefusedFor, IsUnread}
use Rattle.nc_setup.specs.Setup.{HasSchema, IsRefused}
use Rattle.nc_setup.specs.inner.Checks.{TellsCause, TellsModule}
use Rattle.nc_setup.specs.declared.fault.SetupFault.{SetupFault}
use Rattle.nc_setup.specs.declared.fault.SetupFault.TheVariants.{Module, Feature, Unread, Invalid, Memory}
use Rattle.nc_setup.specs.declared.folder.Contents.{Contents}

pub module_refuses : (contents : Contents) (refusals : Refusals) (number line : ℕ) (why : ModuleWhy) (fault : SetupFault)
    → GivesNone contents.modules contents.features refusals number (record { line = line; why = why })
    → TellsModule contents.modules number line why fault → IsRefused contents refusals fault
module_refuses contents refusals number line why (Module file at what) breaks (name, line_is, why_is) =
    let same : record { line = line; why = why } ≡ record { line = at; why = what } = cc (line_is, why_is) in
    (number, name, subst (GivesNone contents.modules contents.features refusals number) same breaks)
module_refuses contents refusals number line why (Feature at) breaks tells = absurd tells
module_refuses contents refusals number line why (Unread at) breaks tells = absurd tells
module_refuses contents refusals number line why (Invalid kind path) breaks tells = absurd tells
module_refuses contents refusals number line why Memory breaks tells = tt

-- the first line that names no feature of the modules, where these define a schema
module _ (contents : Contents) (made : Compilation) (compiled : IsCompiled contents.modules contents.features made) where
  abbrev IsLine : Option ℕ → Type 0
  IsLine o = MatchOption o (All (NamesFeature contents.modules) contents.features) (IsFirstUnknown contents.modules contents.features)

  pub known_has : made.unknown ≡ None → HasSchema contents made.schema
  known_has none = record { defines = compiled.defines; features = subst IsLine none compiled.unknown }

  pub unknown_refuses : (refusals : Refusals) (place line : ℕ) → made.unknown ≡ Some place → line ≡ place + 1 → IsRefused contents refusals (Feature line)
  unknown_refuses refusals place line some line_is = (made.schema, compiled.defines, place, subst IsLine some compiled.unknown, line_is)

  pub unknown_within : (place : ℕ) → made.unknown ≡ Some place → place < length contents.features
  unknown_within place some = by (slice_get contents.features place) refl first.unknown
    where
      first : IsFirstUnknown contents.modules contents.features place
      first = subst IsLine some compiled.unknown

      by : (o : Option (List ℕ)) → slice_get contents.features place ≡ o → IsSomeAnd o (λ line. NamesFeature contents.modules line → ⊥) → place < length contents.features
      by None there h = absurd h
      by (Some line) there h = slice_get_within contents.features place line there

-- whatever a maker has refused
pub with_refusals : (contents : Contents) (refusals : Refusals) (result : Result Tables SetupFault)
    → MatchResult result (HasSchema contents) (λ fault. (given : Refusals) → IsRefused contents given fault) → MatchResult result (HasSchema contents) (IsRefused contents refusals)
with_refusals contents refusals (Ok schema) has = has
with_refusals contents refusals (Err fault) refused = refused refusals

pub unread_refuses : (contents : Contents) (refusals : Refusals) (schema : Tables) (at : ℕ) → HasSchema contents schema
    → ((text : List ℕ) × (contents.initial ≡ Some text) × IsUnread text at) → IsRefused contents refusals (Unread at)
unread_refuses contents refusals schema at has (text, is, unread) = (schema, has, text, is, unread)

pub cause_refuses : (contents : Contents) (refusals : Refusals) (schema : Tables) (cause : Cause) (fault : SetupFault) → HasSchema contents schema
    → IsRefusedFor schema contents.initial cause → TellsCause schema cause fault → IsRefused contents refusals fault
cause_refuses contents refusals schema cause (Module file at what) has refused tells = absurd tells
cause_refuses contents refusals schema cause (Feature at) has refused tells = absurd tells
cause_refuses contents refusals schema cause (Unread at) has refused tells = absurd tells
cause_refuses contents refusals schema cause (Invalid kind path) has refused (kind_is, path_is) =
    (schema, has, cause, refused, kind_is, path_is)
cause_refuses contents refusals schema cause Memory has refused tells = tt
