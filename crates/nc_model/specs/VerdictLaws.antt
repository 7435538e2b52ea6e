-- What follows of verdicts.
use Rattle.std.specs.Prelude.{◌≡◌, ◌≢◌, ◌⊎◌, ℕ, Bool, true, false, List, [], length, Some, slice_get}
use Rattle.nc_names.specs.declared.cause.CauseKind.{CauseKind}
use Rattle.nc_names.specs.declared.cause.CauseKind.TheVariants.{ExecDenied, DataDenied}
use Rattle.nc_schema.specs.Proper.{IsProperSchema}
use Rattle.nc_protocol.specs.Proper.{IsProper}
use Rattle.nc_protocol.specs.RequestLaws.{CausesAre, IsWhole}
use Rattle.nc_protocol.specs.Words.{rule_word}
use Rattle.nc_protocol.specs.declared.request.Cause.{Cause}
use Rattle.nc_protocol.specs.declared.request.Request.{Request}
use Rattle.nc_protocol.specs.declared.verdict.Verdict.{Verdict}
use Rattle.nc_protocol.specs.declared.verdict.Verdict.TheVariants.{Refused}
use Rattle.nc_model.specs.State.{State}
use Rattle.nc_model.specs.Verdict.{verdict}

-- an access was denied (RFC 8341 3.4.4, 3.4.5)
abbrev pub is_denial : CauseKind → Bool
is_denial ExecDenied = true
is_denial DataDenied = true
is_denial kind = false

-- the names say what denied it: a default, by two names, or a rule of a rule-list, by three
abbrev pub NamesDecision : List (List ℕ) → Type 0
NamesDecision names = (length names ≡ 2) ⊎ ((length names ≡ 3) × (slice_get names 0 ≡ Some rule_word))

-- so it is with each cause that an access was denied
abbrev pub IsDecided : Cause → Type 0
IsDecided cause = is_denial cause.kind ≡ true → NamesDecision cause.names

-- a verdict has what its reply needs: a cause where it refuses; the names of each cause, and a path where it is about a
-- data node; and what denied an access
pub record IsWholeVerdict (decided : Verdict) : Type 0 where
  pub some : decided ≢ Refused []
  pub causes : CausesAre IsWhole decided
  pub denials : CausesAre IsDecided decided

-- the verdict on a proper request is such
abbrev pub VerdictIsWhole : Type 0
VerdictIsWhole =
    (s : State) (session : ℕ) (request : Request) (failed : Bool) → IsProperSchema s.schema → IsProper request →
    IsWholeVerdict (verdict s session request failed)
