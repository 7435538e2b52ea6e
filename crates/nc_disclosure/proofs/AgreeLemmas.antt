-- Verdicts that agree: they are equal, or one of them has a cause that may come of what a session does not see.
use Rattle.std.proofs.Common.{◌≡◌, ◌⊎◌, ◌||◌, Bool, true, false, List, [], ◌∷◌, refl, sym, ap, subst, ◌∙◌, inl, inr, Option, Some, None, Result, arith}
use Rattle.std.specs.Prelude.{IfSome}
use Rattle.std.specs.List.{All, list_any}
use Rattle.nc_schema.specs.Tables.{Tables}
use Rattle.nc_names.specs.declared.path.Row.{Row}
use Rattle.nc_protocol.specs.Applied.{Applied}
use Rattle.nc_protocol.specs.Edited.{first_cause}
use Rattle.nc_protocol.specs.Refusals.{checked, done_unless, result_unless}
use Rattle.nc_protocol.specs.declared.asked.TestOption.{TestOption}
use Rattle.nc_protocol.specs.declared.request.Cause.{Cause}
use Rattle.nc_protocol.specs.declared.verdict.Verdict.{Verdict}
use Rattle.nc_protocol.specs.declared.verdict.Verdict.TheVariants.{Done, Refused}
use Rattle.nc_model.specs.Alike.{has_unseen, is_of_unseen}
use Rattle.nc_model.specs.Verdict.{done_where, edit_verdict, validated}

-- a cause that may come of what is not seen
abbrev pub IsUnseen : Cause → Type 0
IsUnseen cause = is_of_unseen cause.kind ≡ true

abbrev pub Agree : Verdict → Verdict → Type 0
Agree decided other = (decided ≡ other) ⊎ ((has_unseen decided ≡ true) ⊎ (has_unseen other ≡ true))

-- a check that passes, or fails for such a cause
abbrev pub IsMute : Option Cause → Type 0
IsMute found = IfSome found IsUnseen

-- two checks that fail for one cause, or not at all, or are both such
abbrev pub Match : Option Cause → Option Cause → Type 0
Match found other = (found ≡ other) ⊎ (IsMute found × IsMute other)

abbrev pub AllMatch : List (Option Cause) → List (Option Cause) → Type 0
AllMatch [] [] = Unit {0}
AllMatch (found ∷ more) (other ∷ others) = Match found other × AllMatch more others
AllMatch checks others = ⊥

-- a verdict that is done, or has such a cause
abbrev pub IsMuted : Verdict → Type 0
IsMuted decided = (decided ≡ Done) ⊎ (has_unseen decided ≡ true)

refused_unseen : (cause : Cause) → IsUnseen cause → has_unseen (Refused (cause ∷ [])) ≡ true
refused_unseen cause is = ap (λ (b : Bool). b || false) is

-- ---- one check, and several
pub one_agree : (found other : Option Cause) → Match found other → (decided beside : Verdict) → Agree decided beside →
    Agree (checked found decided) (checked other beside)
one_agree None None match decided beside agree = agree
one_agree (Some cause) (Some other) (inl e) decided beside agree = inl (ap (λ (found : Option Cause). checked found decided) e)
one_agree (Some cause) (Some other) (inr mute) decided beside agree = inr (inl (refused_unseen cause mute.0))
one_agree None (Some other) (inl e) decided beside agree = cc
one_agree None (Some other) (inr mute) decided beside agree = inr (inr (refused_unseen other mute.1))
one_agree (Some cause) None (inl e) decided beside agree = cc
one_agree (Some cause) None (inr mute) decided beside agree = inr (inl (refused_unseen cause mute.0))

first_checked : (found : Option Cause) (more : List (Option Cause)) (decided : Verdict) →
    checked (first_cause (found ∷ more)) decided ≡ checked found (checked (first_cause more) decided)
first_checked None more decided = refl
first_checked (Some cause) more decided = refl

pub agree_by : (decided same beside other : Verdict) → decided ≡ same → beside ≡ other → Agree same other → Agree decided beside
agree_by decided same beside other e f agree =
    subst (λ (it : Verdict). Agree it beside) (sym e) (subst (λ (it : Verdict). Agree same it) (sym f) agree)

pub first_agree : (checks others : List (Option Cause)) → AllMatch checks others → (decided beside : Verdict) → Agree decided beside →
    Agree (checked (first_cause checks) decided) (checked (first_cause others) beside)
first_agree [] [] match decided beside agree = agree
first_agree [] (other ∷ others) match decided beside agree = absurd match
first_agree (found ∷ more) [] match decided beside agree = absurd match
first_agree (found ∷ more) (other ∷ others) match decided beside agree =
    agree_by (checked (first_cause (found ∷ more)) decided) (checked found (checked (first_cause more) decided))
    (checked (first_cause (other ∷ others)) beside) (checked other (checked (first_cause others) beside))
    (first_checked found more decided) (first_checked other others beside)
    (one_agree found other match.0 (checked (first_cause more) decided) (checked (first_cause others) beside)
    (first_agree more others match.1 decided beside agree))

-- ---- what is done, or has such a cause
pub muted_agree : (decided beside : Verdict) → IsMuted decided → IsMuted beside → Agree decided beside
muted_agree decided beside (inl e) (inl f) = inl (e ∙ sym f)
muted_agree decided beside (inl e) (inr unseen) = inr (inr unseen)
muted_agree decided beside (inr unseen) muted = inr (inl unseen)

pub checked_muted : (found : Option Cause) → IsMute found → IsMuted (checked found Done)
checked_muted None mute = inl refl
checked_muted (Some cause) mute = inr (refused_unseen cause mute)

pub unless_muted : (causes : List Cause) → All IsUnseen causes → IsMuted (done_unless causes)
unless_muted [] each = inl refl
unless_muted (cause ∷ causes) each =
    inr (ap (λ (b : Bool). b || list_any (λ (it : Cause). is_of_unseen it.kind) causes) (each 0 cause (omega arith)))

-- ---- results that a check comes before
pub edit_checked : (tables : Tables) (test : TestOption) (found : Option Cause) (made : Result Applied Cause) →
    edit_verdict tables test (result_unless found made) ≡ checked found (edit_verdict tables test made)
edit_checked tables test None made = refl
edit_checked tables test (Some cause) made = refl

pub done_checked : (found : Option Cause) (result : Result (List Row) Cause) →
    done_where (result_unless found result) ≡ checked found (done_where result)
done_checked None result = refl
done_checked (Some cause) result = refl

pub validated_checked : (tables : Tables) (found : Option Cause) (result : Result (List Row) Cause) →
    validated tables (result_unless found result) ≡ checked found (validated tables result)
validated_checked tables None result = refl
validated_checked tables (Some cause) result = refl
