-- The first check of several that fails, as it is looked for one after another.
use Rattle.std.proofs.Common.{◌≡◌, ◌⊎◌, ◌≤◌, ◌<◌, ℕ, Bool, true, false, not, List, [], ◌∷◌, refl, sym, ap, ◌∙◌, inl, inr, Option, Some, None, Err}
use Rattle.std.specs.Prelude.{cond, nat_le, nat_lt}
use Rattle.std.specs.Option.{option_or}
use Rattle.std.proofs.lemmas.Bool.{le-ltb, lt-ltb}
use Rattle.std.proofs.lemmas.Bool.Decides.{leb_tells}
use Rattle.nc_names.specs.declared.cause.CauseKind.TheVariants.{Limit}
use Rattle.nc_names.specs.declared.path.Row.{Row}
use Rattle.nc_schema.specs.Record.{record_size}
use Rattle.nc_names.specs.Limits.{body_limit}
use Rattle.nc_protocol.specs.declared.datastore.Datastore.{Datastore}
use Rattle.nc_protocol.specs.declared.datastore.Datastore.TheVariants.{Running, Candidate}
use Rattle.nc_protocol.specs.declared.datastore.Origin.{Origin}
use Rattle.nc_protocol.specs.declared.request.Cause.{Cause}
use Rattle.nc_protocol.specs.Asking.{plain_cause}
use Rattle.nc_protocol.specs.Edited.{cause_where, first_cause}
use Rattle.nc_protocol.specs.Refusals.{result_unless, violation_in}
use Rattle.nc_model.specs.Access.{rights_of}
use Rattle.nc_model.specs.State.{State, candidate_in_force}
use Rattle.nc_model.specs.Words.{record_word}
use Rattle.nc_model.specs.Verdict.{cancel_admission, cancel_refusal, changes_denied, commit_admission, commit_changes, commit_refusal, copied, copy_checks, edit_checks, in_use, in_use_partial, is_running, is_source, is_target, lock_refusal, partly_locked, pending_of_other, record_refusal, rows_copied, unless_denied, unlock_refusal, unsupported, unsupported_origin}
use Rattle.nc_courses.specs.inner.Courses.{cancel_refused, commit_refused, held_refusal, lock_refused, modified_refusal, not_held, reversion_refusal, same_store, uncopied, unedited, unlock_refused}

first_of_two : (a b : Option Cause) → first_cause (a ∷ b ∷ []) ≡ option_or a b
first_of_two (Some cause) b = refl
first_of_two None (Some cause) = refl
first_of_two None None = refl

first_of_three : (a b c : Option Cause) → first_cause (a ∷ b ∷ c ∷ []) ≡ option_or a (option_or b c)
first_of_three (Some cause) b c = refl
first_of_three None (Some cause) c = refl
first_of_three None None (Some cause) = refl
first_of_three None None None = refl

first_of_four : (a b c d : Option Cause) → first_cause (a ∷ b ∷ c ∷ d ∷ []) ≡ option_or (option_or a (option_or b c)) d
first_of_four (Some cause) b c d = refl
first_of_four None (Some cause) c d = refl
first_of_four None None (Some cause) d = refl
first_of_four None None None (Some cause) = refl
first_of_four None None None None = refl

first_of_five : (a b c d e : Option Cause) →
    first_cause (a ∷ b ∷ c ∷ d ∷ e ∷ []) ≡ option_or a (option_or b (option_or c (option_or d e)))
first_of_five (Some cause) b c d e = refl
first_of_five None (Some cause) c d e = refl
first_of_five None None (Some cause) d e = refl
first_of_five None None None (Some cause) e = refl
first_of_five None None None None (Some cause) = refl
first_of_five None None None None None = refl

first_of_seven : (a b c d e f g : Option Cause) → first_cause (a ∷ b ∷ c ∷ d ∷ e ∷ f ∷ g ∷ [])
    ≡ option_or (option_or a (option_or b c)) (option_or (option_or d e) (option_or f g))
first_of_seven (Some cause) b c d e f g = refl
first_of_seven None (Some cause) c d e f g = refl
first_of_seven None None (Some cause) d e f g = refl
first_of_seven None None None (Some cause) e f g = refl
first_of_seven None None None None (Some cause) f g = refl
first_of_seven None None None None None (Some cause) g = refl
first_of_seven None None None None None None (Some cause) = refl
first_of_seven None None None None None None None = refl

pub edits_checked : (s : State) (session : ℕ) (target : Datastore) → first_cause (edit_checks s session target) ≡ unedited s session target
edits_checked s session target = first_of_two (unsupported is_target target) (in_use s session Candidate)

pub copy_checked : (s : State) (session : ℕ) (target : Datastore) (source : Origin) →
    first_cause (copy_checks s session target source) ≡ uncopied s session target source
copy_checked s session target source =
    first_of_four (unsupported is_target target) (unsupported_origin source) (same_store target source) (in_use s session Candidate)

pub copied_by : (s : State) (session : ℕ) (target : Datastore) (source : Origin) → None ≡ uncopied s session target source →
    unless_denied s session (rows_copied s session source) ≡ copied s session target source
copied_by s session target source is =
    ap (λ (why : Option Cause). result_unless why (unless_denied s session (rows_copied s session source)))
    (is ∙ sym (copy_checked s session target source))

pub not_copied : (s : State) (session : ℕ) (target : Datastore) (source : Origin) (cause : Cause) →
    Some cause ≡ uncopied s session target source → Err cause ≡ copied s session target source
not_copied s session target source cause is =
    ap (λ (why : Option Cause). result_unless why (unless_denied s session (rows_copied s session source)))
    (is ∙ sym (copy_checked s session target source))

pub lock_checked : (s : State) (session : ℕ) (target : Datastore) → lock_refusal s session target ≡ lock_refused s session target
lock_checked s session target =
    first_of_five (unsupported is_source target) (held_refusal s target) (modified_refusal s target)
    (cond (is_running target) (pending_of_other session s.pending) None) (cond (is_running target) (partly_locked s session) None)

pub unlock_checked : (s : State) (session : ℕ) (target : Datastore) → unlock_refusal s session target ≡ unlock_refused s session target
unlock_checked s session target = first_of_two (unsupported is_source target) (not_held s session target)

pub commit_checked : (s : State) (session : ℕ) (persist_id : Option (List ℕ)) →
    commit_refusal s session persist_id ≡ commit_refused s session persist_id
commit_checked s session persist_id =
    first_of_seven (commit_admission s session persist_id) (in_use s session Running) (in_use s session Candidate)
    (in_use_partial s session (commit_changes s)) (changes_denied (rights_of s session) (commit_changes s))
    (violation_in s.schema (candidate_in_force s)) (record_refusal s)

pub cancel_checked : (s : State) (session : ℕ) (persist_id : Option (List ℕ)) →
    cancel_refusal s session persist_id ≡ cancel_refused s session persist_id
cancel_checked s session persist_id =
    first_of_three (cancel_admission s session persist_id) (in_use s session Running) (reversion_refusal s session)

-- ---- the size of the record

over_limit : (size limit : ℕ) → nat_lt limit size ≡ not (nat_le size limit)
over_limit size limit = by (leb_tells size limit)
  where
    by : ((nat_le size limit ≡ true) × (size ≤ limit)) ⊎ ((nat_le size limit ≡ false) × (limit < size)) →
        nat_lt limit size ≡ not (nat_le size limit)
    by (inl (fits, le)) = le-ltb limit size le ∙ sym (ap not fits)
    by (inr (not_fits, lt)) = lt-ltb limit size lt ∙ sym (ap not not_fits)

record_by : (s : State) (rows : List Row) → rows ≡ candidate_in_force s →
    cause_where (not (nat_le (record_size rows) body_limit)) (plain_cause Limit (record_word ∷ [])) ≡ record_refusal s
record_by s rows is =
    ap (λ (b : Bool). cause_where b (plain_cause Limit (record_word ∷ []))) (sym (over_limit (record_size rows) body_limit))
    ∙ ap (λ (these : List Row). cause_where (nat_lt body_limit (record_size these)) (plain_cause Limit (record_word ∷ []))) is

pub record_fits : (s : State) (rows : List Row) → rows ≡ candidate_in_force s → true ≡ nat_le (record_size rows) body_limit →
    None ≡ record_refusal s
record_fits s rows is fits =
    ap (λ (b : Bool). cause_where (not b) (plain_cause Limit (record_word ∷ []))) fits ∙ record_by s rows is

pub record_is_large : (s : State) (rows : List Row) → rows ≡ candidate_in_force s → false ≡ nat_le (record_size rows) body_limit →
    Some (plain_cause Limit (record_word ∷ [])) ≡ record_refusal s
record_is_large s rows is large =
    ap (λ (b : Bool). cause_where (not b) (plain_cause Limit (record_word ∷ []))) large ∙ record_by s rows is
