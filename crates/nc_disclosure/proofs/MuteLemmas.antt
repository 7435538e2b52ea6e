-- The checks whose causes may come of what a session does not see: another session's partial lock, a denied change, a
-- violation, and what edits find.
use Rattle.std.proofs.Common.{◌≡◌, ◌++◌, ℕ, Bool, true, false, not, List, [], ◌∷◌, map, refl, sym, subst, inl, inr, Option, Some, None, Ok, arith}
use Rattle.std.specs.Prelude.{option_map, slice_get}
use Rattle.std.specs.List.{All, find}
use Rattle.std.specs.Option.{option_or, option_to_list}
use Rattle.nc_names.specs.declared.cause.CauseKind.{CauseKind}
use Rattle.nc_names.specs.declared.cause.CauseKind.TheVariants.{DataDenied, InUsePartial}
use Rattle.nc_names.specs.declared.path.Path.{Path}
use Rattle.nc_names.specs.declared.path.Right.{Right}
use Rattle.nc_names.specs.declared.path.Right.TheVariants.{Create as MayCreate, Update as MayUpdate, Delete as MayDelete}
use Rattle.nc_names.specs.declared.path.Row.{Row}
use Rattle.nc_schema.specs.Tables.{Tables}
use Rattle.nc_schema.specs.Violations.{violations}
use Rattle.nc_schema.specs.declared.violation.Violation.{Violation}
use Rattle.nc_schema.proofs.ViolationLemmas.{violation_kinds}
use Rattle.nc_protocol.specs.Applied.{applied}
use Rattle.nc_protocol.specs.Changes.{changes_between}
use Rattle.nc_protocol.specs.Edited.{cause_at, decision_names, first_cause}
use Rattle.nc_protocol.specs.Refusals.{violation_cause, violation_in}
use Rattle.nc_protocol.specs.declared.access.Decision.{Decision}
use Rattle.nc_protocol.specs.declared.asked.ErrorOption.{ErrorOption}
use Rattle.nc_protocol.specs.declared.asked.TestOption.{TestOption}
use Rattle.nc_protocol.specs.declared.asked.TestOption.TheVariants.{TestThenSet, Set, TestOnly}
use Rattle.nc_protocol.specs.declared.changes.Changes.{Changes}
use Rattle.nc_protocol.specs.declared.edit.Edit.{Edit}
use Rattle.nc_protocol.specs.declared.request.Cause.{Cause}
use Rattle.nc_protocol.proofs.ListLemmas.{all_append, all_one}
use Rattle.nc_model.specs.Access.{rights_of}
use Rattle.nc_model.specs.Alike.{is_of_unseen}
use Rattle.nc_model.specs.State.{State, NodeLock, candidate_in_force}
use Rattle.nc_model.specs.Verdict.{causes_of_test, changes_denied, covers_path, denied_among, done_where, edit_verdict, in_use_at, in_use_partial, kept_unless, lock_of_other, partial_lock_cause, unless_denied, validated}
use Rattle.nc_model.proofs.KindLemmas.{applied_causes}
use Rattle.nc_disclosure.proofs.AgreeLemmas.{IsMute, IsMuted, IsUnseen, checked_muted, done_checked, unless_muted}

-- ---- partial locks of other sessions
pub partial_mute : (kind : CauseKind) → is_of_unseen kind ≡ true → (lock : Option NodeLock) → IsMute (option_map (partial_lock_cause kind) lock)
partial_mute kind is None = tt
partial_mute kind is (Some lock) = is

one_more : (found : Option Cause) (more : List (Option Cause)) → IsMute found → IsMute (first_cause more) → IsMute (first_cause (found ∷ more))
one_more None more mute rest = rest
one_more (Some cause) more mute rest = mute

paths_mute : (s : State) (n : ℕ) (paths : List Path) → IsMute (first_cause (map (in_use_at s n) paths))
paths_mute s n [] = tt
paths_mute s n (path ∷ paths) =
    one_more (in_use_at s n path) (map (in_use_at s n) paths) (partial_mute InUsePartial refl (lock_of_other s n (covers_path path)))
    (paths_mute s n paths)

pub in_use_mute : (s : State) (n : ℕ) (changes : Changes) → IsMute (in_use_partial s n changes)
in_use_mute s n changes = paths_mute s n (changes.deleted ++ changes.updated ++ changes.created)

-- ---- denied changes
denied_mute : (rights : Path → Right → Decision) (right : Right) (paths : List Path) → IsMute (denied_among rights right paths)
denied_mute rights right paths = by (find (λ path. not (rights path right).permit) paths)
  where
    by : (found : Option Path) → IsMute (option_map (λ path. cause_at DataDenied path (decision_names right (rights path right).by)) found)
    by None = tt
    by (Some path) = refl

or_mute : (found other : Option Cause) → IsMute found → IsMute other → IsMute (option_or found other)
or_mute None other mute also = also
or_mute (Some cause) other mute also = mute

pub changes_mute : (rights : Path → Right → Decision) (changes : Changes) → IsMute (changes_denied rights changes)
changes_mute rights changes =
    let updates = denied_among rights MayUpdate changes.updated in
    let creates = denied_among rights MayCreate changes.created in
    or_mute (denied_among rights MayDelete changes.deleted) (option_or updates creates) (denied_mute rights MayDelete changes.deleted)
    (or_mute updates creates (denied_mute rights MayUpdate changes.updated) (denied_mute rights MayCreate changes.created))

pub copied_muted : (s : State) (n : ℕ) (rows : List Row) → IsMuted (done_where (unless_denied s n (Ok rows)))
copied_muted s n rows =
    let denied = changes_denied (rights_of s n) (changes_between s.schema (candidate_in_force s) rows) in
    subst IsMuted (sym (done_checked denied (Ok rows)))
    (checked_muted denied (changes_mute (rights_of s n) (changes_between s.schema (candidate_in_force s) rows)))

-- ---- violations
pub violation_mute : (tables : Tables) (rows : List Row) → IsMute (violation_in tables rows)
violation_mute tables rows =
    by (violations tables rows)
    (violation_kinds (λ kind. is_of_unseen kind ≡ true) refl refl refl refl refl refl refl tables rows)
  where
    by : (found : List Violation) → All (λ violation. is_of_unseen violation.kind ≡ true) found →
        IsMute (option_map violation_cause (slice_get found 0))
    by [] each = tt
    by (violation ∷ more) each = each 0 violation (omega arith)

pub valid_muted : (tables : Tables) (rows : List Row) → IsMuted (validated tables (Ok rows))
valid_muted tables rows = checked_muted (violation_in tables rows) (violation_mute tables rows)

-- ---- edits
none_unseen : All IsUnseen []
none_unseen k d within = absurd (omega (arith, within))

listed_unseen : (found : Option Cause) → IsMute found → All IsUnseen (option_to_list found)
listed_unseen None mute = none_unseen
listed_unseen (Some cause) mute = all_one IsUnseen cause mute

tested_unseen : (tables : Tables) (test : TestOption) (rows : List Row) → All IsUnseen (causes_of_test tables test rows)
tested_unseen tables Set rows = none_unseen
tested_unseen tables TestThenSet rows = listed_unseen (violation_in tables rows) (violation_mute tables rows)
tested_unseen tables TestOnly rows = listed_unseen (violation_in tables rows) (violation_mute tables rows)

edits_unseen : (s : State) (n : ℕ) (on_error : ErrorOption) (edits : List Edit) →
    All IsUnseen (applied s.schema (rights_of s n) on_error (candidate_in_force s) edits).causes
edits_unseen s n on_error edits =
    applied_causes IsUnseen s.schema (rights_of s n) (λ path. refl) (λ path. refl) (λ path right. refl) on_error
    (candidate_in_force s) edits (λ k edit within. refl)

pub edits_muted : (s : State) (n : ℕ) (test : TestOption) (on_error : ErrorOption) (edits : List Edit) →
    IsMuted (edit_verdict s.schema test (Ok (applied s.schema (rights_of s n) on_error (candidate_in_force s) edits)))
edits_muted s n test on_error edits =
    let made = applied s.schema (rights_of s n) on_error (candidate_in_force s) edits in
    unless_muted (made.causes ++ causes_of_test s.schema test made.rows)
    (all_append IsUnseen made.causes (causes_of_test s.schema test made.rows) (edits_unseen s n on_error edits)
    (tested_unseen s.schema test made.rows))

-- ---- the disk
pub kept_muted : (failed : Bool) → IsMuted (kept_unless failed)
kept_muted true = inr refl
kept_muted false = inl refl
