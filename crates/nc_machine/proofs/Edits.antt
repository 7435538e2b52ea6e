-- What edits come to.
use Rattle.std.proofs.Common.{◌≡◌, ◌++◌, Bool, true, false, List, refl, sym, ap, ◌∙◌, ℕ, Option, Some, None, Result, Ok, Err}
use Rattle.std.specs.Option.{option_to_list}
use Rattle.std.specs.Prelude.{cond, is_some, IfOk}
use Rattle.nc_names.specs.declared.memory.Memory.{Memory}
use Rattle.nc_names.specs.declared.path.Row.{Row}
use Rattle.nc_schema.specs.Tables.{Tables}
use Rattle.nc_protocol.specs.declared.asked.TestOption.{TestOption}
use Rattle.nc_protocol.specs.declared.asked.TestOption.TheVariants.{TestThenSet, Set, TestOnly}
use Rattle.nc_protocol.specs.declared.asked.ErrorOption.{ErrorOption}
use Rattle.nc_protocol.specs.declared.datastore.Datastore.{Datastore}
use Rattle.nc_protocol.specs.declared.edit.Edit.{Edit}
use Rattle.nc_protocol.specs.declared.request.Cause.{Cause}
use Rattle.nc_protocol.specs.Applied.{Applied, applied}
use Rattle.nc_protocol.specs.Edited.{first_cause}
use Rattle.nc_protocol.specs.Unchecked.{every_right}
use Rattle.nc_model.specs.Access.{access_policy, peer_of, rights_of}
use Rattle.nc_model.specs.Decision.{data_decision}
use Rattle.nc_model.specs.Sight.{Viewer, is_open}
use Rattle.nc_model.specs.State.{State, candidate_in_force}
use Rattle.nc_model.specs.Verdict.{causes_of_test, edit_checks, made_by, rows_set}
use Rattle.nc_protocol.specs.Refusals.{done_unless, result_unless, violation_in}
use Rattle.nc_model.proofs.OpenLemmas.{nothing_is_denied}
use Rattle.nc_courses.specs.declared.course.Change.{Change}
use Rattle.nc_courses.specs.declared.course.Course.{Course}
use Rattle.nc_courses.specs.declared.course.Course.TheVariants.{Answer}
use Rattle.nc_courses.specs.inner.Courses.{change_by, changed_to, edit_course, refused_course, unedited, violation_by}
use Rattle.nc_courses.specs.inner.Governing.{viewer_of}
use Rattle.nc_machine.proofs.Checks.{edits_checked}
use Rattle.nc_machine.proofs.Freely.{freely}

causes_are : (tables : Tables) (test : TestOption) (rows : List Row) →
    option_to_list (violation_by tables test rows) ≡ causes_of_test tables test rows
causes_are tables Set rows = refl
causes_are tables TestThenSet rows = refl
causes_are tables TestOnly rows = refl

change_is : (tables : Tables) (test : TestOption) (rows : List Row) (causes : List Cause) →
    change_by test (is_some (violation_by tables test rows)) rows
    ≡ changed_to (rows_set tables test (Ok (record { rows = rows; causes = causes })))
change_is tables Set rows causes = refl
change_is tables TestOnly rows causes = refl
change_is tables TestThenSet rows causes = by (is_some (violation_in tables rows))
  where
    by : (violated : Bool) → change_by TestThenSet violated rows ≡ changed_to (cond violated None (Some rows))
    by true = refl
    by false = refl

pub edit_course_is : (tables : Tables) (test : TestOption) (rows : List Row) (causes : List Cause)
    (violation : Option Cause) (is_violated : Bool) → violation ≡ violation_by tables test rows → is_violated ≡ is_some violation →
    Answer (done_unless (causes ++ option_to_list violation)) (change_by test is_violated rows)
    ≡ edit_course tables test (Ok (record { rows = rows; causes = causes }))
unfolding edit_course
edit_course_is tables test rows causes violation is_violated is was =
    ap (λ (more : List Cause). Answer (done_unless (causes ++ more)) (change_by test is_violated rows))
    (ap option_to_list is ∙ causes_are tables test rows)
    ∙ ap (λ (change : Change). Answer (done_unless (causes ++ causes_of_test tables test rows)) change)
    (ap (λ (v : Bool). change_by test v rows) (was ∙ ap is_some is) ∙ change_is tables test rows causes)

pub payload_refused : (s : State) (session : ℕ) (tables : Tables) (test : TestOption) (on_error : ErrorOption)
    (read : Result (List Edit) Cause) (cause : Cause) → Err cause ≡ read →
    refused_course cause ≡ edit_course tables test (made_by s session on_error read)
unfolding edit_course
payload_refused s session tables test on_error read cause is =
    ap (λ (r : Result (List Edit) Cause). edit_course tables test (made_by s session on_error r)) is

pub payload_read : (s : State) (session : ℕ) (test : TestOption) (on_error : ErrorOption)
    (read : Result (List Edit) Cause) (edits : List Edit) → Ok edits ≡ read →
    edit_course s.schema test (Ok (applied s.schema (rights_of s session) on_error (candidate_in_force s) edits))
    ≡ edit_course s.schema test (made_by s session on_error read)
payload_read s session test on_error read edits is =
    ap (λ (r : Result (List Edit) Cause). edit_course s.schema test (made_by s session on_error r)) is

pub edits_refused : (s : State) (session : ℕ) (tables : Tables) (test : TestOption) (target : Datastore) (made : Result Applied Cause)
    (cause : Cause) → Some cause ≡ unedited s session target →
    refused_course cause ≡ edit_course tables test (result_unless (first_cause (edit_checks s session target)) made)
unfolding edit_course
edits_refused s session tables test target made cause is =
    ap (λ (w : Option Cause). edit_course tables test (result_unless w made)) (is ∙ sym (edits_checked s session target))

pub edits_taken : (s : State) (session : ℕ) (tables : Tables) (test : TestOption) (target : Datastore) (made : Result Applied Cause) →
    None ≡ unedited s session target →
    edit_course tables test made ≡ edit_course tables test (result_unless (first_cause (edit_checks s session target)) made)
edits_taken s session tables test target made is =
    ap (λ (w : Option Cause). edit_course tables test (result_unless w made)) (is ∙ sym (edits_checked s session target))

-- edits are made by the access that is made for the session
pub made_within : (s : State) (session : ℕ) (on_error : ErrorOption) (tables : Tables) (viewer : Viewer) (before : List Row)
    (edits : List Edit) (after : Applied) → tables ≡ s.schema → viewer ≡ viewer_of s session →
    after ≡ applied tables (λ path right. data_decision viewer.tables viewer.policy viewer.peer path.steps right) on_error before edits →
    after ≡ applied s.schema (rights_of s session) on_error before edits
made_within s session on_error tables viewer before edits after by sees made =
    made ∙ (ap (λ (t : Tables). applied t (λ path right. data_decision viewer.tables viewer.policy viewer.peer path.steps right) on_error before edits) by
    ∙ ap (λ (v : Viewer). applied s.schema (λ path right. data_decision v.tables v.policy v.peer path.steps right) on_error before edits) sees)

-- or with every right, where nothing is denied to it
pub made_freely : (s : State) (session : ℕ) (on_error : ErrorOption) (tables : Tables) (before : List Row) (edits : List Edit)
    (after : Applied) → true ≡ is_open (access_policy s) (peer_of s session) → tables ≡ s.schema →
    after ≡ applied tables every_right on_error before edits →
    after ≡ applied s.schema (rights_of s session) on_error before edits
made_freely s session on_error tables before edits after open_is by made =
    made ∙ (ap (λ (t : Tables). applied t every_right on_error before edits) by
    ∙ freely s.schema (rights_of s session)
    (λ path right. nothing_is_denied.rights s.schema (access_policy s) (peer_of s session) path.steps right (sym open_is))
    on_error before edits)

abbrev left_with : List Row → List Cause → Applied
left_with rows causes = record { rows = rows; causes = causes }

pub edit_by_is : (s : State) (session : ℕ) (test : TestOption) (on_error : ErrorOption) (before : List Row) (given edits : List Edit)
    (rows draft : List Row) (causes : List Cause) (result : Result Course Memory) → before ≡ candidate_in_force s → given ≡ edits →
    record { rows = rows; causes = causes } ≡ applied s.schema (rights_of s session) on_error before given → draft ≡ rows →
    IfOk result (λ it. it ≡ edit_course s.schema test (Ok (record { rows = draft; causes = causes }))) →
    IfOk result (λ it. it ≡ edit_course s.schema test (Ok (applied s.schema (rights_of s session) on_error (candidate_in_force s) edits)))
edit_by_is s session test on_error before given edits rows draft causes (Err memory) at same made kept told = tt
edit_by_is s session test on_error before given edits rows draft causes (Ok it) at same made kept told =
    told ∙ ap (λ (left : Applied). edit_course s.schema test (Ok left))
    (ap (λ (left : List Row). left_with left causes) kept ∙ made ∙ (ap (λ (b : List Row). applied s.schema (rights_of s session) on_error b given) at
    ∙ ap (applied s.schema (rights_of s session) on_error (candidate_in_force s)) same))
