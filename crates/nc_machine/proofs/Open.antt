-- A session to which nothing is denied may ask for everything, sees every row, and may change everything.
use Rattle.std.proofs.Common.{◌≡◌, ℕ, Bool, true, not, List, sym, ap, ◌∙◌, Option, None, get_or}
use Rattle.nc_names.specs.declared.cause.CauseKind.TheVariants.{ExecDenied}
use Rattle.nc_names.specs.declared.path.Right.TheVariants.{Create as MayCreate, Update as MayUpdate, Delete as MayDelete, Exec}
use Rattle.nc_names.specs.declared.path.Row.{Row}
use Rattle.nc_schema.specs.Tables.{Tables}
use Rattle.nc_protocol.specs.declared.asked.Operation.{Operation}
use Rattle.nc_protocol.specs.declared.changes.Changes.{Changes}
use Rattle.nc_protocol.specs.declared.request.Cause.{Cause}
use Rattle.nc_protocol.specs.Asking.{plain_cause}
use Rattle.nc_protocol.specs.Changes.{changes_between}
use Rattle.nc_protocol.specs.Edited.{cause_where, decision_names}
use Rattle.nc_model.specs.Access.{access_policy, called, exec_of, peer_of, rights_of, visible}
use Rattle.nc_model.specs.Decision.{data_decision}
use Rattle.nc_model.specs.Sight.{Viewer, is_open}
use Rattle.nc_model.specs.State.{State}
use Rattle.nc_model.specs.Verdict.{changes_denied, exec_denied}
use Rattle.nc_model.proofs.OpenLemmas.{nothing_is_denied}
use Rattle.nc_courses.specs.inner.Governing.{viewer_of}
use Rattle.nc_machine.proofs.Free.{none_is_denied}

pub may_ask : (s : State) (session : ℕ) (operation : Operation) → true ≡ is_open (access_policy s) (peer_of s session) →
    None ≡ exec_denied (exec_of s session operation)
may_ask s session operation open_is =
    ap (λ (permit : Bool). cause_where (not permit) (plain_cause ExecDenied (decision_names Exec (exec_of s session operation).by)))
    (sym (nothing_is_denied.operations (access_policy s) (peer_of s session) (called operation) (sym open_is)))

pub all_visible : (s : State) (session : ℕ) (rows : List Row) → true ≡ is_open (access_policy s) (peer_of s session) →
    rows ≡ visible s session rows
all_visible s session rows open_is =
    sym (nothing_is_denied.rows s.schema (access_policy s) (peer_of s session) rows (sym open_is))

pub undenied : (s : State) (session : ℕ) (changes : Changes) → true ≡ is_open (access_policy s) (peer_of s session) →
    None ≡ changes_denied (rights_of s session) changes
undenied s session changes open_is =
    let permits = nothing_is_denied.rights s.schema (access_policy s) (peer_of s session) in
    sym (none_is_denied (rights_of s session) changes (record {
      deleted = λ k d within. permits (get_or changes.deleted k d).steps MayDelete (sym open_is);
      updated = λ k d within. permits (get_or changes.updated k d).steps MayUpdate (sym open_is);
      created = λ k d within. permits (get_or changes.created k d).steps MayCreate (sym open_is);
    }))

-- what the access that is made for a session denies is what is denied to the session
pub denied_is : (s : State) (session : ℕ) (viewer : Viewer) (tables : Tables) (before after : List Row) (changes : Changes)
    (it : Option Cause) → tables ≡ s.schema → viewer ≡ viewer_of s session → changes ≡ changes_between tables before after →
    it ≡ changes_denied (λ path right. data_decision viewer.tables viewer.policy viewer.peer path.steps right) changes →
    it ≡ changes_denied (rights_of s session) (changes_between s.schema before after)
denied_is s session viewer tables before after changes it by sees are told =
    told
    ∙ (ap (λ (v : Viewer). changes_denied (λ path right. data_decision v.tables v.policy v.peer path.steps right) changes) sees
    ∙ ap (changes_denied (rights_of s session))
    (are ∙ ap (λ (t : Tables). changes_between t before after) by))
