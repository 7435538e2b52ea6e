-- A get or get-config shows what the session sees, and nothing else does.
use Rattle.std.proofs.Common.{◌≡◌, ◌&&◌, ◌+◌, ℕ, Bool, true, false, not, List, [], ◌∷◌, ◌++◌, refl, sym, ap, subst, ◌∙◌, Option, Some, None, Result, Ok, Err}
use Rattle.std.proofs.lemmas.List.Elements.{All-filter, filter_passes}
use Rattle.std.proofs.lemmas.Option.{same_Some}
use Rattle.std.specs.List.{All, filter, list_any}
use Rattle.std.specs.Prelude.{if◌then◌else◌}
use Rattle.nc_names.specs.declared.cause.CauseKind.TheVariants.{UnsupportedTarget}
use Rattle.nc_names.specs.declared.path.Path.{Path}
use Rattle.nc_names.specs.declared.path.Row.{Row}
use Rattle.nc_message.specs.declared.tree.Elem.{Elem}
use Rattle.nc_protocol.specs.Applied.{Applied}
use Rattle.nc_protocol.specs.Asking.{plain_cause}
use Rattle.nc_protocol.specs.Edited.{cause_where}
use Rattle.nc_protocol.specs.Filter.{chosen, comes_with}
use Rattle.nc_protocol.specs.Refusals.{checked, datastore_name, done_unless, violation_in}
use Rattle.nc_protocol.specs.declared.asked.Asked.{Asked}
use Rattle.nc_protocol.specs.declared.asked.Asked.TheVariants.{Get, GetConfig, EditConfig, CopyConfig, DeleteConfig, Lock, Unlock, CloseSession, KillSession, Commit, DiscardChanges, CancelCommit, Validate, PartialLock, PartialUnlock}
use Rattle.nc_protocol.specs.declared.asked.Operation.{Operation}
use Rattle.nc_protocol.specs.declared.asked.TestOption.{TestOption}
use Rattle.nc_protocol.specs.declared.datastore.Datastore.{Datastore}
use Rattle.nc_protocol.specs.declared.datastore.Datastore.TheVariants.{Running, Candidate}
use Rattle.nc_protocol.specs.declared.request.Cause.{Cause}
use Rattle.nc_protocol.specs.declared.request.Request.{Request}
use Rattle.nc_protocol.specs.declared.verdict.Verdict.{Verdict}
use Rattle.nc_protocol.specs.declared.verdict.Verdict.TheVariants.{Done, Selected, Locked, Refused}
use Rattle.nc_model.specs.Access.{sees_of, visible}
use Rattle.nc_model.specs.State.{State}
use Rattle.nc_model.specs.Verdict.{asked_verdict, cancel_refusal, causes_of_test, commit_refusal, copied, done_where, edit_verdict, edits_made, filtered, in_use, is_source, kept_unless, kill_refusal, lock_refusal, nodes_selected, operation_refused, partial_lock_refusal, partial_unlock_refusal, rows_to_validate, stored, unlock_refusal, unsupported, validated, verdict, verdict_on}
use Rattle.nc_model.proofs.LockedLemmas.{locked_is_seen}
use Rattle.nc_disclosure.specs.Laws.{ReadsShowSeen}
use Rattle.nc_disclosure.specs.Shown.{AreSeenIn, Look, look_of, shown_to}

-- ---- what is shown
-- one filter after another is one filter
filter_twice : {X : Type 0} (p q : X → Bool) (xs : List X) → filter p (filter q xs) ≡ filter (λ x. q x && p x) xs
filter_twice p q [] = refl
filter_twice {X} p q (x ∷ xs) = by (q x) (filter_twice p q xs)
  where
    by : (b : Bool) → filter p (filter q xs) ≡ filter (λ y. q y && p y) xs →
        filter p (if b then x ∷ filter q xs else filter q xs) ≡ (if b && p x then x ∷ filter (λ y. q y && p y) xs else filter (λ y. q y && p y) xs)
    by true same = ap (λ (ys : List X). if p x then x ∷ ys else ys) same
    by false same = same

module _ (s : State) (n : ℕ) where
  abbrev sees_row : Row → Bool
  sees_row row = sees_of s n row.path

  abbrev kept : Elem → List Row → Row → Bool
  kept elem rows row = list_any (λ other. comes_with s.schema other row) (chosen s.schema elem (visible s n rows))

  visible_seen : (rows : List Row) → All (λ (row : Row). sees_of s n row.path ≡ true) (visible s n rows)
  visible_seen rows = filter_passes sees_row rows

  kept_are_seen : (store : Datastore) (through : Option Elem) → AreSeenIn s n store (filtered s.schema through (visible s n (stored s store)))
  kept_are_seen store None = record { keeps = sees_row; are = refl; seen = visible_seen (stored s store) }
  kept_are_seen store (Some elem) = record {
    keeps = λ row. sees_row row && kept elem (stored s store) row;
    are = filter_twice (kept elem (stored s store)) sees_row (stored s store);
    seen = All-filter (kept elem (stored s store)) (λ (row : Row). sees_of s n row.path ≡ true) (visible s n (stored s store)) (visible_seen (stored s store));
  }

  pub shown_are_seen : (look : Look) → AreSeenIn s n look.store (shown_to s n look)
  shown_are_seen look = kept_are_seen look.store look.through

  -- ---- the verdicts that have rows or nodes
  -- rows are those of a read, and nodes those of a partial lock, which the session sees
  abbrev pub Gives : Asked → Verdict → Type 0
  Gives asked (Selected rows) = (look : Look) × (look_of asked ≡ Some look) × (rows ≡ shown_to s n look)
  Gives asked (Locked lock nodes) = All (λ (path : Path). sees_of s n path ≡ true) nodes
  Gives asked decided = Unit {0}

  checked_gives : (asked : Asked) (found : Option Cause) (decided : Verdict) → Gives asked decided → Gives asked (checked found decided)
  checked_gives asked None decided gives = gives
  checked_gives asked (Some cause) decided gives = tt

  unless_gives : (asked : Asked) (causes : List Cause) → Gives asked (done_unless causes)
  unless_gives asked [] = tt
  unless_gives asked (cause ∷ causes) = tt

  edit_gives : (asked : Asked) (test : TestOption) (made : Result Applied Cause) → Gives asked (edit_verdict s.schema test made)
  edit_gives asked test (Err cause) = tt
  edit_gives asked test (Ok made) = unless_gives asked (made.causes ++ causes_of_test s.schema test made.rows)

  done_gives : (asked : Asked) (result : Result (List Row) Cause) → Gives asked (done_where result)
  done_gives asked (Ok rows) = tt
  done_gives asked (Err cause) = tt

  kept_gives : (asked : Asked) (failed : Bool) → Gives asked (kept_unless failed)
  kept_gives asked true = tt
  kept_gives asked false = tt

  validated_gives : (asked : Asked) (result : Result (List Row) Cause) → Gives asked (validated s.schema result)
  validated_gives asked (Err cause) = tt
  validated_gives asked (Ok rows) = checked_gives asked (violation_in s.schema rows) Done tt

  pub asked_gives : (asked : Asked) (failed : Bool) → Gives asked (asked_verdict s n asked failed)
  asked_gives (Get through) failed = (record { store = Running; through = through }, refl, refl)
  asked_gives (GetConfig source through) failed =
      let look : Look = record { store = source; through = through } in
      checked_gives (GetConfig source through) (unsupported is_source source) (Selected (shown_to s n look)) (look, refl, refl)
  asked_gives (EditConfig target default_operation test on_error config) failed =
      edit_gives (EditConfig target default_operation test on_error config) test (edits_made s n target default_operation on_error config)
  asked_gives (CopyConfig target source) failed = done_gives (CopyConfig target source) (copied s n target source)
  asked_gives (DeleteConfig target) failed = tt
  asked_gives (Lock target) failed = checked_gives (Lock target) (lock_refusal s n target) Done tt
  asked_gives (Unlock target) failed = checked_gives (Unlock target) (unlock_refusal s n target) Done tt
  asked_gives CloseSession failed = tt
  asked_gives (KillSession number) failed = checked_gives (KillSession number) (kill_refusal s n number) Done tt
  asked_gives (Commit confirmed timeout persist persist_id) failed =
      let asked = Commit confirmed timeout persist persist_id in
      checked_gives asked (commit_refusal s n persist_id) (kept_unless (not confirmed && failed)) (kept_gives asked (not confirmed && failed))
  asked_gives DiscardChanges failed = checked_gives DiscardChanges (in_use s n Candidate) Done tt
  asked_gives (CancelCommit persist_id) failed = checked_gives (CancelCommit persist_id) (cancel_refusal s n persist_id) Done tt
  asked_gives (Validate source) failed = validated_gives (Validate source) (rows_to_validate s source)
  asked_gives (PartialLock selects) failed =
      checked_gives (PartialLock selects) (partial_lock_refusal s n selects) (Locked (s.last_lock + 1) (nodes_selected s n selects))
      (locked_is_seen s n selects)
  asked_gives (PartialUnlock id) failed = checked_gives (PartialUnlock id) (partial_unlock_refusal s n id) Done tt

  -- so it is with what is read of a request
  abbrev pub GivesOf : Result Asked Cause → Verdict → Type 0
  GivesOf (Ok asked) (Selected rows) = (look : Look) × (look_of asked ≡ Some look) × (rows ≡ shown_to s n look)
  GivesOf (Err cause) (Selected rows) = ⊥
  GivesOf asked (Locked lock nodes) = All (λ (path : Path). sees_of s n path ≡ true) nodes
  GivesOf asked decided = Unit {0}

  of_asked : (asked : Asked) (decided : Verdict) → Gives asked decided → GivesOf (Ok asked) decided
  of_asked asked Done gives = tt
  of_asked asked (Selected rows) gives = gives
  of_asked asked (Locked lock nodes) gives = gives
  of_asked asked (Refused causes) gives = tt

  pub verdict_gives : (operation : Option Operation) (asked : Result Asked Cause) (failed : Bool) →
      GivesOf asked (checked (operation_refused s n operation) (verdict_on s n asked failed))
  verdict_gives operation asked failed = by (operation_refused s n operation) asked
    where
      by : (found : Option Cause) (asked : Result Asked Cause) → GivesOf asked (checked found (verdict_on s n asked failed))
      by None (Err cause) = tt
      by None (Ok asked) = of_asked asked (asked_verdict s n asked failed) (asked_gives asked failed)
      by (Some refused) (Err cause) = tt
      by (Some refused) (Ok asked) = tt

  -- ---- a read that is not refused
  read_shows : (asked : Asked) (failed : Bool) (look : Look) → look_of asked ≡ Some look → is_source look.store ≡ true →
      asked_verdict s n asked failed ≡ Selected (shown_to s n look)
  read_shows (Get through) failed look e offered = ap (λ (it : Look). Selected (shown_to s n it)) (same_Some (record { store = Running; through = through }) look e)
  read_shows (GetConfig source through) failed look e offered =
      let same = same_Some (record { store = source; through = through }) look e in
      let offers : is_source source ≡ true = ap (λ (it : Look). is_source it.store) same ∙ offered in
      by (is_source source) offers ∙ ap (λ (it : Look). Selected (shown_to s n it)) same
    where
      rows : List Row
      rows = shown_to s n (record { store = source; through = through })

      by : (b : Bool) → b ≡ true → checked (cause_where (not b) (plain_cause UnsupportedTarget (datastore_name source ∷ []))) (Selected rows) ≡ Selected rows
      by true is = refl
      by false is = cc
  read_shows (EditConfig target default_operation test on_error config) failed look e offered = cc
  read_shows (CopyConfig target source) failed look e offered = cc
  read_shows (DeleteConfig target) failed look e offered = cc
  read_shows (Lock target) failed look e offered = cc
  read_shows (Unlock target) failed look e offered = cc
  read_shows CloseSession failed look e offered = cc
  read_shows (KillSession number) failed look e offered = cc
  read_shows (Commit confirmed timeout persist persist_id) failed look e offered = cc
  read_shows DiscardChanges failed look e offered = cc
  read_shows (CancelCommit persist_id) failed look e offered = cc
  read_shows (Validate source) failed look e offered = cc
  read_shows (PartialLock selects) failed look e offered = cc
  read_shows (PartialUnlock lock) failed look e offered = cc

  request_shows : (request : Request) (failed : Bool) (asked : Asked) (look : Look) → request.asked ≡ Ok asked → look_of asked ≡ Some look →
      is_source look.store ≡ true → operation_refused s n request.operation ≡ None → verdict s n request failed ≡ Selected (shown_to s n look)
  request_shows request failed asked look is reads offered permitted =
      ap (λ (found : Option Cause). checked found (verdict_on s n request.asked failed)) permitted
      ∙ ap (λ (it : Result Asked Cause). verdict_on s n it failed) is
      ∙ read_shows asked failed look reads offered

  -- ---- and no other verdict has rows
  abbrev IsShown : Result Asked Cause → List Row → Type 0
  IsShown read rows = (asked : Asked) × (look : Look) × (read ≡ Ok asked) × (look_of asked ≡ Some look)
      × (rows ≡ shown_to s n look) × AreSeenIn s n look.store rows

  given_is_shown : (read : Result Asked Cause) (rows : List Row) → GivesOf read (Selected rows) → IsShown read rows
  given_is_shown (Err cause) rows gives = absurd gives
  given_is_shown (Ok asked) rows gives =
      (asked, gives.0, refl, gives.1, gives.2, subst (λ (it : List Row). AreSeenIn s n gives.0.store it) (sym gives.2) (shown_are_seen gives.0))

  rows_are_shown : (request : Request) (failed : Bool) (rows : List Row) → verdict s n request failed ≡ Selected rows → IsShown request.asked rows
  rows_are_shown request failed rows is =
      given_is_shown request.asked rows
      (subst (λ (decided : Verdict). GivesOf request.asked decided) is (verdict_gives request.operation request.asked failed))

pub reads_show_seen : ReadsShowSeen
reads_show_seen = record {
  shown = λ s session request failed asked look. request_shows s session request failed asked look;
  alone = λ s session request failed rows. rows_are_shown s session request failed rows;
}
