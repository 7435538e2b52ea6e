-- What nothing stands against passes each check.
use Rattle.std.proofs.Common.{◌≡◌, ◌≢◌, ◌⊎◌, ◌<◌, ◌==◌, ◌&&◌, ◌||◌, ◌++◌, ℕ, suc, Bool, true, false, cond, not, List, [], ◌∷◌, length, refl, sym, ap, ◌∙◌, inl, inr, arith, Option, Some, None, get_or}
use Rattle.std.specs.Prelude.{IfSome, IsSome, IsSomeAnd, IsTrue, is_some, map, option_and_then, option_map}
use Rattle.std.specs.Cmp.Lexicographic.{bytes_decides}
use Rattle.std.specs.List.{All, find, list_all}
use Rattle.std.specs.Option.{option_map_or, option_or}
use Rattle.std.proofs.lemmas.Bool.{eq-eqb}
use Rattle.std.proofs.lemmas.Bool.Decides.{eqb_tells}
use Rattle.std.proofs.lemmas.List.Elements.{All-append}
use Rattle.nc_names.specs.declared.cause.CauseKind.TheVariants.{BadParameter, BadSelect, BadToken, DataDenied, InUseGlobal, InUsePartial, InUsePending, Limit, LockHeld, LockModified, LockPartial, LockPending, NoMatch, NoPending, NotHeld, NotLiveTarget}
use Rattle.nc_names.specs.declared.path.Path.{Path}
use Rattle.nc_names.specs.declared.path.Right.{Right}
use Rattle.nc_names.specs.declared.path.Right.TheVariants.{Create as MayCreate, Update as MayUpdate, Delete as MayDelete}
use Rattle.nc_names.specs.Same.{is_same_text}
use Rattle.nc_protocol.specs.declared.access.Decision.{Decision}
use Rattle.nc_protocol.specs.declared.asked.Select.{Select}
use Rattle.nc_protocol.specs.declared.changes.Changes.{Changes}
use Rattle.nc_protocol.specs.declared.datastore.Datastore.{Datastore}
use Rattle.nc_protocol.specs.declared.datastore.Datastore.TheVariants.{Running, Candidate, Startup, Url}
use Rattle.nc_protocol.specs.declared.request.Cause.{Cause}
use Rattle.nc_protocol.specs.Asking.{plain_cause}
use Rattle.nc_protocol.specs.Edited.{cause_at, cause_where, decision_names, first_cause}
use Rattle.nc_protocol.specs.Refusals.{datastore_name}
use Rattle.nc_protocol.specs.Words.{lock_id_word}
use Rattle.nc_model.specs.State.{NodeLock, Pending, State, is_held_by, is_live, last_lock_id, locks_of, locks_some, most_locks}
use Rattle.nc_model.specs.Verdict.{admission, are_selects, cancel_changes, cancel_checks, cancel_refusal, changes_denied, commit_admission, covers_path, denied_among, global_lock_cause, has_lock, holder_of, in_use, in_use_at, in_use_partial, is_none_of, kill_refusal, lock_checks, lock_of_other, lock_refusal, nodes_selected, partial_lock_cause, partial_lock_checks, partial_lock_refusal, partial_unlock_refusal, pending_cause, pending_of_other, refused_by, selected_path, unlock_checks, unlock_refusal}
use Rattle.nc_model.specs.Words.{lock_ids_word, partial_locks_word}
use Rattle.nc_model.proofs.SessionLemmas.{Nones}
use Rattle.nc_machine.specs.Laws.{AreFree, ArePartlyLockable, ArePermitted, IsAdmitted, IsFree, IsFreeNode, IsLockable, MayCommit}

-- ---- checks

-- none of the checks fails, so there is no first that does
pub none_first : (checks : List (Option Cause)) → Nones checks → first_cause checks ≡ None
none_first [] none = refl
none_first (check ∷ checks) none =
    ap (λ (c : Option Cause). first_cause (c ∷ checks)) none.0 ∙ none_first checks none.1

pub where_not : (b : Bool) (cause : Cause) → b ≡ true → cause_where (not b) cause ≡ None
where_not b cause is = ap (λ (x : Bool). cause_where (not x) cause) is

pub where_false : (b : Bool) (cause : Cause) → b ≡ false → cause_where b cause ≡ None
where_false b cause is = ap (λ (x : Bool). cause_where x cause) is

-- ---- lists
first_of : {X : Type 0} (P : X → Type 0) (x : X) (xs : List X) → All P (x ∷ xs) → P x
first_of P x xs all = all 0 x (omega arith)

rest_of : {X : Type 0} (P : X → Type 0) (x : X) (xs : List X) → All P (x ∷ xs) → All P xs
rest_of P x xs all = λ k d within. all (suc k) d (omega (arith, within))

-- what none passes is not found
not_found : {X : Type 0} (p : X → Bool) (xs : List X) → All (λ x. p x ≡ false) xs → find p xs ≡ None
not_found p [] all = refl
not_found {X} p (x ∷ xs) all =
    ap (λ (b : Bool). cond b (Some x) (find p xs)) (first_of (λ (y : X). p y ≡ false) x xs all)
    ∙ not_found p xs (rest_of (λ (y : X). p y ≡ false) x xs all)

each_holds : {X : Type 0} (p : X → Bool) (xs : List X) → All (λ x. IsTrue (p x)) xs → list_all p xs ≡ true
each_holds p [] all = refl
each_holds {X} p (x ∷ xs) all =
    ap (λ (b : Bool). b && list_all p xs) (first_of (λ (y : X). IsTrue (p y)) x xs all)
    ∙ each_holds p xs (rest_of (λ (y : X). IsTrue (p y)) x xs all)

-- ---- rights
module _ (rights : Path → Right → Decision) where
  none_denied : (right : Right) (paths : List Path) → All (λ path. IsTrue (rights path right).permit) paths →
      denied_among rights right paths ≡ None
  none_denied right paths all =
      ap (option_map (λ path. cause_at DataDenied path (decision_names right (rights path right).by)))
      (not_found (λ path. not (rights path right).permit) paths (λ k d within. ap not (all k d within)))

  pub none_is_denied : (changes : Changes) → ArePermitted rights changes → changes_denied rights changes ≡ None
  none_is_denied changes permitted =
      let denied : Right → List Path → Option Cause = denied_among rights in
      ap (λ (check : Option Cause). option_or check (option_or (denied MayUpdate changes.updated) (denied MayCreate changes.created)))
      (none_denied MayDelete changes.deleted permitted.deleted)
      ∙ (ap (λ (check : Option Cause). option_or check (denied MayCreate changes.created))
      (none_denied MayUpdate changes.updated permitted.updated)
      ∙ none_denied MayCreate changes.created permitted.created)

-- ---- locks and the pending commit
module _ (s : State) (session : ℕ) where
  held_free : (store : Datastore) (holder : Option ℕ) → IfSome holder (λ other. other ≡ session) →
      option_and_then (λ other. cause_where (not (other == session)) (global_lock_cause InUseGlobal store other)) holder ≡ None
  held_free store None free = refl
  held_free store (Some other) free =
      where_not (other == session) (global_lock_cause InUseGlobal store other) (eq-eqb other session free)

  pub store_is_free : (store : Datastore) → IsFree s session store → in_use s session store ≡ None
  store_is_free store free = held_free store (holder_of s.holders store) free

  -- each lock that passes the test is the session's own
  none_of_other : (test : NodeLock → Bool) → All (λ lock. IsTrue (test lock) → lock.session ≡ session) s.partial →
      lock_of_other s session test ≡ None
  none_of_other test own =
      not_found (λ lock. not (lock.session == session) && test lock) s.partial
      (λ k d within. by (get_or s.partial k d) (test (get_or s.partial k d)) refl (own k d within))
    where
      by : (lock : NodeLock) (passes : Bool) → test lock ≡ passes → (IsTrue (test lock) → lock.session ≡ session) →
          (not (lock.session == session) && test lock) ≡ false
      by lock true is own = ap (λ (b : Bool). not b && test lock) (eq-eqb lock.session session (own is))
      by lock false is own = ap (λ (b : Bool). not (lock.session == session) && b) is ∙ and_false (not (lock.session == session))
        where
          and_false : (b : Bool) → (b && false) ≡ false
          and_false true = refl
          and_false false = refl

  node_is_free : (path : Path) → IsFreeNode s session path → in_use_at s session path ≡ None
  node_is_free path free = ap (option_map (partial_lock_cause InUsePartial)) (none_of_other (covers_path path) free)

  nodes_are_free : (paths : List Path) → All (IsFreeNode s session) paths → first_cause (map (in_use_at s session) paths) ≡ None
  nodes_are_free [] all = refl
  nodes_are_free (path ∷ paths) all =
      ap (λ (check : Option Cause). first_cause (check ∷ map (in_use_at s session) paths))
      (node_is_free path (first_of (IsFreeNode s session) path paths all))
      ∙ nodes_are_free paths (rest_of (IsFreeNode s session) path paths all)

  pub changes_are_free : (changes : Changes) → AreFree s session changes → in_use_partial s session changes ≡ None
  changes_are_free changes free =
      nodes_are_free (changes.deleted ++ changes.updated ++ changes.created)
      (All-append (IsFreeNode s session) (changes.deleted ++ changes.updated) changes.created
      (All-append (IsFreeNode s session) changes.deleted changes.updated free.deleted free.updated) free.created)

  -- by the texts of the pending commit and of the request
  admits : (pending : Pending) (token given : Option (List ℕ)) → given ≡ token → (token ≡ None → pending.session ≡ session) →
      refused_by session pending token given ≡ None
  admits pending (Some token) (Some text) same own =
      where_not (is_same_text token text) (plain_cause BadToken []) ((bytes_decides token text).1 (sym (inside same)))
    where
      inside : Some text ≡ Some token → text ≡ token
      inside is = cc
  admits pending (Some token) None same own = cc
  admits pending None (Some text) same own = cc
  admits pending None None same own =
      where_not (pending.session == session) (pending_cause InUsePending pending) (eq-eqb pending.session session (own refl))

  admitted : (pending : Pending) (given : Option (List ℕ)) → IsAdmitted session given pending → admission session pending given ≡ None
  admitted pending given (same, own) = admits pending pending.token given same own

  commit_admits : (given : Option (List ℕ)) (pending : Option Pending) → MayCommit session given pending →
      option_map_or (λ found. admission session found given) pending (cause_where (is_some given) (plain_cause BadToken [])) ≡ None
  commit_admits given None may = ap (λ (text : Option (List ℕ)). cause_where (is_some text) (plain_cause BadToken [])) may
  commit_admits given (Some pending) may = admitted pending given may

  pub commit_is_admitted : (given : Option (List ℕ)) → MayCommit session given s.pending → commit_admission s session given ≡ None
  commit_is_admitted given may = commit_admits given s.pending may

  -- ---- lock and unlock
  pending_is_own : (pending : Option Pending) → IfSome pending (λ found. found.session ≡ session) → pending_of_other session pending ≡ None
  pending_is_own None own = refl
  pending_is_own (Some found) own =
      where_not (found.session == session) (pending_cause LockPending found) (eq-eqb found.session session own)

  pub lock_is_granted : (target : Datastore) → IsLockable s session target → lock_refusal s session target ≡ None
  lock_is_granted Running (free, pending, own) =
      none_first (lock_checks s session Running) (
        refl,
        (
          ap (option_map (global_lock_cause LockHeld Running)) free,
          (
            refl,
            (
              pending_is_own s.pending pending,
              (
                ap (option_map (partial_lock_cause LockPartial)) (none_of_other (λ lock. true) (λ k d within passes. own k d within)),
                tt,
              ),
            ),
          ),
        ),
      )
  lock_is_granted Candidate (free, unmodified) =
      none_first (lock_checks s session Candidate) (
        refl,
        (
          ap (option_map (global_lock_cause LockHeld Candidate)) free,
          (where_false (is_some s.candidate) (plain_cause LockModified []) (ap is_some unmodified), (refl, (refl, tt))),
        ),
      )
  lock_is_granted Startup free = absurd free
  lock_is_granted Url free = absurd free

  not_held : (target : Datastore) → holder_of s.holders target ≡ Some session →
      cause_where (not (is_held_by session (holder_of s.holders target))) (plain_cause NotHeld (datastore_name target ∷ [])) ≡ None
  not_held target holds =
      where_not (is_held_by session (holder_of s.holders target)) (plain_cause NotHeld (datastore_name target ∷ []))
      (ap (is_held_by session) holds ∙ eq-eqb session session refl)

  pub unlock_is_granted : (target : Datastore) → holder_of s.holders target ≡ Some session → unlock_refusal s session target ≡ None
  unlock_is_granted Running holds = none_first (unlock_checks s session Running) (refl, (not_held Running holds, tt))
  unlock_is_granted Candidate holds = none_first (unlock_checks s session Candidate) (refl, (not_held Candidate holds, tt))
  unlock_is_granted Startup holds = absurd (none_holds holds)
    where
      none_holds : None ≡ Some session → ⊥
      none_holds is = cc
  unlock_is_granted Url holds = absurd (none_holds holds)
    where
      none_holds : None ≡ Some session → ⊥
      none_holds is = cc

  -- ---- kill-session
  pub kill_is_granted : (number : ℕ) → number ≢ session → is_live s number ≡ true → kill_refusal s session number ≡ None
  kill_is_granted number other live =
      where_false (number == session || not (is_live s number)) (plain_cause NotLiveTarget []) (by (eqb_tells number session))
    where
      by : (((number == session) ≡ true) × (number ≡ session)) ⊎ (((number == session) ≡ false) × (number ≢ session)) →
          (number == session || not (is_live s number)) ≡ false
      by (inl (holds, same)) = absurd (other same)
      by (inr (fails, apart)) = ap (λ (b : Bool). b || not (is_live s number)) fails ∙ ap not live

  -- ---- cancel-commit
  cancel_admits : (given : Option (List ℕ)) (pending : Option Pending) → IsSomeAnd pending (IsAdmitted session given) →
      option_map_or (λ found. admission session found given) pending (Some (plain_cause NoPending [])) ≡ None
  cancel_admits given None may = absurd may
  cancel_admits given (Some pending) may = admitted pending given may

  pub cancel_is_granted : (given : Option (List ℕ)) → IsSomeAnd s.pending (IsAdmitted session given) → IsFree s session Running →
      AreFree s session (cancel_changes s) → cancel_refusal s session given ≡ None
  cancel_is_granted given may free nodes =
      none_first (cancel_checks s session given)
      (cancel_admits given s.pending may, (store_is_free Running free, (changes_are_free (cancel_changes s) nodes, tt)))

  -- ---- partial locks
  some_nodes : (nodes : List Path) → nodes ≢ [] → is_none_of nodes ≡ false
  some_nodes [] some = absurd (some refl)
  some_nodes (node ∷ nodes) some = refl

  is_below : (count most : ℕ) → count < most → (count == most) ≡ false
  is_below count most less = by (eqb_tells count most)
    where
      by : (((count == most) ≡ true) × (count ≡ most)) ⊎ (((count == most) ≡ false) × (count ≢ most)) → (count == most) ≡ false
      by (inl (holds, same)) = absurd (omega (arith, same, less))
      by (inr (fails, apart)) = fails

  pub partial_lock_is_granted : (selects : List Select) → All (λ select. IsSome (selected_path s.schema select)) selects →
      ArePartlyLockable s session (nodes_selected s session selects) → partial_lock_refusal s session selects ≡ None
  partial_lock_is_granted selects named may =
      let nodes = nodes_selected s session selects in
      none_first (partial_lock_checks s session selects) (
        ap (option_map (pending_cause LockPending)) may.none_pending,
        (
          ap (option_map (global_lock_cause LockHeld Running)) may.not_locked,
          (
            where_not (are_selects s.schema selects) (plain_cause BadSelect [])
                (each_holds (λ select. is_some (selected_path s.schema select)) selects named),
            (
              where_false (is_none_of nodes) (plain_cause NoMatch []) (some_nodes nodes may.some),
              (
                ap (option_map (partial_lock_cause LockPartial)) (none_of_other (locks_some nodes) may.apart),
                (
                  where_false (length (locks_of session s.partial) == most_locks) (plain_cause Limit (partial_locks_word ∷ []))
                      (is_below (length (locks_of session s.partial)) most_locks may.few),
                  (
                    where_false (s.last_lock == last_lock_id) (plain_cause Limit (lock_ids_word ∷ []))
                        (is_below s.last_lock last_lock_id may.ids),
                    tt,
                  ),
                ),
              ),
            ),
          ),
        ),
      )

  pub partial_unlock_is_granted : (lock : ℕ) → IsTrue (has_lock s session lock) → partial_unlock_refusal s session lock ≡ None
  partial_unlock_is_granted lock has = where_not (has_lock s session lock) (plain_cause BadParameter (lock_id_word ∷ [])) has
