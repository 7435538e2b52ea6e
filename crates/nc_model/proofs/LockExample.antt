-- Locks and partial locks at work: each cause for which one is refused, or stands in the way of a request.
use Rattle.std.proofs.Common.{◌≡◌, ℕ, List, [], ◌∷◌, ◌++◌, replicate, refl}
use Rattle.std.specs.Fmt.{decimal}
use Rattle.std.specs.Prelude.{codes, Some, None, false, true}
use Rattle.nc_names.specs.declared.cause.CauseKind.TheVariants.{LockHeld, LockModified, LockPending, LockPartial, NotHeld, InUseGlobal, InUsePartial, InUsePending, NotLiveTarget, BadSelect, NoMatch, Limit, BadParameter, UnsupportedTarget}
use Rattle.nc_names.specs.declared.name.Bound.{Bound}
use Rattle.nc_names.specs.declared.path.Path.{Path}
use Rattle.nc_names.specs.declared.path.Row.{Row}
use Rattle.nc_schema.specs.InstancePaths.{instance_path, pattern_step}
use Rattle.nc_schema.specs.PathWords.{written_step, written_name, predicate, predicate_key, quoted_string}
use Rattle.nc_schema.specs.Values.{canonical}
use Rattle.nc_protocol.specs.Asking.{plain_cause}
use Rattle.nc_protocol.specs.Words.{running_word, candidate_word, lock_id_word, source_word}
use Rattle.nc_protocol.specs.declared.asked.Asked.TheVariants.{CopyConfig, DeleteConfig, Lock, Unlock, KillSession, DiscardChanges, PartialLock, PartialUnlock}
use Rattle.nc_protocol.specs.declared.asked.Select.{Select}
use Rattle.nc_protocol.specs.declared.datastore.Datastore.TheVariants.{Running, Candidate, Startup}
use Rattle.nc_protocol.specs.declared.datastore.Origin.TheVariants.{Store}
use Rattle.nc_protocol.specs.declared.peer.Peer.{Peer}
use Rattle.nc_protocol.specs.declared.verdict.Verdict.TheVariants.{Done, Locked, Refused}
use Rattle.nc_model.specs.Access.{access_policy}
use Rattle.nc_model.specs.State.{State, NodeLock, Pending, no_holders, opening, session_ended}
use Rattle.nc_model.specs.Step.{changed_by, outcome_of}
use Rattle.nc_model.specs.Verdict.{asked_verdict, commit_refusal, kill_refusal, lock_refusal, partial_lock_refusal, unlock_refusal}
use Rattle.nc_model.specs.Words.{partial_locks_word, lock_ids_word}
use Rattle.nc_model.specs.declared.event.Event.TheVariants.{Start}
use Rattle.nc_model.specs.declared.event.Outcome.TheVariants.{Full}
use Rattle.nc_model.specs.declared.session.Session.{Session}
use Rattle.nc_protocol.proofs.Example.{node, tables, port, name, rows_of_port}

abbrev user : List ℕ → Peer
user it = record { user = it; groups = []; recovery = true }

abbrev pub one : Session
one = record { number = 1; peer = user (codes "alice") }

abbrev two : Session
two = record { number = 2; peer = user (codes "bob") }

-- alice and bob have a session each; port a is there
abbrev pub both : State
both = record (opening tables (rows_of_port (codes "a")) 0) { sessions = one ∷ two ∷ []; last = 2 }

-- bob holds the lock of running, or of the candidate
abbrev running_held : State
running_held = record both { holders = record no_holders { running = Some 2 } }

abbrev candidate_held : State
candidate_held = record both { holders = record no_holders { candidate = Some 2 } }

abbrev pub ports : List Row
ports = rows_of_port (codes "a") ++ rows_of_port (codes "b")

-- the candidate has port b too
abbrev pub modified : State
modified = record both { candidate = Some ports }

-- bob's confirmed commit is pending
abbrev waiting : Pending
waiting = record { base = []; deadline = 1000; token = None; session = 2 }

abbrev outstanding : State
outstanding = record both { pending = Some waiting }

abbrev top : Path
top = record { steps = record { node = 0; keys = [] } ∷ [] }

-- bob has locked some nodes
abbrev lock_of : List Path → NodeLock
lock_of nodes = record { id = 3; session = 2; nodes = nodes }

abbrev partly : List Path → State
partly nodes = record modified { partial = lock_of nodes ∷ []; last_lock = 3 }

-- ---- lock and unlock
lock_is_held : lock_refusal running_held 1 Running ≡ Some (plain_cause LockHeld (running_word ∷ decimal 2 ∷ []))
lock_is_held = refl

own_lock_is_held : lock_refusal running_held 2 Running ≡ Some (plain_cause LockHeld (running_word ∷ decimal 2 ∷ []))
own_lock_is_held = refl

lock_of_modified : lock_refusal modified 1 Candidate ≡ Some (plain_cause LockModified [])
lock_of_modified = refl

lock_while_pending : lock_refusal outstanding 1 Running ≡ Some (plain_cause LockPending (decimal 2 ∷ []))
lock_while_pending = refl

-- the session of the pending commit may lock running, and any session the candidate
own_lock_while_pending : lock_refusal outstanding 2 Running ≡ None
own_lock_while_pending = refl

candidate_while_pending : lock_refusal outstanding 1 Candidate ≡ None
candidate_while_pending = refl

lock_while_partly_locked : lock_refusal (partly (top ∷ [])) 1 Running ≡ Some (plain_cause LockPartial (decimal 3 ∷ decimal 2 ∷ []))
lock_while_partly_locked = refl

own_lock_while_partly_locked : lock_refusal (partly (top ∷ [])) 2 Running ≡ None
own_lock_while_partly_locked = refl

unlock_of_other : unlock_refusal candidate_held 1 Candidate ≡ Some (plain_cause NotHeld (candidate_word ∷ []))
unlock_of_other = refl

lock_is_granted : changed_by both 1 (Lock Candidate) Done ≡ record both { holders = record no_holders { candidate = Some 1 } }
lock_is_granted = refl

-- unlock discards the candidate's changes
unlock_discards : changed_by (record modified { holders = record no_holders { candidate = Some 1 } }) 1 (Unlock Candidate) Done ≡ both
unlock_discards = refl

discard_in_use : asked_verdict candidate_held 1 DiscardChanges false ≡ Refused (plain_cause InUseGlobal (candidate_word ∷ decimal 2 ∷ []) ∷ [])
discard_in_use = refl

commit_in_use : commit_refusal candidate_held 1 None ≡ Some (plain_cause InUseGlobal (candidate_word ∷ decimal 2 ∷ []))
commit_in_use = refl

-- ---- the end of a session
-- a lock is lost with its session, and with it the candidate's changes; partial locks too
lock_is_lost : session_ended (record (partly (top ∷ [])) { holders = record { running = Some 1; candidate = Some 2 } }) 2
    ≡ record both { sessions = one ∷ []; holders = record no_holders { running = Some 1 }; last_lock = 3 }
lock_is_lost = refl

kill_of_none : kill_refusal both 1 3 ≡ Some (plain_cause NotLiveTarget [])
kill_of_none = refl

kill_of_itself : kill_refusal both 1 1 ≡ Some (plain_cause NotLiveTarget [])
kill_of_itself = refl

kill_is_done : asked_verdict both 1 (KillSession 2) false ≡ Done
kill_is_done = refl

kill_ends : changed_by candidate_held 1 (KillSession 2) Done ≡ record both { sessions = one ∷ [] }
kill_ends = refl

-- ---- a partial lock in the way of a commit
-- port b is new: a lock of the container above it is in the way, one of port a is not
commit_is_locked : commit_refusal (partly (top ∷ [])) 1 None ≡ Some (plain_cause InUsePartial (decimal 3 ∷ decimal 2 ∷ []))
unfolding node tables port name rows_of_port access_policy
commit_is_locked = refl

commit_beside_lock : commit_refusal (partly (port (codes "a") ∷ [])) 1 None ≡ None
unfolding node tables port name rows_of_port access_policy
commit_beside_lock = refl

own_lock_is_no_hindrance : commit_refusal (partly (top ∷ [])) 2 None ≡ None
unfolding node tables port name rows_of_port access_policy
own_lock_is_no_hindrance = refl

-- ---- partial locks
abbrev bounds : List Bound
bounds = record { prefix = codes "e"; space = codes "urn:ex" } ∷ []

abbrev selecting : List ℕ → Select
selecting text = record { text = text; bounds = bounds }

abbrev select_a : Select
select_a = selecting (codes "/e:top/e:port[e:name='a']")

abbrev select_b : Select
select_b = selecting (codes "/e:top/e:port[e:name='b']")

-- a name without a prefix, a list without its key, a value that is not of the type
select_is_bad : partial_lock_refusal both 1 (select_a ∷ selecting (codes "/top") ∷ []) ≡ Some (plain_cause BadSelect [])
unfolding node tables port name rows_of_port instance_path pattern_step written_step written_name predicate predicate_key quoted_string canonical access_policy
select_is_bad = refl

key_is_missing : partial_lock_refusal both 1 (selecting (codes "/e:top/e:port") ∷ []) ≡ Some (plain_cause BadSelect [])
unfolding node tables port name rows_of_port instance_path pattern_step written_step written_name predicate predicate_key quoted_string canonical access_policy
key_is_missing = refl

value_is_bad : partial_lock_refusal both 1 (selecting (codes "/e:top/e:port[e:name='c']") ∷ []) ≡ Some (plain_cause BadSelect [])
unfolding node tables port name rows_of_port instance_path pattern_step written_step written_name predicate predicate_key quoted_string canonical access_policy
value_is_bad = refl

nothing_matches : partial_lock_refusal both 1 (select_b ∷ []) ≡ Some (plain_cause NoMatch [])
unfolding node tables port name rows_of_port instance_path pattern_step written_step written_name predicate predicate_key quoted_string canonical access_policy
nothing_matches = refl

-- one select matches; a container is matched by what stands in it; a node is listed once
some_match : asked_verdict both 1 (PartialLock (select_b ∷ select_a ∷ selecting (codes "/e:top") ∷ select_a ∷ [])) false ≡ Locked 1 (port (codes "a") ∷ top ∷ [])
unfolding node tables port name rows_of_port instance_path pattern_step written_step written_name predicate predicate_key quoted_string canonical access_policy
some_match = refl

partial_lock_is_kept : changed_by both 1 (PartialLock (select_a ∷ [])) (Locked 1 (port (codes "a") ∷ []))
    ≡ record both { partial = record { id = 1; session = 1; nodes = port (codes "a") ∷ [] } ∷ []; last_lock = 1 }
partial_lock_is_kept = refl

-- below a node that another session has locked, and above one
partial_below : partial_lock_refusal (partly (top ∷ [])) 1 (select_a ∷ []) ≡ Some (plain_cause LockPartial (decimal 3 ∷ decimal 2 ∷ []))
unfolding node tables port name rows_of_port instance_path pattern_step written_step written_name predicate predicate_key quoted_string canonical access_policy
partial_below = refl

partial_above : partial_lock_refusal (partly (port (codes "a") ∷ [])) 1 (selecting (codes "/e:top") ∷ []) ≡ Some (plain_cause LockPartial (decimal 3 ∷ decimal 2 ∷ []))
unfolding node tables port name rows_of_port instance_path pattern_step written_step written_name predicate predicate_key quoted_string canonical access_policy
partial_above = refl

own_partial : partial_lock_refusal (partly (top ∷ [])) 2 (select_a ∷ []) ≡ None
unfolding node tables port name rows_of_port instance_path pattern_step written_step written_name predicate predicate_key quoted_string canonical access_policy
own_partial = refl

partial_while_pending : partial_lock_refusal outstanding 2 (select_a ∷ []) ≡ Some (plain_cause LockPending (decimal 2 ∷ []))
partial_while_pending = refl

partial_while_locked : partial_lock_refusal running_held 2 (select_a ∷ []) ≡ Some (plain_cause LockHeld (running_word ∷ decimal 2 ∷ []))
partial_while_locked = refl

-- a session with 64 partial locks, and the last lock-id
too_many_locks : partial_lock_refusal (record both { partial = replicate 64 (lock_of (port (codes "a") ∷ [])); last_lock = 3 }) 2 (select_a ∷ [])
    ≡ Some (plain_cause Limit (partial_locks_word ∷ []))
unfolding node tables port name rows_of_port instance_path pattern_step written_step written_name predicate predicate_key quoted_string canonical access_policy
too_many_locks = refl

no_lock_id : partial_lock_refusal (record both { last_lock = 4294967295 }) 1 (select_a ∷ []) ≡ Some (plain_cause Limit (lock_ids_word ∷ []))
unfolding node tables port name rows_of_port instance_path pattern_step written_step written_name predicate predicate_key quoted_string canonical access_policy
no_lock_id = refl

unlock_of_other_lock : asked_verdict (partly (top ∷ [])) 1 (PartialUnlock 3) false ≡ Refused (plain_cause BadParameter (lock_id_word ∷ []) ∷ [])
unlock_of_other_lock = refl

partial_unlock_is_done : changed_by (partly (top ∷ [])) 2 (PartialUnlock 3) Done ≡ record modified { last_lock = 3 }
partial_unlock_is_done = refl

-- ---- the order of checks

-- another session's pending commit comes before locks, and running's lock before the candidate's
commit_while_pending : commit_refusal (record outstanding { holders = record no_holders { running = Some 2 } }) 1 None ≡ Some (plain_cause InUsePending (decimal 2 ∷ []))
commit_while_pending = refl

both_are_locked : commit_refusal (record both { holders = record { running = Some 2; candidate = Some 2 } }) 1 None ≡ Some (plain_cause InUseGlobal (running_word ∷ decimal 2 ∷ []))
both_are_locked = refl

-- a copy: its target, its source, the two alike, and then the lock
copy_to_running : asked_verdict candidate_held 1 (CopyConfig Running (Store Startup)) false ≡ Refused (plain_cause UnsupportedTarget (running_word ∷ []) ∷ [])
copy_to_running = refl

copy_of_itself : asked_verdict candidate_held 1 (CopyConfig Candidate (Store Candidate)) false ≡ Refused (plain_cause BadParameter (source_word ∷ []) ∷ [])
copy_of_itself = refl

copy_in_use : asked_verdict candidate_held 1 (CopyConfig Candidate (Store Running)) false ≡ Refused (plain_cause InUseGlobal (candidate_word ∷ decimal 2 ∷ []) ∷ [])
copy_in_use = refl

nothing_is_deleted : asked_verdict both 1 (DeleteConfig Candidate) false ≡ Refused (plain_cause UnsupportedTarget (candidate_word ∷ []) ∷ [])
nothing_is_deleted = refl

-- bob has locked both ports, and in the candidate b stands in place of a: of his locks the one with the lowest lock-id is
-- named, and at a commit the one of the port that is deleted
abbrev exchanged : State
exchanged = record both {
  candidate = Some (rows_of_port (codes "b"));
  partial = lock_of (port (codes "b") ∷ []) ∷ record { id = 4; session = 2; nodes = port (codes "a") ∷ [] } ∷ [];
  last_lock = 4;
}

lowest_is_named : lock_refusal exchanged 1 Running ≡ Some (plain_cause LockPartial (decimal 3 ∷ decimal 2 ∷ []))
lowest_is_named = refl

deleted_goes_first : commit_refusal exchanged 1 None ≡ Some (plain_cause InUsePartial (decimal 4 ∷ decimal 2 ∷ []))
unfolding node tables port name rows_of_port access_policy
deleted_goes_first = refl

-- with 64 live sessions, or once the last session-id was given, none is started
no_place : outcome_of (record both { sessions = replicate 64 one }) (Start one.peer) false ≡ Full 64 2
no_place = refl

no_session_id : outcome_of (record both { last = 4294967295 }) (Start one.peer) false ≡ Full 2 4294967295
no_session_id = refl
