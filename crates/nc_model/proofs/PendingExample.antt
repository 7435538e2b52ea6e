-- A confirmed commit at work: confirmed, followed up, cancelled, and reverted at its deadline and by its session's end.
use Rattle.std.proofs.Common.{◌≡◌, ℕ, List, [], ◌∷◌, refl}
use Rattle.std.specs.Fmt.{decimal}
use Rattle.std.specs.Prelude.{codes, Some, None, Ok, false, true}
use Rattle.nc_names.specs.declared.cause.CauseKind.TheVariants.{InUseGlobal, InUsePartial, InUsePending, NoPending, BadToken}
use Rattle.nc_names.specs.declared.path.Row.{Row}
use Rattle.nc_protocol.specs.Asking.{plain_cause}
use Rattle.nc_protocol.specs.Words.{running_word}
use Rattle.nc_protocol.specs.declared.asked.Asked.TheVariants.{CloseSession, Commit, CancelCommit, KillSession}
use Rattle.nc_protocol.specs.declared.verdict.Verdict.TheVariants.{Done}
use Rattle.nc_model.specs.History.{returning}
use Rattle.nc_model.specs.Access.{access_policy}
use Rattle.nc_model.specs.State.{State, base_of, expired, no_holders, session_ended}
use Rattle.nc_model.specs.Step.{appends_record, changed_by}
use Rattle.nc_model.specs.Verdict.{cancel_refusal, commit_admission, commit_refusal}
use Rattle.nc_model.proofs.LockExample.{both, modified, ports}
use Rattle.nc_protocol.proofs.Example.{node, tables, port, name, rows_of_port}

abbrev a : List Row
a = rows_of_port (codes "a")

abbrev token : List ℕ
token = codes "mine"

-- alice commits port b too, to be confirmed within one second
abbrev confirming : State
confirming = changed_by modified 1 (Commit true 1 None None) Done

commit_is_pending : confirming ≡ record both { running = ports; pending = Some (record { base = a; deadline = 1000; token = None; session = 1 }) }
commit_is_pending = refl

base_is_first : base_of confirming ≡ a
base_is_first = refl

-- nothing happens before the deadline, and at it the commit is reverted
waits_at_999 : expired confirming 999 ≡ record confirming { now = 999 }
waits_at_999 = refl

reverts_at_1000 : expired confirming 1000 ≡ record both { now = 1000 }
reverts_at_1000 = refl

-- half a second later alice commits an empty candidate in the same way: the deadline is set anew, the base is kept
abbrev followed : State
followed = changed_by (record (expired confirming 500) { candidate = Some [] }) 1 (Commit true 1 None None) Done

follow_up_is_pending : followed ≡ record both { running = []; now = 500; pending = Some (record { base = a; deadline = 1500; token = None; session = 1 }) }
follow_up_is_pending = refl

follow_up_waits : expired followed 1499 ≡ record followed { now = 1499 }
follow_up_waits = refl

reverts_to_first_base : expired followed 1500 ≡ record both { now = 1500 }
reverts_to_first_base = refl

-- a plain commit confirms
confirmed : changed_by confirming 1 (Commit false 600 None None) Done ≡ record both { running = ports }
confirmed = refl

cancelled : changed_by confirming 1 (CancelCommit None) Done ≡ both
cancelled = refl

-- the end of alice's session reverts it; with a token it stays, and no session is its own
ended : session_ended confirming 1 ≡ session_ended both 1
ended = refl

abbrev persisting : State
persisting = changed_by modified 1 (Commit true 1 (Some token) None) Done

stays_pending : session_ended persisting 1
    ≡ record (session_ended both 1) { running = ports; pending = Some (record { base = a; deadline = 1000; token = Some token; session = 0 }) }
stays_pending = refl

-- a follow-up keeps the token unless it gives a new one, and its session is the pending one
token_is_kept : changed_by persisting 2 (Commit true 2 None (Some token)) Done
    ≡ record both { running = ports; pending = Some (record { base = a; deadline = 2000; token = Some token; session = 2 }) }
token_is_kept = refl

-- ---- who may follow, confirm or cancel
-- without a token its own session alone, and no `persist-id`
own_session : commit_admission confirming 1 None ≡ None
own_session = refl

other_session : commit_admission confirming 2 None ≡ Some (plain_cause InUsePending (decimal 1 ∷ []))
other_session = refl

needless_token : commit_admission confirming 1 (Some token) ≡ Some (plain_cause BadToken [])
needless_token = refl

-- with a token whoever gives it
right_token : commit_admission persisting 2 (Some token) ≡ None
right_token = refl

wrong_token : commit_admission persisting 1 (Some (codes "other")) ≡ Some (plain_cause BadToken [])
wrong_token = refl

no_token : commit_admission persisting 1 None ≡ Some (plain_cause InUsePending (decimal 1 ∷ []))
no_token = refl

ended_session : commit_admission (session_ended persisting 1) 2 None ≡ Some (plain_cause InUsePending (decimal 0 ∷ []))
ended_session = refl

-- where none is pending
nothing_to_confirm : commit_refusal both 1 (Some token) ≡ Some (plain_cause BadToken [])
nothing_to_confirm = refl

nothing_to_cancel : cancel_refusal both 1 None ≡ Some (plain_cause NoPending [])
nothing_to_cancel = refl

-- ---- what is written, and what comes back
-- a confirmed commit is not written, and after a stop its base comes back
not_written : appends_record (Ok (Commit true 1 None None)) ≡ false
not_written = refl

base_comes_back : returning confirming [] [] ≡ a ∷ []
base_comes_back = refl

-- a new text of `persist` takes the place of the old one
token_is_replaced : changed_by persisting 2 (Commit true 2 (Some (codes "other")) (Some token)) Done
    ≡ record both { running = ports; pending = Some (record { base = a; deadline = 2000; token = Some (codes "other"); session = 2 }) }
token_is_replaced = refl

-- at the deadline nothing is pending any more, and the right text is a wrong one
too_late : commit_admission (expired persisting 1000) 2 (Some token) ≡ Some (plain_cause BadToken [])
too_late = refl

-- close-session and kill-session end the session of the pending commit
closed : changed_by confirming 1 CloseSession Done ≡ session_ended both 1
closed = refl

killed : changed_by confirming 2 (KillSession 1) Done ≡ session_ended both 1
killed = refl

-- ---- what stands against a cancel-commit
-- it takes back port b: another session's lock of running, or of that port, is in its way
cancel_in_use : cancel_refusal (record confirming { holders = record no_holders { running = Some 2 } }) 1 None ≡ Some (plain_cause InUseGlobal (running_word ∷ decimal 2 ∷ []))
cancel_in_use = refl

cancel_is_locked : cancel_refusal (record confirming { partial = record { id = 3; session = 2; nodes = port (codes "b") ∷ [] } ∷ []; last_lock = 3 }) 1 None ≡ Some (plain_cause InUsePartial (decimal 3 ∷ decimal 2 ∷ []))
unfolding node tables port name rows_of_port access_policy
cancel_is_locked = refl

any_session_cancels : cancel_refusal persisting 2 (Some token) ≡ None
unfolding node tables port name rows_of_port access_policy
any_session_cancels = refl
