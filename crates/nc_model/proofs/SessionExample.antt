-- A session merges port b and then port a into the candidate, and commits; and a commit that the disk
-- refuses, and the next one.
use Rattle.std.proofs.Common.{◌≡◌, ℕ, List, [], ◌∷◌, ◌++◌, refl}
use Rattle.std.specs.Prelude.{codes, Option, Some, None, Ok, false, true}
use Rattle.nc_message.specs.declared.tree.Elem.{Elem}
use Rattle.nc_message.specs.declared.tree.Part.TheVariants.{Child, Chars}
use Rattle.nc_message.specs.declared.tree.Part.TheBlock.{hidden-the_row-Part-0, hidden-the_row-Elem-1}
use denote.Hole.Carrier.{hidden}
use Rattle.nc_names.specs.declared.cause.CauseKind.TheVariants.{DiskFault}
use Rattle.nc_names.specs.declared.path.Row.{Row}
use Rattle.nc_schema.specs.Values.{canonical}
use Rattle.nc_protocol.specs.declared.asked.Asked.{Asked}
use Rattle.nc_protocol.specs.declared.asked.Asked.TheVariants.{EditConfig as AsksEditConfig, Commit as AsksCommit}
use Rattle.nc_protocol.specs.declared.asked.Default3.TheVariants.{Merge as MergesAll}
use Rattle.nc_protocol.specs.declared.asked.ErrorOption.TheVariants.{Stop}
use Rattle.nc_protocol.specs.declared.asked.Operation.{Operation}
use Rattle.nc_protocol.specs.declared.asked.Operation.TheVariants.{EditConfig, Commit}
use Rattle.nc_protocol.specs.declared.asked.TestOption.TheVariants.{Set}
use Rattle.nc_protocol.specs.declared.datastore.Datastore.TheVariants.{Candidate}
use Rattle.nc_model.specs.declared.entry.Entry.{Entry}
use Rattle.nc_model.specs.declared.event.Event.{Event}
use Rattle.nc_model.specs.declared.event.Event.TheVariants.{Start, Request as Requested}
use Rattle.nc_model.specs.declared.event.Outcome.{Outcome}
use Rattle.nc_model.specs.declared.event.Outcome.TheVariants.{Started, Answered}
use Rattle.nc_protocol.specs.declared.peer.Peer.{Peer}
use Rattle.nc_protocol.specs.declared.verdict.Verdict.{Verdict}
use Rattle.nc_protocol.specs.declared.verdict.Verdict.TheVariants.{Done, Refused}
use Rattle.nc_model.specs.History.{after, doubts_after, IsLegal}
use Rattle.nc_model.specs.Access.{access_policy}
use Rattle.nc_model.specs.State.{State, no_holders, opening}
use Rattle.nc_model.specs.Step.{Fits, outcome_of}
use Rattle.nc_protocol.specs.Reply.{reply_of}
use Rattle.nc_protocol.specs.declared.request.Request.{Request}
use Rattle.nc_model.proofs.HistoryLemmas.{legal_histories_join, one_entry_is_legal}
use Rattle.nc_protocol.proofs.Example.{node, tables, port, name, element, rows_of_port}

alice : Peer
alice = record { user = codes "alice"; groups = []; recovery = true }

-- <config><top><port><name>..</name></port></top></config>
with_port : List ℕ → Elem
with_port key = element (codes "config") (Child (element (codes "top") (Child (element (codes "port") (Child (element (codes "name") (Chars key ∷ [])) ∷ [])) ∷ [])) ∷ [])

asks_for : Operation → Asked → Request
asks_for operation asked = record { attributes = []; operation = Some operation; asked = Ok asked }

merges : List ℕ → Request
merges key = asks_for EditConfig (AsksEditConfig Candidate MergesAll Set Stop (with_port key))

commits : Request
commits = asks_for Commit (AsksCommit false 600 None None)

-- what comes of a request with that verdict
answer : Request → Verdict → Outcome
answer request verdict = Answered verdict (reply_of tables (λ path. true) request verdict)

-- an entry a millisecond after the one before
entry : ℕ → Event → Outcome → (before now : ℕ) → Entry
entry number event outcome before now =
    record { number = number; at = number; event = event; outcome = outcome; faults_before = before; faults_after = now }

state : List Row → Option (List Row) → (now faults : ℕ) → State
state running candidate now faults = record {
  schema = tables;
  running = running;
  candidate = candidate;
  sessions = record { number = 1; peer = alice } ∷ [];
  now = now;
  last = 1;
  faults = faults;
  holders = no_holders;
  partial = [];
  pending = None;
  last_lock = 0;
}

both : List Row
both = rows_of_port (codes "a") ++ rows_of_port (codes "b")

merged : List Entry
merged =
    entry 0 (Start alice) (Started 1) 0 0
    ∷ entry 1 (Requested 1 (merges (codes "b"))) (answer (merges (codes "b")) Done) 0 0
    ∷ entry 2 (Requested 1 (merges (codes "a"))) (answer (merges (codes "a")) Done) 0 0 ∷ []

refused : Verdict
refused = Refused (record { kind = DiskFault; path = None; names = [] } ∷ [])

ports_are_in_candidate : after (opening tables [] 0) merged ≡ state [] (Some both) 2 0
unfolding node tables port name element rows_of_port answer alice with_port asks_for merges commits entry state both merged canonical hidden-the_row-Part-0 hidden-the_row-Elem-1 hidden access_policy
ports_are_in_candidate = refl

commit_is_done : outcome_of (state [] (Some both) 2 0) (Requested 1 commits) false ≡ answer commits Done
unfolding node tables port name element rows_of_port answer alice asks_for commits state both access_policy
commit_is_done = refl

ports_are_in_running : after (state [] (Some both) 2 0) (entry 3 (Requested 1 commits) (answer commits Done) 0 0 ∷ []) ≡ state both None 3 0
unfolding node tables port name element rows_of_port answer alice asks_for commits entry state both access_policy
ports_are_in_running = refl

failed_commit_is_refused : outcome_of (state [] (Some both) 2 0) (Requested 1 commits) true ≡ answer commits refused
unfolding node tables port name element rows_of_port answer alice asks_for commits state both refused access_policy
failed_commit_is_refused = refl

failed_commit_changes_nothing : after (state [] (Some both) 2 0) (entry 3 (Requested 1 commits) (answer commits refused) 0 1 ∷ []) ≡ state [] (Some both) 3 1
unfolding node tables port name element rows_of_port answer alice asks_for commits entry state both refused access_policy
failed_commit_changes_nothing = refl

next_commit_is_done : after (state [] (Some both) 3 1) (entry 4 (Requested 1 commits) (answer commits Done) 1 1 ∷ []) ≡ state both None 4 1
unfolding node tables port name element rows_of_port answer alice asks_for commits entry state both access_policy
next_commit_is_done = refl

-- a commit that the disk refused is in doubt until one is done
in_doubt_now : doubts_after (state [] (Some both) 2 0) [] (entry 3 (Requested 1 commits) (answer commits refused) 0 1) ≡ both ∷ []
unfolding node tables port name element rows_of_port answer alice asks_for commits entry state both refused access_policy
in_doubt_now = refl

no_doubt_left : doubts_after (state [] (Some both) 3 1) (both ∷ []) (entry 4 (Requested 1 commits) (answer commits Done) 1 1) ≡ []
unfolding node tables port name element rows_of_port answer alice asks_for commits entry state both access_policy
no_doubt_left = refl

began : State
began = state [] None 0 0

with_b : State
with_b = state [] (Some (rows_of_port (codes "b"))) 1 0

start_fits : Fits (opening tables [] 0) (entry 0 (Start alice) (Started 1) 0 0)
unfolding alice entry
start_fits = record { proper = tt; outcome = refl; before = refl; faults = refl }

first_fits : Fits began (entry 1 (Requested 1 (merges (codes "b"))) (answer (merges (codes "b")) Done) 0 0)
unfolding node tables port name element rows_of_port answer alice with_port asks_for merges entry state began canonical hidden-the_row-Part-0 hidden-the_row-Elem-1 hidden access_policy
first_fits = record { proper = refl; outcome = refl; before = refl; faults = refl }

second_fits : Fits with_b (entry 2 (Requested 1 (merges (codes "a"))) (answer (merges (codes "a")) Done) 0 0)
unfolding node tables port name element rows_of_port answer alice with_port asks_for merges entry state with_b canonical hidden-the_row-Part-0 hidden-the_row-Elem-1 hidden access_policy
second_fits = record { proper = refl; outcome = refl; before = refl; faults = refl }

merged_is_legal : IsLegal 0 (opening tables [] 0) merged
unfolding node tables port name element rows_of_port answer alice with_port asks_for merges entry state began with_b merged canonical hidden-the_row-Part-0 hidden-the_row-Elem-1 hidden access_policy
merged_is_legal =
    let start = entry 0 (Start alice) (Started 1) 0 0 in
    let first = entry 1 (Requested 1 (merges (codes "b"))) (answer (merges (codes "b")) Done) 0 0 in
    let second = entry 2 (Requested 1 (merges (codes "a"))) (answer (merges (codes "a")) Done) 0 0 in
    let later = (legal_histories_join 1 began (first ∷ []) (second ∷ [])).1
    ((one_entry_is_legal 1 began first).1 (refl, first_fits), (one_entry_is_legal 2 with_b second).1 (refl, second_fits)) in
    (legal_histories_join 0 (opening tables [] 0) (start ∷ []) (first ∷ second ∷ [])).1
    ((one_entry_is_legal 0 (opening tables [] 0) start).1 (refl, start_fits), later)
