-- The script of a load test.
use Rattle.std.specs.Prelude.{◌+◌, ◌%◌, ◌==◌, ℕ, zero, suc, true, if◌then◌else◌, List, [], ◌∷◌, ◌++◌, codes}
use Rattle.std.specs.Fmt.{decimal}
use Rattle.nc_protocol.specs.declared.peer.Peer.{Peer}
use Rattle.nc_script_text.specs.declared.step.ScriptStep.{ScriptStep}
use Rattle.nc_script_text.specs.declared.step.ScriptStep.TheVariants.{Begin, Piece}

-- what the clients send, each with its mark (RFC 6242 4.3): the hello of base:1.0 (RFC 6241 8.1), a commit, a
-- close-session, and the pieces of an edit
unfoldable pub client_hello : List ℕ
client_hello =
    codes "<hello xmlns=\"urn:ietf:params:xml:ns:netconf:base:1.0\"><capabilities>"
    ++ codes "<capability>urn:ietf:params:netconf:base:1.0</capability></capabilities></hello>]]>]]>"

-- a commit (RFC 6241 8.3.4.1)
unfoldable pub commit_text : List ℕ
commit_text = codes "<rpc xmlns=\"urn:ietf:params:xml:ns:netconf:base:1.0\" message-id=\"1\"><commit/></rpc>]]>]]>"

-- a close-session (RFC 6241 7.8)
unfoldable pub close_text : List ℕ
close_text =
    codes "<rpc xmlns=\"urn:ietf:params:xml:ns:netconf:base:1.0\" message-id=\"1\"><close-session/></rpc>]]>]]>"

-- an edit-config up to the number of its port
unfoldable pub edit_head : List ℕ
edit_head =
    codes "<rpc xmlns=\"urn:ietf:params:xml:ns:netconf:base:1.0\" message-id=\"1\"><edit-config>"
    ++ codes "<target><candidate/></target><config><top xmlns=\"urn:ex\"><port><name>p"

-- from there to its tag
unfoldable pub edit_middle : List ℕ
edit_middle = codes "</name><tag>"

-- from there to its end
unfoldable pub edit_tail : List ℕ
edit_tail = codes "</tag></port></top></config></edit-config></rpc>]]>]]>"

-- the user of its sessions
unfoldable pub load_user : List ℕ
load_user = codes "load"

-- an edit that merges a port with its tag (RFC 6241 7.2)
abbrev pub edit_text : ℕ → List ℕ
edit_text port = edit_head ++ (decimal port ++ (edit_middle ++ (decimal (port + 1) ++ edit_tail)))

-- a recovery session (RFC 8341 3.3.3)
abbrev pub load_peer : Peer
load_peer = record { user = load_user; groups = []; recovery = true }

-- a connection begins, and greets
abbrev pub greeting : ℕ → List ScriptStep
greeting connection = Begin connection load_peer ∷ Piece connection client_hello ∷ []

-- the turn of that number, from 0: one of the four connections sends an edit, and after every tenth a commit
abbrev pub load_turn : ℕ → List ScriptStep
load_turn turn =
    Piece (1 + turn % 4) (edit_text (turn % 1000))
    ∷ (if turn % 10 == 9 then Piece (1 + turn % 4) commit_text ∷ [] else [])

-- the first turns, so many
abbrev pub load_turns : ℕ → List ScriptStep
load_turns zero = []
load_turns (suc turn) = load_turns turn ++ load_turn turn

-- four connections begin and greet
abbrev pub begin_steps : List ScriptStep
begin_steps = greeting 1 ++ (greeting 2 ++ (greeting 3 ++ greeting 4))

-- a last commit, and each session is closed
abbrev pub close_steps : List ScriptStep
close_steps =
    Piece 1 commit_text ∷ Piece 1 close_text ∷ Piece 2 close_text ∷ Piece 3 close_text ∷ Piece 4 close_text ∷ []

-- four connections begin and greet, send so many edits in turn, and a last commit; then they close their sessions
abbrev pub load_steps : ℕ → List ScriptStep
load_steps edits = begin_steps ++ (load_turns edits ++ close_steps)
