-- The script of a load test has no reading of the clock.
use Rattle.std.proofs.Common.{◌≡◌, ◌==◌, ◌+◌, ◌%◌, ℕ, zero, suc, Bool, true, false, List, [], ◌∷◌, ◌++◌, subst, sym}
use Rattle.std.specs.Prelude.{if◌then◌else◌}
use Rattle.std.specs.List.{All}
use Rattle.std.proofs.lemmas.List.Elements.{All-append, All-cons, All-nil}
use Rattle.nc_script.specs.Load.{begin_steps, client_hello, close_steps, close_text, commit_text, edit_text, greeting, load_peer, load_steps, load_turn, load_turns}
use Rattle.nc_script.specs.Steps.{IsTimed}
use Rattle.nc_script_text.specs.declared.step.ScriptStep.{ScriptStep}
use Rattle.nc_script_text.specs.declared.step.ScriptStep.TheVariants.{Begin, Piece}

piece : (connection : ℕ) (bytes : List ℕ) (more : List ScriptStep) → All IsTimed more → All IsTimed (Piece connection bytes ∷ more)
piece connection bytes more all = All-cons IsTimed (Piece connection bytes) more tt all

greeting_timed : (connection : ℕ) → All IsTimed (greeting connection)
greeting_timed connection =
    All-cons IsTimed (Begin connection load_peer) (Piece connection client_hello ∷ []) tt
    (piece connection client_hello [] (All-nil IsTimed))

turn_timed : (turn : ℕ) → All IsTimed (load_turn turn)
turn_timed turn =
    piece (1 + turn % 4) (edit_text (turn % 1000)) (if turn % 10 == 9 then Piece (1 + turn % 4) commit_text ∷ [] else [])
    (by (turn % 10 == 9))
  where
    by : (tenth : Bool) → All IsTimed (if tenth then Piece (1 + turn % 4) commit_text ∷ [] else [])
    by true = piece (1 + turn % 4) commit_text [] (All-nil IsTimed)
    by false = All-nil IsTimed

turns_timed : (edits : ℕ) → All IsTimed (load_turns edits)
turns_timed zero = All-nil IsTimed
turns_timed (suc turn) = All-append IsTimed (load_turns turn) (load_turn turn) (turns_timed turn) (turn_timed turn)

begins_timed : All IsTimed begin_steps
begins_timed =
    All-append IsTimed (greeting 1) (greeting 2 ++ (greeting 3 ++ greeting 4)) (greeting_timed 1)
    (All-append IsTimed (greeting 2) (greeting 3 ++ greeting 4) (greeting_timed 2)
    (All-append IsTimed (greeting 3) (greeting 4) (greeting_timed 3) (greeting_timed 4)))

closes_timed : All IsTimed close_steps
closes_timed =
    let four = Piece 4 close_text ∷ [] in
    let three = Piece 3 close_text ∷ four in
    let two = Piece 2 close_text ∷ three in
    let one = Piece 1 close_text ∷ two in
    piece 1 commit_text one
    (piece 1 close_text two (piece 2 close_text three (piece 3 close_text four (piece 4 close_text [] (All-nil IsTimed)))))

pub load_timed : (steps : List ScriptStep) (edits : ℕ) → steps ≡ load_steps edits → All IsTimed steps
load_timed steps edits is =
    subst (All IsTimed) (sym is)
    (All-append IsTimed begin_steps (load_turns edits ++ close_steps) begins_timed
    (All-append IsTimed (load_turns edits) close_steps (turns_timed edits) closes_timed))
