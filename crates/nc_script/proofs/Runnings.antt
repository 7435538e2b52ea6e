-- A script, from its first step to its last.
use Rattle.std.proofs.Common.{◌≡◌, ◌<◌, ◌≤◌, ◌+◌, ◌-◌, ℕ, suc, Bool, true, false, cond, List, [], ◌∷◌, ◌++◌, length, map, take, drop, get_or, Result, Ok, Err, refl, sym, ap, subst, ◌∙◌, append-nil, append_assoc, arith, length-take, take-append-drop}
use Rattle.std.specs.List.{AllZip, filter}
use Rattle.std.specs.Prelude.{IfOk, IsErrAnd}
use Rattle.nc_names.specs.declared.memory.Memory.{Memory as NamesMemory}
use Rattle.std.proofs.Math.Seq.{drop-cons}
use Rattle.std.proofs.lemmas.List.{take_more}
use Rattle.nc_names.specs.Limits.{most_requests}
use Rattle.nc_machine.specs.Serving.{GoesOn, Serving}
use Rattle.nc_machine.specs.Lasting.{Lasting}
use Rattle.nc_model.specs.declared.entry.Entry.{Entry}
use Rattle.nc_model.specs.declared.event.Outcome.{Outcome}
use Rattle.nc_schema.specs.Tables.{Tables}
use Rattle.nc_script.proofs.Made.{made_more, made_none}
use Rattle.nc_script.proofs.SameSchema.{same_schema}
use Rattle.nc_script.proofs.Tallying.{tally_more, tally_none}
use Rattle.nc_script.specs.Connections.{Board, Connection, no_connections}
use Rattle.nc_script.specs.Runs.{AllDone, DoesAll, HadNoMemory, HadNoRoom, Reaches, Runs, WasBad, WasSpent, count_so, is_error, is_reply, output_of}
use Rattle.nc_script.specs.Steps.{Does}
use Rattle.nc_script.specs.inner.Boards.{Faults, HadNoMemory as NoMemory, HadNoNumber, HasDone, IsDone, StandFor, StepsTo, WasBadStep, WasDone, nothing}
use Rattle.nc_script.specs.inner.Talking.{IsIn, Stands, ends_with, told_of}
use Rattle.nc_script.specs.inner.Tallies.{Tallied}
use Rattle.nc_script.specs.declared.fault.ScriptFault.{ScriptFault}
use Rattle.nc_script.specs.declared.fault.ScriptFault.TheVariants.{Memory as ScriptMemory}
use Rattle.nc_script.specs.declared.fault.StepFault.{StepFault}
use Rattle.nc_script.specs.declared.fault.StepFault.TheVariants.{Bad, Spent, Memory}
use Rattle.nc_script.specs.declared.output.Output.{Output}
use Rattle.nc_script.specs.declared.output.ScriptRun.{ScriptRun}
use Rattle.nc_script_text.specs.declared.step.ScriptStep.{ScriptStep}
use Rattle.nc_script.specs.declared.talk.State.{State}
use Rattle.nc_script.specs.declared.talk.State.TheVariants.{Live, Over}
use Rattle.nc_script.specs.declared.talk.Talk.{Talk}
use Rattle.nc_script.specs.declared.talks.Talks.{Talks}
use Rattle.nc_script.specs.declared.tally.Tally.{Tally}

does_more : (steps : List ScriptStep) (step : ScriptStep) (board next last : Board) (entries group : List Entry)
    → DoesAll steps board entries next → Does step next group last → DoesAll (steps ++ step ∷ []) board (entries ++ group) last
does_more [] step board next last entries group (none, same) does =
    (last, group, [], ap (λ e. e ++ group) none ∙ sym (append-nil group), subst (λ b. Does step b group last) same does, (refl, refl))
does_more (first ∷ steps) step board next last entries group (middle, front, more, is, done, rest) does = (
  middle,
  front,
  more ++ group,
  ap (λ e. e ++ group) is ∙ append_assoc front more group,
  done,
  does_more steps step middle next last more group rest does,
)

pub done_none : {K : Type 0} {words : Lasting K} (schema : Tables) (machine : Serving K) (talks : Talks)
    → StandFor schema talks no_connections
    → talks.tally ≡ nothing → HasDone words schema [] machine machine talks
done_none schema machine talks stand tally = record {
  entries = [];
  board = no_connections;
  does = (refl, refl);
  made = made_none machine;
  stand = stand;
  tallied = subst (λ t. Tallied nothing t []) (sym tally) (tally_none nothing);
}

pub step_done : {K : Type 0} {words : Lasting K} (schema : Tables) (step : ScriptStep) (board : Board)
    (old new : Serving K) (talks : Talks) (told : Tally)
    (u : Unit {0}) → StepsTo words schema step board old new talks told (Ok u)
    → IsDone words schema step board old new talks told
step_done schema step board old new talks told u (WasDone v is) = is

pub done_more : {K : Type 0} {words : Lasting K} (schema : Tables) (script : List ScriptStep) (step : ScriptStep)
    (old middle new : Serving K)
    (before after : Talks) (h : HasDone words schema script old middle before)
    → IsDone words schema step h.board middle new after before.tally
    → HasDone words schema (script ++ step ∷ []) old new after
done_more schema script step old middle new before after h d = record {
  entries = h.entries ++ d.group;
  board = d.next;
  does = does_more script step no_connections h.board d.next h.entries d.group h.does d.does;
  made = made_more old middle new h.entries d.group h.made d.made;
  stand = d.stand;
  tallied = tally_more nothing before.tally after.tally h.entries d.group h.tallied d.tallied;
}

reaches : (script : List ScriptStep) (i n : ℕ) (d : ScriptStep) (entries : List Entry) (board : Board) → i < length script → n ≡ i + 1
    → DoesAll (take i script) no_connections entries board → Reaches script n entries (get_or script i d) board
reaches script i n d entries board there n_is does = record {
  front = take i script;
  rest = drop (suc i) script;
  script_is = sym (take-append-drop i script) ∙ ap (λ xs. take i script ++ xs) (drop-cons script i d there);
  n_is = omega (arith, n_is, there, length-take i script);
  does = does;
}

pub fault_met : {K : Type 0} {words : Lasting K} (script : List ScriptStep) (i n : ℕ) (d : ScriptStep)
    (old middle new : Serving K) (before after : Talks)
    (told : Tally) (fault : StepFault) (result : ScriptFault)
    (h : HasDone words old.state.schema (take i script) old middle before)
    → i < length script → n ≡ i + 1
    → StepsTo words old.state.schema (get_or script i d) h.board middle new after told (Err fault)
    → Faults fault n result
    → Runs words script old new (Err result)
fault_met {K} {words} script i n d old middle new before after told Bad result h there n_is (WasBadStep bad same) is =
    subst (λ f. Runs words script old new (Err f)) (sym is)
    (WasBad h.entries (get_or script i d) h.board n (reaches script i n d h.entries h.board there n_is h.does) bad
    (subst (λ m. GoesOn words old m h.entries) (sym same) h.made))
fault_met {K} {words} script i n d old middle new before after told Spent result h there n_is (HadNoNumber b) is =
    subst (λ f. Runs words script old new (Err f)) (sym is)
    (WasSpent h.entries b.part (get_or script i d) h.board n (reaches script i n d h.entries h.board there n_is h.does) b.early
    (made_more old middle new h.entries b.part h.made
    (subst (λ es. GoesOn words middle new es) (ap (λ l. b.part ++ l) b.breaks.tells.0 ∙ append-nil b.part)
    b.breaks.made))
    b.breaks.tells.1)
fault_met {K} {words} script i n d old middle new before after told Memory result h there n_is (NoMemory b) is =
    subst (λ f. Runs words script old new (Err f)) (sym is)
    (HadNoMemory h.entries b.part b.breaks.last (get_or script i d) h.board n
    (reaches script i n d h.entries h.board there n_is h.does) b.early b.breaks.read
    (made_more old middle new h.entries (b.part ++ b.breaks.last) h.made b.breaks.made))

-- a step is done with the schema of the first machine
steps_from : {K : Type 0} {words : Lasting K} (script : List ScriptStep) (step : ScriptStep)
    (old middle new : Serving K) (before after : Talks) (told : Tally)
    (result : Result (Unit {0}) StepFault) (h : HasDone words old.state.schema script old middle before)
    → ((board : Board) → StandFor middle.state.schema before board
    → StepsTo words middle.state.schema step board middle new after told result)
    → StepsTo words old.state.schema step h.board middle new after told result
steps_from {K} {words} script step old middle new before after told result h steps =
    let same = same_schema old middle h.entries h.made in
    subst (λ schema. StepsTo words schema step h.board middle new after told result) same
    (steps h.board (subst (λ schema. StandFor schema before h.board) (sym same) h.stand))

pub fault_reached : {K : Type 0} {words : Lasting K} (script : List ScriptStep) (i n : ℕ) (d step : ScriptStep)
    (old middle new : Serving K)
    (before after : Talks) (fault : StepFault) (result : ScriptFault)
    → HasDone words old.state.schema (take i script) old middle before
    → i < length script → n ≡ i + 1 → step ≡ get_or script i d
    → ((board : Board) → StandFor middle.state.schema before board
    → StepsTo words middle.state.schema step board middle new after before.tally (Err fault))
    → Faults fault n result → Runs words script old new (Err result)
fault_reached {K} {words} script i n d step old middle new before after fault result h there n_is is steps faults =
    fault_met script i n d old middle new before after before.tally fault result h there n_is
    (subst (λ s. StepsTo words old.state.schema s h.board middle new after before.tally (Err fault)) is
    (steps_from (take i script) step old middle new before after before.tally (Err fault) h steps))
    faults

pub done_step : {K : Type 0} {words : Lasting K} (script : List ScriptStep) (i : ℕ) (d step : ScriptStep)
    (old middle new : Serving K)
    (before after : Talks) (u : Unit {0}) → HasDone words old.state.schema (take i script) old middle before
    → i < length script → step ≡ get_or script i d
    → ((board : Board) → StandFor middle.state.schema before board
    → StepsTo words middle.state.schema step board middle new after before.tally (Ok u))
    → HasDone words old.state.schema (take (i + 1) script) old new after
done_step {K} {words} script i d step old middle new before after u h there is steps =
    let one = get_or script i d in
    let done = subst (λ s. StepsTo words old.state.schema s h.board middle new after before.tally (Ok u)) is
    (steps_from (take i script) step old middle new before after before.tally (Ok u) h steps) in
    subst (λ xs. HasDone words old.state.schema xs old new after) (sym (take_more script i d there))
    (done_more old.state.schema (take i script) one old middle new before after h
    (step_done old.state.schema one h.board middle new after before.tally u done))

count_by : (b : Bool) (e : Entry) (rest : List Entry) (n : ℕ) → length rest ≤ n → length (cond b (e ∷ rest) rest) ≤ n + 1
count_by true e rest n few = omega (arith, few)
count_by false e rest n few = omega (arith, few)

count_few : (test : Outcome → Bool) (entries : List Entry) → count_so test entries ≤ length entries
count_few test [] = omega arith
count_few test (e ∷ entries) =
    let few = count_by (test e.outcome) e (filter (λ x. test x.outcome) entries) (length entries) (count_few test entries) in
    omega (arith, few)

pub all_done : {K : Type 0} {words : Lasting K} (script : List ScriptStep) (old new : Serving K) (talks : Talks)
    (outputs : List Output) (entries rows : ℕ)
    (h : HasDone words old.state.schema script old new talks) → new.count ≤ most_requests
    → outputs ≡ map (output_of old.state.schema) h.board.connections → entries ≡ new.count - old.count
    → rows ≡ length new.state.running
    → Runs words script old new (Ok (record {
      outputs = outputs;
      entries = entries;
      ok = talks.tally.ok;
      errors = talks.tally.errors;
      rows = rows;
    }))
all_done script old new talks outputs entries rows h few told many last =
    let long = h.made.count_is in
    let replies = count_few is_reply h.entries in
    let errors = count_few is_error h.entries in
    AllDone h.entries h.board (record { outputs = outputs; entries = entries; ok = talks.tally.ok; errors = talks.tally.errors; rows = rows })
    h.does h.made
    (record {
      outputs = told ∙ ap (λ schema. map (output_of schema) h.board.connections) (sym (same_schema old new h.entries h.made));
      entries_are = omega (arith, many, long);
      ok = h.tallied.ok (omega (arith, replies, long, few)) ∙ omega arith;
      errors = h.tallied.errors (omega (arith, errors, long, few)) ∙ omega arith;
      rows = last;
    })

pub no_room : {K : Type 0} {words : Lasting K} (script : List ScriptStep) (old new : Serving K) (talks : Talks)
    (fault : ScriptFault)
    → HasDone words old.state.schema script old new talks → fault ≡ ScriptMemory → Runs words script old new (Err fault)
no_room {K} {words} script old new talks fault h is =
    subst (λ f. Runs words script old new (Err f)) (sym is) (HadNoRoom h.entries h.board h.does h.made)

pub no_room_in : {K : Type 0} {words : Lasting K} (script : List ScriptStep) (old new : Serving K) (talks : Talks)
    (result : Result ScriptRun ScriptFault)
    → HasDone words old.state.schema script old new talks → IsErrAnd result (λ fault. fault ≡ ScriptMemory)
    → Runs words script old new result
no_room_in script old new talks (Ok run) h none = absurd none
no_room_in script old new talks (Err fault) h is = no_room script old new talks fault h is

-- ---- outputs
told_is : (schema : Tables) (talk : Talk) (c : Connection) → Stands schema talk c → told_of talk ≡ output_of schema c
told_is schema talk c s = by talk.state s.state_is
  where
    by : (state : State) → IsIn schema state talk.text c
        → ◌≡◌ {A = Output} (record { connection = talk.number; bytes = talk.text; end = ends_with state }) (output_of schema c)
    by (Live session core) (none, same, live) =
        λ i. record { connection = sym s.number_is i; bytes = live.text_is i; end = sym none i }
    by (Over end) (is, text) = λ i. record { connection = sym s.number_is i; bytes = text i; end = sym is i }

told_all : (schema : Tables) (talks : List Talk) (connections : List Connection) → AllZip (Stands schema) talks connections
    → map told_of talks ≡ map (output_of schema) connections
told_all schema [] [] all = refl
told_all schema [] (c ∷ connections) all = absurd all
told_all schema (talk ∷ talks) [] all = absurd all
told_all schema (talk ∷ talks) (c ∷ connections) all =
    λ i. told_is schema talk c all.0 i ∷ told_all schema talks connections all.1 i

pub outputs_are : (schema : Tables) (talks : Talks) (board : Board) (result : Result (List Output) NamesMemory) → StandFor schema talks board
    → IfOk result (λ it. it ≡ map told_of talks.talks.items) → IfOk result (λ it. it ≡ map (output_of schema) board.connections)
outputs_are schema talks board (Ok outputs) stand is = is ∙ told_all schema talks.talks.items board.connections stand.each
outputs_are schema talks board (Err memory) stand is = tt
