-- What the words ask for, done at the server of a folder.
use Rattle.std.proofs.Common.{◌≡◌, ◌≤◌, ◌+◌, ◌-◌, ◌^◌, ℕ, List, [], length, Option, Ok, Err, refl, sym, subst, ap, ◌∙◌}
use Rattle.std.specs.Prelude.{IfSome, min}
use Rattle.nc_machine.specs.Lasting.{Lasting}
use Rattle.nc_machine.specs.Seats.{Seat, TellsReadings}
use Rattle.nc_machine.specs.Serving.{Serving}
use Rattle.nc_model.specs.State.{IsGood, State}
use Rattle.nc_model.specs.declared.entry.Entry.{Entry}
use Rattle.nc_names.specs.Limits.{most_requests}
use Rattle.nc_shared.specs.Offices.{home_at, HasServed as IsAt}
use Rattle.nc_names.specs.Counts.{Rose}
use Rattle.nc_outside.specs.Streams.{Streams}
use Rattle.nc_protocol.specs.declared.peer.Peer.{Peer}
use Rattle.nc_schema.specs.Tables.{Tables}
use Rattle.nc_server.specs.Homes.{HaveNoRecovery}
use Rattle.nc_session.specs.declared.end.SessionEnd.{SessionEnd}
use Rattle.nc_store.specs.Keeping.{Storing}
use Rattle.nc_program.proofs.Running.{is_opened}
use Rattle.nc_device.proofs.Serving.{good_along, made_so}
use Rattle.nc_reports.specs.Counts.{check_line}
use Rattle.nc_device.specs.Crashes.{Crashing, Lasts, Spares}
use Rattle.nc_device.specs.Outside.{Filing, Ground, Listening, Stored, Times, outside}
use Rattle.nc_words.specs.Printing.{IsPrinted}
use Rattle.nc_program.specs.Run.{HasNoMemory, HasNoScript, HasServed, IsChecked, IsOver, IsScripted, Runs, output_of}
use Rattle.nc_reports.specs.Scripts.{FoundIn, RunsAt, Scripts}
use Rattle.nc_device.specs.Sessions.{HasMade, IsServed, sitting}
use Rattle.nc_words.specs.Words.{IsCheck, IsScript, IsServe, IsStdio}
use Rattle.nc_words.specs.Words.{Script as ToScript, Serve as ToListen, listened, scripted}
use Rattle.nc_device.specs.Begun.{HasLeft}
use Rattle.nc_device.specs.Grounds.{IsReady}
use Rattle.nc_reports.specs.Scripting.{Finds}
use Rattle.nc_program.specs.inner.Serving.{ServesAt}
use Rattle.nc_reports.specs.declared.count.Found.{Found}
use Rattle.nc_device.specs.declared.device.Device.{Device}
use Rattle.nc_words.specs.declared.end.Printed.{Printed}
use Rattle.nc_words.specs.declared.end.RunEnd.{RunEnd}
use Rattle.nc_words.specs.declared.end.RunEnd.TheVariants.{Words, Files, Setup, Store, Memory, Session, Served, Script, Checked}
use Rattle.nc_words.specs.declared.end.ScriptEnd.{ScriptEnd}

-- a session is over
pub sat : (crashes : Crashing) (words : List (List ℕ)) (folder : List ℕ) (peer : Peer) (g h : Ground) (disk : Stored)
    (s r : Streams) (t u : Times) (l : Listening) (first : State) (schema : Tables) (modules : ℕ) (S : Device → Type 0)
    (end : SessionEnd) → IsStdio words folder peer → (ready : IsReady folder g h first schema modules S)
    → IsServed first disk.failed (Lasts crashes ready.device first) peer (sitting s t) (sitting r u) end
    → Runs crashes words (outside g.files g.disk s t l g.maker) (outside h.files disk r u l h.maker) (Session end)
sat crashes words folder peer g h disk s r t u l first schema modules S end asks ready served =
    IsOver folder peer ready.device first end asks (is_opened folder g h s t l first schema modules S ready) ready.files refl served

-- serving is over, or was not begun
pub served_so : (crashes : Crashing) (words : List (List ℕ)) (folder address : List ℕ) (g h : Ground) (disk : Stored)
    (s : Streams) (t u : Times) (l m : Listening) (first : State) (schema : Tables) (modules : ℕ) (S : Device → Type 0)
    (L : List Entry → Type 0) (Kept : Type 0) (end : RunEnd) → IsServe words folder address
    → (ready : IsReady folder g h first schema modules S)
    → ((history : List Entry) → L history → Lasts crashes ready.device first history)
    → (Kept → Spares crashes g.files folder) → ServesAt first disk.failed L Kept t u l m end
    → Runs crashes words (outside g.files g.disk s t l g.maker) (outside h.files disk s u m h.maker) end
served_so crashes words folder address g h disk s t u l m first schema modules S L Kept (Served end) asks ready less spares ((history, made, plain), ends) =
    HasServed folder address ready.device first history end asks (is_opened folder g h s t l first schema modules S ready) ready.files
    (made_so first disk.failed L (Lasts crashes ready.device first) t u history less made) plain ends refl
served_so crashes words folder address g h disk s t u l m first schema modules S L Kept Memory asks ready less spares (same, still, faults, kept) =
    HasNoMemory (ToListen folder address) folder asks (listened address)
    (λ i. outside (ready.files i) disk s (still i) (same i) h.maker) (faults ∙ ap (λ x. x.faults) ready.begins.is) (spares kept)
served_so crashes words folder address g h disk s t u l m first schema modules S L Kept Words asks ready less spares none = absurd none
served_so crashes words folder address g h disk s t u l m first schema modules S L Kept Files asks ready less spares none = absurd none
served_so crashes words folder address g h disk s t u l m first schema modules S L Kept (Setup fault) asks ready less spares none = absurd none
served_so crashes words folder address g h disk s t u l m first schema modules S L Kept (Store fault) asks ready less spares none = absurd none
served_so crashes words folder address g h disk s t u l m first schema modules S L Kept (Session end) asks ready less spares none = absurd none
served_so crashes words folder address g h disk s t u l m first schema modules S L Kept (Script end) asks ready less spares none = absurd none
served_so crashes words folder address g h disk s t u l m first schema modules S L Kept (Checked printed) asks ready less spares none = absurd none

-- what a shared machine and its clock stand for is what the server has made
pub has_made : {D : Type 0} (words : Lasting (Storing D)) (began : Serving (Storing D)) (seat : Seat (Storing D)) (disk : D)
    (failed : ℕ) (before now : Times) → IsGood began.state → before.answers ≡ seat.from → now.given ≡ seat.given
    → now.answers ≡ seat.answers → failed ≡ seat.machine.state.faults → disk ≡ seat.machine.keeper.disk
    → seat.machine.count ≤ most_requests → IsAt words began seat (home_at began.state before.answers before.given)
    → (history : List Entry) × HasMade began.state failed (HasLeft words began disk) before now history
    × HaveNoRecovery history
has_made words began seat disk failed before now good from given answers faults left few served = (
  served.history,
  record {
    legal = served.stands.legal;
    good = good_along began.state served.history good served.stands.legal;
    faults = sym (ap (λ s. s.faults) served.stands.goes_on.state_is) ∙ sym faults;
    few = subst (λ n. n ≤ most_requests) served.stands.count_is few;
    answers = answers ∙ served.stands.answers_is ∙ ap (λ n. min (n + length served.history) (2 ^ 64 - 1)) (sym from);
    readings = subst (λ g. IfSome g (TellsReadings before.given served.history)) (sym given) served.stands.readings;
    lasts = record { last = seat.machine; disk_is = sym left; goes = served.stands.goes_on };
  },
  served.plain,
)

-- a look at a server
pub looked : (crashes : Crashing) (words : List (List ℕ)) (folder : List ℕ) (g h : Ground) (disk : Stored) (s r : Streams)
    (t : Times) (l : Listening) (first : State) (schema : Tables) (modules : ℕ) (S : Device → Type 0) (found : Found)
    (printed : Printed) → IsCheck words folder → (ready : IsReady folder g h first schema modules S)
    → found.modules ≡ modules → found.nodes ≡ length schema.nodes → found.rows ≡ length first.running
    → Lasts crashes ready.device first [] → IsPrinted (check_line found) (output_of s) (output_of r) printed
    → r ≡ record s { taken = r.taken; writes_failed = r.writes_failed } → disk.failed ≡ first.faults
    → Runs crashes words (outside g.files g.disk s t l g.maker) (outside h.files disk r t l h.maker) (Checked printed)
looked crashes words folder g h disk s r t l first schema modules S found printed asks ready counted nodes rows lasts wrote same faults =
    IsChecked folder ready.device first found printed asks (is_opened folder g h s t l first schema modules S ready)
    (record {
      modules = counted ∙ ready.modules_is;
      nodes = nodes ∙ ap (λ x. length x.nodes) ready.schema_is;
      rows = rows;
    }) lasts wrote (λ i. outside (ready.files i) disk (same i) t l h.maker) (faults ∙ ap (λ x. x.faults) ready.begins.is)

-- a script is over
pub scripted_so : (crashes : Crashing) (words : List (List ℕ)) (folder file : List ℕ) (g h : Ground) (files : Filing)
    (disk : Stored) (s r : Streams) (t : Times) (l : Listening) (first : State) (schema : Tables) (modules : ℕ)
    (S : Device → Type 0) (found : Option (List ℕ)) (end : ScriptEnd) → IsScript words folder file
    → (ready : IsReady folder g h first schema modules S) → Finds file h.files files (Ok found)
    → Scripts first disk.failed (Lasts crashes ready.device first) found (output_of s) (output_of r) end
    → r ≡ record s { taken = r.taken; writes_failed = r.writes_failed }
    → Runs crashes words (outside g.files g.disk s t l g.maker) (outside files disk r t l h.maker) (Script end)
scripted_so crashes words folder file g h files disk s r t l first schema modules S found end asks ready (found_so, kept) came same =
    IsScripted folder file ready.device first found end asks (is_opened folder g h s t l first schema modules S ready)
    (subst (λ f. FoundIn f.files file found) ready.files found_so) came
    (λ i. outside ((kept ∙ ready.files) i) disk (same i) t l h.maker)

-- the file of a script was not read
pub unread : (crashes : Crashing) (words : List (List ℕ)) (folder file : List ℕ) (g h : Ground) (files : Filing)
    (disk : Stored) (s : Streams) (t : Times) (l : Listening) (first : State) (schema : Tables) (modules : ℕ)
    (S : Device → Type 0) (end : RunEnd) → IsScript words folder file → IsReady folder g h first schema modules S
    → Finds file h.files files (Err end) → disk.failed ≡ first.faults → Spares crashes g.files folder
    → Runs crashes words (outside g.files g.disk s t l g.maker) (outside files disk s t l h.maker) end
unread crashes words folder file g h files disk s t l first schema modules S Files asks ready (rose, same) faults spares =
    HasNoScript folder file ready.device first asks (is_opened folder g h s t l first schema modules S ready)
    (subst (λ f. Rose f.failed files.failed) ready.files rose) refl spares
unread crashes words folder file g h files disk s t l first schema modules S Memory asks ready same faults spares =
    HasNoMemory (ToScript folder file) folder asks (scripted file)
    (λ i. outside ((same ∙ ready.files) i) disk s t l h.maker) (faults ∙ ap (λ x. x.faults) ready.begins.is) spares
unread crashes words folder file g h files disk s t l first schema modules S Words asks ready none faults spares = absurd none
unread crashes words folder file g h files disk s t l first schema modules S (Setup fault) asks ready none faults spares = absurd none
unread crashes words folder file g h files disk s t l first schema modules S (Store fault) asks ready none faults spares = absurd none
unread crashes words folder file g h files disk s t l first schema modules S (Session end) asks ready none faults spares = absurd none
unread crashes words folder file g h files disk s t l first schema modules S (Served end) asks ready none faults spares = absurd none
unread crashes words folder file g h files disk s t l first schema modules S (Script end) asks ready none faults spares = absurd none
unread crashes words folder file g h files disk s t l first schema modules S (Checked printed) asks ready none faults spares = absurd none
