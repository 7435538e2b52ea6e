-- What comes of a request, and its entry.
use Rattle.std.proofs.Common.{◌≡◌, ◌≤◌, ◌&&◌, ℕ, Bool, true, false, cond, List, refl, sym, ap, subst, ◌∙◌, inl, inr, Option, Result, Ok, Err}
use Rattle.std.specs.Prelude.{IfOk, IfSome, OnErr}
use Rattle.nc_names.specs.declared.memory.Memory.{Memory}
use Rattle.nc_names.specs.declared.path.Row.{Row}
use Rattle.nc_schema.specs.Record.{record_size}
use Rattle.nc_names.specs.Limits.{body_limit}
use Rattle.nc_schema.specs.Tables.{Tables}
use Rattle.nc_schema.specs.Violations.{IsValid}
use Rattle.nc_model.specs.declared.event.Event.TheVariants.{Request as Requested}
use Rattle.nc_model.specs.declared.event.Outcome.{Outcome}
use Rattle.nc_model.specs.declared.event.Outcome.TheVariants.{NotLive}
use Rattle.nc_protocol.specs.declared.request.Request.{Request}
use Rattle.nc_protocol.specs.declared.verdict.Verdict.{Verdict}
use Rattle.nc_protocol.specs.Proper.{IsProper}
use Rattle.nc_model.specs.State.{State, base_of, candidate_in_force, expired, is_live}
use Rattle.nc_model.specs.Step.{CountsFaults, answer_to, appends_record, has_failed, is_done, outcome_of, reaches_disk}
use Rattle.nc_model.specs.Verdict.{verdict}
use Rattle.nc_courses.specs.declared.course.Change.{Change}
use Rattle.nc_courses.specs.declared.course.Course.TheVariants.{Answer, Commit}
use Rattle.nc_machine.specs.Lasting.{Lasting, LeavesStanding}
use Rattle.nc_courses.specs.inner.Courses.{course, made}
use Rattle.nc_machine.specs.inner.Turns.{Answers, Commits, Enters, IsKeeping, IsKept, IsNotKept, answered_by}
use Rattle.nc_machine.proofs.Courses.{IsAnswer, IsCommit, answers, commits}
use Rattle.nc_machine.proofs.Keeping.{by_schema, keeping_stays, made_keeps, read_keeps}

-- ---- a request that is answered

-- it leaves what is kept, as a reading of the clock does
module _ {K : Type 0} (schema : K → Option Tables) (base : K → List Row) (failures : K → ℕ) (words : Lasting K) where
  pub keeping_read : (s new : State) (keeper : K) (at : ℕ) → IsKeeping schema base failures words s keeper → new ≡ expired s at →
      IsKeeping schema base failures words new keeper
  keeping_read s new keeper at keeping is =
      subst (λ (t : State). IsKeeping schema base failures words t keeper) (sym is)
      (keeping_stays schema base failures words s (expired s at) keeper keeping (read_keeps s at))

  keeping_made : (s new : State) (keeper : K) (session : ℕ) (change : Change) → IsKeeping schema base failures words s keeper →
      new ≡ made s session change → IsKeeping schema base failures words new keeper
  keeping_made s new keeper session change keeping is =
      subst (λ (t : State). IsKeeping schema base failures words t keeper) (sym is)
      (keeping_stays schema base failures words s (made s session change) keeper keeping (made_keeps s session change))

  pub keeping_answered : (s new : State) (keeper : K) (session : ℕ) (change : Change) (result : Result Outcome Memory) →
      IsKeeping schema base failures words s keeper → IfOk result (λ it. new ≡ made s session change) →
      OnErr result (new ≡ s) → IsKeeping schema base failures words new keeper
  keeping_answered s new keeper session change (Ok outcome) keeping ok err =
      keeping_made s new keeper session change keeping ok
  keeping_answered s new keeper session change (Err memory) keeping ok err =
      subst (λ (t : State). IsKeeping schema base failures words t keeper) (sym err) keeping

not_reached : (live appends done : Bool) → (appends && done) ≡ false → ((live && appends) && done) ≡ false
not_reached true appends done is = is
not_reached false appends done is = refl

reach_is : (s : State) (session : ℕ) (request : Request) (v : Verdict) (c : Change) → IsAnswer s session request v c →
    reaches_disk s (Requested session request) ≡ false
reach_is s session request v c answer =
    not_reached (is_live s session) (appends_record request.asked) (is_done (verdict s session request false))
    (ap (λ (w : Verdict). appends_record request.asked && is_done w) (answer.verdict_is false) ∙ answer.disk)

live_outcome : (s : State) (session : ℕ) (request : Request) (failed : Bool) → is_live s session ≡ true →
    answer_to s session request failed ≡ outcome_of s (Requested session request) failed
live_outcome s session request failed live =
    sym (ap (λ (b : Bool). cond b (answer_to s session request failed) NotLive) live)

pub answered_is : (s new : State) (session : ℕ) (request : Request) (v : Verdict) (c : Change) (outcome : Outcome) →
    true ≡ is_live s session → Answer v c ≡ course s session request →
    outcome ≡ answered_by s session request v → new ≡ made s session c → Answers s new session request outcome
unfolding answered_by
answered_is s new session request v c outcome live is told new_is =
    let answer = answers s session request v c (sym is) in
    let failed = has_failed (answered_by s session request v) in
    subst (λ (o : Outcome). Answers s new session request o) (sym told)
    (subst (λ (n : State). Answers s n session request (answered_by s session request v)) (sym new_is)
    (record {
      outcome_is = ap (answered_by s session request) (sym (answer.verdict_is failed))
          ∙ live_outcome s session request failed (sym live);
      faults = subst (λ (b : Bool). CountsFaults b failed s.faults (made s session c).faults)
          (sym (reach_is s session request v c answer)) (made_keeps s session c).faults_is;
      state_is = ap (λ (n : State). record n { faults = (made s session c).faults }) (sym answer.state_is);
    }))

pub not_live : (s : State) (session : ℕ) (request : Request) → false ≡ is_live s session → Answers s s session request NotLive
not_live s session request dead = record {
  outcome_is = sym (ap (λ (b : Bool). cond b (answer_to s session request false) NotLive) (sym dead));
  faults = subst (λ (b : Bool). CountsFaults ((b && appends_record request.asked) && is_done (verdict s session request false)) false s.faults s.faults)
      dead refl;
  state_is = refl;
}

pub unreached : (s : State) (session : ℕ) (request : Request) (v : Verdict) (c : Change) →
    Answer v c ≡ course s session request → reaches_disk s (Requested session request) ≡ false
unreached s session request v c is = reach_is s session request v c (answers s session request v c (sym is))

-- ---- a commit

commit_reaches : (s : State) (session : ℕ) (request : Request) → is_live s session ≡ true → IsCommit s session request →
    reaches_disk s (Requested session request) ≡ true
commit_reaches s session request live commit =
    ap (λ (b : Bool). (b && appends_record request.asked) && is_done (verdict s session request false)) live
    ∙ (ap (λ (b : Bool). b && is_done (verdict s session request false)) commit.appends
    ∙ ap is_done (commit.verdict_is false))

pub reaches : (s : State) (session : ℕ) (request : Request) → true ≡ is_live s session → Commit ≡ course s session request →
    reaches_disk s (Requested session request) ≡ true
reaches s session request live is = commit_reaches s session request (sym live) (commits s session request (sym is))

kept_is : (s new : State) (session : ℕ) (request : Request) (outcome : Outcome) → is_live s session ≡ true →
    IsCommit s session request → IsKept s new session request outcome → Answers s new session request outcome
unfolding answered_by
kept_is s new session request outcome live commit kept =
    subst (λ (o : Outcome). Answers s new session request o) (sym kept.outcome_is)
    (record {
      outcome_is = ap (answered_by s session request) (sym (commit.verdict_is false)) ∙ live_outcome s session request false live;
      faults = subst (λ (b : Bool). CountsFaults b false s.faults new.faults)
          (sym (commit_reaches s session request live commit)) kept.faults;
      state_is = kept.state_is ∙ ap (λ (n : State). record n { faults = new.faults }) (sym commit.done);
    })

not_kept_is : (s new : State) (session : ℕ) (request : Request) (outcome : Outcome) → is_live s session ≡ true →
    IsCommit s session request → IsNotKept s new session request outcome → Answers s new session request outcome
unfolding answered_by
not_kept_is s new session request outcome live commit kept =
    subst (λ (o : Outcome). Answers s new session request o) (sym kept.outcome_is)
    (record {
      outcome_is = ap (answered_by s session request) (sym (commit.verdict_is true)) ∙ live_outcome s session request true live;
      faults = subst (λ (b : Bool). CountsFaults b true s.faults new.faults)
          (sym (commit_reaches s session request live commit)) kept.faults;
      state_is = kept.state_is ∙ ap (λ (n : State). record n { faults = new.faults }) (sym commit.failed);
    })

pub committed_is : (s new : State) (session : ℕ) (request : Request) (outcome : Outcome) →
    true ≡ is_live s session → Commit ≡ course s session request → Commits s new session request (Ok outcome) →
    Answers s new session request outcome
committed_is s new session request outcome live is (inl kept) =
    kept_is s new session request outcome (sym live) (commits s session request (sym is)) kept
committed_is s new session request outcome live is (inr kept) =
    not_kept_is s new session request outcome (sym live) (commits s session request (sym is)) kept

-- a commit as the code makes it
pub commit_told : (s new : State) (session : ℕ) (request : Request) (result : Result Outcome Memory) →
    true ≡ is_live s session → Commit ≡ course s session request → Commits s new session request result →
    IfOk result (λ it. Answers s new session request it)
commit_told s new session request (Ok outcome) live is commits = committed_is s new session request outcome live is commits
commit_told s new session request (Err memory) live is commits = tt

committed_schema : (s new : State) (session : ℕ) (request : Request) (result : Result Outcome Memory) →
    Commits s new session request result → new.schema ≡ s.schema
committed_schema s new session request (Ok outcome) (inl kept) = ap (λ (t : State). t.schema) kept.state_is
committed_schema s new session request (Ok outcome) (inr kept) = ap (λ (t : State). t.schema) kept.state_is
committed_schema s new session request (Err memory) is = ap (λ (t : State). t.schema) is

-- the keeper keeps what is running now
pub keeping_committed : {K : Type 0} (schema : K → Option Tables) (base : K → List Row) (failures : K → ℕ)
    (words : Lasting K) (s new : State) (before after : K) (session : ℕ) (request : Request) (result : Result Outcome Memory) →
    IsKeeping schema base failures words s before → Commits s new session request result → schema after ≡ schema before →
    base after ≡ base_of new → LeavesStanding base words after → failures after ≡ new.faults →
    IsKeeping schema base failures words new after
keeping_committed schema base failures words s new before after session request result keeping commits same kept stands faults = record {
  schema_is = subst (λ (found : Option Tables). IfSome found (λ tables. tables ≡ new.schema)) (sym same)
      (by_schema (schema before) s.schema new.schema (committed_schema s new session request result commits) keeping.schema_is);
  kept = kept;
  stands = stands;
  faults = faults;
}

-- what it makes running is valid, and its record has room
pub commit_valid : (s : State) (session : ℕ) (request : Request) → Commit ≡ course s session request →
    IsValid s.schema (candidate_in_force s)
commit_valid s session request is = (commits s session request (sym is)).valid

pub commit_small : (s : State) (session : ℕ) (request : Request) → Commit ≡ course s session request →
    record_size (candidate_in_force s) ≤ body_limit
commit_small s session request is = (commits s session request (sym is)).small

pub commit_wanted : {K : Type 0} (s new : State) (before after : K) (session : ℕ) (request : Request)
    (result : Result Outcome Memory) → Commits s new session request result → OnErr result (after ≡ before) →
    OnErr result ((new ≡ s) × (after ≡ before))
commit_wanted s new before after session request (Ok outcome) commits same = tt
commit_wanted s new before after session request (Err memory) commits same = (commits, same)

-- ---- the entry of an event

request_enters : (old new : State) (number session : ℕ) (request : Request) (at : ℕ) (outcome : Outcome) →
    IsProper request → Answers (expired old at) new session request outcome →
    Enters old new number (Requested session request) at (record {
      number = number;
      at = at;
      event = Requested session request;
      outcome = outcome;
      faults_before = (expired old at).faults;
      faults_after = new.faults;
    })
request_enters old new number session request at outcome proper answers = record {
  event_is = refl;
  at_is = refl;
  number_is = refl;
  fits = record {
    proper = proper;
    outcome = answers.outcome_is;
    before = (read_keeps old at).faults_is;
    faults = answers.faults;
  };
  state_is = answers.state_is;
}

-- of a request, as the code makes it
pub request_told : (old read new : State) (number session : ℕ) (request : Request) (at : ℕ) (outcome : Outcome)
    (faults_before faults_after : ℕ) → IsProper request → read ≡ expired old at → faults_before ≡ read.faults →
    faults_after ≡ new.faults → Answers read new session request outcome →
    Enters old new number (Requested session request) at (record {
      number = number;
      at = at;
      event = Requested session request;
      outcome = outcome;
      faults_before = faults_before;
      faults_after = faults_after;
    })
request_told old read new number session request at outcome faults_before faults_after proper is before after answers =
    let enters = request_enters old new number session request at outcome proper
    (subst (λ (s : State). Answers s new session request outcome) is answers) in
    let first : (expired old at).faults ≡ faults_before = sym (before ∙ ap (λ (s : State). s.faults) is) in
    subst (λ (n : ℕ). Enters old new number (Requested session request) at (record {
      number = number;
      at = at;
      event = Requested session request;
      outcome = outcome;
      faults_before = faults_before;
      faults_after = n;
    })) (sym after)
    (subst (λ (n : ℕ). Enters old new number (Requested session request) at (record {
      number = number;
      at = at;
      event = Requested session request;
      outcome = outcome;
      faults_before = n;
      faults_after = new.faults;
    })) first enters)
