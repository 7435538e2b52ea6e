-- A session that was served, in wider words of what its desk stands for and when it is spent.
use Rattle.std.proofs.Common.{ℕ, List, ◌∷◌, ◌++◌, []}
use Rattle.nc_outside.specs.Streams.{Streams}
use Rattle.nc_schema.specs.Tables.{Tables}
use Rattle.nc_model.specs.declared.entry.Entry.{Entry}
use Rattle.nc_session.specs.declared.end.SessionEnd.{SessionEnd}
use Rattle.nc_session.specs.declared.end.SessionEnd.TheVariants.{Closed, InputEnded, BadHello, BadFrame, Malformed, TooBig, Killed, ReadFault, WriteFault, Full, Spent, Memory}
use Rattle.nc_session.specs.Serves.{Call, Concludes, Ends, IsDead, IsOver, NoPlace, NoStart, Served, Serves, Unstarted, WasSpent}

module _ {schema : Tables} {call : Call} {S : List Entry → List Entry → Type 0} {P : ℕ → Type 0} where
  -- the lists for which the desk stands afterwards
  pub stood_by : {now : Streams} {end : SessionEnd} → Serves schema call S P now end →
      (seen : List Entry) × (mine : List Entry) × S seen mine
  stood_by (NoStart end more unstarted same stands) = (call.seen ++ more, call.mine, stands)
  stood_by (NoPlace live last more start starts same stands) = (call.seen ++ more, call.mine ++ start ∷ [], stands)
  stood_by (Served session more later ended course standing met end has over killed stands) =
      (call.seen ++ (more ++ later), call.mine ++ (course.entries ++ ended), stands)

module _ (schema : Tables) (call : Call) (S T : List Entry → List Entry → Type 0) (P Q : ℕ → Type 0)
    (stands : (seen mine : List Entry) → S seen mine → T seen mine) (spent : (ticket : ℕ) → P ticket → Q ticket) where
  unstarted : (more : List Entry) (end : SessionEnd) → Unstarted call.home call.seen P more end →
      Unstarted call.home call.seen Q more end
  unstarted more (Spent ticket) (last, is, none) = (last, spent ticket is, none)
  unstarted more Memory is = is
  unstarted more Closed is = is
  unstarted more InputEnded is = is
  unstarted more (BadHello why) is = is
  unstarted more (BadFrame at) is = is
  unstarted more (Malformed at why) is = is
  unstarted more (TooBig at) is = is
  unstarted more Killed is = is
  unstarted more ReadFault is = is
  unstarted more WriteFault is = is
  unstarted more (Full live last) is = is

  concludes : (seen : List Entry) (session : ℕ) (standing : _) (met : SessionEnd) (later ended : List Entry)
      (end : SessionEnd) → Concludes call.home seen P session standing met later ended end →
      Concludes call.home seen Q session standing met later ended end
  concludes seen session standing met later ended end (IsOver other) = IsOver other
  concludes seen session standing met later ended end (WasSpent ticket last is) = WasSpent ticket last (spent ticket is)
  concludes seen session standing met later ended end (Ends others e alone live fresh event outcome) =
      Ends others e alone live fresh event outcome
  concludes seen session standing met later ended end (IsDead others e alone live fresh event outcome) =
      IsDead others e alone live fresh event outcome

  pub widened : (now : Streams) (end : SessionEnd) → Serves schema call S P now end → Serves schema call T Q now end
  widened now end (NoStart end2 more is same stood) = NoStart end2 more (unstarted more end2 is) same (stands _ _ stood)
  widened now end (NoPlace live last more start is same stood) = NoPlace live last more start is same (stands _ _ stood)
  widened now end (Served session more later ended course standing met end2 has over killed stood) =
      Served session more later ended course standing met end2 has
      (concludes (call.seen ++ more) session standing met later ended end2 over) killed (stands _ _ stood)
