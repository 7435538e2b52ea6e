-- Some requests were answered, and as many entries were made at least.
use Rattle.nc_schema.specs.Tables.{Tables}
use Rattle.nc_session.specs.Serves.{Course}
use Rattle.nc_script.proofs.Made.{words_by}
use Rattle.nc_script.specs.inner.Hearing.{HasCounted, IsLive, Listening}
use Rattle.nc_script.proofs.hear.listen.Given as goal

abbrev pub invariant-loop-request : goal.invariant-loop-request
invariant-loop-request g l = ((schema : Tables) (course : Course) → IsLive schema l.fn.session l.fn.core l.fn.text course
    → Listening (words_by g.K.Keeper) schema l.fn.session l.fn.at course l.fn.machine l.machine l.core l.text
    l.fn.tally l.tally) × HasCounted l._request l.machine.count
