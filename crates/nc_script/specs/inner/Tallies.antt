-- How many replies were counted.
use Rattle.std.specs.Prelude.{◌≡◌, ◌<◌, ◌+◌, ◌^◌, true, false, List}
use Rattle.nc_model.specs.declared.entry.Entry.{Entry}
use Rattle.nc_script.specs.Runs.{count_so, is_error, is_reply}
use Rattle.nc_model.specs.declared.event.Outcome.{Outcome}
use Rattle.nc_script.specs.declared.tally.Tally.{Tally}
use Rattle.nc_script.specs.declared.tally.Told.{Told}
use Rattle.nc_script.specs.declared.tally.Told.TheVariants.{Reply, Error, Nothing}

-- the replies of these entries were counted, where the counts have room for them
pub record Tallied (old new : Tally) (entries : List Entry) : Type 0 where
  pub ok : old.ok + count_so is_reply entries < 2 ^ 64 → new.ok ≡ old.ok + count_so is_reply entries
  pub errors : old.errors + count_so is_error entries < 2 ^ 64 → new.errors ≡ old.errors + count_so is_error entries

-- what a session is told by an outcome
abbrev pub Tells : Outcome → Told → Type 0
Tells outcome Reply = (is_reply outcome ≡ true) × (is_error outcome ≡ false)
Tells outcome Error = (is_reply outcome ≡ false) × (is_error outcome ≡ true)
Tells outcome Nothing = (is_reply outcome ≡ false) × (is_error outcome ≡ false)
