-- Connections at one server, as serving them answers.
use Rattle.std.specs.Prelude.{◌≡◌, ℕ, List}
use Rattle.nc_model.specs.State.{State}
use Rattle.nc_model.specs.declared.entry.Entry.{Entry}
use Rattle.nc_server.specs.Ends.{EndsAs}
use Rattle.nc_server.specs.Homes.{HaveNoRecovery}
use Rattle.nc_device.specs.Outside.{Listening, Times}
use Rattle.nc_device.specs.Sessions.{HasMade}
use Rattle.nc_words.specs.declared.end.RunEnd.{RunEnd}
use Rattle.nc_words.specs.declared.end.RunEnd.TheVariants.{Memory, Served}

-- serving ended so, all that was entered is one history, which begins no recovery session, and so much of it lasts; or
-- no memory was found, nothing was served, the disk did not fail, and so much is kept
abbrev pub ServesAt : State → ℕ → (List Entry → Type 0) → (Kept : Type 0) → (before now : Times) →
    (listener later : Listening) → RunEnd → Type 0
ServesAt first failed Lasts Kept before now listener later (Served end) =
    ((history : List Entry) × HasMade first failed Lasts before now history × HaveNoRecovery history)
    × EndsAs end later.failed later.over
ServesAt first failed Lasts Kept before now listener later Memory =
    (later ≡ listener) × (now ≡ before) × (failed ≡ first.faults) × Kept
ServesAt first failed Lasts Kept before now listener later end = ⊥
