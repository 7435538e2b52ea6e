-- What is told of a partial lock beside the verdict on a request for it.
use Rattle.std.specs.Prelude.{◌≡◌, ℕ, List, take}
use Rattle.std.specs.Option.{option_or}
use Rattle.nc_protocol.specs.Edited.{first_cause}
use Rattle.nc_protocol.specs.declared.asked.Select.{Select}
use Rattle.nc_model.specs.State.{State}
use Rattle.nc_model.specs.Verdict.{nodes_selected, partial_lock_checks, partial_lock_refusal}
use Rattle.nc_partial.specs.Granted.{lock_given, refusal}

-- as many checks come before those of the partial locks: a commit is pending, running is locked, a select names no node
-- of the schema, and none of the nodes exists (RFC 5717 2.4.1)
abbrev pub checks_before : ℕ
checks_before = 4

-- a partial lock is refused for what is looked at before, or else for what is told of it
abbrev pub RefusedAsTold : Type 0
RefusedAsTold =
    (s : State) (session : ℕ) (selects : List Select) → partial_lock_refusal s session selects
    ≡ option_or (first_cause (take checks_before (partial_lock_checks s session selects)))
    (refusal (lock_given s session (nodes_selected s session selects)))
