-- What a listener tells of its answers.
use Rattle.std.specs.Prelude.{◌≡◌, ℕ, Bool, true, false, Option, Some, None, Result, Ok, Err}
use Rattle.nc_names.specs.Counts.{one_more}

-- What an answer of `accept` does to the number of failures in a row, and to whether no connection will come any more:
-- a connection ends the row, an end leaves it, and a failure is one more.
abbrev pub AcceptTells : {C E : Type 0} → (before now : ℕ) → (over : Bool) → Result (Option C) E → Type 0
AcceptTells before now over (Ok (Some connection)) = (now ≡ 0) × (over ≡ false)
AcceptTells before now over (Ok None) = (now ≡ before) × (over ≡ true)
AcceptTells before now over (Err fault) = (now ≡ one_more before) × (over ≡ false)
