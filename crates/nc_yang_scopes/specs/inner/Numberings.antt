-- One more statement is opened.
use Rattle.std.specs.Prelude.{◌≡◌, ℕ, [], ◌∷◌, ◌++◌, length}
use Rattle.nc_yang_scopes.specs.declared.numbering.Numbering.{Numbering}
use Rattle.nc_yang_scopes.specs.Numbers.{Entry, children}

-- what stands directly in the next statement has numbers too
abbrev pub Opens : Numbering → ℕ → Entry → Numbering → Type 0
Opens old number entry new =
    (new.frames ≡ old.frames ++ children number entry) × (new.firsts ≡ old.firsts ++ length old.frames ∷ [])
