-- What the laws say.
use Rattle.std.specs.Prelude.{◌≡◌}
use Rattle.nc_yang_scopes.specs.Numbers.{IsScoping}
use Rattle.nc_yang_scopes.specs.Scopes.{Scoping}

-- there is one way to give numbers to the statements of texts
abbrev pub OneScoping : Type 0
OneScoping = (a b : Scoping) → IsScoping a → IsScoping b → a.texts ≡ b.texts → a ≡ b
