-- What readers of a path text that is refused are given, and how they answer.
use Rattle.std.specs.Prelude.{◌≡◌, ℕ, List, Option, Some, None, MatchOption, filter}
use Rattle.std.specs.Borrow.{Bor}
use Rattle.nc_path_places.specs.declared.candidates.Names.{Names}
use Rattle.nc_path_places.specs.declared.halt.Halt.{Halt}
use Rattle.nc_path_places.specs.declared.halt.Halt.TheVariants.{Here, Memory}
use Rattle.nc_path_places.specs.inner.Candidates.{counts}
use Rattle.nc_path_places.specs.inner.Going.{Reading}

-- by what a text is read
abbrev pub reading_of : Names → Reading
reading_of names = record { tables = names.schema.now; bounds = names.every; all = names.all }

-- the bindings that count are those among all that do
pub record HasUsable (names : Names) : Type 0 where
  pub is : names.usable ≡ filter (counts names.schema.now names.every) names.every

-- so many bytes are left where it stops; of want of memory nothing is said
abbrev pub OnHere : Halt → (ℕ → Type 0) → Type 0
OnHere (Here left) P = P left
OnHere Memory P = Unit {0}

-- a number with the text after it, or nothing
abbrev pub ReadsNumber : Option (ℕ × Bor (List ℕ)) → Option (ℕ × List ℕ) → Type 0
ReadsNumber found is = MatchOption found (is ≡ None) (λ one. is ≡ Some (one.0, one.1.now))
