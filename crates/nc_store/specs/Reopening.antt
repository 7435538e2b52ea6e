-- What the next start makes of a file.
use Rattle.std.specs.Prelude.{◌≡◌, ℕ, List, [], ◌∷◌, ◌++◌, Option, IfSome, Contains}
use Rattle.nc_names.specs.declared.path.Row.{Row}
use Rattle.nc_schema.specs.Tables.{Tables}
use Rattle.nc_schema.specs.Violations.{IsValid}
use Rattle.nc_journal.specs.Files.{IsNew, Holds}
use Rattle.nc_record.specs.Reading.{IsRead}

-- what the program is started with: the header of its modules and features, their schema, and the initial
-- configuration
pub record Setup : Type 0 where
  pub header : List ℕ
  pub tables : Tables
  pub initial : List Row

-- a body spells a configuration, which is valid (RFC 7950 8.1)
pub record IsValidRecord (tables : Tables) (body : List ℕ) (rows : List Row) : Type 0 where
  pub read : IsRead tables body rows
  pub valid : IsValid tables rows

-- the configuration that bodies stand for: the last one's, or the initial one where there is none
pub data IsBase (tables : Tables) (initial : List Row) (bodies : List (List ℕ)) (rows : List Row) : Type 0 where
  no_record : bodies ≡ [] → rows ≡ initial → IsBase tables initial bodies rows
  last_record : (earlier : List (List ℕ)) (body : List ℕ) → bodies ≡ earlier ++ body ∷ []
      → IsValidRecord tables body rows → IsBase tables initial bodies rows

-- bodies stand for one of these configurations
pub record StandsAmong (setup : Setup) (among : List (List Row)) (bodies : List (List ℕ)) : Type 0 where
  pub rows : List Row
  pub base : IsBase setup.tables setup.initial bodies rows
  pub is_among : Contains among rows

-- The next start begins with one of these configurations: the file is new, and the initial one is among them; or it
-- holds records whose last one spells one of them, and so does what may come in its place.
pub data Reopens (setup : Setup) (among : List (List Row)) (file : List ℕ) : Type 0 where
  as_new : IsNew setup.header file → Contains among setup.initial → Reopens setup among file
  as_held : (bodies : List (List ℕ)) (doubt : Option (List (List ℕ))) → Holds setup.header bodies doubt file
      → StandsAmong setup among bodies → IfSome doubt (StandsAmong setup among) → Reopens setup among file
