-- What the beginning of a journal gives, and what a crash leaves within it.
use Rattle.std.specs.Prelude.{◌≡◌, ℕ, List, [], Contains, Option, None}
use Rattle.nc_outside.specs.Disks.{LeavesOnly}
use Rattle.nc_journal.specs.Files.{IsNew, Holds, HoldsAmong}
use Rattle.nc_journal.specs.Journal.{Stands, allowed}
use Rattle.nc_journal.specs.Opening.{Opens, StartsAmong, StartsFresh}
use Rattle.nc_journal.specs.declared.journal.Journal.{Journal}

-- These bodies of a file are given, and the journal stands for them without doubt: none where the file was new, else
-- those of which it has a reading. Whatever a crash left, they are one of the lists that it may hold.
pub record HasBegun {D : Type 0} (seen : D → Option (List ℕ)) (may_leave : D → List ℕ → Type 0) (header : List ℕ)
    (journal : Journal D) (bodies : List (List ℕ)) (file : List ℕ) : Type 0 where
  pub opens : Opens header bodies file
  pub stands : Stands seen may_leave header journal bodies None
  pub fresh : IsNew header file → bodies ≡ []
  pub held : (others : List (List ℕ)) (doubt : Option (List (List ℕ)))
      → Holds header others doubt file → bodies ≡ others
  pub among : (lists : List (List (List ℕ))) → HoldsAmong header lists file → Contains lists bodies

-- At each moment a crash leaves what it might have left at the start, or, of a file that was new, one that is new or
-- was just made; of a file that held bodies, one that holds these, or those in doubt.
pub record BeginsSafely {D : Type 0} (may_leave : D → List ℕ → Type 0) (moment : D → ℕ)
    (left_since : D → ℕ → List ℕ → Type 0) (header : List ℕ) (start end : D) (file : List ℕ) : Type 0 where
  pub fresh : IsNew header file → LeavesOnly moment left_since start end (StartsFresh may_leave start header)
  pub held : (bodies : List (List ℕ)) (doubt : Option (List (List ℕ))) → Holds header bodies doubt file
      → LeavesOnly moment left_since start end (StartsAmong may_leave start header (allowed bodies doubt))
