-- What the outside of the program tells, at one moment.
use Rattle.std.specs.Prelude.{◌≡◌, ℕ, Bool, List, Option}
use Rattle.nc_outside.specs.Streams.{Streams}
use Rattle.nc_outside.specs.declared.files.NamedFile.{NamedFile}
use Rattle.nc_yang_leafs.specs.Patterns.{Refusals, refusing}

-- the files, where they are told, and how often they have failed
pub record Filing : Type 0 where
  pub files : Option (List NamedFile)
  pub failed : ℕ

-- that, of what is seen
abbrev pub filing : Option (List NamedFile) → ℕ → Filing
filing files failed = record { files = files; failed = failed }

-- the bytes of the disk, where it tells them, and how often it has failed
pub record Stored : Type 0 where
  pub seen : Option (List ℕ)
  pub failed : ℕ

-- that, of what is seen
abbrev pub stored : Option (List ℕ) → ℕ → Stored
stored seen failed = record { seen = seen; failed = failed }

-- all answers of the clock, where it tells them, and how many there were
pub record Times : Type 0 where
  pub given : Option (List ℕ)
  pub answers : ℕ

-- that, of what is seen
abbrev pub times : Option (List ℕ) → ℕ → Times
times given answers = record { given = given; answers = answers }

-- how often the listener has failed since it last gave a connection, and whether none will come any more
pub record Listening : Type 0 where
  pub failed : ℕ
  pub over : Bool

-- that, of what is seen
abbrev pub listening : ℕ → Bool → Listening
listening failed over = record { failed = failed; over = over }

-- how many patterns the maker of expressions has refused, and the last of their expressions
pub record Making : Type 0 where
  pub refusals : ℕ
  pub last : Option (List ℕ)

-- that, of what is seen
abbrev pub making : ℕ → Option (List ℕ) → Making
making refusals last = record { refusals = refusals; last = last }

-- what it refused between two moments
abbrev pub refusals_of : (before now : Making) → Refusals
refusals_of before now = refusing before.refusals now.refusals now.last

-- what a server is made of: the files, the disk and the maker
pub record Ground : Type 0 where
  pub files : Filing
  pub disk : Stored
  pub maker : Making

-- that, of its parts
abbrev pub ground : Filing → Stored → Making → Ground
ground files disk maker = record { files = files; disk = disk; maker = maker }

-- all of it, but standard error
pub record Outside : Type 0 where
  pub files : Filing
  pub disk : Stored
  pub streams : Streams
  pub times : Times
  pub listener : Listening
  pub maker : Making

-- that, of its parts
abbrev pub outside : Filing → Stored → Streams → Times → Listening → Making → Outside
outside files disk streams times listener maker = record {
  files = files;
  disk = disk;
  streams = streams;
  times = times;
  listener = listener;
  maker = maker;
}
