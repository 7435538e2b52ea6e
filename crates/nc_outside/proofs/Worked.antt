-- What the definitions say of a few calls, worked by computation.
use Rattle.std.proofs.Common.{◌≡◌, List, [], ◌∷◌, Some, None, Ok, true, false, refl}
use Rattle.std.specs.Prelude.{codes}
use Rattle.nc_outside.specs.Causes.{is_end}
use Rattle.nc_outside.specs.Folders.{names_of, file_of}
use Rattle.nc_outside.specs.declared.fault.Failed.{Failed}
use Rattle.nc_outside.specs.declared.files.NamedFile.{NamedFile}
use Rattle.nc_outside.specs.inner.Objects.{first_answers}

-- no byte is the end of input only where there was room for one
pub nothing_with_room_is_the_end : is_end {E = Failed} 5 (Ok 0) ≡ true
nothing_with_room_is_the_end = refl

pub nothing_without_room_is_not : is_end {E = Failed} 0 (Ok 0) ≡ false
nothing_without_room_is_not = refl

-- the readings 3 and 8, and then 8 again
pub the_last_reading_is_given_again : first_answers (3 ∷ 8 ∷ []) 4 ≡ 3 ∷ 8 ∷ 8 ∷ 8 ∷ []
the_last_reading_is_given_again = refl

pub no_reading_is_0 : first_answers [] 2 ≡ 0 ∷ 0 ∷ []
no_reading_is_0 = refl

-- a folder m with the files a and b, and a file c below it
abbrev files : List NamedFile
files =
    record { name = codes "m/a"; bytes = codes "first" } ∷ record { name = codes "m/n/c"; bytes = codes "below" }
    ∷ record { name = codes "m/b"; bytes = codes "second" } ∷ record { name = codes "m/a"; bytes = codes "again" } ∷ []

pub names_of_a_folder : names_of files (codes "m") ≡ Some (codes "a" ∷ codes "b" ∷ codes "a" ∷ [])
names_of_a_folder = refl

pub names_of_no_folder : names_of files (codes "m/a") ≡ None
names_of_no_folder = refl

pub the_first_file_of_a_name : file_of files (codes "m/a") ≡ Some (codes "first")
the_first_file_of_a_name = refl
