-- What a list of files answers for a name and for a folder.
use Rattle.std.specs.Prelude.{ℕ, ◌+◌, ◌==◌, List, [], ◌∷◌, ◌++◌, length, drop, nat_eq, Option, None, Some, is_some, option_and_then, find, if◌then◌else◌}
use Rattle.std.specs.List.{starts_with, list_any, filter_map}
use Rattle.std.specs.Str.{bytes_eq}
use Rattle.std.specs.Option.{option_map}
use Rattle.nc_names.specs.Signs.{slash}
use Rattle.nc_outside.specs.declared.files.NamedFile.{NamedFile}

-- the bytes of the first file of this name
abbrev pub file_of : List NamedFile → List ℕ → Option (List ℕ)
file_of files name = option_map (λ f. f.bytes) (find (λ f. bytes_eq f.name name) files)

-- what stands after the folder and a slash in a name that begins with them
abbrev pub name_below : List ℕ → List ℕ → Option (List ℕ)
name_below folder name =
    if starts_with nat_eq name (folder ++ slash ∷ []) then Some (drop (length folder + 1) name) else None

-- the same, where no further slash stands in it: the name within the folder
abbrev pub name_in : List ℕ → List ℕ → Option (List ℕ)
name_in folder name =
    option_and_then (λ rest. if list_any (λ c. c == slash) rest then None else Some rest) (name_below folder name)

-- A folder is there where a file's name begins with it and a slash. Its names are in the order of
-- the files; one comes twice where two files have the same name.
abbrev pub names_of : List NamedFile → List ℕ → Option (List (List ℕ))
names_of files folder =
    if list_any (λ f. is_some (name_below folder f.name)) files
    then Some (filter_map (λ f. name_in folder f.name) files)
    else None
