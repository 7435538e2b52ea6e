use Rattle.std.proofs.Common.{◌≡◌, ◌++◌, drop}
use Rattle.std.specs.List.{filter_map}
use Rattle.nc_outside.specs.Folders as folders
use Rattle.nc_outside.proofs.files.listing.Given as goal

-- the names so far, and those of the rest of the files
abbrev pub invariant-loop-file : goal.invariant-loop-file
invariant-loop-file l =
    l.names ++ filter_map (λ f. folders.name_in l.folder f.name) (drop l.file-index l.files) ≡ filter_map (λ f. folders.name_in l.folder f.name) l.files
