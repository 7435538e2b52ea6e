-- The names of module texts, as they are found.
use Rattle.std.specs.Prelude.{ℕ, List, IsPermutation, IsSorted}
use Rattle.std.specs.Cmp.Lexicographic.{slice_cmp}
use Rattle.std.specs.Ordering.{nat_cmp}
use Rattle.nc_outside.specs.declared.files.NamedFile.{NamedFile}
use Rattle.nc_setup.specs.Folder.{module_names}

-- these are the names of a folder's module texts, in the order of their bytes
pub record AreNamed (files : List NamedFile) (modules : List ℕ) (names : List (List ℕ)) : Type 0 where
  pub same_names : IsPermutation (module_names files modules) names
  pub in_order : IsSorted (slice_cmp nat_cmp) names
