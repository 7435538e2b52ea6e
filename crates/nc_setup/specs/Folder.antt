-- What the files in the folder of a device hold.
use Rattle.std.specs.Prelude.{◌≡◌, ◌==◌, ℕ, Bool, nat_eq, List, [], ◌∷◌, ◌++◌, map, codes, Option, unwrap_or, if◌then◌else◌, IsPermutation, IsSorted}
use Rattle.std.specs.Cmp.Lexicographic.{slice_cmp}
use Rattle.std.specs.List.{ends_with, filter}
use Rattle.std.specs.Ordering.{nat_cmp}
use Rattle.std.specs.Str.{is_utf8}
use Rattle.nc_names.specs.Signs.{slash}
use Rattle.nc_outside.specs.Folders.{names_of, file_of}
use Rattle.nc_outside.specs.declared.files.NamedFile.{NamedFile}
use Rattle.nc_yang.specs.declared.text.ModuleText.{ModuleText}
use Rattle.nc_setup.specs.declared.folder.Contents.{Contents}

-- where the texts of the modules are, in the folder of a device
unfoldable pub modules_word : List ℕ
modules_word = codes "/modules"

-- the file of the features that are on
unfoldable pub features_word : List ℕ
features_word = codes "/features.txt"

-- the file of the initial configuration
unfoldable pub initial_word : List ℕ
initial_word = codes "/initial.xml"

-- a file whose name ends so has the text of a module (RFC 7950 5.2)
abbrev pub is_module_name : List ℕ → Bool
is_module_name name = ends_with nat_eq name (codes ".yang")

-- the names of the module texts in a folder; a folder that is not there has none
abbrev pub module_names : List NamedFile → List ℕ → List (List ℕ)
module_names files modules = filter is_module_name (unwrap_or (names_of files modules) [])

-- the text of a module; that of a file that is not there is empty
abbrev pub text_in : List NamedFile → List ℕ → List ℕ → ModuleText
text_in files modules name = record { file = name; bytes = unwrap_or (file_of files (modules ++ slash ∷ name)) [] }

-- the texts of the modules, in the order of their names' bytes
pub record HoldsModules (files : List NamedFile) (folder : List ℕ) (texts : List ModuleText) : Type 0 where
  pub names : List (List ℕ)
  pub same_names : IsPermutation (module_names files (folder ++ modules_word)) names
  pub in_order : IsSorted (slice_cmp nat_cmp) names
  pub are : texts ≡ map (text_in files (folder ++ modules_word)) names

-- what ends a line
abbrev pub line_feed : ℕ
line_feed = 10

-- the last line, which no line feed ends, if there is any
abbrev pub last_line : List ℕ → List (List ℕ)
last_line [] = []
last_line (c ∷ cs) = (c ∷ cs) ∷ []

-- the lines of a text behind `line`, which is the beginning of the first of them
abbrev pub lines_from : List ℕ → List ℕ → List (List ℕ)
lines_from line [] = last_line line
lines_from line (c ∷ cs) = if c == line_feed then line ∷ lines_from [] cs else lines_from (line ++ c ∷ []) cs

-- what a line says: nothing where it is not UTF-8
abbrev pub line_text : List ℕ → List ℕ
line_text line = if is_utf8 line then line else []

-- the lines of a text
abbrev pub lines_of : List ℕ → List (List ℕ)
lines_of text = map line_text (lines_from [] text)

-- the features that are on: the lines of a file, and none where it is not there
abbrev pub features_in : List NamedFile → List ℕ → List (List ℕ)
features_in files folder = lines_of (unwrap_or (file_of files (folder ++ features_word)) [])

-- the text of the initial configuration, where it is there
abbrev pub initial_in : List NamedFile → List ℕ → Option (List ℕ)
initial_in files folder = file_of files (folder ++ initial_word)

-- the files hold this
pub record Holds (files : List NamedFile) (folder : List ℕ) (it : Contents) : Type 0 where
  pub modules : HoldsModules files folder it.modules
  pub features : it.features ≡ features_in files folder
  pub initial : it.initial ≡ initial_in files folder
