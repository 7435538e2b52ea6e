-- Statements under numbers, as they are found, and tables of them by their words.
use Rattle.std.specs.Prelude.{◌≡◌, ℕ, ◌+◌, ◌<◌, ◌≤◌, ◌==◌, ◌&&◌, Bool, true, false, if◌then◌else◌, List, ◌++◌, length, take, Option, Some, None, slice_get, option_map, IfSome}
use Rattle.std.specs.List.{position_from}
use Rattle.nc_names.specs.Same.{is_same_text}
use Rattle.nc_yang_words.specs.declared.statement.Statement.{Statement}
use Rattle.nc_yang_statements.specs.declared.keyword.Keyword.{Keyword}
use Rattle.nc_yang_statements.specs.declared.keyword.Keyword.TheVariants.{Import}
use Rattle.nc_yang_statements.specs.Keywords.{is_same_keyword}
use Rattle.nc_yang_statements.specs.Statements.{kind, name}
use Rattle.nc_yang_scopes.specs.Numbers.{Entry, opened, roots}
use Rattle.nc_yang_scopes.specs.Scopes.{has_prefix}
use Rattle.nc_yang_scopes.specs.declared.frames.Frame.{Frame}
use Rattle.nc_yang_scopes.specs.declared.table.Table.{Table}
use Rattle.nc_yang_scopes.specs.Tables.{number_at}

-- the entry for which one of the code stands
abbrev pub entry_of : Frame → Entry
entry_of frame = record { statement = frame.statement.now; text = frame.text; outer = frame.outer }

-- the number of the first statement in the one of a number
abbrev pub first_in : List Statement → List Entry → ℕ → ℕ
first_in texts entries number = length texts + length (opened 0 (take number entries))

-- a statement stands in one of a lower number, of the same text
abbrev pub IsBehind : List Entry → ℕ → Entry → ℕ → Type 0
IsBehind entries number entry outer =
    (outer < number) × (option_map (λ o. o.text) (slice_get entries outer) ≡ Some entry.text)

-- so it is with each statement that stands in another
abbrev pub AreBehind : List Entry → Type 0
AreBehind entries =
    (number : ℕ) (entry : Entry) → slice_get entries number ≡ Some entry
    → IfSome entry.outer (IsBehind entries number entry)

-- the statements of the texts, with what stands directly in the first so many
pub record IsPart (texts : List Statement) (entries : List Entry) (firsts : List ℕ) (count : ℕ) : Type 0 where
  pub within : count ≤ length entries
  pub whole : entries ≡ roots 0 texts ++ opened 0 (take count entries)
  pub counted : length firsts ≡ count
  pub firsts_are : (number : ℕ) → number < count → slice_get firsts number ≡ Some (first_in texts entries number)
  pub later : (number : ℕ) → number < count → number < first_in texts entries number
  pub behind : AreBehind entries

-- all statements of the texts
abbrev pub IsWhole : List Statement → List Entry → List ℕ → Type 0
IsWhole texts entries firsts = IsPart texts entries firsts (length entries)

-- an import
abbrev pub is_import : Keyword → Bool
is_import Import = true
is_import keyword = false

-- the word by which a statement of a keyword is looked up: an import's is its prefix
abbrev pub is_called : Keyword → List ℕ → Statement → Bool
is_called keyword word s = if is_import keyword then has_prefix word s else is_same_text (name s) word

-- a statement has that keyword, and is looked up by this word
abbrev pub is_one : Keyword → List ℕ → Statement → Bool
is_one keyword word s = is_same_keyword keyword (kind s) && is_called keyword word s

-- there is a statement around, and it has that number
abbrev pub is_in : ℕ → Option ℕ → Bool
is_in block None = false
is_in block (Some outer) = outer == block

-- it stands directly in the statement of that number, and is looked up there by this word
abbrev pub is_known : Keyword → ℕ → List ℕ → Entry → Bool
is_known keyword block word entry = is_in block entry.outer && is_one keyword word entry.statement

-- the table has the first statement of that keyword of each word in each block
abbrev pub IsTable : Keyword → List Entry → Table → Type 0
IsTable keyword entries table =
    (block : ℕ) (word : List ℕ) → number_at table block word ≡ position_from (is_known keyword block word) 0 entries
