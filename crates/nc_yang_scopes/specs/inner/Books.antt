-- Texts with their statements under numbers.
use Rattle.std.specs.Prelude.{◌≡◌, ℕ, List, Option, Some, slice_get, option_map, option_and_then}
use Rattle.nc_yang_words.specs.declared.statement.Statement.{Statement}
use Rattle.nc_yang_scopes.specs.Scopes.{Located, found, found_in, text_of_prefix}
use Rattle.nc_yang_statements.specs.declared.keyword.Keyword.{Keyword}
use Rattle.nc_yang_scopes.specs.declared.book.Book.{Book}
use Rattle.nc_yang_scopes.specs.inner.Frames.{IsWhole}
use Rattle.nc_yang_scopes.specs.inner.Names.{AreNames}

-- every statement of the texts has a number, and names are found by them
pub record IsBook (book : Book) : Type 0 where
  pub whole : IsWhole book.texts.now book.numbering.frames book.numbering.firsts
  pub names : AreNames book.texts.now book.numbering.frames book.names

-- a book of these texts
abbrev pub IsBookOf : List Statement → Book → Type 0
IsBookOf texts book = IsBook book × (book.texts.now ≡ texts)

-- the number of a located statement, or none where there is none
abbrev pub Gives : List Located → Option ℕ → Option Located → Type 0
Gives located result wanted = option_map (slice_get located) result ≡ option_map Some wanted

-- the definition in the nearest block round the statement of a number
abbrev pub near : List Located → Keyword → List ℕ → ℕ → Option Located
near located keyword word number =
    option_and_then (λ l. found keyword word l.place.text l.place.blocks) (slice_get located number)

-- the definition of a name with a prefix
abbrev pub across : List Statement → List Located → Keyword → List ℕ → List ℕ → ℕ → Option Located
across texts located keyword prefix word number =
    option_and_then (λ l. option_and_then (found_in texts keyword word l.place)
    (text_of_prefix texts l.place.text prefix)) (slice_get located number)
