-- The parts of a statement, and which statements stand in others (RFC 7950 6.3).
use Rattle.std.specs.Prelude.{◌≡◌, ℕ, List, [], ◌∷◌, Option, Some, None, Bool, false, find}
use Rattle.std.specs.List.{list_any}
use Rattle.nc_yang_words.specs.declared.statement.Statement.{Statement}
use Rattle.nc_yang_words.specs.declared.statement.Statement.TheViews.{out-Statement}
use Rattle.nc_yang_statements.specs.declared.keyword.Keyword.{Keyword}
use Rattle.nc_yang_statements.specs.Keywords.{keyword_of, is_same_keyword, is_closed}

-- the line on which a statement begins
abbrev pub line : Statement → ℕ
line s = (out-Statement s).line

-- the statements that stand directly in it
abbrev pub below : Statement → List Statement
below s = (out-Statement s).below

-- its argument, if it has one
abbrev pub argument : Statement → Option (List ℕ)
argument s = (out-Statement s).argument

-- its keyword
abbrev pub kind : Statement → Keyword
kind s = keyword_of (out-Statement s).keyword

-- a text, or the empty one
abbrev pub text_or_nothing : Option (List ℕ) → List ℕ
text_or_nothing None = []
text_or_nothing (Some text) = text

-- the argument; of a statement without one the empty text
abbrev pub name : Statement → List ℕ
name s = text_or_nothing (argument s)

-- one of the statements has that keyword
abbrev pub has : Keyword → List Statement → Bool
has keyword ss = list_any (λ t. is_same_keyword keyword (kind t)) ss

-- the first of the statements that has it
abbrev pub part : Keyword → List Statement → Option Statement
part keyword ss = find (λ t. is_same_keyword keyword (kind t)) ss

-- a statement is one of these, or stands somewhere below one, and below none that is passed over or that the server
-- does not have
pub data Stands : List Statement → Statement → Type 0 where
  itself : (s : Statement) (ss : List Statement) → Stands (s ∷ ss) s
  inside : (s t : Statement) (ss : List Statement) → is_closed (kind s) ≡ false → Stands (below s) t → Stands (s ∷ ss) t
  later : (s t : Statement) (ss : List Statement) → Stands ss t → Stands (s ∷ ss) t
