-- The grammar of statements as a relation between a tree and its tokens (RFC 7950 6.1.3, 6.3
-- and 14).
use Rattle.std.specs.Prelude.{◌≡◌, ℕ, zero, suc, true, List, [], ◌∷◌, ◌++◌, Option, Some, None, ◌⊎◌}
use Rattle.nc_names.specs.Signs.{plus as plus_sign}
use Rattle.nc_yang_words.specs.Keywords.{is_keyword}
use Rattle.nc_yang_words.specs.Tokens.{tokens_of}
use Rattle.nc_yang_words.specs.declared.statement.Statement.{Statement}
use Rattle.nc_yang_words.specs.declared.statement.Statement.TheViews.{roll-Statement}
use Rattle.nc_yang_words.specs.declared.token.Token.{Token}
use Rattle.nc_yang_words.specs.declared.token.Kind.TheVariants.{Word, Quoted, Semicolon, Open, Close, End}

-- how many statements may stand inside one another
abbrev pub deepest : ℕ
deepest = 64

-- a statement by its parts
abbrev pub statement : (keyword : List ℕ) (argument : Option (List ℕ)) (line : ℕ) (below : List Statement) → Statement
statement keyword argument line below =
    roll-Statement (record { keyword = keyword; argument = argument; line = line; below = below })

-- more quoted strings, each after a `+`; the text is theirs, joined (RFC 7950 6.1.3)
abbrev pub AreJoined : (text : List ℕ) → List Token → Type 0
AreJoined text [] = text ≡ []
AreJoined text (plus ∷ []) = ⊥
AreJoined text (plus ∷ part ∷ ts) =
    (first : List ℕ) × ((rest : List ℕ) × ((text ≡ first ++ rest)
    × ((plus.kind ≡ Word (plus_sign ∷ [])) × ((part.kind ≡ Quoted first) × AreJoined rest ts))))

-- a quoted string, which white space or a comment parts from the keyword, and those joined to it
abbrev pub IsQuoted : (text : List ℕ) → List Token → Type 0
IsQuoted text [] = ⊥
IsQuoted text (part ∷ ts) =
    (part.apart ≡ true) × ((first : List ℕ) × ((rest : List ℕ) × ((text ≡ first ++ rest)
    × ((part.kind ≡ Quoted first) × AreJoined rest ts))))

-- an unquoted string
abbrev pub IsUnquoted : (text : List ℕ) → List Token → Type 0
IsUnquoted text ts = (t : Token) × ((ts ≡ t ∷ []) × (t.kind ≡ Word text))

-- no argument, or an unquoted or a quoted string
abbrev pub IsArgument : Option (List ℕ) → List Token → Type 0
IsArgument None ts = ts ≡ []
IsArgument (Some text) ts = IsUnquoted text ts ⊎ IsQuoted text ts

-- the tokens are those of the statements, one after another
abbrev pub AreEach : (Statement → List Token → Type 0) → List Statement → List Token → Type 0
AreEach Of [] ts = ts ≡ []
AreEach Of (s ∷ ss) ts =
    (front : List Token) × ((rest : List Token) × ((ts ≡ front ++ rest) × (Of s front × AreEach Of ss rest)))

-- `;`
abbrev pub IsSemicolon : List Statement → List Token → Type 0
IsSemicolon below ts = (below ≡ []) × ((t : Token) × ((ts ≡ t ∷ []) × (t.kind ≡ Semicolon)))

-- the statements below, between braces
pub record IsBlock (Of : Statement → List Token → Type 0) (below : List Statement) (ts : List Token) : Type 0 where
  pub opening : Token
  pub inner : List Token
  pub closing : Token
  pub whole : ts ≡ opening ∷ (inner ++ closing ∷ [])
  pub opens : opening.kind ≡ Open
  pub closes : closing.kind ≡ Close
  pub each : AreEach Of below inner

-- the tokens of one statement: its keyword, its argument, and `;` or a block
pub record IsStatement (Of : Statement → List Token → Type 0) (s : Statement) (ts : List Token) : Type 0 where
  pub keyword : Token
  pub name : List ℕ
  pub argument : Option (List ℕ)
  pub below : List Statement
  pub words : List Token
  pub block : List Token
  pub whole : ts ≡ keyword ∷ (words ++ block)
  pub tree : s ≡ statement name argument keyword.line below
  pub keyword_is : keyword.kind ≡ Word name
  pub name_is : is_keyword name ≡ true
  pub argument_is : IsArgument argument words
  pub block_is : IsSemicolon below block ⊎ IsBlock Of below block

-- the tokens are those of the statement, with at most so many statements inside one another
abbrev pub Spells : (levels : ℕ) → Statement → List Token → Type 0
Spells zero s ts = ⊥
Spells (suc levels) s ts = IsStatement (Spells levels) s ts

-- the tokens are those of the tree and the end of a text
pub record TokensSpell (ts : List Token) (root : Statement) : Type 0 where
  pub front : List Token
  pub last : Token
  pub whole : ts ≡ front ++ last ∷ []
  pub ends : last.kind ≡ End
  pub spells : Spells deepest root front

-- the text spells the tree
abbrev pub TextSpells : List ℕ → Statement → Type 0
TextSpells cs root = TokensSpell (tokens_of cs) root
