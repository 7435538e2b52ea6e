-- Where a text has no statements (RFC 7950 6.1 to 6.3).
use Rattle.std.specs.Prelude.{◌≡◌, ℕ, List, ◌∷◌, ◌++◌}
use Rattle.nc_yang_words.specs.Tokens.{tokens_of}
use Rattle.nc_yang_words.specs.Spelling.{TokensSpell}
use Rattle.nc_yang_words.specs.declared.fault.WordFault.{WordFault}
use Rattle.nc_yang_words.specs.declared.fault.WordFault.TheVariants.{Bad, Memory}
use Rattle.nc_yang_words.specs.declared.statement.Statement.{Statement}
use Rattle.nc_yang_words.specs.declared.token.Token.{Token}

-- some statement text has these tokens
abbrev pub IsText : List Token → Type 0
IsText ts = (root : Statement) × TokensSpell ts root

-- the text has no statements, and this is the line of its fault: there the first token begins that is
-- not whole or that no statement text has after the tokens before it. An unfinished comment is a token
-- that is not whole, and where the text ends too early the token is its end
pub record HasFaultAt (text : List ℕ) (line : ℕ) : Type 0 where
  pub before : List Token
  pub token : Token
  pub rest : List Token
  pub whole : tokens_of text ≡ before ++ token ∷ rest
  pub line_is : line ≡ token.line
  pub more : List Token
  pub possible : IsText (before ++ more)
  pub impossible : (others : List Token) → IsText (before ++ token ∷ others) → ⊥

-- a fault other than want of memory is the text's
abbrev pub IsFaultOf : List ℕ → WordFault → Type 0
IsFaultOf text (Bad line) = HasFaultAt text line
IsFaultOf text Memory = Unit {0}
