-- The tokens that are still to come.
use Rattle.std.specs.Prelude.{◌≡◌, ℕ, false, if◌then◌else◌, List, [], ◌∷◌, length, ◌≤◌}
use Rattle.nc_yang_words.specs.Pieces.{is_last}
use Rattle.nc_yang_words.specs.Tokens.{tokens}
use Rattle.nc_yang_words.specs.declared.lexer.Lexer.{Lexer}
use Rattle.nc_yang_words.specs.declared.piece.Piece.{Piece}
use Rattle.nc_yang_words.specs.declared.piece.Piece.TheVariants.{Gap, Whole, Torn}
use Rattle.nc_yang_words.specs.declared.token.Token.{Token}

-- the piece has no more characters after its first than the text, and other tokens may follow it
abbrev pub IsWithin : Piece → List ℕ → Type 0
IsWithin (Gap n) cs = n ≤ length cs
IsWithin (Whole kind n) cs = (n ≤ length cs) × (is_last kind ≡ false)
IsWithin Torn cs = Unit {0}

-- the tokens that are still to come
abbrev pub left : Lexer → List Token
left l = tokens 0 false l.place l.rest.now

-- how many characters are still to come
abbrev pub ahead : Lexer → ℕ
ahead l = length l.rest.now

-- the tokens are this one and those that are left
abbrev pub Leads : Token → Lexer → List Token → Type 0
Leads t l ts = ts ≡ t ∷ (if is_last t.kind then [] else left l)
