-- The tokens of a text.
use Rattle.std.specs.Prelude.{ℕ, zero, suc, Bool, true, false, List, [], ◌∷◌}
use Rattle.nc_yang_words.specs.Places.{after, start}
use Rattle.nc_yang_words.specs.Pieces.{piece}
use Rattle.nc_yang_words.specs.declared.place.Place.{Place}
use Rattle.nc_yang_words.specs.declared.piece.Piece.TheVariants.{Gap, Whole, Torn as NothingWhole}
use Rattle.nc_yang_words.specs.declared.token.Token.{Token}
use Rattle.nc_yang_words.specs.declared.token.Kind.TheVariants.{End, Torn}

-- RFC 7950 6.1: the tokens of a text. The last of them is its end, or what is no whole token.
-- `skip` characters belong to the piece before, and `apart` says whether white space or a comment
-- stands just before. `p` is the place of the first character
abbrev pub tokens : (skip : ℕ) (apart : Bool) (p : Place) → List ℕ → List Token
tokens skip apart p [] = (record { line = p.line; apart = apart; kind = End }) ∷ []
tokens (suc skip) apart p (c ∷ cs) = tokens skip apart (after p c) cs
tokens zero apart p (c ∷ cs) =
    elim (piece (after p c).column c cs) [
      | Gap more ↦ tokens more true (after p c) cs
      | Whole kind more ↦ (record { line = p.line; apart = apart; kind = kind }) ∷ tokens more false (after p c) cs
      | NothingWhole ↦ (record { line = p.line; apart = apart; kind = Torn }) ∷ []
    ]

-- the tokens of the characters of a text
abbrev pub tokens_of : List ℕ → List Token
tokens_of cs = tokens 0 false start cs
