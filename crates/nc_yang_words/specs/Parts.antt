-- A text as its parts, one after another.
use Rattle.std.specs.Prelude.{◌≡◌, ℕ, Bool, true, false, ◌==◌, not, List, [], ◌∷◌, ◌++◌, Option, Some, None, ◌⊎◌}
use Rattle.std.specs.List.{list_all}
use Rattle.nc_names.specs.Signs.{line_feed, quote, apostrophe, asterisk, slash, semicolon, opening_brace, closing_brace, is_white}
use Rattle.nc_yang_words.specs.Signs.{utf8}
use Rattle.nc_yang_words.specs.Doubles.{Sign, signs_of, value}
use Rattle.nc_yang_words.specs.Places.{passed, start}
use Rattle.nc_yang_words.specs.Tokens.{tokens}
use Rattle.nc_yang_words.specs.declared.place.Place.{Place}
use Rattle.nc_yang_words.specs.declared.token.Token.{Token}
use Rattle.nc_yang_words.specs.declared.token.Kind.{Kind}
use Rattle.nc_yang_words.specs.declared.token.Kind.TheVariants.{Word, Quoted, Semicolon, Open, Close, End, Torn}

-- characters of a text that stand together, and the token that they are. White space and comments are
-- none
pub record Part : Type 0 where
  pub chars : List ℕ
  pub kind : Option Kind

-- the characters of parts, one after another
abbrev pub all_chars : List Part → List ℕ
all_chars [] = []
all_chars (part ∷ parts) = part.chars ++ all_chars parts

-- the tokens that parts are, from a place on, and the last. `apart` says whether white space or a
-- comment stands just before
abbrev pub part_tokens : (apart : Bool) (p : Place) → List Part → (last : Kind) → List Token
part_tokens apart p [] last = (record { line = p.line; apart = apart; kind = last }) ∷ []
part_tokens apart p (part ∷ parts) last =
    elim part.kind [
      | None ↦ part_tokens true (passed p part.chars) parts last
      | Some kind ↦
          (record { line = p.line; apart = apart; kind = kind }) ∷ part_tokens false (passed p part.chars) parts last
    ]

-- the last token is the end where no character is left, and what is no whole token where one is
abbrev pub IsLast : Kind → (rest : List ℕ) → Type 0
IsLast last rest = ((last ≡ End) × (rest ≡ [])) ⊎ ((last ≡ Torn) × ((c : ℕ) × ((cs : List ℕ) × (rest ≡ c ∷ cs))))

-- white space: a space, a tab, a LF, or the CR of a line break
abbrev pub IsSpace : List ℕ → Type 0
IsSpace chars = (c : ℕ) × ((chars ≡ c ∷ []) × (is_white c ≡ true))

-- a comment to the end of its line (RFC 7950 6.1.1)
abbrev pub IsLineComment : List ℕ → Type 0
IsLineComment chars =
    (body : List ℕ) × ((chars ≡ slash ∷ slash ∷ body) × (list_all (λ c. not (c == line_feed)) body ≡ true))

-- a comment up to its `*/`
abbrev pub IsBlockComment : List ℕ → Type 0
IsBlockComment chars = (body : List ℕ) × (chars ≡ slash ∷ asterisk ∷ (body ++ asterisk ∷ slash ∷ []))

-- a string between single quotation marks, which has none itself (RFC 7950 6.1.3)
abbrev pub IsSingleQuoted : (text chars : List ℕ) → Type 0
IsSingleQuoted text chars =
    (body : List ℕ) × ((chars ≡ apostrophe ∷ (body ++ apostrophe ∷ [])) × ((text ≡ utf8 body)
    × (list_all (λ c. not (c == apostrophe)) body ≡ true)))

-- a string between double quotation marks
abbrev pub IsDoubleQuoted : (text chars : List ℕ) → Type 0
IsDoubleQuoted text chars =
    (width : ℕ) × ((body : List ℕ) × ((signs : List Sign) × ((chars ≡ quote ∷ (body ++ quote ∷ []))
    × ((signs_of false (body ++ quote ∷ []) ≡ Some signs) × (text ≡ value width signs)))))

-- the characters of each kind of part
abbrev pub HasForm : Option Kind → List ℕ → Type 0
HasForm None chars = IsSpace chars ⊎ (IsLineComment chars ⊎ IsBlockComment chars)
HasForm (Some (Word text)) chars = text ≡ utf8 chars
HasForm (Some (Quoted text)) chars = IsSingleQuoted text chars ⊎ IsDoubleQuoted text chars
HasForm (Some Semicolon) chars = chars ≡ semicolon ∷ []
HasForm (Some Open) chars = chars ≡ opening_brace ∷ []
HasForm (Some Close) chars = chars ≡ closing_brace ∷ []
HasForm (Some End) chars = ⊥
HasForm (Some Torn) chars = ⊥

-- each has its form
abbrev pub HaveForms : List Part → Type 0
HaveForms [] = Unit {0}
HaveForms (part ∷ parts) = HasForm part.kind part.chars × HaveForms parts

-- the characters from this place on are parts, one after another, up to the text's end or to what is no
-- whole token; and their tokens are those of the parts
pub record IsInParts (apart : Bool) (p : Place) (cs : List ℕ) : Type 0 where
  pub parts : List Part
  pub rest : List ℕ
  pub last : Kind
  pub whole : cs ≡ all_chars parts ++ rest
  pub ends : IsLast last rest
  pub forms : HaveForms parts
  pub tokens_are : tokens 0 apart p cs ≡ part_tokens apart p parts last

-- a text is its parts
abbrev pub TextIsInParts : Type 0
TextIsInParts = (text : List ℕ) → IsInParts false start text
