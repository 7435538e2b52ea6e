-- The words for characters, identifiers, counts, limits and paths, worked by computation.
use Rattle.std.proofs.Common.{◌≡◌, ◌^◌, ◌*◌, ◌-◌, ℕ, true, false, List, [], ◌∷◌, refl}
use Rattle.std.specs.Prelude.{codes}
use Rattle.nc_names.specs.declared.path.Step.{Step}
use Rattle.nc_names.specs.Counts.{one_more}
use Rattle.nc_names.specs.Ends.{trimmed}
use Rattle.nc_names.specs.Identifiers.{is_identifier}
use Rattle.nc_names.specs.Limits.{message_limit, piece_limit}
use Rattle.nc_names.specs.Mark.{mark}
use Rattle.nc_names.specs.Same.{is_at_or_below}
use Rattle.nc_names.specs.Signs.{blank, exclamation, quote, number_sign, ampersand, apostrophe, asterisk, plus, hyphen, dot, slash, colon, semicolon, less_than, equals, greater_than, question, opening_bracket, backslash, closing_bracket, underscore, opening_brace, bar, closing_brace, is_white}

-- the characters are those of ASCII
signs : List ℕ
signs =
    blank ∷ exclamation ∷ quote ∷ number_sign ∷ ampersand ∷ apostrophe ∷ asterisk ∷ plus ∷ hyphen ∷ dot ∷ slash ∷ colon
    ∷ semicolon ∷ less_than ∷ equals ∷ greater_than ∷ question ∷ opening_bracket ∷ backslash ∷ closing_bracket
    ∷ underscore ∷ opening_brace ∷ bar ∷ closing_brace ∷ []

signs_are : signs ≡ codes " !\"#&'*+-./:;<=>?[\\]_{|}"
unfolding signs
signs_are = refl

mark_is : mark ≡ codes "]]>]]>"
mark_is = refl

blank_is_white : is_white blank ≡ true
blank_is_white = refl

hyphen_is_not_white : is_white hyphen ≡ false
hyphen_is_not_white = refl

-- white space within a text stays, and a no-break space is none
ends_are_trimmed : trimmed (codes " \t\n\ra b \n") ≡ codes "a b"
ends_are_trimmed = refl

no_break_space_stays : trimmed (194 ∷ 160 ∷ blank ∷ []) ≡ 194 ∷ 160 ∷ []
no_break_space_stays = refl

white_alone_is_trimmed : trimmed (codes " \t ") ≡ []
white_alone_is_trimmed = refl

-- identifiers
one_identifier : is_identifier (codes "_if-2.x") ≡ true
one_identifier = refl

no_digit_first : is_identifier (codes "2x") ≡ false
no_digit_first = refl

no_colon_within : is_identifier (codes "if:x") ≡ false
no_colon_within = refl

not_empty : is_identifier [] ≡ false
not_empty = refl

-- a count stops at its last value
one_more_than_seven : one_more 7 ≡ 8
one_more_than_seven = refl

last_count : one_more (2 ^ 64 - 1) ≡ 2 ^ 64 - 1
last_count = refl

-- four mebibytes; sixteen kibibytes
message_limit_is : message_limit ≡ 4 * 2 ^ 20
message_limit_is = refl

piece_limit_is : piece_limit ≡ 16 * 2 ^ 10
piece_limit_is = refl

-- the entry `a` of the list 1 lies below the container 0, and not below the entry `b`
step : ℕ → List (List ℕ) → Step
step number names = record { node = number; keys = names }

below_the_container :
    is_at_or_below (step 0 [] ∷ []) (record { steps = step 0 [] ∷ step 1 (codes "a" ∷ []) ∷ [] }) ≡ true
unfolding step
below_the_container = refl

not_below_another :
    is_at_or_below (step 0 [] ∷ step 1 (codes "b" ∷ []) ∷ [])
    (record { steps = step 0 [] ∷ step 1 (codes "a" ∷ []) ∷ [] }) ≡ false
unfolding step
not_below_another = refl
