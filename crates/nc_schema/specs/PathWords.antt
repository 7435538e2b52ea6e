-- The words of an instance identifier (RFC 7950 9.13, 14) before a schema gives them a meaning: names
-- with their prefixes, predicates and steps. Each reading gives what stands first in a text, and the
-- text after it.
use Rattle.std.specs.Prelude.{ℕ, zero, suc, Bool, false, ◌==◌, ◌||◌, if◌then◌else◌, List, [], ◌∷◌, length, Option, Some, None, option_and_then, option_map}
use Rattle.nc_names.specs.Ends.{after_white, past}
use Rattle.nc_names.specs.Signs.{begins_identifier, is_in_identifier, apostrophe, quote, dot, slash, colon, equals, opening_bracket, closing_bracket}
use Rattle.nc_schema.specs.declared.written.WrittenName.{WrittenName}
use Rattle.nc_schema.specs.declared.written.WrittenPredicate.{WrittenPredicate}
use Rattle.nc_schema.specs.declared.written.WrittenStep.{WrittenStep}

-- goes on with what was found, if anything was
infixl 10 ◌>>=◌
-- one reading after another
abbrev pub ◌>>=◌ : {A B : Type 0} → Option A → (A → Option B) → Option B
o >>= f = option_and_then f o

-- the signs at the front that pass; `past` is the text after them
abbrev pub leading : (ℕ → Bool) → List ℕ → List ℕ
leading p [] = []
leading p (c ∷ cs) = if p c then c ∷ leading p cs else []

-- the text after this sign
abbrev pub sign : ℕ → List ℕ → Option (List ℕ)
sign wanted [] = None
sign wanted (c ∷ cs) = if c == wanted then Some cs else None

-- the text begins with this sign
abbrev pub begins_with : ℕ → List ℕ → Bool
begins_with wanted [] = false
begins_with wanted (c ∷ cs) = c == wanted

-- the text begins with a sign with which an identifier can begin (RFC 7950 6.2)
abbrev pub begins_name : List ℕ → Bool
begins_name [] = false
begins_name (c ∷ cs) = begins_identifier c

-- an identifier (RFC 7950 6.2)
abbrev pub identifier : List ℕ → Option (List ℕ × List ℕ)
identifier text =
    if begins_name text then Some (leading is_in_identifier text, past is_in_identifier text) else None

-- `prefix:name`
unfoldable pub written_name : List ℕ → Option (WrittenName × List ℕ)
written_name text = do
  prefix ← identifier text
  after ← sign colon prefix.1
  name ← identifier after
  Some (record { prefix = prefix.0; name = name.0 }, name.1)

-- what stands before the next such sign, and the text after that
abbrev pub up_to : ℕ → List ℕ → Option (List ℕ × List ℕ)
up_to mark [] = None
up_to mark (c ∷ cs) =
    if c == mark then Some ([], cs) else option_map (λ found. (c ∷ found.0, found.1)) (up_to mark cs)

-- a value between two quotation marks of one kind (`quoted-string`)
unfoldable pub quoted_string : List ℕ → Option (List ℕ × List ℕ)
quoted_string [] = None
quoted_string (c ∷ cs) = if c == apostrophe || c == quote then up_to c cs else None

-- `prefix:name`, or `.`
unfoldable pub predicate_key : List ℕ → Option (Option WrittenName × List ℕ)
predicate_key text =
    if begins_with dot text then option_map (λ after. (None, after)) (sign dot text)
    else option_map (λ found. (Some found.0, found.1)) (written_name text)

-- `[prefix:name='value']` or `[.='value']`, with white space next to the signs
unfoldable pub predicate : List ℕ → Option (WrittenPredicate × List ℕ)
predicate text = do
  inside ← sign opening_bracket text
  key ← predicate_key (after_white inside)
  after ← sign equals (after_white key.1)
  value ← quoted_string (after_white after)
  rest ← sign closing_bracket (after_white value.1)
  Some (record { key = key.0; value = value.0 }, rest)

-- predicates, as long as there are any; `most` is not less than their number
abbrev pub predicates : (most : ℕ) → List ℕ → Option (List WrittenPredicate × List ℕ)
predicates zero text = Some ([], text)
predicates (suc most) text =
    if begins_with opening_bracket text
    then (predicate text >>= (λ first. option_map (λ more. (first.0 ∷ more.0, more.1)) (predicates most first.1)))
    else Some ([], text)

-- `/prefix:name` and its predicates
unfoldable pub written_step : List ℕ → Option (WrittenStep × List ℕ)
written_step text = do
  after ← sign slash text
  name ← written_name after
  found ← predicates (length name.1) name.1
  Some (record { name = name.0; predicates = found.0 }, found.1)

-- steps up to the end of the text; `most` is not less than their number
abbrev pub steps_within : (most : ℕ) → List ℕ → Option (List WrittenStep)
steps_within most [] = Some []
steps_within zero (c ∷ cs) = None
steps_within (suc most) (c ∷ cs) =
    written_step (c ∷ cs) >>= (λ first. option_map (λ more. first.0 ∷ more) (steps_within most first.1))

-- one step or more
abbrev pub written_steps : List ℕ → Option (List WrittenStep)
written_steps [] = None
written_steps (c ∷ cs) = steps_within (length (c ∷ cs)) (c ∷ cs)

-- predicates alone, as of the anchor of an insertion (RFC 7950 7.8.6)
abbrev pub only_predicates : List ℕ → Option (List WrittenPredicate)
only_predicates text = predicates (length text) text >>= (λ found. if length found.1 == 0 then Some found.0 else None)
