-- The numbers of statements: those of the texts come first, then those that stand directly in the first statement, in
-- the second, and so on.
use Rattle.std.specs.Prelude.{◌≡◌, ℕ, ◌+◌, ◌<◌, List, [], ◌∷◌, ◌++◌, length, take, map, fold, Option, Some, None, slice_get, option_map}
use Rattle.std.specs.Option.{option_map_or}
use Rattle.nc_yang_words.specs.declared.statement.Statement.{Statement}
use Rattle.nc_yang_statements.specs.Statements.{below}
use Rattle.nc_yang_scopes.specs.Scopes.{Located, Scoping, inside}

-- a statement, the number of its text, and that of the statement in which it stands
pub record Entry : Type 0 where
  pub statement : Statement
  pub text : ℕ
  pub outer : Option ℕ

-- the statements of the texts, of which the first has this number
abbrev pub roots : ℕ → List Statement → List Entry
roots number [] = []
roots number (s ∷ ss) = record { statement = s; text = number; outer = None } ∷ roots (number + 1) ss

-- what stands directly in the statement of a number
abbrev pub children : ℕ → Entry → List Entry
children number entry =
    map (λ s. record { statement = s; text = entry.text; outer = Some number }) (below entry.statement)

-- what stands directly in these statements, of which the first has this number
abbrev pub opened : ℕ → List Entry → List Entry
opened number [] = []
opened number (entry ∷ entries) = children number entry ++ opened (number + 1) entries

-- the blocks round a statement that stands in the one of a number
abbrev pub blocks_in : List Located → Option ℕ → List (List Statement)
blocks_in before None = []
blocks_in before (Some number) = option_map_or (λ l. (inside l).blocks) (slice_get before number) []

-- where a statement stands, by those of lower numbers
abbrev pub located_after : List Located → Entry → List Located
located_after before entry =
    before ++ record {
      statement = entry.statement;
      place = record {
        text = entry.text;
        blocks = blocks_in before entry.outer;
      };
    } ∷ []

-- where each statement stands
abbrev pub located : List Entry → List Located
located entries = fold located_after [] entries

-- each statement of the texts has its number, and nothing else has one. What stands in a statement has a higher number
pub record IsScoping (scoping : Scoping) : Type 0 where
  pub entries : List Entry
  pub whole : entries ≡ roots 0 scoping.texts ++ opened 0 entries
  pub later : (number : ℕ) → number < length entries → number
      < length scoping.texts + length (opened 0 (take number entries))
  pub places : scoping.located ≡ located entries

-- those are the numbers of these statements
abbrev pub AreNumbers : List Located → List ℕ → List Located → Type 0
AreNumbers located numbers ls = map (slice_get located) numbers ≡ map Some ls

-- the number of a statement, or none where there is none
abbrev pub IsNumber : List Located → Option ℕ → Option Located → Type 0
IsNumber located number l = option_map (slice_get located) number ≡ option_map Some l

-- so it is with the statement of a number
abbrev pub OnNumber : Scoping → ℕ → (Located → Type 0) → Type 0
OnNumber scoping number P = (l : Located) → slice_get scoping.located number ≡ Some l → P l
