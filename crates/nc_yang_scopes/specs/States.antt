-- What is state, and what a configuration (RFC 7950 7.21.1).
use Rattle.std.specs.Prelude.{◌≡◌, ℕ, ◌&&◌, ◌||◌, not, Bool, false, List, [], Some, Contains, slice_get}
use Rattle.std.specs.Option.{option_map_or}
use Rattle.nc_yang_words.specs.declared.statement.Statement.{Statement}
use Rattle.nc_yang_statements.specs.declared.fault.Fault.{Fault}
use Rattle.nc_yang_statements.specs.declared.fault.ModuleWhy.TheVariants.{BadArgument}
use Rattle.nc_yang_statements.specs.declared.keyword.Keyword.TheVariants.{Config, Grouping}
use Rattle.nc_yang_statements.specs.Arguments.{is_false_text, is_true_text}
use Rattle.nc_yang_statements.specs.Keywords.{is_closed, is_same_keyword}
use Rattle.nc_yang_statements.specs.Statements.{below, kind, name, part}
use Rattle.nc_yang_statements.specs.Rules.{at_if}

-- `config false`: its nodes are state and no part of a configuration
abbrev pub is_state : Statement → Bool
is_state s = option_map_or (λ c. is_false_text (name c)) (part Config (below s)) false

-- what stands directly in a statement stands in state: the statement is state, or stands in state itself. The nodes of
-- a grouping stand where it is used
abbrev pub is_state_in : (state : Bool) → Statement → Bool
is_state_in state s = is_state s || (state && not (is_same_keyword Grouping (kind s)))

-- the `config true` of a statement that stands in state
abbrev pub configured : (state : Bool) → Statement → List Fault
configured state s =
    option_map_or (λ c. at_if (state && is_true_text (name c)) c BadArgument) (part Config (below s)) []

-- a statement, or one that stands in it and in none that is passed over, stands in state and says `config true`
pub data BreaksState : (state : Bool) → Statement → Fault → Type 0 where
  itself : (state : Bool) (s : Statement) (fault : Fault) → is_closed (kind s) ≡ false
      → Contains (configured state s) fault → BreaksState state s fault
  inside : (state : Bool) (s t : Statement) (place : ℕ) (fault : Fault) → is_closed (kind s) ≡ false
      → slice_get (below s) place ≡ Some t → BreaksState (is_state_in state s) t fault → BreaksState state s fault

-- no rule on `config` is broken
abbrev pub KeepsState : (state : Bool) → Statement → Type 0
KeepsState state s = (fault : Fault) → BreaksState state s fault → ⊥
