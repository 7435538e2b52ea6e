-- The rules on names at the statement of a number, which may not be there.
use Rattle.std.specs.Prelude.{◌≡◌, ℕ, ◌&&◌, Bool, false, List, ◌++◌, Option, Some, is_none, slice_get, option_map, option_and_then, MatchOption}
use Rattle.std.specs.Option.{option_map_or}
use Rattle.nc_yang_words.specs.declared.statement.Statement.{Statement}
use Rattle.nc_yang_statements.specs.declared.fault.Fault.{Fault}
use Rattle.nc_yang_statements.specs.declared.fault.ModuleWhy.TheVariants.{Twice, UnknownName}
use Rattle.nc_yang_statements.specs.declared.keyword.Keyword.{Keyword}
use Rattle.nc_yang_statements.specs.declared.keyword.Keyword.TheVariants.{Base, Feature, Grouping, Identity, IfFeature, Import, TypeName, Typedef, Uses}
use Rattle.nc_yang_statements.specs.BuiltIns.{built_in_of}
use Rattle.nc_yang_statements.specs.Statements.{kind, name}
use Rattle.nc_yang_statements.specs.Rules.{at_if}
use Rattle.nc_yang_scopes.specs.Scopes.{Located, Scoping, has_colon, prefix_of, resolved, text_of, text_of_prefix}
use Rattle.nc_yang_scopes.specs.Names.{Misnames, is_defined_out, keyword_text}

-- the name means no definition of that keyword at the statement that was found, or none was
abbrev pub lost_at : List Statement → Keyword → List ℕ → Option Located → Bool
lost_at texts keyword reference found = is_none (option_and_then (λ l. resolved texts keyword reference l.place) found)

-- the statement names what is not defined for it: a grouping, a type, an identity, a feature or a module
abbrev pub nameless_at : List Statement → Option Located → Keyword → Statement → Bool
nameless_at texts found Uses s = lost_at texts Grouping (name s) found
nameless_at texts found TypeName s = is_none (built_in_of (name s)) && lost_at texts Typedef (name s) found
nameless_at texts found Base s = lost_at texts Identity (name s) found
nameless_at texts found IfFeature s = lost_at texts Feature (name s) found
nameless_at texts found Import s = is_none (text_of texts (name s))
nameless_at texts found keyword s = false

-- its keyword has a prefix that stands for no text
abbrev pub foreign_at : List Statement → Option Located → Statement → Bool
foreign_at texts found s =
    has_colon (keyword_text s) && option_map_or (λ l. is_none (text_of_prefix texts l.place.text (prefix_of
    (keyword_text s)))) found false

-- a definition of that keyword and name stands further out than the statement that was found
abbrev pub defined_out_at : Keyword → List ℕ → Option Located → Bool
defined_out_at keyword word found = option_map_or (λ l. is_defined_out keyword word l.place) found false

-- a typedef or a grouping has the name of one further out than the statement that was found
abbrev pub shadowing_at : Option Located → Keyword → Statement → Bool
shadowing_at found Typedef s = defined_out_at Typedef (name s) found
shadowing_at found Grouping s = defined_out_at Grouping (name s) found
shadowing_at found keyword s = false

-- the rules that it breaks
abbrev pub misnamed_at : List Statement → Option Located → Statement → List Fault
misnamed_at texts found s =
    at_if (nameless_at texts found (kind s) s) s UnknownName
    ++ (at_if (foreign_at texts found s) s UnknownName ++ at_if (shadowing_at found (kind s) s) s Twice)

-- the statement has that number
abbrev pub HasNumber : Scoping → ℕ → Statement → Type 0
HasNumber scoping number s = option_map (λ l. l.statement) (slice_get scoping.located number) ≡ Some s

-- what is wrong with the statement of a number or in it, or that nothing is
abbrev pub Judges : Scoping → ℕ → Option Fault → Type 0
Judges scoping number result =
    (l : Located) → slice_get scoping.located number ≡ Some l
    → MatchOption result ((fault : Fault) → Misnames scoping.texts l fault → ⊥) (Misnames scoping.texts l)
