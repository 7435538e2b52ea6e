-- What an answer says of the statement of a number and of those in it.
use Rattle.std.specs.Prelude.{◌≡◌, ◌⊎◌, ℕ, ◌&&◌, ◌||◌, Bool, true, false, List, [], ◌∷◌, filter, length, nat_lt, Option, Some, None, slice_get, option_and_then, Decides, MatchOption}
use Rattle.std.specs.List.{list_any}
use Rattle.std.specs.Option.{option_map_or}
use Rattle.nc_yang_words.specs.declared.statement.Statement.{Statement}
use Rattle.nc_yang_statements.specs.declared.built_in.BuiltIn.{BuiltIn}
use Rattle.nc_yang_statements.specs.declared.built_in.BuiltIn.TheVariants.{Union}
use Rattle.nc_yang_statements.specs.declared.keyword.Keyword.TheVariants.{Default, TypeName}
use Rattle.nc_yang_statements.specs.BuiltIns.{built_in_of}
use Rattle.nc_yang_statements.specs.Keywords.{is_same_keyword}
use Rattle.nc_yang_statements.specs.Statements.{kind, name}
use Rattle.nc_yang_statements.specs.declared.fault.Fault.{Fault}
use Rattle.nc_yang_scopes.specs.Scopes.{Located, Scoping}
use Rattle.nc_yang_types.specs.Defaults.{default_at}
use Rattle.nc_yang_types.specs.Faults.{BreaksOne, BreaksType, BreaksTypes, DefaultsToConditional, RefersInUnion, TakesConditional, TakesOver, is_reference, names_conditional}
use Rattle.nc_yang_types.specs.Meanings.{Breaks}
use Rattle.nc_yang_types.specs.Plans.{AreMeanings}
use Rattle.nc_yang_types.specs.declared.planned.Finding.{Finding}
use Rattle.nc_yang_types.specs.declared.planned.Finding.TheVariants.{Broken, Plan}
use Rattle.nc_yang_types.specs.declared.planned.Meanings.{Meanings}
use Rattle.nc_yang_types.specs.declared.planned.Planned.{Planned}
use Rattle.nc_yang_types.specs.inner.Planning.{names_in, shape_of}

-- the fault that was found of a statement, if one was
abbrev pub fault_in : Option Finding → Option Fault
fault_in (Some (Broken fault)) = Some fault
fault_in finding = None

-- what was found of a statement refers to other data
abbrev pub refers_by : List Planned → Option Finding → Bool
refers_by plans (Some (Plan place)) = option_map_or (λ p. is_reference (shape_of p)) (slice_get plans place) false
refers_by plans finding = false

-- so it is with what was found of the statement of a number
abbrev pub refers_at : Meanings → ℕ → Bool
refers_at meanings number = refers_by meanings.plans (slice_get meanings.findings number)

-- the statement of a number is a `type` statement that does
abbrev pub is_referring : Meanings → ℕ → Statement → Bool
is_referring meanings number s = is_same_keyword TypeName (kind s) && refers_at meanings number

-- the built-in type is a union
abbrev pub is_union_type : Option BuiltIn → Bool
is_union_type (Some Union) = true
is_union_type one = false

-- a `type` statement of the built-in type union
abbrev pub is_union : Statement → Bool
is_union s = is_same_keyword TypeName (kind s) && is_union_type (built_in_of (name s))

-- a member of the union of a number that refers to other data, or that there is none
abbrev pub JudgesMembers : Scoping → Meanings → ℕ → Option Fault → Type 0
JudgesMembers scoping meanings number result =
    (on : ℕ → List ℕ → Bool) → AreMeanings on scoping meanings → (l : Located) → slice_get scoping.located number
    ≡ Some l →
    MatchOption result ((fault : Fault) → RefersInUnion on scoping.texts l fault → ⊥) (RefersInUnion on scoping.texts l)

-- a word, or none where it is empty
abbrev pub some_word : List ℕ → List (List ℕ)
some_word word = filter (λ one. nat_lt 0 (length one)) (word ∷ [])

-- a text has one of the names in it that a type lists of which this was found, and it is conditional
abbrev pub names_by : List Planned → List ℕ → Option Finding → Bool
names_by plans text (Some (Plan place)) =
    option_map_or (λ p. names_conditional (shape_of p) (names_in p) text) (slice_get plans place) false
names_by plans text finding = false

-- so it is with what was found of the statement of a number
abbrev pub names_at : Meanings → ℕ → List ℕ → Bool
names_at meanings number text = names_by meanings.plans text (slice_get meanings.findings number)

-- so it is with it, or with one of its members, which have these numbers
abbrev pub names_among : Meanings → (members : List ℕ) → ℕ → List ℕ → Bool
names_among meanings members number text =
    names_at meanings number text || list_any (λ member. names_at meanings member text) members

-- it is told whether a text names what is conditional in the type of a number, or in a member of it
abbrev pub TellsTaking : Meanings → ℕ → List ℕ → (told : Bool) → Type 0
TellsTaking meanings number text told =
    (scoping : Scoping) (on : ℕ → List ℕ → Bool) → AreMeanings on scoping meanings → (l : Located) → slice_get
    scoping.located number ≡ Some l → Decides told (TakesConditional on scoping.texts l text)

-- so it is of a statement that is a `default` beside that type, and no other does
abbrev pub TellsDefault : Meanings → ℕ → Statement → (told : Bool) → Type 0
TellsDefault meanings number s told =
    (is_same_keyword Default (kind s) ≡ true → TellsTaking meanings number (name s) told)
    × (is_same_keyword Default (kind s) ≡ false → told ≡ false)

-- so it is of the default that the type brings, and where it brings none, none does
abbrev pub TellsTaken : Scoping → Meanings → List (Option ℕ) → (of_type : ℕ) → (told : Bool) → Type 0
TellsTaken scoping meanings defaults of_type told =
    MatchOption (option_and_then (slice_get scoping.located) (default_at defaults of_type)) (told ≡ false)
    (λ l. TellsTaking meanings of_type (name l.statement) told)

-- a default that the statement of a number takes over, or that there is none
abbrev pub JudgesTaken : Scoping → Meanings → ℕ → Option Fault → Type 0
JudgesTaken scoping meanings number result =
    (on : ℕ → List ℕ → Bool) → AreMeanings on scoping meanings → (l : Located) → slice_get scoping.located number
    ≡ Some l →
    MatchOption result ((fault : Fault) → TakesOver on scoping.texts l fault → ⊥) (TakesOver on scoping.texts l)

-- a `default` in the statement of a number that names what is conditional, or that there is none
abbrev pub JudgesDefaults : Scoping → Meanings → ℕ → Option Fault → Type 0
JudgesDefaults scoping meanings number result =
    (on : ℕ → List ℕ → Bool) → AreMeanings on scoping meanings → (l : Located) → slice_get scoping.located number
    ≡ Some l →
    MatchOption result ((fault : Fault) → DefaultsToConditional on scoping.texts l fault → ⊥)
    (DefaultsToConditional on scoping.texts l)

-- what is wrong with the parts of the type of a number or with a member of it, or that nothing is
abbrev pub JudgesPlain : Scoping → Meanings → ℕ → Option Fault → Type 0
JudgesPlain scoping meanings number result =
    (on : ℕ → List ℕ → Bool) → AreMeanings on scoping meanings → (l : Located) → slice_get scoping.located number
    ≡ Some l →
    MatchOption result ((fault : Fault) → Breaks on scoping.texts l fault ⊎ RefersInUnion on scoping.texts l fault → ⊥)
    (λ fault. Breaks on scoping.texts l fault ⊎ RefersInUnion on scoping.texts l fault)

-- what is wrong with a default in the statement of a number or with one that it takes over, or that nothing is
abbrev pub JudgesGiven : Scoping → Meanings → ℕ → Option Fault → Type 0
JudgesGiven scoping meanings number result =
    (on : ℕ → List ℕ → Bool) → AreMeanings on scoping meanings → (l : Located) → slice_get scoping.located number
    ≡ Some l →
    MatchOption result
    ((fault : Fault) → DefaultsToConditional on scoping.texts l fault ⊎ TakesOver on scoping.texts l fault → ⊥)
    (λ fault. DefaultsToConditional on scoping.texts l fault ⊎ TakesOver on scoping.texts l fault)

-- what is wrong with the statement of a number by itself, or that nothing is
abbrev pub JudgesOne : Scoping → Meanings → ℕ → Option Fault → Type 0
JudgesOne scoping meanings number result =
    (on : ℕ → List ℕ → Bool) → AreMeanings on scoping meanings → (l : Located) → slice_get scoping.located number
    ≡ Some l →
    MatchOption result ((fault : Fault) → BreaksOne on scoping.texts l fault → ⊥) (BreaksOne on scoping.texts l)

-- what is wrong with the statement of a number or in it, or that nothing is
abbrev pub Judges : Scoping → Meanings → ℕ → Option Fault → Type 0
Judges scoping meanings number result =
    (on : ℕ → List ℕ → Bool) → AreMeanings on scoping meanings → (l : Located) → slice_get scoping.located number
    ≡ Some l →
    MatchOption result ((fault : Fault) → BreaksType on scoping.texts l fault → ⊥) (BreaksType on scoping.texts l)

-- what is wrong with the types of a text, or that nothing is
abbrev pub JudgesText : Scoping → Meanings → ℕ → Option Fault → Type 0
JudgesText scoping meanings text result =
    (on : ℕ → List ℕ → Bool) → AreMeanings on scoping meanings →
    MatchOption result ((fault : Fault) → BreaksTypes on scoping.texts text fault
    → ⊥) (BreaksTypes on scoping.texts text)
