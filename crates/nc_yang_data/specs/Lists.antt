-- The rules on the keys and the `unique` leafs of a list (RFC 7950 7.8.2, 7.8.3).
use Rattle.std.specs.Prelude.{ℕ, ◌==◌, ◌||◌, Bool, true, false, if◌then◌else◌, length, List, [], ◌∷◌, ◌++◌, Option, Some, None, option_and_then}
use Rattle.std.specs.List.{flat_map, list_any}
use Rattle.std.specs.Option.{option_map_or}
use Rattle.nc_schema.specs.Tables.{Tables}
use Rattle.nc_yang_words.specs.declared.statement.Statement.{Statement}
use Rattle.nc_yang_statements.specs.Keywords.{is_same_keyword}
use Rattle.nc_yang_statements.specs.Rules.{at_if}
use Rattle.nc_yang_statements.specs.Statements.{below, kind, name, part}
use Rattle.nc_yang_statements.specs.declared.fault.Fault.{Fault}
use Rattle.nc_yang_statements.specs.declared.fault.ModuleWhy.TheVariants.{BadArgument, Missing, Twice, UnknownName}
use Rattle.nc_yang_statements.specs.declared.keyword.Keyword.TheVariants.{Key, Unique}
use Rattle.nc_yang_data.specs.Leafs.{CaseTest, leafs_by}
use Rattle.nc_yang_data.specs.declared.naming.Naming.TheVariants.{Keys, Uniques}

-- a number stands there that stands before it, or before all
abbrev pub has_again : (before : List ℕ) → List ℕ → Bool
has_again before [] = false
has_again before (n ∷ ns) = list_any (λ m. m == n) before || has_again (before ++ n ∷ []) ns

-- there is no number
abbrev pub has_none : List ℕ → Bool
has_none numbers = length numbers == 0

-- there are words, each names a leaf in the list, and none names one that another does (RFC 7950 7.8.2)
abbrev pub key_faults : Statement → Option (List ℕ) → List Fault
key_faults s None = at_if true s UnknownName
key_faults s (Some keys) = at_if (has_none keys) s BadArgument ++ at_if (has_again [] keys) s Twice

-- the keys of a list (RFC 7950 7.8.2)
abbrev pub keys_of : List Statement → Tables → CaseTest → (text number : ℕ) → (list : Statement) → Option (List ℕ)
keys_of texts tables named text number list =
    option_and_then (λ s. leafs_by Keys texts tables named text number (name s)) (part Key (below list))

-- a list of a configuration has keys
abbrev pub keyless : List Statement → Tables → CaseTest → (text number : ℕ) → (list : Statement) → List Fault
keyless texts tables named text number list =
    option_map_or (λ s. key_faults s (leafs_by Keys texts tables named text number (name s))) (part Key (below list))
    (at_if true list Missing)

-- a `unique` statement has words, and each names a leaf below the list (RFC 7950 7.8.3)
abbrev pub unique_fault : List Statement → Tables → CaseTest → (text number : ℕ) → Statement → List Fault
unique_fault texts tables named text number s =
    if is_same_keyword Unique (kind s)
    then option_map_or (λ leafs. at_if (has_none leafs) s BadArgument)
    (leafs_by Uniques texts tables named text number (name s)) (at_if true s UnknownName)
    else []

-- the faults of the `unique` statements of a list
abbrev pub not_unique : List Statement → Tables → CaseTest → (text number : ℕ) → (list : Statement) → List Fault
not_unique texts tables named text number list = flat_map (unique_fault texts tables named text number) (below list)

-- the leafs of each `unique` statement of a list
abbrev pub unique_leafs : List Statement → Tables → CaseTest → (text number : ℕ) → Statement → List (List ℕ)
unique_leafs texts tables named text number s =
    if is_same_keyword Unique (kind s)
    then option_map_or (λ leafs. leafs ∷ []) (leafs_by Uniques texts tables named text number (name s)) []
    else []

-- the leafs of each of them
abbrev pub uniques_of : List Statement → Tables → CaseTest → (text number : ℕ) → (list : Statement) → List (List ℕ)
uniques_of texts tables named text number list = flat_map (unique_leafs texts tables named text number) (below list)

-- all rules on a list
abbrev pub list_faults : List Statement → Tables → CaseTest → (text number : ℕ) → (list : Statement) → List Fault
list_faults texts tables named text number list =
    keyless texts tables named text number list ++ not_unique texts tables named text number list
