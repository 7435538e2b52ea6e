-- Modules that share their name or their namespace (RFC 7950 5.1, 5.3).
use Rattle.std.specs.Prelude.{ℕ, ◌+◌, Bool, false, if◌then◌else◌, List, [], ◌∷◌, ◌++◌, Option, Some, option_map}
use Rattle.std.specs.List.{list_any}
use Rattle.std.specs.Option.{option_map_or}
use Rattle.nc_names.specs.Same.{is_same_text}
use Rattle.nc_yang_words.specs.declared.statement.Statement.{Statement}
use Rattle.nc_yang_statements.specs.declared.fault.ModuleWhy.TheVariants.{Twice}
use Rattle.nc_yang_statements.specs.declared.keyword.Keyword.TheVariants.{Namespace}
use Rattle.nc_yang_statements.specs.Statements.{below, line, name, part}
use Rattle.nc_yang_scopes.specs.declared.modules.Title.{Title}
use Rattle.nc_yang_scopes.specs.declared.modules.Title.TheVariants.{OfName, OfNamespace}
use Rattle.nc_yang_scopes.specs.declared.naming.TextFault.{TextFault}

-- a module's name, or its namespace
abbrev pub title_of : Title → Statement → Option (List ℕ)
title_of OfName s = Some (name s)
title_of OfNamespace s = option_map name (part Namespace (below s))

-- a text has that name or namespace
abbrev pub has_title : Title → List ℕ → Statement → Bool
has_title by word s = option_map_or (λ w. is_same_text w word) (title_of by s) false

-- one before it has its own
abbrev pub is_second : Title → List Statement → Statement → Bool
is_second by before s = option_map_or (λ w. list_any (has_title by w) before) (title_of by s) false

-- of two texts with one title, the later; the first of these has that number
abbrev pub seconds : Title → ℕ → List Statement → List Statement → List TextFault
seconds by number before [] = []
seconds by number before (s ∷ ss) =
    (if is_second by before s then record { text = number; fault = record { line = line s; why = Twice } } ∷ [] else [])
    ++ seconds by (number + 1) (before ++ s ∷ []) ss

-- the texts whose module has a name or a namespace that one before has
abbrev pub twins : List Statement → List TextFault
twins texts = seconds OfName 0 [] texts ++ seconds OfNamespace 0 [] texts
