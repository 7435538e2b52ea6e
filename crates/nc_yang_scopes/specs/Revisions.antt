-- The revisions for which imports ask (RFC 7950 7.1.5.1).
use Rattle.std.specs.Prelude.{ℕ, ◌+◌, ◌&&◌, Bool, false, not, if◌then◌else◌, List, [], ◌∷◌, ◌++◌, Option}
use Rattle.std.specs.List.{flat_map}
use Rattle.std.specs.Option.{option_map_or}
use Rattle.nc_yang_words.specs.declared.statement.Statement.{Statement}
use Rattle.nc_yang_statements.specs.declared.fault.ModuleWhy.TheVariants.{UnknownName}
use Rattle.nc_yang_statements.specs.declared.keyword.Keyword.TheVariants.{Import, RevisionDate}
use Rattle.nc_yang_statements.specs.Keywords.{is_closed, is_same_keyword}
use Rattle.nc_yang_statements.specs.Statements.{below, kind, line, name}
use Rattle.nc_yang_scopes.specs.Scopes.{has_revision, text_of}
use Rattle.nc_yang_scopes.specs.declared.naming.TextFault.{TextFault}

-- a statement `revision-date` asks for a revision that a module does not have; nothing is asked of a module that is not
-- there
abbrev pub is_unrevised : List Statement → Option ℕ → Statement → Bool
is_unrevised texts text s =
    is_same_keyword RevisionDate (kind s) && option_map_or (λ t. not (has_revision texts t (name s))) text false

-- the fault of such a statement in the text of a number
abbrev pub unrevised_date : List Statement → ℕ → Option ℕ → Statement → List TextFault
unrevised_date texts number text s =
    if is_unrevised texts text s then record { text = number; fault = record { line = line s; why = UnknownName } } ∷ []
    else []

-- of an import
abbrev pub unrevised_import : List Statement → ℕ → Statement → List TextFault
unrevised_import texts number i = flat_map (unrevised_date texts number (text_of texts (name i))) (below i)

-- of a statement that stands directly in the module
abbrev pub unrevised_at : List Statement → ℕ → Statement → List TextFault
unrevised_at texts number s = if is_same_keyword Import (kind s) then unrevised_import texts number s else []

-- of a text, unless it is passed over
abbrev pub unrevised_in : List Statement → ℕ → Statement → List TextFault
unrevised_in texts number root = if is_closed (kind root) then [] else flat_map (unrevised_at texts number) (below root)

-- of texts, the first of which has that number
abbrev pub unrevised_from : List Statement → ℕ → List Statement → List TextFault
unrevised_from texts number [] = []
unrevised_from texts number (root ∷ roots) =
    unrevised_in texts number root ++ unrevised_from texts (number + 1) roots

-- the statements `revision-date` that ask for what is not there
abbrev pub unrevised : List Statement → List TextFault
unrevised texts = unrevised_from texts 0 texts
