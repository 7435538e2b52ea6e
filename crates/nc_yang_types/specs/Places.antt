-- The `type` statement on which another rests (RFC 7950 7.3, 7.4).
use Rattle.std.specs.Prelude.{List, Option, None, option_and_then, if◌then◌else◌, is_some}
use Rattle.nc_yang_words.specs.declared.statement.Statement.{Statement}
use Rattle.nc_yang_statements.specs.declared.built_in.BuiltIn.{BuiltIn}
use Rattle.nc_yang_statements.specs.declared.keyword.Keyword.{Keyword}
use Rattle.nc_yang_statements.specs.declared.keyword.Keyword.TheVariants.{TypeName, Typedef}
use Rattle.nc_yang_statements.specs.BuiltIns.{built_in_of}
use Rattle.nc_yang_statements.specs.Keywords.{is_same_keyword}
use Rattle.nc_yang_statements.specs.Statements.{kind, name}
use Rattle.nc_yang_scopes.specs.Scopes.{Located, resolved}
pub use Rattle.nc_yang_scopes.specs.Parts.{in_it, part_of, parts_of}

-- the built-in type that a `type` statement names (RFC 7950 4.2.4)
abbrev pub built_in : Located → Option BuiltIn
built_in l = if is_same_keyword TypeName (kind l.statement) then built_in_of (name l.statement) else None

-- of the typedef to which its name leads, the first statement of a keyword
abbrev pub of_typedef : Keyword → List Statement → Located → Option Located
of_typedef keyword texts l = option_and_then (part_of keyword) (resolved texts Typedef (name l.statement) l.place)

-- the `type` statement on which one rests that names no built-in type
abbrev pub base_of : List Statement → Located → Option Located
base_of texts l =
    if is_same_keyword TypeName (kind l.statement)
    then (if is_some (built_in_of (name l.statement)) then None else of_typedef TypeName texts l)
    else None
