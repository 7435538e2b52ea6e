-- The `pattern` statements of a string type (RFC 7950 9.4.5).
use Rattle.std.specs.Prelude.{if◌then◌else◌, List, Option, Some, None, Ok, Err}
use Rattle.std.specs.List.{flat_map}
use Rattle.nc_patterns.specs.Reading.{Reading, tokens}
use Rattle.nc_patterns.specs.declared.fault.ReadFault.TheVariants.{Unsupported as UnsupportedToken}
use Rattle.nc_yang_words.specs.declared.statement.Statement.{Statement}
use Rattle.nc_yang_statements.specs.declared.fault.Fault.{Fault}
use Rattle.nc_yang_statements.specs.declared.fault.ModuleWhy.{ModuleWhy}
use Rattle.nc_yang_statements.specs.declared.fault.ModuleWhy.TheVariants.{BadArgument, Unsupported}
use Rattle.nc_yang_statements.specs.declared.keyword.Keyword.TheVariants.{Pattern}
use Rattle.nc_yang_statements.specs.Keywords.{is_same_keyword}
use Rattle.nc_yang_statements.specs.Rules.{at}
use Rattle.nc_yang_statements.specs.Statements.{kind, name}

-- why a pattern cannot be read token by token, where it cannot
abbrev pub why_unread : Reading → Option ModuleWhy
why_unread (Ok spelled) = None
why_unread (Err (UnsupportedToken place)) = Some Unsupported
why_unread (Err fault) = Some BadArgument

-- a statement is no `pattern`, or its argument is one
abbrev pub why_ill : Statement → Option ModuleWhy
why_ill s = if is_same_keyword Pattern (kind s) then why_unread (tokens (name s)) else None

-- the `pattern` statements that cannot be read
abbrev pub ill_patterns : List Statement → List Fault
ill_patterns ss = flat_map (λ s. at (why_ill s) s) ss
