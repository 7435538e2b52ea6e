-- The statements of one keyword directly in another.
use Rattle.std.specs.Prelude.{List, map, filter, Option, option_map}
use Rattle.nc_yang_words.specs.declared.statement.Statement.{Statement}
use Rattle.nc_yang_statements.specs.declared.keyword.Keyword.{Keyword}
use Rattle.nc_yang_statements.specs.Keywords.{is_same_keyword}
use Rattle.nc_yang_statements.specs.Statements.{below, kind, part}
use Rattle.nc_yang_scopes.specs.Scopes.{Located, inside}

-- a statement that stands directly in another
abbrev pub in_it : Located → Statement → Located
in_it l s = record { statement = s; place = inside l }

-- those of a keyword, in their order
abbrev pub parts_of : Keyword → Located → List Located
parts_of keyword l = map (in_it l) (filter (λ s. is_same_keyword keyword (kind s)) (below l.statement))

-- the first of them
abbrev pub part_of : Keyword → Located → Option Located
part_of keyword l = option_map (in_it l) (part keyword (below l.statement))
