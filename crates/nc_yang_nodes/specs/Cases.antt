-- The cases of a choice by their names (RFC 7950 7.9.2, 7.9.3).
use Rattle.std.specs.Prelude.{ℕ, Bool, List, Option, position, is_some}
use Rattle.std.specs.List.{filter}
use Rattle.nc_names.specs.Same.{is_same_text}
use Rattle.nc_yang_statements.specs.Statements.{name}
use Rattle.nc_yang_words.specs.declared.statement.Statement.{Statement}
use Rattle.nc_yang_scopes.specs.Scopes.{Located}
use Rattle.nc_yang_nodes.specs.Roles.{FeatureTest, children, role}

-- it gives something
abbrev pub is_there : List Statement → FeatureTest → Located → Bool
is_there texts on l = is_some (role texts on l)

-- a statement has that name
abbrev pub has_name : List ℕ → Located → Bool
has_name word l = is_same_text (name l.statement) word

-- the number of a choice's case of a name, among those that are there
abbrev pub case_of : List Statement → FeatureTest → List ℕ → Located → Option ℕ
case_of texts on word l = position (has_name word) (filter (is_there texts on) (children l))
