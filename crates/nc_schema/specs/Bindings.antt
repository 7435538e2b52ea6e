-- The names of modules as prefixes, and the modules of namespaces (RFC 7950 7.1.3, 7.1.4).
use Rattle.std.specs.Prelude.{ℕ, List, Option, map}
use Rattle.std.specs.List.{find}
use Rattle.nc_names.specs.declared.name.Bound.{Bound}
use Rattle.nc_names.specs.declared.name.Module.{Module}
use Rattle.nc_names.specs.Same.{is_same_text}
use Rattle.nc_schema.specs.Tables.{Tables}

-- the bindings of canonical texts: the name of each module stands for its namespace
abbrev pub module_bounds : Tables → List Bound
module_bounds tables = map (λ found. record { prefix = found.name; space = found.space }) tables.modules

-- the module of a namespace
abbrev pub module_of : Tables → List ℕ → Option Module
module_of tables space = find (λ found. is_same_text found.space space) tables.modules
