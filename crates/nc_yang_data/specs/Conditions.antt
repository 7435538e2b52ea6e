-- The leafs that are keys have no condition (RFC 7950 7.20.2).
use Rattle.std.specs.Prelude.{ℕ, List, [], ◌∷◌, slice_get}
use Rattle.std.specs.List.{flat_map}
use Rattle.std.specs.Option.{option_map_or}
use Rattle.nc_schema.specs.declared.node.Node.{Node}
use Rattle.nc_yang_words.specs.declared.statement.Statement.{Statement}
use Rattle.nc_yang_statements.specs.Statements.{below, line, part}
use Rattle.nc_yang_statements.specs.declared.fault.ModuleWhy.TheVariants.{BadArgument}
use Rattle.nc_yang_statements.specs.declared.keyword.Keyword.TheVariants.{IfFeature}
use Rattle.nc_yang_scopes.specs.Scopes.{Scoping}
use Rattle.nc_yang_scopes.specs.declared.naming.TextFault.{TextFault}
use Rattle.nc_yang_nodes.specs.declared.planned.Plan.{Plan}

-- the first `if-feature` in the statement of a leaf, which stands in a text
abbrev pub conditions : (text : ℕ) → Statement → List TextFault
conditions text leaf =
    option_map_or (λ s. record { text = text; fault = record { line = line s; why = BadArgument } } ∷ [])
    (part IfFeature (below leaf)) []

-- that of the key of a number
abbrev pub key_conditions : Scoping → Plan → (key : ℕ) → List TextFault
key_conditions scoping plan key =
    option_map_or
    (λ p. option_map_or (λ l. conditions l.place.text l.statement) (slice_get scoping.located p.statement) [])
    (slice_get plan.nodes key) []

-- those of the keys of a data node
abbrev pub conditions_in : Scoping → Plan → Node → List TextFault
conditions_in scoping plan node = flat_map (key_conditions scoping plan) node.keys

-- those of the keys of data nodes
abbrev pub all_conditions : Scoping → Plan → List Node → List TextFault
all_conditions scoping plan nodes = flat_map (conditions_in scoping plan) nodes
