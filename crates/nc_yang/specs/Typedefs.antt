-- Typedefs with a default (RFC 7950 7.3.4), each judged as a leaf of its type with that default, used or not, wherever
-- in a module it stands: those of types whose values do not refer to other data. Where a leafref or an
-- instance-identifier leads is known at a leaf.
use Rattle.std.specs.Prelude.{◌≡◌, ℕ, zero, suc, Bool, true, false, not, if◌then◌else◌, List, [], ◌∷◌, ◌++◌, length, map, None, Some}
use Rattle.std.specs.List.{flat_map, range_with_len}
use Rattle.std.specs.Option.{option_map_or}
use Rattle.nc_schema.specs.Tables.{Tables}
use Rattle.nc_schema.specs.declared.node.Deny.TheVariants.{Nothing as DenyNothing}
use Rattle.nc_schema.specs.declared.node.Kind.TheVariants.{Leaf}
use Rattle.nc_schema.specs.declared.node.Node.{Node}
use Rattle.nc_yang_words.specs.declared.statement.Statement.{Statement}
use Rattle.nc_yang_statements.specs.declared.keyword.Keyword.TheVariants.{Default, TypeName, Typedef}
use Rattle.nc_yang_statements.specs.Keywords.{is_closed, is_same_keyword}
use Rattle.nc_yang_statements.specs.Statements.{below, has, kind}
use Rattle.nc_yang_scopes.specs.Parts.{in_it, part_of}
use Rattle.nc_yang_scopes.specs.Scopes.{Located, Scoping, root}
use Rattle.nc_yang_nodes.specs.Picks.{PicksNumbers}
use Rattle.nc_yang_types.specs.Faults.{is_reference}
use Rattle.nc_yang_types.specs.Meanings.{DerivedFrom, Entry, Meaning, Means, OneOf, Refers}
use Rattle.nc_yang_nodes.specs.Roles.{FeatureTest}
use Rattle.nc_yang_nodes.specs.declared.planned.Plan.{Plan}
use Rattle.nc_yang_nodes.specs.declared.planned.Planned.{Planned}
use Rattle.nc_yang_data.specs.Modules.{modules_from}

-- a statement, where it is a typedef
abbrev pub own_typedef : Located → List Located
own_typedef l = if is_same_keyword Typedef (kind l.statement) then l ∷ [] else []

-- the statements directly in another, unless that is passed over
abbrev pub opened : Located → List Located
opened l = if is_closed (kind l.statement) then [] else map (in_it l) (below l.statement)

-- the typedefs that a statement is or has in it so many levels deep, in the order of the text
unfoldable pub typedefs_within : (levels : ℕ) → Located → List Located
typedefs_within zero l = own_typedef l
typedefs_within (suc levels) l = own_typedef l ++ flat_map (typedefs_within levels) (opened l)

-- those in the module of a text, where no statement stands deeper than that
abbrev pub typedefs_in : List Statement → (text : ℕ) → List Located
typedefs_in texts text = option_map_or (typedefs_within 64) (root texts text) []

-- those of all modules, in the order of the texts
abbrev pub typedefs : List Statement → List Located
typedefs texts = flat_map (typedefs_in texts) (range_with_len 0 (length texts))

-- values of a type do not refer to other data. Those of a union never do, since no member type does
abbrev pub is_plain : Meaning → Bool
is_plain (Entry entry patterns names) = not (is_reference entry)
is_plain (OneOf members) = true
is_plain (DerivedFrom bases) = true
is_plain (Refers path need) = false

-- the type of a statement means that
pub record HasPlainType (on : ℕ → List ℕ → Bool) (texts : List Statement) (l : Located) : Type 0 where
  pub of_type : Located
  pub is_type : part_of TypeName l ≡ Some of_type
  pub meaning : Meaning
  pub means : Means on texts of_type meaning
  pub plain : is_plain meaning ≡ true

-- a typedef has a default and such a type
pub record IsJudged (on : ℕ → List ℕ → Bool) (texts : List Statement) (l : Located) : Type 0 where
  pub default : has Default (below l.statement) ≡ true
  pub of_type : HasPlainType on texts l

-- the numbers of the typedefs that are judged
abbrev pub AreJudged : (on : ℕ → List ℕ → Bool) → Scoping → List ℕ → Type 0
AreJudged on scoping = PicksNumbers scoping.located (IsJudged on scoping.texts) (typedefs scoping.texts)

-- a leaf that the statement of a number defines
abbrev pub leaf_by : ℕ → Planned
leaf_by number = record { statement = number; «module» = 0; parent = None; level = 0; cases = []; deny = DenyNothing }

-- typedefs as leafs
abbrev pub typedef_plan : List ℕ → Plan
typedef_plan numbers = record { nodes = map leaf_by numbers; choices = [] }

-- a leaf without a name
abbrev pub blank_leaf : Node
blank_leaf = record {
  name = record { space = []; name = [] };
  «module» = 0;
  parent = None;
  kind = Leaf;
  kind_of_value = 0;
  keys = [];
  uniques = [];
  mandatory = false;
  defaults = [];
  least = 0;
  most = None;
  by_user = false;
  cases = [];
  deny = DenyNothing;
}

-- such leafs
abbrev pub blank_leafs : List ℕ → List Node
blank_leafs numbers = map (λ _. blank_leaf) numbers

-- the schema of these leafs, without types. Its modules are those of the texts: identities are known by their names
abbrev pub typedef_tables : Scoping → FeatureTest → List ℕ → Tables
typedef_tables scoping on numbers = record {
  nodes = blank_leafs numbers;
  choices = [];
  types = [];
  modules = modules_from on 0 scoping.texts;
  patterns = [];
}
