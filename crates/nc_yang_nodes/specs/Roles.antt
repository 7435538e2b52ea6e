-- Which statements give data nodes, choices and cases, and which of them are there (RFC 7950 7.5 to 7.9, 7.13, 7.20.2,
-- 7.21.1), each with what it denies (RFC 8341 3.5.2).
use Rattle.std.specs.Prelude.{ℕ, Bool, false, ◌&&◌, ◌||◌, not, if◌then◌else◌, List, [], map, Option, Some, None}
use Rattle.std.specs.List.{list_all}
use Rattle.std.specs.Option.{option_map_or}
use Rattle.nc_schema.specs.declared.node.Deny.{Deny}
use Rattle.nc_yang_words.specs.declared.statement.Statement.{Statement}
use Rattle.nc_yang_statements.specs.declared.keyword.Keyword.{Keyword}
use Rattle.nc_yang_statements.specs.declared.keyword.Keyword.TheVariants.{Container, Leaf, LeafList, List as ListWord, Choice as ChoiceWord, Case as CaseWord, Uses as UsesWord, Feature, Grouping, IfFeature}
use Rattle.nc_yang_statements.specs.Keywords.{is_same_keyword}
use Rattle.nc_yang_statements.specs.Statements.{below, kind, name}
use Rattle.nc_yang_scopes.specs.Scopes.{Located, inside, resolved}
use Rattle.nc_yang_scopes.specs.States.{is_state}
use Rattle.nc_yang_nodes.specs.Denials.{denial}
use Rattle.nc_yang_nodes.specs.declared.role.Role.{Role}
use Rattle.nc_yang_nodes.specs.declared.role.Role.TheVariants.{Node, Choice, Case, Uses}

-- what a statement of a keyword gives, if anything, where it denies this
abbrev pub role_of : Deny → Keyword → Option Role
role_of deny Container = Some (Node deny)
role_of deny Leaf = Some (Node deny)
role_of deny LeafList = Some (Node deny)
role_of deny ListWord = Some (Node deny)
role_of deny ChoiceWord = Some (Choice deny)
role_of deny CaseWord = Some (Case deny)
role_of deny UsesWord = Some (Uses deny)
role_of deny keyword = None

-- the statements that stand directly in one, each with its place
abbrev pub children : Located → List Located
children l = map (λ s. record { statement = s; place = inside l }) (below l.statement)

-- whether a feature is on: by the text that defines it, and its name
abbrev pub FeatureTest : Type 0
FeatureTest = ℕ → List ℕ → Bool

-- the feature that a statement names is on
abbrev pub is_met : List Statement → FeatureTest → Located → Bool
is_met texts on l =
    option_map_or (λ f. on f.place.text (name f.statement)) (resolved texts Feature (name l.statement) l.place) false

-- no `if-feature` in a statement names a feature that is off (RFC 7950 7.20.2)
abbrev pub is_supported : List Statement → FeatureTest → Located → Bool
is_supported texts on l =
    list_all (λ t. not (is_same_keyword IfFeature (kind t.statement)) || is_met texts on t) (children l)

-- what a statement gives to a configuration, if anything: state is no part of it (RFC 7950 7.21.1)
abbrev pub role : List Statement → FeatureTest → Located → Option Role
role texts on l =
    if is_supported texts on l && not (is_state l.statement) then role_of (denial texts l) (kind l.statement) else None

-- the statements that are expanded where it stands: what stands in it, or for `uses` what stands in the grouping
-- (RFC 7950 7.13)
abbrev pub block : List Statement → Located → Role → List Located
block texts l (Uses deny) = option_map_or children (resolved texts Grouping (name l.statement) l.place) []
block texts l other = children l
