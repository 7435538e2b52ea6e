-- A module worked by hand: the numbers of its statements, its data nodes with their statements, and their tables.
use Rattle.std.proofs.Common.{inl, inr, ◌≡◌, ◌<◌, ◌≤◌, ◌+◌, ◌&&◌, nat_lt, ℕ, zero, suc, Bool, true, false, List, [], ◌∷◌, ◌++◌, length, take, Result, Ok, Err, Option, Some, None, refl, subst, arith, lit<, lit≤}
use Rattle.std.specs.Prelude.{codes, slice_get, unwrap_or}
use Rattle.std.specs.List.{All, flat_map}
use Rattle.std.proofs.lemmas.List.Elements.{All-cons, All-nil}
use Rattle.std.specs.Str.{chars}
use Rattle.std.proofs.Math.Utf8.{encode}
use Rattle.std.proofs.lemmas.Bool.{cases_lt}
use Rattle.std.proofs.lemmas.Bool.Decides.{nat_tests}
use denote.Hole.Carrier.{hidden, out, roll, shown}
use Rattle.nc_schema.specs.Tables.{Tables}
use Rattle.nc_schema.specs.declared.node.Deny.TheVariants.{Nothing}
use Rattle.nc_schema.specs.declared.node.Kind.{Kind}
use Rattle.nc_schema.specs.declared.node.Kind.TheVariants.{Container, Leaf, List as ListKind}
use Rattle.nc_schema.specs.declared.node.Node.{Node}
use Rattle.nc_yang_words.specs.Spelling.{statement}
use Rattle.nc_yang_words.specs.inner.Grammar.{reading}
use Rattle.nc_yang_words.specs.declared.statement.Statement.{Statement}
use Rattle.nc_yang_words.specs.declared.statement.Statement.TheBlock.{shown-the_row-Statement-0}
use Rattle.nc_yang_words.specs.declared.statement.Statement.TheViews.{out-Statement, roll-Statement}
use Rattle.nc_yang_statements.specs.Arguments.{is_true_text}
use Rattle.nc_yang_statements.specs.Keywords.{keyword_of, keywords, word_of}
use Rattle.nc_yang_scopes.specs.Numbers.{Entry, IsScoping, located, opened, roots}
use Rattle.nc_yang_scopes.specs.Scopes.{Located, Scoping}
use Rattle.nc_yang_nodes.specs.Expansion.{given, none, passed}
use Rattle.nc_yang_nodes.specs.Plans.{IsPlan, most_levels, no_text, nothing, one_more}
use Rattle.nc_yang_nodes.specs.Roles.{FeatureTest}
use Rattle.nc_yang_nodes.specs.declared.planned.Plan.{Plan}
use Rattle.nc_yang_nodes.specs.declared.planned.Planned.{Planned}
use Rattle.nc_yang_data.specs.Data.{data_faults, data_tables}
use Rattle.nc_yang_data.specs.Drafts.{is_user_text}

-- ---- its text
abbrev sample : List ℕ
sample = flat_map (λ one. one ++ 10 ∷ [])
    (codes "module ex {"
    ∷ codes "  namespace 'urn:ex';"
    ∷ codes "  prefix ex;"
    ∷ codes "  revision 2026-12-01;"
    ∷ codes "  container top {"
    ∷ codes "    list item {"
    ∷ codes "      key name;"
    ∷ codes "      unique size;"
    ∷ codes "      leaf name { type string; }"
    ∷ codes "      leaf size { type uint8; mandatory true; }"
    ∷ codes "    }"
    ∷ codes "  }"
    ∷ codes "}"
    ∷ [])

abbrev statements_in : Result Statement ℕ → Statement
statements_in (Ok tree) = tree
statements_in (Err at) = statement [] None 0 []

abbrev root : Statement
root = statements_in (reading (chars sample))

-- ---- the numbers of its statements
-- so many layers, each of what stands directly in the statements of the one before
abbrev layers : (more : ℕ) → (number : ℕ) → List Entry → List Entry
layers zero number layer = layer
layers (suc more) number layer = layer ++ layers more (number + length layer) (opened number layer)

abbrev entries : List Entry
entries = layers 5 0 (roots 0 (root ∷ []))

abbrev scoping : Scoping
scoping = record { texts = root ∷ []; located = located entries }

abbrev all_below : (ℕ → Bool) → ℕ → Bool
all_below test zero = true
all_below test (suc n) = test n && all_below test n

below_all : (test : ℕ → Bool) (n : ℕ) → all_below test n ≡ true → (k : ℕ) → k < n → test k ≡ true
below_all test zero e k less = absurd (omega (arith, less))
below_all test (suc n) e k less = by (test n) refl e (below_all test n)
  where
    by : (b : Bool) → test n ≡ b → (b && all_below test n) ≡ true → (all_below test n ≡ true → (j : ℕ) → j < n → test j ≡ true) → test k ≡ true
    by true is f further = elim (cases_lt k n) [
      | inl below ↦ further f k below
      | inr past ↦ let same : n ≡ k = omega (arith, less, past) in subst (λ z. test z ≡ true) same is
    ]
    by false is f further = absurd (cc)

abbrev is_later : ℕ → Bool
is_later number = nat_lt number (1 + length (opened 0 (take number entries)))

all_later : all_below is_later (length entries) ≡ true
unfolding chars encode out-Statement out roll-Statement roll shown-the_row-Statement-0 shown hidden keyword_of keywords word_of
all_later = refl

whole : entries ≡ roots 0 (root ∷ []) ++ opened 0 entries
unfolding chars encode out-Statement out roll-Statement roll shown-the_row-Statement-0 shown hidden keyword_of keywords word_of
whole = refl

is_less : (a b : ℕ) → nat_lt a b ≡ true → a < b
is_less a b e = grind (arith, nat_tests)

numbered : IsScoping scoping
numbered = record {
  entries = entries;
  whole = whole;
  later = λ number less. is_less number (1 + length (opened 0 (take number entries))) (below_all is_later (length entries) all_later number less);
  places = refl;
}

-- ---- its data nodes
abbrev on : FeatureTest
on text word = false

abbrev planned : (number : ℕ) → Option ℕ → (level : ℕ) → Planned
planned number parent level = record { statement = number; «module» = 0; parent = parent; level = level; cases = []; deny = Nothing }

-- `container`, `list` and two `leaf` statements, by their numbers
abbrev plan : Plan
plan = record { nodes = planned 4 None 0 ∷ planned 5 (Some 0) 1 ∷ planned 8 (Some 1) 2 ∷ planned 9 (Some 1) 2 ∷ []; choices = [] }

abbrev data_node : List ℕ → Option ℕ → Kind → (keys : List ℕ) → (uniques : List (List ℕ)) → Bool → Node
data_node name parent kind keys uniques mandatory = record {
  name = record { space = codes "urn:ex"; name = name };
  «module» = 0;
  parent = parent;
  kind = kind;
  kind_of_value = 0;
  keys = keys;
  uniques = uniques;
  mandatory = mandatory;
  defaults = [];
  least = 0;
  most = None;
  by_user = false;
  cases = [];
  deny = Nothing;
}

abbrev tables : Tables
tables = record {
  nodes = data_node (codes "top") None (Container false) [] [] false
      ∷ data_node (codes "item") (Some 0) ListKind (2 ∷ []) ((3 ∷ []) ∷ []) false
      ∷ data_node (codes "name") (Some 1) Leaf [] [] false ∷ data_node (codes "size") (Some 1) Leaf [] [] true ∷ [];
  choices = [];
  types = [];
  modules = record { name = codes "ex"; space = codes "urn:ex"; revision = codes "2026-12-01"; features = [] } ∷ [];
  patterns = [];
}

nodes_are : data_tables scoping on plan ≡ tables
unfolding chars encode out-Statement out roll-Statement roll shown-the_row-Statement-0 shown hidden keyword_of keywords word_of is_true_text is_user_text
nodes_are = refl

no_faults : data_faults scoping on plan ≡ []
unfolding chars encode out-Statement out roll-Statement roll shown-the_row-Statement-0 shown hidden keyword_of keywords word_of is_true_text is_user_text
no_faults = refl

-- the statement of a number
abbrev at : ℕ → Located
at number = unwrap_or (slice_get (located entries) number) (record { statement = root; place = record { text = 0; blocks = [] } })

-- what is planned before the last leaf
abbrev before_last : Plan
before_last = record { nodes = planned 4 None 0 ∷ planned 5 (Some 0) 1 ∷ planned 8 (Some 1) 2 ∷ []; choices = [] }

abbrev IsShallow : Planned → Type 0
IsShallow n = n.level < most_levels

shallow : All IsShallow plan.nodes
shallow =
    All-cons IsShallow (planned 4 None 0) (planned 5 (Some 0) 1 ∷ planned 8 (Some 1) 2 ∷ planned 9 (Some 1) 2 ∷ []) (lit< tt)
    (All-cons IsShallow (planned 5 (Some 0) 1) (planned 8 (Some 1) 2 ∷ planned 9 (Some 1) 2 ∷ []) (lit< tt)
    (All-cons IsShallow (planned 8 (Some 1) 2) (planned 9 (Some 1) 2 ∷ []) (lit< tt) (All-cons IsShallow (planned 9 (Some 1) 2) [] (lit< tt) (All-nil IsShallow))))

-- each statement is passed over, or gives a data node and what those in it give
plan_is : IsPlan scoping on plan
unfolding chars encode out-Statement out roll-Statement roll shown-the_row-Statement-0 shown hidden keyword_of keywords word_of
plan_is = record {
  gives =
      one_more 0 nothing plan (at 0) no_text refl
      (passed _ _ _ (at 1) (at 2 ∷ at 3 ∷ at 4 ∷ []) refl (passed _ _ _ (at 2) (at 3 ∷ at 4 ∷ []) refl (passed _ _ _ (at 3) (at 4 ∷ []) refl
      (given _ _ plan _ (at 4) [] 4 _ refl refl
      (given _ _ plan _ (at 5) [] 5 _ refl refl
      (passed _ _ _ (at 6) (at 7 ∷ at 8 ∷ at 9 ∷ []) refl (passed _ _ _ (at 7) (at 8 ∷ at 9 ∷ []) refl
      (given _ _ before_last _ (at 8) (at 9 ∷ []) 8 _ refl refl (passed _ _ _ (at 10) [] refl (none _ _))
      (given _ _ plan _ (at 9) [] 9 _ refl refl (passed _ _ _ (at 11) (at 12 ∷ []) refl (passed _ _ _ (at 12) [] refl (none _ _))) (none _ _)))))
      (none _ _))
      (none _ _)))));
  room = record { few = lit≤ tt; shallow = shallow };
}
