-- A module worked by hand: whatever schema it has, of all data nodes its leaf is the last, after those of ietf-netconf-acm.
use Rattle.std.proofs.Common.{◌≡◌, ◌+◌, ℕ, suc, false, List, [], ◌∷◌, ◌++◌, Option, Some, None, length, refl, sym, ap, subst, ◌∙◌, arith}
use Rattle.std.specs.Prelude.{codes, slice_get, option_and_then, unwrap_or, IsSomeAnd, MatchOption}
use Rattle.std.specs.Option.{option_map_or}
use Rattle.std.specs.Str.{chars, is_utf8}
use Rattle.std.proofs.Math.Utf8.{encode}
use Rattle.std.proofs.lemmas.List.{length_push}
use denote.Hole.Carrier.{hidden, out, roll, shown}
use Rattle.nc_schema.specs.Tables.{Tables}
use Rattle.nc_schema.specs.declared.node.Deny.TheVariants.{Nothing}
use Rattle.nc_schema.specs.declared.node.Kind.TheVariants.{Leaf}
use Rattle.nc_schema.specs.declared.node.Node.{Node}
use Rattle.nc_yang_words.specs.declared.statement.Statement.{Statement}
use Rattle.nc_yang_words.specs.declared.statement.Statement.TheBlock.{shown-the_row-Statement-0}
use Rattle.nc_yang_words.specs.declared.statement.Statement.TheViews.{out-Statement, roll-Statement}
use Rattle.nc_yang_statements.specs.declared.keyword.Keyword.TheVariants.{Leaf as LeafWord}
use Rattle.nc_yang_statements.specs.Keywords.{keyword_of, keywords, word_of}
use Rattle.nc_yang_statements.specs.Statements.{below}
use Rattle.nc_yang_scopes.specs.Scopes.{Located, Scoping, inside as place_inside, root}
use Rattle.nc_yang_scopes.specs.Prefixes.{namespace_at}
use Rattle.nc_yang_nodes.specs.Expansion.{Gives, added, after, at_top, given, in_node, inner, node_of, none, passed}
use Rattle.nc_yang_nodes.specs.Plans.{GivesTexts, no_text, one_more, statement_of}
use Rattle.nc_yang_nodes.specs.Roles.{FeatureTest, block, children, role, role_of}
use Rattle.nc_yang_nodes.specs.declared.planned.Plan.{Plan}
use Rattle.nc_yang_nodes.specs.declared.planned.Planned.{Planned}
use Rattle.nc_yang_data.specs.Data.{data_tables, drafts, node_at, nodes_from, with_leafs}
use Rattle.nc_yang_data.specs.Drafts.{draft_in, unknown_in}
use Rattle.nc_yang_data.specs.Leafs.{CaseTest, names_case}
use Rattle.nc_yang_data.specs.Places.{node_leafs}
use Rattle.nc_yang_leafs.specs.Sources.{Defined}
use Rattle.nc_yang_leafs.specs.Typings.{HasItsType, IsSameNode, NameEach}
use Rattle.nc_yang.specs.Access.{access_yang}
use Rattle.nc_yang.specs.Schemas.{AreNames, Defines, IsSchemaOf, basis}
use Rattle.nc_yang.proofs.Reading.{have_one_way}
use Rattle.nc_yang.proofs.Worked.{IsText, file, have, located, module_of, part_at, root_of, texts_of, top_of}

-- ---- statements of the second text that give something, and others, one after another
module _ (scoping : Scoping) (on : FeatureTest) where
  skipped : (p q : Plan) (l : Located) (rest : List Located) → role scoping.texts on l ≡ None → Gives scoping on (at_top 1) p (l ∷ rest) q → Gives scoping on (at_top 1) p rest q
  skipped p q l rest is (passed _ _ _ _ _ w g) = g
  skipped p q l rest is (given _ _ m _ _ _ n r at has g f) = absurd (cc)

  ended : (p q : Plan) → Gives scoping on (after (at_top 1)) p [] q → p ≡ q
  ended p q (none _ _) = refl

  -- a plan with the data node of the statement of a number, at the top of the module
  abbrev with_top : ℕ → Plan → Plan
  with_top number p = record p { nodes = p.nodes ++ node_of number (at_top 1) Nothing ∷ [] }

  -- a leaf that stands there, and what is behind it
  record GivesOne (p : Plan) (l : Located) (rest : List Located) (q : Plan) : Type 0 where
    number : ℕ
    mid : Plan
    at : slice_get scoping.located number ≡ Some l
    in_it : Gives scoping on (in_node (at_top 1) p) (with_top number p) (children l) mid
    behind : Gives scoping on (after (at_top 1)) mid rest q

  gives_one : (p q : Plan) (l : Located) (rest : List Located) → role scoping.texts on l ≡ role_of Nothing LeafWord → Gives scoping on (at_top 1) p (l ∷ rest) q → GivesOne p l rest q
  gives_one p q l rest is (passed _ _ _ _ _ w g) = absurd (subst (λ o. MatchOption o (Unit {0}) (λ r. ⊥)) (sym w ∙ is) tt)
  gives_one p q l rest is (given _ _ m _ _ _ n r at has g f) =
      record {
        number = n;
        mid = m;
        at = at;
        in_it = subst (λ o. MatchOption o ⊥ (λ z. Gives scoping on (inner (at_top 1) p z) (added n (at_top 1) z p) (block scoping.texts l z) m)) (sym has ∙ is) g;
        behind = f;
      }

  -- in what gives a data node one statement gives nothing
  nothing_in : (p mid q : Plan) (l : Located) → role scoping.texts on l ≡ None → Gives scoping on (in_node (at_top 1) p) mid (l ∷ []) q → mid ≡ q
  nothing_in p mid q l is (passed _ _ _ _ _ w (none _ _)) = refl
  nothing_in p mid q l is (given _ _ m _ _ _ n r at has g f) = absurd (cc)

  -- what the last of so many texts gives after those before it
  record GivesLast (count : ℕ) (q : Plan) : Type 0 where
    before : Plan
    top : Located
    is : root scoping.texts count ≡ Some top
    gives : Gives scoping on (at_top count) before (children top) q

  gives_last : (n count : ℕ) (q : Plan) → n ≡ count + 1 → GivesTexts scoping on n q → GivesLast count q
  gives_last _ count q e no_text = absurd (omega arith)
  gives_last _ count q e (one_more k p _ top g is h) =
      let same : k ≡ count = omega arith in
      record { before = p; top = top; is = subst (λ z. root scoping.texts z ≡ Some top) same is; gives = subst (λ z. Gives scoping on (at_top z) p (children top) q) same h }

-- ---- the last data node of a plan
module _ (scoping : Scoping) (tables : Tables) (test : CaseTest) where
  last_node : (k : ℕ) (ps : List Planned) (p : Planned) → (n : ℕ) × (slice_get (nodes_from scoping tables test k (ps ++ p ∷ [])) (length ps) ≡ Some (node_at scoping tables test n p))
  last_node k [] p = (k, refl)
  last_node k (one ∷ ps) p = let r = last_node (k + 1) ps p in (r.0, r.1)

  as_many : (k : ℕ) (ps : List Planned) → length (nodes_from scoping tables test k ps) ≡ length ps
  as_many k [] = refl
  as_many k (one ∷ ps) = ap suc (as_many (k + 1) ps)

last_planned : (ps : List Planned) (p : Planned) → slice_get (ps ++ p ∷ []) (length ps) ≡ Some p
last_planned [] p = refl
last_planned (one ∷ ps) p = last_planned ps p

-- ---- a module with one leaf
abbrev leafy : List ℕ
leafy = module_of (codes "  leaf name { type string; }" ∷ [])

leafy_is_text : IsText leafy
unfolding is_utf8 chars encode
leafy_is_text = record { utf8 = refl; reads = refl; short = refl }

-- its leaf, and the type of that
abbrev its_leaf : Located
its_leaf = located leafy 2

abbrev its_type : Located
its_type = record { statement = unwrap_or (slice_get (below (part_at leafy 2)) 0) (root_of leafy); place = place_inside its_leaf }

-- the leaf as a data node, but for the number of its type and its defaults
abbrev leaf_node : Node
leaf_node = record {
  name = record { space = codes "urn:m"; name = codes "name" };
  «module» = 1;
  parent = None;
  kind = Leaf;
  kind_of_value = 0;
  keys = [];
  uniques = [];
  mandatory = false;
  defaults = [];
  least = 0;
  most = None;
  by_user = false;
  cases = [];
  deny = Nothing;
}

abbrev plain : Node → Node
plain node = record node { kind_of_value = 0; defaults = [] }

top_is : (access : Statement) → root (access ∷ root_of leafy ∷ []) 1 ≡ Some (top_of leafy)
top_is access = refl

statements_are : children (top_of leafy) ≡ located leafy 0 ∷ located leafy 1 ∷ its_leaf ∷ []
unfolding chars encode out-Statement out roll-Statement roll shown-the_row-Statement-0 shown hidden keyword_of keywords word_of
statements_are = refl

in_leaf_is : children its_leaf ≡ its_type ∷ []
unfolding chars encode out-Statement out roll-Statement roll shown-the_row-Statement-0 shown hidden keyword_of keywords word_of
in_leaf_is = refl

-- what its statements give, whatever features are on
namespace_gives : (access : Statement) (on : FeatureTest) → role (access ∷ root_of leafy ∷ []) on (located leafy 0) ≡ None
unfolding chars encode out-Statement out roll-Statement roll shown-the_row-Statement-0 shown hidden keyword_of keywords word_of
namespace_gives access on = refl

prefix_gives : (access : Statement) (on : FeatureTest) → role (access ∷ root_of leafy ∷ []) on (located leafy 1) ≡ None
unfolding chars encode out-Statement out roll-Statement roll shown-the_row-Statement-0 shown hidden keyword_of keywords word_of
prefix_gives access on = refl

leaf_gives : (access : Statement) (on : FeatureTest) → role (access ∷ root_of leafy ∷ []) on its_leaf ≡ role_of Nothing LeafWord
unfolding chars encode out-Statement out roll-Statement roll shown-the_row-Statement-0 shown hidden keyword_of keywords word_of
leaf_gives access on = refl

type_gives : (access : Statement) (on : FeatureTest) → role (access ∷ root_of leafy ∷ []) on its_type ≡ None
unfolding chars encode out-Statement out roll-Statement roll shown-the_row-Statement-0 shown hidden keyword_of keywords word_of
type_gives access on = refl

-- the data node that it makes
made : (access : Statement) (tables : Tables) (test : CaseTest) (n number : ℕ) →
    with_leafs (draft_in (namespace_at (access ∷ root_of leafy ∷ []) 1) (node_of number (at_top 1) Nothing) (part_at leafy 2)) (node_leafs (access ∷ root_of leafy ∷ []) tables test 1 n (part_at leafy 2)) ≡ leaf_node
unfolding chars encode out-Statement out roll-Statement roll shown-the_row-Statement-0 shown hidden keyword_of keywords word_of
made access tables test n number = refl

-- ---- whatever schema modules have
module _ (scoping : Scoping) (on : FeatureTest) (access : Statement) (texts_are : scoping.texts ≡ access ∷ root_of leafy ∷ []) where
  -- what is planned is one data node after those of the text before
  record PlansLeaf (plan : Plan) : Type 0 where
    before : Plan
    number : ℕ
    at : slice_get scoping.located number ≡ Some its_leaf
    nodes : plan.nodes ≡ before.nodes ++ node_of number (at_top 1) Nothing ∷ []

  plans_leaf : (plan : Plan) → GivesTexts scoping on (length scoping.texts) plan → PlansLeaf plan
  plans_leaf plan g =
      let last = gives_last scoping on (length scoping.texts) 1 plan (ap length texts_are) g in
      let two : Some last.top ≡ Some (top_of leafy) = sym last.is ∙ ap (λ ts. root ts 1) texts_are ∙ top_is access in
      let top : last.top ≡ top_of leafy = cc in
      let all : Gives scoping on (at_top 1) last.before (located leafy 0 ∷ located leafy 1 ∷ its_leaf ∷ []) plan = subst (λ ls. Gives scoping on (at_top 1) last.before ls plan) (ap children top ∙ statements_are) last.gives in
      let second = skipped scoping on last.before plan (located leafy 0) (located leafy 1 ∷ its_leaf ∷ []) (ap (λ ts. role ts on (located leafy 0)) texts_are ∙ namespace_gives access on) all in
      let third = skipped scoping on last.before plan (located leafy 1) (its_leaf ∷ []) (ap (λ ts. role ts on (located leafy 1)) texts_are ∙ prefix_gives access on) second in
      let one = gives_one scoping on last.before plan its_leaf [] (ap (λ ts. role ts on its_leaf) texts_are ∙ leaf_gives access on) third in
      let start : Plan = with_top scoping on one.number last.before in
      let inside_it : Gives scoping on (in_node (at_top 1) last.before) start (its_type ∷ []) one.mid = subst (λ ls. Gives scoping on (in_node (at_top 1) last.before) start ls one.mid) in_leaf_is one.in_it in
      let done : start ≡ one.mid = nothing_in scoping on last.before start one.mid its_type (ap (λ ts. role ts on its_type) texts_are ∙ type_gives access on) inside_it in
      let all_done : one.mid ≡ plan = ended scoping on one.mid plan one.behind in
      record { before = last.before; number = one.number; at = one.at; nodes = sym (ap (λ (p : Plan). p.nodes) (done ∙ all_done)) }

  -- the last data node of a schema is that leaf
  record HasLast (tables : Tables) : Type 0 where
    place : ℕ
    counted : length tables.nodes ≡ place + 1
    node : Node
    there : slice_get tables.nodes place ≡ Some node
    is : plain node ≡ leaf_node

  module _ (plan : Plan) (planned : PlansLeaf plan) where
    abbrev drawn : Tables
    drawn = data_tables scoping on plan

    abbrev last : Planned
    last = node_of planned.number (at_top 1) Nothing

    abbrev spot : ℕ
    spot = length planned.before.nodes

    abbrev test : CaseTest
    test = names_case scoping on plan

    given_there : (n : ℕ) × (slice_get drawn.nodes spot ≡ Some (node_at scoping (drafts scoping plan) test n last))
    given_there =
        let r = last_node scoping (drafts scoping plan) test 0 planned.before.nodes last in
        (r.0, ap (λ ps. slice_get (nodes_from scoping (drafts scoping plan) test 0 ps) spot) planned.nodes ∙ r.1)

    -- by where its statement is found
    abbrev by_statement : Option Located → List Statement → ℕ → Node
    by_statement o texts n =
        with_leafs (option_map_or (λ (l : Located). draft_in (namespace_at texts 1) last l.statement) o (unknown_in (namespace_at texts 1) last))
        (option_map_or (λ (l : Located). node_leafs texts (drafts scoping plan) test l.place.text n l.statement) o (record { keys = []; uniques = [] }))

    node_is : (n : ℕ) → node_at scoping (drafts scoping plan) test n last ≡ leaf_node
    node_is n =
        ap (λ o. by_statement o scoping.texts n) planned.at ∙ ap (λ ts. by_statement (Some its_leaf) ts n) texts_are
        ∙ made access (drafts scoping plan) test n planned.number

    given_is : slice_get drawn.nodes spot ≡ Some leaf_node
    given_is = given_there.1 ∙ ap Some (node_is given_there.0)

    given_counted : length drawn.nodes ≡ spot + 1
    given_counted =
        as_many scoping (drafts scoping plan) test 0 plan.nodes ∙ ap length planned.nodes ∙ length_push planned.before.nodes last

    defined : statement_of scoping plan spot ≡ Some its_leaf
    defined =
        ap (λ ps. option_and_then (λ (p : Planned). slice_get scoping.located p.statement) (slice_get ps spot)) planned.nodes
        ∙ ap (option_and_then (λ (p : Planned). slice_get scoping.located p.statement)) (last_planned planned.before.nodes last) ∙ planned.at

    schema_has : (tables : Tables) → IsSchemaOf scoping on plan tables → HasLast tables
    schema_has tables is = by (slice_get is.typed.nodes spot) refl (is.is.bare.types.nodes spot leaf_node given_is)
      where
        by : (o : Option Node) → slice_get is.typed.nodes spot ≡ o → IsSomeAnd o (λ new. IsSameNode leaf_node new × HasItsType (AreNames scoping on) (NameEach is.typed.patterns) (basis scoping on plan) is.typed.types spot new.kind new.kind_of_value) → HasLast tables
        by None e h = absurd h
        by (Some new) e h =
            let d : Defined = record { number = spot; node = new; statement = its_leaf } in
            let has = is.defaults.nodes d (e, defined) in
            record {
              place = spot;
              counted = is.defaults.counted ∙ is.is.bare.types.counted ∙ given_counted;
              node = record new { defaults = has.values };
              there = has.there;
              is = ap (λ z. plain (record z { defaults = has.values })) h.0;
            }

-- the modules of the file have in every schema their leaf as the last data node
leaf_is_last : (lines : List (List ℕ)) (tables : Tables) → Defines (file leafy ∷ []) lines tables →
    (place : ℕ) × (node : Node) × (length tables.nodes ≡ place + 1) × (slice_get tables.nodes place ≡ Some node) × (plain node ≡ leaf_node)
leaf_is_last lines tables d =
    let texts_are : d.scoping.texts ≡ root_of access_yang ∷ root_of leafy ∷ [] = have_one_way (file leafy ∷ []) d.scoping.texts (texts_of leafy) d.begun.read (have leafy leafy_is_text) in
    let planned = plans_leaf d.scoping d.on (root_of access_yang) texts_are d.gives.plan d.gives.planned.gives in
    let has = schema_has d.scoping d.on (root_of access_yang) texts_are d.gives.plan planned tables d.gives.is in
    (has.place, has.node, has.counted, has.there, has.is)
