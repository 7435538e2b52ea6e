-- Data nodes of a plan where no rule is broken: their statements, their parents and their names.
use Rattle.std.proofs.Common.{◌≡◌, ◌+◌, ◌++◌, not, ℕ, zero, suc, Bool, true, false, List, [], ◌∷◌, map, Option, Some, None, refl, sym, ap, subst, ◌∙◌, arith}
use Rattle.std.specs.Prelude.{IsSome, IsSomeAnd, IsTrue, option_map, slice_get, if◌then◌else◌}
use Rattle.std.specs.List.{All}
use Rattle.std.specs.Option.{option_map_or}
use Rattle.std.proofs.lemmas.Bool.Decides.{Decides-eqb}
use Rattle.std.proofs.lemmas.List.Elements.{All-get_or}
use Rattle.std.proofs.lemmas.Option.{get_or_from_slice_get, slice_get-map, slice_get_within}
use Rattle.nc_names.specs.Identifiers.{is_identifier}
use Rattle.nc_schema.specs.Children.{child_number, is_same_number, IsAbove}
use Rattle.nc_schema.specs.Kinds.{holds_nodes}
use Rattle.nc_schema.specs.Proper.{StandsIn}
use Rattle.nc_schema.specs.Tables.{Tables}
use Rattle.nc_schema.specs.declared.node.Node.{Node}
use Rattle.nc_yang_words.specs.declared.statement.Statement.{Statement}
use Rattle.nc_yang_statements.specs.Keywords.{is_same_keyword}
use Rattle.nc_yang_statements.specs.Rules.{at_if}
use Rattle.nc_yang_statements.specs.Statements.{kind, name}
use Rattle.nc_yang_statements.specs.declared.fault.Fault.{Fault}
use Rattle.nc_yang_statements.specs.declared.fault.ModuleWhy.{ModuleWhy}
use Rattle.nc_yang_statements.specs.declared.fault.ModuleWhy.TheVariants.{BadArgument, Twice, UnknownStatement}
use Rattle.nc_yang_statements.specs.declared.keyword.Keyword.TheVariants.{List as ListWord}
use Rattle.nc_yang_scopes.specs.Scopes.{Located, Scoping}
use Rattle.nc_yang_nodes.specs.Plans.{IsSoundPlan}
use Rattle.nc_yang_nodes.specs.Roles.{FeatureTest}
use Rattle.nc_yang_nodes.specs.declared.planned.Plan.{Plan}
use Rattle.nc_yang_nodes.specs.declared.planned.Planned.{Planned}
use Rattle.nc_yang_data.specs.Data.{data_tables, drafts, node_at, nodes_from, with_leafs}
use Rattle.nc_yang_data.specs.Drafts.{draft_at}
use Rattle.nc_yang_data.specs.Leafs.{CaseTest, names_case}
use Rattle.nc_yang_data.specs.Lists.{list_faults}
use Rattle.nc_yang_data.specs.Places.{faults_at, faults_from, holds_at, in_text, is_astray, is_twin, leafs_at, node_faults}
use Rattle.nc_yang_data.specs.declared.place.Leafs.{Leafs}
use Rattle.nc_yang_data.proofs.DraftLemmas.{draft_parent}

-- ---- lists, options and tests
pub append_nothing : {A : Type 0} (xs ys : List A) → xs ++ ys ≡ [] → (xs ≡ []) × (ys ≡ [])
append_nothing [] ys e = (refl, e)
append_nothing (x ∷ xs) ys e = absurd (cc)

map_nothing : {A B : Type 0} (f : A → B) (xs : List A) → map f xs ≡ [] → xs ≡ []
map_nothing f [] e = refl
map_nothing f (x ∷ xs) e = absurd (cc)

pub at_if_off : (b : Bool) (s : Statement) (why : ModuleWhy) → at_if b s why ≡ [] → b ≡ false
at_if_off true s why e = absurd (cc)
at_if_off false s why e = refl

some_of : {A : Type 0} (o : Option A) → IsSome o → (x : A) × (o ≡ Some x)
some_of None h = absurd (cc)
some_of (Some x) h = (x, refl)

pub mapped : {A B : Type 0} (f : A → B) (o : Option A) (y : B) → option_map f o ≡ Some y → (x : A) × (o ≡ Some x) × (y ≡ f x)
mapped f None y e = absurd (cc)
mapped f (Some x) y e = (x, refl, cc)

pub passed_by : {A : Type 0} (f : A → Bool) (o : Option A) → option_map_or f o false ≡ true → (x : A) × (o ≡ Some x) × (f x ≡ true)
passed_by f None e = absurd (cc)
passed_by f (Some x) e = (x, refl, e)

pub not_false : (b : Bool) → not b ≡ false → b ≡ true
not_false true e = refl
not_false false e = absurd (cc)

same_number : (o : Option ℕ) (n : ℕ) → is_same_number o (Some n) ≡ true → o ≡ Some n
same_number None n e = absurd (cc)
same_number (Some k) n e = ap (λ (m : ℕ). Some m) ((Decides-eqb k n).0 e)

pub all_at : {A : Type 0} (P : A → Type 0) (xs : List A) (n : ℕ) (x : A) → All P xs → slice_get xs n ≡ Some x → P x
all_at P xs n x h is = subst P (get_or_from_slice_get xs n x x is) (All-get_or P xs n x (slice_get_within xs n x is) h)

-- ---- planned nodes, one after another
nodes_at : (scoping : Scoping) (tables : Tables) (named : CaseTest) (k n : ℕ) (ps : List Planned) →
    slice_get (nodes_from scoping tables named k ps) n ≡ option_map (node_at scoping tables named (k + n)) (slice_get ps n)
nodes_at scoping tables named k n [] = refl
nodes_at scoping tables named k zero (p ∷ ps) =
    let e : k ≡ k + 0 = omega arith in ap (λ m. Some (node_at scoping tables named m p)) e
nodes_at scoping tables named k (suc n) (p ∷ ps) =
    let e : k + 1 + n ≡ k + suc n = omega arith in
    nodes_at scoping tables named (k + 1) n ps ∙ ap (λ m. option_map (node_at scoping tables named m) (slice_get ps n)) e

faults_off : (scoping : Scoping) (tables : Tables) (named : CaseTest) (k n : ℕ) (ps : List Planned) (p : Planned) → faults_from scoping tables named k ps ≡ [] →
    slice_get ps n ≡ Some p → faults_at scoping tables named (k + n) p.statement ≡ []
faults_off scoping tables named k n [] p none is = absurd (cc)
faults_off scoping tables named k zero (q ∷ ps) p none is =
    let e : k ≡ k + 0 = omega arith in
    let same : q ≡ p = cc in
    subst (λ m. faults_at scoping tables named m p.statement ≡ []) e
    (subst (λ (z : Planned). faults_at scoping tables named k z.statement ≡ []) same
    (append_nothing (faults_at scoping tables named k q.statement) (faults_from scoping tables named (k + 1) ps) none).0)
faults_off scoping tables named k (suc n) (q ∷ ps) p none is =
    let e : k + 1 + n ≡ k + suc n = omega arith in
    subst (λ m. faults_at scoping tables named m p.statement ≡ []) e
    (faults_off scoping tables named (k + 1) n ps p
    (append_nothing (faults_at scoping tables named k q.statement) (faults_from scoping tables named (k + 1) ps) none).1 is)

-- ---- the data nodes of a plan
module _ (scoping : Scoping) (on : FeatureTest) (plan : Plan) where
  abbrev pub alone : Tables
  alone = drafts scoping plan

  abbrev pub whole : Tables
  whole = data_tables scoping on plan

  abbrev named : CaseTest
  named = names_case scoping on plan

  -- a data node, what is planned of it, and its statement, which breaks no rule
  pub record Known (number : ℕ) (node : Node) : Type 0 where
    pub p : Planned
    pub planned : slice_get plan.nodes number ≡ Some p
    pub is : node ≡ node_at scoping alone named number p
    pub l : Located
    pub located : slice_get scoping.located p.statement ≡ Some l
    pub kept : node_faults scoping.texts alone named l.place.text number l.statement ≡ []

  node_there : (number : ℕ) (p : Planned) → slice_get plan.nodes number ≡ Some p → slice_get whole.nodes number ≡ Some (node_at scoping alone named number p)
  node_there number p is =
      let e : 0 + number ≡ number = omega arith in
      nodes_at scoping alone named 0 number plan.nodes ∙ ap (λ m. option_map (node_at scoping alone named m) (slice_get plan.nodes number)) e
      ∙ ap (option_map (node_at scoping alone named number)) is

  draft_there : (number : ℕ) (p : Planned) → slice_get plan.nodes number ≡ Some p → slice_get alone.nodes number ≡ Some (draft_at scoping p)
  draft_there number p is = slice_get-map (draft_at scoping) plan.nodes number ∙ ap (option_map (draft_at scoping)) is

  -- the same node by its statement alone, and with its leafs
  pub in_whole : (number : ℕ) (x : Node) → slice_get alone.nodes number ≡ Some x → (leafs : Leafs) × (slice_get whole.nodes number ≡ Some (with_leafs x leafs))
  in_whole number x is =
      let (q, planned, same) = mapped (draft_at scoping) (slice_get plan.nodes number) x (sym (slice_get-map (draft_at scoping) plan.nodes number) ∙ is) in
      let leafs : Leafs = leafs_at scoping alone named number q.statement in
      (leafs, node_there number q planned ∙ ap (λ (z : Node). Some (with_leafs z leafs)) (sym same))

  pub known : (number : ℕ) (node : Node) → IsSoundPlan scoping plan → faults_from scoping alone named 0 plan.nodes ≡ [] → slice_get whole.nodes number ≡ Some node → Known number node
  known number node sound none is =
      let e : 0 + number ≡ number = omega arith in
      let (p, planned, same) = mapped (node_at scoping alone named (0 + number)) (slice_get plan.nodes number) node (sym (nodes_at scoping alone named 0 number plan.nodes) ∙ is) in
      let (l, located) = some_of (slice_get scoping.located p.statement) (all_at (λ (n : Planned). IsSome (slice_get scoping.located n.statement)) plan.nodes number p sound.statements planned) in
      let off = faults_off scoping alone named 0 number plan.nodes p none planned in
      record {
        p = p;
        planned = planned;
        is = same ∙ ap (λ m. node_at scoping alone named m p) e;
        l = l;
        located = located;
        kept =
            map_nothing (in_text l.place.text) (node_faults scoping.texts alone named l.place.text number l.statement)
            (sym (ap (λ o. option_map_or (λ (z : Located). map (in_text z.place.text) (node_faults scoping.texts alone named z.place.text number z.statement)) o []) located)
            ∙ ap (λ m. faults_at scoping alone named m p.statement) (sym e) ∙ off);
      }

  module _ (number : ℕ) (node : Node) (k : Known number node) where
    abbrev first_parts : List Fault
    first_parts = at_if (is_twin alone number) k.l.statement Twice ++ at_if (is_astray alone number) k.l.statement UnknownStatement

    abbrev list_part : List Fault
    list_part = if is_same_keyword ListWord (kind k.l.statement) then list_faults scoping.texts alone named k.l.place.text number k.l.statement else []

    pub parts_off : (at_if (is_twin alone number) k.l.statement Twice ≡ []) × (at_if (is_astray alone number) k.l.statement UnknownStatement ≡ [])
        × (at_if (not (is_identifier (name k.l.statement))) k.l.statement BadArgument ≡ [])
        × ((if is_same_keyword ListWord (kind k.l.statement) then list_faults scoping.texts alone named k.l.place.text number k.l.statement else []) ≡ [])
    parts_off =
        let (front, last) = append_nothing (first_parts ++ at_if (not (is_identifier (name k.l.statement))) k.l.statement BadArgument) list_part k.kept in
        let (two, third) = append_nothing first_parts (at_if (not (is_identifier (name k.l.statement))) k.l.statement BadArgument) front in
        let (one, other) = append_nothing (at_if (is_twin alone number) k.l.statement Twice) (at_if (is_astray alone number) k.l.statement UnknownStatement) two in
        (one, other, third, last)

    -- its parent
    pub parent_is : node.parent ≡ k.p.parent
    parent_is = ap (λ (n : Node). n.parent) k.is ∙ draft_parent scoping k.p

    holds_above : (above : ℕ) → k.p.parent ≡ Some above → holds_at alone above ≡ true
    holds_above above e =
        let off = at_if_off (is_astray alone number) k.l.statement UnknownStatement parts_off.1 in
        let there = ap (λ o. option_map_or (λ (n : Node). not (option_map_or (holds_at alone) n.parent true)) o false) (draft_there number k.p k.planned) in
        let own = ap (λ (o : Option ℕ). not (option_map_or (holds_at alone) o true)) (draft_parent scoping k.p ∙ e) in
        not_false (holds_at alone above) (sym (there ∙ own) ∙ off)

    pub stands : IsSoundPlan scoping plan → StandsIn whole number node.parent
    stands sound = subst (StandsIn whole number) (sym parent_is) (by k.p.parent refl)
      where
        by : (o : Option ℕ) → k.p.parent ≡ o → StandsIn whole number o
        by None e = _
        by (Some above) e =
            let (x, there, holds) = passed_by (λ (n : Node). holds_nodes n.kind) (slice_get alone.nodes above) (holds_above above e) in
            let (leafs, here) = in_whole above x there in (
              subst (λ o. IsAbove o number) e (sound.parents number k.p k.planned),
              subst (λ o. IsSomeAnd o (λ (over : Node). IsTrue (holds_nodes over.kind))) (sym here) holds,
            )

    -- it is the first of its name
    pub first_of : child_number alone node.parent node.name ≡ Some number
    first_of =
        let off = at_if_off (is_twin alone number) k.l.statement Twice parts_off.0 in
        let there = ap (λ o. option_map_or (λ (n : Node). not (is_same_number (child_number alone n.parent n.name) (Some number))) o false) (draft_there number k.p k.planned) in
        let own = same_number (child_number alone (draft_at scoping k.p).parent (draft_at scoping k.p).name) number
        (not_false (is_same_number (child_number alone (draft_at scoping k.p).parent (draft_at scoping k.p).name) (Some number)) (sym there ∙ off)) in
        ap (λ (n : Node). child_number alone n.parent n.name) k.is ∙ own

  pub apart : (number other : ℕ) (node beside : Node) → Known number node → Known other beside → node.parent ≡ beside.parent → node.name ≡ beside.name → number ≡ other
  apart number other node beside k j parents names =
      let one = first_of number node k in
      let two = first_of other beside j in
      let same : Some number ≡ Some other =
      sym one ∙ ap (λ o. child_number alone o node.name) parents ∙ ap (child_number alone beside.parent) names ∙ two in
      cc
