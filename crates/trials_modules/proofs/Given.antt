-- What the statements of modules give, computed from the statements alone: the data nodes and the choices with the
-- statements that define them, whatever numbers these have. Every plan of the modules is seen so, so a module is worked by
-- one computation, whatever kinds of statements it has.
use Rattle.std.proofs.Common.{◌≡◌, ◌+◌, ◌&&◌, ℕ, zero, suc, not, Bool, true, false, cond, List, [], ◌∷◌, ◌++◌, length, map, refl, sym, ap, subst, ◌∙◌, arith}
use Rattle.std.specs.Prelude.{Option, Some, None, MatchOption, is_some, slice_get, option_and_then, option_map, unwrap_or, if◌then◌else◌}
use Rattle.std.specs.Option.{option_map_or}
use Rattle.std.proofs.lemmas.List.{length-map, map-append}
use Rattle.nc_schema.specs.declared.node.Case.{Case as CaseNumber}
use Rattle.nc_schema.specs.declared.node.Deny.{Deny}
use Rattle.nc_schema.specs.declared.node.Deny.TheVariants.{Nothing}
use Rattle.nc_yang_words.specs.declared.statement.Statement.{Statement}
use Rattle.nc_yang_statements.specs.declared.keyword.Keyword.{Keyword}
use Rattle.nc_yang_statements.specs.declared.keyword.Keyword.TheVariants.{Case as CaseWord, Choice as ChoiceWord, Container, Grouping, Leaf, LeafList, List as ListWord, Uses as UsesWord}
use Rattle.nc_yang_statements.specs.Statements.{kind, name}
use Rattle.nc_yang_scopes.specs.Scopes.{Located, Scoping, resolved, root}
use Rattle.nc_yang_scopes.specs.States.{is_state}
use Rattle.nc_yang_nodes.specs.declared.planned.Plan.{Plan}
use Rattle.nc_yang_nodes.specs.Alike.{SeenChoice, SeenNode, seen_choice, seen_node}
use Rattle.nc_yang_nodes.specs.Denials.{denial, together}
use Rattle.nc_yang_nodes.specs.Expansion.{Gives, Moment, added, after, at_top, case_after, choice_of, given, in_block, in_node, inner, list_of, node_of, none, passed}
use Rattle.nc_yang_nodes.specs.Plans.{GivesTexts, no_text, one_more}
use Rattle.nc_yang_nodes.specs.Roles.{FeatureTest, block, children, is_supported, role, role_of}

-- ---- what is seen of a plan: its data nodes and choices, with their statements in place of the numbers of these
pub record Seen : Type 0 where
  pub nodes : List SeenNode
  pub choices : List SeenChoice

abbrev pub seen : Scoping → Plan → Seen
seen scoping plan = record { nodes = map (seen_node scoping) plan.nodes; choices = map (seen_choice scoping) plan.choices }

-- nothing planned
abbrev pub unseen : Seen
unseen = record { nodes = []; choices = [] }

-- ---- where statements are expanded: in which module, data node and cases, and what the statements round them deny
pub record Spot : Type 0 where
  pub in_module : ℕ
  pub parent : Option ℕ
  pub level : ℕ
  pub cases : List CaseNumber
  pub next : Option CaseNumber
  pub deny : Deny

abbrev pub spot : Moment → Spot
spot m = record {
  in_module = m.context.module;
  parent = m.context.parent;
  level = m.context.level;
  cases = m.context.cases;
  next = m.context.next;
  deny = m.context.deny;
}

abbrev pub top_spot : (text : ℕ) → Spot
top_spot text = record { in_module = text; parent = None; level = 0; cases = []; next = None; deny = Nothing }

abbrev pub next_spot : Spot → Spot
next_spot p = record p { next = option_map case_after p.next }

abbrev pub cases_at : Spot → List CaseNumber
cases_at p = p.cases ++ list_of p.next

-- ---- what a statement is: a data node, a choice, a case, or a use of a grouping; each with what it denies
pub data Part : Type 0 where
  gives_node : Deny → Part
  gives_choice : Deny → Part
  gives_case : Deny → Part
  gives_uses : Deny → Part

abbrev pub part_by : Deny → Keyword → Option Part
part_by deny Container = Some (gives_node deny)
part_by deny Leaf = Some (gives_node deny)
part_by deny LeafList = Some (gives_node deny)
part_by deny ListWord = Some (gives_node deny)
part_by deny ChoiceWord = Some (gives_choice deny)
part_by deny CaseWord = Some (gives_case deny)
part_by deny UsesWord = Some (gives_uses deny)
part_by deny keyword = None

abbrev pub part : List Statement → FeatureTest → Located → Option Part
part texts on l =
    if is_supported texts on l && not (is_state l.statement) then part_by (denial texts l) (kind l.statement) else None

-- the statements that are expanded where it stands
abbrev pub inside_of : List Statement → Located → Part → List Located
inside_of texts l (gives_uses deny) = option_map_or children (resolved texts Grouping (name l.statement) l.place) []
inside_of texts l other = children l

-- the spot of these
abbrev pub block_spot : Spot → Deny → Option CaseNumber → Spot
block_spot p deny next = record p { cases = cases_at p; next = next; deny = together p.deny deny }

abbrev pub inner_spot : Spot → Seen → Part → Spot
inner_spot p s (gives_node deny) =
    record { in_module = p.in_module; parent = Some (length s.nodes); level = p.level + 1; cases = []; next = None; deny = Nothing }
inner_spot p s (gives_choice deny) = block_spot p deny (Some (record { choice = length s.choices; case = 0 }))
inner_spot p s (gives_case deny) = block_spot p deny None
inner_spot p s (gives_uses deny) = block_spot p deny None

-- with what the statement gives by itself
abbrev pub node_seen : Located → Spot → Deny → SeenNode
node_seen l p deny = record {
  statement = Some l;
  in_module = p.in_module;
  parent = p.parent;
  level = p.level;
  cases = cases_at p;
  deny = together p.deny deny;
}

abbrev pub choice_seen : Located → Spot → (nodes : ℕ) → SeenChoice
choice_seen l p nodes =
    record { statement = Some l; in_module = p.in_module; parent = p.parent; within = cases_at p; nodes_before = nodes }

abbrev pub with_seen : Located → Spot → Part → Seen → Seen
with_seen l p (gives_node deny) s = record { nodes = s.nodes ++ node_seen l p deny ∷ []; choices = s.choices }
with_seen l p (gives_choice deny) s = record { nodes = s.nodes; choices = s.choices ++ choice_seen l p (length s.nodes) ∷ [] }
with_seen l p (gives_case deny) s = s
with_seen l p (gives_uses deny) s = s

-- ---- what statements give, one after another, in so many steps at most
abbrev pub given_by : List Statement → FeatureTest → (steps : ℕ) → Spot → Seen → List Located → Option Seen
given_by texts on zero p s ls = None
given_by texts on (suc steps) p s [] = Some s
given_by texts on (suc steps) p s (l ∷ rest) =
    option_map_or
    (λ r. option_and_then (λ mid. given_by texts on steps (next_spot p) mid rest)
    (given_by texts on steps (inner_spot p s r) (with_seen l p r s) (inside_of texts l r)))
    (part texts on l) (given_by texts on steps p s rest)

-- what the first so many texts give
abbrev pub given_in : List Statement → FeatureTest → (steps : ℕ) → (count : ℕ) → Option Seen
given_in texts on steps zero = Some unseen
given_in texts on steps (suc count) =
    option_and_then (λ s. option_and_then (λ top. given_by texts on steps (top_spot count) s (children top)) (root texts count))
    (given_in texts on steps count)

-- what is there is what it is
pub some_there : {A : Type 0} (o : Option A) (x : A) → is_some o ≡ true → o ≡ Some (unwrap_or o x)
some_there None x e = absurd (cc)
some_there (Some a) x e = refl

-- ---- what is planned is seen so
module _ (scoping : Scoping) (on : FeatureTest) where
  -- a statement gives the same, in the same way
  module _ (m : Moment) (p : Plan) (l : Located) where
    pub record Agrees (more : ℕ → Plan) (inside : Spot) (block : List Located) (r : Part) : Type 0 where
      pub adds : (n : ℕ) → slice_get scoping.located n ≡ Some l → seen scoping (more n) ≡ with_seen l (spot m) r (seen scoping p)
      pub stands : inside ≡ inner_spot (spot m) (seen scoping p) r
      pub has : block ≡ inside_of scoping.texts l r

    node_agrees : (deny : Deny) →
        Agrees (λ n. record p { nodes = p.nodes ++ node_of n m.context deny ∷ [] })
        (spot (record { context = in_node m.context p; before = p; statement = l })) (children l) (gives_node deny)
    node_agrees deny = record {
      adds = λ n at.
          let more = map-append (seen_node scoping) p.nodes (node_of n m.context deny ∷ [])
          ∙ (λ i. map (seen_node scoping) p.nodes ++ record {
            statement = at i;
            in_module = m.context.module;
            parent = m.context.parent;
            level = m.context.level;
            cases = cases_at (spot m);
            deny = together m.context.deny deny;
          } ∷ []) in
          λ i. record { nodes = more i; choices = map (seen_choice scoping) p.choices };
      stands =
          let many = sym (length-map p.nodes (seen_node scoping)) in
          λ i. record { in_module = m.context.module; parent = Some (many i); level = m.context.level + 1; cases = []; next = None; deny = Nothing };
      has = refl;
    }

    choice_agrees : (deny : Deny) →
        Agrees (λ n. record p { choices = p.choices ++ choice_of n m.context (length p.nodes) ∷ [] })
        (spot (record { context = in_block m.context deny (Some (record { choice = length p.choices; case = 0 })); before = p; statement = l }))
        (children l) (gives_choice deny)
    choice_agrees deny = record {
      adds = λ n at.
          let many = sym (length-map p.nodes (seen_node scoping)) in
          let more = map-append (seen_choice scoping) p.choices (choice_of n m.context (length p.nodes) ∷ [])
          ∙ (λ i. map (seen_choice scoping) p.choices ++ record {
            statement = at i;
            in_module = m.context.module;
            parent = m.context.parent;
            within = cases_at (spot m);
            nodes_before = many i;
          } ∷ []) in
          λ i. record { nodes = map (seen_node scoping) p.nodes; choices = more i };
      stands =
          let many = sym (length-map p.choices (seen_choice scoping)) in
          λ i. block_spot (spot m) deny (Some (record { choice = many i; case = 0 }));
      has = refl;
    }

    case_agrees : (deny : Deny) →
        Agrees (λ n. p) (spot (record { context = in_block m.context deny None; before = p; statement = l })) (children l) (gives_case deny)
    case_agrees deny = record { adds = λ n at. refl; stands = refl; has = refl }

    uses_agrees : (deny : Deny) →
        Agrees (λ n. p) (spot (record { context = in_block m.context deny None; before = p; statement = l }))
        (option_map_or children (resolved scoping.texts Grouping (name l.statement) l.place) []) (gives_uses deny)
    uses_agrees deny = record { adds = λ n at. refl; stands = refl; has = refl }

    by_keyword : (deny : Deny) (k : Keyword) →
        MatchOption (role_of deny k) (part_by deny k ≡ None) (λ z. MatchOption (part_by deny k) ⊥ (λ r.
        Agrees (λ n. added n m.context z p) (spot (record { context = inner m.context p z; before = p; statement = l })) (block scoping.texts l z) r))
    by_keyword deny Container = node_agrees deny
    by_keyword deny Leaf = node_agrees deny
    by_keyword deny LeafList = node_agrees deny
    by_keyword deny ListWord = node_agrees deny
    by_keyword deny ChoiceWord = choice_agrees deny
    by_keyword deny CaseWord = case_agrees deny
    by_keyword deny UsesWord = uses_agrees deny
    by_keyword deny k = refl

    pub by_support : (b : Bool) (deny : Deny) (k : Keyword) →
        MatchOption (cond b (role_of deny k) None) (cond b (part_by deny k) None ≡ None) (λ z. MatchOption (cond b (part_by deny k) None) ⊥ (λ r.
        Agrees (λ n. added n m.context z p) (spot (record { context = inner m.context p z; before = p; statement = l })) (block scoping.texts l z) r))
    by_support true deny k = by_keyword deny k
    by_support false deny k = refl

    pub no_part : role scoping.texts on l ≡ None → part scoping.texts on l ≡ None
    no_part is =
        subst (λ o. MatchOption o (part scoping.texts on l ≡ None) (λ z. MatchOption (part scoping.texts on l) ⊥ (λ r.
        Agrees (λ n. added n m.context z p) (spot (record { context = inner m.context p z; before = p; statement = l })) (block scoping.texts l z) r))) is
        (by_support (is_supported scoping.texts on l && not (is_state l.statement)) (denial scoping.texts l) (kind l.statement))

    -- what is inside comes first, and then what is behind
    abbrev by_part : (steps : ℕ) → List Located → Option Part → Option Seen
    by_part steps rest o =
        option_map_or
        (λ r. option_and_then (λ mid. given_by scoping.texts on steps (next_spot (spot m)) mid rest)
        (given_by scoping.texts on steps (inner_spot (spot m) (seen scoping p) r) (with_seen l (spot m) r (seen scoping p)) (inside_of scoping.texts l r)))
        o (given_by scoping.texts on steps (spot m) (seen scoping p) rest)

    inside_first : (steps : ℕ) (rest : List Located) (s t : Seen) (o : Option Part) (more : ℕ → Plan) (inside : Spot) (blk : List Located) (n : ℕ) →
        slice_get scoping.located n ≡ Some l → MatchOption o ⊥ (λ r. Agrees more inside blk r) → by_part steps rest o ≡ Some s →
        ((mid : Seen) → given_by scoping.texts on steps inside (seen scoping (more n)) blk ≡ Some mid →
        given_by scoping.texts on steps (next_spot (spot m)) mid rest ≡ Some s → t ≡ s) → t ≡ s
    inside_first steps rest s t None more inside blk n at agrees e go = absurd agrees
    inside_first steps rest s t (Some r) more inside blk n at agrees e go =
        by (given_by scoping.texts on steps (inner_spot (spot m) (seen scoping p) r) (with_seen l (spot m) r (seen scoping p)) (inside_of scoping.texts l r)) refl e
      where
        same : given_by scoping.texts on steps inside (seen scoping (more n)) blk
            ≡ given_by scoping.texts on steps (inner_spot (spot m) (seen scoping p) r) (with_seen l (spot m) r (seen scoping p)) (inside_of scoping.texts l r)
        same = λ i. given_by scoping.texts on steps (agrees.stands i) (agrees.adds n at i) (agrees.has i)

        by : (x : Option Seen) →
            given_by scoping.texts on steps (inner_spot (spot m) (seen scoping p) r) (with_seen l (spot m) r (seen scoping p)) (inside_of scoping.texts l r) ≡ x →
            option_and_then (λ mid. given_by scoping.texts on steps (next_spot (spot m)) mid rest) x ≡ Some s → t ≡ s
        by None is f = absurd (cc)
        by (Some mid) is f = go mid (same ∙ is) f

  pub gives_seen : (steps : ℕ) (m : Moment) (p q : Plan) (ls : List Located) (s : Seen) → Gives scoping on m.context p ls q →
      given_by scoping.texts on steps (spot m) (seen scoping p) ls ≡ Some s → seen scoping q ≡ s
  gives_seen zero m p q ls s g e = absurd (cc)
  gives_seen (suc steps) m p q [] s (none _ _) e = cc
  gives_seen (suc steps) m p q (l ∷ rest) s (passed _ _ _ _ _ w g) e =
      gives_seen steps m p q rest s g (sym (ap (by_part m p l steps rest) (no_part m p l w)) ∙ e)
  gives_seen (suc steps) m p q (l ∷ rest) s (given _ _ mid _ _ _ n r at is g f) e =
      let inside : Moment = record { context = inner m.context p r; before = p; statement = l } in
      let behind : Moment = record { context = after m.context; before = p; statement = l } in
      inside_first m p l steps rest s (seen scoping q) (part scoping.texts on l) (λ k. added k m.context r p) (spot inside) (block scoping.texts l r) n at
      (subst (λ o. MatchOption o (part scoping.texts on l ≡ None) (λ z. MatchOption (part scoping.texts on l) ⊥ (λ r.
      Agrees m p l (λ n. added n m.context z p) (spot (record { context = inner m.context p z; before = p; statement = l })) (block scoping.texts l z) r))) is
      (by_support m p l (is_supported scoping.texts on l && not (is_state l.statement)) (denial scoping.texts l) (kind l.statement)))
      e
      (λ now h behind_it. gives_seen steps behind mid q rest s f
      (subst (λ z. given_by scoping.texts on steps (next_spot (spot m)) z rest ≡ Some s)
      (sym (gives_seen steps inside (added n m.context r p) mid (block scoping.texts l r) now g h)) behind_it))

  -- one text more
  abbrev one_text : (steps : ℕ) → (count : ℕ) → Option Seen → Option Located → Option Seen
  one_text steps count o t = option_and_then (λ s. option_and_then (λ top. given_by scoping.texts on steps (top_spot count) s (children top)) t) o

  then_text : (steps count : ℕ) (p q : Plan) (s : Seen) (top : Located) (o : Option Seen) (t : Option Located) → one_text steps count o t ≡ Some s →
      t ≡ Some top → ((before : Seen) → o ≡ Some before → seen scoping p ≡ before) →
      Gives scoping on (at_top count) p (children top) q → seen scoping q ≡ s
  then_text steps count p q s top None t e is first g = absurd (cc)
  then_text steps count p q s top (Some before) None e is first g = absurd (cc)
  then_text steps count p q s top (Some before) (Some one) e is first g =
      let same : top ≡ one = cc in
      let begin : Moment = record { context = at_top count; before = p; statement = top } in
      gives_seen steps begin p q (children top) s g
      ((λ i. given_by scoping.texts on steps (top_spot count) (first before refl i) (children (same i))) ∙ e)

  pub texts_seen : (steps n k : ℕ) (p : Plan) (s : Seen) → n ≡ k → GivesTexts scoping on n p → given_in scoping.texts on steps k ≡ Some s →
      seen scoping p ≡ s
  texts_seen steps _ zero _ s e no_text h = cc
  texts_seen steps _ (suc k) _ s e no_text h = absurd (omega arith)
  texts_seen steps _ zero p s e (one_more n before _ top g r t) h = absurd (omega arith)
  texts_seen steps _ (suc k) p s e (one_more n before _ top g r t) h =
      let same : n ≡ k = omega arith in
      then_text steps k before p s top (given_in scoping.texts on steps k) (root scoping.texts k) h (sym (ap (root scoping.texts) same) ∙ r)
      (λ first is. texts_seen steps n k before first same g is)
      (subst (λ z. Gives scoping on (at_top z) before (children top) p) same t)
