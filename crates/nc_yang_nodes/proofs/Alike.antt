-- Two plans of the same texts are alike.
use Rattle.std.proofs.Common.{◌≡◌, ◌+◌, ℕ, zero, suc, List, [], ◌∷◌, ◌++◌, length, map, refl, sym, ap, subst, ◌∙◌, arith}
use Rattle.std.specs.Prelude.{Some, None, slice_get, option_and_then}
use Rattle.std.proofs.lemmas.List.{length-map, map-append}
use Rattle.nc_schema.specs.declared.node.Deny.{Deny}
use Rattle.nc_schema.specs.declared.node.Deny.TheVariants.{Nothing}
use Rattle.nc_yang_scopes.specs.Scopes.{Located, Scoping, root}
use Rattle.nc_yang_nodes.specs.declared.context.Context.{Context}
use Rattle.nc_yang_nodes.specs.declared.planned.Plan.{Plan}
use Rattle.nc_yang_nodes.specs.declared.planned.Planned.{Planned}
use Rattle.nc_yang_nodes.specs.declared.role.Role.{Role}
use Rattle.nc_yang_nodes.specs.declared.role.Role.TheVariants.{Node, Choice, Case, Uses}
use Rattle.nc_yang_nodes.specs.Denials.{together}
use Rattle.nc_yang_nodes.specs.Roles.{FeatureTest, block, children}
use Rattle.nc_yang_nodes.specs.Expansion.{Gives, added, after, at_top, choice_of, given, in_block, inner, node_of, none, passed, within}
use Rattle.nc_yang_nodes.specs.Plans.{GivesTexts, IsPlan, no_text, one_more, statement_of}
use Rattle.nc_yang_nodes.specs.Alike.{AreAlike, SeenNode, seen_choice, seen_node}

module _ (scoping : Scoping) where
  abbrev IsOne : ℕ → ℕ → Type 0
  IsOne n k = slice_get scoping.located n ≡ slice_get scoping.located k

  node_alike : (n k : ℕ) (c d : Context) (deny : Deny) → IsOne n k → c ≡ d → seen_node scoping (node_of n c deny) ≡ seen_node scoping (node_of k d deny)
  node_alike n k c d deny at e = λ i. record {
    statement = at i;
    in_module = (e i).module;
    parent = (e i).parent;
    level = (e i).level;
    cases = within (e i);
    deny = together (e i).deny deny;
  }

  choice_alike : (n k : ℕ) (c d : Context) (a b : ℕ) → IsOne n k → c ≡ d → a ≡ b → seen_choice scoping (choice_of n c a) ≡ seen_choice scoping (choice_of k d b)
  choice_alike n k c d a b at e many = λ i. record {
    statement = at i;
    in_module = (e i).module;
    parent = (e i).parent;
    within = within (e i);
    nodes_before = many i;
  }

  pub as_many_nodes : (p q : Plan) → AreAlike scoping p q → length p.nodes ≡ length q.nodes
  as_many_nodes p q h = sym (length-map p.nodes (seen_node scoping)) ∙ ap length h.nodes ∙ length-map q.nodes (seen_node scoping)

  added_alike : (n k : ℕ) (c d : Context) (r : Role) (p q : Plan) → IsOne n k → c ≡ d → AreAlike scoping p q →
      AreAlike scoping (added n c r p) (added k d r q)
  added_alike n k c d (Node deny) p q at e h = record {
    nodes =
        map-append (seen_node scoping) p.nodes (node_of n c deny ∷ [])
        ∙ (λ i. h.nodes i ++ node_alike n k c d deny at e i ∷ [])
        ∙ sym (map-append (seen_node scoping) q.nodes (node_of k d deny ∷ []));
    choices = h.choices;
  }
  added_alike n k c d (Choice deny) p q at e h = record {
    nodes = h.nodes;
    choices =
        map-append (seen_choice scoping) p.choices (choice_of n c (length p.nodes) ∷ [])
        ∙ (λ i. h.choices i ++ choice_alike n k c d (length p.nodes) (length q.nodes) at e (as_many_nodes p q h) i ∷ [])
        ∙ sym (map-append (seen_choice scoping) q.choices (choice_of k d (length q.nodes) ∷ []));
  }
  added_alike n k c d (Case deny) p q at e h = h
  added_alike n k c d (Uses deny) p q at e h = h

  as_many_choices : (p q : Plan) → AreAlike scoping p q → length p.choices ≡ length q.choices
  as_many_choices p q h = sym (length-map p.choices (seen_choice scoping)) ∙ ap length h.choices ∙ length-map q.choices (seen_choice scoping)

  inner_alike : (c d : Context) (r : Role) (p q : Plan) → c ≡ d → AreAlike scoping p q → inner c p r ≡ inner d q r
  inner_alike c d (Node deny) p q e h =
      let many = as_many_nodes p q h in
      λ i. record { «module» = (e i).module; parent = Some (many i); level = (e i).level + 1; cases = []; next = None; deny = Nothing }
  inner_alike c d (Choice deny) p q e h = let many = as_many_choices p q h in λ i. in_block (e i) deny (Some (record { choice = many i; case = 0 }))
  inner_alike c d (Case deny) p q e h = λ i. in_block (e i) deny None
  inner_alike c d (Uses deny) p q e h = λ i. in_block (e i) deny None

  module _ (on : FeatureTest) where
    gives_alike : (c d : Context) (p q s t : Plan) (ls : List Located) → Gives scoping on c p ls q → Gives scoping on d s ls t → c ≡ d →
        AreAlike scoping p s → AreAlike scoping q t
    gives_alike c d p q s t [] (none _ _) (none _ _) e h = h
    gives_alike c d p q s t (l ∷ rest) (passed _ _ _ _ _ w g) (passed _ _ _ _ _ w2 g2) e h = gives_alike c d p q s t rest g g2 e h
    gives_alike c d p q s t (l ∷ rest) (passed _ _ _ _ _ w g) (given _ _ m2 _ _ _ n2 r2 at2 is2 g2 f2) e h = absurd (cc)
    gives_alike c d p q s t (l ∷ rest) (given _ _ m _ _ _ n r at is g f) (passed _ _ _ _ _ w2 g2) e h = absurd (cc)
    gives_alike c d p q s t (l ∷ rest) (given _ _ m _ _ _ n r at is g f) (given _ _ m2 _ _ _ n2 r2 at2 is2 g2 f2) e h =
        let one : r2 ≡ r = cc in
        let g3 = subst (λ z. Gives scoping on (inner d s z) (added n2 d z s) (block scoping.texts l z) m2) one g2 in
        let start = added_alike n n2 c d r p s (at ∙ sym at2) e h in
        let mid = gives_alike (inner c p r) (inner d s r) (added n c r p) m (added n2 d r s) m2 (block scoping.texts l r) g g3 (inner_alike c d r p s e h) start in
        gives_alike (after c) (after d) m q m2 t rest f f2 (ap after e) mid

    texts_alike : (n k : ℕ) (p q : Plan) → n ≡ k → GivesTexts scoping on n p → GivesTexts scoping on k q → AreAlike scoping p q
    texts_alike _ _ _ _ e no_text no_text = record { nodes = refl; choices = refl }
    texts_alike _ _ p q e no_text (one_more k q0 _ top2 g2 r2 h2) = absurd (omega arith)
    texts_alike _ _ p q e (one_more n p0 _ top g r h) no_text = absurd (omega arith)
    texts_alike _ _ p q e (one_more n p0 _ top g r h) (one_more k q0 _ top2 g2 r2 h2) =
        let same : n ≡ k = omega arith in
        let one : Some top ≡ Some top2 = sym r ∙ ap (root scoping.texts) same ∙ r2 in
        let tops : top2 ≡ top = cc in
        gives_alike (at_top n) (at_top k) p0 p q0 q (children top) h (subst (λ z. Gives scoping on (at_top k) q0 (children z) q) tops h2) (ap at_top same)
        (texts_alike n k p0 q0 same g g2)

    pub plans_alike : (p q : Plan) → IsPlan scoping on p → IsPlan scoping on q → AreAlike scoping p q
    plans_alike p q one other = texts_alike (length scoping.texts) (length scoping.texts) p q refl one.gives other.gives

-- their data nodes have the same statements
seen_statement : (scoping : Scoping) (ps : List Planned) (n : ℕ) →
    option_and_then (λ (p : Planned). slice_get scoping.located p.statement) (slice_get ps n)
    ≡ option_and_then (λ (s : SeenNode). s.statement) (slice_get (map (seen_node scoping) ps) n)
seen_statement scoping [] n = refl
seen_statement scoping (p ∷ ps) zero = refl
seen_statement scoping (p ∷ ps) (suc n) = seen_statement scoping ps n

pub statements_alike : (scoping : Scoping) (p q : Plan) → AreAlike scoping p q → (n : ℕ) → statement_of scoping p n ≡ statement_of scoping q n
statements_alike scoping p q h n =
    seen_statement scoping p.nodes n ∙ ap (λ ns. option_and_then (λ (s : SeenNode). s.statement) (slice_get ns n)) h.nodes
    ∙ sym (seen_statement scoping q.nodes n)
