-- Orders and circles in the graph of links.
use Rattle.std.proofs.Common.{inl, inr, ◌≡◌, ◌<◌, ◌≤◌, ◌+◌, ◌++◌, ◌∷◌, [], ℕ, List, length, get_or, take, map, refl, sym, ap, subst, ◌∙◌, arith, append_assoc}
use Rattle.std.specs.Prelude.{Bool, true, nat_lt, Option, Some, None, slice_get, option_map, option_and_then, unwrap_or, Contains, is_some, IsSome}
use Rattle.std.specs.List.{filter, list_all}
use Rattle.std.proofs.lemmas.List.{append-nil, length-map, take_all, take_more}
use Rattle.std.proofs.lemmas.Bool.Decides.{nat_tests}
use Rattle.nc_yang_words.specs.declared.statement.Statement.{Statement}
use Rattle.nc_yang_scopes.specs.declared.naming.TextFault.{TextFault}
use Rattle.nc_yang_scopes.specs.Scopes.{Located, Scoping}
use Rattle.nc_yang_scopes.proofs.Lists.{get_within, past_end}
use Rattle.nc_yang_order.specs.Orders.{EachAfter, IsCircle, is_within, targets, Reaches as Leads, here as arrived, further}
use Rattle.nc_yang_order.specs.Orders as orders
use Rattle.nc_yang_order.proofs.Lists.{contains_at, contains_none, either}
use Rattle.nc_yang_scopes.specs.declared.arrange.Arranged.{Arranged}
use Rattle.nc_yang_scopes.specs.declared.arrange.Arranged.TheVariants.{Circle, Order}
use Rattle.nc_yang_scopes.specs.declared.kinds.Defined.{Defined}
use Rattle.nc_yang_scopes.specs.declared.kinds.Defined.TheVariants.{Features, Groupings, Identities, Modules, Typedefs}
use Rattle.nc_yang_scopes.specs.declared.references.Link.{Link}
use Rattle.nc_yang_scopes.specs.Loops.{BreaksLoop, IsOnCircle, KeepsLoops, Names, Reaches, all_defined, itself, through}
use Rattle.nc_yang_scopes.specs.OrderLaws.{OrderHasNoCircle}
use Rattle.nc_yang_scopes.specs.Orders.{Arranges, IsInPlace, IsOrder}
use Rattle.nc_yang_scopes.specs.inner.Links.{AreAllLinks, AreMarks, HasLink, IsLink, IsMarked, Judges, KeepsLoop, circle_in, is_marked}
use Rattle.nc_yang_scopes.specs.References.{fault_at, fault_of, graph_of, links_at, target_of}
use Rattle.nc_yang_scopes.proofs.Graphs.{circle_link, edge_link, link_edge, own_link, own_links}
use Rattle.nc_yang_scopes.proofs.LinkLists.{all_pass, contains_filter, contains_get, each_filter, filter_contains}
use Rattle.nc_yang_scopes.proofs.Marking.{is_mark, marked_is}

below_passes : (a b : ℕ) → a < b → nat_lt a b ≡ true
below_passes a b less = grind (arith, nat_tests)

module _ (scoping : Scoping) (sort : Defined) (marks : List Bool) (are : AreMarks scoping sort marks) (links : List (List Link)) (linked : AreAllLinks scoping sort marks links) where
  -- a link of a number
  is_link : (n : ℕ) (link : Link) → Contains (links_at links n) link → IsLink scoping sort n link
  is_link n link h = let own = own_link links n link h in (linked.each n own.0 own.1).only link own.2

  is_marked_target : (n : ℕ) (link : Link) → Contains (links_at links n) link → IsMarked marks link.target
  is_marked_target n link h = let own = own_link links n link h in (linked.each n own.0 own.1).marked link own.2

  -- and all links of a definition
  has_link : (n : ℕ) (here statement there : Located) → IsMarked marks n → slice_get scoping.located n ≡ Some here → Names scoping.texts sort here statement there →
      HasLink scoping (links_at links n) there
  has_link n here statement there marked is names = by (slice_get links n) refl
    where
      by : (o : Option (List Link)) → slice_get links n ≡ o → HasLink scoping (links_at links n) there
      by None none = absurd (omega (arith, past_end links n none, get_within scoping.located n here is, linked.counted))
      by (Some own) some =
          let h = (linked.each n own some).all marked here statement there is names in
          record { link = h.link; among = subst (λ ls. Contains ls h.link) (sym (own_links links n own some)) h.among; is = h.is }

  pub length_graph : length (graph_of links) ≡ length scoping.located
  length_graph = length-map links (map target_of) ∙ linked.counted

  -- edges lead to numbers of statements
  target_within : (n t : ℕ) → Contains (targets (graph_of links) n) t → t < length (graph_of links)
  target_within n t h =
      let m = edge_link links n t h in
      let l = is_link n m.0 m.1 in
      let less = get_within scoping.located m.0.target l.there l.is_there in
      omega (arith, less, length_graph, m.2)

  pub within_graph : is_within (graph_of links) ≡ true
  within_graph = all_pass (λ ts. list_all (λ t. nat_lt t (length (graph_of links))) ts) (graph_of links) (λ ts h. all_pass (λ t. nat_lt t (length (graph_of links))) ts (inner ts h))
    where
      inner : (ts : List ℕ) → Contains (graph_of links) ts → (t : ℕ) → Contains ts t → nat_lt t (length (graph_of links)) ≡ true
      inner ts h t among =
          let at = contains_get (graph_of links) ts h in
          let less = target_within at.0 t (subst (λ z. Contains z t) (sym (ap (λ o. unwrap_or o []) at.1)) among) in
          below_passes t (length (graph_of links)) less

  -- an order of the graph

  in_place : (before : List ℕ) (n : ℕ) → is_marked marks n ≡ true → orders.IsInPlace (graph_of links) before n → IsInPlace scoping sort (filter (is_marked marks) before) n
  in_place before n is place =
      let defined = are.only n (marked_is marks n is) in
      record {
        definition = defined.definition;
        is = defined.is;
        defines = defined.defines;
        fresh = λ h. place.fresh (contains_filter (is_marked marks) before n h);
        after = λ statement there names.
            let h = has_link n defined.definition statement there (marked_is marks n is) defined.is names in
            let edge = link_edge links n h.link h.among in
            record {
              number = h.link.target;
              among = filter_contains (is_marked marks) before h.link.target (place.after h.link.target edge) (is_mark marks h.link.target (is_marked_target n h.link h.among));
              is = h.is;
            };
      }

  pub order_is : (order : List ℕ) → orders.IsOrder (graph_of links) order → IsOrder scoping sort (filter (is_marked marks) order)
  order_is order o = record {
    all = λ l d.
        let m = are.all l d in
        record {
          number = m.number;
          among = filter_contains (is_marked marks) order m.number (o.all m.number (omega (arith, get_within scoping.located m.number l m.is, length_graph))) (is_mark marks m.number m.marked);
          is = m.is;
        };
    placed = each_filter (orders.IsInPlace (graph_of links)) (IsInPlace scoping sort) (is_marked marks) in_place [] order o.placed;
  }

  -- a circle of the graph

  reaches : (n m : ℕ) (l : Located) → Leads (graph_of links) n m → slice_get scoping.located n ≡ Some l → (last : Located) → slice_get scoping.located m ≡ Some last → Reaches scoping.texts sort l last
  reaches n m l (arrived k) is last at = let same : l ≡ last = let e : Some l ≡ Some last = sym is ∙ at in cc in subst (Reaches scoping.texts sort l) same (itself l)
  reaches n m l (further k t z edge rest) is last at =
      let c = edge_link links n t edge in
      let link = is_link n c.0 c.1 in
      let same : link.here ≡ l = let e : Some link.here ≡ Some l = sym link.is_here ∙ is in cc in
      through l link.statement link.there last (subst (λ z. Names scoping.texts sort z link.statement link.there) same link.names)
      (reaches t m link.there rest (ap (slice_get scoping.located) (sym c.2) ∙ link.is_there) last at)

  -- the fault of an edge on one
  circle_fault : (n place : ℕ) (circle : IsCircle (graph_of links) n place) → (link : Link) × IsLink scoping sort n link × (link.target ≡ circle.target)
      × ((l : Located) → slice_get scoping.located link.reference ≡ Some l → fault_of scoping links n place ≡ Some (fault_at l))
  circle_fault n place circle =
      let c = circle_link links n place circle in (
        c.0,
        is_link n c.0 (contains_at (links_at links n) place c.0 c.1),
        c.2,
        λ l is. ap (option_and_then (λ (z : Link). option_map fault_at (slice_get scoping.located z.reference))) c.1 ∙ ap (option_map fault_at) is,
      )

  pub circle_there : (n place : ℕ) → IsCircle (graph_of links) n place → IsSome (fault_of scoping links n place)
  circle_there n place circle = let c = circle_fault n place circle in ap is_some (c.3 c.1.statement c.1.is_statement)

  pub circle_is : (n place : ℕ) → IsCircle (graph_of links) n place → (found : TextFault) → Some found ≡ fault_of scoping links n place →
      BreaksLoop scoping.texts sort found.text found.fault
  circle_is n place circle found is =
      let c = circle_fault n place circle in
      let l = c.1 in
      let fault : found ≡ fault_at l.statement = let f : Some found ≡ Some (fault_at l.statement) = is ∙ c.3 l.statement l.is_statement in cc in
      record {
        statement = l.statement;
        circle = record {
          here = l.here;
          there = l.there;
          names = l.names;
          back = reaches c.0.target n l.there (subst (λ t. Leads (graph_of links) t n) (sym c.2) circle.back) l.is_there l.here l.is_here;
        };
        is_text = ap (λ (f : TextFault). f.text) fault;
        is_fault = ap (λ (f : TextFault). f.fault) fault;
      }

-- what has an order has no circle

joined : (texts : List Statement) (sort : Defined) (a b statement c : Located) → Reaches texts sort a b → Names texts sort b statement c → Reaches texts sort a c
joined texts sort a b statement c (itself k) names = through a statement c c names (itself c)
joined texts sort a b statement c (through k s next last first rest) names = through a s next c first (joined texts sort next b statement c rest names)

module _ (scoping : Scoping) (sort : Defined) where
  -- a definition leads back to itself
  record Turns (l : Located) : Type 0 where
    pub statement : Located
    pub there : Located
    pub names : Names scoping.texts sort l statement there
    pub back : Reaches scoping.texts sort there l

  -- so does one that it names
  turns_next : (l : Located) (t : Turns l) → Turns t.there
  turns_next l t = by t.there l t.statement t.back t.names
    where
      by : (a b s : Located) → Reaches scoping.texts sort a b → Names scoping.texts sort b s a → Turns a
      by a b s (itself k) names = record { statement = s; there = a; names = names; back = itself a }
      by a b s (through k other next last first rest) names = record { statement = other; there = next; names = first; back = joined scoping.texts sort next b s a rest names }

  -- none of these numbers is of one that does
  abbrev NoneTurns : List ℕ → Type 0
  NoneTurns numbers = (n : ℕ) (l : Located) → Contains numbers n → slice_get scoping.located n ≡ Some l → Turns l → ⊥

  none_more : (before : List ℕ) (x : ℕ) → NoneTurns before → IsInPlace scoping sort before x → NoneTurns (before ++ x ∷ [])
  none_more before x none place n l h is turns = elim (either before x n h) [
    | inl a ↦ none n l a is turns
    | inr same ↦
        let eq : l ≡ place.definition = let e : Some l ≡ Some place.definition = sym is ∙ ap (slice_get scoping.located) (sym same) ∙ place.is in cc in
        let one = place.after turns.statement turns.there (subst (λ z. Names scoping.texts sort z turns.statement turns.there) eq turns.names) in
        none one.number turns.there one.among one.is (turns_next l turns)
  ]

  none_all : (before xs : List ℕ) → NoneTurns before → EachAfter (IsInPlace scoping sort) before xs → NoneTurns (before ++ xs)
  none_all before [] none e = subst NoneTurns (sym (append-nil before)) none
  none_all before (x ∷ xs) none e = subst NoneTurns (append_assoc before (x ∷ []) xs) (none_all (before ++ x ∷ []) xs (none_more before x none e.0) e.1)

  no_circle : (order : List ℕ) (statement : Located) → IsOrder scoping sort order → IsOnCircle scoping.texts sort statement → ⊥
  no_circle order statement o c =
      let one = o.all c.here c.names.is_here in
      none_all [] order (λ n l h. absurd (contains_none n h)) o.placed one.number c.here one.among one.is
      (record { statement = statement; there = c.there; names = c.names; back = c.back })

  pub order_keeps : (order : List ℕ) → IsOrder scoping sort order → KeepsLoop scoping.texts sort
  order_keeps order o text fault b = no_circle order b.statement o b.circle

pub order_has_no_circle : OrderHasNoCircle
order_has_no_circle scoping sort order statement o c = no_circle scoping sort order statement o c

-- every sort is one of all
pub among_all : (sort : Defined) → Contains all_defined sort
unfolding all_defined
among_all Modules = contains_at all_defined 0 Modules refl
among_all Typedefs = contains_at all_defined 1 Typedefs refl
among_all Groupings = contains_at all_defined 2 Groupings refl
among_all Identities = contains_at all_defined 3 Identities refl
among_all Features = contains_at all_defined 4 Features refl

pub circle_judged : (scoping : Scoping) (sort : Defined) (a : Arranged) → Arranges scoping sort a → Judges scoping.texts sort (circle_in a)
circle_judged scoping sort (Order order) o = order_keeps scoping sort order o
circle_judged scoping sort (Circle found) b = b

-- one sort after another
pub sorts_more : (texts : List Statement) (sorts : List Defined) (i : ℕ) (d : Defined) → i < length sorts → KeepsLoop texts (get_or sorts i d) →
    ((s : Defined) → Contains (take i sorts) s → KeepsLoop texts s) → (s : Defined) → Contains (take (i + 1) sorts) s → KeepsLoop texts s
sorts_more texts sorts i d less keeps so_far s h =
    elim (either (take i sorts) (get_or sorts i d) s (subst (λ z. Contains z s) (take_more sorts i d less) h)) [
      | inl a ↦ so_far s a
      | inr same ↦ subst (KeepsLoop texts) same keeps
    ]

pub sorts_all : (texts : List Statement) (sorts : List Defined) (i : ℕ) → sorts ≡ all_defined → length sorts ≤ i → ((s : Defined) → Contains (take i sorts) s → KeepsLoop texts s) → KeepsLoops texts
sorts_all texts sorts i is le so_far text fault b =
    so_far b.sort (subst (λ z. Contains z b.sort) (sym (take_all i sorts le ∙ is)) (among_all b.sort)) text fault b.breaks
