-- The steps above a row of a data tree: those that have keys are on the path of the row before it.
use Rattle.std.proofs.Common.{◌≡◌, ◌⊎◌, ◌∙◌, ◌<◌, ◌≤◌, ◌+◌, ◌-◌, ◌++◌, ap, sym, subst, refl, inl, inr, ℕ, zero, suc, Bool, true, false, cond, List, [], ◌∷◌, length, Option, Some, None, arith}
use Rattle.std.specs.Prelude.{◌==◌, slice_get, IsSomeAnd, IfSome, IsTrue, option_and_then}
use Rattle.std.specs.List.{All, Contains}
use Rattle.std.specs.Option.{option_map_or}
use Rattle.std.proofs.lemmas.List.{append-nil, append_assoc, length-append}
use Rattle.std.proofs.lemmas.List.Elements.{All-contains, Contains-append_left}
use Rattle.std.proofs.lemmas.Bool.{eq-eqb, eqb-true}
use Rattle.nc_names.specs.declared.path.Path.{Path}
use Rattle.nc_names.specs.declared.path.Row.{Row}
use Rattle.nc_names.specs.declared.path.Step.{Step}
use Rattle.nc_schema.specs.Configuration.{IsAtOrBelow, IsDataTree, StandsForItself}
use Rattle.nc_schema.specs.Kinds.{holds_nodes}
use Rattle.nc_schema.specs.Paths.{HasAllKeys, IsPathOf, IsStepIn, LeadDown, key_count}
use Rattle.nc_schema.specs.Proper.{EachNode, IsProperSchema, StandsIn}
use Rattle.nc_schema.specs.Tables.{Tables}
use Rattle.nc_schema.specs.declared.node.Kind.{Kind}
use Rattle.nc_schema.specs.declared.node.Kind.TheVariants.{Container, Leaf, LeafList, List as ListKind}
use Rattle.nc_schema.specs.declared.node.Node.{Node}
use Rattle.nc_protocol.proofs.ListLemmas.{contains_at, contains_here, contains_split}
use Rattle.nc_protocol.proofs.PathViews.{node_after, after_last}
use Rattle.nc_record.specs.inner.Placing.{AreOpen, IsOpenWay, last_steps, open_step, parent_of, plain_step}

-- ---- lists
-- there is no element, or a last one
abbrev pub Ends : {X : Type 0} → List X → Type 0
Ends {X} xs = (xs ≡ []) ⊎ ((front : List X) × (x : X) × (xs ≡ front ++ x ∷ []))

ends_more : {X : Type 0} (y : X) (xs : List X) → Ends xs → Ends (y ∷ xs)
ends_more y xs (inl e) = inr ([], y, ap (λ z. y ∷ z) e)
ends_more y xs (inr (front, x, e)) = inr (y ∷ front, x, ap (λ z. y ∷ z) e)

pub ends : {X : Type 0} (xs : List X) → Ends xs
ends [] = inl refl
ends (y ∷ xs) = ends_more y xs (ends xs)

at_middle : {X : Type 0} (front more : List X) (x : X) (n : ℕ) → n ≡ length front → slice_get (front ++ x ∷ more) n ≡ Some x
at_middle [] more x zero e = refl
at_middle [] more x (suc n) e = absurd (omega (arith, e))
at_middle (y ∷ front) more x zero e = absurd (omega (arith, e))
at_middle (y ∷ front) more x (suc n) e = at_middle front more x n (omega (arith, e))

abbrev last_of : {X : Type 0} → List X → Option X
last_of xs = slice_get xs (length xs - 1)

pub at_end : {X : Type 0} (front : List X) (x : X) → last_of (front ++ x ∷ []) ≡ Some x
at_end front x = let long = length-append front (x ∷ []) in at_middle front [] x (length (front ++ x ∷ []) - 1) (omega (arith, long))

-- the last of a list is an element in it, or one that stands after it
record IsLastOf {X : Type 0} (front mid : List X) (x : X) : Type 0 where
  y : X
  is : last_of (front ++ x ∷ mid) ≡ Some y
  from : (y ≡ x) ⊎ Contains mid y

last_after : {X : Type 0} (front mid : List X) (x : X) → IsLastOf front mid x
last_after {X} front mid x = by (ends mid)
  where
    by : Ends mid → IsLastOf front mid x
    by (inl e) = record { y = x; is = ap (λ z. last_of (front ++ x ∷ z)) e ∙ at_end front x; from = inl refl }
    by (inr (more, y, e)) = record {
      y = y;
      is = ap (λ z. last_of (front ++ x ∷ z)) e ∙ ap last_of (sym (append_assoc front (x ∷ more) (y ∷ []))) ∙ at_end (front ++ x ∷ more) y;
      from = inr (subst (λ z. Contains z y) (sym e) (contains_here more [] y));
    }

-- ---- options
pub some_is : {X : Type 0} (P : X → Type 0) (o : Option X) → IsSomeAnd o P → (x : X) × (o ≡ Some x) × P x
some_is P None h = absurd h
some_is P (Some x) h = (x, refl, h)

pub no_keys : (keys : List (List ℕ)) → length keys ≡ 0 → keys ≡ []
no_keys [] e = refl
no_keys (k ∷ keys) e = absurd (omega (arith, e))

pub one_step : (one two : Step) → one.node ≡ two.node → one.keys ≡ two.keys → one ≡ two
one_step one two e f = λ i. record { node = e i; keys = f i }

-- ---- a step that is found
open_some : (before : List Step) (depth : ℕ) (q : Step) → slice_get before depth ≡ Some q → open_step before depth q.node ≡ q
open_some before depth q is =
    ap (λ o. option_map_or (λ (p : Step). cond (p.node == q.node) p (plain_step q.node)) o (plain_step q.node)) is
    ∙ ap (λ b. cond b q (plain_step q.node)) (eq-eqb q.node q.node refl)

open_plain : (before : List Step) (depth : ℕ) (q : Step) → q.keys ≡ [] → ((p : Step) → slice_get before depth ≡ Some p → p.node ≡ q.node → p.keys ≡ []) →
    open_step before depth q.node ≡ q
open_plain before depth q none also = by (slice_get before depth) refl
  where
    plain : plain_step q.node ≡ q
    plain = one_step (plain_step q.node) q refl (sym none)

    chosen : (p : Step) → slice_get before depth ≡ Some p → (b : Bool) → p.node == q.node ≡ b → cond b p (plain_step q.node) ≡ q
    chosen p is true same = let node = eqb-true p.node q.node same in one_step p q node (also p is node ∙ sym none)
    chosen p is false same = plain

    by : (o : Option Step) → slice_get before depth ≡ o → option_map_or (λ (p : Step). cond (p.node == q.node) p (plain_step q.node)) o (plain_step q.node) ≡ q
    by None is = plain
    by (Some p) is = chosen p is (p.node == q.node) refl

-- ---- paths
pub down_from : (tables : Tables) (above : Option ℕ) (xs ys : List Step) → LeadDown tables above (xs ++ ys) → LeadDown tables (node_after above xs) ys
down_from tables above [] ys h = h
down_from tables above (x ∷ xs) ys h = down_from tables (Some x.node) xs ys h.1

pub down_to : (tables : Tables) (above : Option ℕ) (xs ys : List Step) → LeadDown tables above (xs ++ ys) → LeadDown tables above xs
down_to tables above [] ys h = tt
down_to tables above (x ∷ xs) ys h = (h.0, down_to tables (Some x.node) xs ys h.1)

-- a step of a row's path has all its keys
pub has_keys : (tables : Tables) (path : Path) → IsPathOf tables path → (q : Step) → Contains path.steps q → IsSomeAnd (slice_get tables.nodes q.node) (λ node. HasAllKeys node q)
has_keys tables path is q has = All-contains (λ (s : Step). IsSomeAnd (slice_get tables.nodes s.node) (λ node. HasAllKeys node s)) path.steps q is.instances has

-- a data node stands in the last node of the steps that lead to it
parent_by : (above : Option ℕ) (step : Step) (o : Option Node) → IsSomeAnd o (λ node. (node.parent ≡ above) × (HasAllKeys node step ⊎ (step.keys ≡ []))) → option_and_then (λ (node : Node). node.parent) o ≡ above
parent_by above step None h = absurd h
parent_by above step (Some node) h = h.0

parent_is : (tables : Tables) (above : List Step) (step : Step) → LeadDown tables None (above ++ step ∷ []) → parent_of tables step.node ≡ node_after None above
parent_is tables above step h = parent_by (node_after None above) step (slice_get tables.nodes step.node) (down_from tables None above (step ∷ []) h).0

-- no node stands in a leaf-list
not_leaf_list : {P : Type 0} (o : Option Node) (node : Node) → IsSomeAnd o (λ over. IsTrue (holds_nodes over.kind)) → o ≡ Some node → node.kind ≡ LeafList → P
not_leaf_list None node held is kind = absurd held
not_leaf_list (Some over) node held is kind =
    absurd (let same : over ≡ node = (let h : Some over ≡ Some node = is in cc) in let none : holds_nodes over.kind ≡ false = ap holds_nodes (ap (λ (n : Node). n.kind) same ∙ kind) in cc)

module _ (tables : Tables) (parents : EachNode tables (λ number node. StandsIn tables number node.parent)) where
  held : (above : ℕ) (step : Step) → IsStepIn tables (Some above) step → IsSomeAnd (slice_get tables.nodes above) (λ over. IsTrue (holds_nodes over.kind))
  held above step h =
      let f = some_is (λ (node : Node). (node.parent ≡ Some above) × (HasAllKeys node step ⊎ (step.keys ≡ []))) (slice_get tables.nodes step.node) h in
      (subst (StandsIn tables step.node) f.2.0 (parents step.node f.0 f.1)).1

  module _ (done rest : List Row) (row : Row) (tree : IsDataTree tables (done ++ row ∷ rest)) where
    -- the row before is at or below what has a row of its own and stands above this row
    before_below : (steps : List Step) → IsAtOrBelow steps row.path → Contains done (record { path = record { steps = steps }; value = None }) → (more : List Step) × (last_steps done ≡ steps ++ more)
    before_below steps at has = by last.from
      where
        own : Row
        own = record { path = record { steps = steps }; value = None }

        cut : (front : List Row) × (behind : List Row) × (done ≡ front ++ own ∷ behind)
        cut = contains_split done own has

        last : IsLastOf cut.0 cut.1 own
        last = last_after cut.0 cut.1 own

        between : All (λ (r : Row). IsAtOrBelow steps r.path) cut.1
        between = tree.together cut.0 cut.1 rest own row steps (ap (λ z. z ++ row ∷ rest) cut.2) ([], sym (append-nil steps)) at

        is : last_steps done ≡ last.y.path.steps
        is = ap last_steps cut.2 ∙ ap (λ o. option_map_or (λ (r : Row). r.path.steps) o []) last.is

        by : (last.y ≡ own) ⊎ Contains cut.1 last.y → (more : List Step) × (last_steps done ≡ steps ++ more)
        by (inl same) = ([], is ∙ ap (λ (r : Row). r.path.steps) same ∙ sym (append-nil steps))
        by (inr later) = let lower = All-contains (λ (r : Row). IsAtOrBelow steps r.path) cut.1 last.y between later in (lower.0, is ∙ lower.1)

    pub row_path : IsPathOf tables row.path
    row_path = All-contains (λ (r : Row). IsPathOf tables r.path) (done ++ row ∷ rest) row tree.paths (contains_here done rest row)

    -- a step on the path of the row before has all its keys
    before_keys : (p : Step) (depth : ℕ) → slice_get (last_steps done) depth ≡ Some p → IsSomeAnd (slice_get tables.nodes p.node) (λ node. HasAllKeys node p)
    before_keys p depth at = by (slice_get done (length done - 1)) refl
      where
        by : (o : Option Row) → slice_get done (length done - 1) ≡ o → IsSomeAnd (slice_get tables.nodes p.node) (λ node. HasAllKeys node p)
        by None is =
            absurd (let none : slice_get (last_steps done) depth ≡ None = ap (λ o. slice_get (option_map_or (λ (r : Row). r.path.steps) o []) depth) is in cc)
        by (Some r) is =
            let there : slice_get r.path.steps depth ≡ Some p = sym (ap (λ o. slice_get (option_map_or (λ (x : Row). x.path.steps) o []) depth) is) ∙ at in
            let inside : Contains (done ++ row ∷ rest) r = Contains-append_left done (row ∷ rest) r (contains_at done (length done - 1) r is) in
            has_keys tables r.path (All-contains (λ (x : Row). IsPathOf tables x.path) (done ++ row ∷ rest) r tree.paths inside) p (contains_at r.path.steps depth p there)

    open_above : (up : List Step) (q next : Step) (more : List Step) → row.path.steps ≡ up ++ q ∷ next ∷ more → open_step (last_steps done) (length up) q.node ≡ q
    open_above up q next more is = by node.0.kind refl
      where
        node : (n : Node) × (slice_get tables.nodes q.node ≡ Some n) × HasAllKeys n q
        node = some_is (λ (n : Node). HasAllKeys n q) (slice_get tables.nodes q.node) (has_keys tables row.path row_path q (subst (λ z. Contains z q) (sym is) (contains_here up (next ∷ more) q)))

        plainly : key_count node.0.kind (length node.0.keys) ≡ 0 → open_step (last_steps done) (length up) q.node ≡ q
        plainly none = open_plain (last_steps done) (length up) q (no_keys q.keys (node.2 ∙ none)) (λ p at same.
            let f = some_is (λ (n : Node). HasAllKeys n p) (slice_get tables.nodes p.node) (before_keys p (length up) at) in
            let one : f.0 ≡ node.0 = (let h : Some f.0 ≡ Some node.0 = sym f.1 ∙ ap (slice_get tables.nodes) same ∙ node.1 in cc) in
            no_keys p.keys (f.2 ∙ ap (λ (n : Node). key_count n.kind (length n.keys)) one ∙ none))

        by : (kind : Kind) → node.0.kind ≡ kind → open_step (last_steps done) (length up) q.node ≡ q
        by (Container presence) e = plainly (ap (λ k. key_count k (length node.0.keys)) e)
        by Leaf e = plainly (ap (λ k. key_count k (length node.0.keys)) e)
        by LeafList e =
            let down = down_from tables None up (q ∷ next ∷ more) (subst (LeadDown tables None) is row_path.names.down) in
            not_leaf_list (slice_get tables.nodes q.node) node.0 (held q.node next down.1.0) node.1 e
        by ListKind e =
            let whole : row.path.steps ≡ (up ++ q ∷ []) ++ (next ∷ more) = is ∙ sym (append_assoc up (q ∷ []) (next ∷ more)) in
            let own = tree.ancestors done rest row up q next more node.0 refl is (up ++ q ∷ [], refl) node.1 (subst StandsForItself (sym e) tt) in
            let lower = before_below (up ++ q ∷ []) (next ∷ more, whole) own in
            let at : slice_get (last_steps done) (length up) ≡ Some q =
            ap (λ z. slice_get z (length up)) (lower.1 ∙ append_assoc up (q ∷ []) lower.0) ∙ at_middle up lower.0 q (length up) refl in
            open_some (last_steps done) (length up) q at

    -- so the way to what stands above this row is found
    pub open_way : (above : List Step) (step : Step) → row.path.steps ≡ above ++ step ∷ [] → IsOpenWay tables (last_steps done) above step
    open_way above step is = record { down = subst (LeadDown tables None) is row_path.names.down; open_ = λ up later q cut. by later up q cut }
      where
        by : (later up : List Step) (q : Step) → above ≡ up ++ q ∷ later → open_step (last_steps done) (length up) q.node ≡ q
        by [] up q cut = open_above up q step [] (is ∙ ap (λ z. z ++ step ∷ []) cut ∙ append_assoc up (q ∷ []) (step ∷ []))
        by (l ∷ later) up q cut = open_above up q l (later ++ step ∷ []) (is ∙ ap (λ z. z ++ step ∷ []) cut ∙ append_assoc up (q ∷ l ∷ later) (step ∷ []))

-- ---- the steps above, found from the top
pub none_above : (tables : Tables) (before above : List Step) (step : Step) (number : ℕ) → step.node ≡ number → IsOpenWay tables before above step → parent_of tables number ≡ None → [] ≡ above
none_above tables before above step number same way none = by (ends above)
  where
    by : Ends above → [] ≡ above
    by (inl e) = sym e
    by (inr (up, q, e)) =
        absurd (let some : parent_of tables number ≡ Some q.node = ap (parent_of tables) (sym same) ∙ parent_is tables above step way.down ∙ ap (node_after None) e ∙ after_last None up q in cc)

-- the way is one to the parent, and the step to that
pub record IsAbove (tables : Tables) (before above : List Step) (parent : ℕ) : Type 0 where
  pub up : List Step
  pub last : Step
  pub is : above ≡ up ++ last ∷ []
  pub same : last.node ≡ parent
  pub way : IsOpenWay tables before up last
  pub found : open_step before (length up) parent ≡ last

pub one_above : (tables : Tables) (before above : List Step) (step : Step) (number parent : ℕ) → step.node ≡ number → IsOpenWay tables before above step → parent_of tables number ≡ Some parent →
    IsAbove tables before above parent
one_above tables before above step number parent same way some = by (ends above)
  where
    by : Ends above → IsAbove tables before above parent
    by (inl e) = absurd (let none : parent_of tables number ≡ None = ap (parent_of tables) (sym same) ∙ parent_is tables above step way.down ∙ ap (node_after None) e in cc)
    by (inr (up, q, e)) =
        let at : parent_of tables number ≡ Some q.node = ap (parent_of tables) (sym same) ∙ parent_is tables above step way.down ∙ ap (node_after None) e ∙ after_last None up q in
        let node : q.node ≡ parent = (let h : Some q.node ≡ Some parent = sym at ∙ some in cc) in
        record {
          up = up;
          last = q;
          is = e;
          same = node;
          way = record {
            down = subst (LeadDown tables None) e (down_to tables None above (step ∷ []) way.down);
            open_ = λ ups later p cut. way.open_ ups (later ++ q ∷ []) p (e ∙ ap (λ z. z ++ q ∷ []) cut ∙ append_assoc ups (p ∷ later) (q ∷ []));
          };
          found = ap (open_step before (length up)) (sym node) ∙ way.open_ up [] q e;
        }

-- a data node has a higher number than the one in which it stands
pub parent_lower : (tables : Tables) → IsProperSchema tables → (number : ℕ) (node : Node) → slice_get tables.nodes number ≡ Some node → IfSome node.parent (λ above. above < number)
parent_lower tables proper number node at = by node.parent (proper.places.parents number node at)
  where
    by : (o : Option ℕ) → StandsIn tables number o → IfSome o (λ above. above < number)
    by None h = tt
    by (Some above) h = h.0
