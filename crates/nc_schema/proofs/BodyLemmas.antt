-- A body spells one configuration. The path of a row is found by its data node, whose parents are known, by the entries
-- in which it stands, each the last row of its list before it, and, where it is an entry itself, by the rows of its keys,
-- which follow at once.
use Rattle.std.proofs.Common.{◌≡◌, ◌⊎◌, ◌∙◌, ◌<◌, ◌≤◌, ◌+◌, ◌^◌, ◌++◌, ap, sym, subst, refl, inl, inr, ℕ, zero, suc, true, false, List, [], ◌∷◌, length, Option, Some, None, slice_index_or, arith}
use Rattle.std.specs.Prelude.{take, drop, slice_get, unwrap_or, IsSome, IsSomeAnd, IsTrue}
use Rattle.std.specs.Int.{from_be_bytes, w32}
use Rattle.std.specs.List.{All, Contains, flat_map, last_or}
use Rattle.std.specs.Option.{option_map_or}
use Rattle.std.proofs.lemmas.List.{append-nil, append_assoc, append_cancel_left, length-append, take_at}
use Rattle.std.proofs.lemmas.Option.{slice_get_within}
use Rattle.std.proofs.lemmas.Nat.{from_be_bytes-to_be_bytes_4}
use Rattle.nc_names.specs.declared.path.Path.{Path}
use Rattle.nc_names.specs.declared.path.Row.{Row}
use Rattle.nc_names.specs.declared.path.Step.{Step}
use Rattle.nc_schema.specs.Configuration.{HasItsValue, IsAtOrBelow, IsDataTree, IsRowValue, StandsForItself, key_rows}
use Rattle.nc_schema.specs.Kinds.{holds_nodes}
use Rattle.nc_schema.specs.Laws.{BodySpellsOne}
use Rattle.nc_schema.specs.Paths.{HasAllKeys, IsPathOf, IsStepIn, LeadDown, key_count}
use Rattle.nc_schema.specs.Proper.{EachNode, StandsIn}
use Rattle.nc_schema.specs.Record.{in_four_bytes, last_node, record_body, row_record, value_bytes}
use Rattle.nc_schema.specs.Tables.{Tables}
use Rattle.nc_schema.specs.declared.node.Kind.{Kind}
use Rattle.nc_schema.specs.declared.node.Kind.TheVariants.{Container, Leaf, LeafList, List as ListKind}
use Rattle.nc_schema.specs.declared.node.Node.{Node}
use Rattle.nc_schema.proofs.TreeLemmas.{contains_cases}

-- ---- lists
all_at : {X : Type 0} (P : X → Type 0) (xs : List X) (x : X) → All P xs → Contains xs x → P x
all_at P xs x all (k, within, here) = subst P here (all k x within)

in_middle : {X : Type 0} (xs ys : List X) (x : X) → Contains (xs ++ x ∷ ys) x
in_middle [] ys x = (0, omega arith, refl)
in_middle (y ∷ xs) ys x = let h = in_middle xs ys x in (suc h.0, let w = h.1 in omega (arith, w), h.2)

-- an element stands before another
record Before {X : Type 0} (xs : List X) (one other : X) : Type 0 where
  first : List X
  mid : List X
  is : xs ≡ first ++ one ∷ mid
  there : Contains mid other

before_more : {X : Type 0} (x : X) (xs : List X) (one other : X) → Before xs one other → Before (x ∷ xs) one other
before_more x xs one other h = record { first = x ∷ h.first; mid = h.mid; is = ap (λ z. x ∷ z) h.is; there = h.there }

abbrev Placed : {X : Type 0} → List X → X → X → Type 0
Placed xs one other = (one ≡ other) ⊎ (Before xs one other ⊎ Before xs other one)

placed_more : {X : Type 0} (x : X) (xs : List X) (one other : X) → Placed xs one other → Placed (x ∷ xs) one other
placed_more x xs one other (inl same) = inl same
placed_more x xs one other (inr (inl h)) = inr (inl (before_more x xs one other h))
placed_more x xs one other (inr (inr h)) = inr (inr (before_more x xs other one h))

placed_from : {X : Type 0} (x : X) (xs : List X) (one other : X) → (x ≡ one) ⊎ Contains xs one → (x ≡ other) ⊎ Contains xs other → (Contains xs one → Contains xs other → Placed xs one other) →
    Placed (x ∷ xs) one other
placed_from x xs one other (inl p) (inl q) further = inl (sym p ∙ q)
placed_from x xs one other (inl p) (inr q) further = inr (inl (record { first = []; mid = xs; is = ap (λ z. z ∷ xs) p; there = q }))
placed_from x xs one other (inr p) (inl q) further = inr (inr (record { first = []; mid = xs; is = ap (λ z. z ∷ xs) q; there = p }))
placed_from x xs one other (inr p) (inr q) further = placed_more x xs one other (further p q)

placed : {X : Type 0} (xs : List X) (one other : X) → Contains xs one → Contains xs other → Placed xs one other
placed [] one other a b = absurd (let w = a.1 in omega (arith, w))
placed (x ∷ xs) one other a b = placed_from x xs one other (contains_cases x xs one a) (contains_cases x xs other b) (placed xs one other)

-- ---- options
some_is : {X : Type 0} (P : X → Type 0) (o : Option X) → IsSomeAnd o P → (x : X) × (o ≡ Some x) × P x
some_is P None h = absurd h
some_is P (Some x) h = (x, refl, h)

some_same : (one other : Option (List ℕ)) → IsSome one → IsSome other → unwrap_or one [] ≡ unwrap_or other [] → one ≡ other
some_same None other h g e = absurd (cc)
some_same (Some x) None h g e = absurd (cc)
some_same (Some x) (Some y) h g e = ap Some e

-- ---- steps
-- the data node to which steps lead from one above
abbrev end_of : Option ℕ → List Step → Option ℕ
end_of above [] = above
end_of above (step ∷ steps) = end_of (Some step.node) steps

end_append : (above : Option ℕ) (xs ys : List Step) → end_of above (xs ++ ys) ≡ end_of (end_of above xs) ys
end_append above [] ys = refl
end_append above (x ∷ xs) ys = end_append (Some x.node) xs ys

last_is : (above : List Step) (step : Step) (o : Option Step) → last_or o (above ++ step ∷ []) ≡ Some step
last_is [] step o = refl
last_is (s ∷ above) step o = last_is above step (Some s)

-- there is no step, or a last one
abbrev IsEnded : List Step → Type 0
IsEnded steps = (steps ≡ []) ⊎ ((above : List Step) × (step : Step) × (steps ≡ above ++ step ∷ []))

ended_more : (s : Step) (ss : List Step) → IsEnded ss → IsEnded (s ∷ ss)
ended_more s ss (inl e) = inr ([], s, ap (λ z. s ∷ z) e)
ended_more s ss (inr (above, step, e)) = inr (s ∷ above, step, ap (λ z. s ∷ z) e)

ended : (steps : List Step) → IsEnded steps
ended [] = inl refl
ended (s ∷ ss) = ended_more s ss (ended ss)

no_keys : (keys : List (List ℕ)) → length keys ≡ 0 → keys ≡ []
no_keys [] e = refl
no_keys (k ∷ keys) e = absurd (omega (arith, e))

one_key : (keys : List (List ℕ)) → length keys ≡ 1 → (key : List ℕ) × (keys ≡ key ∷ [])
one_key [] e = absurd (omega (arith, e))
one_key (k ∷ []) e = (k, refl)
one_key (k ∷ l ∷ keys) e = absurd (omega (arith, e))

-- ---- rows that a record tells apart
abbrev SeenAlike : Row → Row → Type 0
SeenAlike row other = (last_node row ≡ last_node other) × (value_bytes row ≡ value_bytes other)

abbrev AllSeenAlike : List Row → List Row → Type 0
AllSeenAlike [] [] = Unit {0}
AllSeenAlike (row ∷ rows) (other ∷ others) = SeenAlike row other × AllSeenAlike rows others
AllSeenAlike rows others = ⊥

-- keys are those of the rows that follow
same_keys : (entry other : List Step) (nodes : List ℕ) (ks js : List (List ℕ)) (rest also : List Row) → length ks ≡ length nodes → length js ≡ length nodes →
    AllSeenAlike (key_rows entry nodes ks ++ rest) (key_rows other nodes js ++ also) → ks ≡ js
same_keys entry other [] [] [] rest also e f h = refl
same_keys entry other [] (k ∷ ks) js rest also e f h = absurd (omega (arith, e))
same_keys entry other [] [] (j ∷ js) rest also e f h = absurd (omega (arith, f))
same_keys entry other (n ∷ nodes) [] js rest also e f h = absurd (omega (arith, e))
same_keys entry other (n ∷ nodes) (k ∷ ks) [] rest also e f h = absurd (omega (arith, f))
same_keys entry other (n ∷ nodes) (k ∷ ks) (j ∷ js) rest also e f h =
    let first : k ≡ j = h.0.1 in
    let more = same_keys entry other nodes ks js rest also (omega (arith, e)) (omega (arith, f)) h.1 in
    λ i. first i ∷ more i

following_keys : (entry other : List Step) (nodes : List ℕ) (ks js : List (List ℕ)) (rest also rows others : List Row) → length ks ≡ length nodes → length js ≡ length nodes →
    rows ≡ key_rows entry nodes ks ++ rest → others ≡ key_rows other nodes js ++ also → AllSeenAlike rows others → ks ≡ js
following_keys entry other nodes ks js rest also rows others e f is is_too h =
    same_keys entry other nodes ks js rest also e f (subst (λ w. AllSeenAlike w (key_rows other nodes js ++ also)) is (subst (AllSeenAlike rows) is_too h))

-- ---- paths of a schema
down_from : (tables : Tables) (above : Option ℕ) (xs ys : List Step) → LeadDown tables above (xs ++ ys) → LeadDown tables (end_of above xs) ys
down_from tables above [] ys h = h
down_from tables above (x ∷ xs) ys h = down_from tables (Some x.node) xs ys h.1

down_to : (tables : Tables) (above : Option ℕ) (xs ys : List Step) → LeadDown tables above (xs ++ ys) → LeadDown tables above xs
down_to tables above [] ys h = tt
down_to tables above (x ∷ xs) ys h = (h.0, down_to tables (Some x.node) xs ys h.1)

module _ (tables : Tables) (parents : EachNode tables (λ number node. StandsIn tables number node.parent)) where
  -- a node stands in a container or list with a lower number
  stands : (above : ℕ) (step : Step) → IsStepIn tables (Some above) step → StandsIn tables step.node (Some above)
  stands above step h =
      let f = some_is (λ (node : Node). (node.parent ≡ Some above) × (HasAllKeys node step ⊎ (step.keys ≡ []))) (slice_get tables.nodes step.node) h in
      subst (StandsIn tables step.node) f.2.0 (parents step.node f.0 f.1)

  rises : (above : ℕ) (steps : List Step) (last : ℕ) → LeadDown tables (Some above) steps → end_of (Some above) steps ≡ Some last → above ≤ last
  rises above [] last h e = let same : above ≡ last = cc in omega (arith, same)
  rises above (s ∷ ss) last h e = let l = (stands above s h.0).0 in let r = rises s.node ss last h.1 e in omega (arith, l, r)

  none_below : (above : ℕ) (steps : List Step) → LeadDown tables (Some above) steps → end_of (Some above) steps ≡ Some above → steps ≡ []
  none_below above [] h e = refl
  none_below above (s ∷ ss) h e = absurd (let l = (stands above s h.0).0 in let r = rises s.node ss above h.1 e in omega (arith, l, r))

  -- of two paths to one node, where one begins as the other, both are one
  extended : (steps also rest : List Step) (node : ℕ) → also ≡ steps ++ rest → LeadDown tables None also → end_of None steps ≡ Some node → end_of None also ≡ Some node → steps ≡ also
  extended steps also rest node e down at at_too =
      let below : LeadDown tables (Some node) rest = subst (λ z. LeadDown tables z rest) at (down_from tables None steps rest (subst (LeadDown tables None) e down)) in
      let ends : end_of (Some node) rest ≡ Some node = ap (λ z. end_of z rest) (sym at) ∙ sym (end_append None steps rest) ∙ sym (ap (end_of None) e) ∙ at_too in
      sym (e ∙ ap (λ z. steps ++ z) (none_below node rest below ends) ∙ append-nil steps)

-- ---- two data trees that begin alike, and their next rows
abbrev stands_at : List Step → Row
stands_at steps = record { path = record { steps = steps }; value = None }

module _ (tables : Tables) (parents : EachNode tables (λ number node. StandsIn tables number node.parent)) (done : List Row) (row other : Row) (rows others : List Row)
    (tree : IsDataTree tables (done ++ row ∷ rows)) (also : IsDataTree tables (done ++ other ∷ others)) where
  row_path : IsPathOf tables row.path
  row_path = all_at (λ (r : Row). IsPathOf tables r.path) (done ++ row ∷ rows) row tree.paths (in_middle done rows row)

  other_path : IsPathOf tables other.path
  other_path = all_at (λ (r : Row). IsPathOf tables r.path) (done ++ other ∷ others) other also.paths (in_middle done others other)

  -- paths to one node above the two rows, of which each has a row before them, are one
  from_placed : (ss zs ts us : List Step) (node : ℕ) → row.path.steps ≡ ss ++ ts → other.path.steps ≡ zs ++ us → end_of None ss ≡ Some node → end_of None zs ≡ Some node →
      Placed done (stands_at ss) (stands_at zs) → ss ≡ zs
  from_placed ss zs ts us node at at_too ends ends_too (inl same) = ap (λ (r : Row). r.path.steps) same
  from_placed ss zs ts us node at at_too ends ends_too (inr (inl h)) =
      let between = tree.together h.first h.mid rows (stands_at ss) row ss (ap (λ z. z ++ row ∷ rows) h.is) ([], sym (append-nil ss)) (ts, at) in
      let there = all_at (λ (r : Row). IsAtOrBelow ss r.path) h.mid (stands_at zs) between h.there in
      extended tables parents ss zs there.0 node there.1 (down_to tables None zs us (subst (LeadDown tables None) at_too other_path.names.down)) ends ends_too
  from_placed ss zs ts us node at at_too ends ends_too (inr (inr h)) =
      let between = also.together h.first h.mid others (stands_at zs) other zs (ap (λ z. z ++ other ∷ others) h.is) ([], sym (append-nil zs)) (us, at_too) in
      let there = all_at (λ (r : Row). IsAtOrBelow zs r.path) h.mid (stands_at ss) between h.there in
      sym (extended tables parents zs ss there.0 node there.1 (down_to tables None ss ts (subst (LeadDown tables None) at row_path.names.down)) ends_too ends)

  -- a step of a row's path
  record IsStepOf (steps : List Step) (step : Step) (ts : List Step) : Type 0 where
    node : Node
    at : slice_get tables.nodes step.node ≡ Some node
    parent : node.parent ≡ end_of None steps
    keys : length step.keys ≡ key_count node.kind (length node.keys)

  step_of : (path : Path) → IsPathOf tables path → (steps : List Step) (step : Step) (ts : List Step) → path.steps ≡ steps ++ step ∷ ts → IsStepOf steps step ts
  step_of path is steps step ts e =
      let down = down_from tables None steps (step ∷ ts) (subst (LeadDown tables None) e is.names.down) in
      let f = some_is (λ (node : Node). (node.parent ≡ end_of None steps) × (HasAllKeys node step ⊎ (step.keys ≡ []))) (slice_get tables.nodes step.node) down.0 in
      let whole = all_at (λ (s : Step). IsSomeAnd (slice_get tables.nodes s.node) (λ node. HasAllKeys node s)) (steps ++ step ∷ ts) step
      (subst (All (λ (s : Step). IsSomeAnd (slice_get tables.nodes s.node) (λ node. HasAllKeys node s))) e is.instances) (in_middle steps ts step) in
      record { node = f.0; at = f.1; parent = f.2.0; keys = subst (λ o. IsSomeAnd o (λ node. HasAllKeys node step)) f.1 whole }

  -- what stands above holds data nodes
  holds : (path : Path) → IsPathOf tables path → (steps : List Step) (step next : Step) (ts : List Step) → path.steps ≡ steps ++ step ∷ next ∷ ts → (node : Node) → slice_get tables.nodes step.node ≡ Some node →
      IsTrue (holds_nodes node.kind)
  holds path is steps step next ts e node at =
      let down = down_from tables None steps (step ∷ next ∷ ts) (subst (LeadDown tables None) e is.names.down) in
      subst (λ o. IsSomeAnd o (λ (over : Node). IsTrue (holds_nodes over.kind))) at (stands tables parents step.node next down.1.0).1

  one_step : (one two : Step) → one.node ≡ two.node → one.keys ≡ two.keys → one ≡ two
  one_step one two e f = λ i. record { node = e i; keys = f i }

  same_end : (above also : List Step) (one two : Step) → one ≡ two → above ≡ also → above ++ one ∷ [] ≡ also ++ two ∷ []
  same_end above also one two e f = λ i. f i ++ e i ∷ []

  -- ways down to what stands above the two rows are one where they end at one data node
  abbrev Same : List Step → List Step → Type 0
  Same ss zs = (t u : Step) (ts us : List Step) → row.path.steps ≡ ss ++ t ∷ ts → other.path.steps ≡ zs ++ u ∷ us → end_of None ss ≡ end_of None zs → ss ≡ zs

  by_kind : {P : Type 0} (kind : Kind) → IsTrue (holds_nodes kind) → (StandsForItself kind → P) → (kind ≡ Container false → P) → P
  by_kind (Container true) held rows plainly = rows refl
  by_kind (Container false) held rows plainly = plainly refl
  by_kind ListKind held rows plainly = rows tt
  by_kind Leaf held rows plainly = absurd (cc)
  by_kind LeafList held rows plainly = absurd (cc)

  -- the steps to a node are the same where those to what stands above it are
  by_end : (up upper : List Step) (q p : Step) → Same up upper → Same (up ++ q ∷ []) (upper ++ p ∷ [])
  by_end up upper q p further t u ts us at at_too ends =
      let same : q.node ≡ p.node = (let g : Some q.node ≡ Some p.node = sym (end_append None up (q ∷ [])) ∙ ends ∙ end_append None upper (p ∷ []) in cc) in
      let way : row.path.steps ≡ up ++ q ∷ t ∷ ts = at ∙ append_assoc up (q ∷ []) (t ∷ ts) in
      let way_too : other.path.steps ≡ upper ++ p ∷ u ∷ us = at_too ∙ append_assoc upper (p ∷ []) (u ∷ us) in
      let s = step_of row.path row_path up q (t ∷ ts) way in
      let z = step_of other.path other_path upper p (u ∷ us) way_too in
      let one : s.node ≡ z.node = (let g : Some s.node ≡ Some z.node = sym s.at ∙ ap (slice_get tables.nodes) same ∙ z.at in cc) in
      by_kind s.node.kind (holds row.path row_path up q t ts way s.node s.at)
      (λ stands.
      let here = tree.ancestors done rows row up q t ts s.node refl way (up ++ q ∷ [], refl) s.at stands in
      let there = also.ancestors done others other upper p u us z.node refl way_too (upper ++ p ∷ [], refl) z.at (subst (λ (n : Node). StandsForItself n.kind) one stands) in
      from_placed (up ++ q ∷ []) (upper ++ p ∷ []) (t ∷ ts) (u ∷ us) q.node at at_too (end_append None up (q ∷ [])) (end_append None upper (p ∷ []) ∙ ap Some (sym same))
      (placed done (stands_at (up ++ q ∷ [])) (stands_at (upper ++ p ∷ [])) here there))
      (λ plain.
      let none : q.keys ≡ [] = no_keys q.keys (s.keys ∙ ap (λ k. key_count k (length s.node.keys)) plain) in
      let none_too : p.keys ≡ [] = no_keys p.keys (z.keys ∙ ap (λ k. key_count k (length z.node.keys)) (ap (λ (n : Node). n.kind) (sym one) ∙ plain)) in
      let higher : up ≡ upper = further q p (t ∷ ts) (u ∷ us) way way_too (sym s.parent ∙ ap (λ (n : Node). n.parent) one ∙ z.parent) in
      same_end up upper q p (one_step q p same (none ∙ sym none_too)) higher)

  none_apart : (up : List Step) (q : Step) → end_of None [] ≡ end_of None (up ++ q ∷ []) → ⊥
  none_apart up q e = absurd (let none : None ≡ Some q.node = e ∙ end_append None up (q ∷ []) in cc)

  by_ends : (ss zs : List Step) → IsEnded ss → IsEnded zs → ((up upper : List Step) (q p : Step) → ss ≡ up ++ q ∷ [] → Same up upper) → Same ss zs
  by_ends ss zs (inl e) (inl f) further t u ts us at at_too ends = e ∙ sym f
  by_ends ss zs (inl e) (inr (upper, p, f)) further t u ts us at at_too ends = absurd (none_apart upper p (ap (end_of None) (sym e) ∙ ends ∙ ap (end_of None) f))
  by_ends ss zs (inr (up, q, e)) (inl f) further t u ts us at at_too ends = absurd (none_apart up q (ap (end_of None) (sym f) ∙ sym ends ∙ ap (end_of None) e))
  by_ends ss zs (inr (up, q, e)) (inr (upper, p, f)) further t u ts us at at_too ends =
      subst (λ w. Same w zs) (sym e) (subst (Same (up ++ q ∷ [])) (sym f) (by_end up upper q p (further up upper q p e))) t u ts us at at_too ends

  shorter : (fuel : ℕ) (ss up : List Step) (q : Step) → length ss ≤ suc fuel → ss ≡ up ++ q ∷ [] → length up ≤ fuel
  shorter fuel ss up q short e = let long = length-append up (q ∷ []) in let l = ap length e in omega (arith, long, l, short)

  none_shorter : (ss up : List Step) (q : Step) → length ss ≤ 0 → ss ≡ up ++ q ∷ [] → ⊥
  none_shorter ss up q short e = let long = length-append up (q ∷ []) in let l = ap length e in omega (arith, long, l, short)

  -- the steps to the node above are the same
  same_above : (fuel : ℕ) (ss zs : List Step) → length ss ≤ fuel → Same ss zs
  same_above zero ss zs short = by_ends ss zs (ended ss) (ended zs) (λ up upper q p e. absurd (none_shorter ss up q short e))
  same_above (suc fuel) ss zs short = by_ends ss zs (ended ss) (ended zs) (λ up upper q p e. same_above fuel up upper (shorter fuel ss up q short e))

  -- ---- the next rows themselves
  row_value : (above : List Step) (step : Step) (node : Node) → row.path.steps ≡ above ++ step ∷ [] → slice_get tables.nodes step.node ≡ Some node → IsRowValue node.kind step row.value
  row_value above step node e at = all_at (HasItsValue tables) (done ++ row ∷ rows) row tree.values (in_middle done rows row) above step node (record { path = e; node_is = at })

  other_value : (above : List Step) (step : Step) (node : Node) → other.path.steps ≡ above ++ step ∷ [] → slice_get tables.nodes step.node ≡ Some node → IsRowValue node.kind step other.value
  other_value above step node e at = all_at (HasItsValue tables) (done ++ other ∷ others) other also.values (in_middle done others other) above step node (record { path = e; node_is = at })

  node_is : (r : Row) (above : List Step) (step : Step) → r.path.steps ≡ above ++ step ∷ [] → last_node r ≡ step.node
  node_is r above step e = ap (λ o. option_map_or (λ (s : Step). s.node) o 0) (ap (last_or None) e ∙ last_is above step None)

  -- keys and values at a node of that kind
  abbrev Alike : Step → Step → Type 0
  Alike step beside = (step.keys ≡ beside.keys) × (row.value ≡ other.value)

  by_value : (kind : Kind) (keys : List ℕ) (step beside : Step) → length step.keys ≡ key_count kind (length keys) → length beside.keys ≡ key_count kind (length keys) →
      IsRowValue kind step row.value → IsRowValue kind beside other.value → value_bytes row ≡ value_bytes other → (kind ≡ ListKind → step.keys ≡ beside.keys) → Alike step beside
  by_value (Container presence) keys step beside e f v w same listed = (no_keys step.keys e ∙ sym (no_keys beside.keys f), v.1 ∙ sym w.1)
  by_value Leaf keys step beside e f v w same listed = (no_keys step.keys e ∙ sym (no_keys beside.keys f), some_same row.value other.value v w same)
  by_value ListKind keys step beside e f v w same listed = (listed refl, v ∙ sym w)
  by_value LeafList keys step beside e f v w same listed =
      let k = one_key step.keys e in
      let j = one_key beside.keys f in
      let value : row.value ≡ Some k.0 = v ∙ ap (λ z. slice_get z 0) k.1 in
      let value_too : other.value ≡ Some j.0 = w ∙ ap (λ z. slice_get z 0) j.1 in
      let key : k.0 ≡ j.0 = sym (ap (λ o. unwrap_or o []) value) ∙ same ∙ ap (λ o. unwrap_or o []) value_too in
      (k.1 ∙ ap (λ z. z ∷ []) key ∙ sym j.1, value ∙ ap Some key ∙ sym value_too)

  same_row : SeenAlike row other → AllSeenAlike rows others → row ≡ other
  same_row seen later = by (ended row.path.steps) (ended other.path.steps)
    where
      by : IsEnded row.path.steps → IsEnded other.path.steps → row ≡ other
      by (inl e) end = absurd (row_path.names.steps e)
      by (inr end) (inl e) = absurd (other_path.names.steps e)
      by (inr (above, step, e)) (inr (upper, beside, f)) =
          let s = step_of row.path row_path above step [] e in
          let z = step_of other.path other_path upper beside [] f in
          let same : step.node ≡ beside.node = sym (node_is row above step e) ∙ seen.0 ∙ node_is other upper beside f in
          let one : z.node ≡ s.node = (let g : Some z.node ≡ Some s.node = sym z.at ∙ ap (slice_get tables.nodes) (sym same) ∙ s.at in cc) in
          let at_too : slice_get tables.nodes beside.node ≡ Some s.node = z.at ∙ ap Some one in
          let higher : above ≡ upper = same_above (length above) above upper (omega arith) step beside [] [] e f (sym s.parent ∙ ap (λ (n : Node). n.parent) (sym one) ∙ z.parent) in
          let keys_too : length beside.keys ≡ key_count s.node.kind (length s.node.keys) = z.keys ∙ ap (λ (n : Node). key_count n.kind (length n.keys)) one in
          let listed : s.node.kind ≡ ListKind → step.keys ≡ beside.keys = λ is.
          let here = tree.keys done rows row above step s.node refl (record { path = e; node_is = s.at }) is in
          let there = also.keys done others other upper beside s.node refl (record { path = f; node_is = at_too }) is in
          following_keys row.path.steps other.path.steps s.node.keys step.keys beside.keys here.0 there.0 rows others (s.keys ∙ ap (λ k. key_count k (length s.node.keys)) is)
          (keys_too ∙ ap (λ k. key_count k (length s.node.keys)) is) here.1 there.1 later in
          let alike = by_value s.node.kind s.node.keys step beside s.keys keys_too (row_value above step s.node e s.at) (other_value upper beside s.node f at_too) seen.1 listed in
          let steps : row.path.steps ≡ other.path.steps = e ∙ same_end above upper step beside (one_step step beside same alike.0) higher ∙ sym f in
          λ i. record { path = record { steps = steps i }; value = alike.1 i }

-- two data trees that a record does not tell apart
module _ (tables : Tables) (parents : EachNode tables (λ number node. StandsIn tables number node.parent)) where
  same_rows : (done rows others : List Row) → IsDataTree tables (done ++ rows) → IsDataTree tables (done ++ others) → AllSeenAlike rows others → rows ≡ others
  same_rows done [] [] tree also seen = refl
  same_rows done [] (other ∷ others) tree also seen = absurd seen
  same_rows done (row ∷ rows) [] tree also seen = absurd seen
  same_rows done (row ∷ rows) (other ∷ others) tree also seen =
      let same = same_row tables parents done row other rows others tree also seen.0 seen.1 in
      let longer : IsDataTree tables ((done ++ row ∷ []) ++ rows) = subst (IsDataTree tables) (sym (append_assoc done (row ∷ []) rows)) tree in
      let longer_too : IsDataTree tables ((done ++ row ∷ []) ++ others) =
      subst (IsDataTree tables) (ap (λ r. done ++ r ∷ others) (sym same) ∙ sym (append_assoc done (row ∷ []) others)) also in
      let more = same_rows (done ++ row ∷ []) rows others longer longer_too seen.1 in
      λ i. same i ∷ more i

-- ---- a body
number_is : (n m : ℕ) → n < 2 ^ 32 → m < 2 ^ 32 → in_four_bytes n ≡ in_four_bytes m → n ≡ m
number_is n m less less_too same = sym (from_be_bytes-to_be_bytes_4 n less) ∙ ap (from_be_bytes w32) same ∙ from_be_bytes-to_be_bytes_4 m less_too

-- the data nodes of rows have numbers of four bytes
abbrev Fit : List Row → Type 0
Fit rows = All (λ row. last_node row < 2 ^ 32) rows

seen_alike : (rows others : List Row) → Fit rows → Fit others → length (flat_map row_record rows) < 2 ^ 32 → flat_map row_record rows ≡ flat_map row_record others → AllSeenAlike rows others
seen_alike [] [] fit also short same = tt
seen_alike [] (other ∷ others) fit also short same = absurd (cc)
seen_alike (row ∷ rows) [] fit also short same = absurd (cc)
seen_alike (row ∷ rows) (other ∷ others) fit also short same =
    let node : last_node row ≡ last_node other = number_is (last_node row) (last_node other) (fit 0 row (omega arith)) (also 0 other (omega arith)) (ap (take 4) same) in
    let rest : value_bytes row ++ flat_map row_record rows ≡ value_bytes other ++ flat_map row_record others = ap (drop 8) same in
    let long = length-append (value_bytes row) (flat_map row_record rows) in
    let long_too = length-append (value_bytes other) (flat_map row_record others) in
    let as_long : length (value_bytes row ++ flat_map row_record rows) ≡ length (value_bytes other ++ flat_map row_record others) = ap length rest in
    let whole : length (flat_map row_record (row ∷ rows)) ≡ 8 + length (value_bytes row ++ flat_map row_record rows) = omega arith in
    let many : length (value_bytes row) ≡ length (value_bytes other) =
    number_is (length (value_bytes row)) (length (value_bytes other)) (omega (arith, long, whole, short)) (omega (arith, long_too, as_long, whole, short)) (ap (λ z. take 4 (drop 4 z)) same) in
    let value : value_bytes row ≡ value_bytes other =
    sym (take_at (value_bytes row) (flat_map row_record rows) (length (value_bytes row)) refl) ∙ ap (take (length (value_bytes row))) rest
    ∙ take_at (value_bytes other) (flat_map row_record others) (length (value_bytes row)) (sym many) in
    let later : flat_map row_record rows ≡ flat_map row_record others =
    append_cancel_left (value_bytes other) (flat_map row_record rows) (flat_map row_record others) (ap (λ z. z ++ flat_map row_record rows) (sym value) ∙ rest) in
    ((node, value), seen_alike rows others (λ k d less. fit (suc k) d (omega (arith, less))) (λ k d less. also (suc k) d (omega (arith, less))) (omega (arith, long, whole, short)) later)

-- paths lead to data nodes of the schema
fits : (tables : Tables) (rows : List Row) → length tables.nodes ≤ 2 ^ 32 → IsDataTree tables rows → Fit rows
fits tables rows few tree k d less = by (slice_index_or rows k d) (tree.paths k d less)
  where
    found : (row : Row) → IsPathOf tables row.path → IsEnded row.path.steps → last_node row < 2 ^ 32
    found row is (inl e) = absurd (is.names.steps e)
    found row is (inr (above, step, e)) =
        let f = some_is (λ (node : Node). HasAllKeys node step) (slice_get tables.nodes step.node)
        (all_at (λ (s : Step). IsSomeAnd (slice_get tables.nodes s.node) (λ node. HasAllKeys node s)) (above ++ step ∷ []) step
        (subst (All (λ (s : Step). IsSomeAnd (slice_get tables.nodes s.node) (λ node. HasAllKeys node s))) e is.instances) (in_middle above [] step)) in
        let within = slice_get_within tables.nodes step.node f.0 f.1 in
        let at : last_node row ≡ step.node = ap (λ o. option_map_or (λ (s : Step). s.node) o 0) (ap (last_or None) e ∙ last_is above step None) in
        omega (arith, within, at, few)

    by : (row : Row) → IsPathOf tables row.path → last_node row < 2 ^ 32
    by row is = found row is (ended row.path.steps)

pub spells_one : BodySpellsOne
spells_one tables body rows others proper few short spells spells_too =
    let tree = spells.configuration.tree in
    let tree_too = spells_too.configuration.tree in
    let same : record_body rows ≡ record_body others = sym spells.body_is ∙ spells_too.body_is in
    let long : length body ≡ length (record_body rows) = ap length spells.body_is in
    let within : length (flat_map row_record rows) < 2 ^ 32 = omega (arith, long, short) in
    same_rows tables proper.places.parents [] rows others tree tree_too
    (seen_alike rows others (fits tables rows few tree) (fits tables others few tree_too) within (ap (drop 5) same))
