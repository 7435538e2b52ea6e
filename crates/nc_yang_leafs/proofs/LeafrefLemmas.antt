-- Where the path of a leafref ends: at a leaf or leaf-list, and it turns down above the leaf from which it leads.
use Rattle.std.proofs.Common.{◌≡◌, ◌++◌, ℕ, Bool, true, false, cond, eqb, List, [], ◌∷◌, Option, Some, None, refl, sym, subst}
use Rattle.std.specs.Prelude.{IsSomeAnd, IsTrue, option_and_then, slice_get}
use Rattle.std.specs.List.{slice_split}
use Rattle.nc_names.specs.declared.name.Bound.{Bound}
use Rattle.nc_names.specs.Same.{is_same_text}
use Rattle.nc_names.specs.Signs.{dot, slash}
use Rattle.nc_schema.specs.declared.node.Node.{Node}
use Rattle.nc_schema.specs.declared.pattern.LeafrefEnd.{LeafrefEnd}
use Rattle.nc_schema.specs.InstancePaths.{leads_down, leafref_below, leafref_end, leafref_from, leafref_parts, parent_of}
use Rattle.nc_schema.specs.Kinds.{has_value}
use Rattle.nc_schema.specs.Proper.{IsChain}
use Rattle.nc_schema.specs.Tables.{Tables}

bind_some : {A B : Type 0} (o : Option A) (f : A → Option B) (v : B) → option_and_then f o ≡ Some v → (x : A) × (o ≡ Some x) × (f x ≡ Some v)
bind_some None f v e = absurd (cc)
bind_some (Some x) f v e = (x, refl, e)

pub some_and : {A : Type 0} (P : A → Type 0) (o : Option A) (x : A) → o ≡ Some x → P x → IsSomeAnd o P
some_and P o x e h = subst (λ z. IsSomeAnd z P) (sym e) h

module _ (tables : Tables) (leaf : ℕ) where
  -- a node is above the leaf
  abbrev pub IsAbove : ℕ → Type 0
  IsAbove above = (between : List ℕ) × IsChain tables above (between ++ leaf ∷ [])

  abbrev IsAboveIn : Option ℕ → Type 0
  IsAboveIn o = (above : ℕ) → o ≡ Some above → IsAbove above

  -- an end as it is to be
  pub record IsEnd (end : LeafrefEnd) : Type 0 where
    pub valued : IsSomeAnd (slice_get tables.nodes end.target) (λ node. IsTrue (has_value node.kind))
    pub turns : IsAboveIn end.above

  module _ (space : List ℕ) (bounds : List Bound) where
    below_end : (above : Option ℕ) (parts : List (List ℕ)) (end : LeafrefEnd) → IsAboveIn above → leafref_below tables space bounds above parts ≡ Some end → IsEnd end
    below_end above parts end turns e =
        let (target, leads, f) = bind_some (leads_down tables space bounds above parts)
        (λ target. option_and_then (λ (node : Node). cond {A = Option LeafrefEnd} (has_value node.kind) (Some (record { target = target; above = above })) None) (slice_get tables.nodes target)) end e in
        let (node, there, g) = bind_some (slice_get tables.nodes target) (λ (node : Node). cond {A = Option LeafrefEnd} (has_value node.kind) (Some (record { target = target; above = above })) None) end f in
        by target node there (has_value node.kind) refl g
      where
        by : (target : ℕ) (node : Node) → slice_get tables.nodes target ≡ Some node → (b : Bool) → has_value node.kind ≡ b → cond {A = Option LeafrefEnd} b (Some (record { target = target; above = above })) None ≡ Some end → IsEnd end
        by target node there false is g = absurd (cc)
        by target node there true is g =
            let same : ◌≡◌ {A = LeafrefEnd} (record { target = target; above = above }) end = cc in
            subst IsEnd same (record { valued = some_and (λ (node : Node). IsTrue (has_value node.kind)) (slice_get tables.nodes target) node there is; turns = turns })

    parent_above : (number above : ℕ) → parent_of tables number ≡ Some above → IsSomeAnd (slice_get tables.nodes number) (λ node. node.parent ≡ Some above)
    parent_above number above e =
        let (node, there, is) = bind_some (slice_get tables.nodes number) (λ (node : Node). node.parent) above e in
        some_and (λ (node : Node). node.parent ≡ Some above) (slice_get tables.nodes number) node there is

    up : (number : ℕ) → IsAbove number → IsAboveIn (parent_of tables number)
    up number chain above e = (number ∷ chain.0, (parent_above number above e, chain.1))

    from_end : (parts : List (List ℕ)) (above : Option ℕ) (end : LeafrefEnd) → IsAboveIn above → leafref_from tables space bounds above parts ≡ Some end → IsEnd end
    from_end [] above end turns e = absurd (cc)
    from_end (part ∷ parts) above end turns e = by (is_same_text part (dot ∷ dot ∷ [])) (λ number. from_end parts (parent_of tables number) end) e
      where
        by : (b : Bool) → ((number : ℕ) → IsAboveIn (parent_of tables number) → leafref_from tables space bounds (parent_of tables number) parts ≡ Some end → IsEnd end) →
            cond b (option_and_then (λ number. leafref_from tables space bounds (parent_of tables number) parts) above) (leafref_below tables space bounds above (part ∷ parts)) ≡ Some end → IsEnd end
        by false further f = below_end above (part ∷ parts) end turns f
        by true further f =
            let (number, is, g) = bind_some above (λ number. leafref_from tables space bounds (parent_of tables number) parts) end f in
            further number (up number (turns number is)) g

    parts_end : (parts : List (List ℕ)) (end : LeafrefEnd) → leafref_parts tables leaf space bounds parts ≡ Some end → IsEnd end
    parts_end [] end e = absurd (cc)
    parts_end ([] ∷ parts) end e = below_end None parts end (λ above f. absurd (cc)) e
    parts_end ((c ∷ cs) ∷ parts) end e = by (is_same_text (c ∷ cs) (dot ∷ dot ∷ [])) e
      where
        by : (b : Bool) → cond b (leafref_from tables space bounds (parent_of tables leaf) parts) None ≡ Some end → IsEnd end
        by false f = absurd (cc)
        by true f = from_end parts (parent_of tables leaf) end (λ above g. ([], (parent_above leaf above g, tt))) f

  -- so is the end of a path
  pub path_end : (text : List ℕ) (bounds : List Bound) (end : LeafrefEnd) → leafref_end tables leaf text bounds ≡ Some end → IsEnd end
  unfolding leafref_end
  path_end text bounds end e =
      let (node, there, f) = bind_some (slice_get tables.nodes leaf) (λ (node : Node). leafref_parts tables leaf node.name.space bounds (slice_split (λ c. eqb c slash) text)) end e in
      parts_end node.name.space bounds (slice_split (λ c. eqb c slash) text) end f
