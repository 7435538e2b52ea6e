-- Orders and circles in the graph of links.
use Rattle.std.proofs.Common.{◌≡◌, ℕ, List, refl, sym, ap, ◌∙◌, subst, arith}
use Rattle.std.specs.Prelude.{Option, Some, None, slice_get, option_map, option_and_then, Contains}
use Rattle.std.proofs.lemmas.Option.{slice_get_within}
use Rattle.nc_yang_scopes.specs.declared.naming.TextFault.{TextFault}
use Rattle.nc_yang_scopes.specs.Scopes.{Located}
use Rattle.nc_yang_order.specs.Orders.{IsCircle, IsOrder, targets, Reaches as Leads, here as arrived, further}
use Rattle.nc_yang_order.proofs.Circles.{order_has_no_circle}
use Rattle.nc_yang_order.proofs.Lists.{contains_at, get_none}
use Rattle.nc_yang_scopes.specs.declared.references.Link.{Link}
use Rattle.nc_yang_scopes.specs.References.{fault_at, fault_of, graph_of, links_at}
use Rattle.nc_yang_scopes.proofs.Graphs.{circle_link, edge_link, link_edge, own_link, own_links}
use Rattle.nc_yang_scopes.proofs.LinkLists.{contains_get}
use Rattle.nc_yang_leafs.specs.Bases.{Basis}
use Rattle.nc_yang_leafs.specs.Circles.{BreaksCircle, JudgesCircles, Reaches, Refers, itself, through}
use Rattle.nc_yang_leafs.specs.inner.Links.{AreAllLinks}

module _ (b : Basis) (links : List (List Link)) (linked : AreAllLinks b links) where
  -- a link of a number
  is_link : (n : ℕ) (link : Link) → Contains (links_at links n) link → (l : Located) × (slice_get b.scoping.located link.reference ≡ Some l) × Refers b n l link.target
  is_link n link h = let own = own_link links n link h in (linked.each n own.0 own.1).only link own.2

  -- what a leaf refers to is a target of its number
  is_target : (n : ℕ) (l : Located) (target : ℕ) → Refers b n l target → Contains (targets (graph_of links) n) target
  is_target n l target r = by (slice_get links n) refl
    where
      by : (o : Option (List Link)) → slice_get links n ≡ o → Contains (targets (graph_of links) n) target
      by None none = absurd (let past = get_none links n none in let less = slice_get_within b.given.nodes n r.has.node r.has.there in let counted = linked.counted in omega (arith, past, less, counted))
      by (Some own) some =
          let one = (linked.each n own some).all l target r in
          subst (λ t. Contains (targets (graph_of links) n) t) one.2 (link_edge links n one.0 (subst (λ ls. Contains ls one.0) (sym (own_links links n own some)) one.1))

  leads_on : (n last : ℕ) → Reaches b n last → Leads (graph_of links) n last
  leads_on _ _ (itself n) = arrived n
  leads_on _ _ (through n l next last r rest) = further n next last (is_target n l next r) (leads_on next last rest)

  reaches : (n last : ℕ) → Leads (graph_of links) n last → Reaches b n last
  reaches _ _ (arrived n) = itself n
  reaches _ _ (further n target last edge rest) =
      let c = edge_link links n target edge in
      let l = is_link n c.0 c.1 in
      through n l.0 target last (subst (Refers b n l.0) c.2 l.2) (reaches target last rest)

  -- an order
  pub order_keeps : (order : List ℕ) → IsOrder (graph_of links) order → JudgesCircles b None
  order_keeps order o fault f =
      let at = contains_get (targets (graph_of links) f.leaf) f.target (is_target f.leaf f.path f.target f.refers) in
      order_has_no_circle (graph_of links) order f.leaf at.0 o (record { target = f.target; edge = at.1; back = leads_on f.target f.leaf f.back })

  -- a circle
  pub circle_is : (n place : ℕ) → IsCircle (graph_of links) n place → (fault : TextFault) → fault_of b.scoping links n place ≡ Some fault → BreaksCircle b fault
  circle_is n place circle fault e =
      let c = circle_link links n place circle in
      let l = is_link n c.0 (contains_at (links_at links n) place c.0 c.1) in
      let is : fault_of b.scoping links n place ≡ Some (fault_at l.0) =
      ap (option_and_then (λ (z : Link). option_map fault_at (slice_get b.scoping.located z.reference))) c.1 ∙ ap (option_map fault_at) l.1 in
      record {
        leaf = n;
        path = l.0;
        target = c.0.target;
        refers = l.2;
        back = reaches c.0.target n (subst (λ t. Leads (graph_of links) t n) (sym c.2) circle.back);
        at = (let f = e in cc);
      }
