-- The graph of links: its edges are the links.
use Rattle.std.proofs.Common.{inl, inr, ◌≡◌, ◌+◌, ◌++◌, ◌∷◌, [], ℕ, List, map, refl, sym, ap, subst, ◌∙◌}
use Rattle.std.specs.Prelude.{Option, Some, None, slice_get, option_map, unwrap_or, Contains}
use Rattle.std.proofs.lemmas.List.{length_push}
use Rattle.std.proofs.lemmas.Option.{slice_get-map}
use Rattle.nc_yang_order.specs.Orders.{IsCircle, targets}
use Rattle.nc_yang_order.proofs.Lists.{contains_none}
use Rattle.nc_yang_scopes.specs.declared.references.Link.{Link}
use Rattle.nc_yang_scopes.specs.References.{AreLinksOf, graph_of, links_at, target_of}
use Rattle.nc_yang_scopes.proofs.LinkLists.{contains_map, get_push, map_contains}

module _ (links : List (List Link)) where
  -- the targets of a number are those of its links
  targets_are : (n : ℕ) → targets (graph_of links) n ≡ map target_of (links_at links n)
  targets_are n = ap (λ o. unwrap_or o []) (slice_get-map (map target_of) links n) ∙ by (slice_get links n)
    where
      by : (o : Option (List Link)) → unwrap_or (option_map (map target_of) o) [] ≡ map target_of (unwrap_or o [])
      by None = refl
      by (Some own) = refl

  pub own_links : (n : ℕ) (own : List Link) → slice_get links n ≡ Some own → links_at links n ≡ own
  own_links n own is = ap (λ o. unwrap_or o []) is

  -- the list in which a link of a number stands
  pub own_link : (n : ℕ) (link : Link) → Contains (links_at links n) link → (own : List Link) × (slice_get links n ≡ Some own) × Contains own link
  own_link n link h = by (slice_get links n) refl
    where
      by : (o : Option (List Link)) → slice_get links n ≡ o → (own : List Link) × (slice_get links n ≡ Some own) × Contains own link
      by None none = absurd (contains_none link (subst (λ ls. Contains ls link) (ap (λ o. unwrap_or o []) none) h))
      by (Some own) some = (own, some, subst (λ ls. Contains ls link) (own_links n own some) h)

  -- the link of an edge
  pub edge_link : (n t : ℕ) → Contains (targets (graph_of links) n) t → (link : Link) × Contains (links_at links n) link × (link.target ≡ t)
  edge_link n t edge =
      let c = contains_map target_of (links_at links n) t (subst (λ ts. Contains ts t) (targets_are n) edge) in
      (c.0, c.1.0, c.1.1)

  -- the edge of a link
  pub link_edge : (n : ℕ) (link : Link) → Contains (links_at links n) link → Contains (targets (graph_of links) n) link.target
  link_edge n link h = subst (λ ts. Contains ts link.target) (sym (targets_are n)) (map_contains target_of (links_at links n) link h)

  -- the link of an edge on a circle
  pub circle_link : (n place : ℕ) (circle : IsCircle (graph_of links) n place) → (link : Link) × (slice_get (links_at links n) place ≡ Some link) × (link.target ≡ circle.target)
  circle_link n place circle = by (slice_get (links_at links n) place) refl
    where
      edge : option_map target_of (slice_get (links_at links n) place) ≡ Some circle.target
      edge = sym (slice_get-map target_of (links_at links n) place) ∙ ap (λ ts. slice_get ts place) (sym (targets_are n)) ∙ circle.edge

      by : (o : Option Link) → slice_get (links_at links n) place ≡ o → (link : Link) × (slice_get (links_at links n) place ≡ Some link) × (link.target ≡ circle.target)
      by None none = absurd (let e : option_map target_of (slice_get (links_at links n) place) ≡ None = ap (option_map target_of) none in let f = edge in cc)
      by (Some link) some =
          (link, some, let e : option_map target_of (slice_get (links_at links n) place) ≡ Some link.target = ap (option_map target_of) some in let f = edge in cc)

-- the links of one number more
pub links_begin : (Is : ℕ → List Link → Type 0) → AreLinksOf Is 0 []
links_begin Is = record { counted = refl; each = λ n own is. absurd (cc) }

pub links_more : (Is : ℕ → List Link → Type 0) (count : ℕ) (links : List (List Link)) (own : List Link) (new : List (List Link)) → new ≡ links ++ own ∷ [] → Is count own → AreLinksOf Is count links →
    AreLinksOf Is (count + 1) new
links_more Is count links own new is are h = subst (AreLinksOf Is (count + 1)) (sym is) (record {
  counted = length_push links own ∙ ap (λ n. n + 1) h.counted;
  each = λ n some at. elim (get_push links own some n at) [
    | inl a ↦ h.each n some a
    | inr b ↦ subst (Is n) b.1 (subst (λ z. Is z own) (sym (b.0 ∙ h.counted)) are)
  ];
})
