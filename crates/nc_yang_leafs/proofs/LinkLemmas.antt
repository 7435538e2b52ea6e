-- The links of data nodes.
use Rattle.std.proofs.Common.{◌≡◌, ℕ, List, refl, sym, ap, ◌∙◌, subst}
use Rattle.std.specs.Prelude.{Option, Some, None, slice_get, option_map, option_and_then, Contains}
use Rattle.nc_schema.specs.declared.pattern.LeafrefEnd.{LeafrefEnd}
use Rattle.nc_schema.specs.Tables.{Tables}
use Rattle.nc_yang_scopes.specs.Scopes.{Located, Scoping}
use Rattle.nc_yang_leafs.specs.Bases.{Basis, leads}
use Rattle.nc_yang_scopes.specs.declared.references.Link.{Link}
use Rattle.nc_yang_leafs.specs.Circles.{HasPath, Refers}
use Rattle.nc_yang_leafs.specs.inner.Links.{AreLinks, link_of, link_to, links_of}
use Rattle.nc_yang_leafs.specs.inner.Plans.{ArePaths}
use Rattle.nc_yang_leafs.proofs.Lists.{contains_flat_map, flat_map_contains}

-- where a `path` statement leads
pub record IsLink (scoping : Scoping) (given : Tables) (leaf path : ℕ) (link : Link) : Type 0 where
  pub statement : Located
  pub there : slice_get scoping.located path ≡ Some statement
  pub end : LeafrefEnd
  pub leads_to : leads scoping given leaf statement ≡ Some end
  pub is : link ≡ link_to path end

link_is : (scoping : Scoping) (given : Tables) (leaf path : ℕ) (link : Link) → link_of scoping given leaf path ≡ Some link → IsLink scoping given leaf path link
link_is scoping given leaf path link e = by (slice_get scoping.located path) refl e
  where
    by_end : (l : Located) (o : Option LeafrefEnd) → slice_get scoping.located path ≡ Some l → leads scoping given leaf l ≡ o → option_map (link_to path) o ≡ Some link → IsLink scoping given leaf path link
    by_end l None there is f = absurd (cc)
    by_end l (Some end) there is f = record { statement = l; there = there; end = end; leads_to = is; is = (let g : link_to path end ≡ link = cc in sym g) }

    by : (o : Option Located) → slice_get scoping.located path ≡ o → option_map (link_to path) (option_and_then (leads scoping given leaf) o) ≡ Some link → IsLink scoping given leaf path link
    by None there f = absurd (cc)
    by (Some l) there f = by_end l (leads scoping given leaf l) there refl f

module _ (b : Basis) where
  pub links_are : (leaf : ℕ) (paths : List ℕ) → ArePaths b leaf paths → AreLinks b leaf (links_of b.scoping b.given leaf paths)
  links_are leaf paths h = record { only = only; all = all }
    where
      only : (link : Link) → Contains (links_of b.scoping b.given leaf paths) link → (l : Located) × (slice_get b.scoping.located link.reference ≡ Some l) × Refers b leaf l link.target
      only link c =
          let one = contains_flat_map (link_of b.scoping b.given leaf) paths link c in
          let is = link_is b.scoping b.given leaf one.0 link one.2 in
          let has = h.only one.0 one.1 in
          let same : has.0 ≡ is.statement = (let e = has.1 in let f = is.there in cc) in (
            is.statement,
            ap (λ (z : Link). slice_get b.scoping.located z.reference) is.is ∙ is.there,
            record {
              has = subst (HasPath b leaf) same has.2;
              end = is.end;
              leads = is.leads_to;
              to = sym (ap (λ (z : Link). z.target) is.is);
            },
          )

      all : (l : Located) (target : ℕ) → Refers b leaf l target → (link : Link) × Contains (links_of b.scoping b.given leaf paths) link × (link.target ≡ target)
      all l target r =
          let p = h.all l r.has in
          let e : link_of b.scoping b.given leaf p.0 ≡ Some (link_to p.0 r.end) = ap (λ o. option_map (link_to p.0) (option_and_then (leads b.scoping b.given leaf) o)) p.2 ∙ ap (option_map (link_to p.0)) r.leads in
          (link_to p.0 r.end, flat_map_contains (link_of b.scoping b.given leaf) paths p.0 (link_to p.0 r.end) p.1 e, r.to)
