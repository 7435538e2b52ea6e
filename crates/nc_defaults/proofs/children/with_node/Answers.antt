use Rattle.std.proofs.Common.{◌≡◌, ◌<◌, ◌+◌, ◌++◌, ◌∷◌, ◌∙◌, [], length, set, ap, sym, subst}
use Rattle.nc_defaults.specs.inner.Lists.{AreListsSoFar, list_at, list_place}
use Rattle.nc_defaults.proofs.ListLemmas.{lists_more, lists_past, place_within}
use Rattle.nc_defaults.proofs.children.with_node.Goals as goal

pub returns-in_default : goal.returns-in_default
returns-in_default c = lists_past c.args.schema.now.nodes c.args.number c.args.lists (sym c.in_default.ensures) c.requires.lists

pub with_number-requires : goal.with_number-requires
with_number-requires c =
    subst (λ k. k < length c.args.lists) (sym c.list_place.ensures)
    (place_within c.args.schema.now.nodes c.args.number c.in-Some.node.now c.args.lists c.requires.lower (sym c.in-Some.ensures) c.requires.lists)

pub returns : goal.returns
returns c =
    let nodes = c.args.schema.now.nodes in
    let node = c.in-Some.node.now in
    let lists = c.args.lists in
    let is : c.in_ok-lists.lists ≡ set lists (list_place node.parent) (list_at lists (list_place node.parent) ++ c.args.number ∷ []) =
    c.in_ok-lists.ensures ∙ ap (λ k. set lists k (list_at lists k ++ c.args.number ∷ [])) c.list_place.ensures in
    subst (AreListsSoFar nodes (c.args.number + 1)) (sym is)
    (lists_more nodes c.args.number node lists (sym c.in-Some.ensures)
    (place_within nodes c.args.number node lists c.requires.lower (sym c.in-Some.ensures) c.requires.lists) c.requires.lists)
