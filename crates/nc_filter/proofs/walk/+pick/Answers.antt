use Rattle.std.proofs.Common.{◌∙◌, ◌&&◌, ◌||◌, ◌++◌, ◌==◌, ◌+◌, List, Option, ℕ, ap, sym, subst, length, arith}
use Rattle.std.specs.Prelude.{map}
use Rattle.std.specs.List.{filter, list_any}
use Rattle.std.proofs.lemmas.List.Sums.{prefix_len-le-length}
use Rattle.nc_names.specs.declared.path.Row.{Row}
use Rattle.nc_message.specs.declared.tree.Elem.{Elem}
use Rattle.nc_protocol.specs.Filter.{is_containment}
use Rattle.nc_filter.specs.inner.Picks.{Adds, has_node, is_matched, is_number, is_selection, node_at, opens, picked, picks_at, within}
use Rattle.nc_filter.proofs.WalkLemmas.{level_done, level_next, no_node, node_parts, node_whole, none_there, open_done, open_level, open_whole, shorter_rest, some_node, some_there}
use Rattle.nc_filter.proofs.walk.+pick.Goals as goal

pub pick_level-front-here-requires : goal.pick_level-front-here-requires
pick_level-front-here-requires t c = rw c.count_node-count.ensures (prefix_len-le-length (λ row. is_number (node_at c.args.depth row.now) c.first_node-node.result) c.nodes.rest.now)

pub pick_level-nodes-preserved : goal.pick_level-nodes-preserved
pick_level-nodes-preserved t c = λ all index names test.
    level_next c.args.basis.now.schema.now all c.args.depth (map (λ elem. elem.now) c.args.level.now.elems) (map (λ row. row.now) c.nodes.out) (map (λ row. row.now) c.in_ok-out.out)
    c.nodes.rest.now c.front-here.result.now c.tail-rest.result.now c.first_node-node.result c.count_node-count.result c.count_node-count.ensures c.front-here.ensures c.tail-rest.ensures
    (c.in_ok-out.ensures all index names) test
    ∙ c.nodes.invariant all index names test

pub pick_level-nodes-smaller : goal.pick_level-nodes-smaller
pick_level-nodes-smaller t c =
    let some = some_there c.nodes.rest.now c.is_empty.result (λ none. c.is_empty.ensures ∙ ap (λ rows. length rows == 0) none) c.nodes-test.true in
    let less = shorter_rest c.args.depth c.count_node-count.result c.nodes.rest.now c.tail-rest.result.now c.first_node-node.result c.first_node-node.ensures.value some
    c.count_node-count.ensures c.tail-rest.ensures in
    omega (arith, less)

pub pick_level-returns : goal.pick_level-returns
pick_level-returns t c = λ all index names.
    level_done c.args.basis.now.schema.now all c.args.depth (map (λ elem. elem.now) c.args.level.now.elems) (map (λ row. row.now) c.args.out) (map (λ row. row.now) c.nodes.out) (map (λ row. row.now) c.args.rows.now)
    (λ test. ap (λ rest. list_any test (map (λ row. row.now) c.nodes.out)
    || list_any (λ row. picked c.args.basis.now.schema.now all c.args.depth (map (λ elem. elem.now) c.args.level.now.elems) row && test row) (map (λ row. row.now) rest))
    (sym (none_there c.nodes.rest.now c.is_empty.result c.is_empty.ensures c.nodes-test.false))
    ∙ c.nodes.invariant all index names test)

pub pick_some-returns-in_ok-pick_node-in-Some : goal.pick_some-returns-in_ok-pick_node-in-Some
pick_some-returns-in_ok-pick_node-in-Some t c = λ all index names.
    subst (λ (node : Option ℕ). Adds (map (λ row. row.now) c.args.out) (map (λ row. row.now) c.in_ok-pick_node-in-Some.field-0)
    (λ row. is_number (node_at c.args.depth row) node && picked c.args.basis.now.schema.now all c.args.depth (map (λ elem. elem.now) c.args.level.now.elems) row) (map (λ row. row.now) c.args.rows.now)) (sym c.in-Some.is)
    (some_node c.args.basis.now.schema.now all c.args.depth (map (λ elem. elem.now) c.args.level.now.elems) (map (λ row. row.now) c.args.out) (map (λ row. row.now) c.in_ok-pick_node-in-Some.field-0) c.in-Some.number
    (map (λ row. row.now) c.args.rows.now) (c.in_ok-pick_node-in-Some.ensures all index names))

pub pick_some-returns-in-None : goal.pick_some-returns-in-None
pick_some-returns-in-None t c = λ all index names.
    subst (λ (node : Option ℕ). Adds (map (λ row. row.now) c.args.out) (map (λ row. row.now) c.args.out)
    (λ row. is_number (node_at c.args.depth row) node && picked c.args.basis.now.schema.now all c.args.depth (map (λ elem. elem.now) c.args.level.now.elems) row) (map (λ row. row.now) c.args.rows.now)) (sym c.in-None.is)
    (no_node c.args.basis.now.schema.now all c.args.depth (map (λ elem. elem.now) c.args.level.now.elems) (map (λ row. row.now) c.args.out) (map (λ row. row.now) c.args.rows.now))

pub pick_node-returns-then-has_selection : goal.pick_node-returns-then-has_selection
pick_node-returns-then-has_selection t c = λ all index names.
    subst (λ (now : List Row). Adds (map (λ row. row.now) c.args.out) now
    (λ row. has_node c.args.depth c.args.node row && picks_at c.args.basis.now.schema.now all c.args.depth (map (λ elem. elem.now) c.args.level.now.elems) row c.args.node) (map (λ row. row.now) c.args.rows.now))
    (sym (c.in_ok-found.ensures ∙ ap (λ rows. map (λ row. row.now) c.args.out ++ map (λ row. row.now) rows) c.as_slice-here.ensures ∙ ap (λ rows. map (λ row. row.now) c.args.out ++ rows) c.in_ok-rows.ensures))
    (node_whole c.args.basis.now.schema.now all c.args.depth c.args.node (map (λ elem. elem.now) c.args.level.now.elems) (map (λ row. row.now) c.args.out) (map (λ row. row.now) c.args.rows.now)
    (map (λ elem. elem.now) c.in_ok-named.named) (c.in_ok-named.ensures names)
    (sym c.if-has_selection.true ∙ c.has_selection.ensures ∙ ap (λ elems. list_any is_selection (map (λ elem. elem.now) elems)) c.as_slice-ones.ensures))

pub pick_node-returns : goal.pick_node-returns
pick_node-returns t c = λ all index names.
    let elems : List Elem = map (λ elem. elem.now) c.args.level.now.elems in
    let named : List Elem = map (λ elem. elem.now) c.in_ok-named.named in
    let ones = ap (map (λ elem. elem.now)) c.as_slice-ones.ensures in
    let here = ap (map (λ row. row.now)) c.as_slice-here.ensures ∙ c.in_ok-rows.ensures in
    let lower = ap (map (λ elem. elem.now)) c.as_slice-lower.ensures ∙ c.in_ok-inner.ensures ∙ ap (filter is_containment) ones in
    node_parts c.args.basis.now.schema.now all c.args.depth c.args.node elems (map (λ row. row.now) c.args.out) (map (λ row. row.now) c.in_ok-out.out) (map (λ row. row.now) c.in_ok-found-2.found) (map (λ row. row.now) c.args.rows.now)
    named (c.in_ok-named.ensures names)
    (sym c.if-has_selection.false ∙ c.has_selection.ensures ∙ ap (list_any is_selection) ones)
    (subst (λ (rows : List Row). Adds (map (λ row. row.now) c.args.out) (map (λ row. row.now) c.in_ok-out.out) (is_matched named c.args.depth) rows) here
    (subst (λ (some : List Elem). Adds (map (λ row. row.now) c.args.out) (map (λ row. row.now) c.in_ok-out.out) (is_matched some c.args.depth) (map (λ row. row.now) c.as_slice-here.result.now)) ones c.in_ok-out.ensures))
    (subst (λ (rows : List Row). Adds (map (λ row. row.now) c.in_ok-out.out) (map (λ row. row.now) c.in_ok-found-2.found)
    (λ row. list_any (within c.args.basis.now.schema.now all (c.args.depth + 1) row) (filter is_containment named)) rows) here
    (subst (λ (some : List Elem). Adds (map (λ row. row.now) c.in_ok-out.out) (map (λ row. row.now) c.in_ok-found-2.found)
    (λ row. list_any (within c.args.basis.now.schema.now all (c.args.depth + 1) row) some) (map (λ row. row.now) c.as_slice-here.result.now)) lower (c.in_ok-found-2.ensures all index)))

pub pick_within-returns : goal.pick_within-returns
pick_within-returns t c = λ all index.
    open_done c.args.basis.now.schema.now all c.args.depth (map (λ row. row.now) c.args.out) (map (λ row. row.now) c.in_ok-found-2.found) (map (λ row. row.now) c.args.rows.now) (map (λ elem. elem.now) c.args.elems.now)
    (sym c.if-has_match.false ∙ c.has_match.ensures) (c.in_ok-found-2.ensures all index)

pub pick_open-returns-then-has_level_of_matches : goal.pick_open-returns-then-has_level_of_matches
pick_open-returns-then-has_level_of_matches t c = λ all index.
    subst (λ (now : List Row). Adds (map (λ row. row.now) c.args.out) now (λ row. list_any (opens c.args.basis.now.schema.now all c.args.depth row) (map (λ elem. elem.now) c.args.elems.now)) (map (λ row. row.now) c.args.rows.now))
    (sym c.in_ok-found.ensures)
    (open_whole c.args.basis.now.schema.now all c.args.depth (map (λ row. row.now) c.args.out) (map (λ row. row.now) c.args.rows.now) (map (λ elem. elem.now) c.args.elems.now)
    (sym c.if-has_level_of_matches.true ∙ c.has_level_of_matches.ensures))

pub pick_open-returns : goal.pick_open-returns
pick_open-returns t c = λ all index.
    open_level c.args.basis.now.schema.now all c.args.depth (map (λ row. row.now) c.args.out) (map (λ row. row.now) c.in_ok-found-2.found) (map (λ row. row.now) c.args.rows.now)
    (map (λ row. row.now) c.as_slice-some.result.now) (map (λ elem. elem.now) c.args.elems.now)
    (sym c.if-has_level_of_matches.false ∙ c.has_level_of_matches.ensures)
    (λ test. ap (λ rows. list_any test (map (λ row. row.now) rows)) c.as_slice-some.ensures ∙ c.in_ok-sorted.ensures test ∙ ap (list_any test) c.in_ok-copy.ensures)
    (subst (λ (some : List Elem). Adds (map (λ row. row.now) c.args.out) (map (λ row. row.now) c.in_ok-found-2.found) (picked c.args.basis.now.schema.now all c.args.depth some) (map (λ row. row.now) c.as_slice-some.result.now))
    (ap (map (λ elem. elem.now)) c.in_ok-level.ensures.elems ∙ c.in_ok-below.ensures) (c.in_ok-found-2.ensures all index c.in_ok-level.ensures.names))
