use Rattle.std.proofs.Common.{◌+◌, ◌++◌, ◌∷◌, [], List, true, cond, drop, ap, sym, ◌∙◌}
use Rattle.std.specs.BTreeSet.{contains}
use Rattle.std.specs.Ordering.{is_eq}
use Rattle.nc_names.specs.declared.path.Path.{Path}
use Rattle.nc_names.specs.declared.path.Step.{Step}
use Rattle.nc_partial.specs.inner.Entries.{steps_cmp}
use Rattle.nc_partial.proofs.OnceLemmas.{first, none_seen, rest_once}
use Rattle.nc_partial.proofs.seen.each_once.Goals as goal

pub loop-path-init : goal.loop-path-init
loop-path-init c = none_seen c.args.paths.now c.new-seen.result c.new-nodes.result c.new-seen.ensures.empty c.new-nodes.ensures

pub loop-path-preserved : goal.loop-path-preserved
loop-path-preserved c =
    first c.args.paths.now c.loop-path.path-index c.loop-path.seen c.insert.new.self c.path-item.result c.loop-path.nodes
    c.loop-path.invariant c.loop-path-test.true c.path-item.is (sym c.contains.ensures ∙ c.if-contains.false)
    (λ key. c.in_ok-insert.ensures.updates.0 key
    ∙ ap (λ (steps : List Step). cond (is_eq (steps_cmp steps key)) true (contains steps_cmp c.loop-path.seen key)) c.in_ok-copy.ensures)
    ∙ ap (λ (nodes : List Path). nodes ++ rest_once c.insert.new.self (drop (c.loop-path.path-index + 1) c.args.paths.now))
    (sym (c.in_ok-push.ensures.ok ∙ ap (λ (path : Path). c.loop-path.nodes ++ path ∷ []) c.in_ok-copy-2.ensures))
