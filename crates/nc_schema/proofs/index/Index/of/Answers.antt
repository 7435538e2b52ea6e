use Rattle.std.proofs.Common.{◌≡◌, ◌<◌, ◌++◌, ◌∷◌, [], ◌+◌, length, take, add-one, ap, sym, subst, ◌∙◌, arith, List}
use Rattle.std.proofs.Math.Seq.{take-suc}
use Rattle.std.proofs.lemmas.List.{length-take-le}
use Rattle.nc_schema.specs.inner.Index.{IsIndexOf}
use Rattle.nc_schema.specs.declared.node.Node.{Node}
use Rattle.nc_schema.proofs.IndexLemmas.{above_at}
use Rattle.nc_schema.proofs.index.Index.of.Goals as goal

pub add-requires-clause-above : goal.add-requires-clause-above
add-requires-clause-above c =
    let nodes = c.args.nodes.now in
    let place = c.loop-node.node-index in
    let many : length c.loop-node.index.below.items ≡ place = omega (arith, c.loop-node.invariant.many, length-take-le place nodes) in
    above_at nodes place c.node-item.result (length c.loop-node.index.below.items) c.requires.lower (omega arith) c.node-item.is many

pub loop-node-preserved : goal.loop-node-preserved
loop-node-preserved c =
    let nodes = c.args.nodes.now in
    let place = c.loop-node.node-index in
    let within : place < length nodes = omega arith in
    let more : take (place + 1) nodes ≡ take place nodes ++ c.node-item.result ∷ [] =
    ap (λ n. take n nodes) (add-one place) ∙ take-suc nodes place c.node-item.result within ∙ ap (λ n. take place nodes ++ n ∷ []) (sym c.node-item.is) in
    subst (λ (ns : List Node). IsIndexOf ns c.add.new.self) (sym more) (c.in_ok-add.ensures (take place nodes) c.loop-node.invariant)
