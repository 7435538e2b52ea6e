use Rattle.std.proofs.Common.{ap, ◌∙◌, length}
use Rattle.nc_nacm.specs.inner.Chains.{is_candidate, lesser, place_among, place_of}
use Rattle.nc_nacm.specs.inner.Found.{matches_under}
use Rattle.nc_nacm.specs.inner.Marks.{key_marks, node_mark}
use Rattle.nc_nacm.proofs.Chaining.{among_more, rules_of, stays_within}
use Rattle.nc_nacm.proofs.chained.first_by_step.Goals as goal

pub first_by_keys-requires-clause-within : goal.first_by_keys-requires-clause-within
first_by_keys-requires-clause-within c =
    stays_within (length c.args.rules.now) c.args.limit c.first_in_chain-by_node.result _ c.requires.within c.first_in_chain-by_node.ensures

pub returns : goal.returns
returns c =
    let test = matches_under c.args.wanted.now.name.now c.args.wanted.now.steps.now c.args.wanted.now.right in
    let rules = rules_of c.args.rules.now in
    let its = c.args.chains.now.marks in
    let by_node = c.first_in_chain-by_node.ensures ∙ ap (λ mark. lesser c.args.limit (place_of (is_candidate test mark) its rules)) c.node_mark.ensures in
    c.first_by_keys.ensures
    ∙ (λ i. lesser (by_node i) (place_among test (key_marks c.args.step.now.node 0 (c.as_slice.ensures i)) its rules))
    ∙ among_more test its rules c.args.limit (node_mark c.args.step.now.node) (key_marks c.args.step.now.node 0 c.args.step.now.keys)
