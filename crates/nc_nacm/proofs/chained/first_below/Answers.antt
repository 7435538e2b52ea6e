use Rattle.std.proofs.Common.{◌∷◌, ap, ◌∙◌, length}
use Rattle.std.specs.List.{flat_map}
use Rattle.nc_model.specs.Words.{star}
use Rattle.nc_nacm.specs.inner.Chains.{is_candidate, lesser, place_among, place_of}
use Rattle.nc_nacm.specs.inner.Found.{matches_under}
use Rattle.nc_nacm.specs.inner.Marks.{module_mark, step_marks}
use Rattle.nc_nacm.proofs.Chaining.{among_more, rules_of, stays_within}
use Rattle.nc_nacm.proofs.chained.first_below.Goals as goal

pub first_in_chain-own-requires-clause-within : goal.first_in_chain-own-requires-clause-within
first_in_chain-own-requires-clause-within c =
    stays_within (length c.args.rules.now) c.args.limit c.first_in_chain-for_all.result _ c.requires.within c.first_in_chain-for_all.ensures

pub first_by_steps-requires-clause-within : goal.first_by_steps-requires-clause-within
first_by_steps-requires-clause-within c =
    stays_within (length c.args.rules.now) c.first_in_chain-for_all.result c.first_in_chain-own.result _
    (stays_within (length c.args.rules.now) c.args.limit c.first_in_chain-for_all.result _ c.requires.within c.first_in_chain-for_all.ensures)
    c.first_in_chain-own.ensures

pub returns : goal.returns
returns c =
    let name = c.args.wanted.now.name.now in
    let steps = c.args.wanted.now.steps.now in
    let test = matches_under name steps c.args.wanted.now.right in
    let rules = rules_of c.args.rules.now in
    let its = c.args.chains.now.marks in
    let below = flat_map step_marks steps in
    let all_mark = c.module_mark.ensures ∙ ap module_mark c.star.ensures in
    let for_all = c.first_in_chain-for_all.ensures ∙ ap (λ mark. lesser c.args.limit (place_of (is_candidate test mark) its rules)) all_mark in
    let own = c.first_in_chain-own.ensures ∙ ap (λ mark. lesser c.first_in_chain-for_all.result (place_of (is_candidate test mark) its rules)) c.module_mark-2.ensures in
    c.first_by_steps.ensures
    ∙ ap (λ n. lesser n (place_among test below its rules)) own
    ∙ among_more test its rules c.first_in_chain-for_all.result (module_mark name) below
    ∙ ap (λ n. lesser n (place_among test (module_mark name ∷ below) its rules)) for_all
    ∙ among_more test its rules c.args.limit (module_mark star) (module_mark name ∷ below)
