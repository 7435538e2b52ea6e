use Rattle.std.proofs.Common.{refl, ap, ◌∙◌, arith}
use Rattle.nc_nacm.specs.inner.Chains.{is_candidate, lesser, place_of}
use Rattle.nc_nacm.specs.inner.Found.{matches_under}
use Rattle.nc_nacm.proofs.Chaining.{keys_end, keys_more, rules_long, rules_of, stays_within}
use Rattle.std.proofs.Common.{length}
use Rattle.nc_nacm.proofs.chained.first_by_keys.Goals as goal

pub keys-init : goal.keys-init
keys-init c = (refl, c.requires.within)

pub keys-preserved : goal.keys-preserved
keys-preserved c =
    let test = matches_under c.args.wanted.now.name.now c.args.wanted.now.steps.now c.args.wanted.now.right in
    let rules = rules_of c.args.rules.now in
    let next_is = c.first_in_chain-limit.ensures ∙ ap (λ mark. lesser c.keys.limit (place_of (is_candidate test mark) c.args.chains.now.marks rules)) c.key_mark-mark.ensures in (
      keys_more test c.args.chains.now.marks rules c.args.node c.keys.at c.args.keys.now c.index-keys-at.result c.keys.limit c.first_in_chain-limit.result _
          c.keys-test.true c.index-keys-at.is next_is c.keys.invariant.0,
      stays_within (length c.args.rules.now) c.keys.limit c.first_in_chain-limit.result _ c.keys.invariant.1 next_is,
    )

pub returns : goal.returns
returns c =
    keys_end (matches_under c.args.wanted.now.name.now c.args.wanted.now.steps.now c.args.wanted.now.right) c.args.chains.now.marks (rules_of c.args.rules.now)
    c.args.node c.keys.at c.args.keys.now c.keys.limit _ c.requires.chained.anchored c.keys-test.false (omega (arith, c.keys.invariant.1, rules_long c.args.rules.now)) c.keys.invariant.0
