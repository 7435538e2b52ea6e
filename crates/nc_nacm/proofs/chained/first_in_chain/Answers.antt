use Rattle.std.proofs.Common.{◌≡◌, ◌<◌, ◌%◌, get_or, length, sym, ap, subst, ◌∙◌, arith, mod-lt}
use Rattle.nc_nacm.specs.inner.Chains.{is_candidate}
use Rattle.nc_nacm.specs.inner.Found.{matches_under}
use Rattle.nc_nacm.proofs.Chaining.{ends_at, next_behind, next_stands, rule_at, rules_long, rules_of, same_long, start, stops_at}
use Rattle.nc_nacm.proofs.chained.first_in_chain.Goals as goal

pub bucket_of-bucket-requires : goal.bucket_of-bucket-requires
bucket_of-bucket-requires c = omega (arith, c.len.ensures, c.requires.chained.linked.some)

pub number_at-at-requires : goal.number_at-at-requires
number_at-at-requires c =
    subst (λ n. n < length c.args.chains.now.heads) (sym (c.bucket_of-bucket.ensures ∙ ap (λ n. c.args.mark % n) c.len.ensures))
    (mod-lt c.args.mark c.requires.chained.linked.some)

pub mark_at-its-requires : goal.mark_at-its-requires
mark_at-its-requires c =
    omega (arith, c.chain-test.true, c.requires.within, rules_long c.args.rules.now, same_long c.args.chains.now.marks (rules_of c.args.rules.now) c.requires.chained.anchored)

pub number_at-at-requires-in-chain : goal.number_at-at-requires-in-chain
number_at-at-requires-in-chain c =
    omega (
      arith,
      c.chain-test.true,
      c.requires.within,
      c.requires.chained.linked.long,
      rules_long c.args.rules.now,
      same_long c.args.chains.now.marks (rules_of c.args.rules.now) c.requires.chained.anchored,
    )

pub chain-init : goal.chain-init
chain-init c =
    start (matches_under c.args.wanted.now.name.now c.args.wanted.now.steps.now c.args.wanted.now.right) c.args.mark
    c.args.chains.now.marks c.args.chains.now.heads c.args.chains.now.nexts (rules_of c.args.rules.now) c.requires.chained.anchored c.requires.chained.linked
    c.number_at-at.result (mod-lt c.args.mark c.requires.chained.linked.some)
    (c.number_at-at.ensures ∙ ap (λ n. get_or c.args.chains.now.heads n 0) (c.bucket_of-bucket.ensures ∙ ap (λ n. c.args.mark % n) c.len.ensures))

pub chain-preserved : goal.chain-preserved
chain-preserved c =
    let test = matches_under c.args.wanted.now.name.now c.args.wanted.now.steps.now c.args.wanted.now.right in
    let here = rule_at c.args.rules.now c.chain.at c.index-rules-at.result (omega (arith, c.chain-test.true, c.requires.within)) c.index-rules-at.is in
    let fails = sym c.is_found.ensures ∙ c.if-is_found.false in
    next_stands test c.args.mark
    c.args.chains.now.marks c.args.chains.now.heads c.args.chains.now.nexts (rules_of c.args.rules.now) c.requires.chained.anchored c.requires.chained.linked
    c.chain.at c.number_at-at-in-chain.result c.index-rules-at.result.now c.chain.invariant
    (omega (arith, c.chain-test.true, c.requires.within, rules_long c.args.rules.now, same_long c.args.chains.now.marks (rules_of c.args.rules.now) c.requires.chained.anchored))
    c.number_at-at-in-chain.ensures
    ((λ i. is_candidate test c.args.mark (sym c.mark_at-its.ensures i) (here i)) ∙ fails)

pub chain-smaller : goal.chain-smaller
chain-smaller c =
    omega (
      arith,
      c.chain-test.true,
      next_behind (matches_under c.args.wanted.now.name.now c.args.wanted.now.steps.now c.args.wanted.now.right) c.args.mark
          c.args.chains.now.marks c.args.chains.now.heads c.args.chains.now.nexts (rules_of c.args.rules.now) c.requires.chained.anchored c.requires.chained.linked
          c.chain.at c.number_at-at-in-chain.result c.chain.invariant
          (omega (arith, c.chain-test.true, c.requires.within, rules_long c.args.rules.now, same_long c.args.chains.now.marks (rules_of c.args.rules.now) c.requires.chained.anchored))
          c.number_at-at-in-chain.ensures,
    )

pub returns-then-is_found : goal.returns-then-is_found
returns-then-is_found c =
    let test = matches_under c.args.wanted.now.name.now c.args.wanted.now.steps.now c.args.wanted.now.right in
    let here = rule_at c.args.rules.now c.chain.at c.index-rules-at.result (omega (arith, c.chain-test.true, c.requires.within)) c.index-rules-at.is in
    let passes = sym c.is_found.ensures ∙ c.if-is_found.true in
    stops_at test c.args.mark
    c.args.chains.now.marks c.args.chains.now.heads c.args.chains.now.nexts (rules_of c.args.rules.now) c.requires.chained.anchored c.requires.chained.linked
    c.chain.at c.args.limit c.index-rules-at.result.now c.chain.invariant c.chain-test.true (omega (arith, c.requires.within, rules_long c.args.rules.now))
    ((λ i. is_candidate test c.args.mark (sym c.mark_at-its.ensures i) (here i)) ∙ passes)

pub returns : goal.returns
returns c =
    ends_at (matches_under c.args.wanted.now.name.now c.args.wanted.now.steps.now c.args.wanted.now.right) c.args.mark
    c.args.chains.now.marks c.args.chains.now.heads c.args.chains.now.nexts (rules_of c.args.rules.now) c.requires.chained.anchored c.requires.chained.linked
    c.chain.at c.args.limit c.chain.invariant c.chain-test.false
