use Rattle.std.proofs.Common.{◌≡◌, arith, false, true, ap, sym, ◌∙◌}
use Rattle.nc_names.specs.Same.{is_same_keys}
use Rattle.nc_schema.specs.Standing.{has_entry}
use Rattle.nc_branches.proofs.FrontLemmas.{one_known, until_all, until_more}
use Rattle.nc_branches.proofs.front.known_until.Goals as goal

pub loop-entry-preserved : goal.loop-entry-preserved
loop-entry-preserved c =
    let other : is_same_keys c.entry-item.result c.args.keys.now ≡ false = ap (λ e. is_same_keys e c.args.keys.now) (sym c.as_slice.ensures) ∙ sym c.are_same_keys.ensures.word ∙ c.if-are_same_keys.false in
    record {
      known = one_known c.loop-entry.known c.insert.new.self c.args.order.now c.loop-entry.entry-index c.entry-item.result (omega arith) c.entry-item.is c.loop-entry.invariant.known c.in_ok-insert.ensures.updates.0;
      until = until_more c.args.keys.now c.args.order.now c.loop-entry.entry-index c.entry-item.result c.loop-entry-test.true c.entry-item.is other c.loop-entry.invariant.until;
    }

pub returns-then-are_same_keys : goal.returns-then-are_same_keys
returns-then-are_same_keys c = λ keys.
    let same : is_same_keys c.entry-item.result c.args.keys.now ≡ true = ap (λ e. is_same_keys e c.args.keys.now) (sym c.as_slice.ensures) ∙ sym c.are_same_keys.ensures.word ∙ c.if-are_same_keys.true in
    c.loop-entry.invariant.known keys ∙ ap (has_entry keys.now) (sym (until_all c.args.keys.now c.args.order.now c.loop-entry.entry-index c.entry-item.result c.loop-entry-test.true c.entry-item.is same c.loop-entry.invariant.until))
