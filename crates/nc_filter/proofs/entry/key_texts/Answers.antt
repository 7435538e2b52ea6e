use Rattle.std.proofs.Common.{map}
use Rattle.nc_filter.proofs.AimLemmas.{asked_next}
use Rattle.nc_filter.proofs.entry.key_texts.Goals as goal

pub loop-key-preserved : goal.loop-key-preserved
loop-key-preserved c =
    asked_next c.args.schema.now (map (λ elem. elem.now) c.args.level.now) c.args.list c.args.keys.now c.loop-key.texts c.loop-key.key-index 0 c.in_ok-text.field-0 c.in-Some.text c.push.new.self
    c.loop-key-test.true c.loop-key.invariant c.in-Some.is c.in_ok-text.ensures c.in_ok-push.ensures.ok
