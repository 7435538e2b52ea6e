use Rattle.std.proofs.Common.{◌≡◌, ◌<◌, true, false, eqb, drop, length, arith}
use Rattle.std.specs.List.{starts_with}
use Rattle.nc_message_read.proofs.UpTo.{none_more, mark_at}
use Rattle.nc_message_read.proofs.reader.count_before.Goals as goal

pub returns-then-starts_with : goal.returns-then-starts_with
returns-then-starts_with c =
    let less : c.loop-place.place < length c.args.bytes.now = omega arith in
    let found : starts_with eqb (drop c.loop-place.place c.args.bytes.now) c.args.mark.now ≡ true = cc (c.tail.ensures, c.if-starts_with.ensures.value) in
    (omega arith, mark_at c.args.mark.now c.args.bytes.now c.loop-place.place less found c.loop-place.invariant, found)

pub loop-place-preserved : goal.loop-place-preserved
loop-place-preserved c =
    let less : c.loop-place.place < length c.args.bytes.now = omega arith in
    let none : starts_with eqb (drop c.loop-place.place c.args.bytes.now) c.args.mark.now ≡ false = cc (c.tail.ensures, c.if-starts_with.ensures.value) in
    none_more c.args.mark.now c.args.bytes.now c.loop-place.place less none c.loop-place.invariant
