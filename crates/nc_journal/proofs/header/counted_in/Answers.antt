use Rattle.std.proofs.Common.{◌≡◌, ◌+◌, ◌≤◌, length, take, drop, ◌∙◌, ap, arith}
use Rattle.nc_journal.specs.Header.{short_number}
use Rattle.nc_journal.proofs.Segments.{at_front}
use Rattle.nc_journal.proofs.Headers.{counted_within, length-counted, short_numbers_at}
use Rattle.nc_journal.proofs.header.counted_in.Goals as goal

pub short_number_of-count-requires : goal.short_number_of-count-requires
short_number_of-count-requires c = omega (arith, counted_within c.args.from c.requires.0 c.args.bytes.now c.requires.2)

pub part-requires : goal.part-requires
part-requires c =
    let text = c.requires.0 in
    let same : c.short_number_of-count.result ≡ length text =
    short_numbers_at c.args.from c.short_number_of-count.result (length text) c.args.bytes.now (omega arith) c.requires.1
    c.short_number_of-count.ensures (at_front c.args.from (short_number (length text)) text c.args.bytes.now c.requires.2) in
    omega (arith, same, counted_within c.args.from text c.args.bytes.now c.requires.2)

pub returns : goal.returns
returns c = λ text small stands.
    let same : c.short_number_of-count.result ≡ length text =
    short_numbers_at c.args.from c.short_number_of-count.result (length text) c.args.bytes.now (omega arith) small
    c.short_number_of-count.ensures (at_front c.args.from (short_number (length text)) text c.args.bytes.now stands) in
    c.part.ensures
    ∙ ap (λ k. take k (drop c.args.from c.args.bytes.now)) (omega (arith, same, length-counted text)) ∙ stands.is
