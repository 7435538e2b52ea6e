use Rattle.std.proofs.Common.{◌≡◌, ◌+◌, take, drop, length, sym, ◌∙◌, ap, arith}
use Rattle.nc_journal.proofs.Headers.{length-short_number}
use Rattle.nc_journal.proofs.header.short_number_of.Goals as goal

pub returns : goal.returns
returns c =
    let four = c.short_number_in.ensures ∙ c.copy_from_slice.ensures.after ∙ c.part.ensures in
    record {
      is = ap (λ k. take k (drop c.args.from c.args.bytes.now)) (length-short_number c.short_number_in.result) ∙ sym four;
    }
