use Rattle.std.proofs.Common.{◌%◌, ◌∙◌, get_or}
use Rattle.nc_nacm.proofs.Linking.{one_before}
use Rattle.nc_nacm.proofs.chains.link.Goals as goal

pub returns-clause-linked : goal.returns-clause-linked
returns-clause-linked c =
    one_before c.args.chains.marks c.args.chains.heads c.args.chains.nexts c.set-2.new.self c.set.new.self c.args.from c.bucket_of-bucket.result c.number_at-next.result
    c.requires.some c.requires.within
    (c.bucket_of-bucket.ensures ∙ (λ i. c.mark_at-mark.ensures i % c.len.ensures i))
    c.number_at-next.ensures c.set-2.ensures c.set.ensures c.requires.linked
