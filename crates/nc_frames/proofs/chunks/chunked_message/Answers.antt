use Rattle.std.proofs.Common.{refl}
use Rattle.std.proofs.lemmas.Result.{err_from_is_err_and}
use Rattle.nc_frames.specs.Replies.{Unread}
use Rattle.nc_frames.proofs.ReplyLemmas.{IsReadTo-advances, IsReadTo-all, Gives-ended, IsBad-stopped, AnnouncesTooMuch-stopped}
use Rattle.nc_frames.proofs.chunks.chunked_message.Goals as goal

pub returns-in_err-read_both : goal.returns-in_err-read_both
unfolding Unread
returns-in_err-read_both c = λ first bytes r.
    let p = err_from_is_err_and c.from_residual.result c.from_residual.ensures.1 in
    rw (p.1, p.2) (IsReadTo-advances c.args.reader.now c.read_both.new.self _ _ first bytes c.in_err-read_both.ensures.err r)

pub returns-in-None : goal.returns-in-None
unfolding Unread
returns-in-None c = λ first bytes r.
    let now = IsReadTo-advances c.args.reader.now c.read_both.new.self _ _ first bytes (rw c.in-None.is at c.in_ok-read_both.ensures.read) r in
    (now, IsReadTo-all c.read_both.new.self _ first bytes (rw c.in-None.is at c.in_ok-read_both.ensures.all refl) now)

pub returns-in-Some-End : goal.returns-in-Some-End
returns-in-Some-End c = λ first bytes r.
    let ended = rw (c.in-Some-End.is, c.in-Some-End.field-0-is) at c.in_ok-read_both.ensures.read in
    rw (c.replace.ensures.after, c.new.ensures) (Gives-ended c.args.reader.now c.read_both.new.self _ _ first bytes c.replace.result ended r c.replace.ensures.value)

pub returns-in-Some-Bad : goal.returns-in-Some-Bad
returns-in-Some-Bad c = λ first bytes r.
    IsBad-stopped c.args.reader.now c.read_both.new.self _ _ first bytes (rw (c.in-Some-Bad.is, c.in-Some-Bad.field-0-is) at c.in_ok-read_both.ensures.read) r

pub returns-in-Some-TooBig : goal.returns-in-Some-TooBig
returns-in-Some-TooBig c = λ first bytes r.
    AnnouncesTooMuch-stopped c.args.reader.now c.read_both.new.self _ _ first bytes (rw (c.in-Some-TooBig.is, c.in-Some-TooBig.field-0-is) at c.in_ok-read_both.ensures.read) r
