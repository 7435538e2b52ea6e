use Rattle.std.proofs.Common.{◌≡◌, ◌++◌, false, Ok, subst}
use Rattle.std.specs.Prelude.{is_err}
use Rattle.nc_session.specs.Cores.{IsAt}
use Rattle.nc_session.specs.Serves.{Course}
use Rattle.nc_script.proofs.Made.{words_by}
use Rattle.nc_script.proofs.Talkings.{heard_dropped, heard_nothing, heard_on, heard_out, heard_part, live_fed, taken}
use Rattle.nc_script.specs.inner.Hearing.{Listens}
use Rattle.nc_script.specs.inner.Talking.{IsIn}
use Rattle.nc_script.proofs.talk.hear_in.Goals as goal

pub returns-then-is_err : goal.returns-then-is_err
returns-then-is_err g c = λ schema x is.
    heard_nothing schema c.args.piece.now c.args.at x c.args.machine.now c.in-Live.session c.in-Live.core c.args.text.now
    (subst (λ s. IsIn schema s c.args.text.now x) c.in-Live.is is)

pub returns-in-Ok-Some : goal.returns-in-Ok-Some
returns-in-Ok-Some g c = λ schema x is.
    let here = subst (λ s. IsIn schema s c.args.text.now x) c.in-Live.is is in
    let fed : Course = record x.course { bytes = x.course.bytes ++ c.args.piece.now } in
    let ok : is_err c.feed.result ≡ false = cc in
    let at = taken (λ it. IsAt c.feed.new.self x.course.base it x.course.requests) x.course.bytes c.args.piece.now c.feed.result ok
    (c.feed.ensures x.course.base x.course.bytes x.course.requests here.2.at) in
    let live = live_fed c.args.piece.now x schema c.in-Live.session c.in-Live.core c.feed.new.self c.args.text.now
    here at in
    heard_out schema c.args.piece.now c.args.at x c.args.machine.now c.listen.new.machine c.args.tally.now c.listen.new.tally
    c.in-Live.session c.in-Live.core c.listen.new.core c.args.text.now c.listen.new.text c.in-Ok-Some.end here
    (subst (λ e. Listens (words_by g.K.Keeper) schema c.in-Live.session c.args.at fed c.args.machine.now
    c.listen.new.machine c.listen.new.core
    c.listen.new.text c.args.tally.now c.listen.new.tally (Ok e)) c.in-Ok-Some.field-0-is (c.in-Ok-Some.ensures schema fed live))

pub returns-in-Ok-None : goal.returns-in-Ok-None
returns-in-Ok-None g c = λ schema x is.
    let here = subst (λ s. IsIn schema s c.args.text.now x) c.in-Live.is is in
    let fed : Course = record x.course { bytes = x.course.bytes ++ c.args.piece.now } in
    let ok : is_err c.feed.result ≡ false = cc in
    let at = taken (λ it. IsAt c.feed.new.self x.course.base it x.course.requests) x.course.bytes c.args.piece.now c.feed.result ok
    (c.feed.ensures x.course.base x.course.bytes x.course.requests here.2.at) in
    let live = live_fed c.args.piece.now x schema c.in-Live.session c.in-Live.core c.feed.new.self c.args.text.now
    here at in
    heard_on schema c.args.piece.now c.args.at x c.args.machine.now c.listen.new.machine c.args.tally.now c.listen.new.tally
    c.in-Live.session c.in-Live.core c.listen.new.core c.args.text.now c.listen.new.text here
    (subst (λ e. Listens (words_by g.K.Keeper) schema c.in-Live.session c.args.at fed c.args.machine.now
    c.listen.new.machine c.listen.new.core
    c.listen.new.text c.args.tally.now c.listen.new.tally (Ok e)) c.in-Ok-None.field-0-is (c.in-Ok-None.ensures schema fed live))

pub returns-in-Err : goal.returns-in-Err
returns-in-Err g c = λ schema x is.
    let here = subst (λ s. IsIn schema s c.args.text.now x) c.in-Live.is is in
    let fed : Course = record x.course { bytes = x.course.bytes ++ c.args.piece.now } in
    let ok : is_err c.feed.result ≡ false = cc in
    let at = taken (λ it. IsAt c.feed.new.self x.course.base it x.course.requests) x.course.bytes c.args.piece.now c.feed.result ok
    (c.feed.ensures x.course.base x.course.bytes x.course.requests here.2.at) in
    let live = live_fed c.args.piece.now x schema c.in-Live.session c.in-Live.core c.feed.new.self c.args.text.now
    here at in
    heard_part schema c.args.piece.now c.args.at x c.args.machine.now c.listen.new.machine c.args.tally.now c.listen.new.tally
    c.in-Live.session c.in-Live.core c.args.text.now c.in-Err.fault here (c.in-Err.ensures schema fed live)

pub returns-in-Over : goal.returns-in-Over
returns-in-Over g c = λ schema x is.
    heard_dropped schema c.args.piece.now c.args.at x c.args.machine.now c.args.tally.now c.args.text.now c.in-Over.end
    (subst (λ s. IsIn schema s c.args.text.now x) c.in-Over.is is)
