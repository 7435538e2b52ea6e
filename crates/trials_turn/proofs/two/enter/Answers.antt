use Rattle.std.proofs.Common.{rules, arith, ◌≡◌, ◌≤◌, ◌++◌, ◌∷◌, [], ℕ, List, length, refl, sym, ap, ◌∙◌, subst}
use Rattle.std.specs.List.{All}
use Rattle.nc_model.specs.declared.entry.Entry.{Entry}
use Rattle.nc_model.specs.declared.event.Event.TheVariants.{End}
use Rattle.nc_model.specs.History.{after}
use Rattle.nc_model.specs.State.{State}
use Rattle.trials_turn.specs.Counting.{counter_home, Counts}
use Rattle.trials_turn.proofs.OneMore.{one_more, counted_fits, counts_more, work_more}
use Rattle.trials_turn.proofs.two.enter.Goals as goal

pub write-requires-clause-legal : goal.write-requires-clause-legal
write-requires-clause-legal g c =
    let took = c.in-Ok.ensures.taken in
    let h = c.take.new.pass.me.0.seen in
    let made = c.enter-entry.ensures.entry in
    one_more counter_home.opening h c.enter-entry.result c.in-Ok.ensures.of.legal (made.number_is ∙ took.fits.count) (counted_fits c.args.session _ h c.enter-entry.result made took.fits.state)

pub put_back-requires-clause-value : goal.put_back-requires-clause-value
put_back-requires-clause-value g c =
    let took = c.in-Ok.ensures.taken in
    let more = counts_more c.args.session c.in-Ok.counter c.enter-entry.new.self c.take.new.pass.me.0.seen c.enter-entry.result c.enter-entry.ensures.entry took.fits c.enter-entry.ensures.counter in
    (subst (Counts c.enter-entry.new.self) (sym (ap (λ u. u.seen) c.write.ensures.written)) more, refl)

pub returns-clause-session : goal.returns-clause-session
returns-clause-session g c =
    let took = c.in-Ok.ensures.taken in
    let old = c.args.pass.now.me.0.mine in
    let e = c.enter-entry.result in
    let more = work_more c.args.session old e c.enter-entry.ensures.entry.event_is c.requires.1 in
    let now : c.put_back.new.pass.me.0.mine ≡ old ++ e ∷ [] =
    ap (λ u. u.mine) c.put_back.ensures.given ∙ (ap (λ u. u.mine) c.write.ensures.written ∙ (λ i. took.same.mine i ++ more.0 i)) in
    subst (λ (h : List Entry). All (λ (x : Entry). x.event ≡ End c.args.session) h) (sym now) more.1
