use Rattle.std.proofs.Common.{length, sym, subst, arith}
use Rattle.nc_script.proofs.Boardings.{closed_none, closed_over, open_at, place_within}
use Rattle.nc_script.proofs.Steppings.{no_talk}
use Rattle.nc_script.specs.inner.Boards.{IsPlace, numbers}
use Rattle.nc_script.specs.inner.Talking.{Stands}
use Rattle.nc_script.proofs.talks.open_place.Goals as goal

pub returns-in_default-clause-finds : goal.returns-in_default-clause-finds
returns-in_default-clause-finds c = λ schema board stand.
    closed_none c.args.number (length c.args.talks.now.talks.items) board.connections
    (subst (λ o. IsPlace (numbers board.connections) c.args.number o) (sym c.in_default.ensures) (stand.places c.args.number))

pub returns-then-place-len-clause-finds : goal.returns-then-place-len-clause-finds
returns-then-place-len-clause-finds c = λ schema board stand.
    let at = subst (λ o. IsPlace (numbers board.connections) c.args.number o) (sym c.in-Some.ensures) (stand.places c.args.number) in
    let within = place_within (Stands schema) (λ t. t.is_over) (λ t x s. s.over_is) c.args.talks.now.talks.items board.connections
    stand.each c.args.number c.in-Some.place at in
    absurd (omega (arith, within, c.if-place-len.true, c.len.ensures))

pub returns-then-is_over-clause-finds : goal.returns-then-is_over-clause-finds
returns-then-is_over-clause-finds c = λ schema board stand.
    let at = subst (λ o. IsPlace (numbers board.connections) c.args.number o) (sym c.in-Some.ensures) (stand.places c.args.number) in
    closed_over (Stands schema) (λ t. t.is_over) (λ t x s. s.over_is) c.args.talks.now.talks.items board.connections stand.each
    c.args.number c.in-Some.place at no_talk (sym (c.if-is_over.ensures no_talk))

pub returns-clause-finds : goal.returns-clause-finds
returns-clause-finds c = λ schema board stand.
    let at = subst (λ o. IsPlace (numbers board.connections) c.args.number o) (sym c.in-Some.ensures) (stand.places c.args.number) in (
      open_at (Stands schema) (λ t. t.is_over) (λ t x s. s.over_is) c.args.talks.now.talks.items board.connections stand.each
          c.args.number c.in-Some.place at no_talk (sym (c.if-is_over.ensures no_talk)),
      place_within (Stands schema) (λ t. t.is_over) (λ t x s. s.over_is) c.args.talks.now.talks.items board.connections stand.each
          c.args.number c.in-Some.place at,
    )
