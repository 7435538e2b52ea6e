-- A step begins with its sign and the name of a child.
use Rattle.std.proofs.Common.{◌≡◌, length, ◌-◌, ◌∙◌, arith}
use Rattle.nc_path_places.specs.inner.Candidates.{child_first, ends_at, farthest}
use Rattle.nc_path_places.specs.inner.Counted.{reading_of}
use Rattle.nc_path_places.specs.inner.Going.{Steps}
use Rattle.nc_path_places.proofs.HereLemmas.{empty_is, halts_left, reads_none, reads_some, some_is}
use Rattle.nc_path_places.proofs.PlaceLemmas.{far_name_halts, no_child_halts, no_slash_halts, step_name_read}
use Rattle.nc_path_places.proofs.place.step_name.Goals as goal

pub returns-in_default-clause-here : goal.returns-in_default-clause-here
returns-in_default-clause-here c = no_slash_halts (reading_of c.args.names.now) c.args.above c.args.text.now c.in_default.ensures

pub returns-in-Some-2-clause-ok : goal.returns-in-Some-2-clause-ok
returns-in-Some-2-clause-ok c =
    let s = reading_of c.args.names.now in
    let rest = c.in-Some.rest.now in
    step_name_read s c.args.above c.args.text.now rest c.in-Some-2.found.0 c.in-Some-2.found.1.now c.in-Some.ensures
    (reads_some c.in_ok-found.field-0 c.in-Some-2.found (child_first s c.args.above rest) c.in-Some-2.is c.in_ok-found.ensures)

pub returns-then-is_empty-clause-here : goal.returns-then-is_empty-clause-here
returns-then-is_empty-clause-here c =
    let s = reading_of c.args.names.now in
    no_child_halts s c.args.above c.args.text.now (empty_is c.is_empty.result c.in_ok-among.among (ends_at s c.args.above) c.is_empty.ensures c.in_ok-among.ensures c.if-is_empty.true)

pub returns-clause-here : goal.returns-clause-here
returns-clause-here c =
    let s = reading_of c.args.names.now in
    let rest = c.in-Some.rest.now in
    let far : c.farthest-far.result ≡ farthest s rest (ends_at s c.args.above) =
    c.farthest-far.ensures ∙ (λ i. farthest s (c.as_bytes.ensures.value i) ((c.as_slice.ensures ∙ c.in_ok-among.ensures) i)) in
    halts_left (Steps s c.args.above) c.args.text.now (length rest - farthest s rest (ends_at s c.args.above)) c.saturating_sub.result (omega (arith, far))
    (far_name_halts s c.args.above c.args.text.now rest c.in-Some.ensures
    (reads_none c.in_ok-found.field-0 (child_first s c.args.above rest) c.in_default-2.is c.in_ok-found.ensures)
    (some_is c.is_empty.result c.in_ok-among.among (ends_at s c.args.above) c.is_empty.ensures c.in_ok-among.ensures c.if-is_empty.false))
