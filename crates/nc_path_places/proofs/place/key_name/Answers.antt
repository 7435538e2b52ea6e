-- The name of a key.
use Rattle.std.proofs.Common.{◌≡◌, length, ◌-◌, ap, sym, ◌∙◌, arith}
use Rattle.nc_names.specs.Ends.{after_white}
use Rattle.nc_path_places.specs.inner.Candidates.{farthest, key_first}
use Rattle.nc_path_places.specs.inner.Counted.{reading_of}
use Rattle.nc_path_places.specs.inner.Going.{KeyNames, without}
use Rattle.nc_path_places.proofs.HereLemmas.{halts_left, reads_none, reads_some}
use Rattle.nc_path_places.proofs.PlaceLemmas.{key_halts, key_read}
use Rattle.nc_path_places.proofs.place.key_name.Goals as goal

pub returns-in-Some-clause-ok : goal.returns-in-Some-clause-ok
returns-in-Some-clause-ok c =
    let s = reading_of c.args.names.now in
    let left = c.args.left.now in
    key_read s c.args.number left c.requires.given c.args.text.now c.in-Some.found.0 c.in-Some.found.1.now
    (ap (key_first s c.args.number left) (sym c.after_white-inside.ensures) ∙
    reads_some c.in_ok-found.field-0 c.in-Some.found (key_first s c.args.number left c.after_white-inside.result.now) c.in-Some.is c.in_ok-found.ensures)

pub returns-clause-here : goal.returns-clause-here
returns-clause-here c =
    let s = reading_of c.args.names.now in
    let left = c.args.left.now in
    let inside = after_white c.args.text.now in
    let far : c.farthest-far.result ≡ farthest s inside (without c.args.number left) =
    c.farthest-far.ensures ∙ (λ i. farthest s ((c.as_bytes.ensures.value ∙ c.after_white-inside.ensures) i) ((c.as_slice.ensures ∙ c.in_ok-others.ensures) i)) in
    let long : length c.after_white-inside.result.now ≡ length inside = ap length c.after_white-inside.ensures in
    halts_left (KeyNames s c.args.number left) c.args.text.now (length inside - farthest s inside (without c.args.number left)) c.saturating_sub.result (omega (arith, far, long))
    (key_halts s c.args.number left c.requires.given c.args.text.now c.requires.some
    (ap (key_first s c.args.number left) (sym c.after_white-inside.ensures) ∙
    reads_none c.in_ok-found.field-0 (key_first s c.args.number left c.after_white-inside.result.now) c.in_default.is c.in_ok-found.ensures))
