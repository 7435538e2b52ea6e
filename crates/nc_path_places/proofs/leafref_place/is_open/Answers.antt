-- Names lead down from here, or the path goes on from the node above.
use Rattle.std.proofs.Common.{◌≡◌, ◌∙◌, None, Some, true, false, sym, ap, subst}
use Rattle.nc_schema.specs.InstancePaths.{parent_of}
use Rattle.nc_path_places.specs.inner.Counted.{reading_of}
use Rattle.nc_path_places.specs.inner.LeafrefNames.{goes_down}
use Rattle.nc_path_places.specs.inner.Leafrefs.{IsOpen}
use Rattle.nc_path_places.proofs.LeafrefPlaces.{open_back, open_down, open_top, open_up}
use Rattle.nc_path_places.proofs.leafref_place.is_open.Goals as goal

pub returns-then-goes_down-clause-yes : goal.returns-then-goes_down-clause-yes
returns-then-goes_down-clause-yes c e =
    let ways = c.args.ways.now in
    let s = reading_of ways.names in
    let number = c.in-Some.number in
    let goes : goes_down ways.marks (Some number) ≡ true = sym (c.goes_down.ensures ∙ ap (λ m. goes_down m (Some number)) c.as_slice.ensures) ∙ c.if-goes_down.true in
    c.loop-here.invariant.up (subst (IsOpen s ways.own.now) (sym c.in-Some.is) (open_down s ways.own.now ways.marks c.requires.marks (Some number) goes))

pub loop-here-preserved : goal.loop-here-preserved
loop-here-preserved c =
    let ways = c.args.ways.now in
    let s = reading_of ways.names in
    let number = c.in-Some.number in
    let here : c.loop-here.here ≡ Some number = c.in-Some.is in
    let over : c.parent_of-here.result ≡ parent_of s.tables number = c.parent_of-here.ensures in
    let none : goes_down ways.marks (Some number) ≡ false = sym (c.goes_down.ensures ∙ ap (λ m. goes_down m (Some number)) c.as_slice.ensures) ∙ c.if-goes_down.false in
    record {
      up = λ goes. c.loop-here.invariant.up (subst (IsOpen s ways.own.now) (sym here)
          (open_up s ways.own.now ways.marks c.requires.marks number (subst (IsOpen s ways.own.now) over goes)));
      back = λ goes. subst (IsOpen s ways.own.now) (sym over)
          (open_back s ways.own.now ways.marks c.requires.marks number none (subst (IsOpen s ways.own.now) here (c.loop-here.invariant.back goes)));
    }

pub returns-clause-yes : goal.returns-clause-yes
returns-clause-yes c e =
    let ways = c.args.ways.now in
    let s = reading_of ways.names in
    let goes : goes_down ways.marks None ≡ true = sym (c.goes_down-2.ensures ∙ ap (λ m. goes_down m None) c.as_slice-2.ensures) ∙ e in
    c.loop-here.invariant.up (subst (IsOpen s ways.own.now) (sym c.in_default.is) (open_down s ways.own.now ways.marks c.requires.marks None goes))

pub returns-clause-no : goal.returns-clause-no
returns-clause-no c e goes =
    let ways = c.args.ways.now in
    let s = reading_of ways.names in
    let none : goes_down ways.marks None ≡ false = sym (c.goes_down-2.ensures ∙ ap (λ m. goes_down m None) c.as_slice-2.ensures) ∙ e in
    open_top s ways.own.now ways.marks c.requires.marks none (subst (IsOpen s ways.own.now) c.in_default.is (c.loop-here.invariant.back goes))
