use Rattle.std.proofs.Common.{◌≡◌, ◌∙◌, sym, ap, map}
use Rattle.nc_message_read.specs.declared.marks.Marks.{Marks}
use Rattle.nc_message_read.specs.inner.Marks.{marked_bound, marks_of}
use Rattle.nc_message_read.proofs.Marking.{marks_below}
use Rattle.nc_message_read.proofs.marked.Marked.below.Goals as goal

pub returns : goal.returns
returns c = λ outer said beside all.
    let m = c.in_ok-marks.marks in
    let marked = c.args.self.now.bounds in
    let own = c.args.own.now in
    let e = c.in_ok-level.level in
    let is : marked ≡ marks_of m outer =
    beside ∙ ap (λ (x : Marks). marks_of x outer) (sym c.in_ok-marks.ensures) in
    let tags : e.own ≡ map (marked_bound m) own =
    c.in_ok-level.ensures.own ∙ ap (λ (x : Marks). map (marked_bound x) own) c.get.ensures in
    c.in_ok-below.ensures
    ∙ marks_below m outer marked said e own is all tags c.in_ok-level.ensures.undeclares
