use Rattle.std.proofs.Common.{◌∙◌, sym, refl}
use Rattle.nc_frames.proofs.MarkLemmas.{EndsInMark-stretch, HasNoMark-stretch}
use Rattle.nc_frames.proofs.marks.read_to_mark.Goals as goal

pub returns-then-ends_in_mark-clause-searched : goal.returns-then-ends_in_mark-clause-searched
returns-then-ends_in_mark-clause-searched c =
    let ends = c.if-ends_in_mark.ensures.yes refl in
    EndsInMark-stretch c.loop-message.message c.read_stretch.new.message ends.0 c.loop-message.invariant.unmarked c.in_ok-read_stretch.ensures.read.0 (sym c.as_slice.ensures ∙ ends.1)

pub loop-message-preserved : goal.loop-message-preserved
loop-message-preserved c = record {
  unmarked = HasNoMark-stretch c.loop-message.message c.read_stretch.new.message c.loop-message.invariant.unmarked c.in_ok-read_stretch.ensures.read.0 (λ before e. c.if-ends_in_mark.ensures.no refl before (c.as_slice.ensures ∙ e));
  within = c.read_stretch.ensures.bound;
  joined = c.read_stretch.ensures.joined ∙ c.loop-message.invariant.joined;
}
