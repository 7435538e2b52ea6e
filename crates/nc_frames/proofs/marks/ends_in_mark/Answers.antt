use Rattle.std.proofs.Common.{◌-◌, length, take}
use Rattle.std.proofs.lemmas.Slice.Eq.{ends_is}
use Rattle.std.proofs.lemmas.Bool.Decides.{Decides-eqb}
use Rattle.nc_frames.specs.Framing.{mark}
use Rattle.nc_frames.proofs.marks.ends_in_mark.Goals as goal

pub returns-clause-yes : goal.returns-clause-yes
returns-clause-yes c = λ yes.
    let bytes = c.args.bytes.now in
    (take (length bytes - 6) bytes, (ends_is Decides-eqb bytes mark _ c.ends_with.ensures.value).0 yes)
