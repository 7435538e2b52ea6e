use Rattle.std.proofs.Common.{◌≡◌, ◌-◌, length}
use Rattle.std.specs.Io.KnownBytes.{prepend_known}
use Rattle.nc_peer.specs.Faults.{counts}
use Rattle.nc_peer.specs.inner.Underway.{IsUnderway}
use Rattle.nc_peer.proofs.reading.read_names.Given as goal

abbrev pub invariant-loop-line : goal.invariant-loop-line
invariant-loop-line g l = record {
  taken : g.S.Source.left l.fn.source ≡ prepend_known l.line.bytes (g.S.Source.left l.source);
  line : IsUnderway l.line.bytes l.line.names l.line.word;
  same : counts (g.S.Source.ends l.source) (g.S.Source.faults l.source)
      ≡ counts (g.S.Source.ends l.fn.source) (g.S.Source.faults l.fn.source);
}

abbrev pub decreases-loop-line : goal.decreases-loop-line
decreases-loop-line g l = 1025 - length l.line.bytes
