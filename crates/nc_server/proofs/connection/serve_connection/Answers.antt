use Rattle.std.proofs.Common.{ap, refl}
use Rattle.nc_outside.specs.Streams.{streams}
use Rattle.nc_peer.specs.Faults.{Counts}
use Rattle.nc_server.proofs.connection.serve_connection.Goals as goal

pub returns-clause-served : goal.returns-clause-served
returns-clause-served g c =
    let source = c.read_peer.new.source in
    let sink = c.args.sink.now in
    let peer = c.in_ok-peer in record {
      peer = peer.peer;
      between = streams (g.S.Source.left source) (g.S.Source.ends source) (g.S.Source.faults source) (g.K.Sink.taken sink)
          (g.K.Sink.faults sink);
      names = record {
        bytes = peer.ensures.bytes;
        read = peer.ensures.taken;
        line = peer.ensures.reads.0;
        plain = peer.ensures.reads.1;
        taken = refl;
        same = record {
          ends = ap (λ (c : Counts). c.ends) peer.ensures.reads.2;
          reads = ap (λ (c : Counts). c.faults) peer.ensures.reads.2;
          writes = refl;
        };
      };
      serves = c.serve_peer.ensures.serves;
    }
