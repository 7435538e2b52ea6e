use Rattle.std.proofs.Common.{◌++◌, ◌∙◌, ap, arith, List, map, rules, All}
use Rattle.std.specs.Prelude.{string_bytes}
use Rattle.nc_peer.specs.Lines.{IsName, line_of}
use Rattle.netconf_relay.proofs.Lines.{named}
use Rattle.netconf_relay.proofs.line.peer_line.Goals as goal

pub returns : goal.returns
returns c =
    let all : All (λ name. IsName (string_bytes name)) c.args.names.now = search rules in
    named string_bytes c.args.names.now c.write_line.new.out all
    (c.in_ok-write_line.ensures ∙ ap (λ (x : List _). x ++ line_of (map string_bytes c.args.names.now)) c.new-out.ensures)
    (omega (arith, c.if-len.false, c.len.ensures))
