use Rattle.std.specs.Prelude.{string_bytes}
use Rattle.netconf_relay.proofs.Lines.{written}
use Rattle.netconf_relay.proofs.line.write_line.Goals as goal

pub returns : goal.returns
returns c =
    written string_bytes c.in-Some.first.now c.in-Some.others.now c.args.names.now c.args.out.now c.push_slice.new.self
    c.write_others.new.out c.push.new.self c.as_bytes.result.now c.in-Some.ensures.cases.0 c.as_bytes.ensures.value
    c.in_ok-push_slice.ensures.ok c.in_ok-write_others.ensures c.in_ok-push.ensures.ok
