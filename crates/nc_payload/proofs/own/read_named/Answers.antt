use Rattle.std.proofs.Common.{rules}
use Rattle.nc_protocol.specs.Payload.{reading_of}
use Rattle.nc_payload.specs.inner.Reads.{meaning}
use Rattle.nc_payload.proofs.ContentLemmas.{within_is}
use Rattle.nc_payload.proofs.own.read_named.Goals as goal

pub returns : goal.returns
returns c = record {
  content = c.in_ok-content.ensures;
  within = within_is (reading_of c.args.schema.now) c.args.at.now (meaning c.args.named) c.in_ok-content.content c.in_ok-within.within c.in_ok-content.ensures c.in_ok-within.ensures;
  operation = search rules;
  place = search rules;
}
