use Rattle.std.proofs.Common.{◌≡◌, ◌∙◌, Option, ap, subst}
use Rattle.std.specs.Prelude.{IfOk}
use Rattle.nc_protocol.specs.Payload.{reading_of}
use Rattle.nc_protocol.specs.declared.request.Cause.{Cause}
use Rattle.nc_payload.specs.declared.content.Content.{Content}
use Rattle.nc_payload.specs.inner.Reads.{element_by, meaning}
use Rattle.nc_payload.proofs.ContentLemmas.{element_is}
use Rattle.nc_payload.proofs.faults.element_fault.Goals as goal

pub returns : goal.returns
returns c =
    let reading = reading_of c.args.schema.now in
    let at = c.args.at.now in
    let earlier = c.args.earlier.now in
    let named = meaning c.args.named in
    subst (λ (fault : Option Cause). IfOk c.fault_by.result (λ it. it ≡ fault))
    (ap (λ (content : Content). element_by reading at earlier content named) c.requires ∙ element_is reading at earlier named)
    c.fault_by.ensures
