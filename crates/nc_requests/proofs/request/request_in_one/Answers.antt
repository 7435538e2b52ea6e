use Rattle.std.proofs.Common.{◌≡◌, List, IfOk, subst, sym}
use Rattle.nc_message.specs.declared.tree.Elem.{Elem}
use Rattle.nc_protocol.specs.Decoded as decoded
use Rattle.nc_requests.proofs.ContentLemmas.{one_alone}
use Rattle.nc_requests.proofs.request.request_in_one.Goals as goal

pub returns : goal.returns
returns c =
    subst (λ (xs : List Elem). IfOk c.request_by.result (λ it. it ≡ decoded.request_in c.args.attributes xs))
    (sym (one_alone c.args.elems c.pop.new.self c.in-Some.elem c.requires c.in-Some.ensures)) c.request_by.ensures
