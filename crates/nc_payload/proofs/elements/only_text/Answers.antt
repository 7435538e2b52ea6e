use Rattle.std.proofs.Common.{◌∙◌, sym}
use Rattle.nc_payload.proofs.ContentLemmas.{only_text_is}
use Rattle.nc_payload.proofs.elements.only_text.Goals as goal

pub returns-in-Chars : goal.returns-in-Chars
returns-in-Chars c =
    only_text_is c.args.parts.now c.in-Some.first.now _ c.in-Chars.text (sym c.len.ensures ∙ c.if-len-ne1.false) (sym c.as_slice.ensures ∙ c.in-Some.ensures.cases.0) c.in-Chars.is
