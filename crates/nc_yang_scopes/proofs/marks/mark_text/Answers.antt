use Rattle.std.proofs.Common.{subst}
use Rattle.nc_yang_scopes.specs.inner.Links.{Marks}
use Rattle.nc_yang_scopes.proofs.Marking.{marks_more}
use Rattle.nc_yang_scopes.proofs.marks.mark_text.Goals as goal

pub returns : goal.returns
returns c =
    let marks = subst (λ keyword. Marks c.args.scopes.now keyword c.in_ok-numbers.numbers c.args.marks.now c.mark_all.new.marks) c.defining.ensures
    (subst (λ numbers. Marks c.args.scopes.now c.defining.result numbers c.args.marks.now c.mark_all.new.marks) c.as_slice.ensures c.mark_all.ensures) in
    marks_more c.args.scopes.now c.args.sort c.args.text c.in-Some.root c.in_ok-numbers.numbers c.args.marks.now c.mark_all.new.marks
    c.requires.within c.in-Some.ensures c.in_ok-numbers.ensures marks c.requires.marks
