use Rattle.std.proofs.Common.{◌∙◌, sym, ap, subst}
use Rattle.std.specs.Prelude.{Some}
use Rattle.std.specs.Option.{option_copied}
use Rattle.nc_yang_leafs.specs.inner.Walks.{IsMarkedAmong, Queues}
use Rattle.nc_yang_leafs.proofs.WalkLemmas.{looks_gone, looks_members, looks_path, looks_plain}
use Rattle.nc_yang_leafs.proofs.walk.Walk.look.Goals as goal

pub returns-in_default : goal.returns-in_default
returns-in_default c = looks_gone c.args.meanings.now c.args.marks.now c.args.plan c.args.self.now (sym c.get.ensures.value ∙ ap option_copied c.in_default.is)

pub returns-in-Finished : goal.returns-in-Finished
returns-in-Finished c =
    looks_plain c.args.meanings.now c.args.marks.now c.args.plan c.args.self.now c.in-Some.planned.now (sym c.get.ensures.value ∙ ap option_copied c.in-Some.is) c.in-Finished.is

pub returns-in-Finished-2 : goal.returns-in-Finished-2
returns-in-Finished-2 c =
    looks_plain c.args.meanings.now c.args.marks.now c.args.plan c.args.self.now c.in-Some.planned.now (sym c.get.ensures.value ∙ ap option_copied c.in-Some.is) c.in-Finished.is

pub returns-in_ok-push-in-Leafref : goal.returns-in_ok-push-in-Leafref
returns-in_ok-push-in-Leafref c =
    looks_path c.args.meanings.now c.args.marks.now c.args.plan c.args.self.now _ _ _ (sym c.get.ensures.value ∙ ap option_copied c.in-Some.is ∙ ap Some c.in-Leafref.is)
    c.in_ok-push-in-Leafref.ensures.ok

pub returns-in_ok-with_members-in-Members : goal.returns-in_ok-with_members-in-Members
returns-in_ok-with_members-in-Members c =
    looks_members c.args.meanings.now c.args.marks.now c.args.plan c.args.self.now c.with_members.new.self _
    (sym c.get.ensures.value ∙ ap option_copied c.in-Some.is ∙ ap Some c.in-Members.is)
    (subst (λ z. Queues (IsMarkedAmong c.args.meanings.now.findings c.args.marks.now z) c.args.self.now c.with_members.new.self) c.as_slice.ensures
    c.in_ok-with_members-in-Members.ensures)
