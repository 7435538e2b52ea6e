use Rattle.std.proofs.Common.{sym, ap, subst, ◌∙◌, length}
use Rattle.std.proofs.lemmas.Bool.Decides.{Decides-eqb}
use Rattle.std.proofs.lemmas.List.{nil_from_length}
use Rattle.nc_schema.specs.Standing.{cases_of}
use Rattle.nc_schema.specs.Tables.{Tables}
use Rattle.nc_branches.specs.inner.Free.{AreFree}
use Rattle.nc_branches.proofs.FreeRows.{free_at, free_plain}
use Rattle.nc_branches.proofs.tree.Tree.is_free.Goals as goal

pub returns-then-is_empty : goal.returns-then-is_empty
returns-then-is_empty c = λ seen.
    free_plain c.args.aim.now c.args.depth c.args.self.now.rows c.in-Some.asked.now (sym c.in-Some.ensures.step)
    (ap (λ (t : Tables). cases_of t c.in-Some.asked.now.node) (sym c.schema.ensures) ∙ sym c.cases_of.ensures
    ∙ nil_from_length c.cases_of.result.now ((Decides-eqb (length c.cases_of.result.now) 0).0 (sym c.is_empty.ensures ∙ c.if-is_empty.true)))

pub returns : goal.returns
returns c = λ seen.
    free_at c.args.aim.now c.args.depth c.args.self.now.rows c.in-Some.asked.now (sym c.in-Some.ensures.step)
    (λ within. subst (λ (t : Tables). AreFree t c.args.depth c.in-Some.asked.now c.args.self.now.rows) c.schema-2.ensures (c.are_free.ensures seen within))
