use Rattle.std.proofs.Common.{◌∙◌, refl}
use Rattle.std.specs.BTreeMap.{insert_entry}
use Rattle.nc_payload.specs.declared.gather.Gathered.{Gathered}
use Rattle.nc_payload.specs.inner.Marks.{in_marks}
use Rattle.nc_payload.proofs.NotedLemmas.{row_noted}
use Rattle.nc_payload.proofs.gather.Gathered.put_row.Goals as goal

pub returns : goal.returns
returns c =
    let noted = c.args.self.now in
    let after : Gathered = record { base = noted.base; rows = c.insert.new.self; seen = noted.seen; next = c.in-Some.next } in
    λ taken before is. row_noted c.args.plan.now.schema.now c.args.plan.now.turns before noted after c.args.row.now c.args.number is
    refl refl
    (c.in_ok-insert.ensures.entries ∙ (λ i. insert_entry in_marks noted.rows.entries (c.in_ok-marks_of.ensures i) (c.in_ok-copy.ensures i)))
    c.in_ok-insert.ensures.ordered
    c.in-Some.ensures
