use Rattle.std.proofs.Common.{◌≡◌, ◌+◌, ◌∙◌, List, ap, length, refl, subst, sym, take}
use Rattle.std.specs.Prelude.{fold}
use Rattle.nc_names.specs.declared.path.Place.TheVariants.{Kept}
use Rattle.nc_names.specs.declared.path.Row.{Row}
use Rattle.nc_names.specs.declared.path.Step.{Step}
use Rattle.nc_schema.specs.Blocks.{with_block}
use Rattle.nc_protocol.specs.Applied.{Applied}
use Rattle.nc_protocol.specs.Edited.{left_by}
use Rattle.nc_edit.specs.inner.Alone.{turn_at}
use Rattle.nc_edit.specs.inner.Behind.{AreEarlier, keys_of}
use Rattle.nc_made.specs.Own.{own_block}
use Rattle.nc_edit.proofs.AloneLemmas.{made_alone, made_listed, on_ok_by}
use Rattle.nc_edit.proofs.BehindLemmas.{merge_earlier, run_rest, take_whole}
use Rattle.nc_edit.proofs.alone.make_alone.Goals as goal

pub push_behind-requires-clause-free : goal.push_behind-requires-clause-free
push_behind-requires-clause-free c = c.requires.new.free

pub push_behind-requires-clause-earlier : goal.push_behind-requires-clause-earlier
push_behind-requires-clause-earlier c =
    let path = c.args.edit.now.path in
    subst (AreEarlier (keys_of c.args.schema.now path.steps) 0 path.steps) (sym c.in_ok-block.ensures)
    (merge_earlier c.args.schema.now path c.args.edit.now.action c.requires.new.merges)

pub returns-then-is_all-clause-ok : goal.returns-then-is_all-clause-ok
returns-then-is_all-clause-ok c =
    let args = c.args in
    let tables = args.schema.now in
    let edit = args.edit.now in
    let edits = args.edits.now in
    let causes = args.causes.now in
    let count = c.in_ok-count.count in
    let put = c.set_block.new.self in
    let start : Applied = record { rows = own_block tables edit.path edit.action; causes = causes } in
    let all : take count edits ≡ edits = take_whole count edits (c.is_all.ensures.0 c.if-is_all.true) in
    let run : record { rows = c.push_behind.new.rows; causes = causes } ≡ fold (turn_at tables (length edit.path.steps + 1) args.goes_on) start edits =
    c.in_ok-count.ensures.made args.goes_on causes c.requires.goes
    ∙ (λ i. fold (turn_at tables (length edit.path.steps + 1) args.goes_on) (record { rows = c.in_ok-block.ensures i; causes = causes }) (all i)) in
    on_ok_by c.set_block.result (put ≡ with_block tables args.config.now edit.path Kept c.push_behind.new.rows)
    (record { rows = put; causes = causes } ≡ fold (turn_at tables 1 args.goes_on) (record { rows = left_by tables args.config.now edit; causes = causes }) edits)
    (λ done.
    made_listed tables args.goes_on args.config.now put edit edits causes causes c.push_behind.new.rows (length edit.path.steps + 1) c.requires.new c.requires.below refl run done)
    c.set_block.ensures.ok

pub returns-clause-ok : goal.returns-clause-ok
returns-clause-ok c =
    let args = c.args in
    let tables = args.schema.now in
    let edit = args.edit.now in
    let edits = args.edits.now in
    let causes = args.causes.now in
    let count = c.in_ok-count.count in
    let after = c.run_from.new.causes in
    let from = length c.as_slice.result.now + 1 in
    let put = c.set_part.new.self in
    let from_is : from ≡ length edit.path.steps + 1 = ap (λ (steps : List Step). length steps + 1) c.as_slice.ensures in
    let start : Applied = record { rows = own_block tables edit.path edit.action; causes = causes } in
    let middle : Applied = record { rows = c.push_behind.new.rows; causes = causes } in
    let end : Applied = record { rows = c.run_from.new.config; causes = after } in
    let pushed : middle ≡ fold (turn_at tables from args.goes_on) start (take count edits) =
    c.in_ok-count.ensures.made args.goes_on causes c.requires.goes
    ∙ (λ i. fold (turn_at tables (sym from_is i) args.goes_on) (record { rows = c.in_ok-block.ensures i; causes = causes }) (take count edits)) in
    let run : end ≡ fold (turn_at tables from args.goes_on) start edits =
    run_rest (turn_at tables from args.goes_on) start middle end edits count pushed
    (c.in_ok-run_from.ensures
    ∙ (λ i. fold (turn_at tables from args.goes_on) (record { rows = c.in_ok-small.ensures i; causes = causes }) (c.tail-rest.ensures i))) in
    on_ok_by c.set_part.result (put ≡ with_block tables args.config.now edit.path Kept c.in_ok-part.part)
    (record { rows = put; causes = after } ≡ fold (turn_at tables 1 args.goes_on) (record { rows = left_by tables args.config.now edit; causes = causes }) edits)
    (λ done.
    made_alone tables args.goes_on args.config.now put edit edits causes after c.run_from.new.config c.in_ok-part.part from c.requires.new c.requires.below from_is run
    c.in_ok-part.ensures done)
    c.set_part.ensures.ok
