use Rattle.std.proofs.Common.{◌∙◌, sym, ap, arith}
use Rattle.std.specs.Prelude.{Some}
use Rattle.nc_yang_nodes.specs.Cases.{case_of, has_name, is_there}
use Rattle.nc_yang_nodes.specs.FeaturesOn.{is_on}
use Rattle.nc_yang_nodes.specs.Roles.{children}
use Rattle.nc_yang_nodes.proofs.Seeing.{from_start, seen_it, seen_none, seen_other}
use Rattle.nc_yang_nodes.proofs.cases.case_of.Goals as goal
use Rattle.nc_yang_nodes.proofs.cases.case_of.Goals.{in-None, in-Some-false}

pub loop-place-init : goal.loop-place-init
loop-place-init c = record { few = omega arith; same = λ here at. from_start (is_there c.args.scopes.now.texts (is_on c.args.features.now)) (has_name c.args.word.now) (children here) }

pub returns-in-Some-true : goal.returns-in-Some-true
returns-in-Some-true c = λ l at.
    seen_it c.args.scopes.now (is_on c.args.features.now) c.args.choice c.loop-place.place c.loop-place.count c.args.word.now c.in_ok-statement.statement.now l
    (case_of c.args.scopes.now.texts (is_on c.args.features.now) c.args.word.now l) (sym c.in_ok-statement.ensures) at (c.loop-place.invariant.same l at)
    c.seen_at.result (omega arith) c.seen_at.ensures (c.in-Some-true.is ∙ ap Some c.in-Some-true.field-0-test)

pub loop-place-preserved : goal.loop-place-preserved
loop-place-preserved c =
    elim c.match-seen_at.branch [
      | in-Some-false w ↦ record {
        few = omega arith;
        same = λ l at.
            seen_other c.args.scopes.now (is_on c.args.features.now) c.args.choice c.loop-place.place c.loop-place.count c.args.word.now c.in_ok-statement.statement.now l
            (case_of c.args.scopes.now.texts (is_on c.args.features.now) c.args.word.now l) (sym c.in_ok-statement.ensures) at (c.loop-place.invariant.same l at)
            c.seen_at.result (omega arith) c.seen_at.ensures (w.in-Some-false.is ∙ ap Some w.in-Some-false.field-0-test) c.match-seen_at.count w.count-is;
      }
      | in-None w ↦ record {
        few = omega arith;
        same = λ l at.
            seen_none c.args.scopes.now (is_on c.args.features.now) c.args.choice c.loop-place.place c.loop-place.count c.args.word.now c.in_ok-statement.statement.now l
            (case_of c.args.scopes.now.texts (is_on c.args.features.now) c.args.word.now l) (sym c.in_ok-statement.ensures) at (c.loop-place.invariant.same l at)
            c.seen_at.result (omega arith) c.seen_at.ensures w.in-None.is c.match-seen_at.count w.count-is;
      }
    ]
