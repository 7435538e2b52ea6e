use Rattle.std.proofs.Common.{sym, ap, map, ◌∙◌}
use Rattle.nc_yang_types.specs.Members.{guarded_by}
use Rattle.nc_yang_types.specs.inner.Known.{has_text}
use Rattle.nc_yang_statements.specs.Statements.{has}
use Rattle.nc_yang_types.proofs.ChoiceLemmas.{listed_all, listed_is}
use Rattle.nc_yang_types.proofs.choice.still_listed.Goals as goal

pub returns-then-not-has : goal.returns-then-not-has
returns-then-not-has c =
    listed_all c.args.listed c.args.below.now c.args.names.now c.in_ok-all.all
    (ap (λ word. has word c.args.below.now) (sym c.member_word.ensures) ∙ sym c.has.ensures ∙ c.if-not-has.true) c.in_ok-all.ensures

pub returns : goal.returns
returns c =
    listed_is c.args.listed c.args.below.now c.in_ok-set.set c.args.names.now c.in_ok-left.left
    (ap (λ word. has word c.args.below.now) (sym c.member_word.ensures) ∙ sym c.has.ensures ∙ c.if-not-has.false) c.in_ok-set.ensures
    c.in_ok-guarded.guarded c.in_ok-marked.marked c.in_ok-guarded.ensures c.in_ok-left.ensures
    (c.in_ok-marked.ensures ∙ ap (map (guarded_by (has_text c.in_ok-guarded.guarded))) c.as_slice.ensures)
