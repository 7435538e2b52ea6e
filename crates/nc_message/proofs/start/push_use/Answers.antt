use Rattle.std.proofs.Common.{rules, subst, sym, ap, ◌∙◌, Bool}
use Rattle.nc_message.specs.Written.{is_declarable}
use Rattle.nc_message.specs.inner.Declaring.{IsAdded}
use Rattle.nc_message.proofs.Declaring.{not_declared, seen_before, newly_declared}
use Rattle.nc_message.proofs.start.push_use.Goals as goal

pub returns-then-not-has_to_be_declared-clause-ok : goal.returns-then-not-has_to_be_declared-clause-ok
returns-then-not-has_to_be_declared-clause-ok c =
    not_declared c.args.seen.now.seen c.args.out.now (record { prefix = c.args.prefix.now; space = c.args.space.now })
    (ap is_declarable (sym c.as_str.ensures) ∙ sym c.has_to_be_declared.ensures ∙ c.if-not-has_to_be_declared.true)

pub returns-then-not-added-clause-ok : goal.returns-then-not-added-clause-ok
returns-then-not-added-clause-ok c =
    let P : Bool → Type 0 = λ b. IsAdded c.args.seen.now.seen c.add.new.self.seen c.args.prefix.now b in
    seen_before c.args.seen.now.seen c.add.new.self.seen c.args.out.now
    (record { prefix = c.args.prefix.now; space = c.args.space.now })
    (ap is_declarable (sym c.as_str.ensures) ∙ sym c.has_to_be_declared.ensures ∙ c.if-not-has_to_be_declared.false)
    (subst P c.if-not-added.true c.in_ok-added.ensures)

pub returns-clause-ok : goal.returns-clause-ok
returns-clause-ok c =
    let P : Bool → Type 0 = λ b. IsAdded c.args.seen.now.seen c.add.new.self.seen c.args.prefix.now b in
    newly_declared c.args.seen.now.seen c.add.new.self.seen c.args.out.now c.push_declaration.new.out
    (record { prefix = c.args.prefix.now; space = c.args.space.now })
    (ap is_declarable (sym c.as_str.ensures) ∙ sym c.has_to_be_declared.ensures ∙ c.if-not-has_to_be_declared.false)
    (subst P c.if-not-added.false c.in_ok-added.ensures) (search rules)
