use Rattle.std.proofs.Common.{◌≡◌, ◌∙◌, sym, None}
use Rattle.std.specs.Option.{option_copied}
use Rattle.nc_names.specs.Bindings.{space_of}
use Rattle.nc_message.proofs.Looking.{looked, taken_away, left_alone, mapped_some, mapped_none}
use Rattle.nc_message.proofs.bounds.Level.look.Goals as goal

pub returns-then-is_some : goal.returns-then-is_some
returns-then-is_some c =
    looked c.args.prefix.now c.args.self.now (option_copied c.own-own.result) (sym c.own-own.ensures)
    (mapped_some (λ x. x.now) c.own-own.result (sym c.is_some.ensures ∙ c.if-is_some.true))

pub returns-then-takes_away : goal.returns-then-takes_away
returns-then-takes_away c =
    let none : space_of c.args.prefix.now c.args.self.now.own ≡ None =
    sym c.own-own.ensures
    ∙ mapped_none (λ x. x.now) c.own-own.result (sym c.is_some.ensures ∙ c.if-is_some.false) in
    taken_away c.args.prefix.now c.args.self.now none (sym c.takes_away.ensures ∙ c.if-takes_away.true)

pub returns : goal.returns
returns c =
    let none : space_of c.args.prefix.now c.args.self.now.own ≡ None =
    sym c.own-own.ensures
    ∙ mapped_none (λ x. x.now) c.own-own.result (sym c.is_some.ensures ∙ c.if-is_some.false) in
    left_alone c.args.prefix.now c.args.self.now none (sym c.takes_away.ensures ∙ c.if-takes_away.false)
