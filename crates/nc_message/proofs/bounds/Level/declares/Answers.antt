use Rattle.std.proofs.Common.{◌≡◌, ◌∙◌, sym, ap, true, false}
use Rattle.std.specs.Prelude.{is_some, ◌||◌, ◌&&◌}
use Rattle.std.specs.Option.{option_copied}
use Rattle.nc_message.specs.Bindings.{is_empty}
use Rattle.nc_message.proofs.Looking.{spoken, copied_is}
use Rattle.nc_message.proofs.bounds.Level.declares.Goals as goal

pub returns-then-is_some : goal.returns-then-is_some
returns-then-is_some c =
    let d = c.args.self.now in
    let found : is_some (option_copied c.own.result) ≡ true =
    copied_is (λ x. x.now) c.own.result ∙ sym c.is_some.ensures ∙ c.if-is_some.true in
    c.if-is_some.true
    ∙ sym (spoken c.args.prefix.now d (option_copied c.own.result) c.own.ensures
    ∙ ap (λ b. b || (d.undeclares && is_empty c.args.prefix.now)) found)

pub returns-else-is_some : goal.returns-else-is_some
returns-else-is_some c =
    let d = c.args.self.now in
    let found : is_some (option_copied c.own.result) ≡ false =
    copied_is (λ x. x.now) c.own.result ∙ sym c.is_some.ensures ∙ c.if-is_some.false in
    c.takes_away.ensures
    ∙ sym (spoken c.args.prefix.now d (option_copied c.own.result) c.own.ensures
    ∙ ap (λ b. b || (d.undeclares && is_empty c.args.prefix.now)) found)
