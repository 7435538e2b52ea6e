use Rattle.std.proofs.Common.{◌≡◌, ap, sym, subst, ◌∙◌, Bool, true, false, [], map}
use Rattle.std.specs.Prelude.{IfOk, if◌then◌else◌}
use Rattle.nc_schema.specs.InUse.{parent_of, stands_in, values_in_use}
use Rattle.nc_schema.specs.Places.{Place}
use Rattle.nc_schema.specs.Tables.{Tables}
use Rattle.nc_defaults.specs.Within.{place_here}
use Rattle.nc_defaults.proofs.below.values_at.Goals as goal

pub returns-then-stands_in : goal.returns-then-stands_in
returns-then-stands_in c =
    let tables = c.args.children.now in
    let given : Tables = c.schema-schema.result.now in
    let place : Place = place_here c.args.config.now c.args.spot.now.steps c.args.spot.now.here in
    let here : stands_in (parent_of tables c.args.number) place ≡ true =
    ap (λ (ts : Tables). stands_in (parent_of ts c.args.number) place) (sym c.schema-schema.ensures)
    ∙ ap (λ parent. stands_in parent place) (sym c.parent_of.ensures) ∙ sym (c.stands_in.ensures c.args.config.now) ∙ c.if-stands_in.true in
    subst (λ (b : Bool). IfOk c.values_in_use.result (λ it. map (λ text. text.now) it ≡ (if b then values_in_use tables place c.args.number else []))) (sym here)
    (subst (λ (ts : Tables). IfOk c.values_in_use.result (λ it. map (λ text. text.now) it ≡ values_in_use ts place c.args.number)) c.schema-schema.ensures
    (subst (λ steps. IfOk c.values_in_use.result (λ it. map (λ text. text.now) it ≡ values_in_use given (place_here c.args.config.now steps c.args.spot.now.here) c.args.number))
    c.as_slice.ensures c.values_in_use.ensures))

pub returns : goal.returns
returns c =
    let tables = c.args.children.now in
    let place : Place = place_here c.args.config.now c.args.spot.now.steps c.args.spot.now.here in
    let here : stands_in (parent_of tables c.args.number) place ≡ false =
    ap (λ (ts : Tables). stands_in (parent_of ts c.args.number) place) (sym c.schema-schema.ensures)
    ∙ ap (λ parent. stands_in parent place) (sym c.parent_of.ensures) ∙ sym (c.stands_in.ensures c.args.config.now) ∙ c.if-stands_in.false in
    ap (map (λ text. text.now)) c.new.ensures ∙ sym (ap (λ b. if b then values_in_use tables place c.args.number else []) here)
