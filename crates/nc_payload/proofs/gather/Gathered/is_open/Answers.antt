use Rattle.std.proofs.Common.{◌≡◌, ◌∙◌, Bool, true, sym}
use Rattle.nc_schema.specs.Standing.{cases_of}
use Rattle.nc_payload.specs.inner.Gathered.{AreChosen, IsOpen}
use Rattle.nc_payload.proofs.PlacesLemmas.{ok_more}
use Rattle.nc_payload.proofs.gather.Gathered.is_open.Goals as goal

pub returns : goal.returns
returns c =
    let plan = c.args.plan.now in
    ok_more c.has_chosen.result (λ (it : Bool). it ≡ true → AreChosen plan.turns c.args.above.now (cases_of plan.schema.now c.args.number))
    (λ (it : Bool). it ≡ true → IsOpen plan.schema.now plan.turns c.args.self.now c.args.above.now c.args.number)
    (λ it chosen is. record {
      parent = c.is_parent.ensures c.if-not-is_parent.false;
      inner = sym c.is_leaf.ensures ∙ c.if-is_leaf.false;
      chosen = chosen is;
    })
    c.has_chosen.ensures
