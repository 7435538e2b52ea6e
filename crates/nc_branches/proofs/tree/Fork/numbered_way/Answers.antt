use Rattle.std.proofs.Common.{◌≡◌, ◌<◌, subst, sym, arith}
use Rattle.nc_schema.specs.Tables.{Tables}
use Rattle.nc_branches.specs.inner.Turning.{IsSingle}
use Rattle.nc_branches.specs.declared.way.Way.TheVariants.{Left, Right}
use Rattle.nc_branches.proofs.Beside.{same_turn, unknown_goes}
use Rattle.nc_branches.proofs.Numbered.{numbered_left, numbered_right}
use Rattle.nc_branches.proofs.tree.Fork.numbered_way.Goals as goal

pub returns-then-not-self : goal.returns-then-not-self
returns-then-not-self c = λ branches is turned free. unknown_goes c.args.turn c.args.aim.now c.args.depth c.args.above branches c.args.self.now

pub returns-in_default : goal.returns-in_default
returns-in_default c = λ branches is turned free. unknown_goes c.args.turn c.args.aim.now c.args.depth c.args.above branches c.args.self.now

pub returns-then-not-is_single : goal.returns-then-not-is_single
returns-then-not-is_single c = λ branches is turned free. unknown_goes c.args.turn c.args.aim.now c.args.depth c.args.above branches c.args.self.now

pub returns-in_default-step_at : goal.returns-in_default-step_at
returns-in_default-step_at c = λ branches is turned free. unknown_goes c.args.turn c.args.aim.now c.args.depth c.args.above branches c.args.self.now

pub returns-then-own-asked : goal.returns-then-own-asked
returns-then-own-asked c = λ branches is turned free.
    let single = subst (λ (t : Tables). IsSingle t c.args.above c.in-Some.asked.now) c.schema.ensures (c.is_single.ensures c.if-not-is_single.false) in
    let less : c.in-Some-step_at.own.now.node < c.in-Some.asked.now.node = omega arith in
    same_turn Right c.args.turn c.args.aim.now c.args.depth c.args.above branches c.args.self.now is turned
    (numbered_right c.args.aim.now c.args.depth c.args.above c.in-Some.asked.now c.in-Some-step_at.own.now branches c.args.self.now is c.if-not-self.false single (sym c.in-Some.ensures.step) c.in-Some-step_at.ensures free less)

pub returns-then-asked-own : goal.returns-then-asked-own
returns-then-asked-own c = λ branches is turned free.
    let single = subst (λ (t : Tables). IsSingle t c.args.above c.in-Some.asked.now) c.schema.ensures (c.is_single.ensures c.if-not-is_single.false) in
    let more : c.in-Some.asked.now.node < c.in-Some-step_at.own.now.node = omega arith in
    same_turn Left c.args.turn c.args.aim.now c.args.depth c.args.above branches c.args.self.now is turned
    (numbered_left c.args.aim.now c.args.depth c.args.above c.in-Some.asked.now c.in-Some-step_at.own.now branches c.args.self.now is c.if-not-self.false single (sym c.in-Some.ensures.step) c.in-Some-step_at.ensures free more)

pub returns : goal.returns
returns c = λ branches is turned free.
    let single = subst (λ (t : Tables). IsSingle t c.args.above c.in-Some.asked.now) c.schema.ensures (c.is_single.ensures c.if-not-is_single.false) in
    let same : c.in-Some-step_at.own.now.node ≡ c.in-Some.asked.now.node = omega arith in
    c.entry_way.ensures c.args.above branches (record {
      is = is;
      numbered = c.if-not-self.false;
      single = single;
      asked_is = sym c.in-Some.ensures.step;
      at = c.in-Some-step_at.ensures;
      same = same;
      turned = turned;
      free = free;
    })
