use Rattle.std.proofs.Common.{◌+◌, ap, refl, subst, List, take}
use Rattle.nc_names.specs.declared.path.Step.{Step}
use Rattle.nc_branches.specs.inner.Ways.{Stands}
use Rattle.nc_branches.specs.declared.labels.Turn.TheVariants.{Kept, First, Last, Before, After}
use Rattle.nc_branches.specs.declared.way.Way.TheVariants.{Here}
use Rattle.nc_branches.proofs.Beside.{after_here, after_there, before_here, before_there, ends_first, ends_last, kept_goes, unknown_goes, users_of}
use Rattle.nc_branches.proofs.tree.Fork.laid_way.Goals as goal

pub returns-then-not-is_by_user : goal.returns-then-not-is_by_user
returns-then-not-is_by_user c = λ above branches met. unknown_goes c.args.turn c.args.aim.now c.args.depth above branches c.args.self.now

pub returns-then-not-self : goal.returns-then-not-self
returns-then-not-self c = λ above branches met. unknown_goes c.args.turn c.args.aim.now c.args.depth above branches c.args.self.now

pub returns-in-First : goal.returns-in-First
returns-in-First c = λ above branches met. ends_first c.args.aim.now c.args.lay.now c.args.depth above c.args.asked.now branches c.args.self.now (users_of c.args.turn First c.args.aim.now c.args.lay.now c.args.depth above c.args.asked.now branches c.args.self.now c.schema.result.now c.is_by_user.result c.in-First.is met c.if-not-self.false c.schema.ensures c.is_by_user.ensures c.if-not-is_by_user.false)

pub returns-in-Last : goal.returns-in-Last
returns-in-Last c = λ above branches met. ends_last c.args.aim.now c.args.lay.now c.args.depth above c.args.asked.now branches c.args.self.now (users_of c.args.turn Last c.args.aim.now c.args.lay.now c.args.depth above c.args.asked.now branches c.args.self.now c.schema.result.now c.is_by_user.result c.in-Last.is met c.if-not-self.false c.schema.ensures c.is_by_user.ensures c.if-not-is_by_user.false)

pub returns-in-Kept : goal.returns-in-Kept
returns-in-Kept c = λ above branches met.
    kept_goes c.kept_way.result c.args.aim.now c.args.lay.now c.args.depth above c.args.asked.now (take (c.args.depth + 1) c.args.aim.now.steps) branches c.args.self.now (users_of c.args.turn Kept c.args.aim.now c.args.lay.now c.args.depth above c.args.asked.now branches c.args.self.now c.schema.result.now c.is_by_user.result c.in-Kept.is met c.if-not-self.false c.schema.ensures c.is_by_user.ensures c.if-not-is_by_user.false) refl c.kept_way.ensures

pub returns-in-Here : goal.returns-in-Here
returns-in-Here c = λ above branches met.
    before_here c.args.aim.now c.args.lay.now c.args.depth above c.args.asked.now branches c.args.self.now (users_of c.args.turn Before c.args.aim.now c.args.lay.now c.args.depth above c.args.asked.now branches c.args.self.now c.schema.result.now c.is_by_user.result c.in-Before.is met c.if-not-self.false c.schema.ensures c.is_by_user.ensures c.if-not-is_by_user.false)
    (subst (λ (q : List Step). Stands Here q c.args.self.now) (ap (λ l. l.beside) c.lay.view_is) c.in-Here.ensures)

pub returns-in_default : goal.returns-in_default
returns-in_default c = λ above branches met.
    before_there c.way_beside.result c.args.aim.now c.args.lay.now c.args.depth above c.args.asked.now branches c.args.self.now (users_of c.args.turn Before c.args.aim.now c.args.lay.now c.args.depth above c.args.asked.now branches c.args.self.now c.schema.result.now c.is_by_user.result c.in-Before.is met c.if-not-self.false c.schema.ensures c.is_by_user.ensures c.if-not-is_by_user.false)
    (subst (λ (q : List Step). Stands c.way_beside.result q c.args.self.now) (ap (λ l. l.beside) c.lay.view_is) c.way_beside.ensures)

pub returns-in-Here-way_beside : goal.returns-in-Here-way_beside
returns-in-Here-way_beside c = λ above branches met.
    after_here c.args.aim.now c.args.lay.now c.args.depth above c.args.asked.now branches c.args.self.now (users_of c.args.turn After c.args.aim.now c.args.lay.now c.args.depth above c.args.asked.now branches c.args.self.now c.schema.result.now c.is_by_user.result c.in-After.is met c.if-not-self.false c.schema.ensures c.is_by_user.ensures c.if-not-is_by_user.false)
    (subst (λ (q : List Step). Stands Here q c.args.self.now) (ap (λ l. l.beside) c.lay.view_is) c.in-Here-way_beside.ensures)

pub returns-in_default-way_beside : goal.returns-in_default-way_beside
returns-in_default-way_beside c = λ above branches met.
    after_there c.way_beside-in-After.result c.args.aim.now c.args.lay.now c.args.depth above c.args.asked.now branches c.args.self.now (users_of c.args.turn After c.args.aim.now c.args.lay.now c.args.depth above c.args.asked.now branches c.args.self.now c.schema.result.now c.is_by_user.result c.in-After.is met c.if-not-self.false c.schema.ensures c.is_by_user.ensures c.if-not-is_by_user.false)
    (subst (λ (q : List Step). Stands c.way_beside-in-After.result q c.args.self.now) (ap (λ l. l.beside) c.lay.view_is) c.way_beside-in-After.ensures)
