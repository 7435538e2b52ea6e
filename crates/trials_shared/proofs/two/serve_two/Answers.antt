use Rattle.std.proofs.Common.{◌+◌, ◌-◌, ◌∙◌, ℕ, List, ap}
use mir.Syntax.{named}
use denote.Exit.{no}
use denote.Param.{param}
use denote.Param.Send.{arg_send, param_send, sendable}
use Rattle.nc_schema.proofs.Sent.{schema_sync}
use Rattle.nc_model.specs.declared.entry.Entry.{Entry}
use Rattle.nc_machine.specs.Lasting.{lasting}
use Rattle.nc_shared.specs.Holding.{Stood, held_home}
use Rattle.nc_shared.proofs.Sharing.{held_send, seated_send}
use Rattle.trials_shared.proofs.Sitting.{rose, sat_in}
use Rattle.trials_shared.proofs.two.serve_two.Goals as goal

pub serve_both-one-requires-send-Q : goal.serve_both-one-requires-send-Q
serve_both-one-requires-send-Q g c κs within =
    let words = lasting g.K.Keeper.doubt g.K.Keeper.moment g.K.Keeper.leaves g.K.Keeper.continues in
    param_send 2 _ (arg_send _ no _ (seated_send _ (record {
      home = held_home g.row.K.coded g.C.Clock.given;
      stands = Stood words g.C.Clock.count g.C.Clock.given;
    }) (record { mir = named 4; lft = κs.1.1.1.1.0 }) _ c.type_bounds.sync-R
    (held_send _ _ (param 5 g.row.K-Ready) g.K.Keeper c.type_bounds.send-K c.type_bounds.send-C)))

pub serve_both-one-requires-sync-X : goal.serve_both-one-requires-sync-X
serve_both-one-requires-sync-X g c κs within = search (schema_sync, sendable) depth 8

pub compare-requires : goal.compare-requires
compare-requires g c =
    let kept = c.split-other.ensures.kept in
    let given = c.split-other.ensures.given in
    let seen = c.requires.unused.0 in
    let near = rose g.row.K.coded g.C.Clock.given _ _ _ _ _ _ _ kept.0 (ap (λ m. m.0.seen) kept.1 ∙ seen)
    (ap (λ m. m.0.mine) kept.1 ∙ c.requires.unused.1) (ap (λ m. m.0.gathered) kept.1 ∙ c.requires.unused.2)
    c.desk-near.ensures c.serve_both-one.ensures.first c.leave-pass.ensures in
    let far = rose g.row.K.coded g.C.Clock.given _ _ _ _ _ _ _ given.0 (ap (λ u. u.seen) given.1 ∙ seen)
    (ap (λ u. u.mine) given.1) (ap (λ u. u.gathered) given.1) c.desk-far.ensures
    c.serve_both-one.ensures.second c.leave-last.ensures in
    (near.0, far.0)

pub close-machine-requires : goal.close-machine-requires
close-machine-requires g c =
    let kept = c.split-other.ensures.kept in
    let given = c.split-other.ensures.given in
    let seen = c.requires.unused.0 in
    let near = rose g.row.K.coded g.C.Clock.given _ _ _ _ _ _ _ kept.0 (ap (λ m. m.0.seen) kept.1 ∙ seen)
    (ap (λ m. m.0.mine) kept.1 ∙ c.requires.unused.1) (ap (λ m. m.0.gathered) kept.1 ∙ c.requires.unused.2)
    c.desk-near.ensures c.serve_both-one.ensures.first c.leave-pass.ensures in
    let far = rose g.row.K.coded g.C.Clock.given _ _ _ _ _ _ _ given.0 (ap (λ u. u.seen) given.1 ∙ seen)
    (ap (λ u. u.mine) given.1) (ap (λ u. u.gathered) given.1) c.desk-far.ensures
    c.serve_both-one.ensures.second c.leave-last.ensures in
    let a = near.1 in
    let b = far.1 in (
      c.compare.ensures.of,
      c.compare.ensures.joined.parts ∙ (λ i. a i + b i)
          ∙ (λ i. ap (λ m. m.0.parts) kept.1 i + ap (λ u. u.parts) given.1 i) ∙ ap (λ (n : ℕ). n - 1 + 1) c.requires.whole,
    )

pub returns : goal.returns
returns g c =
    let kept = c.split-other.ensures.kept in
    let given = c.split-other.ensures.given in
    let seen = c.requires.unused.0 in
    let joined = c.compare.ensures.joined in
    let one = c.leave-pass.result in
    let other = c.leave-last.result in
    let all : List Entry = c.compare.new.mine.me.0.seen in record {
      history = all;
      mine = one.me.0.mine;
      theirs = other.me.0.mine;
      stands = c.close-machine.ensures.stands;
      first = sat_in g.row.K.coded g.C.Clock.given _ _ _ _ _ _ _ all kept.0 (ap (λ m. m.0.seen) kept.1 ∙ seen)
          (ap (λ m. m.0.mine) kept.1 ∙ c.requires.unused.1) (ap (λ m. m.0.gathered) kept.1 ∙ c.requires.unused.2)
          c.desk-near.ensures c.serve_both-one.ensures.first c.leave-pass.ensures
          joined.begins;
      second = sat_in g.row.K.coded g.C.Clock.given _ _ _ _ _ _ _ all given.0 (ap (λ u. u.seen) given.1 ∙ seen)
          (ap (λ u. u.mine) given.1) (ap (λ u. u.gathered) given.1) c.desk-far.ensures
          c.serve_both-one.ensures.second c.leave-last.ensures joined.goes_on;
      apart = joined.apart;
    }
