use Rattle.std.proofs.Common.{◌≡◌, length, refl, rules}
use Rattle.nc_script.proofs.Steppings.{put_done}
use Rattle.nc_script.specs.declared.talks.Talks.{Talks}
use Rattle.nc_script.proofs.talks.Talks.put.Goals as goal

pub returns : goal.returns
returns c = λ schema board x stand kept fresh.
    let place_is : c.len-place.result ≡ length c.args.self.now.talks.items = search rules in
    let new : Talks = record c.args.self.now { talks = c.push.new.self; places = c.insert.new.self } in
    put_done schema c.args.self.now new board x c.args.talk c.len-place.result place_is stand kept fresh
    c.in_ok-push.ensures.items c.in_ok-insert.ensures.updates.0 refl refl
