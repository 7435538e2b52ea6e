use Rattle.nc_script.proofs.Talkings.{has_left}
use Rattle.nc_script.proofs.talk.Talk.leave.Goals as goal

pub returns-in-Ok : goal.returns-in-Ok
returns-in-Ok g c = λ schema x stands.
    has_left schema c.args.at x c.args.machine.now c.leave_in.new.machine c.args.self.now.number c.args.self.now.text
    c.args.self.now.is_over c.args.self.now.state c.in-Ok.end stands c.in-Ok.ensures
