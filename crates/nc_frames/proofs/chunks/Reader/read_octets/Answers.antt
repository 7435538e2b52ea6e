use Rattle.std.proofs.Common.{arith, ap, ◌∙◌}
use Rattle.std.proofs.lemmas.Grind.{common_steps}
use Rattle.nc_frames.specs.declared.chunks.Reader.{Reader}
use Rattle.nc_frames.proofs.TurnLemmas.{Advances-octets}
use Rattle.nc_frames.proofs.chunks.Reader.read_octets.Goals as goal

pub returns-clause-read : goal.returns-clause-read
returns-clause-read c =
    let a = c.args.self.now in
    let b = c.pass.new.self in
    rw c.pass.ensures.source (Advances-octets a b c.min-count.result c.args.source.now (grind arith) (grind arith) (ap (λ (r : Reader). r.header) c.pass.ensures.place) (ap (λ (r : Reader). r.left) c.pass.ensures.place) (ap (λ (r : Reader). r.message) c.pass.ensures.place ∙ grind (arith, common_steps, c.in_ok-push_slice.ensures.ok)) (ap (λ (r : Reader). r.place) c.pass.ensures.place))
