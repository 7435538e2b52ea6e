use Rattle.std.proofs.Common.{◌+◌}
use Rattle.std.specs.Option.{option_map_or, option_or}
use Rattle.std.specs.Prelude.{option_and_then}
use Rattle.nc_model.specs.Step.{milliseconds}
use Rattle.nc_pending.proofs.laws.followed_as_stated.Goals as goal

pub returns : goal.returns
returns c = λ s pending session timeout persist is i. record {
  base = option_map_or (λ it. it.base) (is i) s.running;
  deadline = s.now + milliseconds timeout;
  token = option_or persist (option_and_then (λ it. it.token) (is i));
  session = session;
}
