use Rattle.std.proofs.Common.{arith, not}
use Rattle.std.proofs.lemmas.List.Sums.{prefix_len-le-length}
use Rattle.nc_protocol.specs.ModuleNames as names
use Rattle.nc_print.proofs.module_names.before_colon.Goals as goal

pub front-requires : goal.front-requires
front-requires c =
    omega (arith, c.count_name.ensures, prefix_len-le-length (λ sign. not (names.is_colon sign)) c.args.piece.now)
