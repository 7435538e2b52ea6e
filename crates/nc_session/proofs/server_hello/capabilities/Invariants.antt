use Rattle.std.proofs.Common.{◌≡◌, ◌++◌, map, take}
use Rattle.nc_names.specs.declared.name.Module.{Module}
use Rattle.nc_session.specs.ServerHello.{built, capability_part, module_capability}
use Rattle.nc_session.proofs.server_hello.capabilities.Given as goal

-- the capabilities that are built, and those of the modules so far
abbrev pub invariant-loop-served : goal.invariant-loop-served
invariant-loop-served l = l.parts ≡ map capability_part built ++ map (λ (m : Module). capability_part (module_capability m)) (take l.served-index l.modules)
