use Rattle.std.proofs.Common.{None, refl}
use Rattle.nc_memdisk.specs.States.{told}
use Rattle.trials_journal.proofs.retries_tests.run.Goals as goal

pub add_twice-requires-clause-sound : goal.add_twice-requires-clause-sound
add_twice-requires-clause-sound c = (
  c.args.header.now,
  λ bytes is. record {
    bodies = _;
    doubt = None;
    stands = (c.in-Ok.ensures.begun (told c.args.disk) refl).stands;
  },
)

pub add_twice-requires-2-clause-sound : goal.add_twice-requires-2-clause-sound
add_twice-requires-2-clause-sound c = (
  c.args.header.now,
  c.add_twice.ensures c.args.header.now (λ bytes is. record {
    bodies = _;
    doubt = None;
    stands = (c.in-Ok.ensures.begun (told c.args.disk) refl).stands;
  }),
)

pub swap-requires-clause-sound : goal.swap-requires-clause-sound
swap-requires-clause-sound c =
    c.add_twice-2.ensures c.args.header.now (c.add_twice.ensures c.args.header.now (λ bytes is. record {
      bodies = _;
      doubt = None;
      stands = (c.in-Ok.ensures.begun (told c.args.disk) refl).stands;
    }))
