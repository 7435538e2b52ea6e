use Rattle.trials_journal.proofs.retries_tests.add_twice.Goals as goal

pub add-requires-then-ne-clause-sound : goal.add-requires-then-ne-clause-sound
add-requires-then-ne-clause-sound g c =
    (c.requires.sound.0, c.add.ensures c.requires.sound.0 c.requires.sound.1)
