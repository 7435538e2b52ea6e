use Rattle.std.proofs.Common.{◌≡◌, map, IfSome}
use Rattle.nc_setup.specs.Folder as meant
use Rattle.nc_setup.proofs.folder.module_texts.Given as goal

-- the texts so far are those of the first names; the files are as before, and none failed
abbrev pub invariant-loop-name : goal.invariant-loop-name
invariant-loop-name g l =
    IfSome (g.F.Files.files l.initial.files) (λ fs. l.texts ≡ map (meant.text_in fs l.fn.modules) l.yielded)
    × (g.F.Files.files l.files ≡ g.F.Files.files l.initial.files)
    × (g.F.Files.faults l.files ≡ g.F.Files.faults l.initial.files)
