use Rattle.std.proofs.Common.{◌≡◌, ◌++◌, take}
use Rattle.std.specs.List.{flat_map}
use Rattle.nc_journal.specs.Header.{counted}
use Rattle.nc_yang.specs.declared.text.ModuleText.{ModuleText}
use Rattle.nc_device.proofs.header.push_texts.Given as goal

abbrev pub invariant-loop-text : goal.invariant-loop-text
invariant-loop-text l = l.header ≡ l.fn.header ++ flat_map (λ (text : ModuleText). counted text.bytes) (take l.text-index l.modules)
