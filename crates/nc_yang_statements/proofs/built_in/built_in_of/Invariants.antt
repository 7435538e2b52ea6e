use Rattle.std.proofs.Common.{◌≡◌, drop}
use Rattle.std.specs.Prelude.{find}
use Rattle.nc_names.specs.Same.{is_same_text}
use Rattle.nc_yang_statements.specs.BuiltIns.{built_in_of, built_in_word}
use Rattle.nc_yang_statements.proofs.built_in.built_in_of.Given as goal

abbrev pub invariant-loop-built_in : goal.invariant-loop-built_in
invariant-loop-built_in l = built_in_of l.word ≡ find (λ b. is_same_text (built_in_word b) l.word) (drop l.built_in-index l.built_in-items)
