-- The `default` statements before name nothing that is conditional.
use Rattle.std.proofs.Common.{◌≡◌, ◌<◌, ℕ, Some, slice_get}
use Rattle.std.specs.Prelude.{Bool, List, true}
use Rattle.nc_yang_statements.specs.declared.keyword.Keyword.TheVariants.{Default, TypeName}
use Rattle.nc_yang_statements.specs.Keywords.{is_same_keyword}
use Rattle.nc_yang_statements.specs.Statements.{kind, name}
use Rattle.nc_yang_scopes.specs.Parts.{part_of}
use Rattle.nc_yang_scopes.specs.Scopes.{Located, child}
use Rattle.nc_yang_types.specs.Faults.{TakesConditional}
use Rattle.nc_yang_types.specs.Plans.{AreMeanings}
use Rattle.nc_yang_types.proofs.conditional.conditional_default.Given as goal

abbrev pub invariant-loop-part : goal.invariant-loop-part
invariant-loop-part l =
    (on : ℕ → List ℕ → Bool) → AreMeanings on l.scopes l.meanings → (here : Located) → slice_get l.scopes.located l.number ≡ Some here
    → (i : ℕ) → i < l.part-index → (c of_type : Located) → child i here ≡ Some c → part_of TypeName here ≡ Some of_type
    → is_same_keyword Default (kind c.statement) ≡ true → TakesConditional on l.scopes.texts of_type (name c.statement) → ⊥
