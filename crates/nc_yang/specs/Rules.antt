-- The rules of module texts that need neither a data node nor a type (RFC 7950 5, 6.2.1, 7).
use Rattle.std.specs.Prelude.{◌≡◌, ℕ, false, List, Option, Some, slice_get, Contains}
use Rattle.nc_yang_words.specs.declared.statement.Statement.{Statement}
use Rattle.nc_yang_statements.specs.Rules.{BreaksRule}
use Rattle.nc_yang_statements.specs.declared.fault.Fault.{Fault}
use Rattle.nc_yang_scopes.specs.Modules.{twins}
use Rattle.nc_yang_scopes.specs.Names.{BreaksNames}
use Rattle.nc_yang_scopes.specs.Spaces.{BreaksSpaces}
use Rattle.nc_yang_scopes.specs.States.{BreaksState}
use Rattle.nc_yang_scopes.specs.declared.naming.TextFault.{TextFault}
use Rattle.nc_yang_scopes.specs.Loops.{BreaksLoops}
use Rattle.nc_yang_scopes.specs.Revisions.{unrevised}

-- the text of a number breaks a rule: one of its statements by itself, or with those directly below it; two statements
-- of a block have one name; `config true` stands within `config false`; two modules share their name or their
-- namespace; what is named is not there; a definition leads back to itself; an import asks for a revision that is not
-- there
pub data BreaksText (texts : List Statement) : TextFault → Type 0 where
  alone : (text : ℕ) (root : Statement) (fault : Fault) → slice_get texts text ≡ Some root → BreaksRule root fault →
      BreaksText texts (record { text = text; fault = fault })
  renamed : (text : ℕ) (root : Statement) (fault : Fault) → slice_get texts text ≡ Some root → BreaksSpaces root fault →
      BreaksText texts (record { text = text; fault = fault })
  configured : (text : ℕ) (root : Statement) (fault : Fault) → slice_get texts text ≡ Some root →
      BreaksState false root fault → BreaksText texts (record { text = text; fault = fault })
  twin : (found : TextFault) → Contains (twins texts) found → BreaksText texts found
  misnamed : (text : ℕ) (fault : Fault) → BreaksNames texts text fault →
      BreaksText texts (record { text = text; fault = fault })
  looping : (text : ℕ) (fault : Fault) → BreaksLoops texts text fault →
      BreaksText texts (record { text = text; fault = fault })
  unrevised_import : (found : TextFault) → Contains (unrevised texts) found → BreaksText texts found

-- no rule on texts is broken
abbrev pub KeepsTexts : List Statement → Type 0
KeepsTexts texts = (found : TextFault) → BreaksText texts found → ⊥
