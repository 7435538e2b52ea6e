-- The texts of modules, and what keeps one from being read to its statements (RFC 7950 6).
use Rattle.std.specs.Prelude.{◌≡◌, ◌<◌, ◌≤◌, ℕ, Bool, true, false, nat_lt, List, [], ◌∷◌, length, position, slice_get, Some, None}
use Rattle.std.specs.Str.{is_utf8, chars}
use Rattle.nc_yang_words.specs.Faults.{HasFaultAt}
use Rattle.nc_yang_words.specs.Spelling.{TextSpells}
use Rattle.nc_yang_words.specs.declared.statement.Statement.{Statement}
use Rattle.nc_yang_statements.specs.declared.fault.Fault.{Fault}
use Rattle.nc_yang_statements.specs.declared.fault.ModuleWhy.TheVariants.{NotText, BadWords, TooMany}
use Rattle.nc_yang.specs.declared.fault.CompileFault.{CompileFault}
use Rattle.nc_yang.specs.declared.fault.CompileFault.TheVariants.{Module, Memory}
use Rattle.nc_yang.specs.declared.text.ModuleText.{ModuleText}

-- the most modules
abbrev pub module_limit : ℕ
module_limit = 1000

-- the most octets of a module's text
abbrev pub text_limit : ℕ
text_limit = 4194304

-- a text past the limit
abbrev pub is_long : ModuleText → Bool
is_long text = nat_lt text_limit (length text.bytes)

-- the text is UTF-8 (RFC 7950 6) and spells these statements
pub record Spells (text : ModuleText) (root : Statement) : Type 0 where
  pub utf8 : is_utf8 text.bytes ≡ true
  pub spells : TextSpells (chars text.bytes) root

-- each text spells its statements
abbrev pub AreEachRead : List ModuleText → List Statement → Type 0
AreEachRead [] [] = Unit {0}
AreEachRead (text ∷ texts) (root ∷ roots) = Spells text root × AreEachRead texts roots
AreEachRead texts roots = ⊥

-- the statements of the texts
pub record AreRead (texts : List ModuleText) (roots : List Statement) : Type 0 where
  pub few : length texts ≤ module_limit
  pub short : position is_long texts ≡ None
  pub each : AreEachRead texts roots

-- the text of a file has no statements: it is not UTF-8 (RFC 7950 6), or its words are no statements (RFC 7950 6.1 to
-- 6.3)
pub data HasNoStatements (text : ModuleText) : Fault → Type 0 where
  not_utf8 : is_utf8 text.bytes ≡ false → HasNoStatements text (record { line = 1; why = NotText })
  bad_words : (line : ℕ) → is_utf8 text.bytes ≡ true → HasFaultAt (chars text.bytes) line →
      HasNoStatements text (record { line = line; why = BadWords })

-- why the texts are not read to their statements: the first file past a limit, or one that has none
pub data IsUnread (texts : List ModuleText) : (file : ℕ) → Fault → Type 0 where
  many : module_limit < length texts → IsUnread texts module_limit (record { line = 1; why = TooMany })
  long : (file : ℕ) → position is_long texts ≡ Some file → IsUnread texts file (record { line = 1; why = TooMany })
  empty : (file : ℕ) (text : ModuleText) (fault : Fault) → slice_get texts file ≡ Some text
      → HasNoStatements text fault →
      IsUnread texts file fault

-- it is so of the file and its fault; of want of memory nothing is said
abbrev pub OnModule : (ℕ → Fault → Type 0) → CompileFault → Type 0
OnModule P (Module file line why) = P file (record { line = line; why = why })
OnModule P Memory = Unit {0}
