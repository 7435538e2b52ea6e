-- The tokens of a message as they are written (XML 1.0, 2.4 to 2.8, 3.1).
use Rattle.std.specs.Prelude.{ℕ, Bool, List}

-- a name as it is written (Namespaces in XML 1.0, 4): its prefix, or nothing, and its local part
pub record Name : Type 0 where
  pub prefix : List ℕ
  pub local : List ℕ

-- an attribute as it is written: its name, and the bytes between its quotation marks
pub record Attribute : Type 0 where
  pub name : Name
  pub value : List ℕ

-- a start tag; `alone` where it closes its element too
pub record Tag : Type 0 where
  pub name : Name
  pub attributes : List Attribute
  pub alone : Bool

-- a token: a tag, the bytes of a run of text, or those between the marks of a CDATA section, of a comment or
-- of a processing instruction, or the declaration
pub data Token : Type 0 where
  Start : Tag → Token
  End : Name → Token
  Run : List ℕ → Token
  Section : List ℕ → Token
  Comment : List ℕ → Token
  Instruction : List ℕ → Token
  Declaration : Token
