-- What follows of messages.
use Rattle.std.specs.Prelude.{◌≡◌, ℕ, List}
use Rattle.nc_message.specs.declared.tree.Tree.{Tree}
use Rattle.nc_message.specs.declared.tree.Why.{Why}
use Rattle.nc_message.specs.Faults.{SpellsTree, IsFault}
use Rattle.nc_message.specs.Written.{written}
use Rattle.nc_message_read.specs.ReadBack.{IsProperTree, read_back}

-- bytes spell one tree at most
abbrev pub OneTree : Type 0
OneTree = (bytes : List ℕ) (a b : Tree) → SpellsTree bytes a → SpellsTree bytes b → a ≡ b

-- bytes with a fault spell none
abbrev pub NoTreeAtFault : Type 0
NoTreeAtFault = (bytes : List ℕ) (at : ℕ) (why : Why) (tree : Tree) → IsFault bytes at why → SpellsTree bytes tree → ⊥

-- what is written of a tree is read back: the same names, attributes and parts, empty text dropped and adjacent text
-- joined
abbrev pub WrittenIsRead : Type 0
WrittenIsRead = (tree : Tree) → IsProperTree tree → SpellsTree (written tree) (read_back tree)
