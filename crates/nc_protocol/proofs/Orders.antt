-- Edits of leaf-list entries that the user orders, of leafs in two cases of a choice, and edits that are
-- refused, worked by hand.
use Rattle.std.proofs.Common.{◌≡◌, ℕ, List, [], ◌∷◌, refl}
use Rattle.std.specs.Prelude.{Bool, Some, None, Ok, Err, codes, false, true}
use Rattle.nc_names.specs.declared.cause.CauseKind.TheVariants.{Exists, Absent, DataDenied}
use Rattle.nc_names.specs.declared.path.Path.{Path}
use Rattle.nc_names.specs.declared.path.Place.{Place}
use Rattle.nc_names.specs.declared.path.Place.TheVariants.{Kept, First, Before, After}
use Rattle.nc_names.specs.declared.path.Right.{Right}
use Rattle.nc_names.specs.declared.path.Row.{Row}
use Rattle.nc_schema.specs.declared.node.Case.{Case}
use Rattle.nc_schema.specs.declared.node.Deny.TheVariants.{Nothing as NotDenied}
use Rattle.nc_schema.specs.declared.node.Kind.{Kind}
use Rattle.nc_schema.specs.declared.node.Kind.TheVariants.{Leaf, LeafList}
use Rattle.nc_schema.specs.declared.node.Node.{Node}
use Rattle.nc_schema.specs.Tables.{Tables}
use Rattle.nc_protocol.specs.declared.access.By.TheVariants.{Recovery, DenyWrite}
use Rattle.nc_protocol.specs.declared.access.Decision.{Decision}
use Rattle.nc_protocol.specs.declared.asked.ErrorOption.TheVariants.{Stop, Continue, Rollback}
use Rattle.nc_protocol.specs.declared.edit.Action.{Action}
use Rattle.nc_protocol.specs.declared.edit.Action.TheVariants.{Merge, Create, Delete}
use Rattle.nc_protocol.specs.declared.edit.Edit.{Edit}
use Rattle.nc_protocol.specs.declared.request.Cause.{Cause}
use Rattle.nc_protocol.specs.Applied.{applied}
use Rattle.nc_protocol.specs.Edited.{edited}
use Rattle.nc_protocol.specs.Words.{default_word, deny_write_word}

node : (name : List ℕ) (kind : Kind) (by_user : Bool) (cases : List Case) → Node
node name kind by_user cases = record {
  name = record { space = codes "urn:ex"; name = name };
  «module» = 0;
  parent = None;
  kind = kind;
  kind_of_value = 0;
  keys = [];
  uniques = [];
  mandatory = false;
  defaults = [];
  least = 0;
  most = None;
  by_user = by_user;
  cases = cases;
  deny = NotDenied;
}

-- leaf-list word { ordered-by user }; choice { leaf up; leaf down }
tables : Tables
tables = record {
  nodes = node (codes "word") LeafList true []
      ∷ node (codes "up") Leaf false (record { choice = 0; case = 0 } ∷ [])
      ∷ node (codes "down") Leaf false (record { choice = 0; case = 1 } ∷ []) ∷ [];
  choices = [];
  patterns = [];
  types = [];
  modules = [];
}

everything : Path → Right → Decision
everything path right = record { permit = true; by = Recovery }

nothing : Path → Right → Decision
nothing path right = record { permit = false; by = DenyWrite }

at : ℕ → List (List ℕ) → Path
at number keys = record { steps = record { node = number; keys = keys } ∷ [] }

word : List ℕ → Row
word text = record { path = at 0 (text ∷ []); value = Some text }

leaf : ℕ → Row
leaf number = record { path = at number []; value = Some (codes "1") }

edit : Path → Action → Place → Edit
edit path action place = record { path = path; action = action; place = place }

put : List ℕ → Place → Edit
put text place = edit (at 0 (text ∷ [])) (Merge (Some text)) place

a_word_goes_last : edited tables everything (word (codes "b") ∷ leaf 1 ∷ []) (put (codes "a") Kept) ≡ Ok (word (codes "b") ∷ word (codes "a") ∷ leaf 1 ∷ [])
unfolding node tables everything at word leaf edit put
a_word_goes_last = refl

a_word_goes_before : edited tables everything (word (codes "b") ∷ word (codes "c") ∷ []) (put (codes "a") (Before (codes "c" ∷ []))) ≡ Ok (word (codes "b") ∷ word (codes "a") ∷ word (codes "c") ∷ [])
unfolding node tables everything at word leaf edit put
a_word_goes_before = refl

a_word_moves : edited tables everything (word (codes "b") ∷ word (codes "c") ∷ word (codes "d") ∷ []) (put (codes "b") (After (codes "c" ∷ []))) ≡ Ok (word (codes "c") ∷ word (codes "b") ∷ word (codes "d") ∷ [])
unfolding node tables everything at word leaf edit put
a_word_moves = refl

another_case_goes : edited tables everything (word (codes "b") ∷ leaf 1 ∷ []) (edit (at 2 []) (Merge (Some (codes "1"))) Kept) ≡ Ok (word (codes "b") ∷ leaf 2 ∷ [])
unfolding node tables everything at word leaf edit
another_case_goes = refl

a_move_is_denied : edited tables nothing (word (codes "b") ∷ word (codes "c") ∷ []) (put (codes "c") First)
    ≡ Err (record { kind = DataDenied; path = Some (at 0 (codes "c" ∷ [])); names = default_word ∷ deny_write_word ∷ [] })
unfolding node tables nothing at word edit put
a_move_is_denied = refl

nothing_new_is_permitted : edited tables nothing (word (codes "b") ∷ word (codes "c") ∷ []) (put (codes "c") Kept) ≡ Ok (word (codes "b") ∷ word (codes "c") ∷ [])
unfolding node tables nothing at word edit put
nothing_new_is_permitted = refl

-- a leaf is deleted, created where it exists, deleted where it does not, and created
edits : List Edit
edits = edit (at 0 (codes "b" ∷ [])) Delete Kept ∷ edit (at 1 []) (Create (leaf 1 ∷ [])) Kept
    ∷ edit (at 0 (codes "b" ∷ [])) Delete Kept ∷ edit (at 0 (codes "c" ∷ [])) (Create (word (codes "c") ∷ [])) Kept ∷ []

exists_cause : Cause
exists_cause = record { kind = Exists; path = Some (at 1 []); names = [] }

absent_cause : Cause
absent_cause = record { kind = Absent; path = Some (at 0 (codes "b" ∷ [])); names = [] }

edits_stop : applied tables everything Stop (word (codes "b") ∷ leaf 1 ∷ []) edits ≡ record { rows = leaf 1 ∷ []; causes = exists_cause ∷ [] }
unfolding node tables everything at word leaf edit edits exists_cause
edits_stop = refl

edits_continue : applied tables everything Continue (word (codes "b") ∷ leaf 1 ∷ []) edits ≡ record { rows = word (codes "c") ∷ leaf 1 ∷ []; causes = exists_cause ∷ absent_cause ∷ [] }
unfolding node tables everything at word leaf edit edits exists_cause absent_cause
edits_continue = refl

edits_roll_back : applied tables everything Rollback (word (codes "b") ∷ leaf 1 ∷ []) edits ≡ record { rows = word (codes "b") ∷ leaf 1 ∷ []; causes = exists_cause ∷ [] }
unfolding node tables everything at word leaf edit edits exists_cause
edits_roll_back = refl
