-- Choices by their parents and names.
use Rattle.std.specs.Prelude.{◌≡◌, ℕ, ◌&&◌, if◌then◌else◌, List, Option, Some, None}
use Rattle.nc_names.specs.Same.{is_same_text}
use Rattle.nc_yang_nodes.specs.declared.planned.PlannedChoice.{PlannedChoice}
use Rattle.nc_yang_scopes.specs.Scopes.{Scoping}
use Rattle.nc_yang_scopes.specs.Tables.{either, number_at}
use Rattle.nc_yang_data.specs.declared.called.Called.{Called}
use Rattle.nc_yang_data.specs.declared.siblings.Parent.{Parent}
use Rattle.nc_yang_data.specs.declared.siblings.Parent.TheVariants.{InChoice, InNode, AtTop}
use Rattle.nc_yang_data.specs.Siblings.{choice_called, is_same_parent}

-- the number that is kept for a name there
abbrev pub called_at : Called → Parent → List ℕ → Option ℕ
called_at called (InChoice k) word = number_at called.in_choices k word
called_at called (InNode k) word = number_at called.in_nodes k word
called_at called (AtTop k) word = number_at called.at_top k word

-- with one number more, unless one was kept for that name
abbrev pub CallsOneMore : Called → Parent → List ℕ → ℕ → Called → Type 0
CallsOneMore old parent word number new =
    (other : Parent) (text : List ℕ) → called_at new other text
    ≡ either (called_at old other text)
    (if is_same_parent parent other && is_same_text word text then Some number else None)

-- the first of each name among these choices
abbrev pub CallsEach : Scoping → List PlannedChoice → Called → Type 0
CallsEach scoping choices called =
    (parent : Parent) (word : List ℕ) → called_at called parent word ≡ choice_called scoping choices parent word
