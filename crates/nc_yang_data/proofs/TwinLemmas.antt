-- Choices by their parents and names, and the names of one after another.
use Rattle.std.proofs.Common.{◌≡◌, ◌<◌, ◌+◌, ℕ, cond, List, length, take, drop, Option, Some, None, slice_get, sym, ap, ◌∙◌}
use Rattle.nc_yang_statements.proofs.Firsts.{first_none, first_some}
use Rattle.nc_yang_statements.specs.Rules.{first}
use Rattle.nc_yang_scopes.proofs.Lists.{position_next}
use Rattle.nc_yang_scopes.specs.Scopes.{Scoping}
use Rattle.nc_yang_scopes.specs.Tables.{either, number_at}
use Rattle.nc_yang_scopes.specs.declared.naming.TextFault.{TextFault}
use Rattle.nc_yang_scopes.specs.declared.table.Table.{Table}
use Rattle.nc_yang_nodes.proofs.ListLemmas.{drop_next, got}
use Rattle.nc_yang_nodes.specs.declared.planned.Planned.{Planned}
use Rattle.nc_yang_nodes.specs.declared.planned.PlannedChoice.{PlannedChoice}
use Rattle.nc_yang_data.specs.Siblings.{choice_twin, choices_from, is_called, name_at, node_twin, nodes_from, parent_of}
use Rattle.nc_yang_data.specs.declared.called.Called.{Called}
use Rattle.nc_yang_data.specs.declared.siblings.Parent.{Parent}
use Rattle.nc_yang_data.specs.declared.siblings.Parent.TheVariants.{InChoice, InNode, AtTop}
use Rattle.nc_yang_data.specs.inner.Called.{CallsEach, CallsOneMore, called_at}

-- no name in any of the three tables
pub none_called : (choices nodes top : Table) → ((at : ℕ) (word : List ℕ) → number_at choices at word ≡ None) →
    ((at : ℕ) (word : List ℕ) → number_at nodes at word ≡ None) → ((at : ℕ) (word : List ℕ) → number_at top at word ≡ None) →
    (parent : Parent) (word : List ℕ) → called_at (record { in_choices = choices; in_nodes = nodes; at_top = top }) parent word ≡ None
none_called choices nodes top one two three (InChoice at) word = one at word
none_called choices nodes top one two three (InNode at) word = two at word
none_called choices nodes top one two three (AtTop at) word = three at word

-- one choice more
pub called_next : (scoping : Scoping) (choices : List PlannedChoice) (number : ℕ) (c : PlannedChoice) (before now : Called) →
    slice_get choices number ≡ Some c → CallsOneMore before (parent_of c.module c.parent c.within) (name_at scoping c.statement) number now →
    CallsEach scoping (take number choices) before → CallsEach scoping (take (number + 1) choices) now
called_next scoping choices number c before now is more each parent word =
    more parent word
    ∙ ap (λ o. either o (cond (is_called scoping parent word c) (Some number) None)) (each parent word)
    ∙ sym (position_next (is_called scoping parent word) choices number c is)

module _ (scoping : Scoping) (choices : List PlannedChoice) where
  -- a choice without a fault, and one with a fault
  pub choice_passed : (number : ℕ) (whole : Option TextFault) → number < length choices →
      ((c : PlannedChoice) → slice_get choices number ≡ Some c → first (choice_twin scoping choices number c) ≡ None) →
      whole ≡ first (choices_from scoping choices number (drop number choices)) →
      whole ≡ first (choices_from scoping choices (number + 1) (drop (number + 1) choices))
  choice_passed number whole within none old =
      let c = got choices number within in
      old ∙ ap (λ cs. first (choices_from scoping choices number cs)) (drop_next choices number c.0 c.1)
      ∙ first_none (choice_twin scoping choices number c.0) (choices_from scoping choices (number + 1) (drop (number + 1) choices)) (none c.0 c.1)

  pub choice_stops : (number : ℕ) (whole : Option TextFault) (found : TextFault) → number < length choices →
      ((c : PlannedChoice) → slice_get choices number ≡ Some c → first (choice_twin scoping choices number c) ≡ Some found) →
      whole ≡ first (choices_from scoping choices number (drop number choices)) → Some found ≡ whole
  choice_stops number whole found within some old =
      let c = got choices number within in
      sym (old ∙ ap (λ cs. first (choices_from scoping choices number cs)) (drop_next choices number c.0 c.1)
      ∙ first_some (choice_twin scoping choices number c.0) (choices_from scoping choices (number + 1) (drop (number + 1) choices)) found (some c.0 c.1))

  -- the same of a data node
  pub node_passed : (nodes : List Planned) (number : ℕ) (whole : Option TextFault) → number < length nodes →
      ((p : Planned) → slice_get nodes number ≡ Some p → first (node_twin scoping choices number p) ≡ None) →
      whole ≡ first (nodes_from scoping choices number (drop number nodes)) →
      whole ≡ first (nodes_from scoping choices (number + 1) (drop (number + 1) nodes))
  node_passed nodes number whole within none old =
      let p = got nodes number within in
      old ∙ ap (λ ps. first (nodes_from scoping choices number ps)) (drop_next nodes number p.0 p.1)
      ∙ first_none (node_twin scoping choices number p.0) (nodes_from scoping choices (number + 1) (drop (number + 1) nodes)) (none p.0 p.1)

  pub node_stops : (nodes : List Planned) (number : ℕ) (whole : Option TextFault) (found : TextFault) → number < length nodes →
      ((p : Planned) → slice_get nodes number ≡ Some p → first (node_twin scoping choices number p) ≡ Some found) →
      whole ≡ first (nodes_from scoping choices number (drop number nodes)) → Some found ≡ whole
  node_stops nodes number whole found within some old =
      let p = got nodes number within in
      sym (old ∙ ap (λ ps. first (nodes_from scoping choices number ps)) (drop_next nodes number p.0 p.1)
      ∙ first_some (node_twin scoping choices number p.0) (nodes_from scoping choices (number + 1) (drop (number + 1) nodes)) found (some p.0 p.1))
