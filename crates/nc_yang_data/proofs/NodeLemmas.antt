-- Planned nodes one after another, with their leafs and the rules that they break.
use Rattle.std.proofs.Common.{◌≡◌, ◌<◌, ◌+◌, ◌++◌, ℕ, List, [], ◌∷◌, length, drop, get_or, Option, Some, None, sym, ap, subst, ◌∙◌, append_assoc}
use Rattle.std.proofs.lemmas.List.{drop_more}
use Rattle.nc_schema.specs.Tables.{Tables}
use Rattle.nc_schema.specs.declared.node.Node.{Node}
use Rattle.nc_yang_statements.proofs.Firsts.{first_none, first_some}
use Rattle.nc_yang_statements.specs.Rules.{first}
use Rattle.nc_yang_scopes.specs.Scopes.{Scoping}
use Rattle.nc_yang_scopes.specs.declared.naming.TextFault.{TextFault}
use Rattle.nc_yang_nodes.specs.declared.planned.Planned.{Planned}
use Rattle.nc_yang_data.specs.Data.{node_at, nodes_from, with_leafs}
use Rattle.nc_yang_data.specs.Drafts.{draft_at}
use Rattle.nc_yang_data.specs.Leafs.{CaseTest}
use Rattle.nc_yang_data.specs.Places.{faults_at, faults_from, leafs_at}
use Rattle.nc_yang_data.specs.declared.place.Leafs.{Leafs}
use Rattle.nc_yang_statements.specs.Stops.{OnBroken}
use Rattle.nc_yang_statements.specs.declared.stop.Stop.{Stop}
use Rattle.nc_yang_statements.specs.declared.stop.Stop.TheVariants.{Broken, Memory}

pub next_is : (items : List Planned) (i : ℕ) (p : Planned) → i < length items → p ≡ get_or items i p → drop i items ≡ p ∷ drop (i + 1) items
next_is items i p within is = drop_more items i p within ∙ ap (λ (z : Planned). z ∷ drop (i + 1) items) (sym is)

-- the number of the next data node, by which it has its leafs, or a fault
module _ (scoping : Scoping) (tables : Tables) (named : CaseTest) (n m : ℕ) (same : n ≡ m) where
  pub fault_here : (statement : ℕ) (fault : Stop TextFault) →
      OnBroken (λ (found : TextFault). Some found ≡ first (faults_at scoping tables named n statement)) fault →
      OnBroken (λ (found : TextFault). Some found ≡ first (faults_at scoping tables named m statement)) fault
  fault_here statement fault h =
      subst (λ k. OnBroken (λ (found : TextFault). Some found ≡ first (faults_at scoping tables named k statement)) fault) same h

  pub node_here : (p : Planned) (leafs : Leafs) (node : Node) (before now : Tables) →
      (leafs ≡ leafs_at scoping tables named n p.statement) × (first (faults_at scoping tables named n p.statement) ≡ None) →
      node ≡ with_leafs (draft_at scoping p) leafs → now ≡ record before { nodes = before.nodes ++ node ∷ [] } →
      (now ≡ record before { nodes = before.nodes ++ node_at scoping tables named m p ∷ [] })
      × (first (faults_at scoping tables named m p.statement) ≡ None)
  node_here p leafs node before now h is new =
      let its : leafs ≡ leafs_at scoping tables named m p.statement = h.0 ∙ ap (λ k. leafs_at scoping tables named k p.statement) same in
      let whole : node ≡ node_at scoping tables named m p = is ∙ ap (λ (l : Leafs). with_leafs (draft_at scoping p) l) its in (
        new ∙ ap (λ (z : Node). record before { nodes = before.nodes ++ z ∷ [] }) whole,
        subst (λ k. first (faults_at scoping tables named k p.statement) ≡ None) same h.1,
      )

module _ (scoping : Scoping) (tables : Tables) (named : CaseTest) (items : List Planned) (i n : ℕ) (p : Planned) (next : drop i items ≡ p ∷ drop (i + 1) items) (count : n ≡ i) where
  pub nodes_more : (whole before now : List Node) → now ≡ before ++ node_at scoping tables named n p ∷ [] →
      whole ≡ before ++ nodes_from scoping tables named i (drop i items) → whole ≡ now ++ nodes_from scoping tables named (i + 1) (drop (i + 1) items)
  nodes_more whole before now new old =
      old ∙ ap (λ ps. before ++ nodes_from scoping tables named i ps) next
      ∙ sym (append_assoc before (node_at scoping tables named i p ∷ []) (nodes_from scoping tables named (i + 1) (drop (i + 1) items)))
      ∙ ap (λ (ns : List Node). ns ++ nodes_from scoping tables named (i + 1) (drop (i + 1) items))
      (ap (λ k. before ++ node_at scoping tables named k p ∷ []) (sym count) ∙ sym new)

  faults_next : first (faults_from scoping tables named i (drop i items)) ≡ first (faults_at scoping tables named i p.statement ++ faults_from scoping tables named (i + 1) (drop (i + 1) items))
  faults_next = ap (λ ps. first (faults_from scoping tables named i ps)) next

  pub faults_more : (whole : Option TextFault) → first (faults_at scoping tables named n p.statement) ≡ None →
      whole ≡ first (faults_from scoping tables named i (drop i items)) → whole ≡ first (faults_from scoping tables named (i + 1) (drop (i + 1) items))
  faults_more whole none old =
      old ∙ faults_next
      ∙ first_none (faults_at scoping tables named i p.statement) (faults_from scoping tables named (i + 1) (drop (i + 1) items))
      (subst (λ k. first (faults_at scoping tables named k p.statement) ≡ None) count none)

  pub faults_stop : (whole : Option TextFault) (fault : Stop TextFault) →
      OnBroken (λ (found : TextFault). Some found ≡ first (faults_at scoping tables named n p.statement)) fault →
      whole ≡ first (faults_from scoping tables named i (drop i items)) → OnBroken (λ (found : TextFault). Some found ≡ whole) fault
  faults_stop whole Memory h old = _
  faults_stop whole (Broken found) h old =
      let here : first (faults_at scoping tables named i p.statement) ≡ Some found = sym (subst (λ k. Some found ≡ first (faults_at scoping tables named k p.statement)) count h) in
      sym (old ∙ faults_next ∙ first_some (faults_at scoping tables named i p.statement) (faults_from scoping tables named (i + 1) (drop (i + 1) items)) found here)
