-- What a desk of a seat stands for is a view.
use Rattle.std.proofs.Common.{◌≡◌, ◌≤◌, ℕ, List, length, sym, subst}
use Rattle.nc_names.specs.Limits.{most_requests}
use Rattle.nc_model.specs.declared.entry.Entry.{Entry}
use Rattle.nc_model.specs.Desks.{Home, IsView}
use Rattle.nc_model.specs.History.{IsLegal, IsMineIn}
use Rattle.nc_shared.specs.Chairs.{Chair, ChairStands}

-- what a chair stands for is a view of the history
pub chair_views : (chair : Chair) (home : Home) (seen mine : List Entry) → ChairStands chair home seen mine →
    IsView home seen mine
chair_views chair home seen mine stood = record {
  legal = subst (λ (z : Home × List Entry). IsLegal 0 z.0.opening z.1)
      (λ i. (sym stood.home_is i, sym stood.seen_is i)) stood.legal;
  own = subst (λ (z : List Entry × List Entry). IsMineIn z.0 z.1) (λ i. (sym stood.mine_is i, sym stood.seen_is i))
      stood.own;
  few = subst (λ (h : List Entry). length h ≤ most_requests) (sym stood.seen_is) stood.few;
}
