-- What a machine and its clock stand for is a view.
use Rattle.std.proofs.Common.{◌≡◌, ◌<◌, ℕ, zero, suc, List, [], ◌∷◌, ◌++◌, length, take, drop, refl, sym, ap, subst, arith}
use Rattle.std.specs.Prelude.{slice_index_or}
use Rattle.std.proofs.lemmas.List.{get_or_default, length-take-le}
use Rattle.std.specs.Coded.{Coded}
use Rattle.std.specs.List.{Contains}
use Rattle.nc_model.specs.declared.entry.Entry.{Entry}
use Rattle.nc_model.specs.Desks.{Home, IsView, is_own, own_of}
use Rattle.nc_model.specs.History.{IsLegal, IsMineIn}
use Rattle.nc_model.specs.State.{State}
use Rattle.nc_protocol.proofs.ListLemmas.{all_filter, pairs_filter}
use Rattle.nc_machine.specs.Lasting.{Lasting}
use Rattle.nc_machine.specs.Seats.{Seat, SoloStands}

cut : {X : Type 0} (xs : List X) (i : ℕ) (d : X) → i < length xs →
    xs ≡ take i xs ++ slice_index_or xs i d ∷ drop (suc i) xs
cut [] i d within = absurd (omega (arith, within))
cut (x ∷ xs) zero d within = refl
cut (x ∷ xs) (suc i) d within = ap (λ r. x ∷ r) (cut xs i d (omega (arith, within)))

number_at : (opening : State) (seen : List Entry) (i : ℕ) (d : Entry) → IsLegal 0 opening seen → i < length seen →
    (slice_index_or seen i d).number ≡ i
number_at opening seen i d legal within =
    omega (
      arith,
      (legal (take i seen) (drop (suc i) seen) (slice_index_or seen i d) (cut seen i d within)).0,
      length-take-le i seen (omega (arith, within)),
    )

own_is_mine : (opening : State) (seen : List Entry) → IsLegal 0 opening seen → IsMineIn (own_of seen) seen
own_is_mine opening seen legal = record {
  rise = pairs_filter (λ (e : Entry) (later : Entry). e.number < later.number) (λ (e : Entry). is_own e.event) seen
      (λ i j d less within. omega (
        arith,
        less,
        number_at opening seen i d legal (omega (arith, less, within)),
        number_at opening seen j d legal within,
      ));
  there = all_filter (Contains seen) (λ (e : Entry). is_own e.event) seen
      (λ k d within. (k, within, get_or_default seen k (slice_index_or seen k d) d within));
}

-- what the desk of one session stands for is a view of the history
pub solo_views : {K : Type 0} (coded : Coded K) (words : Lasting K) (seat : Seat K) (home : Home)
    (seen mine : List Entry) →
    SoloStands coded words seat home seen mine → IsView home seen mine
solo_views coded words seat home seen mine stood = record {
  legal = stood.machine_stands.legal;
  own = subst (λ (m : List Entry). IsMineIn m seen) (sym stood.mine_is)
      (own_is_mine home.opening seen stood.machine_stands.legal);
  few = stood.few;
}
