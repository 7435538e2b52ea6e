-- A desk that is given, one that is given back, and the pass that is left, are of the machine.
use Rattle.std.proofs.Common.{◌≡◌, ◌≤◌, ◌<◌, ◌+◌, ◌-◌, ◌++◌, ℕ, List, refl, sym, ap, ◌∙◌, subst, arith}
use Rattle.std.proofs.lemmas.List.Elements.{All-append, All-nil}
use Rattle.atomic_table.specs.Seated.{TableId}
use Rattle.nc_model.specs.declared.entry.Entry.{Entry}
use Rattle.nc_model.specs.Desks.{Home}
use Rattle.nc_turn.specs.Passes.{Pass, view}
use Rattle.nc_turn.specs.Views.{all_parts, newcomer}
use Rattle.nc_server.specs.Homes.{BeginsNoRecovery, HaveNoRecovery, IsAtHome}
use Rattle.nc_shared.specs.declared.shared.Shared.{Shared}
use Rattle.nc_shared.specs.Chairs.{Chair, ChairStands, chair_of, desk_home, IsLeft, IsPassOf}
use Rattle.nc_shared.proofs.SameDesks.{same_desk, sits}
use Rattle.nc_shared.specs.Offices.{IsFinished, Office, as_one, office_of}

-- how many parts there are, with one fewer and with one more
pub has_room : (parts out : ℕ) → all_parts - parts ≡ out → out < all_parts - 1 → 1 < parts
has_room parts out is low = omega (arith, is, low)

pub one_out : (parts now out : ℕ) → now ≡ parts - 1 → 1 < parts → parts ≤ all_parts → all_parts - parts ≡ out →
    (all_parts - now ≡ out + 1) × (now ≤ all_parts)
one_out parts now out less room few is = (omega (arith, less, room, few, is), omega (arith, less, few))

pub one_back : (parts now out : ℕ) → now ≡ parts + 1 → 0 < out → all_parts - parts ≡ out →
    (all_parts - now + 1 ≡ out) × (now ≤ all_parts)
one_back parts now out more some is = (omega (arith, more, some, is), omega (arith, more, some, is))

module _ {T : Type 0} (home : T → Home) where
  -- a pass of a machine with another number of parts
  one_of : (shared : Shared T) (pass : Pass T) → IsPassOf home shared pass →
      IsPassOf home shared (as_one pass)
  one_of shared pass it = record {
    of = record {
      at = record {
        table = it.of.at.table;
        value = it.of.at.value;
        first = it.of.at.first;
        same = it.of.at.same;
        live = omega arith;
      };
      legal = it.of.legal;
      own = it.of.own;
      few = it.of.few;
    };
    idle = record { none = it.idle.none; ticket = it.idle.ticket; holds = it.idle.holds };
  }

  all_of : (shared : Shared T) (pass : Pass T) → 0 < (view pass).parts →
      IsPassOf home shared (as_one pass) → IsPassOf home shared pass
  all_of shared pass live it = record {
    of = record {
      at = record {
        table = it.of.at.table;
        value = it.of.at.value;
        first = it.of.at.first;
        same = it.of.at.same;
        live = live;
      };
      legal = it.of.legal;
      own = it.of.own;
      few = it.of.few;
    };
    idle = record { none = it.idle.none; ticket = it.idle.ticket; holds = it.idle.holds };
  }

  module _ (shared : Shared T) (pass : Pass T) where
    abbrev here : Home
    here = (office_of home shared pass).home

    -- another pass of this machine gives desks of the same home
    pub same_office : (other : Pass T) → IsPassOf home shared pass → IsPassOf home shared other →
        (office_of home shared other).home ≡ here
    same_office other mine it =
        ap (λ (t : TableId). desk_home (record (chair_of home shared (as_one pass)) { table = t }))
        (it.of.at.table ∙ sym mine.of.at.table)

    -- the desk of a new pass is of that home
    pub given_out : (other : Pass T) (chair : Chair) → IsPassOf home shared pass →
        IsPassOf home shared other → view other ≡ newcomer (view pass) → chair ≡ chair_of home shared other →
        IsAtHome (ChairStands chair) here
    given_out other chair mine it new is =
        let parts : (view other).parts ≡ 1 = ap (λ v. v.parts) new in
        let table : other.table_id ≡ pass.table_id = it.of.at.table ∙ sym mine.of.at.table in
        let same : desk_home (chair_of home shared other) ≡ here =
        λ i. desk_home (record (chair_of home shared (as_one pass)) { table = table i; parts = parts i }) in (
          (view other).seen,
          (view other).mine,
          subst (λ (h : Home). ChairStands chair h (view other).seen (view other).mine) same
              (sits home shared other chair it (ap (λ v. v.gathered) new ∙ sym (ap (λ v. v.mine) new)) is),
          subst HaveNoRecovery (sym (ap (λ v. v.mine) new)) (All-nil (λ (e : Entry). BeginsNoRecovery e.event)),
        )

    -- a desk of that home has one part of this machine's pass
    pub given_back : (chair : Chair) (theirs : Pass T) → here ≡ desk_home chair → IsPassOf home shared pass →
        IsLeft home chair theirs → IsPassOf home shared theirs × ((view theirs).parts ≡ 1)
    given_back chair theirs whole mine left =
        same_desk home shared (as_one pass) chair theirs whole (one_of shared pass mine) left

    -- what was gathered with the pass of a desk, and with this one, begins no recovery session
    pub plain_together : (chair : Chair) (theirs : Pass T) (gathered : List Entry) (at : Home) →
        (desk : IsAtHome (ChairStands chair) at) → IsLeft home chair theirs → HaveNoRecovery (view pass).gathered →
        gathered ≡ (view pass).gathered ++ (view theirs).gathered → HaveNoRecovery gathered
    plain_together chair theirs gathered at desk left had joined =
        let stood = desk.2 in
        let theirs_is : desk.1 ≡ (view theirs).gathered =
        stood.mine_is ∙ sym stood.alone ∙ ap (λ (c : Chair). c.gathered) left.chair_is in
        subst HaveNoRecovery (sym joined)
        (All-append (λ (e : Entry). BeginsNoRecovery e.event) (view pass).gathered (view theirs).gathered had
        (subst HaveNoRecovery theirs_is desk.3))

    -- the pass that is left once no desk is out has all parts
    pub finished : (office : Office) (last : Pass T) → here ≡ office.home → office.out ≡ 0 →
        IsPassOf home shared pass → IsFinished home office last →
        IsPassOf home shared last × ((view last).parts ≡ all_parts) × HaveNoRecovery (view last).gathered
    finished office last whole none mine done =
        let chair = chair_of home done.shared (as_one last) in
        let same : here ≡ desk_home chair = whole ∙ ap (λ (o : Office). o.home) done.office_is in
        let left : IsLeft home chair (as_one last) = record {
          shared = done.shared;
          of = one_of done.shared last done.of;
          chair_is = refl;
        } in
        let it = same_desk home shared (as_one pass) chair (as_one last) same (one_of shared pass mine) left in
        let out : all_parts - (view last).parts ≡ 0 = sym (ap (λ (o : Office). o.out) done.office_is) ∙ none in
        (all_of shared last done.of.of.at.live it.0, omega (arith, out, done.few), done.plain)
