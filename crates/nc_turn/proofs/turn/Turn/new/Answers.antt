use Rattle.std.proofs.Common.{rules, ◌≡◌, [], ◌∷◌, Option, Some, List, ℕ, ◌<◌, ◌≤◌, length, arith, sym, ap, ◌∙◌, subst}
use Rattle.nc_model.specs.declared.entry.Entry.{Entry}
use Rattle.nc_names.specs.Limits.{most_requests}
use Rattle.nc_model.specs.History.{IsLegal, IsMineIn}
use Rattle.nc_turn.proofs.Histories.{none_legal, none_in}
use Rattle.atomic_table.specs.Table.{opening}
use Rattle.nc_turn.specs.inner.Turning.{IsTurning}
use Rattle.nc_turn.specs.Views.{first_view}
use Rattle.nc_turn.proofs.Kept.{starts}
use Rattle.nc_turn.proofs.turn.Turn.new.Goals as goal

pub new-requires : goal.new-requires
new-requires g c =
    let v = c.of-about.result.value in
    let same : v ≡ c.args.value = search rules in
    let slots : c.push.new.self.items ≡ Some v ∷ [] = search rules in
    subst (λ (xs : List (Option g.row.T.Denot)). IsTurning g.T.Stands.home g.T.Stands.stands v (opening (1 ∷ 1 ∷ 0 ∷ []) xs (first_view v))) (sym slots)
    (starts g.T.Stands.home g.T.Stands.stands v (subst (λ (x : g.row.T.Denot). g.T.Stands.stands x []) (sym same) c.requires))

pub returns-in-Ok-new-clause-made : goal.returns-in-Ok-new-clause-made
returns-in-Ok-new-clause-made g c =
    let v : c.in-Ok-new.pass.me.0 ≡ first_view c.args.value = search rules in
    let first : c.in-Ok-new.table.shared.key.value ≡ c.args.value = search rules in (
      record {
        at = record {
          table = search rules;
          value = c.args.value;
          first = ap (λ u. u.first) v;
          same = ap g.T.Stands.home (sym first);
          live = subst (λ (n : ℕ). 0 < n) (sym (ap (λ u. u.parts) v)) (omega arith);
        };
        legal = subst (λ (h : List Entry). IsLegal 0 (g.T.Stands.home c.in-Ok-new.table.shared.key.value).opening h) (sym (ap (λ u. u.seen) v)) (none_legal _);
        own = subst (λ (z : List Entry × List Entry). IsMineIn z.0 z.1) (λ i. (sym (ap (λ u. u.mine) v) i, sym (ap (λ u. u.seen) v) i)) (none_in []);
        few = subst (λ (h : List Entry). length h ≤ most_requests) (sym (ap (λ u. u.seen) v)) (omega arith);
      },
      record { none = search rules; ticket = ap (λ u. u.ticket) v; holds = ap (λ u. u.holds) v },
      v,
      first,
    )
