-- Room for one more.
use Rattle.std.proofs.Common.{◌≡◌, ◌+◌, ◌<◌, ◌≤◌, ◌&&◌, ℕ, Bool, true, false, length, refl, arith}
use Rattle.std.specs.Prelude.{Some, nat_lt}
use Rattle.std.proofs.lemmas.List.{length-append}
use Rattle.std.proofs.lemmas.List.Elements.{All-pop, All-push}
use Rattle.std.proofs.lemmas.Bool.Decides.{nat_tests}
use Rattle.nc_names.proofs.SameLemmas.{first_true, second_true}
use Rattle.nc_yang_nodes.specs.declared.context.Context.{Context}
use Rattle.nc_yang_nodes.specs.declared.planned.Plan.{Plan}
use Rattle.nc_yang_nodes.specs.declared.planned.Planned.{Planned}
use Rattle.nc_yang_nodes.specs.declared.planned.PlannedChoice.{PlannedChoice}
use Rattle.nc_yang_nodes.specs.declared.role.Role.{Role}
use Rattle.nc_yang_nodes.specs.declared.role.Role.TheVariants.{Node, Choice, Case, Uses}
use Rattle.nc_yang_nodes.specs.Expansion.{added, within}
use Rattle.nc_yang_nodes.specs.Denials.{together}
use Rattle.nc_yang_nodes.specs.Plans.{HasRoom}
use Rattle.nc_yang_nodes.specs.inner.Rooms.{fits, has_place}

below : (a b : ℕ) → nat_lt a b ≡ true → a < b
below a b e = grind (arith, nat_tests)

not_below : (a b : ℕ) → nat_lt a b ≡ false → b ≤ a
not_below a b e = grind (arith, nat_tests)

-- one data node or choice more
grown : (n m k limit : ℕ) → k ≡ n + 1 → n + m < limit → k + m ≤ limit
grown n m k limit e h = omega arith

pub room_more : (plan : Plan) (c : Context) (r : Role) (number : ℕ) → fits plan c r ≡ true → HasRoom plan → HasRoom (added number c r plan)
room_more plan c (Node deny) number e room = record {
  few = let l : length plan.nodes + length plan.choices < 1000000 = below _ _ (first_true (has_place plan) (nat_lt c.level 64) e) in simp length-append (omega arith);
  shallow =
      All-push (λ (n : Planned). n.level < 64) plan.nodes
      (record { statement = number; «module» = c.module; parent = c.parent; level = c.level; cases = within c; deny = together c.deny deny }) room.shallow (below _ _ (second_true (has_place plan) (nat_lt c.level 64) e));
}
room_more plan c (Choice deny) number e room = record {
  few = let l : length plan.nodes + length plan.choices < 1000000 = below _ _ e in simp length-append (omega arith);
  shallow = room.shallow;
}
room_more plan c (Case deny) number e room = room
room_more plan c (Uses deny) number e room = room

pub no_room : (plan : Plan) (c : Context) (r : Role) (number : ℕ) → fits plan c r ≡ false → HasRoom (added number c r plan) → ⊥
no_room plan c (Node deny) number e room = by (has_place plan) refl e
  where
    one : Planned
    one = record { statement = number; «module» = c.module; parent = c.parent; level = c.level; cases = within c; deny = together c.deny deny }

    by : (b : Bool) → has_place plan ≡ b → (b && nat_lt c.level 64) ≡ false → ⊥
    by false full e' =
        let l : 1000000 ≤ length plan.nodes + length plan.choices = not_below _ _ full in
        let few = room.few in
        omega (arith, length-append {A = Planned})
    by true free e' =
        let deep : 64 ≤ c.level = not_below _ _ e' in
        let p = All-pop (λ (n : Planned). n.level < 64) _ plan.nodes (Some one) refl room.shallow in
        let low : c.level < 64 = p.1 in
        omega arith
no_room plan c (Choice deny) number e room =
    let l : 1000000 ≤ length plan.nodes + length plan.choices = not_below _ _ e in
    let few = room.few in
    omega (arith, length-append {A = PlannedChoice})
no_room plan c (Case deny) number e room = absurd (cc)
no_room plan c (Uses deny) number e room = absurd (cc)
