-- What is left of a walk after one statement more.
use Rattle.std.proofs.Common.{◌≡◌, inl, inr, ℕ, List, [], ◌∷◌}
use Rattle.std.specs.Prelude.{Some, None, slice_get}
use Rattle.nc_yang_scopes.specs.Scopes.{Located, Scoping}
use Rattle.nc_yang_nodes.specs.declared.context.Context.{Context}
use Rattle.nc_yang_nodes.specs.declared.planned.Plan.{Plan}
use Rattle.nc_yang_nodes.specs.declared.role.Role.{Role}
use Rattle.nc_yang_nodes.specs.Roles.{FeatureTest, block, role}
use Rattle.nc_yang_nodes.specs.Expansion.{Moment, added, after, inner, none, passed, given, behind_passed, within_given, behind_given}
use Rattle.nc_yang_nodes.specs.inner.Walks.{Leads, Left, MeetsOn}
use Rattle.nc_yang_nodes.specs.inner.Tables.{Barren}

abbrev left : Context → List Located → Left
left c ls = record { context = c; statements = ls }

pub leads_self : (scoping : Scoping) (on : FeatureTest) (old : List Left) (plan : Plan) → Leads scoping on old plan old plan
leads_self scoping on old plan = record { gives = λ final h. h; meets = λ m h. h }

pub leads_on : (scoping : Scoping) (on : FeatureTest) (a b c : List Left) (p q r : Plan) → Leads scoping on a p b q → Leads scoping on b q c r → Leads scoping on a p c r
leads_on scoping on a b c p q r one two = record { gives = λ final h. one.gives final (two.gives final h); meets = λ m h. one.meets m (two.meets m h) }

module _ (scoping : Scoping) (on : FeatureTest) (fs : List Left) where
  -- a block that plans nothing
  pub leads_skip : (c : Context) (plan : Plan) (ls : List Located) → Barren scoping on ls → Leads scoping on (left c ls ∷ fs) plan fs plan
  leads_skip c plan ls barren = record { gives = λ final h. (plan, (barren c plan, h)); meets = λ m h. inr (plan, (barren c plan, h)) }

  -- the end of a block
  pub leads_end : (c : Context) (plan : Plan) → Leads scoping on (left c [] ∷ fs) plan fs plan
  leads_end c plan = record { gives = λ final h. (plan, (none c plan, h)); meets = λ m h. inr (plan, (none c plan, h)) }

  meets_passed : (c : Context) (plan : Plan) (l : Located) (rest : List Located) → role scoping.texts on l ≡ None → (m : Moment)
      → MeetsOn scoping on (left c rest ∷ fs) plan m → MeetsOn scoping on (left c (l ∷ rest) ∷ fs) plan m
  meets_passed c plan l rest e m (inl h) = inl (behind_passed c plan l rest m e h)
  meets_passed c plan l rest e m (inr h) = inr (h.0, (passed c plan h.0 l rest e h.1.0, h.1.1))

  -- a statement that gives nothing
  pub leads_passed : (c : Context) (plan : Plan) (l : Located) (rest : List Located) → role scoping.texts on l ≡ None
      → Leads scoping on (left c (l ∷ rest) ∷ fs) plan (left c rest ∷ fs) plan
  leads_passed c plan l rest e = record {
    gives = λ final h. (h.0, (passed c plan h.0 l rest e h.1.0, h.1.1));
    meets = meets_passed c plan l rest e;
  }

  meets_given : (c : Context) (plan : Plan) (l : Located) (rest : List Located) (number : ℕ) (r : Role) → slice_get scoping.located number ≡ Some l
      → role scoping.texts on l ≡ Some r → (m : Moment)
      → MeetsOn scoping on (left (inner c plan r) (block scoping.texts l r) ∷ left (after c) rest ∷ fs) (added number c r plan) m
      → MeetsOn scoping on (left c (l ∷ rest) ∷ fs) plan m
  meets_given c plan l rest number r at is m (inl h) = inl (within_given c plan l rest m number r at is h)
  meets_given c plan l rest number r at is m (inr (mid, (g, inl h))) = inl (behind_given c plan mid l rest m number r at is g h)
  meets_given c plan l rest number r at is m (inr (mid, (g, inr h))) = inr (h.0, (given c plan mid h.0 l rest number r at is g h.1.0, h.1.1))

  -- a statement that gives something
  pub leads_given : (c : Context) (plan : Plan) (l : Located) (rest : List Located) (number : ℕ) (r : Role) → slice_get scoping.located number ≡ Some l
      → role scoping.texts on l ≡ Some r
      → Leads scoping on (left c (l ∷ rest) ∷ fs) plan (left (inner c plan r) (block scoping.texts l r) ∷ left (after c) rest ∷ fs) (added number c r plan)
  leads_given c plan l rest number r at is = record {
    gives = λ final h. (h.1.1.0, (given c plan h.0 h.1.1.0 l rest number r at is h.1.0 h.1.1.1.0, h.1.1.1.1));
    meets = meets_given c plan l rest number r at is;
  }
