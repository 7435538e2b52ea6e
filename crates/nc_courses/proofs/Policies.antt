-- The policies that are kept are those of the rows, whatever happens to a pending commit.
use Rattle.std.proofs.Common.{◌≡◌, ◌==◌, ◌&&◌, ℕ, Bool, true, false, cond, List, refl, sym, ap, ◌∙◌, Option, Some, None}
use Rattle.std.specs.Prelude.{is_some}
use Rattle.nc_names.specs.declared.path.Row.{Row}
use Rattle.nc_schema.specs.Tables.{Tables}
use Rattle.nc_protocol.specs.declared.peer.Peer.{Peer}
use Rattle.nc_model.specs.Policy.{policy_of}
use Rattle.nc_model.specs.State.{Pending}
use Rattle.nc_model.specs.declared.policy.Policy.{Policy}
use Rattle.nc_pending.specs.Pending.{followed}
use Rattle.nc_courses.specs.inner.Courses.{left_of}
use Rattle.nc_courses.specs.inner.Governing.{IsGoverned, policy_of_base}

-- what is reverted has the policy of its base
pub reverted_has : (tables : Tables) (running : List Row) (found : Pending) (policy earlier : Policy) (nobody : Peer) →
    IsGoverned tables running (Some found) policy (Some earlier) nobody →
    IsGoverned tables found.base None earlier None nobody
reverted_has tables running found policy earlier nobody governed =
    record { policy_is = inside governed.earlier_is; earlier_is = refl; nobody_is = governed.nobody_is }
  where
    inside : Some earlier ≡ Some (policy_of tables found.base) → earlier ≡ policy_of tables found.base
    inside same = cc

-- a pending commit has a policy
pub never_lost : (tables : Tables) (running rows : List Row) (pending : Option Pending) (found : Pending) (policy : Policy)
    (earlier : Option Policy) (nobody : Peer) → pending ≡ Some found → earlier ≡ None →
    IsGoverned tables running pending policy earlier nobody → IsGoverned tables rows None policy None nobody
never_lost tables running rows pending found policy earlier nobody is none governed =
    absurd (none_told (sym none ∙ (governed.earlier_is ∙ ap (policy_of_base tables) is)))
  where
    none_told : None ≡ Some (policy_of tables found.base) → ⊥
    none_told same = cc

pub none_reverted : (tables : Tables) (running : List Row) (pending : Option Pending) (policy : Policy) (earlier : Option Policy)
    (nobody : Peer) → None ≡ pending → IsGoverned tables running pending policy earlier nobody →
    IsGoverned tables running None policy earlier nobody
none_reverted tables running pending policy earlier nobody is governed = record {
  policy_is = governed.policy_is;
  earlier_is = governed.earlier_is ∙ ap (policy_of_base tables) (sym is);
  nobody_is = governed.nobody_is;
}

-- the end of a session leaves the base
left_base : (tables : Tables) (found : Pending) (number : ℕ) →
    policy_of_base tables (left_of (Some found) number) ≡ policy_of_base tables (Some found)
left_base tables found number = by (found.session == number && is_some found.token)
  where
    by : (is : Bool) → policy_of_base tables (Some (cond is (record found { session = 0 }) found)) ≡ policy_of_base tables (Some found)
    by true = refl
    by false = refl

pub left_has : (tables : Tables) (running : List Row) (found : Pending) (policy : Policy) (earlier : Option Policy) (nobody : Peer)
    (number : ℕ) → IsGoverned tables running (Some found) policy earlier nobody →
    IsGoverned tables running (left_of (Some found) number) policy earlier nobody
left_has tables running found policy earlier nobody number governed = record {
  policy_is = governed.policy_is;
  earlier_is = governed.earlier_is ∙ sym (left_base tables found number);
  nobody_is = governed.nobody_is;
}

-- a confirmed commit: a follow-up keeps the base
pub followed_has : (tables : Tables) (running rows : List Row) (found : Pending) (policy its : Policy) (earlier : Option Policy)
    (nobody : Peer) (deadline : ℕ) (token : Option (List ℕ)) (session : ℕ) → its ≡ policy_of tables rows →
    IsGoverned tables running (Some found) policy earlier nobody →
    IsGoverned tables rows (Some (followed found deadline token session)) its earlier nobody
followed_has tables running rows found policy its earlier nobody deadline token session is governed =
    record { policy_is = is; earlier_is = governed.earlier_is; nobody_is = governed.nobody_is }

-- and a first one has what was running as its base
pub begun_has : (tables : Tables) (running rows : List Row) (policy its : Policy) (earlier : Option Policy) (pending : Option Pending)
    (nobody : Peer) (deadline : ℕ) (token : Option (List ℕ)) (session : ℕ) → its ≡ policy_of tables rows →
    IsGoverned tables running pending policy earlier nobody →
    IsGoverned tables rows (Some (record { base = running; deadline = deadline; token = token; session = session })) its
    (Some policy) nobody
begun_has tables running rows policy its earlier pending nobody deadline token session is governed =
    record { policy_is = is; earlier_is = ap Some governed.policy_is; nobody_is = governed.nobody_is }

-- nothing is pending
pub run_has : (tables : Tables) (running rows : List Row) (policy its : Policy) (earlier : Option Policy) (pending : Option Pending)
    (nobody : Peer) → its ≡ policy_of tables rows → IsGoverned tables running pending policy earlier nobody →
    IsGoverned tables rows None its None nobody
run_has tables running rows policy its earlier pending nobody is governed =
    record { policy_is = is; earlier_is = refl; nobody_is = governed.nobody_is }
