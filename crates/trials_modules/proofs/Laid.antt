-- A plan of modules exists, where their statements give one by computation, no grouping is used and the limits are kept.
use Rattle.std.proofs.Common.{◌≡◌, ◌<◌, ◌≤◌, ◌+◌, ◌&&◌, ℕ, zero, suc, not, cond, Bool, true, false, List, [], ◌∷◌, length, map, refl, sym, ap, subst, ◌∙◌, arith}
use Rattle.std.specs.Prelude.{Option, Some, None, MatchOption, nat_lt, option_and_then, slice_get}
use Rattle.std.specs.List.{All, list_all}
use Rattle.std.specs.Option.{option_map_or}
use Rattle.std.proofs.lemmas.Bool.Decides.{nat_tests}
use Rattle.std.proofs.lemmas.List.{length-map}
use Rattle.std.proofs.lemmas.List.Elements.{All-cons, All-nil}
use Rattle.std.proofs.lemmas.Option.{slice_get-map}
use Rattle.nc_schema.specs.declared.node.Deny.{Deny}
use Rattle.nc_yang_words.specs.declared.statement.Statement.{Statement}
use Rattle.nc_yang_statements.specs.declared.keyword.Keyword.{Keyword}
use Rattle.nc_yang_statements.specs.declared.keyword.Keyword.TheVariants.{Uses as UsesWord}
use Rattle.nc_yang_statements.specs.Statements.{below, kind}
use Rattle.nc_yang_scopes.specs.Numbers.{roots}
use Rattle.nc_yang_scopes.specs.Scopes.{Located, Scoping, child, root, inside as place_inside}
use Rattle.nc_yang_scopes.specs.States.{is_state}
use Rattle.nc_yang_nodes.specs.Alike.{SeenNode, seen_choice, seen_node}
use Rattle.nc_yang_nodes.specs.Denials.{denial}
use Rattle.nc_yang_nodes.specs.Expansion.{Gives, Moment, added, after, at_top, given, inner, none, passed}
use Rattle.nc_yang_nodes.specs.Plans.{GivesTexts, IsPlan, most_levels, most_nodes, no_text, nothing, one_more}
use Rattle.nc_yang_nodes.specs.Roles.{FeatureTest, block, children, is_supported, role}
use Rattle.nc_yang_nodes.specs.declared.planned.Plan.{Plan}
use Rattle.nc_yang_nodes.specs.declared.planned.Planned.{Planned}
use Rattle.trials_modules.proofs.Given.{Agrees, Part, Seen, by_support, given_by, given_in, gives_case, gives_choice, gives_node, gives_seen, gives_uses, inner_spot, inside_of, next_spot, no_part, part, part_by, seen, spot, top_spot, with_seen}
use Rattle.trials_modules.proofs.Kept.{left_of, right_of}
use Rattle.trials_modules.proofs.Numbered.{End, numbered}
use Rattle.trials_modules.proofs.Reached.{HasNumber, child_number, root_number}

option_cases : {A P : Type 0} (o : Option A) → (o ≡ None → P) → ((x : A) → o ≡ Some x → P) → P
option_cases None lacks has = lacks refl
option_cases (Some x) lacks has = has x refl

is_less : (a b : ℕ) → nat_lt a b ≡ true → a < b
is_less a b e = grind (arith, nat_tests)

-- ---- no grouping is used
abbrev pub is_no_use : Keyword → Bool
is_no_use UsesWord = false
is_no_use keyword = true

-- what a statement that uses none gives stands in it
abbrev IsNoUse : Part → Type 0
IsNoUse (gives_uses deny) = ⊥
IsNoUse r = Unit {0}

no_use_by : (deny : Deny) (k : Keyword) → is_no_use k ≡ true → MatchOption (part_by deny k) (Unit {0}) IsNoUse
no_use_by deny UsesWord e = absurd (cc)
no_use_by deny k e = tt

no_use_if : (b : Bool) (deny : Deny) (k : Keyword) → is_no_use k ≡ true → MatchOption (cond b (part_by deny k) None) (Unit {0}) IsNoUse
no_use_if true deny k e = no_use_by deny k e
no_use_if false deny k e = tt

directly_in : (texts : List Statement) (l : Located) (r : Part) → IsNoUse r → inside_of texts l r ≡ children l
directly_in texts l (gives_node deny) e = refl
directly_in texts l (gives_choice deny) e = refl
directly_in texts l (gives_case deny) e = refl
directly_in texts l (gives_uses deny) e = absurd e

child_is : (l c : Located) (place : ℕ) → slice_get (children l) place ≡ Some c → child place l ≡ Some c
child_is l c place is =
    sym (slice_get-map (λ (s : Statement). let it : Located = record { statement = s; place = place_inside l } in it) (below l.statement) place) ∙ is

-- a data node keeps the limit on levels
abbrev pub is_shallow : SeenNode → Bool
is_shallow n = nat_lt n.level most_levels

module _ (texts : List Statement) (more : ℕ) (ends : End more 0 (roots 0 texts)) (on : FeatureTest)
    (no_uses : (l : Located) → HasNumber (numbered texts more) l → is_no_use (kind l.statement) ≡ true) where
  abbrev scoping : Scoping
  scoping = numbered texts more

  abbrev AreNumbered : List Located → Type 0
  AreNumbered ls = (place : ℕ) (l : Located) → slice_get ls place ≡ Some l → HasNumber scoping l

  block_numbered : (l : Located) (r : Part) (blk : List Located) → HasNumber scoping l → part texts on l ≡ Some r → blk ≡ inside_of texts l r → AreNumbered blk
  block_numbered l r blk has is same place c there =
      let no_use : IsNoUse r = subst (λ o. MatchOption o (Unit {0}) IsNoUse) is
      (no_use_if (is_supported texts on l && not (is_state l.statement)) (denial texts l) (kind l.statement) (no_uses l has)) in
      child_number texts more ends l c place has
      (child_is l c place (ap (λ z. slice_get z place) (sym (same ∙ directly_in texts l r no_use)) ∙ there))

  pub record Gave (m : Moment) (p : Plan) (ls : List Located) : Type 0 where
    pub plan : Plan
    pub gives : Gives scoping on m.context p ls plan

  pub gives_exist : (steps : ℕ) (m : Moment) (p : Plan) (ls : List Located) (s : Seen) → AreNumbered ls →
      given_by texts on steps (spot m) (seen scoping p) ls ≡ Some s → Gave m p ls
  gives_exist zero m p ls s numbers e = absurd (cc)
  gives_exist (suc steps) m p [] s numbers e = record { plan = p; gives = none m.context p }
  gives_exist (suc steps) m p (l ∷ rest) s numbers e =
      option_cases (role texts on l)
      (λ is.
      let skipped = gives_exist steps m p rest s (λ place. numbers (suc place))
      (sym (ap (λ o. option_map_or
      (λ r. option_and_then (λ mid. given_by texts on steps (next_spot (spot m)) mid rest)
      (given_by texts on steps (inner_spot (spot m) (seen scoping p) r) (with_seen l (spot m) r (seen scoping p)) (inside_of texts l r)))
      o (given_by texts on steps (spot m) (seen scoping p) rest)) (no_part scoping on m p l is)) ∙ e) in
      record { plan = skipped.plan; gives = passed m.context p skipped.plan l rest is skipped.gives })
      (λ z is.
      let agreed = subst (λ o. MatchOption o (part texts on l ≡ None) (λ x. MatchOption (part texts on l) ⊥ (λ r.
      Agrees scoping on m p l (λ n. added n m.context x p) (spot (record { context = inner m.context p x; before = p; statement = l })) (block texts l x) r))) is
      (by_support scoping on m p l (is_supported texts on l && not (is_state l.statement)) (denial texts l) (kind l.statement)) in
      let inside : Moment = record { context = inner m.context p z; before = p; statement = l } in
      let behind : Moment = record { context = after m.context; before = p; statement = l } in
      let at = numbers 0 l refl in
      option_cases (part texts on l)
      (λ lacks. absurd (subst (λ o. MatchOption o ⊥ (λ r. Agrees scoping on m p l (λ n. added n m.context z p) (spot inside) (block texts l z) r)) lacks agreed))
      (λ r has.
      let agrees : Agrees scoping on m p l (λ n. added n m.context z p) (spot inside) (block texts l z) r
      = subst (λ o. MatchOption o ⊥ (λ r. Agrees scoping on m p l (λ n. added n m.context z p) (spot inside) (block texts l z) r)) has agreed in
      let now = sym (ap (λ o. option_map_or
      (λ r. option_and_then (λ mid. given_by texts on steps (next_spot (spot m)) mid rest)
      (given_by texts on steps (inner_spot (spot m) (seen scoping p) r) (with_seen l (spot m) r (seen scoping p)) (inside_of texts l r)))
      o (given_by texts on steps (spot m) (seen scoping p) rest)) has) ∙ e in
      option_cases (given_by texts on steps (inner_spot (spot m) (seen scoping p) r) (with_seen l (spot m) r (seen scoping p)) (inside_of texts l r))
      (λ lacks. absurd (let none_now = sym (ap (option_and_then (λ mid. given_by texts on steps (next_spot (spot m)) mid rest)) lacks) ∙ now in cc))
      (λ mid is_mid.
      let within : given_by texts on steps (spot inside) (seen scoping (added at.0 m.context z p)) (block texts l z) ≡ Some mid
      = (λ i. given_by texts on steps (agrees.stands i) (agrees.adds at.0 at.1 i) (agrees.has i)) ∙ is_mid in
      let first = gives_exist steps inside (added at.0 m.context z p) (block texts l z) mid (block_numbered l r (block texts l z) at has agrees.has) within in
      let first_is = gives_seen scoping on steps inside (added at.0 m.context z p) first.plan (block texts l z) mid first.gives within in
      let last = gives_exist steps behind first.plan rest s (λ place. numbers (suc place))
      ((λ i. given_by texts on steps (next_spot (spot m)) (first_is i) rest)
      ∙ sym (ap (option_and_then (λ mid. given_by texts on steps (next_spot (spot m)) mid rest)) is_mid) ∙ now) in
      record { plan = last.plan; gives = given m.context p first.plan last.plan l rest at.0 z at.1 is first.gives last.gives })))

  -- ---- texts
  pub record GaveTexts (count : ℕ) (s : Seen) : Type 0 where
    pub laid : Plan
    pub from_texts : GivesTexts scoping on count laid
    pub seen_so : seen scoping laid ≡ s

  texts_exist : (steps count : ℕ) (s : Seen) → given_in texts on steps count ≡ Some s → GaveTexts count s
  texts_exist steps zero s e = record { laid = nothing; from_texts = no_text; seen_so = cc }
  texts_exist steps (suc count) s e =
      option_cases (given_in texts on steps count)
      (λ lacks. absurd (let none_now = sym (ap (option_and_then (λ z. option_and_then (λ top. given_by texts on steps (top_spot count) z (children top)) (root texts count))) lacks) ∙ e in cc))
      (λ first is_first.
      let now : option_and_then (λ top. given_by texts on steps (top_spot count) first (children top)) (root texts count) ≡ Some s
      = sym (ap (option_and_then (λ z. option_and_then (λ top. given_by texts on steps (top_spot count) z (children top)) (root texts count))) is_first) ∙ e in
      option_cases (root texts count)
      (λ lacks. absurd (let none_now = sym (ap (option_and_then (λ top. given_by texts on steps (top_spot count) first (children top))) lacks) ∙ now in cc))
      (λ top is_top.
      let before = texts_exist steps count first is_first in
      let begin : Moment = record { context = at_top count; before = before.laid; statement = top } in
      let more_now : given_by texts on steps (spot begin) (seen scoping before.laid) (children top) ≡ Some s
      = (λ i. given_by texts on steps (top_spot count) (before.seen_so i) (children top))
      ∙ sym (ap (option_and_then (λ top. given_by texts on steps (top_spot count) first (children top))) is_top) ∙ now in
      let gave = gives_exist steps begin before.laid (children top) s
      (λ place l there. child_number texts more ends top l place (root_number texts more ends count top is_top) (child_is top l place there)) more_now in
      let one : count + 1 ≡ suc count = omega arith in
      record {
        laid = gave.plan;
        from_texts = subst (λ n. GivesTexts scoping on n gave.plan) one (one_more count before.laid gave.plan top before.from_texts is_top gave.gives);
        seen_so = gives_seen scoping on steps begin before.laid gave.plan (children top) s gave.gives more_now;
      }))

  -- ---- the limits
  all_shallow : (ps : List Planned) → list_all is_shallow (map (seen_node scoping) ps) ≡ true → All (λ n. n.level < most_levels) ps
  all_shallow [] e = All-nil (λ (n : Planned). n.level < most_levels)
  all_shallow (p ∷ ps) e =
      let first : nat_lt p.level most_levels ≡ true = left_of (nat_lt p.level most_levels) (list_all is_shallow (map (seen_node scoping) ps)) e in
      All-cons (λ (n : Planned). n.level < most_levels) p ps (is_less p.level most_levels first)
      (all_shallow ps (right_of (nat_lt p.level most_levels) (list_all is_shallow (map (seen_node scoping) ps)) e))

  pub record Laid (s : Seen) : Type 0 where
    pub plan : Plan
    pub is : IsPlan scoping on plan
    pub seen_so : seen scoping plan ≡ s

  pub plan_exists : (steps : ℕ) (s : Seen) → given_in texts on steps (length texts) ≡ Some s → length s.nodes + length s.choices ≤ most_nodes →
      list_all is_shallow s.nodes ≡ true → Laid s
  plan_exists steps s e few shallow =
      let gave = texts_exist steps (length texts) s e in
      let many = sym (length-map gave.laid.nodes (seen_node scoping)) ∙ ap (λ (z : Seen). length z.nodes) gave.seen_so in
      let more_choices = sym (length-map gave.laid.choices (seen_choice scoping)) ∙ ap (λ (z : Seen). length z.choices) gave.seen_so in
      record {
        plan = gave.laid;
        is = record {
          gives = gave.from_texts;
          room = record {
            few = subst (λ n. n ≤ most_nodes) (λ i. sym many i + sym more_choices i) few;
            shallow = all_shallow gave.laid.nodes (ap (λ (z : Seen). list_all is_shallow z.nodes) gave.seen_so ∙ shallow);
          };
        };
        seen_so = gave.seen_so;
      }
