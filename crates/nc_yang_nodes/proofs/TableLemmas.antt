-- What is known of statements by their numbers.
use Rattle.std.proofs.Common.{◌≡◌, ◌<◌, ◌≤◌, ◌+◌, ◌^◌, ◌&&◌, inl, inr, ℕ, Bool, true, false, List, [], ◌∷◌, ◌++◌, length, drop, set, refl, sym, ap, subst, ◌∙◌, arith}
use Rattle.std.specs.Prelude.{Option, Some, None, slice_get, option_map, option_and_then, MatchOption}
use Rattle.std.specs.Option.{option_map_or}
use Rattle.std.specs.List.{list_all}
use Rattle.std.proofs.lemmas.List.{length-map}
use Rattle.std.proofs.lemmas.Option.{slice_get-map}
use Rattle.nc_yang_words.specs.declared.statement.Statement.{Statement}
use Rattle.nc_yang_statements.specs.Statements.{below}
use Rattle.nc_yang_scopes.specs.Scopes.{Located, Scoping, child, inside}
use Rattle.nc_yang_nodes.specs.declared.context.Context.{Context}
use Rattle.nc_yang_nodes.specs.declared.planned.Plan.{Plan}
use Rattle.nc_yang_nodes.specs.declared.role.Role.{Role}
use Rattle.nc_yang_nodes.specs.declared.role.Role.TheVariants.{Node, Choice, Case, Uses}
use Rattle.nc_yang_nodes.specs.declared.table.Entry.{Entry}
use Rattle.nc_yang_nodes.specs.Roles.{FeatureTest, block, children, role}
use Rattle.nc_yang_nodes.specs.Expansion.{Gives, added, after, given, inner, none, passed}
use Rattle.nc_yang_nodes.proofs.ListLemmas.{all_next, all_past, drop_next, drop_past, get_push, got, set_mark}
use Rattle.nc_yang_nodes.specs.inner.Tables.{AddsNothing, AreBarren, AreStored, Barren, IsChild, IsEntry, IsStored, allows, block_at, children_at, is_plain}

-- no statements plan nothing
pub barren_none : (scoping : Scoping) (on : FeatureTest) → Barren scoping on []
barren_none scoping on c plan = none c plan

opens_as : (scoping : Scoping) (on : FeatureTest) (ls : List Located) (o : Option ℕ) → ls ≡ block_at scoping o
    → MatchOption o (Barren scoping on ls) (λ b. ls ≡ children_at scoping b)
opens_as scoping on ls None e = subst (Barren scoping on) (sym e) (barren_none scoping on)
opens_as scoping on ls (Some b) e = e

pub kept : (scoping : Scoping) (on : FeatureTest) (l : Located) (entry : Entry) → IsStored scoping on l entry → IsEntry scoping on l entry
kept scoping on l entry h = record { gives = h.gives; opens = λ r e. opens_as scoping on (block scoping.texts l r) entry.block (h.opens r e) }

pub left_out : (scoping : Scoping) (on : FeatureTest) (l : Located) (entry : Entry) (b : ℕ) → entry.block ≡ Some b → Barren scoping on (children_at scoping b)
    → IsStored scoping on l entry → IsEntry scoping on l (record { role = entry.role; block = None })
left_out scoping on l entry b is barren h = record {
  gives = h.gives;
  opens = λ r e. subst (Barren scoping on) (sym (h.opens r e ∙ ap (block_at scoping) is)) barren;
}

pub child_is : (scoping : Scoping) (number place k : ℕ) (s : Statement) → option_map (λ l. l.statement) (slice_get scoping.located number) ≡ Some s
    → place < length (below s) → place + 1 < 2 ^ 64 → slice_get scoping.located k ≡ option_and_then (child place) (slice_get scoping.located number)
    → IsChild scoping number place k
child_is scoping number place k s has lt small is = by (slice_get scoping.located number) refl
  where
    by : (o : Option Located) → slice_get scoping.located number ≡ o → IsChild scoping number place k
    by None e = let f : None ≡ Some s = sym (ap (option_map (λ (l : Located). l.statement)) e) ∙ has in absurd (cc)
    by (Some l) e =
        let f : Some l.statement ≡ Some s = sym (ap (option_map (λ (l : Located). l.statement)) e) ∙ has in
        let same : s ≡ l.statement = cc in
        let t = got (below l.statement) place (subst (λ (z : Statement). place < length (below z)) same lt) in
        let one : child place l ≡ Some (record { statement = t.0; place = inside l }) =
        ap (option_map (λ (s : Statement). let it : Located = record { statement = s; place = inside l } in it)) t.1 in
        record {
          statement = record { statement = t.0; place = inside l };
          located = is ∙ ap (option_and_then (child place)) e ∙ one;
          is =
              ap (λ (o : Option Located). slice_get (option_map_or children o []) place) e
              ∙ slice_get-map (λ (s : Statement). let it : Located = record { statement = s; place = inside l } in it) (below l.statement) place
              ∙ one;
          small = small;
        }

pub children_is : (scoping : Scoping) (number : ℕ) (l : Located) → slice_get scoping.located number ≡ Some l → children_at scoping number ≡ children l
children_is scoping number l at = ap (λ (o : Option Located). option_map_or children o []) at

pub count_is : (scoping : Scoping) (number : ℕ) (s : Statement) (l : Located) → option_map (λ l. l.statement) (slice_get scoping.located number) ≡ Some s
    → slice_get scoping.located number ≡ Some l → length (children l) ≡ length (below s)
count_is scoping number s l has at =
    let f : Some l.statement ≡ Some s = sym (ap (option_map (λ (l : Located). l.statement)) at) ∙ has in
    let same : l.statement ≡ s = cc in
    length-map (below l.statement) (λ (s : Statement). let it : Located = record { statement = s; place = inside l } in it) ∙ ap (λ (z : Statement). length (below z)) same

-- the `if-feature` statements from a place on
pub allows_next : (scoping : Scoping) (on : FeatureTest) (number place : ℕ) (s : Statement) (l : Located) (b : Bool)
    → option_map (λ l. l.statement) (slice_get scoping.located number) ≡ Some s → slice_get scoping.located number ≡ Some l → place < length (below s)
    → ((t : Located) → slice_get (children_at scoping number) place ≡ Some t → b ≡ allows scoping.texts on t)
    → list_all (allows scoping.texts on) (drop place (children l)) ≡ (b && list_all (allows scoping.texts on) (drop (place + 1) (children l)))
allows_next scoping on number place s l b has at lt h =
    let e = count_is scoping number s l has at in
    all_next (allows scoping.texts on) (children l) place b (omega (arith, e)) (λ t is. h t (ap (λ ls. slice_get ls place) (children_is scoping number l at) ∙ is))

pub allows_past : (scoping : Scoping) (on : FeatureTest) (number place : ℕ) (s : Statement) (l : Located)
    → option_map (λ l. l.statement) (slice_get scoping.located number) ≡ Some s → slice_get scoping.located number ≡ Some l → length (below s) ≤ place
    → list_all (allows scoping.texts on) (drop place (children l)) ≡ true
allows_past scoping on number place s l has at le =
    let e = count_is scoping number s l has at in
    all_past (allows scoping.texts on) (children l) place (omega (arith, e))

module _ (scoping : Scoping) (on : FeatureTest) (number place : ℕ) (s : Statement) (l : Located) (b total : Bool)
    (has : option_map (λ l. l.statement) (slice_get scoping.located number) ≡ Some s) (at : slice_get scoping.located number ≡ Some l)
    (so_far : list_all (allows scoping.texts on) (drop place (children l)) ≡ total) where
  abbrev after_it : Bool
  after_it = list_all (allows scoping.texts on) (drop (place + 1) (children l))

  pub allows_on : place < length (below s) → ((t : Located) → slice_get (children_at scoping number) place ≡ Some t → b ≡ allows scoping.texts on t) → b ≡ true → after_it ≡ total
  allows_on lt h e = sym (allows_next scoping on number place s l b has at lt h ∙ ap (λ z. z && after_it) e) ∙ so_far

  pub allows_off : place < length (below s) → ((t : Located) → slice_get (children_at scoping number) place ≡ Some t → b ≡ allows scoping.texts on t) → b ≡ false → false ≡ total
  allows_off lt h e = sym (allows_next scoping on number place s l b has at lt h ∙ ap (λ z. z && after_it) e) ∙ so_far

  pub allows_end : length (below s) ≤ place → true ≡ total
  allows_end le = sym (allows_past scoping on number place s l has at le) ∙ so_far

-- what is stored of one statement more
pub stored_more : (scoping : Scoping) (on : FeatureTest) (entries : List Entry) (number : ℕ) (entry : Entry) → AreStored scoping on entries → length entries ≡ number
    → ((l : Located) → slice_get scoping.located number ≡ Some l → IsStored scoping on l entry) → AreStored scoping on (entries ++ entry ∷ [])
stored_more scoping on entries number entry h count one k l it at is =
    elim (get_push entries entry it k is) [
      | inl old ↦ h k l it at old
      | inr new ↦ subst (IsStored scoping on l) new.1 (one l (ap (slice_get scoping.located) (sym count ∙ sym new.0) ∙ at))
    ]

plain_adds : (number : ℕ) (c : Context) (r : Role) (plan : Plan) → is_plain r ≡ true → added number c r plan ≡ plan
plain_adds number c (Node deny) plan e = absurd (cc)
plain_adds number c (Choice deny) plan e = absurd (cc)
plain_adds number c (Case deny) plan e = refl
plain_adds number c (Uses deny) plan e = refl

module _ (scoping : Scoping) (on : FeatureTest) (number place child : ℕ) (entry : Entry) (found : IsChild scoping number place child) (known : IsEntry scoping on found.statement entry) where
  is_found : (l : Located) → slice_get (children_at scoping number) place ≡ Some l → found.statement ≡ l
  is_found l is = let e : Some found.statement ≡ Some l = sym found.is ∙ is in cc

  pub nothing_passed : entry.role ≡ None → (l : Located) → slice_get (children_at scoping number) place ≡ Some l → AddsNothing scoping on l
  nothing_passed without l is =
      subst (AddsNothing scoping on) (is_found l is) (λ rest b c plan. passed c plan plan found.statement rest (sym known.gives ∙ without) (b c plan))

  pub nothing_given : (r : Role) → entry.role ≡ Some r → is_plain r ≡ true → entry.block ≡ None → (l : Located) → slice_get (children_at scoping number) place ≡ Some l
      → AddsNothing scoping on l
  nothing_given r some plain shut l is =
      let e : role scoping.texts on found.statement ≡ Some r = sym known.gives ∙ some in
      let barren : Barren scoping on (block scoping.texts found.statement r) =
      subst (λ o. MatchOption o (Barren scoping on (block scoping.texts found.statement r)) (λ b. block scoping.texts found.statement r ≡ children_at scoping b)) shut (known.opens r e)
      in subst (AddsNothing scoping on) (is_found l is) (λ rest b c plan.
      given c plan plan plan found.statement rest child r found.located e
      (subst (λ z. Gives scoping on (inner c plan r) z (block scoping.texts found.statement r) plan) (sym (plain_adds child c r plan plain)) (barren (inner c plan r) plan))
      (b (after c) plan))

-- a block from a place on
pub barren_next : (scoping : Scoping) (on : FeatureTest) (ls : List Located) (place : ℕ) → place < length ls
    → ((l : Located) → slice_get ls place ≡ Some l → AddsNothing scoping on l) → Barren scoping on (drop (place + 1) ls) → Barren scoping on (drop place ls)
barren_next scoping on ls place lt h b =
    let l = got ls place lt in
    subst (Barren scoping on) (sym (drop_next ls place l.0 l.1)) (h l.0 l.1 (drop (place + 1) ls) b)

pub barren_past : (scoping : Scoping) (on : FeatureTest) (ls : List Located) (place : ℕ) → length ls ≤ place → Barren scoping on (drop place ls)
barren_past scoping on ls place le = subst (Barren scoping on) (sym (drop_past ls place le)) (barren_none scoping on)

pub count_at : (scoping : Scoping) (number : ℕ) (s : Statement) → option_map (λ l. l.statement) (slice_get scoping.located number) ≡ Some s
    → length (children_at scoping number) ≡ length (below s)
count_at scoping number s has = by (slice_get scoping.located number) refl
  where
    by : (o : Option Located) → slice_get scoping.located number ≡ o → length (children_at scoping number) ≡ length (below s)
    by None e = let f : None ≡ Some s = sym (ap (option_map (λ (l : Located). l.statement)) e) ∙ has in absurd (cc)
    by (Some l) e = ap length (children_is scoping number l e) ∙ count_is scoping number s l has e

pub mark_more : (scoping : Scoping) (on : FeatureTest) (marks : List Bool) (number : ℕ) → AreBarren scoping on marks → Barren scoping on (children_at scoping number)
    → AreBarren scoping on (set marks number true)
mark_more scoping on marks number h one k is =
    elim (set_mark marks number k is) [
      | inl same ↦ subst (λ n. Barren scoping on (children_at scoping n)) (sym same) one
      | inr old ↦ h k old
    ]
