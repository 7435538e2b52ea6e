-- A plan has no fault.
use Rattle.std.proofs.Common.{◌≡◌, ◌+◌, ◌<◌, ◌≤◌, inl, inr, ℕ, List, [], ◌∷◌, ◌++◌, length, map, refl, sym, ap, subst, ◌∙◌, append_assoc, arith}
use Rattle.std.specs.Prelude.{Option, Some, None, slice_get, option_map}
use Rattle.std.specs.List.{All}
use Rattle.std.proofs.lemmas.Bool.{cases_lt}
use Rattle.std.proofs.lemmas.List.{append-nil, length-append, length-map, map-append}
use Rattle.std.proofs.lemmas.List.Elements.{All-cons, All-head, All-map, All-nil, All-tail}
use Rattle.std.proofs.lemmas.Option.{slice_get_within}
use Rattle.nc_yang_words.specs.declared.statement.Statement.{Statement}
use Rattle.nc_yang_scopes.specs.declared.naming.TextFault.{TextFault}
use Rattle.nc_yang_scopes.specs.Scopes.{Located, Scoping, root}
use Rattle.nc_yang_nodes.specs.declared.context.Context.{Context}
use Rattle.nc_yang_nodes.specs.declared.planned.Plan.{Plan}
use Rattle.nc_yang_nodes.specs.declared.planned.Planned.{Planned}
use Rattle.nc_yang_nodes.specs.declared.planned.PlannedChoice.{PlannedChoice}
use Rattle.nc_yang_nodes.specs.declared.role.Role.{Role}
use Rattle.nc_yang_nodes.specs.declared.role.Role.TheVariants.{Node, Choice, Case, Uses}
use Rattle.nc_yang_nodes.specs.Roles.{FeatureTest, block, children, role}
use Rattle.nc_yang_nodes.specs.Expansion.{Gives, Meets, Moment, added, after, at_top, behind_given, behind_passed, choice_of, given, inner, node_of, none, now, passed, within_given}
use Rattle.nc_yang_nodes.specs.Plans.{GivesTexts, HasRoom, IsFirstPast, IsPlan, no_text, one_more}

abbrev levels : List Planned → List ℕ
levels = map (λ (n : Planned). n.level)

-- as many choices, and data nodes of the same levels
record Alike (p q : Plan) : Type 0 where
  levels_are : levels p.nodes ≡ levels q.nodes
  choices_are : length p.choices ≡ length q.choices

-- the second begins like the first
record Begins (p q : Plan) : Type 0 where
  rest : List ℕ
  levels_are : levels p.nodes ++ rest ≡ levels q.nodes
  choices_are : length p.choices ≤ length q.choices

more_choices : (cs : List PlannedChoice) (x : PlannedChoice) → length (cs ++ x ∷ []) ≡ length cs + 1
more_choices cs x = simp length-append

alike_added : (n k : ℕ) (c d : Context) (r : Role) (p q : Plan) → c.level ≡ d.level → Alike p q → Alike (added n c r p) (added k d r q)
alike_added n k c d (Node deny) p q e h = record {
  levels_are =
      map-append (λ (n : Planned). n.level) p.nodes (node_of n c deny ∷ [])
      ∙ ap (λ z. z ++ c.level ∷ []) h.levels_are
      ∙ ap (λ l. levels q.nodes ++ l ∷ []) e
      ∙ sym (map-append (λ (n : Planned). n.level) q.nodes (node_of k d deny ∷ []));
  choices_are = h.choices_are;
}
alike_added n k c d (Choice deny) p q e h = record {
  levels_are = h.levels_are;
  choices_are = more_choices p.choices (choice_of n c (length p.nodes)) ∙ ap (λ z. z + 1) h.choices_are ∙ sym (more_choices q.choices (choice_of k d (length q.nodes)));
}
alike_added n k c d (Case deny) p q e h = h
alike_added n k c d (Uses deny) p q e h = h

level_inner : (c d : Context) (r : Role) (p q : Plan) → c.level ≡ d.level → (inner c p r).level ≡ (inner d q r).level
level_inner c d (Node deny) p q e = ap (λ l. l + 1) e
level_inner c d (Choice deny) p q e = e
level_inner c d (Case deny) p q e = e
level_inner c d (Uses deny) p q e = e

begins_self : (p : Plan) → Begins p p
begins_self p = record { rest = []; levels_are = append-nil (levels p.nodes); choices_are = omega arith }

begins_on : (p q r : Plan) → Begins p q → Begins q r → Begins p r
begins_on p q r a b = record {
  rest = a.rest ++ b.rest;
  levels_are = sym (append_assoc (levels p.nodes) a.rest b.rest) ∙ ap (λ z. z ++ b.rest) a.levels_are ∙ b.levels_are;
  choices_are = let one = a.choices_are in let two = b.choices_are in omega (arith, one, two);
}

begins_added : (n : ℕ) (c : Context) (r : Role) (p : Plan) → Begins p (added n c r p)
begins_added n c (Node deny) p = record {
  rest = c.level ∷ [];
  levels_are = sym (map-append (λ (n : Planned). n.level) p.nodes (node_of n c deny ∷ []));
  choices_are = omega arith;
}
begins_added n c (Choice deny) p = record {
  rest = [];
  levels_are = append-nil (levels p.nodes);
  choices_are = let e = more_choices p.choices (choice_of n c (length p.nodes)) in omega (arith, e);
}
begins_added n c (Case deny) p = begins_self p
begins_added n c (Uses deny) p = begins_self p

begins_alike : (p q s : Plan) → Alike p q → Begins q s → Begins p s
begins_alike p q s h b = record {
  rest = b.rest;
  levels_are = ap (λ z. z ++ b.rest) h.levels_are ∙ b.levels_are;
  choices_are = let e = h.choices_are in let f = b.choices_are in omega (arith, e, f);
}

all_below : (ns : List Planned) (rest : List ℕ) → All (λ l. l < 64) (levels ns ++ rest) → All (λ (n : Planned). n.level < 64) ns
all_below [] rest h = All-nil (λ (n : Planned). n.level < 64)
all_below (n ∷ ns) rest h =
    All-cons (λ (n : Planned). n.level < 64) n ns (All-head (λ l. l < 64) n.level (levels ns ++ rest) h)
    (all_below ns rest (All-tail (λ l. l < 64) n.level (levels ns ++ rest) h))

room_before : (p q : Plan) → Begins p q → HasRoom q → HasRoom p
room_before p q b room = record {
  few =
      let e = ap length b.levels_are in
      let f = length-append (levels p.nodes) b.rest in
      let g = length-map p.nodes (λ (n : Planned). n.level) in
      let h = length-map q.nodes (λ (n : Planned). n.level) in
      let i = b.choices_are in
      let j = room.few in
      omega (arith, e, f, g, h, i, j);
  shallow = all_below p.nodes b.rest (subst (All (λ l. l < 64)) (sym b.levels_are) (All-map (λ l. l < 64) (λ (n : Planned). n.level) q.nodes room.shallow));
}

module _ (scoping : Scoping) (on : FeatureTest) where
  gives_begins : (c : Context) (p q : Plan) (ls : List Located) → Gives scoping on c p ls q → Begins p q
  gives_begins c p q [] (none _ _) = begins_self p
  gives_begins c p q (l ∷ rest) (passed _ _ _ _ _ w g) = gives_begins c p q rest g
  gives_begins c p q (l ∷ rest) (given _ _ m _ _ _ n r at is g f) =
      begins_on p (added n c r p) q (begins_added n c r p)
      (begins_on (added n c r p) m q (gives_begins (inner c p r) (added n c r p) m (block scoping.texts l r) g) (gives_begins (after c) m q rest f))

  gives_alike : (c d : Context) (p q s t : Plan) (ls : List Located) → Gives scoping on c p ls q → Gives scoping on d s ls t → c.level ≡ d.level → Alike p s → Alike q t
  gives_alike c d p q s t [] (none _ _) (none _ _) e h = h
  gives_alike c d p q s t (l ∷ rest) (passed _ _ _ _ _ w g) (passed _ _ _ _ _ w2 g2) e h = gives_alike c d p q s t rest g g2 e h
  gives_alike c d p q s t (l ∷ rest) (passed _ _ _ _ _ w g) (given _ _ m2 _ _ _ n2 r2 at2 is2 g2 f2) e h = absurd (cc)
  gives_alike c d p q s t (l ∷ rest) (given _ _ m _ _ _ n r at is g f) (passed _ _ _ _ _ w2 g2) e h = absurd (cc)
  gives_alike c d p q s t (l ∷ rest) (given _ _ m _ _ _ n r at is g f) (given _ _ m2 _ _ _ n2 r2 at2 is2 g2 f2) e h =
      let one : r2 ≡ r = cc in
      let g3 = subst (λ z. Gives scoping on (inner d s z) (added n2 d z s) (block scoping.texts l z) m2) one g2 in
      let mid = gives_alike (inner c p r) (inner d s r) (added n c r p) m (added n2 d r s) m2 (block scoping.texts l r) g g3 (level_inner c d r p s e) (alike_added n n2 c d r p s e h) in
      gives_alike (after c) (after d) m q m2 t rest f f2 e mid

  -- what is planned with the statement at a moment is the beginning of the plan
  meets_begins : (c d : Context) (p s t : Plan) (ls : List Located) (m : Moment) → Meets scoping on c p ls m → Gives scoping on d s ls t → c.level ≡ d.level → Alike p s
      → (number : ℕ) (r : Role) → role scoping.texts on m.statement ≡ Some r → Begins (added number m.context r m.before) t
  meets_begins _ d _ s t [] _ x _ e h number r have = elim x [ ]
  meets_begins c d p s t (l ∷ rest) _ (now _ _ _ _) (passed _ _ _ _ _ w2 g2) e h number r have = absurd (cc)
  meets_begins c d p s t (l ∷ rest) _ (now _ _ _ _) (given _ _ m2 _ _ _ n2 r2 at2 is2 g2 f2) e h number r have =
      let one : r2 ≡ r = cc in
      let g3 = subst (λ z. Gives scoping on (inner d s z) (added n2 d z s) (block scoping.texts l z) m2) one g2 in
      begins_alike (added number c r p) (added n2 d r s) t (alike_added number n2 c d r p s e h)
      (begins_on (added n2 d r s) m2 t (gives_begins (inner d s r) (added n2 d r s) m2 (block scoping.texts l r) g3) (gives_begins (after d) m2 t rest f2))
  meets_begins c d p s t (l ∷ rest) m (behind_passed _ _ _ _ _ w k) (passed _ _ _ _ _ w2 g2) e h number r have = meets_begins c d p s t rest m k g2 e h number r have
  meets_begins c d p s t (l ∷ rest) m (behind_passed _ _ _ _ _ w k) (given _ _ m2 _ _ _ n2 r2 at2 is2 g2 f2) e h number r have = absurd (cc)
  meets_begins c d p s t (l ∷ rest) m (within_given _ _ _ _ _ n r0 at is k) (passed _ _ _ _ _ w2 g2) e h number r have = absurd (cc)
  meets_begins c d p s t (l ∷ rest) m (within_given _ _ _ _ _ n r0 at is k) (given _ _ m2 _ _ _ n2 r2 at2 is2 g2 f2) e h number r have =
      let one : r2 ≡ r0 = cc in
      let g3 = subst (λ z. Gives scoping on (inner d s z) (added n2 d z s) (block scoping.texts l z) m2) one g2 in
      begins_on (added number m.context r m.before) m2 t
      (meets_begins (inner c p r0) (inner d s r0) (added n c r0 p) (added n2 d r0 s) m2 (block scoping.texts l r0) m k g3 (level_inner c d r0 p s e) (alike_added n n2 c d r0 p s e h) number r have)
      (gives_begins (after d) m2 t rest f2)
  meets_begins c d p s t (l ∷ rest) m (behind_given _ _ mid _ _ _ n r0 at is g k) (passed _ _ _ _ _ w2 g2) e h number r have = absurd (cc)
  meets_begins c d p s t (l ∷ rest) m (behind_given _ _ mid _ _ _ n r0 at is g k) (given _ _ m2 _ _ _ n2 r2 at2 is2 g2 f2) e h number r have =
      let one : r2 ≡ r0 = cc in
      let g3 = subst (λ z. Gives scoping on (inner d s z) (added n2 d z s) (block scoping.texts l z) m2) one g2 in
      let same = gives_alike (inner c p r0) (inner d s r0) (added n c r0 p) mid (added n2 d r0 s) m2 (block scoping.texts l r0) g g3 (level_inner c d r0 p s e) (alike_added n n2 c d r0 p s e h) in
      meets_begins (after c) (after d) mid m2 t rest m k f2 e same number r have

  texts_alike : (n k : ℕ) (p q : Plan) → n ≡ k → GivesTexts scoping on n p → GivesTexts scoping on k q → Alike p q
  texts_alike _ _ _ _ e no_text no_text = record { levels_are = refl; choices_are = refl }
  texts_alike _ _ p q e no_text (one_more k q0 _ top2 g2 r2 h2) = absurd (omega arith)
  texts_alike _ _ p q e (one_more n p0 _ top g r h) no_text = absurd (omega arith)
  texts_alike _ _ p q e (one_more n p0 _ top g r h) (one_more k q0 _ top2 g2 r2 h2) =
      let same : n ≡ k = omega arith in
      let one : Some top ≡ Some top2 = sym r ∙ ap (root scoping.texts) same ∙ r2 in
      let tops : top2 ≡ top = cc in
      gives_alike (at_top n) (at_top k) p0 p q0 q (children top) h (subst (λ z. Gives scoping on (at_top k) q0 (children z) q) tops h2) refl
      (texts_alike n k p0 q0 same g g2)

  -- what the texts up to one give, and what that one adds
  record Split (text : ℕ) (plan : Plan) : Type 0 where
    before : Plan
    to : Plan
    top : Located
    gives : GivesTexts scoping on text before
    is_root : root scoping.texts text ≡ Some top
    adds : Gives scoping on (at_top text) before (children top) to
    begins : Begins to plan

  split_at : (n text : ℕ) (plan : Plan) → GivesTexts scoping on n plan → text < n → Split text plan
  split_at _ text plan no_text lt = absurd (omega arith)
  split_at _ text plan (one_more n p0 _ top g r h) lt =
      elim (cases_lt text n) [
        | inl below ↦ (let s = split_at n text p0 g below in
            record {
              before = s.before;
              to = s.to;
              top = s.top;
              gives = s.gives;
              is_root = s.is_root;
              adds = s.adds;
              begins = begins_on s.to p0 plan s.begins (gives_begins (at_top n) p0 plan (children top) h);
            })
        | inr past ↦ (let same : n ≡ text = omega arith in
            record {
              before = p0;
              to = plan;
              top = top;
              gives = subst (λ z. GivesTexts scoping on z p0) same g;
              is_root = ap (root scoping.texts) (sym same) ∙ r;
              adds = subst (λ z. Gives scoping on (at_top z) p0 (children top) plan) same h;
              begins = begins_self plan;
            })
      ]

  root_within : (text : ℕ) (top : Located) → root scoping.texts text ≡ Some top → text < length scoping.texts
  root_within text top e = by (slice_get scoping.texts text) refl
    where
      by : (o : Option Statement) → slice_get scoping.texts text ≡ o → text < length scoping.texts
      by None f =
          let z : None ≡ Some top = sym (ap (option_map (λ (s : Statement). let it : Located = record { statement = s; place = record { text = text; blocks = [] } } in it)) f) ∙ e in
          absurd (cc)
      by (Some s) f = slice_get_within scoping.texts text s f

pub no_fault : (scoping : Scoping) (on : FeatureTest) (plan : Plan) (fault : TextFault) → IsPlan scoping on plan → IsFirstPast scoping on fault → ⊥
no_fault scoping on plan fault whole first =
    let m = first.moment in
    let w = first.meets in
    let s = split_at scoping on (length scoping.texts) w.text plan whole.gives (root_within scoping on w.text w.top w.is_root) in
    let one : Some s.top ≡ Some w.top = sym s.is_root ∙ w.is_root in
    let tops : s.top ≡ w.top = cc in
    let adds = subst (λ z. Gives scoping on (at_top w.text) s.before (children z) s.to) tops s.adds in
    let same = texts_alike scoping on w.text w.text w.before s.before refl w.gives s.gives in
    let b = meets_begins scoping on (at_top w.text) (at_top w.text) w.before s.before s.to (children w.top) m w.meets adds refl same first.past.number first.past.role_of first.past.is in
    first.past.past (room_before (added first.past.number m.context first.past.role_of m.before) plan (begins_on _ s.to plan b s.begins) whole.room)
