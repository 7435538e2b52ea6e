-- Each step keeps the rule of the turn.
use Rattle.std.proofs.Common.{◌≡◌, ◌≢◌, ◌⊎◌, ℕ, zero, suc, ◌+◌, ◌-◌, ◌*◌, ◌%◌, ◌^◌, ◌<◌, ◌≤◌, eqb, List, [], ◌∷◌, ◌++◌, length, get_or, set, refl, sym, ap, subst, ◌∙◌, inl, inr, ⊎_elim, arith, Bool, true, false, true≢false, Option, Some, None, length-append, length-set}
use Rattle.std.proofs.Math.Nat.{mod-eq_of_lt}
use mathlib.Core.Logic.{dite}
use mathlib.Core.Option.{none, some, some-injective, some-ne-none}
use mathlib.Core.Option as maybe
use native.Mathlib.Decide.{ℕ_discrete, dec_le}
use lib.ListN.{get_elem?}
use lib.Seq.{set-get_or}
use prog.Atomic.{either}
use Rattle.std.proofs.lemmas.List.Elements.{Contains-append_left, Contains-append_right}
use Rattle.std.specs.List.{Contains}
use Rattle.atomic_table.specs.Table.{State, Me, step, Act, keeps, takes, gives, Valid, carried_after, homes_after, Final, Seen, stepped, Allows, Splits, Joins, opening}
use Rattle.atomic_table.proofs.Lists.{at_set, set_here, set_else, set_again, at_snoc, at_longer, exchanged}
use Rattle.nc_names.specs.Limits.{most_requests}
use Rattle.nc_model.specs.declared.entry.Entry.{Entry}
use Rattle.nc_model.specs.Desks.{Home, own_of, last_ticket}
use Rattle.nc_model.specs.History.{IsLegal, IsMineIn}
use Rattle.nc_turn.specs.declared.view.View.{View}
use Rattle.nc_turn.specs.inner.Turning.{Board, parts_of, Knows, IsHome, Seats, IsTurning}
use Rattle.nc_turn.specs.inner.Steps.{saw_ticket, drew, Takes, saw_serving, wrote, gave_on, has_compared}
use Rattle.nc_turn.specs.Views.{all_parts, Begins, AreApart, longer, shorter, first_view, found_at, drawn_at, holding, written, given_on, compared, less_one, newcomer, together, gone}
use Rattle.nc_turn.proofs.Histories.{begins_none, begins_same, begins_more, begins_length, begins_whole, of_both, set_there, parts_set, parts_more, parts_two, keeps_seat, mine_in_longer, mine_and_one, contains_own, gathers, none_in}

abbrev pick : {P : Type 0} → Dec P → ℕ → ℕ → ℕ
pick (yes _) a b = a
pick (no _) a b = b

-- the same function, but at one number
pub put : (ℕ → ℕ) → ℕ → ℕ → ℕ → ℕ
put f i c j = pick (ℕ_discrete j i) c (f j)

put_here : (f : ℕ → ℕ) (i c : ℕ) → put f i c i ≡ c
unfolding put
put_here f i c = go (ℕ_discrete i i)
  where
    go : (d : Dec (i ≡ i)) → pick d c (f i) ≡ c
    go (yes _) = refl
    go (no n) = absurd (n refl)

put_else : (f : ℕ → ℕ) (i c j : ℕ) → j ≢ i → put f i c j ≡ f j
unfolding put
put_else f i c j other = go (ℕ_discrete j i)
  where
    go : (d : Dec (j ≡ i)) → pick d c (f j) ≡ f j
    go (yes e) = absurd (other e)
    go (no _) = refl

is_ticket : (o : Option ℕ) (n : ℕ) → Dec (o ≡ Some n)
is_ticket None n = no (λ (e : None ≡ Some n). absurd (cc))
is_ticket (Some m) n = dite (ℕ_discrete m n) (λ e. yes (ap (λ (k : ℕ). Some k) e)) (λ ne. no (λ (e : Some m ≡ Some n). ne (cc)))

off : false ≡ true → ⊥
off e = true≢false (sym e)

-- what the others know stays so
abbrev Others : Type 0 → Board → Board → ℕ → Type 0
Others T b b' id = (j : ℕ) (u : View T) → j ≢ id → Knows b j u → Knows b' j u

module _ {T : Type 0} where
  each_set : (b b' : Board) (vs : List (View T)) (id : ℕ) (w : View T) → ((j : ℕ) (u : View T) → get_elem? vs j ≡ some u → Knows b j u)
      → Others T b b' id → Knows b' id w → (j : ℕ) (u : View T) → get_elem? (set vs id w) j ≡ some u → Knows b' j u
  each_set b b' vs id w each others mine j u e =
      ⊎_elim
      (λ (t : (j ≡ id) × (w ≡ u)). subst (λ (z : ℕ × View T). Knows b' z.0 z.1) (λ i. (sym t.0 i, t.1 i)) mine)
      (λ (t : (j ≢ id) × (get_elem? vs j ≡ some u)). others j u t.0 (each j u t.1))
      (at_set vs id j w u e)

module _ {T : Type 0} where
  knows_gone : (b : Board) (j : ℕ) → Knows {T = T} b j gone
  knows_gone b j = record {
    seen = begins_none b.history;
    met = begins_none [];
    own = none_in [];
    apart = λ e f mine _. absurd (omega (arith, mine.1));
    author = λ e mine. absurd (omega (arith, mine.1));
    found = omega arith;
    drawn = λ t e. absurd (let g : ⊥ = cc in g);
    holds = λ e. absurd (off e);
  }

module _ {T : Type 0} (home : T → Home) (stands : T → List Entry → Type 0) (key : T) where
  abbrev St : Type 0
  St = State (Option T) (View T)

  abbrev M : Type 0
  M = Me (Option T) (View T)

  abbrev Rule : St → Type 0
  Rule = IsTurning home stands key

  -- a load of the word i, by a seat whose view becomes w, while the board stays
  unmoved : (s : St) (r : Rule s) (i id : ℕ) (v w : View T) → get_elem? s.views id ≡ some v → Knows r.board id w → w.parts ≡ v.parts → w.seen ≡ v.seen → w.holds ≡ v.holds → w.gathered ≡ v.gathered
      → Rule record { words = set s.words i (get_or s.words i 0); homes = s.homes; views = set s.views id w }
  unmoved s r i id v w at known parts seen holds gathered =
      subst (λ (ws : List ℕ). Rule record { words = ws; homes = s.homes; views = set s.views id w }) (sym (set-get_or s.words i 0)) record {
        board = r.board;
        words = r.words;
        legal = r.legal;
        each = each_set r.board r.board s.views id w r.each (λ j u _ k. k) known;
        at_home = r.at_home;
        still = r.still;
        out = λ seat e. keeps_seat s.views id v w _ _ at (λ p. (p.0, holds ∙ p.1)) (λ j u p. p) (r.out seat e);
        last = keeps_seat s.views id v w _ _ at (λ p. (subst (λ (n : ℕ). 0 < n) (sym parts) p.0, seen ∙ p.1)) (λ j u p. p) r.last;
        gathered = λ e there. keeps_seat s.views id v w (λ k u. (0 < u.parts) × Contains u.gathered e) (λ k u. (0 < u.parts) × Contains u.gathered e) at
            (λ p. (subst (λ (n : ℕ). 0 < n) (sym parts) p.0, subst (λ (h : List Entry). Contains h e) (sym gathered) p.1)) (λ j u p. p) (r.gathered e there);
        parts = (let e = parts_set s.views id v w at in let t = r.parts in omega arith);
        first = r.first;
        order = r.order;
        bound = r.bound;
        room = r.room;
        few = r.few;
      }

  -- nothing changes
  stays : (s : St) (r : Rule s) (i id : ℕ) (v : View T) → get_elem? s.views id ≡ some v → Rule record { words = set s.words i (get_or s.words i 0); homes = s.homes; views = set s.views id v }
  stays s r i id v at = unmoved s r i id v v at (r.each id v at) refl refl refl refl

  pub sees_ticket : (slots id : ℕ) (me : M) → Allows Rule slots id me 0 (λ n. n) (saw_ticket (step slots 0 0 0 none) me)
  sees_ticket slots id me s r wide at _ =
      let x : ℕ = get_or s.words 0 0 in
      let is : x ≡ r.board.ticket = ap (λ (ws : List ℕ). get_or ws 0 0) r.words in
      let k = r.each id me.0 at in
      let first = r.first in
      let bound = r.bound in (
        found_at x me.0,
        keeps,
        tt,
        unmoved s r 0 id me.0 (found_at x me.0) at record {
          seen = k.seen;
          met = k.met;
          own = k.own;
          apart = k.apart;
          author = k.author;
          found = omega arith;
          drawn = k.drawn;
          holds = k.holds;
        } refl refl refl refl,
        (refl, subst (λ (n : ℕ). 1 ≤ n) (sym is) first, subst (λ (n : ℕ). n ≤ last_ticket) (sym is) bound),
      )

  pub compares : (slots id : ℕ) (me : M) → Allows Rule slots id me 2 (λ n. n) (has_compared (step slots 2 0 0 none) me)
  compares slots id me s r wide at _ =
      let k = r.each id me.0 at in (
        compared me.0,
        keeps,
        tt,
        unmoved s r 2 id me.0 (compared me.0) at record {
          seen = k.seen;
          met = begins_none me.0.seen;
          own = k.own;
          apart = λ e f _ there. absurd (omega (arith, there.1));
          author = k.author;
          found = k.found;
          drawn = k.drawn;
          holds = k.holds;
        } refl refl refl refl,
        (refl, k.met, k.apart),
      )

  -- a step of the word i that changes the board
  moved : (s : St) (r : Rule s) (b' : Board) (ws : List ℕ) (hs : List (maybe.Option (Option T))) (id : ℕ) (v w : View T) → get_elem? s.views id ≡ some v
      → ws ≡ b'.ticket ∷ b'.serving ∷ length b'.history ∷ [] → IsLegal 0 (home key).opening b'.history → Knows b' id w → Others T r.board b' id
      → (b'.holder ≡ 0 → IsHome home stands key b'.history hs) → (b'.holder ≡ 0 → b'.wrote ≡ 0) → ((seat : ℕ) → b'.holder ≡ suc seat → Seats (set s.views id w) (λ k u. (k ≡ seat) × (u.holds ≡ true)))
      → Seats (set s.views id w) (λ k u. (0 < u.parts) × (u.seen ≡ b'.history))
      → ((e : Entry) → Contains (own_of b'.history) e → Seats (set s.views id w) (λ k u. (0 < u.parts) × Contains u.gathered e)) → w.parts ≡ v.parts → 1 ≤ b'.ticket → b'.serving ≤ b'.ticket → b'.ticket ≤ last_ticket
      → length b'.history ≤ 2 * b'.serving + b'.wrote → b'.wrote ≤ 2 → Rule record { words = ws; homes = hs; views = set s.views id w }
  moved s r b' ws hs id v w at words legal known others at_home still out last gathered parts first order bound room few = record {
    board = b';
    words = words;
    legal = legal;
    each = each_set r.board b' s.views id w r.each others known;
    at_home = at_home;
    still = still;
    out = out;
    last = last;
    gathered = gathered;
    parts = (let e = parts_set s.views id v w at in let t = r.parts in omega arith);
    first = first;
    order = order;
    bound = bound;
    room = room;
    few = few;
  }

  -- the seat has a view and an act that keep the rule, where the word i becomes y
  abbrev Goes : St → ℕ → ℕ → M → (ℕ → M → Type 0) → ℕ → Type 0
  Goes s i id me then y = (w : View T) × (a : Act (Option T)) × Valid s.homes me.1 a × Rule (stepped s i y id me.1 w a) × then (get_or s.words i 0) (w, carried_after me.1 a)

  abbrev drawn_board : Board → ℕ → Board
  drawn_board b id = record b { ticket = b.ticket + 1; owner = put b.owner b.ticket id }

  pub draws : (slots id : ℕ) (me : M) (n new : ℕ) → new ≡ n + 1 → n < last_ticket → me.0.holds ≡ false
      → Allows Rule slots id me 0 (λ x. either (eqb x n) new x) (drew (step slots 0 n new none) me)
  draws slots id me n new more low idle s r wide at _ =
      let x : ℕ = get_or s.words 0 0 in
      let is : x ≡ r.board.ticket = ap (λ (ws : List ℕ). get_or ws 0 0) r.words in
      let k = r.each id me.0 at in
      let b : Board = r.board in
      let w : View T = drawn_at n me.0 in
      let order : b.serving ≤ b.ticket = r.order in
      let found : me.0.found ≤ b.ticket = k.found in
      exchanged x n new (Goes s 0 id me (drew (step slots 0 n new none) me))
      (λ hit.
      let now : b.ticket ≡ n = sym is ∙ hit in (
        w,
        keeps,
        tt,
        moved s r (drawn_board b id) (set s.words 0 new) s.homes id me.0 w at
            (ap (λ (ws : List ℕ). set ws 0 new) r.words ∙ ap (λ (z : ℕ). z ∷ b.serving ∷ length b.history ∷ []) (let e : new ≡ b.ticket + 1 = omega arith in e))
            r.legal
            record {
              seen = k.seen;
              met = k.met;
              own = k.own;
              apart = k.apart;
              author = k.author;
              found = omega arith;
              drawn = λ t e.
                  let same : n ≡ t = cc in
                  let same' : b.ticket ≡ t = now ∙ same in
                  (subst (λ (z : ℕ). put b.owner b.ticket id z ≡ id) same' (put_here b.owner b.ticket id), omega arith, omega arith);
              holds = λ e. absurd (off (sym idle ∙ e));
            }
            (λ j u apart known. record {
              seen = known.seen;
              met = known.met;
              own = known.own;
              apart = known.apart;
              author = known.author;
              found = (let f = known.found in omega arith);
              drawn = λ t e.
                  let d = known.drawn t e in
                  let low : t < b.ticket = d.2 in
                  (put_else b.owner b.ticket id t (λ z. omega arith) ∙ d.0, d.1, omega arith);
              holds = known.holds;
            })
            r.at_home
            r.still
            (λ seat e. keeps_seat s.views id me.0 w _ _ at (λ p. p) (λ j u p. p) (r.out seat e))
            (keeps_seat s.views id me.0 w _ _ at (λ p. p) (λ j u p. p) r.last)
            (λ f there. keeps_seat s.views id me.0 w (λ j u. (0 < u.parts) × Contains u.gathered f) (λ j u. (0 < u.parts) × Contains u.gathered f) at
            (λ p. p) (λ j u p. p) (r.gathered f there))
            refl (omega arith) (omega arith) (omega arith) r.room r.few,
        ((λ _. ap (λ (z : ℕ). (drawn_at z me.0, me.1)) (sym hit)), λ miss. absurd (miss hit)),
      ))
      (λ miss. (me.0, keeps, tt, stays s r 0 id me.0 at, ((λ hit. absurd (miss hit)), λ _. refl)))

  abbrev taken_board : Board → ℕ → Board
  taken_board b id = record b { holder = suc id; wrote = 0 }

  -- nobody has the value where a seat that does not have it has the ticket that is served
  nobody : (s : St) (r : Rule s) (id : ℕ) (v : View T) → get_elem? s.views id ≡ some v → v.ticket ≡ Some r.board.serving → v.holds ≡ false → (n : ℕ) → r.board.holder ≡ n → r.board.holder ≡ 0
  nobody s r id v at turn idle zero is = is
  nobody s r id v at turn idle (suc k) is =
      let it = r.out k is in
      let held = r.each it.seat it.view it.there in
      let h = held.holds it.so.1 in
      let his = (held.drawn r.board.serving h.1).0 in
      let mine = ((r.each id v at).drawn r.board.serving turn).0 in
      let one : it.seat ≡ id = sym his ∙ mine in
      let same : it.view ≡ v = some-injective it.view v (sym it.there ∙ (ap (get_elem? s.views) one ∙ at)) in
      absurd (off (sym idle ∙ (ap (λ (u : View T). u.holds) (sym same) ∙ it.so.1)))

  pub sees_serving : (slots id : ℕ) (me : M) (own : T) → me.0.holds ≡ false → me.0.first ≡ Some own → home own ≡ home key → 0 < me.0.parts
      → Allows Rule slots id me 1 (λ n. n) (saw_serving home stands (step slots 1 0 0 none) me)
  sees_serving slots id me own idle firm at_home live s r wide at _ =
      let x : ℕ = get_or s.words 1 0 in
      let b : Board = r.board in
      let is : x ≡ b.serving = ap (λ (ws : List ℕ). get_or ws 1 0) r.words in
      let k = r.each id me.0 at in
      dite (is_ticket me.0.ticket x)
      (λ turn.
      let turn' : me.0.ticket ≡ Some b.serving = turn ∙ ap (λ (z : ℕ). Some z) is in
      let free = nobody s r id me.0 at turn' idle b.holder refl in
      let it = r.at_home free in
      let w : View T = holding b.history me.0 in
      let d = k.drawn b.serving turn' in
      let below : b.serving < b.ticket = d.2 in
      let bound : b.ticket ≤ last_ticket = r.bound in
      let room : length b.history ≤ 2 * b.serving + b.wrote = r.room in
      let still : b.wrote ≡ 0 = r.still free in (
        w,
        takes 0 (Some it.value),
        it.there,
        subst (λ (ws : List ℕ). Rule record { words = ws; homes = set s.homes 0 none; views = set s.views id w }) (sym (set-get_or s.words 1 0))
            (moved s r (taken_board b id) s.words (set s.homes 0 none) id me.0 w at r.words r.legal
            record {
              seen = begins_same b.history;
              met = begins_none b.history;
              own = mine_in_longer me.0.mine me.0.seen b.history k.seen k.own;
              apart = λ e f _ there. absurd (omega (arith, there.1));
              author = k.author;
              found = k.found;
              drawn = k.drawn;
              holds = λ _. (live, turn', refl, refl, refl);
            }
            (λ j u apart known. record {
              seen = known.seen;
              met = known.met;
              own = known.own;
              apart = known.apart;
              author = known.author;
              found = known.found;
              drawn = known.drawn;
              holds = λ e. let h = known.holds e in absurd (omega (arith, h.4));
            })
            (λ e. absurd (omega arith))
            (λ _. refl)
            (λ seat e. record { seat = id; view = w; there = set_there s.views id me.0 w at; so = ((let z : id ≡ seat = omega arith in z), refl) })
            (keeps_seat s.views id me.0 w _ _ at (λ p. (p.0, refl)) (λ j u p. p) r.last)
            (λ f there. keeps_seat s.views id me.0 w (λ j u. (0 < u.parts) × Contains u.gathered f) (λ j u. (0 < u.parts) × Contains u.gathered f) at
            (λ p. p) (λ j u p. p) (r.gathered f there))
            refl r.first r.order r.bound (omega arith) (omega arith)),
        (
          (λ _. record {
            value = it.value;
            history = b.history;
            view = refl;
            fits = it.fits;
            begins = k.seen;
            same = λ first e. it.same ∙ (sym at_home ∙ ap home (let z : own ≡ first = cc in z));
            legal = λ first e. subst (λ (z : Home). IsLegal 0 z.opening b.history) (sym at_home ∙ ap home (let z : own ≡ first = cc in z)) r.legal;
            own = mine_in_longer me.0.mine me.0.seen b.history k.seen k.own;
            few = omega arith;
          }),
          λ miss. absurd (miss turn),
        ),
      ))
      (λ miss. (me.0, keeps, tt, stays s r 1 id me.0 at, ((λ hit. absurd (miss hit)), λ _. refl)))

  abbrev written_board : Board → ℕ → Entry → Board
  written_board b id e = record b { history = b.history ++ e ∷ []; author = put b.author (length b.history) id; wrote = b.wrote + 1 }

  pub writes : (slots id : ℕ) (me : M) (said : Option Entry) (e : Entry) → said ≡ Some e → me.0.holds ≡ true → me.0.wrote ≤ 1 → IsLegal 0 (home key).opening (me.0.seen ++ e ∷ [])
      → Allows Rule slots id me 2 (λ n. (n + 1) % 2 ^ 64) (wrote said (step slots 2 1 0 none) me)
  writes slots id me said e says holds few fits s r wide at _ =
      let b : Board = r.board in
      let k = r.each id me.0 at in
      let h = k.holds holds in
      let seen : me.0.seen ≡ b.history = h.2 in
      let wrote_is : me.0.wrote ≡ b.wrote = h.3 in
      let holder : b.holder ≡ suc id = h.4 in
      let d = k.drawn b.serving h.1 in
      let below : b.serving < b.ticket = d.2 in
      let bound : b.ticket ≤ last_ticket = r.bound in
      let room : length b.history ≤ 2 * b.serving + b.wrote = r.room in
      let w : View T = written e me.0 in
      let longer_is : length (b.history ++ e ∷ []) ≡ length b.history + 1 = length-append b.history (e ∷ []) in
      let legal : IsLegal 0 (home key).opening (b.history ++ e ∷ []) = subst (λ (z : List Entry). IsLegal 0 (home key).opening (z ++ e ∷ [])) seen fits in
      let number : e.number ≡ length b.history = (let n = (legal b.history [] e refl).0 in omega arith) in
      let short : length (me.0.seen ++ e ∷ []) ≤ most_requests = omega (arith, length-append me.0.seen (e ∷ []), ap length seen) in
      let own = mine_and_one me.0.mine me.0.seen e k.own (λ f there. let low = (k.author f there).1 in omega arith) in
      let x : ℕ = get_or s.words 2 0 in
      let is : x ≡ length b.history = ap (λ (ws : List ℕ). get_or ws 2 0) r.words in
      let more : (x + 1) % 2 ^ 64 ≡ length (b.history ++ e ∷ []) = mod-eq_of_lt {n = x + 1} {m = 18446744073709551616} (let g : x + 1 < 18446744073709551616 = omega arith in g) ∙ (let g : x + 1 ≡ length (b.history ++ e ∷ []) = omega arith in g) in (
        w,
        keeps,
        tt,
        moved s r (written_board b id e) (set s.words 2 ((x + 1) % 2 ^ 64)) s.homes id me.0 w at
            (ap (λ (ws : List ℕ). set ws 2 ((x + 1) % 2 ^ 64)) r.words ∙ ap (λ (z : ℕ). b.ticket ∷ b.serving ∷ z ∷ []) more)
            legal
            record {
              seen = subst (λ (z : List Entry). Begins (z ++ e ∷ []) (b.history ++ e ∷ [])) (sym seen) (begins_same (b.history ++ e ∷ []));
              met = begins_none (me.0.seen ++ e ∷ []);
              own = own;
              apart = λ f g _ there. absurd (omega (arith, there.1));
              author = λ f there.
                  ⊎_elim
                  (λ (mine : Contains me.0.mine f).
                  let a = k.author f mine in
                  let low : f.number < length b.history = a.1 in
                  (put_else b.author (length b.history) id f.number (λ z. omega arith) ∙ a.0, (let g : f.number < length (b.history ++ e ∷ []) = omega arith in g)))
                  (λ (same : e ≡ f).
                  let there' : f.number ≡ length b.history = ap (λ (z : Entry). z.number) (sym same) ∙ number in
                  (ap (put b.author (length b.history) id) there' ∙ put_here b.author (length b.history) id, (let g : f.number < length (b.history ++ e ∷ []) = omega arith in g)))
                  (contains_own me.0.mine e f there);
              found = k.found;
              drawn = k.drawn;
              holds = λ _. (h.0, h.1, ap (λ (z : List Entry). z ++ e ∷ []) seen, ap (λ (z : ℕ). z + 1) wrote_is, holder);
            }
            (λ j u apart known. record {
              seen = begins_more u.seen b.history (e ∷ []) known.seen;
              met = known.met;
              own = known.own;
              apart = known.apart;
              author = λ f there.
                  let a = known.author f there in
                  let low : f.number < length b.history = a.1 in
                  (put_else b.author (length b.history) id f.number (λ z. omega arith) ∙ a.0, (let g : f.number < length (b.history ++ e ∷ []) = omega arith in g));
              found = known.found;
              drawn = known.drawn;
              holds = λ z. let o = known.holds z in absurd (apart (let g : j ≡ id = omega (arith, o.4) in g));
            })
            (λ z. absurd (omega arith))
            (λ z. absurd (omega arith))
            (λ seat z. keeps_seat s.views id me.0 w _ _ at (λ p. p) (λ j u p. p) (r.out seat z))
            record { seat = id; view = w; there = set_there s.views id me.0 w at; so = (h.0, ap (λ (z : List Entry). z ++ e ∷ []) seen) }
            (λ f there. ⊎_elim
            (λ (old : Contains (own_of b.history) f). keeps_seat s.views id me.0 w (λ j u. (0 < u.parts) × Contains u.gathered f) (λ j u. (0 < u.parts) × Contains u.gathered f) at
            (λ p. (p.0, Contains-append_left me.0.gathered (own_of (e ∷ [])) f p.1)) (λ j u p. p) (r.gathered f old))
            (λ (mine : Contains w.gathered f). record { seat = id; view = w; there = set_there s.views id me.0 w at; so = (h.0, mine) })
            (gathers b.history me.0.gathered e f there))
            refl r.first r.order r.bound (omega arith) (omega arith),
        (λ f same. let z : e ≡ f = cc in (ap (λ (x : Entry). (written x me.0, me.1)) z, own, short)),
      )

  abbrev given_board : Board → Board
  given_board b = record b { serving = b.serving + 1; holder = 0; wrote = 0 }

  pub gives_on : (slots id : ℕ) (me : M) (x : T) → 0 < slots → me.0.holds ≡ true → me.1 ≡ (0, Some x) ∷ [] → stands x me.0.seen → home x ≡ home key
      → Allows Rule slots id me 1 (λ n. (n + 1) % 2 ^ 64) (gave_on (step slots 1 1 0 none) me)
  gives_on slots id me x some_slot holds carried fits same s r wide at _ =
      let b : Board = r.board in
      let k = r.each id me.0 at in
      let h = k.holds holds in
      let seen : me.0.seen ≡ b.history = h.2 in
      let holder : b.holder ≡ suc id = h.4 in
      let d = k.drawn b.serving h.1 in
      let below : b.serving < b.ticket = d.2 in
      let bound : b.ticket ≤ last_ticket = r.bound in
      let room : length b.history ≤ 2 * b.serving + b.wrote = r.room in
      let few : b.wrote ≤ 2 = r.few in
      let found : me.0.found ≤ b.ticket = k.found in
      let w : View T = given_on me.0 in
      let y : ℕ = get_or s.words 1 0 in
      let is : y ≡ b.serving = ap (λ (ws : List ℕ). get_or ws 1 0) r.words in
      let more : (y + 1) % 2 ^ 64 ≡ b.serving + 1 = mod-eq_of_lt {n = y + 1} {m = 18446744073709551616} (let g : y + 1 < 18446744073709551616 = omega arith in g) ∙ (let g : y + 1 ≡ b.serving + 1 = omega arith in g) in (
        w,
        gives,
        tt,
        moved s r (given_board b) (set s.words 1 ((y + 1) % 2 ^ 64)) (homes_after s.homes me.1 gives) id me.0 w at
            (ap (λ (ws : List ℕ). set ws 1 ((y + 1) % 2 ^ 64)) r.words ∙ ap (λ (z : ℕ). b.ticket ∷ z ∷ length b.history ∷ []) more)
            r.legal
            record {
              seen = k.seen;
              met = k.met;
              own = k.own;
              apart = k.apart;
              author = k.author;
              found = k.found;
              drawn = λ t e. absurd (let g : ⊥ = cc in g);
              holds = λ e. absurd (off e);
            }
            (λ j u apart known. record {
              seen = known.seen;
              met = known.met;
              own = known.own;
              apart = known.apart;
              author = known.author;
              found = known.found;
              drawn = λ t e.
                  let o = known.drawn t e in
                  let low : b.serving ≤ t = o.1 in
                  let other : t ≢ b.serving = λ z. apart (sym o.0 ∙ (ap b.owner z ∙ d.0)) in
                  (o.0, omega arith, o.2);
              holds = λ z. let o = known.holds z in absurd (apart (let g : j ≡ id = omega (arith, o.4) in g));
            })
            (λ _. record {
              value = x;
              there = subst (λ (c : List (ℕ × Option T)). get_elem? (homes_after s.homes c gives) 0 ≡ some (some (Some x))) (sym carried) (set_here s.homes 0 (some (Some x)) (omega arith));
              fits = subst (stands x) seen fits;
              same = same;
            })
            (λ _. refl)
            (λ seat z. absurd (omega arith))
            (keeps_seat s.views id me.0 w _ _ at (λ p. p) (λ j u p. p) r.last)
            (λ f there. keeps_seat s.views id me.0 w (λ j u. (0 < u.parts) × Contains u.gathered f) (λ j u. (0 < u.parts) × Contains u.gathered f) at
            (λ p. p) (λ j u p. p) (r.gathered f there))
            refl r.first (omega arith) r.bound (omega arith) (omega arith),
        refl,
      )

  knows_new : (b : Board) (j : ℕ) (v : View T) → Begins v.seen b.history → v.found ≤ b.ticket → Knows b j (newcomer v)
  knows_new b j v seen found = record {
    seen = seen;
    met = begins_none v.seen;
    own = none_in v.seen;
    apart = λ e f there _. absurd (omega (arith, there.1));
    author = λ e there. absurd (omega (arith, there.1));
    found = found;
    drawn = λ t e. absurd (let g : ⊥ = cc in g);
    holds = λ e. absurd (off e);
  }

  longer_seats : (vs : List (View T)) (w : View T) (P : ℕ → View T → Type 0) → Seats vs P → Seats (vs ++ w ∷ []) P
  longer_seats vs w P it = record { seat = it.seat; view = it.view; there = at_longer vs (w ∷ []) it.seat it.view it.there; so = it.so }

  pub splits : (id : ℕ) (v : View T) → 1 < v.parts → Splits Rule id v (less_one v) (newcomer v)
  splits id v two s r at =
      let k = r.each id v at in
      let left : View T = less_one v in
      let right : View T = newcomer v in
      let known : Knows r.board id left = record {
        seen = k.seen;
        met = k.met;
        own = k.own;
        apart = k.apart;
        author = k.author;
        found = k.found;
        drawn = k.drawn;
        holds = λ e. let h = k.holds e in ((let g : 0 < v.parts - 1 = omega arith in g), h.1, h.2, h.3, h.4);
      } in record {
        board = r.board;
        words = r.words;
        legal = r.legal;
        each = λ j u e. ⊎_elim (each_set r.board r.board s.views id left r.each (λ i x _ o. o) known j u) (λ (z : right ≡ u). subst (Knows r.board j) z (knows_new r.board j v k.seen k.found)) (at_snoc (set s.views id left) right u j e);
        at_home = r.at_home;
        still = r.still;
        out = λ seat e. longer_seats (set s.views id left) right _ (keeps_seat s.views id v left _ _ at (λ p. p) (λ j u p. p) (r.out seat e));
        last = longer_seats (set s.views id left) right _ (keeps_seat s.views id v left _ _ at (λ p. ((let g : 0 < v.parts - 1 = omega arith in g), p.1)) (λ j u p. p) r.last);
        gathered = λ e there. longer_seats (set s.views id left) right _
            (keeps_seat s.views id v left (λ j u. (0 < u.parts) × Contains u.gathered e) (λ j u. (0 < u.parts) × Contains u.gathered e) at
            (λ p. ((let g : 0 < v.parts - 1 = omega arith in g), p.1)) (λ j u p. p) (r.gathered e there));
        parts = (let e = parts_set s.views id v left at in let t = r.parts in let m = parts_more (set s.views id left) right in omega arith);
        first = r.first;
        order = r.order;
        bound = r.bound;
        room = r.room;
        few = r.few;
      }

  pub joins : (id : ℕ) (v : View T) (other : ℕ) (w : View T) → 0 < v.parts → w.holds ≡ false → Joins Rule id v other w (together v w) gone
  joins id v other w live idle s r at apart there =
      let b : Board = r.board in
      let k = r.each id v at in
      let both : View T = together v w in
      let vs : List (View T) = set s.views id both in
      let there' : get_elem? s.views other ≡ some w = ⊎_elim (λ (t : (other ≡ id) × (both ≡ w)). absurd (apart t.0)) (λ (t : (other ≢ id) × (get_elem? s.views other ≡ some w)). t.1) (at_set s.views id other both w there) in
      let o = r.each other w there' in
      let of = of_both v.seen w.seen b.history k.seen o.seen in
      let known : Knows b id both = record {
        seen = of.0;
        met = of.1;
        own = mine_in_longer v.mine v.seen (longer v.seen w.seen) of.4 k.own;
        apart = λ e f mine theirs same. apart (sym (o.author f theirs).0 ∙ (ap b.author (sym same) ∙ (k.author e mine).0));
        author = k.author;
        found = k.found;
        drawn = k.drawn;
        holds = λ e. let h = k.holds e in ((let g : 0 < v.parts + w.parts = omega arith in g), h.1, of.2 h.2, h.3, h.4);
      } in
      record {
        board = b;
        words = r.words;
        legal = r.legal;
        each = each_set b b vs other gone (each_set b b s.views id both r.each (λ i x _ q. q) known) (λ i x _ q. q) (knows_gone {T = T} b other);
        at_home = r.at_home;
        still = r.still;
        out = λ seat e. keeps_seat vs other w gone _ _ there (λ p. absurd (off (sym idle ∙ p.1))) (λ j u p. p) (keeps_seat s.views id v both _ _ at (λ p. p) (λ j u p. p) (r.out seat e));
        last = dite (ℕ_discrete r.last.seat other)
            (λ here. record {
              seat = id;
              view = both;
              there = set_else vs other id gone (λ z. apart (sym z)) ∙ set_there s.views id v both at;
              so = (
                (let g : 0 < v.parts + w.parts = omega arith in g),
                of.3 (ap (λ (u : View T). u.seen) (some-injective w r.last.view (sym there' ∙ (ap (get_elem? s.views) (sym here) ∙ r.last.there))) ∙ r.last.so.1),
              );
            })
            (λ else_where. keeps_seat vs other w gone (λ j u. (j ≢ other) × (0 < u.parts) × (u.seen ≡ b.history)) _ there (λ p. absurd (p.0 refl)) (λ j u p. (p.1, p.2))
            (keeps_seat s.views id v both (λ j u. (j ≢ other) × (0 < u.parts) × (u.seen ≡ b.history)) _ at (λ p. (p.0, (let g : 0 < v.parts + w.parts = omega arith in g), of.2 p.2)) (λ j u p. p)
            record { seat = r.last.seat; view = r.last.view; there = r.last.there; so = (else_where, r.last.so.0, r.last.so.1) }));
        gathered = λ e has.
            let it = r.gathered e has in
            dite (ℕ_discrete it.seat other)
            (λ here. record {
              seat = id;
              view = both;
              there = set_else vs other id gone (λ z. apart (sym z)) ∙ set_there s.views id v both at;
              so = (
                (let g : 0 < v.parts + w.parts = omega arith in g),
                Contains-append_right v.gathered w.gathered e
                    (subst (λ (u : View T). Contains u.gathered e) (some-injective it.view w (sym it.there ∙ (ap (get_elem? s.views) here ∙ there'))) it.so.1),
              );
            })
            (λ else_where. keeps_seat vs other w gone (λ j u. (j ≢ other) × (0 < u.parts) × Contains u.gathered e) (λ j u. (0 < u.parts) × Contains u.gathered e) there
            (λ p. absurd (p.0 refl)) (λ j u p. (p.1, p.2))
            (keeps_seat s.views id v both (λ j u. (j ≢ other) × (0 < u.parts) × Contains u.gathered e) (λ j u. (j ≢ other) × (0 < u.parts) × Contains u.gathered e) at
            (λ p. (p.0, (let g : 0 < v.parts + w.parts = omega arith in g), Contains-append_left v.gathered w.gathered e p.2)) (λ j u p. p)
            record { seat = it.seat; view = it.view; there = it.there; so = (else_where, it.so.0, it.so.1) }));
        parts = (let e = parts_set s.views id v both at in let f = parts_set vs other w gone there in let t = r.parts in omega arith);
        first = r.first;
        order = r.order;
        bound = r.bound;
        room = r.room;
        few = r.few;
      }

  pub starts : stands key [] → Rule (opening (1 ∷ 1 ∷ 0 ∷ []) (Some key ∷ []) (first_view key))
  starts fits = record {
    board = record { history = []; ticket = 1; serving = 1; owner = λ _. 0; author = λ _. 0; holder = 0; wrote = 0 };
    words = refl;
    legal = λ before behind e is. absurd (omega (arith, ap length is, length-append before (e ∷ behind)));
    each = one;
    at_home = λ _. record { value = key; there = refl; fits = fits; same = refl };
    still = λ _. refl;
    out = λ seat e. absurd (omega arith);
    last = record { seat = 0; view = first_view key; there = refl; so = (omega arith, refl) };
    gathered = λ e there. absurd (omega (arith, there.1));
    parts = refl;
    first = omega arith;
    order = omega arith;
    bound = omega arith;
    room = omega arith;
    few = omega arith;
  }
    where
      first_known : (b : Board) (seat : ℕ) → Knows b seat (first_view key)
      first_known b seat = record {
        seen = begins_none b.history;
        met = begins_none [];
        own = none_in [];
        apart = λ e f mine _. absurd (omega (arith, mine.1));
        author = λ e mine. absurd (omega (arith, mine.1));
        found = omega arith;
        drawn = λ t e. absurd (let g : ⊥ = cc in g);
        holds = λ e. absurd (off e);
      }

      one : (seat : ℕ) (v : View T) → get_elem? (first_view key ∷ []) seat ≡ some v → Knows record { history = []; ticket = 1; serving = 1; owner = λ _. 0; author = λ _. 0; holder = 0; wrote = 0 } seat v
      one zero v e = subst (Knows _ zero) (some-injective (first_view key) v e) (first_known _ zero)
      one (suc seat) v e = absurd (some-ne-none v (sym e))

  -- what a seat that has all parts knows at the end: it has seen all
  saw_all : (id : ℕ) (v : View T) (s : St) (r : Rule s) → get_elem? s.views id ≡ some v → v.parts ≡ all_parts → v.seen ≡ r.board.history
  saw_all id v s r at all =
      let it = r.last in
      dite (ℕ_discrete it.seat id)
      (λ here. ap (λ (u : View T). u.seen) (some-injective v it.view (sym at ∙ (ap (get_elem? s.views) (sym here) ∙ it.there))) ∙ it.so.1)
      (λ apart. absurd (omega (arith, parts_two s.views it.seat id it.view v apart it.there at, it.so.0, r.parts, all)))

  -- and what was entered by any seat, it has gathered
  pub gathered_all : (id : ℕ) (v : View T) (s : St) → Rule s → get_elem? s.views id ≡ some v → v.parts ≡ all_parts
      → (e : Entry) → Contains (own_of v.seen) e → Contains v.gathered e
  gathered_all id v s r at all e has =
      let it = r.gathered e (subst (λ (h : List Entry). Contains (own_of h) e) (saw_all id v s r at all) has) in
      dite (ℕ_discrete it.seat id)
      (λ here. subst (λ (u : View T). Contains u.gathered e) (some-injective it.view v (sym it.there ∙ (ap (get_elem? s.views) here ∙ at))) it.so.1)
      (λ apart. absurd (omega (arith, parts_two s.views it.seat id it.view v apart it.there at, it.so.0, r.parts, all)))

  -- and where it has no turn, the value is at home
  pub closes : (id : ℕ) (v : View T) (s : St) → Rule s → get_elem? s.views id ≡ some v → v.parts ≡ all_parts → v.holds ≡ false → IsHome home stands key v.seen s.homes
  closes id v s r at all idle =
      subst (λ (h : List Entry). IsHome home stands key h s.homes) (sym (saw_all id v s r at all)) (r.at_home (free r.board.holder refl))
    where
      free : (n : ℕ) → r.board.holder ≡ n → r.board.holder ≡ 0
      free zero is = is
      free (suc k) is =
          let it = r.out k is in
          let h = (r.each it.seat it.view it.there).holds it.so.1 in
          dite (ℕ_discrete it.seat id)
          (λ here. absurd (off (sym idle ∙ (ap (λ (u : View T). u.holds) (some-injective v it.view (sym at ∙ (ap (get_elem? s.views) (sym here) ∙ it.there))) ∙ it.so.1))))
          (λ apart. absurd (omega (arith, parts_two s.views it.seat id it.view v apart it.there at, h.0, r.parts, all)))
