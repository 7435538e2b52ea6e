-- Where the place of an entry puts it among the others, by the entries as they stand.
use Rattle.std.proofs.Common.{◌≡◌, ◌++◌, ◌||◌, ◌+◌, ◌-◌, ◌<◌, ◌≤◌, ℕ, zero, suc, Bool, true, false, cond, not, ltb, List, [], ◌∷◌, Option, Some, None, refl, sym, ap, subst, ◌∙◌, arith, length, drop, take}
use Rattle.std.specs.Prelude.{IfSome, slice_get}
use Rattle.std.specs.List.{cons_option}
use Rattle.std.specs.Option.{option_map_or}
use Rattle.std.proofs.lemmas.Bool.{le-ltb, lt-ltb, ltb-false, ltb-true}
use Rattle.std.proofs.lemmas.List.{append-nil, length-append, length-drop, nil_from_length, take_all}
use Rattle.nc_names.proofs.SameLemmas.{keys_decide, path_decide}
use Rattle.nc_names.specs.Same.{is_at_or_below, is_same_keys, is_same_path}
use Rattle.nc_names.specs.declared.path.Place.{Place}
use Rattle.nc_names.specs.declared.path.Place.TheVariants.{Kept, First, Last, Before, After}
use Rattle.nc_names.specs.declared.path.Row.{Row}
use Rattle.nc_names.specs.declared.path.Step.{Step}
use Rattle.nc_schema.specs.Standing.{entries, has_entry, has_row, is_by_user, keys_in, kept_or_last, place_at, placed, put_after, put_before, stands_before, without_entry}
use Rattle.nc_schema.specs.Tables.{Tables}
use Rattle.nc_branches.specs.Branches.{without_block}
use Rattle.nc_branches.specs.Orders.{first_order, orders_of}
use Rattle.nc_branches.specs.Tallies.{IsTallied}
use Rattle.nc_branches.specs.inner.Layings.{IsKept, IsLast, anchor_of, keeps, turn_of}
use Rattle.nc_branches.specs.inner.Putting.{Aiming, Laying}
use Rattle.nc_branches.specs.inner.Turning.{AreEntries, AreLaid, AreTurned, Follows, IsBeside, TurnOf, entry_at, entry_by, turn_by}
use Rattle.nc_branches.specs.declared.labels.Turn.{Turn}
use Rattle.nc_branches.specs.declared.labels.Turn.TheVariants.{Kept as TurnKept, Last as TurnLast, Before as TurnBefore, After as TurnAfter}
use Rattle.nc_branches.proofs.Beside.{taken_more}
use Rattle.nc_branches.proofs.EntryLemmas.{too_long}
use Rattle.nc_branches.proofs.EntryOrder.{after_law, before_law, entry_row, first_law, keys_itself, keys_match, last_law, turned, without_has, without_none}
use Rattle.nc_branches.proofs.Found.{not_same}
use Rattle.nc_branches.proofs.Places.{goes_on}
use Rattle.nc_branches.proofs.Turned.{order_at}

abbrev Keys : Type 0
Keys = List (List ℕ)

-- the keys of a row at a path or below it
longer_none : (above : List Step) (number : ℕ) (steps : List Step) (row : Row) → is_at_or_below steps row.path ≡ true → suc (length above) < length steps → keys_in above number row.path.steps ≡ None
longer_none above number steps row within long =
    too_long above number row.path.steps (let len : length row.path.steps ≡ length (steps ++ drop (length steps) row.path.steps) = ap length (goes_on steps row within) in omega (arith, long, len, length-append steps (drop (length steps) row.path.steps)))

-- an entry above the path has the same entries beside it when what stands at the path is taken away
pub entries_above : (above : List Step) (number : ℕ) (steps : List Step) (rows : List Row) → suc (length above) < length steps → entries (without_block rows steps) above number ≡ entries rows above number
entries_above above number steps [] long = refl
entries_above above number steps (row ∷ rows) long = by (is_at_or_below steps row.path) refl (entries_above above number steps rows long)
  where
    by : (b : Bool) → is_at_or_below steps row.path ≡ b → entries (without_block rows steps) above number ≡ entries rows above number →
        entries (cond (not b) (row ∷ without_block rows steps) (without_block rows steps)) above number ≡ cons_option (keys_in above number row.path.steps) (entries rows above number)
    by true e same = same ∙ sym (ap (λ o. cons_option o (entries rows above number)) (longer_none above number steps row e long))
    by false e same = ap (cons_option (keys_in above number row.path.steps)) same

-- at the path itself they are the others
pub entries_without : (above : List Step) (number : ℕ) (keys : Keys) (rows : List Row) → entries (without_block rows (entry_at above number keys)) above number ≡ without_entry keys (entries rows above number)
entries_without above number keys [] = refl
entries_without above number keys (row ∷ rows) = by (is_at_or_below q row.path) refl (entries_without above number keys rows)
  where
    q : List Step
    q = entry_at above number keys

    rest : List Keys
    rest = without_entry keys (entries rows above number)

    -- the row is the entry's own, or below it
    inside : is_at_or_below q row.path ≡ true → (o : Option Keys) → keys_in above number row.path.steps ≡ o → rest ≡ without_entry keys (cons_option o (entries rows above number))
    inside e None f = refl
    inside e (Some entry) f =
        let len : length row.path.steps ≡ length (q ++ drop (length q) row.path.steps) = ap length (goes_on q row e) in
        sym (ap (λ b. cond (not b) (entry ∷ rest) rest) (own (is_same_path row.path.steps q) refl))
      where
        own : (b : Bool) → is_same_path row.path.steps q ≡ b → is_same_keys entry keys ≡ true
        own true g = ap (λ o. option_map_or (λ one. is_same_keys one keys) o false) (sym f) ∙ keys_match above number keys row.path.steps ∙ g
        own false g = absurd (longer (drop (length q) row.path.steps) (goes_on q row e))
          where
            none_some : keys_in above number row.path.steps ≡ None → ⊥
            none_some h = let bad : None ≡ Some entry = sym h ∙ f in cc

            longer : (more : List Step) → row.path.steps ≡ q ++ more → ⊥
            longer [] is = let same : is_same_path row.path.steps q ≡ true = (path_decide row.path.steps q).1 (is ∙ append-nil q) in cc
            longer (s ∷ more) is =
                none_some (too_long above number row.path.steps
                (let len : length row.path.steps ≡ length (q ++ s ∷ more) = ap length is in
                omega (arith, len, length-append q (s ∷ more), length-append above (record { node = number; keys = keys } ∷ []))))

    -- or it is not
    outside : is_at_or_below q row.path ≡ false → (o : Option Keys) → keys_in above number row.path.steps ≡ o → cons_option o rest ≡ without_entry keys (cons_option o (entries rows above number))
    outside e None f = refl
    outside e (Some entry) f =
        let other : is_same_keys entry keys ≡ false = ap (λ o. option_map_or (λ one. is_same_keys one keys) o false) (sym f) ∙ keys_match above number keys row.path.steps ∙ not_same q row e in
        sym (ap (λ b. cond (not b) (entry ∷ rest) rest) other)

    by : (b : Bool) → is_at_or_below q row.path ≡ b → entries (without_block rows q) above number ≡ rest →
        entries (cond (not b) (row ∷ without_block rows q) (without_block rows q)) above number ≡ without_entry keys (cons_option (keys_in above number row.path.steps) (entries rows above number))
    by true e same = same ∙ inside e (keys_in above number row.path.steps) refl
    by false e same = ap (cons_option (keys_in above number row.path.steps)) same ∙ outside e (keys_in above number row.path.steps) refl

-- an entry does not stand before itself
pub before_itself : (order : List Keys) (keys : Keys) → stands_before order keys keys ≡ false
before_itself [] keys = refl
before_itself (entry ∷ order) keys = by (is_same_keys entry keys) (before_itself order keys)
  where
    by : (b : Bool) → stands_before order keys keys ≡ false → cond b false (cond b true (stands_before order keys keys)) ≡ false
    by true e = refl
    by false e = e

-- the whole path, where it ends at a depth
taken_all : (steps : List Step) (depth : ℕ) (asked : Step) → slice_get steps depth ≡ Some asked → length steps ≡ depth + 1 → steps ≡ entry_at (take depth steps) asked.node asked.keys
taken_all steps depth asked there last =
    let all : take (suc depth) steps ≡ steps = take_all (suc depth) steps (omega (arith, last)) in
    sym all ∙ taken_more depth steps asked there

drop_none : (steps : List Step) (depth : ℕ) → length steps ≡ depth + 1 → drop (suc depth) steps ≡ []
drop_none steps depth last = nil_from_length (drop (suc depth) steps) (omega (arith, last, length-drop (suc depth) steps))

place_above : (place : Place) (rest : List Step) → 0 < length rest → place_at place rest ≡ Kept
place_above place [] some = absurd (omega (arith, some))
place_above place (s ∷ rest) some = refl

-- what the orders say beside a step of the path
module _ (aim : Aiming) (lay : Laying) (orders_are : aim.orders ≡ orders_of aim.tables lay.whole lay.place [] aim.steps) (depth : ℕ) (asked : Step) (there : slice_get aim.steps depth ≡ Some asked) (user : is_by_user aim.tables asked.node ≡ true) where
  abbrev above : List Step
  above = take depth aim.steps

  abbrev all : List Keys
  all = entries lay.whole above asked.node

  order_is : first_order (drop depth aim.orders) ≡ placed (place_at lay.place (drop (suc depth) aim.steps)) asked.keys all
  order_is =
      ap (λ orders. first_order (drop depth orders)) orders_are ∙ order_at aim.tables lay.whole lay.place [] aim.steps depth asked there
      ∙ ap (λ b. cond b (placed (place_at lay.place (drop (suc depth) aim.steps)) asked.keys all) []) user

  -- the entry keeps its place
  kept_follows : placed (place_at lay.place (drop (suc depth) aim.steps)) asked.keys all ≡ kept_or_last asked.keys all → entries lay.laid above asked.node ≡ all → Follows aim lay depth asked asked.keys lay.laid
  kept_follows kept same = record {
    other = λ others some has differ. differ;
    side = λ stands others some has differ.
        let stands_there : has_entry asked.keys all ≡ true = ap (has_entry asked.keys) (sym same) ∙ entry_row lay.laid above asked.node asked.keys ∙ stands in
        ap (λ order. stands_before order others asked.keys) (order_is ∙ kept ∙ ap (λ b. cond b all (all ++ asked.keys ∷ [])) stands_there ∙ sym same);
  }

  above_follows : depth + 1 < length aim.steps → entries lay.laid above asked.node ≡ all → Follows aim lay depth asked asked.keys lay.laid
  above_follows long same =
      kept_follows (ap (λ (place : Place). placed place asked.keys all) (place_above lay.place (drop (suc depth) aim.steps) (omega (arith, long, length-drop (suc depth) aim.steps)))) same

  -- at the end of the path
  module _ (last : length aim.steps ≡ depth + 1) where
    last_is : first_order (drop depth aim.orders) ≡ placed lay.place asked.keys all
    last_is = order_is ∙ ap (λ rest. placed (place_at lay.place rest) asked.keys all) (drop_none aim.steps depth last)

    stays_placed : (place : Place) → keeps place asked.keys ≡ true → placed place asked.keys all ≡ kept_or_last asked.keys all
    stays_placed Kept keep = refl
    stays_placed First keep = absurd (cc keep)
    stays_placed Last keep = absurd (cc keep)
    stays_placed (Before anchor) keep = ap (λ b. cond b (kept_or_last asked.keys all) (put_before anchor asked.keys (without_entry asked.keys all))) keep
    stays_placed (After anchor) keep = ap (λ b. cond b (kept_or_last asked.keys all) (put_after anchor asked.keys (without_entry asked.keys all))) keep

    last_follows : keeps lay.place asked.keys ≡ true → lay.laid ≡ lay.whole → Follows aim lay depth asked asked.keys lay.laid
    last_follows keep same =
        kept_follows (ap (λ rest. placed (place_at lay.place rest) asked.keys all) (drop_none aim.steps depth last) ∙ stays_placed lay.place keep) (ap (λ rows. entries rows above asked.node) same)

    -- what stood there is taken away
    module _ (laid_are : lay.laid ≡ without_block lay.whole aim.steps) where
      abbrev others : List Keys
      others = without_entry asked.keys all

      rest_is : entries lay.laid above asked.node ≡ others
      rest_is =
          ap (λ rows. entries rows above asked.node) (laid_are ∙ ap (without_block lay.whole) (taken_all aim.steps depth asked there last))
          ∙ entries_without above asked.node asked.keys lay.whole

      among_others : (k : Keys) → has_row lay.laid (entry_by aim depth asked k) ≡ true → has_entry k others ≡ true
      among_others k has = ap (has_entry k) (sym rest_is) ∙ entry_row lay.laid above asked.node k ∙ has

      differs : (k : Keys) → has_row lay.laid (entry_by aim depth asked k) ≡ true → is_same_keys k asked.keys ≡ false
      differs k has = by (is_same_keys k asked.keys) refl
        where
          by : (b : Bool) → is_same_keys k asked.keys ≡ b → b ≡ false
          by false e = refl
          by true e =
              let same : k ≡ asked.keys = (keys_decide k asked.keys).0 e in
              let none : has_entry k others ≡ false = ap (λ (q : Keys). has_entry q others) same ∙ without_none asked.keys all in
              let some : has_entry k others ≡ true = among_others k has in
              cc

      others_has : (k : Keys) → has_row lay.laid (entry_by aim depth asked k) ≡ true → has_entry k all ≡ true
      others_has k has = sym (without_has asked.keys k all (turned k asked.keys (differs k has))) ∙ among_others k has

      -- after all others
      new_last : has_entry asked.keys all ≡ false → first_order (drop depth aim.orders) ≡ kept_or_last asked.keys all → AreEntries true aim depth asked lay.laid
      new_last none is = record {
        other = λ k some has. differs k has;
        side = λ k some has.
            ap (λ order. stands_before order k asked.keys) (is ∙ ap (λ b. cond b all (all ++ asked.keys ∷ [])) none)
            ∙ last_law asked.keys k all none (turned k asked.keys (differs k has)) ∙ others_has k has;
      }

      moved_last : first_order (drop depth aim.orders) ≡ others ++ asked.keys ∷ [] → AreEntries true aim depth asked lay.laid
      moved_last is = record {
        other = λ k some has. differs k has;
        side = λ k some has.
            ap (λ order. stands_before order k asked.keys) is
            ∙ last_law asked.keys k others (without_none asked.keys all) (turned k asked.keys (differs k has)) ∙ among_others k has;
      }

      moved_first : first_order (drop depth aim.orders) ≡ asked.keys ∷ others → AreEntries false aim depth asked lay.laid
      moved_first is = record {
        other = λ k some has. differs k has;
        side = λ k some has. ap (λ order. stands_before order k asked.keys) is ∙ first_law asked.keys k others;
      }

      -- before another one
      moved_before : (anchor : Keys) → is_same_keys anchor asked.keys ≡ false → lay.beside ≡ entry_by aim depth asked anchor → first_order (drop depth aim.orders) ≡ put_before anchor asked.keys others → IsBeside false aim lay depth asked lay.laid
      moved_before anchor other beside is = record {
        keys = anchor;
        beside_is = beside;
        follows = record {
          other = λ k some has differ. differs k has;
          side = λ stands k some has differ.
              ap (λ order. stands_before order k asked.keys) is
              ∙ before_law anchor asked.keys k others (among_others anchor stands) (without_none asked.keys all)
              ∙ ap (λ order. stands_before order k anchor) (sym rest_is);
        };
        differ = other;
        side = λ stands.
            ap (λ order. stands_before order anchor asked.keys) is
            ∙ before_law anchor asked.keys anchor others (among_others anchor stands) (without_none asked.keys all)
            ∙ before_itself others anchor;
      }

      -- after another one
      moved_after : (anchor : Keys) → is_same_keys anchor asked.keys ≡ false → lay.beside ≡ entry_by aim depth asked anchor → first_order (drop depth aim.orders) ≡ put_after anchor asked.keys others → IsBeside true aim lay depth asked lay.laid
      moved_after anchor other beside is = record {
        keys = anchor;
        beside_is = beside;
        follows = record {
          other = λ k some has differ. differs k has;
          side = λ stands k some has differ.
              ap (λ order. stands_before order k asked.keys) is
              ∙ after_law anchor asked.keys k others (among_others anchor stands) (without_none asked.keys all) (turned k asked.keys (differs k has))
              ∙ ap (λ b. b || stands_before others k anchor) (turned k anchor differ)
              ∙ ap (λ order. stands_before order k anchor) (sym rest_is);
        };
        differ = other;
        side = λ stands.
            ap (λ order. stands_before order anchor asked.keys) is
            ∙ after_law anchor asked.keys anchor others (among_others anchor stands) (without_none asked.keys all) (turned anchor asked.keys other)
            ∙ ap (λ b. b || stands_before others anchor anchor) (keys_itself anchor);
      }

      -- by the place
      turn_there : (place : Place) → lay.place ≡ place → lay.beside ≡ entry_by aim depth asked (anchor_of place) → (keeps place asked.keys ≡ true → has_entry asked.keys all ≡ false) → TurnOf (turn_of place asked.keys) aim lay depth asked lay.laid
      turn_there Kept is beside new = new_last (new refl) (last_is ∙ ap (λ (p : Place). placed p asked.keys all) is)
      turn_there First is beside new = moved_first (last_is ∙ ap (λ (p : Place). placed p asked.keys all) is)
      turn_there Last is beside new = moved_last (last_is ∙ ap (λ (p : Place). placed p asked.keys all) is)
      turn_there (Before anchor) is beside new = by (is_same_keys anchor asked.keys) refl
        where
          order : first_order (drop depth aim.orders) ≡ cond (is_same_keys anchor asked.keys) (kept_or_last asked.keys all) (put_before anchor asked.keys others)
          order = last_is ∙ ap (λ (p : Place). placed p asked.keys all) is

          by : (b : Bool) → is_same_keys anchor asked.keys ≡ b → TurnOf (cond b TurnLast TurnBefore) aim lay depth asked lay.laid
          by true e = new_last (new e) (order ∙ ap (λ b. cond b (kept_or_last asked.keys all) (put_before anchor asked.keys others)) e)
          by false e = moved_before anchor e beside (order ∙ ap (λ b. cond b (kept_or_last asked.keys all) (put_before anchor asked.keys others)) e)
      turn_there (After anchor) is beside new = by (is_same_keys anchor asked.keys) refl
        where
          order : first_order (drop depth aim.orders) ≡ cond (is_same_keys anchor asked.keys) (kept_or_last asked.keys all) (put_after anchor asked.keys others)
          order = last_is ∙ ap (λ (p : Place). placed p asked.keys all) is

          by : (b : Bool) → is_same_keys anchor asked.keys ≡ b → TurnOf (cond b TurnLast TurnAfter) aim lay depth asked lay.laid
          by true e = new_last (new e) (order ∙ ap (λ b. cond b (kept_or_last asked.keys all) (put_after anchor asked.keys others)) e)
          by false e = moved_after anchor e beside (order ∙ ap (λ b. cond b (kept_or_last asked.keys all) (put_after anchor asked.keys others)) e)

-- the turn at each step
above_turn : (turn : Turn) (steps : List Step) (depth : ℕ) → depth + 1 < length steps → turn_by turn steps depth ≡ TurnKept
above_turn turn steps depth long = ap (λ b. cond b TurnKept turn) (lt-ltb (depth + 1) (length steps) long)

last_turn : (turn : Turn) (steps : List Step) (depth : ℕ) → length steps ≡ depth + 1 → turn_by turn steps depth ≡ turn
last_turn turn steps depth last = ap (λ b. cond b TurnKept turn) (le-ltb (depth + 1) (length steps) (omega (arith, last)))

-- a depth that has a step is the last one, or above it
within : (steps : List Step) (depth : ℕ) (asked : Step) → slice_get steps depth ≡ Some asked → depth < length steps
within [] depth asked there = absurd (cc there)
within (s ∷ steps) zero asked there = omega arith
within (s ∷ steps) (suc depth) asked there = omega (arith, within steps depth asked there)

at_last : (steps : List Step) (one two : ℕ) (a b : Step) → one ≡ two → slice_get steps one ≡ Some a → slice_get steps two ≡ Some b → a ≡ b
at_last steps one two a b same first second =
    let e : Some a ≡ Some b = sym first ∙ ap (slice_get steps) same ∙ second in cc

-- the node keeps its place
pub laid_kept : (aim : Aiming) (lay : Laying) → aim.lay ≡ Some lay → aim.orders ≡ orders_of aim.tables lay.whole lay.place [] aim.steps → lay.laid ≡ lay.whole → lay.turn ≡ TurnKept → IsTallied lay.known lay.laid → IsKept aim.tables lay.place aim.steps → AreTurned aim
unfolding AreTurned
laid_kept aim lay lay_is orders_are same turn_is tallied kept =
    subst (λ (o : Option Laying). IfSome o (λ lay. AreLaid aim lay)) (sym lay_is) (record { tallied = tallied; turns = turns })
  where
    turns : (depth : ℕ) (asked : Step) → slice_get aim.steps depth ≡ Some asked → is_by_user aim.tables asked.node ≡ true → TurnOf (turn_by lay.turn aim.steps depth) aim lay depth asked lay.laid
    turns depth asked there user = by (ltb (depth + 1) (length aim.steps)) refl
      where
        above_is : entries lay.laid (take depth aim.steps) asked.node ≡ entries lay.whole (take depth aim.steps) asked.node
        above_is = ap (λ rows. entries rows (take depth aim.steps) asked.node) same

        by : (b : Bool) → ltb (depth + 1) (length aim.steps) ≡ b → TurnOf (cond b TurnKept lay.turn) aim lay depth asked lay.laid
        by true e = above_follows aim lay orders_are depth asked there user (ltb-true (depth + 1) (length aim.steps) e) above_is
        by false e =
            let long : depth < length aim.steps = within aim.steps depth asked there in
            let short : length aim.steps ≤ depth + 1 = ltb-false (depth + 1) (length aim.steps) e in
            let last : length aim.steps ≡ depth + 1 = omega (arith, long, short) in
            let deep : kept.depth ≡ depth = omega (arith, last, kept.last.last_is) in
            let step : kept.step ≡ asked = at_last aim.steps kept.depth depth kept.step asked deep kept.last.step_is there in
            let by_user : is_by_user aim.tables kept.step.node ≡ true = ap (λ (s : Step). is_by_user aim.tables s.node) step ∙ user in
            let keep : keeps lay.place asked.keys ≡ true = ap (λ (s : Step). keeps lay.place s.keys) (sym step) ∙ kept.keeps_is by_user in
            subst (λ t. TurnOf t aim lay depth asked lay.laid) (sym turn_is) (last_follows aim lay orders_are depth asked there user last keep same)

-- an entry goes where its place says
pub laid_moved : (aim : Aiming) (lay : Laying) → aim.lay ≡ Some lay → aim.orders ≡ orders_of aim.tables lay.whole lay.place [] aim.steps → lay.laid ≡ without_block lay.whole aim.steps → IsTallied lay.known lay.laid → (end : ℕ) (last_step : Step) → IsLast aim.steps end last_step →
    (keeps lay.place last_step.keys ≡ true → has_row lay.whole aim.steps ≡ false) → lay.turn ≡ turn_of lay.place last_step.keys → lay.beside ≡ entry_at (take end aim.steps) last_step.node (anchor_of lay.place) → AreTurned aim
unfolding AreTurned
laid_moved aim lay lay_is orders_are rest tallied end last_step ends stands turn_is beside_is =
    subst (λ (o : Option Laying). IfSome o (λ lay. AreLaid aim lay)) (sym lay_is) (record { tallied = tallied; turns = turns })
  where
    turns : (depth : ℕ) (asked : Step) → slice_get aim.steps depth ≡ Some asked → is_by_user aim.tables asked.node ≡ true → TurnOf (turn_by lay.turn aim.steps depth) aim lay depth asked lay.laid
    turns depth asked there user = by (ltb (depth + 1) (length aim.steps)) refl
      where
        by : (b : Bool) → ltb (depth + 1) (length aim.steps) ≡ b → TurnOf (cond b TurnKept lay.turn) aim lay depth asked lay.laid
        by true e =
            let long : depth + 1 < length aim.steps = ltb-true (depth + 1) (length aim.steps) e in
            let len : length (take depth aim.steps) ≡ depth = Rattle.nc_branches.proofs.RowSides.taken_length depth aim.steps asked there in
            above_follows aim lay orders_are depth asked there user long
            (ap (λ rows. entries rows (take depth aim.steps) asked.node) rest ∙ entries_above (take depth aim.steps) asked.node aim.steps lay.whole (omega (arith, long, len)))
        by false e =
            let long : depth < length aim.steps = within aim.steps depth asked there in
            let short : length aim.steps ≤ depth + 1 = ltb-false (depth + 1) (length aim.steps) e in
            let last : length aim.steps ≡ depth + 1 = omega (arith, long, short) in
            let deep : end ≡ depth = omega (arith, last, ends.last_is) in
            let step : last_step ≡ asked = at_last aim.steps end depth last_step asked deep ends.step_is there in
            let turn : lay.turn ≡ turn_of lay.place asked.keys = turn_is ∙ ap (λ (s : Step). turn_of lay.place s.keys) step in
            let beside : lay.beside ≡ entry_by aim depth asked (anchor_of lay.place) = beside_is ∙ (λ i. entry_at (take (deep i) aim.steps) (node_is step i) (anchor_of lay.place)) in
            let new : keeps lay.place asked.keys ≡ true → has_entry asked.keys (entries lay.whole (take depth aim.steps) asked.node) ≡ false =
            λ keep. entry_row lay.whole (take depth aim.steps) asked.node asked.keys ∙ ap (has_row lay.whole) (sym (taken_all aim.steps depth asked there last)) ∙ stands (ap (λ (s : Step). keeps lay.place s.keys) step ∙ keep) in
            subst (λ t. TurnOf t aim lay depth asked lay.laid) (sym turn) (turn_there aim lay orders_are depth asked there user last rest lay.place refl beside new)
          where
            node_is : last_step ≡ asked → last_step.node ≡ asked.node
            node_is e = ap (λ (s : Step). s.node) e

-- the node keeps its place where the user does not order it, or where its place says so
pub kept_system : (tables : Tables) (place : Place) (steps : List Step) (depth : ℕ) (step : Step) → IsLast steps depth step → is_by_user tables step.node ≡ false → IsKept tables place steps
kept_system tables place steps depth step last system = record { depth = depth; step = step; last = last; keeps_is = λ user. cc }

pub kept_place : (tables : Tables) (place : Place) (steps : List Step) (depth : ℕ) (step : Step) → IsLast steps depth step → keeps place step.keys ≡ true → IsKept tables place steps
kept_place tables place steps depth step last keep = record { depth = depth; step = step; last = last; keeps_is = λ user. keep }

-- a path that is not empty has a last step
pub last_of : (steps : List Step) (end : ℕ) (found : Option Step) → 1 ≤ length steps → end ≡ length steps - 1 → found ≡ slice_get steps end → IfSome found (λ step. IsLast steps end step)
last_of steps end None some is got = tt
last_of steps end (Some step) some is got = record { last_is = omega (arith, some, is); step_is = sym got }
