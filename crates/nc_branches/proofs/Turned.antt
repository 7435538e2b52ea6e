-- Where an entry goes, handed down to a part of the rows.
use Rattle.std.proofs.Common.{◌≡◌, ◌++◌, ◌||◌, ◌+◌, ◌<◌, ◌≤◌, ℕ, suc, zero, Bool, true, false, cond, List, [], ◌∷◌, Option, Some, None, refl, sym, ap, subst, ◌∙◌, length, drop, take}
use Rattle.std.specs.Prelude.{IfSome, slice_get}
use Rattle.std.proofs.lemmas.Bool.{le-ltb, lt-ltb}
use Rattle.std.proofs.lemmas.List.{append_assoc, append-nil}
use Rattle.nc_names.specs.declared.path.Place.{Place}
use Rattle.nc_names.specs.declared.path.Row.{Row}
use Rattle.nc_names.specs.declared.path.Step.{Step}
use Rattle.nc_schema.specs.Standing.{entries, has_row, is_by_user, place_at, placed}
use Rattle.nc_schema.specs.Tables.{Tables}
use Rattle.nc_branches.specs.Branches.{Branches}
use Rattle.nc_branches.specs.Orders.{first_order, order_there, orders_of}
use Rattle.nc_branches.specs.inner.Aims.{IsAimed}
use Rattle.nc_branches.specs.inner.Forks.{IsForkOf}
use Rattle.nc_branches.specs.declared.tree.Fork.{Fork}
use Rattle.nc_branches.specs.inner.Order.{AreUnder, IsUnder}
use Rattle.nc_branches.specs.inner.Putting.{Aiming, Laying}
use Rattle.nc_branches.specs.inner.Shoots.{own_rows, rows_of}
use Rattle.nc_branches.specs.inner.Turning.{AreEntries, AreLaid, AreTurned, Follows, IsBeside, IsLaid, IsPartOf, IsTurned, TurnOf, turn_by}
use Rattle.nc_branches.specs.declared.labels.Turn.{Turn}
use Rattle.nc_branches.specs.declared.labels.Turn.TheVariants.{Kept, First, Last, Before, After}
use Rattle.nc_branches.proofs.Numbers.{or_true}
use Rattle.nc_branches.proofs.Wholes.{has_append}

-- what has a row in a part has one in the whole
pub has_first : (xs ys : List Row) (q : List Step) → has_row xs q ≡ true → has_row (xs ++ ys) q ≡ true
has_first xs ys q some = has_append xs ys q ∙ ap (λ b. b || has_row ys q) some

pub has_second : (xs ys : List Row) (q : List Step) → has_row ys q ≡ true → has_row (xs ++ ys) q ≡ true
has_second xs ys q some = has_append xs ys q ∙ ap (λ b. has_row xs q || b) some ∙ or_true (has_row xs q)

-- a part of rows
pub record IsIn (xs ys : List Row) : Type 0 where
  pub has : (q : List Step) → has_row xs q ≡ true → has_row ys q ≡ true

pub entries_in : (before : Bool) (aim : Aiming) (depth : ℕ) (asked : Step) (xs ys : List Row) → IsIn xs ys → AreEntries before aim depth asked ys → AreEntries before aim depth asked xs
entries_in before aim depth asked xs ys part all = record {
  other = λ keys some has. all.other keys some (part.has _ has);
  side = λ keys some has. all.side keys some (part.has _ has);
}

pub follows_in : (aim : Aiming) (lay : Laying) (depth : ℕ) (asked : Step) (keys : List (List ℕ)) (xs ys : List Row) → IsIn xs ys → Follows aim lay depth asked keys ys → Follows aim lay depth asked keys xs
follows_in aim lay depth asked keys xs ys part all = record {
  other = λ others some has differ. all.other others some (part.has _ has) differ;
  side = λ stands others some has differ. all.side stands others some (part.has _ has) differ;
}

beside_in : (before : Bool) (aim : Aiming) (lay : Laying) (depth : ℕ) (asked : Step) (xs ys : List Row) → IsIn xs ys → IsBeside before aim lay depth asked ys → IsBeside before aim lay depth asked xs
beside_in before aim lay depth asked xs ys part all = record {
  keys = all.keys;
  beside_is = all.beside_is;
  follows = follows_in aim lay depth asked all.keys xs ys part all.follows;
  differ = all.differ;
  side = all.side;
}

turn_in : (turn : Turn) (aim : Aiming) (lay : Laying) (depth : ℕ) (asked : Step) (xs ys : List Row) → IsIn xs ys → TurnOf turn aim lay depth asked ys → TurnOf turn aim lay depth asked xs
turn_in Kept aim lay depth asked xs ys part all = follows_in aim lay depth asked asked.keys xs ys part all
turn_in First aim lay depth asked xs ys part all = entries_in false aim depth asked xs ys part all
turn_in Last aim lay depth asked xs ys part all = entries_in true aim depth asked xs ys part all
turn_in Before aim lay depth asked xs ys part all = beside_in false aim lay depth asked xs ys part all
turn_in After aim lay depth asked xs ys part all = beside_in true aim lay depth asked xs ys part all

-- the three parts of a tree
pub left_in : (branches : Branches) (fork : Fork) → IsForkOf branches fork → IsIn fork.left.rows branches.rows
left_in branches fork is = record {
  has = λ q some. ap (λ xs. has_row xs q) is.rows ∙ has_first (fork.left.rows ++ rows_of fork.twig) fork.right.rows q (has_first fork.left.rows (rows_of fork.twig) q some);
}

pub here_in : (branches : Branches) (fork : Fork) → IsForkOf branches fork → IsIn (rows_of fork.twig) branches.rows
here_in branches fork is = record {
  has = λ q some. ap (λ xs. has_row xs q) is.rows ∙ has_first (fork.left.rows ++ rows_of fork.twig) fork.right.rows q (has_second fork.left.rows (rows_of fork.twig) q some);
}

pub right_in : (branches : Branches) (fork : Fork) → IsForkOf branches fork → IsIn fork.right.rows branches.rows
right_in branches fork is = record {
  has = λ q some. ap (λ xs. has_row xs q) is.rows ∙ has_second (fork.left.rows ++ rows_of fork.twig) fork.right.rows q some;
}

-- where the rows before a part and after it stand
pub left_split : (before l h r after : List Row) → before ++ (l ++ h ++ r) ++ after ≡ before ++ l ++ (h ++ r ++ after)
left_split before l h r after = simp append_assoc

pub here_split : (before l h r after : List Row) → before ++ (l ++ h ++ r) ++ after ≡ (before ++ l) ++ h ++ (r ++ after)
here_split before l h r after = simp append_assoc

pub right_split : (before l h r after : List Row) → before ++ (l ++ h ++ r) ++ after ≡ (before ++ (l ++ h)) ++ r ++ after
right_split before l h r after = simp append_assoc

laid_left : (turn : Turn) (aim : Aiming) (lay : Laying) (depth : ℕ) (branches : Branches) (fork : Fork) → IsForkOf branches fork → IsLaid turn aim lay depth branches.rows → IsLaid turn aim lay depth fork.left.rows
laid_left turn aim lay depth branches fork is all = record {
  before = all.before;
  after = rows_of fork.twig ++ fork.right.rows ++ all.after;
  laid_are = all.laid_are ∙ ap (λ xs. all.before ++ xs ++ all.after) is.rows ∙ left_split all.before fork.left.rows (rows_of fork.twig) fork.right.rows all.after;
  tallied = all.tallied;
  turn_is = λ asked there user. turn_in turn aim lay depth asked fork.left.rows branches.rows (left_in branches fork is) (all.turn_is asked there user);
}

laid_right : (turn : Turn) (aim : Aiming) (lay : Laying) (depth : ℕ) (branches : Branches) (fork : Fork) → IsForkOf branches fork → IsLaid turn aim lay depth branches.rows → IsLaid turn aim lay depth fork.right.rows
laid_right turn aim lay depth branches fork is all = record {
  before = all.before ++ (fork.left.rows ++ rows_of fork.twig);
  after = all.after;
  laid_are = all.laid_are ∙ ap (λ xs. all.before ++ xs ++ all.after) is.rows ∙ right_split all.before fork.left.rows (rows_of fork.twig) fork.right.rows all.after;
  tallied = all.tallied;
  turn_is = λ asked there user. turn_in turn aim lay depth asked fork.right.rows branches.rows (right_in branches fork is) (all.turn_is asked there user);
}

pub turned_left : (turn : Turn) (aim : Aiming) (depth : ℕ) (branches : Branches) (fork : Fork) → IsForkOf branches fork → IsTurned turn aim depth branches.rows → IsTurned turn aim depth fork.left.rows
unfolding IsTurned
turned_left turn aim depth branches fork is all = by aim.lay all
  where
    by : (o : Option Laying) → IfSome o (λ lay. IsLaid turn aim lay depth branches.rows) → IfSome o (λ lay. IsLaid turn aim lay depth fork.left.rows)
    by None none = tt
    by (Some lay) one = laid_left turn aim lay depth branches fork is one

pub turned_right : (turn : Turn) (aim : Aiming) (depth : ℕ) (branches : Branches) (fork : Fork) → IsForkOf branches fork → IsTurned turn aim depth branches.rows → IsTurned turn aim depth fork.right.rows
unfolding IsTurned
turned_right turn aim depth branches fork is all = by aim.lay all
  where
    by : (o : Option Laying) → IfSome o (λ lay. IsLaid turn aim lay depth branches.rows) → IfSome o (λ lay. IsLaid turn aim lay depth fork.right.rows)
    by None none = tt
    by (Some lay) one = laid_right turn aim lay depth branches fork is one

-- what is below a node is a part of them too
pub turned_below : (turn : Turn) (aim : Aiming) (depth : ℕ) (branches : Branches) (fork : Fork) → IsForkOf branches fork → IsTurned turn aim depth branches.rows → IsPartOf aim fork.twig.below.rows
unfolding IsTurned IsPartOf
turned_below turn aim depth branches fork is all = by aim.lay all
  where
    own : List Row
    own = own_rows fork.twig.stands fork.twig.row

    inner : (before l o b r after : List Row) → before ++ (l ++ (o ++ b) ++ r) ++ after ≡ (before ++ (l ++ o)) ++ b ++ (r ++ after)
    inner before l o b r after = simp append_assoc

    by : (o : Option Laying) → IfSome o (λ lay. IsLaid turn aim lay depth branches.rows) → IfSome o (λ lay. (before : List Row) × (after : List Row) × (lay.laid ≡ before ++ fork.twig.below.rows ++ after))
    by None none = tt
    by (Some lay) one = (
      one.before ++ (fork.left.rows ++ own),
      fork.right.rows ++ one.after,
      one.laid_are ∙ ap (λ xs. one.before ++ xs ++ one.after) is.rows ∙ inner one.before fork.left.rows own fork.twig.below.rows fork.right.rows one.after,
    )

-- all rows are a part of them
pub part_itself : (aim : Aiming) (rows : List Row) → IfSome aim.lay (λ lay. lay.laid ≡ rows) → IsPartOf aim rows
unfolding IsPartOf
part_itself aim rows is = by aim.lay is
  where
    by : (o : Option Laying) → IfSome o (λ lay. lay.laid ≡ rows) → IfSome o (λ lay. (before : List Row) × (after : List Row) × (lay.laid ≡ before ++ rows ++ after))
    by None none = tt
    by (Some lay) same = ([], [], same ∙ sym (append-nil rows))

-- by the law of all rows a part is turned at each depth
part_has : (lay : Laying) (before rows after : List Row) → lay.laid ≡ before ++ rows ++ after → IsIn rows lay.laid
part_has lay before rows after same = record {
  has = λ q some. ap (λ xs. has_row xs q) same ∙ has_first (before ++ rows) after q (has_second before rows q some);
}

turned_by : (turn : Turn) (aim : Aiming) (depth : ℕ) (rows : List Row) → ((lay : Laying) → aim.lay ≡ Some lay → turn_by lay.turn aim.steps depth ≡ turn) → AreTurned aim → IsPartOf aim rows → IsTurned turn aim depth rows
unfolding AreTurned IsPartOf IsTurned
turned_by turn aim depth rows is all part = by aim.lay refl all part
  where
    by : (o : Option Laying) → aim.lay ≡ o → IfSome o (λ lay. AreLaid aim lay) → IfSome o (λ lay. (before : List Row) × (after : List Row) × (lay.laid ≡ before ++ rows ++ after)) → IfSome o (λ lay. IsLaid turn aim lay depth rows)
    by None e none some = tt
    by (Some lay) e laid part = record {
      before = part.0;
      after = part.1;
      laid_are = part.2;
      tallied = laid.tallied;
      turn_is = λ asked there user.
          subst (λ t. TurnOf t aim lay depth asked rows) (is lay e)
          (turn_in (turn_by lay.turn aim.steps depth) aim lay depth asked rows lay.laid (part_has lay part.0 rows part.1 part.2) (laid.turns depth asked there user));
    }

-- above the last step
pub turned_above : (aim : Aiming) (depth : ℕ) (rows : List Row) → depth + 1 < length aim.steps → AreTurned aim → IsPartOf aim rows → IsTurned Kept aim depth rows
turned_above aim depth rows above all part =
    turned_by Kept aim depth rows (λ lay e. ap (λ b. cond b Kept lay.turn) (lt-ltb (depth + 1) (length aim.steps) above)) all part

-- at the last step
pub turned_last : (aim : Aiming) (lay : Laying) (depth : ℕ) (rows : List Row) → aim.lay ≡ Some lay → length aim.steps ≤ depth + 1 → AreTurned aim → IsPartOf aim rows → IsTurned lay.turn aim depth rows
turned_last aim lay depth rows is last all part =
    turned_by lay.turn aim depth rows (λ other e. let same : other ≡ lay = some_same other lay (sym e ∙ is) in ap (λ b. cond b Kept other.turn) (le-ltb (depth + 1) (length aim.steps) last) ∙ ap (λ (l : Laying). l.turn) same) all part
  where
    some_same : (a b : Laying) → Some a ≡ Some b → a ≡ b
    some_same a b e = cc

-- where the orders are listed nothing is to be known
pub turned_listed : (turn : Turn) (aim : Aiming) (depth : ℕ) (rows : List Row) → aim.lay ≡ None → IsTurned turn aim depth rows
unfolding IsTurned
turned_listed turn aim depth rows none = subst (λ (o : Option Laying). IfSome o (λ lay. IsLaid turn aim lay depth rows)) (sym none) tt

pub aimed_listed : (aim : Aiming) → aim.lay ≡ None → AreUnder aim.steps aim.block → IsAimed aim
unfolding AreTurned
aimed_listed aim none under = record {
  under = under;
  turned = subst (λ (o : Option Laying). IfSome o (λ lay. AreLaid aim lay)) (sym none) tt;
}

-- no order is there where the user does not order the entries
pub order_at : (tables : Tables) (whole : List Row) (place : Place) (above steps : List Step) (depth : ℕ) (asked : Step) → slice_get steps depth ≡ Some asked →
    first_order (drop depth (orders_of tables whole place above steps)) ≡ order_there tables whole (place_at place (drop (suc depth) steps)) (above ++ take depth steps) asked
order_at tables whole place above [] depth asked there = absurd (cc there)
order_at tables whole place above (step ∷ rest) zero asked there =
    let same : step ≡ asked = cc in
    ap (order_there tables whole (place_at place rest) above) same ∙ ap (λ xs. order_there tables whole (place_at place rest) xs asked) (sym (append-nil above))
order_at tables whole place above (step ∷ rest) (suc depth) asked there =
    order_at tables whole place (above ++ step ∷ []) rest depth asked there
    ∙ ap (λ xs. order_there tables whole (place_at place (drop (suc depth) rest)) xs asked) (append_assoc above (step ∷ []) (take depth rest))

pub no_order : (tables : Tables) (whole : List Row) (place : Place) (steps : List Step) (depth : ℕ) (asked : Step) → slice_get steps depth ≡ Some asked → is_by_user tables asked.node ≡ false →
    first_order (drop depth (orders_of tables whole place [] steps)) ≡ []
no_order tables whole place steps depth asked there system =
    order_at tables whole place [] steps depth asked there
    ∙ ap (λ b. cond b (placed (place_at place (drop (suc depth) steps)) asked.keys (entries whole (take depth steps) asked.node)) []) system

-- rows below a path, in two parts
pub parted_under : (path : List Step) (xs ys : List Row) → AreUnder path (xs ++ ys) → AreUnder path xs × AreUnder path ys
unfolding AreUnder
parted_under path xs ys all = (Rattle.nc_branches.proofs.Placing.all_first (IsUnder path) xs ys all, Rattle.nc_branches.proofs.Placing.all_second (IsUnder path) xs ys all)

pub joined_under : (path : List Step) (xs ys : List Row) → AreUnder path xs → AreUnder path ys → AreUnder path (xs ++ ys)
unfolding AreUnder
joined_under path xs ys one two = Rattle.std.proofs.lemmas.List.Elements.All-append (IsUnder path) xs ys one two
