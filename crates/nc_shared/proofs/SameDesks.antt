-- A desk stands for what its pass has seen, and a desk of a home is a desk of what is shared, with as many parts.
use Rattle.std.proofs.Common.{◌≡◌, ℕ, List, [], ◌∷◌, ◌++◌, length, refl, sym, ap, ◌∙◌, subst, arith}
use Rattle.atomic_table.specs.Seated.{TableId}
use Rattle.nc_model.specs.Desks.{Home}
use Rattle.nc_model.specs.History.{IsLegal}
use Rattle.nc_turn.specs.Passes.{Pass, view, first_of}
use Rattle.nc_shared.specs.declared.shared.Shared.{Shared}
use Rattle.nc_shared.specs.Chairs.{Chair, ChairStands, place_of, desk_home, chair_of, IsLeft, IsPassOf}

same_table : (y z : TableId) → place_of y ≡ place_of z → y ≡ z
same_table y z e =
    let words : y.words ≡ z.words = cc in
    let slots : y.slots ≡ z.slots = cc in
    let views : y.views_name ≡ z.views_name = cc in
    let atom : y.atom ≡ z.atom = cc in
    let block : y.block ≡ z.block = cc in
    let offset : y.offset ≡ z.offset = cc in
    let names : y.slot_names ≡ z.slot_names = cc in
    λ i. record {
      words = words i;
      slots = slots i;
      views_name = views i;
      atom = atom i;
      block = block i;
      offset = offset i;
      slot_names = names i;
    }

pub first_same : (a b : ℕ) (xs ys : List ℕ) → a ∷ xs ≡ b ∷ ys → a ≡ b
first_same a b xs ys e = cc

pub rest_same : (a b : ℕ) (xs ys : List ℕ) → a ∷ xs ≡ b ∷ ys → xs ≡ ys
rest_same a b xs ys e = cc

-- two lists of one length before others
split_same : (xs ys rest more : List ℕ) → length xs ≡ length ys → xs ++ rest ≡ ys ++ more → (xs ≡ ys) × (rest ≡ more)
split_same [] [] rest more long e = (refl, e)
split_same [] (y ∷ ys) rest more long e = absurd (omega (arith, long))
split_same (x ∷ xs) [] rest more long e = absurd (omega (arith, long))
split_same (x ∷ xs) (y ∷ ys) rest more long e =
    let heads = first_same x y (xs ++ rest) (ys ++ more) e in
    let tails = split_same xs ys rest more (omega (arith, long)) (rest_same x y (xs ++ rest) (ys ++ more) e) in
    (λ i. heads i ∷ tails.0 i, tails.1)

-- one home, where only the place was another
placed_same : (one other : Home) (a b : List ℕ) → record one { place = a } ≡ record other { place = b } →
    one.place ≡ other.place → one ≡ other
placed_same one other a b same place = λ i. record (same i) { place = place i }

module _ {T : Type 0} (home : T → Home) where
  -- a desk stands for what its pass has seen
  pub sits : (shared : Shared T) (pass : Pass T) (chair : Chair) → IsPassOf home shared pass →
      (view pass).gathered ≡ (view pass).mine → chair ≡ chair_of home shared pass →
      ChairStands chair (desk_home (chair_of home shared pass)) (view pass).seen (view pass).mine
  sits shared pass chair it alone is =
      let here : ChairStands (chair_of home shared pass) (desk_home (chair_of home shared pass)) (view pass).seen
      (view pass).mine = record {
        home_is = refl;
        seen_is = refl;
        mine_is = refl;
        alone = alone;
        legal = it.of.legal;
        own = it.of.own;
        few = it.of.few;
      } in
      subst (λ (c : Chair). ChairStands c (desk_home (chair_of home shared pass)) (view pass).seen (view pass).mine)
      (sym is) here

  -- a pass of a turn at that table and of that home is one of this
  pub of_same_turn : (shared other : Shared T) (pass theirs : Pass T) → pass.table_id ≡ theirs.table_id →
      home (first_of other.turn) ≡ home (first_of shared.turn) → IsPassOf home shared pass →
      IsPassOf home other theirs → IsPassOf home shared theirs
  of_same_turn shared other pass theirs table same mine it = record {
    of = record {
      at = record {
        table = sym table ∙ mine.of.at.table;
        value = it.of.at.value;
        first = it.of.at.first;
        same = it.of.at.same ∙ same;
        live = it.of.at.live;
      };
      legal = subst (λ (h : Home). IsLegal 0 h.opening (view theirs).seen) same it.of.legal;
      own = it.of.own;
      few = it.of.few;
    };
    idle = it.idle;
  }

  pub same_desk : (shared : Shared T) (pass : Pass T) (chair : Chair) (theirs : Pass T) →
      desk_home (chair_of home shared pass) ≡ desk_home chair → IsPassOf home shared pass → IsLeft home chair theirs →
      IsPassOf home shared theirs × ((view theirs).parts ≡ (view pass).parts)
  same_desk shared pass chair theirs whole mine left =
      let other = left.shared in
      let here = home (first_of shared.turn) in
      let there = home (first_of other.turn) in
      let same : desk_home (chair_of home shared pass) ≡ desk_home (chair_of home other theirs) = whole
      ∙ ap desk_home left.chair_is in
      let place = ap (λ (h : Home). h.place) same in
      let parts = first_same (view pass).parts (view theirs).parts _ _ place in
      let rest = rest_same (view pass).parts (view theirs).parts _ _ place in
      let long = first_same (length here.place) (length there.place) _ _ rest in
      let both = split_same here.place there.place (place_of pass.table_id) (place_of theirs.table_id) long
      (rest_same (length here.place) (length there.place) _ _ rest) in (
        of_same_turn shared other pass theirs (same_table pass.table_id theirs.table_id both.1)
            (sym (placed_same here there _ _ same both.0)) mine left.of,
        sym parts,
      )
