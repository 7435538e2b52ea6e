-- What each step of the table tells its seat.
use Rattle.std.specs.Prelude.{◌≡◌, ◌≢◌, ◌≤◌, ◌-◌, ◌+◌, ℕ, List, [], ◌∷◌, length, Option, Some, None}
use Rattle.atomic_table.specs.Table.{Me, Step, rest}
use Rattle.nc_names.specs.Limits.{most_requests}
use Rattle.nc_model.specs.declared.entry.Entry.{Entry}
use Rattle.nc_model.specs.Desks.{Home, last_ticket}
use Rattle.nc_model.specs.History.{IsLegal, IsMineIn}
use Rattle.nc_turn.specs.declared.view.View.{View}
use Rattle.nc_turn.specs.Views.{Begins, AreApart, found_at, drawn_at, holding, written, given_on, compared}

-- a seat's view, and the slots that it has taken
abbrev pub Sat : Type 0 → Type 0
Sat T = Me (Option T) (View T)

-- a step of the table, in whose slots the value is or is not
abbrev pub Done : Type 0 → Type 0
Done T = Step (Option T)

module _ {T : Type 0} where
  abbrev pub saw_ticket : Done T → Sat T → ℕ → Sat T → Type 0
  saw_ticket st m r n = (n ≡ (found_at r m.0, m.1)) × (1 ≤ r) × (r ≤ last_ticket)

  abbrev pub drew : Done T → Sat T → ℕ → Sat T → Type 0
  drew st m r n = (r ≡ st.first → n ≡ (drawn_at r m.0, m.1)) × (r ≢ st.first → n ≡ m)

  -- the value came out of the slot, and stands for all of the history
  pub record Takes (home : T → Home) (stands : T → List Entry → Type 0) (m n : Sat T) : Type 0 where
    pub value : T
    pub history : List Entry
    pub view : n ≡ (holding history m.0, (0, Some value) ∷ m.1)
    pub fits : stands value history
    pub begins : Begins m.0.seen history
    pub same : (first : T) → m.0.first ≡ Some first → home value ≡ home first
    pub legal : (first : T) → m.0.first ≡ Some first → IsLegal 0 (home first).opening history
    pub own : IsMineIn m.0.mine history
    pub few : length history + 2 ≤ most_requests

  abbrev pub saw_serving : (T → Home) → (T → List Entry → Type 0) → Done T → Sat T → ℕ → Sat T → Type 0
  saw_serving home stands st m r n = (m.0.ticket ≡ Some r → Takes home stands m n) × (m.0.ticket ≢ Some r → n ≡ m)

  abbrev pub wrote : Option Entry → Done T → Sat T → ℕ → Sat T → Type 0
  wrote said st m r n =
      (e : Entry) → said ≡ Some e →
      (n ≡ (written e m.0, m.1)) × IsMineIn n.0.mine n.0.seen × (length n.0.seen ≤ most_requests)

  abbrev pub gave_on : Done T → Sat T → ℕ → Sat T → Type 0
  gave_on st m r n = n ≡ (given_on m.0, rest m.1)

  abbrev pub has_compared : Done T → Sat T → ℕ → Sat T → Type 0
  has_compared st m r n = (n ≡ (compared m.0, m.1)) × Begins m.0.met m.0.seen × AreApart m.0.mine m.0.theirs
