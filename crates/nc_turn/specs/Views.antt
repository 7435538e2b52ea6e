-- What a seat knows, and how it changes.
use Rattle.std.specs.Prelude.{◌≡◌, ◌≢◌, ◌+◌, ◌-◌, ◌^◌, ℕ, Bool, true, false, if◌then◌else◌, List, [], ◌∷◌, ◌++◌, length, Option, Some, None, ltb}
use Rattle.std.specs.List.{Contains}
use Rattle.nc_model.specs.declared.entry.Entry.{Entry}
use Rattle.nc_model.specs.Desks.{own_of}
use Rattle.nc_turn.specs.declared.view.View.{View}

-- the parts of all seats together
abbrev pub all_parts : ℕ
all_parts = 2 ^ 65

-- a history goes on from what was seen
abbrev pub Begins : List Entry → List Entry → Type 0
Begins seen history = (more : List Entry) × (history ≡ seen ++ more)

-- the longer of two histories
abbrev pub longer : List Entry → List Entry → List Entry
longer one other = if ltb (length one) (length other) then other else one

-- the shorter of two histories
abbrev pub shorter : List Entry → List Entry → List Entry
shorter one other = if ltb (length one) (length other) then one else other

-- no entry of the one has the number of an entry of the other
abbrev pub AreApart : List Entry → List Entry → Type 0
AreApart mine theirs = (e f : Entry) → Contains mine e → Contains theirs f → e.number ≢ f.number

module _ {T : Type 0} where
  abbrev pub first_view : T → View T
  first_view x = record {
    first = Some x;
    parts = all_parts;
    seen = [];
    mine = [];
    gathered = [];
    met = [];
    theirs = [];
    found = 0;
    ticket = None;
    holds = false;
    wrote = 0;
  }

  -- the next ticket was found to be n
  abbrev pub found_at : ℕ → View T → View T
  found_at n v = record v { found = n }

  -- the ticket n was drawn
  abbrev pub drawn_at : ℕ → View T → View T
  drawn_at n v = record v { ticket = Some n }

  -- the value was taken, and the history is this
  abbrev pub holding : List Entry → View T → View T
  holding history v = record v { seen = history; met = []; theirs = []; holds = true; wrote = 0 }

  -- an entry was written
  abbrev pub written : Entry → View T → View T
  written e v = record v {
    seen = v.seen ++ e ∷ [];
    mine = v.mine ++ own_of (e ∷ []);
    gathered = v.gathered ++ own_of (e ∷ []);
    met = [];
    theirs = [];
    wrote = v.wrote + 1;
  }

  -- the turn was given on
  abbrev pub given_on : View T → View T
  given_on v = record v { ticket = None; holds = false; wrote = 0 }

  -- what both know was compared
  abbrev pub compared : View T → View T
  compared v = record v { met = []; theirs = [] }

  -- one part was given away
  abbrev pub less_one : View T → View T
  less_one v = record v { parts = v.parts - 1 }

  -- the view of a seat that is new, beside one that knows this
  abbrev pub newcomer : View T → View T
  newcomer v = record {
    first = v.first;
    parts = 1;
    seen = v.seen;
    mine = [];
    gathered = [];
    met = [];
    theirs = [];
    found = v.found;
    ticket = None;
    holds = false;
    wrote = 0;
  }

  -- what was known together
  abbrev pub together : View T → View T → View T
  together v w = record v {
    parts = v.parts + w.parts;
    seen = longer v.seen w.seen;
    gathered = v.gathered ++ w.gathered;
    met = shorter v.seen w.seen;
    theirs = w.mine;
  }

  -- the view that a joined seat leaves
  abbrev pub gone : View T
  gone = record {
    first = None;
    parts = 0;
    seen = [];
    mine = [];
    gathered = [];
    met = [];
    theirs = [];
    found = 0;
    ticket = None;
    holds = false;
    wrote = 0;
  }
