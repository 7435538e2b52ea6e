-- What a torn write leaves of a file, in each state of a journal.
use Rattle.std.proofs.Common.{◌≡◌, ◌≢◌, ◌⊎◌, inl, inr, ⊎_elim, ℕ, ◌+◌, ◌-◌, ◌<◌, ◌≤◌, ◌^◌, Bool, true, false, not, List, [], ◌∷◌, ◌++◌, length, All, Contains, Option, Some, None, refl, sym, ◌∙◌, ap, subst, arith, length-append, append_assoc}
use Rattle.std.proofs.lemmas.Bool.{cases_eq}
use Rattle.std.proofs.lemmas.List.Elements.{All-push as All_push}
use Rattle.nc_outside.specs.Disks.{Torn, Then, written_at}
use Rattle.nc_outside.proofs.DiskFiles.{written_torn, length-written_at}
use Rattle.nc_journal.specs.Format.{mark, number, chooser_place, areas_begin, slot_place, chooser, framed, recorded, area, gate_place}
use Rattle.nc_names.specs.Limits.{body_limit}
use Rattle.nc_journal.specs.Files.{At, HasArea, HoldsAt, Holds, HoldsAmong, closed_gate, torn_gate, torn_chooser}
use Rattle.nc_journal.specs.Images.{IsClean, HasOpenGate, HasOpenChooser}
use Rattle.nc_journal.proofs.Segments.{at_front, at_back, at_join, at_within, at_byte, at_before, at_after, at_written}
use Rattle.nc_journal.proofs.Numbers.{length-mark, length-number, length-framed, area-push, gate-push, slot_first, slot_last, slots_apart}

-- A torn range that keeps off the front and the live area: it stands behind the gate, or between the slots and the area.
module _ (header : List ℕ) (second : Bool) (place : ℕ) (bodies : List (List ℕ)) where
  gate : ℕ
  gate = gate_place header bodies place

  -- a range behind the front keeps the slots' names
  pub names_behind : (at n : ℕ) (old new : List ℕ) → areas_begin ≤ at → (place + length (area header bodies) ≤ at) ⊎ (at + n ≤ place) → Torn at n old new
      → HasArea header second place bodies old → HasArea header second place bodies new
  names_behind at n old new low apart torn names = record {
    opened = at_before 0 at n (1 ∷ mark) old new torn (omega (arith, length-mark)) names.opened;
    slot = at_before (slot_place second) at n (number place) old new torn (omega (arith, slot_last second, length-number place)) names.slot;
    behind = names.behind;
    fits = names.fits;
    area = ⊎_elim
        (λ (le : place + length (area header bodies) ≤ at). at_before place at n (area header bodies) old new torn le names.area)
        (λ (le : at + n ≤ place). at_after place at n (area header bodies) old new torn le names.area) apart;
    small = names.small;
  }

  -- so does the chooser, and so does the other slot
  pub names_chooser : (old new : List ℕ) → Torn chooser_place 1 old new → HasArea header second place bodies old → HasArea header second place bodies new
  names_chooser old new torn names = record {
    opened = at_before 0 9 1 (1 ∷ mark) old new torn (omega (arith, length-mark)) names.opened;
    slot = at_after (slot_place second) 9 1 (number place) old new torn (omega (arith, slot_first second)) names.slot;
    behind = names.behind;
    fits = names.fits;
    area = at_after place 9 1 (area header bodies) old new torn (omega (arith, names.behind)) names.area;
    small = names.small;
  }

  pub names_slot : (old new : List ℕ) → Torn (slot_place (not second)) 8 old new → HasArea header second place bodies old → HasArea header second place bodies new
  names_slot old new torn names = record {
    opened = at_before 0 (slot_place (not second)) 8 (1 ∷ mark) old new torn (omega (arith, length-mark, slot_first (not second))) names.opened;
    slot = ⊎_elim
        (λ (le : slot_place second + 8 ≤ slot_place (not second)).
        at_before (slot_place second) (slot_place (not second)) 8 (number place) old new torn (omega (arith, length-number place)) names.slot)
        (λ (le : slot_place (not second) + 8 ≤ slot_place second). at_after (slot_place second) (slot_place (not second)) 8 (number place) old new torn le names.slot)
        (slots_apart second);
    behind = names.behind;
    fits = names.fits;
    area = at_after place (slot_place (not second)) 8 (area header bodies) old new torn (omega (arith, names.behind, slot_last (not second))) names.area;
    small = names.small;
  }

  -- a clean file with a range behind its gate torn is clean
  pub clean_behind : (n : ℕ) (old new : List ℕ) → Torn (gate_place header bodies place + 1) n old new → IsClean header second place bodies old → IsClean header second place bodies new
  clean_behind n old new torn clean = record {
    chosen = at_before 9 (gate_place header bodies place + 1) n (chooser second ∷ []) old new torn (omega (arith, clean.live.behind)) clean.chosen;
    live = names_behind (gate_place header bodies place + 1) n old new (omega (arith, clean.live.behind)) (inl (omega arith)) torn clean.live;
    closed = at_before (gate_place header bodies place) (gate_place header bodies place + 1) n (0 ∷ []) old new torn (omega arith) clean.closed;
  }

  -- with a whole record behind it the gate may be opened
  pub staged : (body file : List ℕ) → length body ≤ body_limit → gate_place header bodies place + 1 ≤ length file → IsClean header second place bodies file
      → HasOpenGate header second place bodies body (written_at (gate_place header bodies place + 1) (framed body) file)
  staged body file small within clean =
      let torn = written_torn (gate_place header bodies place + 1) (framed body) file within in
      let same = clean_behind (length (framed body)) file (written_at (gate_place header bodies place + 1) (framed body) file) torn clean in
      record { chosen = same.chosen; live = same.live; small = small; behind = at_written (gate_place header bodies place + 1) (framed body) file within }

  -- a gate in doubt that is torn is in doubt
  pub open_gate : (body old new : List ℕ) → Torn (gate_place header bodies place) 1 old new → HasOpenGate header second place bodies body old → HasOpenGate header second place bodies body new
  open_gate body old new torn open_old = record {
    chosen = at_before 9 (gate_place header bodies place) 1 (chooser second ∷ []) old new torn (omega (arith, open_old.live.behind)) open_old.chosen;
    live = names_behind (gate_place header bodies place) 1 old new (omega (arith, open_old.live.behind)) (inl (omega arith)) torn open_old.live;
    small = open_old.small;
    behind = at_after (gate_place header bodies place + 1) (gate_place header bodies place) 1 (framed body) old new torn (omega arith) open_old.behind;
  }

  pub open_within : (body file : List ℕ) → HasOpenGate header second place bodies body file → gate_place header bodies place + 1 + (9 + length body) ≤ length file
  open_within body file open_file =
      omega (arith, length-framed body, at_within (gate_place header bodies place + 1) (framed body) file open_file.behind (omega (arith, length-framed body)))

  -- closed, it is as before
  pub closes : (body file : List ℕ) → HasOpenGate header second place bodies body file → At (gate_place header bodies place) (0 ∷ []) file → IsClean header second place bodies file
  closes body file open_file closed = record { chosen = open_file.chosen; live = open_file.live; closed = closed }

  -- opened, it has one body more
  pub opens : (body file : List ℕ) → HasOpenGate header second place bodies body file → At (gate_place header bodies place) (1 ∷ []) file → IsClean header second place (bodies ++ body ∷ []) file
  opens body file open_file opened =
      let g = gate_place header bodies place in
      let regroup : framed body ≡ number (length body) ++ body ++ 0 ∷ [] = sym (append_assoc (number (length body)) body (0 ∷ [])) in
      let behind : At (g + 1) (number (length body) ++ body ++ 0 ∷ []) file = subst (λ (l : List ℕ). At (g + 1) l file) regroup open_file.behind in
      let whole : At g (recorded body) file =
      at_join g (1 ∷ []) (number (length body) ++ body) file opened (at_front (g + 1) (number (length body) ++ body) (0 ∷ []) file behind) in
      let joined : At place (area header bodies ++ recorded body) file = at_join place (area header bodies) (recorded body) file open_file.live.area whole in
      let last : At (g + 1 + length (number (length body) ++ body)) (0 ∷ []) file = at_back (g + 1) (number (length body) ++ body) (0 ∷ []) file behind in
      let there : g + 1 + length (number (length body) ++ body) ≡ gate_place header (bodies ++ body ∷ []) place =
      omega (arith, length-append (number (length body)) body, length-number (length body), gate-push header bodies body place) in
      record {
        chosen = open_file.chosen;
        live = record {
          opened = open_file.live.opened;
          slot = open_file.live.slot;
          behind = open_file.live.behind;
          fits = open_file.live.fits;
          area = subst (λ (l : List ℕ). At place l file) (sym (area-push header bodies body)) joined;
          small = All_push (λ b. length b ≤ body_limit) bodies body open_file.live.small open_file.small;
        };
        closed = subst (λ k. At k (0 ∷ []) file) there last;
      }

  pub clean_holds : (file : List ℕ) → IsClean header second place bodies file → Holds header bodies None file
  clean_holds file clean = record { second = second; place = place; held = closed_gate clean.chosen clean.live clean.closed refl }

  pub clean_among : (allowed : List (List (List ℕ))) (file : List ℕ) → Contains allowed bodies → IsClean header second place bodies file → HoldsAmong header allowed file
  clean_among allowed file among clean = record { bodies = bodies; doubt = None; holds = clean_holds file clean; bodies_allowed = among; doubt_allowed = tt }

  -- whatever the gate is, the file stands for the bodies with the new one or without it
  pub open_among : (allowed : List (List (List ℕ))) (body file : List ℕ) → Contains allowed bodies → Contains allowed (bodies ++ body ∷ []) → HasOpenGate header second place bodies body file
      → HoldsAmong header allowed file
  open_among allowed body file among among_new open_file =
      let found = at_byte (gate_place header bodies place) file (omega (arith, open_within body file open_file)) in
      elim (cases_eq found.0 0) [
        | inl zero_is ↦ clean_among allowed file among (closes body file open_file (subst (λ b. At (gate_place header bodies place) (b ∷ []) file) zero_is found.1))
        | inr not_zero ↦ elim (cases_eq found.0 1) [
          | inl one_is ↦
              let clean = opens body file open_file (subst (λ b. At (gate_place header bodies place) (b ∷ []) file) one_is found.1) in
              record {
                bodies = bodies ++ body ∷ [];
                doubt = None;
                holds = record { second = second; place = place; held = closed_gate clean.chosen clean.live clean.closed refl };
                bodies_allowed = among_new;
                doubt_allowed = tt;
              }
          | inr not_one ↦ record {
            bodies = bodies;
            doubt = Some (bodies ++ body ∷ []);
            holds = record { second = second; place = place; held = torn_gate found.0 body open_file.chosen open_file.live found.1 not_zero not_one open_file.small open_file.behind refl };
            bodies_allowed = among;
            doubt_allowed = among_new;
          }
        ]
      ]

  -- a write and a write of the other slot keep off a clean file
  pub clean_elsewhere : (at n : ℕ) (old new : List ℕ) → areas_begin ≤ at → (gate_place header bodies place + 1 ≤ at) ⊎ (at + n ≤ place)
      → Then (Torn at n) (Torn (slot_place (not second)) 8) old new → IsClean header second place bodies old → IsClean header second place bodies new
  clean_elsewhere at n old new low apart step clean = record {
    chosen = at_before 9 (slot_place (not second)) 8 (chooser second ∷ []) step.mid new step.right (omega (arith, slot_first (not second)))
        (at_before 9 at n (chooser second ∷ []) old step.mid step.left (omega arith) clean.chosen);
    live = names_slot step.mid new step.right (names_behind at n old step.mid low
        (⊎_elim (λ (le : gate_place header bodies place + 1 ≤ at). inl (omega arith)) (λ (le : at + n ≤ place). inr le) apart) step.left clean.live);
    closed = at_after (gate_place header bodies place) (slot_place (not second)) 8 (0 ∷ []) step.mid new step.right (omega (arith, clean.live.behind, slot_last (not second)))
        (⊎_elim
        (λ (le : gate_place header bodies place + 1 ≤ at). at_before (gate_place header bodies place) at n (0 ∷ []) old step.mid step.left (omega arith) clean.closed)
        (λ (le : at + n ≤ place). at_after (gate_place header bodies place) at n (0 ∷ []) old step.mid step.left (omega arith) clean.closed) apart);
  }

  -- both written, the chooser may be turned
  pub replaced : (other : ℕ) (others : List (List ℕ)) (file : List ℕ) → areas_begin ≤ other → other < 2 ^ 64 → other ≤ length file
      → (gate_place header bodies place + 1 ≤ other) ⊎ (other + length (area header others ++ 0 ∷ []) ≤ place)
      → All (λ body. length body ≤ body_limit) others → IsClean header second place bodies file
      → HasOpenChooser header second place bodies other others (written_at (slot_place (not second)) (number other) (written_at other (area header others ++ 0 ∷ []) file))
  replaced other others file low fits within apart small clean =
      let bytes = area header others ++ 0 ∷ [] in
      let mid = written_at other bytes file in
      let new = written_at (slot_place (not second)) (number other) mid in
      let first : Torn other (length bytes) file mid = written_torn other bytes file within in
      let below : slot_place (not second) ≤ length mid =
      omega (arith, slot_last (not second), length-written_at other bytes file within) in
      let second_step : Torn (slot_place (not second)) 8 mid new =
      subst (λ k. Torn (slot_place (not second)) k mid new) (length-number other) (written_torn (slot_place (not second)) (number other) mid below) in
      let same : IsClean header second place bodies new =
      clean_elsewhere other (length bytes) file new low apart (record { mid = mid; left = first; right = second_step }) clean in
      let there : At other bytes new =
      at_after other (slot_place (not second)) 8 bytes mid new second_step (omega (arith, slot_last (not second))) (at_written other bytes file within) in
      record {
        live = same.live;
        closed = same.closed;
        next = record {
          opened = same.live.opened;
          slot = at_written (slot_place (not second)) (number other) mid below;
          behind = low;
          fits = fits;
          area = at_front other (area header others) (0 ∷ []) new there;
          small = small;
        };
        next_closed = at_back other (area header others) (0 ∷ []) new there;
      }

  -- a chooser in doubt that is torn is in doubt
  pub open_chooser : (other : ℕ) (others : List (List ℕ)) (old new : List ℕ) → ((o n : List ℕ) → Torn chooser_place 1 o n → HasArea header (not second) other others o → HasArea header (not second) other others n)
      → Torn chooser_place 1 old new → HasOpenChooser header second place bodies other others old → HasOpenChooser header second place bodies other others new
  open_chooser other others old new names_other torn open_old = record {
    live = names_chooser old new torn open_old.live;
    closed = at_after (gate_place header bodies place) 9 1 (0 ∷ []) old new torn (omega (arith, open_old.live.behind)) open_old.closed;
    next = names_other old new torn open_old.next;
    next_closed = at_after (gate_place header others other) 9 1 (0 ∷ []) old new torn (omega (arith, open_old.next.behind)) open_old.next_closed;
  }

-- the chooser may be any byte: it chooses slot 1, or slot 0, or is torn
chosen_among : (header : List ℕ) (allowed : List (List (List ℕ))) (place other : ℕ) (bodies others : List (List ℕ)) (file : List ℕ)
    → Contains allowed bodies → Contains allowed others
    → HasArea header false place bodies file → At (gate_place header bodies place) (0 ∷ []) file
    → HasArea header true other others file → At (gate_place header others other) (0 ∷ []) file
    → (byte : ℕ) → At chooser_place (byte ∷ []) file → HoldsAmong header allowed file
chosen_among header allowed place other bodies others file among among_others first first_closed last last_closed byte at = elim (cases_eq byte 0) [
  | inl zero_is ↦
      clean_among header false place bodies allowed file among (record { chosen = subst (λ b. At chooser_place (b ∷ []) file) zero_is at; live = first; closed = first_closed })
  | inr not_zero ↦ elim (cases_eq byte 1) [
    | inl one_is ↦
        clean_among header true other others allowed file among_others (record { chosen = subst (λ b. At chooser_place (b ∷ []) file) one_is at; live = last; closed = last_closed })
    | inr not_one ↦ record {
      bodies = bodies;
      doubt = Some others;
      holds = record { second = false; place = place; held = torn_chooser byte other others refl at not_zero not_one first first_closed last last_closed refl };
      bodies_allowed = among;
      doubt_allowed = among_others;
    }
  ]
]

pub chooser_among : (header : List ℕ) (allowed : List (List (List ℕ))) (second : Bool) (place : ℕ) (bodies : List (List ℕ)) (other : ℕ) (others : List (List ℕ)) (file : List ℕ)
    → Contains allowed bodies → Contains allowed others → HasOpenChooser header second place bodies other others file → HoldsAmong header allowed file
chooser_among header allowed false place bodies other others file among among_others open_file =
    let found = at_byte 9 file (omega (arith, length-number place, at_within 10 (number place) file open_file.live.slot (omega (arith, length-number place)))) in
    chosen_among header allowed place other bodies others file among among_others open_file.live open_file.closed open_file.next open_file.next_closed found.0 found.1
chooser_among header allowed true place bodies other others file among among_others open_file =
    let found = at_byte 9 file (omega (arith, length-number place, at_within 18 (number place) file open_file.live.slot (omega (arith, length-number place)))) in
    chosen_among header allowed other place others bodies file among_others among open_file.next open_file.next_closed open_file.live open_file.closed found.0 found.1

-- a chooser in doubt that is torn is in doubt
pub chooser_torn : (header : List ℕ) (second : Bool) (place : ℕ) (bodies : List (List ℕ)) (other : ℕ) (others : List (List ℕ)) (old new : List ℕ) → Torn chooser_place 1 old new
    → HasOpenChooser header second place bodies other others old → HasOpenChooser header second place bodies other others new
chooser_torn header second place bodies other others old new torn open_old =
    open_chooser header second place bodies other others old new (λ o n t names. names_chooser header (not second) other others o n t names) torn open_old

-- with its byte known it is at rest
pub chooser_stays : (header : List ℕ) (second : Bool) (place : ℕ) (bodies : List (List ℕ)) (other : ℕ) (others : List (List ℕ)) (file : List ℕ)
    → HasOpenChooser header second place bodies other others file → At chooser_place (chooser second ∷ []) file → IsClean header second place bodies file
chooser_stays header second place bodies other others file open_file at = record { chosen = at; live = open_file.live; closed = open_file.closed }

pub chooser_turns : (header : List ℕ) (second : Bool) (place : ℕ) (bodies : List (List ℕ)) (other : ℕ) (others : List (List ℕ)) (file : List ℕ)
    → HasOpenChooser header second place bodies other others file → At chooser_place (chooser (not second) ∷ []) file → IsClean header (not second) other others file
chooser_turns header second place bodies other others file open_file at = record { chosen = at; live = open_file.next; closed = open_file.next_closed }

pub chooser_within : (header : List ℕ) (second : Bool) (place : ℕ) (bodies : List (List ℕ)) (other : ℕ) (others : List (List ℕ)) (file : List ℕ)
    → HasOpenChooser header second place bodies other others file → chooser_place + 1 ≤ length file
chooser_within header second place bodies other others file open_file =
    omega (arith, length-number place, slot_first second, at_within (slot_place second) (number place) file open_file.live.slot (omega (arith, length-number place)))

pub clean_within : (header : List ℕ) (second : Bool) (place : ℕ) (bodies : List (List ℕ)) (file : List ℕ) → IsClean header second place bodies file → gate_place header bodies place + 1 ≤ length file
clean_within header second place bodies file clean = at_within (gate_place header bodies place) (0 ∷ []) file clean.closed (omega arith)
