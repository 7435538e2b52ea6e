-- A history in which no recovery session is begun, since none is begun by what was entered at desks.
use Rattle.std.proofs.Common.{◌≡◌, ℕ, ◌+◌, ◌<◌, Bool, true, false, List, [], ◌∷◌, ◌++◌, length, refl, arith}
use Rattle.std.specs.Prelude.{if◌then◌else◌}
use Rattle.std.specs.List.{Contains}
use Rattle.std.proofs.lemmas.List.Elements.{All-cons, All-contains, All-nil, Contains-append_right}
use Rattle.nc_model.specs.declared.entry.Entry.{Entry}
use Rattle.nc_model.specs.declared.event.Event.{Event}
use Rattle.nc_model.specs.declared.event.Event.TheVariants.{End, Reading, Request, Start}
use Rattle.nc_model.specs.Desks.{is_own, own_of}
use Rattle.nc_server.specs.Homes.{BeginsNoRecovery, HaveNoRecovery}

-- a reading begins no session
reading_plain : (event : Event) → is_own event ≡ false → BeginsNoRecovery event
reading_plain (Start peer) wrong = absurd (cc)
reading_plain (Request session request) wrong = tt
reading_plain (End session) wrong = tt
reading_plain Reading is = tt

first_plain : (own : Bool) (e : Entry) (rest : List Entry) → is_own e.event ≡ own
    → ((f : Entry) → Contains (if own then e ∷ own_of rest else own_of rest) f → BeginsNoRecovery f.event)
    → BeginsNoRecovery e.event
first_plain true e rest is all = all e (0, omega arith, refl)
first_plain false e rest is all = reading_plain e.event is

in_rest : (own : Bool) (e f : Entry) (rest : List Entry) → Contains (own_of rest) f
    → Contains (if own then e ∷ own_of rest else own_of rest) f
in_rest true e f rest there = Contains-append_right (e ∷ []) (own_of rest) f there
in_rest false e f rest there = there

own_plain : (seen : List Entry) → ((e : Entry) → Contains (own_of seen) e → BeginsNoRecovery e.event) → HaveNoRecovery seen
own_plain [] all = All-nil (λ (e : Entry). BeginsNoRecovery e.event)
own_plain (e ∷ rest) all =
    All-cons (λ (x : Entry). BeginsNoRecovery x.event) e rest (first_plain (is_own e.event) e rest refl all)
    (own_plain rest (λ f there. all f (in_rest (is_own e.event) e f rest there)))

pub plain_all : (seen gathered : List Entry) → ((e : Entry) → Contains (own_of seen) e → Contains gathered e)
    → HaveNoRecovery gathered → HaveNoRecovery seen
plain_all seen gathered all had =
    own_plain seen (λ e there. All-contains (λ (x : Entry). BeginsNoRecovery x.event) gathered e had (all e there))
