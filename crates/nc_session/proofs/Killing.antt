-- A session that is found not to be live was ended by an entry of another desk.
use Rattle.std.proofs.Common.{◌≡◌, inl, ◌&&◌, ◌<◌, ℕ, Bool, true, false, List, [], ◌∷◌, ◌++◌, length, map, refl, sym, ap, subst, ◌∙◌, append_assoc, arith, IsTrue}
use Rattle.std.specs.Prelude.{if◌then◌else◌}
use Rattle.std.specs.List.{All, Contains}
use Rattle.std.proofs.lemmas.List.Elements.{All-contains, All-cons, All-append, Contains-append_left, Contains-append_right}
use Rattle.nc_model.specs.declared.entry.Entry.{Entry}
use Rattle.nc_model.specs.declared.event.Event.{Event}
use Rattle.nc_model.specs.declared.event.Event.TheVariants.{Start, Request as Requested, End, Reading}
use Rattle.nc_model.specs.declared.event.Outcome.{Outcome}
use Rattle.nc_model.specs.declared.event.Outcome.TheVariants.{Started, Full, Answered, NotLive, Ended, Noted}
use Rattle.nc_protocol.specs.declared.peer.Peer.{Peer}
use Rattle.nc_protocol.specs.declared.request.Request.{Request}
use Rattle.nc_model.specs.Desks.{Home, IsView, is_own, own_of}
use Rattle.nc_model.specs.History.{IsLegal, after}
use Rattle.nc_model.specs.Laws.{IsOf, EndsSession, asks_close}
use Rattle.nc_model.specs.State.{State}
use Rattle.nc_model.specs.Step.{Fits, is_done}
use Rattle.nc_model.proofs.EndLemmas.{is_ended_between}
use Rattle.nc_model.proofs.HistoryLemmas.{legal_histories_join}
use Rattle.nc_model.proofs.OwnEnd.{closes_itself}
use Rattle.nc_protocol.proofs.ListLemmas.{heads_same, tails_same, all_one, contains_behind, contains_split}
use Rattle.nc_protocol.proofs.Parts.{IsPartOf, all_from, pair_at, part_second, contains_kept, part_rest, part_of_part}
use Rattle.nc_session.specs.declared.standing.Standing.TheVariants.{Live, Closed}
use Rattle.nc_session.specs.Sessions.{is_close, standing_by, standing_after, StayLive}
use Rattle.nc_session.specs.Serves.{WasKilled}

-- the second of two places
later_cut : {X : Type 0} (a b c d : List X) (x y : X) → a ++ x ∷ b ≡ c ++ y ∷ d → length a < length c → (between : List X) × (b ≡ between ++ y ∷ d)
later_cut [] b [] d x y is less = absurd (omega (arith, less))
later_cut [] b (z ∷ c) d x y is less = (c, tails_same x z b (c ++ y ∷ d) is)
later_cut (u ∷ a) b [] d x y is less = absurd (omega (arith, less))
later_cut (u ∷ a) b (z ∷ c) d x y is less = later_cut a b c d x y (tails_same u z (a ++ x ∷ b) (c ++ y ∷ d) is) (omega (arith, less))

-- an entry of a request of a session
abbrev pub IsRequestOf : ℕ → Entry → Type 0
IsRequestOf session e = (request : Request) × (e.event ≡ Requested session request)

-- a request of a session that leaves it live does not end it
stays_on : (session : ℕ) (request : Request) (outcome : Outcome) → asks_close request.asked ≡ true → standing_by (asks_close request.asked) outcome ≡ Live → EndsSession session (Requested session request) outcome → ⊥
stays_on session request (Answered verdict reply) closes live ends = by (asks_close request.asked) (is_done verdict) closes ends.1 live
  where
    by : (closes done : Bool) → closes ≡ true → done ≡ true → (if closes && done then Closed else Live) ≡ Live → ⊥
    by true true c d is = cc
    by true false c d is = cc
    by false done c d is = cc
stays_on session request (Started n) closes live ends = absurd ends
stays_on session request (Full n m) closes live ends = absurd ends
stays_on session request NotLive closes live ends = absurd ends
stays_on session request Ended closes live ends = absurd ends
stays_on session request Noted closes live ends = absurd ends

live_ends : (session : ℕ) (e : Entry) (s : State) → Fits s e → IsRequestOf session e → standing_after e ≡ Live → EndsSession session e.event e.outcome → ⊥
live_ends session e s fits (request, is) live ends =
    let P : Event → Type 0 = λ event. EndsSession session event e.outcome in
    let Q : Event → Type 0 = λ event. standing_by (is_close event) e.outcome ≡ Live in
    let ended = subst P is ends in
    stays_on session request e.outcome (closes_itself s e session request fits is ended) (subst Q is live) ended

dead_ends : (session : ℕ) (event : Event) → EndsSession session event NotLive → ⊥
dead_ends session (Start peer) ends = absurd ends
dead_ends session (Requested own request) ends = absurd ends
dead_ends session (End own) ends = absurd ends
dead_ends session Reading ends = absurd ends

start_ends : (session : ℕ) (peer : Peer) (outcome : Outcome) → EndsSession session (Start peer) outcome → ⊥
start_ends session peer outcome ends = absurd ends

ends_own : (session : ℕ) (event : Event) (outcome : Outcome) → EndsSession session event outcome → is_own event ≡ true
ends_own session (Start peer) outcome ends = refl
ends_own session (Requested own request) outcome ends = refl
ends_own session (End own) outcome ends = refl
ends_own session Reading outcome ends = absurd ends

abbrev EndsNone : ℕ → Entry → Type 0
EndsNone session e = ¬ EndsSession session e.event e.outcome

-- a session's entries, of which the last finds it dead
abbrev found : Entry → List Entry → Entry → List Entry
found start answers last = start ∷ (answers ++ last ∷ [])

end_none : (session : ℕ) (peer : Peer) (start last : Entry) (answers : List Entry) → start.event ≡ Start peer → StayLive answers → last.outcome ≡ NotLive
    → All (IsRequestOf session) answers → ((e : Entry) → Contains answers e → (s : State) × Fits s e) → All (EndsNone session) (found start answers last)
end_none session peer start last answers event live dead asked fits =
    let P : Event → Type 0 = λ v. EndsSession session v start.outcome → ⊥ in
    let Q : Outcome → Type 0 = λ o. EndsSession session last.event o → ⊥ in
    All-cons (EndsNone session) start (answers ++ last ∷ []) (subst P (sym event) (start_ends session peer start.outcome))
    (All-append (EndsNone session) answers (last ∷ [])
    (all_from (EndsNone session) answers (λ x there. live_ends session x (fits x there).0 (fits x there).1 (All-contains (IsRequestOf session) answers x asked there)
    (All-contains (λ (e : Entry). standing_after e ≡ Live) answers x live there)))
    (all_one (EndsNone session) last (subst Q (sym dead) (dead_ends session last.event))))

last_part : (start last : Entry) (answers : List Entry) → IsPartOf (start ∷ last ∷ []) (found start answers last)
last_part start last answers = inl (refl, part_rest answers (last ∷ []))

-- the entries of a session's requests are of its own
pub all_asked : (session : ℕ) (answers : List Entry) (requests : List Request) → map (λ (e : Entry). e.event) answers ≡ map (λ r. Requested session r) requests
    → All (IsRequestOf session) answers
all_asked session [] requests is = λ k d within. absurd (omega (arith, within))
all_asked session (e ∷ more) [] is = cc
all_asked session (e ∷ more) (request ∷ requests) is =
    All-cons (IsRequestOf session) e more (request, heads_same _ _ _ _ is) (all_asked session more requests (tails_same _ _ _ _ is))

pub own_request : (session : ℕ) (e : Entry) → IsRequestOf session e → IsOf session e.event
own_request session e (request, is) =
    let P : Event → Type 0 = λ v. IsOf session v in
    subst P (sym is) refl

-- a session that is found dead was killed
module _ (home : Home) (seen grown mine : List Entry) (start last : Entry) (answers : List Entry) (peer : Peer) (session : ℕ)
    (view : IsView home (seen ++ grown) (mine ++ found start answers last)) (fresh : Contains grown start)
    (event : start.event ≡ Start peer) (started : start.outcome ≡ Started session) (live : StayLive answers)
    (asked : All (IsRequestOf session) answers) (of : IsOf session last.event) (dead : last.outcome ≡ NotLive)
    (alone : IsTrue home.alone → own_of grown ≡ found start answers last) where
  abbrev own : List Entry
  own = found start answers last

  ordered : IsPartOf (start ∷ last ∷ []) (mine ++ own)
  ordered = part_of_part (start ∷ last ∷ []) own (mine ++ own) (last_part start last answers) (part_rest mine own)

  less : start.number < last.number
  less = pair_at (λ (e : Entry) (later : Entry). e.number < later.number) (mine ++ own) start last view.own.rise ordered

  abbrev begin : (before : List Entry) × (behind : List Entry) × (grown ≡ before ++ start ∷ behind)
  begin = contains_split grown start fresh

  there : Contains (seen ++ grown) last
  there = All-contains (Contains (seen ++ grown)) (mine ++ own) last view.own.there (part_second start last (mine ++ own) ordered)

  abbrev finish : (before : List Entry) × (behind : List Entry) × (seen ++ grown ≡ before ++ last ∷ behind)
  finish = contains_split (seen ++ grown) last there

  whole : seen ++ grown ≡ (seen ++ begin.0) ++ start ∷ begin.1
  whole = ap (λ g. seen ++ g) begin.2 ∙ sym (append_assoc seen begin.0 (start ∷ begin.1))

  places : length (seen ++ begin.0) < length finish.0
  places = omega (arith, less, (view.legal (seen ++ begin.0) begin.1 start whole).0, (view.legal finish.0 finish.1 last finish.2).0)

  abbrev cut : (between : List Entry) × (begin.1 ≡ between ++ last ∷ finish.1)
  cut = later_cut (seen ++ begin.0) begin.1 finish.0 finish.1 start last (sym whole ∙ finish.2) places

  abbrev upto : List Entry
  upto = (seen ++ begin.0) ++ start ∷ (cut.0 ++ last ∷ [])

  joined : seen ++ grown ≡ upto ++ finish.1
  joined =
      whole ∙ ap (λ b. (seen ++ begin.0) ++ start ∷ b) (cut.1 ∙ sym (append_assoc cut.0 (last ∷ []) finish.1))
      ∙ sym (append_assoc (seen ++ begin.0) (start ∷ (cut.0 ++ last ∷ [])) finish.1)

  legal : IsLegal 0 home.opening upto
  legal =
      let P : List Entry → Type 0 = λ h. IsLegal 0 home.opening h in
      ((legal_histories_join 0 home.opening upto finish.1).0 (subst P joined view.legal)).0

  abbrev ended : (ender : Entry) × Contains cut.0 ender × EndsSession session ender.event ender.outcome
  ended = is_ended_between 0 home.opening (seen ++ begin.0) cut.0 start last peer session legal event started of dead

  within : Contains grown ended.0
  within =
      let P : List Entry → Type 0 = λ g. Contains g ended.0 in
      subst P (sym begin.2)
      (Contains-append_right begin.0 (start ∷ begin.1) ended.0
      (contains_behind start begin.1 ended.0 (subst P (sym cut.1) (Contains-append_left cut.0 (last ∷ finish.1) ended.0 ended.1))))

  -- an answer fits the state that those before it leave
  fits : (e : Entry) → Contains answers e → (s : State) × Fits s e
  fits e within =
      let there = Contains-append_right mine own e (contains_behind start (answers ++ last ∷ []) e (Contains-append_left answers (last ∷ []) e within)) in
      let split = contains_split (seen ++ grown) e (All-contains (Contains (seen ++ grown)) (mine ++ own) e view.own.there there) in
      (after home.opening split.0, (view.legal split.0 split.1 e split.2).1)

  another : ¬ Contains own ended.0
  another here = All-contains (EndsNone session) own ended.0 (end_none session peer start last answers event live dead asked fits) here ended.2

  pub was_killed : WasKilled session home.alone grown own
  was_killed = record { ender = ended.0; there = within; ends = ended.2; another = another; shared = by home.alone refl }
    where
      by : (b : Bool) → home.alone ≡ b → home.alone ≡ false
      by false is = is
      by true is =
          let P : List Entry → Type 0 = λ g. Contains g ended.0 in
          absurd (another (subst P (alone is) (contains_kept (λ (e : Entry). is_own e.event) ended.0 grown within (ends_own session ended.0.event ended.0.outcome ended.2))))
