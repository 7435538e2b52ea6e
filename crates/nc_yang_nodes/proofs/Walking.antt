-- One turn of the walk.
use Rattle.std.proofs.Common.{◌≡◌, ◌+◌, ◌<◌, ◌≤◌, inl, inr, ℕ, true, false, List, [], ◌∷◌, ◌++◌, length, drop, refl, sym, ap, subst, ◌∙◌, lit≤}
use Rattle.std.specs.Prelude.{Option, Some, None, Result, Ok, Err, OnOk, option_and_then, option_map, slice_get, map, MatchOption}
use Rattle.std.specs.Option.{option_map_or}
use Rattle.std.proofs.lemmas.List.{append-nil, reverse-append}
use Rattle.std.proofs.lemmas.List.Elements.{All-nil}
use Rattle.nc_yang_words.specs.declared.statement.Statement.{Statement}
use Rattle.nc_yang_scopes.specs.declared.naming.TextFault.{TextFault}
use Rattle.nc_yang_scopes.specs.Scopes.{Located, Scoping, root}
use Rattle.nc_yang_nodes.specs.declared.context.Context.{Context}
use Rattle.nc_yang_nodes.specs.declared.features.Features.{Features}
use Rattle.nc_yang_nodes.specs.declared.planned.Plan.{Plan}
use Rattle.nc_yang_nodes.specs.declared.planned.Planned.{Planned}
use Rattle.nc_yang_statements.specs.Stops.{OnBroken}
use Rattle.nc_yang_statements.specs.declared.stop.Stop.{Stop}
use Rattle.nc_yang_statements.specs.declared.stop.Stop.TheVariants.{Broken, Memory}
use Rattle.nc_yang_nodes.specs.declared.role.Role.{Role}
use Rattle.nc_yang_nodes.specs.declared.table.Entry.{Entry}
use Rattle.nc_yang_nodes.specs.declared.table.Table.{Table}
use Rattle.nc_yang_nodes.specs.declared.walk.Frame.{Frame}
use Rattle.nc_yang_nodes.specs.declared.walk.Walk.{Walk}
use Rattle.nc_yang_nodes.specs.FeaturesOn.{is_on}
use Rattle.nc_yang_nodes.specs.Roles.{FeatureTest, block, children, role}
use Rattle.nc_yang_nodes.specs.Expansion.{Gives, Meets, Moment, added, after, at_top, inner, now}
use Rattle.nc_yang_nodes.specs.Plans.{GivesTexts, HasRoom, IsFirstPast, IsPlan, no_text, nothing}
use Rattle.nc_yang_nodes.specs.inner.Rooms.{fits}
use Rattle.nc_yang_nodes.specs.inner.Tables.{Barren, IsTableOf, children_at, test_of}
use Rattle.nc_yang_nodes.specs.inner.Walks.{AddsOrStops, AddsText, ComesTo, GoesOn, IsFaultAt, IsNext, Leads, Left, MeetsOn, Moves, Stops, StopsAt, StopsText, behind, block_frames, left_of, passed, stack, taken, with_frame}
use Rattle.nc_yang_nodes.proofs.Leading.{leads_end, leads_given, leads_on, leads_passed, leads_self, leads_skip}
use Rattle.nc_yang_nodes.proofs.ListLemmas.{drop_next, drop_past, got}
use Rattle.nc_yang_nodes.proofs.Rooms.{no_room, room_more}

abbrev left : Context → List Located → Left
left c ls = record { context = c; statements = ls }

pub stack_push : (scoping : Scoping) (fs : List Frame) (f : Frame) → stack scoping (fs ++ f ∷ []) ≡ left_of scoping f ∷ stack scoping fs
stack_push scoping fs f = ap (map (left_of scoping)) (reverse-append fs (f ∷ []))

module _ (scoping : Scoping) (on : FeatureTest) where
  leads_moved : (a b d e : List Left) (p q : Plan) → a ≡ b → d ≡ e → Leads scoping on b p d q → Leads scoping on a p e q
  leads_moved a b d e p q ab de h = subst (λ z. Leads scoping on z p e q) (sym ab) (subst (λ z. Leads scoping on b p z q) de h)

  module _ (walk : Walk) (frame : Frame) (child : ℕ) (entry : Entry) (next : IsNext scoping on frame child entry) where
    abbrev l : Located
    l = next.found.statement

    abbrev rest : List Located
    rest = drop (frame.place + 1) (children_at scoping frame.number)

    abbrev fs : List Left
    fs = stack scoping walk.frames

    starts : with_frame scoping frame walk ≡ left frame.context (l ∷ rest) ∷ fs
    starts = ap (λ ls. left frame.context ls ∷ fs) (drop_next (children_at scoping frame.number) frame.place l next.found.is)

    pub pass_comes : (new : Walk) → entry.role ≡ None → HasRoom walk.plan → new ≡ passed frame walk
        → ComesTo scoping on (with_frame scoping frame walk) walk.plan new
    pass_comes new none room is = subst (ComesTo scoping on (with_frame scoping frame walk) walk.plan) (sym is) (record {
      leads =
          leads_moved _ _ _ _ walk.plan walk.plan starts (sym (stack_push scoping walk.frames (behind frame frame.context)))
          (leads_passed scoping on fs frame.context walk.plan l rest (sym next.known.gives ∙ none));
      room = room;
    })

    opened : (r : Role) (is : role scoping.texts on l ≡ Some r) (o : Option ℕ)
        → MatchOption o (Barren scoping on (block scoping.texts l r)) (λ b. block scoping.texts l r ≡ children_at scoping b)
        → Leads scoping on (left frame.context (l ∷ rest) ∷ fs) walk.plan
        (stack scoping ((walk.frames ++ behind frame (after frame.context) ∷ []) ++ block_frames (inner frame.context walk.plan r) o)) (added child frame.context r walk.plan)
    opened r is None barren =
        leads_moved _ _ _ _ walk.plan (added child frame.context r walk.plan) refl
        (sym (ap (stack scoping) (append-nil (walk.frames ++ behind frame (after frame.context) ∷ [])) ∙ stack_push scoping walk.frames (behind frame (after frame.context))))
        (leads_on scoping on _ _ _ walk.plan (added child frame.context r walk.plan) (added child frame.context r walk.plan)
        (leads_given scoping on fs frame.context walk.plan l rest child r next.found.located is)
        (leads_skip scoping on (left (after frame.context) rest ∷ fs) (inner frame.context walk.plan r) (added child frame.context r walk.plan) (block scoping.texts l r) barren))
    opened r is (Some b) same =
        leads_moved _ _ _ _ walk.plan (added child frame.context r walk.plan) refl
        (ap (λ ls. left (inner frame.context walk.plan r) ls ∷ left (after frame.context) rest ∷ fs) same
        ∙ ap (λ z. left (inner frame.context walk.plan r) (children_at scoping b) ∷ z) (sym (stack_push scoping walk.frames (behind frame (after frame.context))))
        ∙ sym (stack_push scoping (walk.frames ++ behind frame (after frame.context) ∷ []) (record { number = b; place = 0; context = inner frame.context walk.plan r })))
        (leads_given scoping on fs frame.context walk.plan l rest child r next.found.located is)

    pub take_comes : (new : Walk) (r : Role) → entry.role ≡ Some r → fits walk.plan frame.context r ≡ true → HasRoom walk.plan
        → new ≡ taken frame child r entry.block walk → ComesTo scoping on (with_frame scoping frame walk) walk.plan new
    take_comes new r some fit room is = subst (ComesTo scoping on (with_frame scoping frame walk) walk.plan) (sym is) (record {
      leads =
          let e : role scoping.texts on l ≡ Some r = sym next.known.gives ∙ some in
          leads_moved _ _ _ _ walk.plan (added child frame.context r walk.plan) starts refl (opened r e entry.block (next.known.opens r e));
      room = room_more walk.plan frame.context r child fit room;
    })

    abbrev moment : Moment
    moment = record { context = frame.context; before = walk.plan; statement = l }

    pub full_stops : (r : Role) (fault : TextFault) → entry.role ≡ Some r → fits walk.plan frame.context r ≡ false → HasRoom walk.plan
        → IsFaultAt scoping child fault → StopsAt scoping on (with_frame scoping frame walk) walk.plan fault
    full_stops r fault some full room at = record {
      moment = moment;
      meets = subst (λ z. MeetsOn scoping on z walk.plan moment) (sym starts) (inl (now frame.context walk.plan l rest));
      past = record {
        room = room;
        number = child;
        role_of = r;
        located = next.found.located;
        is = sym next.known.gives ∙ some;
        past = no_room walk.plan frame.context r child full;
      };
      at = at l next.found.located;
    }

  -- a frame of which nothing is left
  pub end_comes : (old fs : List Frame) (frame : Frame) (plan : Plan) → old ≡ fs ++ frame ∷ [] → length (children_at scoping frame.number) ≤ frame.place
      → HasRoom plan → ComesTo scoping on (stack scoping old) plan (record { plan = plan; frames = fs })
  end_comes old fs frame plan is past room = record {
    leads =
        leads_moved _ _ _ _ plan plan
        (ap (stack scoping) is ∙ stack_push scoping fs frame ∙ ap (λ ls. left frame.context ls ∷ stack scoping fs) (drop_past (children_at scoping frame.number) frame.place past)) refl
        (leads_end scoping on (stack scoping fs) frame.context plan);
    room = room;
  }

  pub comes_self : (walk : Walk) → HasRoom walk.plan → ComesTo scoping on (stack scoping walk.frames) walk.plan walk
  comes_self walk room = record { leads = leads_self scoping on (stack scoping walk.frames) walk.plan; room = room }

  pub comes_on : (old : List Left) (before : Plan) (mid new : Walk) → ComesTo scoping on old before mid → ComesTo scoping on (stack scoping mid.frames) mid.plan new
      → ComesTo scoping on old before new
  comes_on old before mid new one two =
      record { leads = leads_on scoping on old (stack scoping mid.frames) (stack scoping new.frames) before mid.plan new.plan one.leads two.leads; room = two.room }

  pub stops_on : (old : List Left) (before : Plan) (mid : Walk) (stop : Stop TextFault) → ComesTo scoping on old before mid → Stops scoping on (stack scoping mid.frames) mid.plan stop
      → Stops scoping on old before stop
  stops_on old before mid (Broken fault) one h = record { moment = h.moment; meets = one.leads.meets h.moment h.meets; past = h.past; at = h.at }
  stops_on old before mid Memory one h = tt

  module _ (text number : ℕ) (within : text < length scoping.texts) (is_root : option_and_then (slice_get scoping.located) (Some number) ≡ root scoping.texts text) where
    abbrev top : Located
    top = record { statement = (got scoping.texts text within).0; place = record { text = text; blocks = [] } }

    root_is : root scoping.texts text ≡ Some top
    root_is = let s = got scoping.texts text within in ap (option_map (λ (z : Statement). let it : Located = record { statement = z; place = record { text = text; blocks = [] } } in it)) s.1

    abbrev first : List Left
    first = left (at_top text) (children top) ∷ []

    frame_is : (fs : List Frame) (c : Context) → c ≡ at_top text → fs ≡ [] → stack scoping (fs ++ record { number = number; place = 0; context = c } ∷ []) ≡ first
    frame_is fs c is none =
        stack_push scoping fs (record { number = number; place = 0; context = c })
        ∙ ap (λ z. left c (children_at scoping number) ∷ stack scoping z) none
        ∙ ap (λ z. left z (children_at scoping number) ∷ []) is
        ∙ ap (λ o. left (at_top text) (option_map_or children o []) ∷ []) (is_root ∙ root_is)

    adds : (old : List Left) (before : Plan) (new : Walk) → old ≡ first → ComesTo scoping on old before new → new.frames ≡ [] → AddsText scoping on text before new
    adds old before new is h none =
        let go = subst (λ z. Leads scoping on z before (stack scoping new.frames) new.plan) is h.leads in
        let all = go.gives new.plan (subst (λ fs. GoesOn scoping on (stack scoping fs) new.plan new.plan) (sym none) refl) in
        record {
          top = top;
          is_root = root_is;
          gives = subst (λ z. Gives scoping on (at_top text) before (children top) z) all.1.1 all.1.0;
          room = h.room;
          ended = none;
        }

    meets_first : (before : Plan) (m : Moment) → MeetsOn scoping on first before m → Meets scoping on (at_top text) before (children top) m
    meets_first before m (inl h) = h
    meets_first before m (inr h) = absurd h.1.1

    stops : (old : List Left) (before : Plan) (stop : Stop TextFault) → old ≡ first → Stops scoping on old before stop → StopsText scoping on text before stop
    stops old before (Broken fault) is h = record {
      moment = h.moment;
      top = top;
      is_root = root_is;
      meets = meets_first before h.moment (subst (λ z. MeetsOn scoping on z before h.moment) is h.meets);
      past = h.past;
      at = h.at;
    }
    stops old before Memory is h = tt

    pub adds_or_stops : (result : Result Unit (Stop TextFault)) (fs : List Frame) (c : Context) (before : Plan) (new : Walk) → c ≡ at_top text → fs ≡ []
        → Moves scoping on result (stack scoping (fs ++ record { number = number; place = 0; context = c } ∷ [])) before new
        → OnOk result (new.frames ≡ []) → AddsOrStops scoping on text result before new
    adds_or_stops (Ok u) fs c before new is none h ended = adds _ before new (frame_is fs c is none) h ended
    adds_or_stops (Err stop) fs c before new is none h ended = stops _ before stop (frame_is fs c is none) h

  -- a text's stop is one of all texts
  pub stops_texts : (text : ℕ) (before : Plan) (stop : Stop TextFault) → GivesTexts scoping on text before → StopsText scoping on text before stop → OnBroken (IsFirstPast scoping on) stop
  stops_texts text before (Broken fault) gives h = record {
    moment = h.moment;
    meets = record { text = text; before = before; top = h.top; gives = gives; is_root = h.is_root; meets = h.meets };
    past = h.past;
    at = h.at;
  }
  stops_texts text before Memory gives h = tt

pub nothing_fits : HasRoom nothing
nothing_fits = record { few = lit≤ tt; shallow = All-nil (λ (n : Planned). n.level < 64) }

-- no text yet
pub begins : (scoping : Scoping) (on : FeatureTest) (walk : Walk) → walk.plan ≡ nothing → GivesTexts scoping on 0 walk.plan × HasRoom walk.plan
begins scoping on walk is = (subst (GivesTexts scoping on 0) (sym is) no_text, subst HasRoom (sym is) nothing_fits)

-- the stop of a table's statements is one of the texts'
pub stops_here : (scoping : Scoping) (features : Features) (table : Table) (text : ℕ) (before : Plan) (stop : Stop TextFault) → IsTableOf scoping features table
    → GivesTexts table.scopes.now (test_of table) text before → StopsText table.scopes.now (test_of table) text before stop → OnBroken (IsFirstPast scoping (is_on features)) stop
stops_here scoping features table text before stop is gives h =
    subst (λ z. OnBroken (IsFirstPast z (is_on features)) stop) is.has_scopes
    (subst (λ z. OnBroken (IsFirstPast table.scopes.now (is_on z)) stop) is.has_features (stops_texts table.scopes.now (test_of table) text before stop gives h))

pub planned : (scoping : Scoping) (features : Features) (table : Table) (text : ℕ) (plan : Plan) → IsTableOf scoping features table
    → text ≡ length scoping.texts → GivesTexts table.scopes.now (test_of table) text plan → HasRoom plan → IsPlan scoping (is_on features) plan
planned scoping features table text plan is all gives room = record {
  gives =
      subst (λ n. GivesTexts scoping (is_on features) n plan) all
      (subst (λ z. GivesTexts z (is_on features) text plan) is.has_scopes
      (subst (λ z. GivesTexts table.scopes.now (is_on z) text plan) is.has_features gives));
  room = room;
}
