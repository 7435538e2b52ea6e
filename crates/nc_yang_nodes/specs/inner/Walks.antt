-- What is left of a walk over statements.
use Rattle.std.specs.Prelude.{◌≡◌, ◌⊎◌, ◌+◌, ℕ, List, [], ◌∷◌, ◌++◌, reverse, map, drop, Option, Some, None, slice_get, Result, MatchResult}
use Rattle.nc_yang_statements.specs.declared.fault.ModuleWhy.TheVariants.{TooMany as TooManyWhy}
use Rattle.nc_yang_statements.specs.Statements.{line}
use Rattle.nc_yang_scopes.specs.Scopes.{Located, Scoping, root}
use Rattle.nc_yang_scopes.specs.declared.naming.TextFault.{TextFault}
use Rattle.nc_yang_nodes.specs.declared.context.Context.{Context}
use Rattle.nc_yang_nodes.specs.declared.planned.Plan.{Plan}
use Rattle.nc_yang_statements.specs.declared.stop.Stop.{Stop}
use Rattle.nc_yang_statements.specs.Stops.{OnBroken}
use Rattle.nc_yang_nodes.specs.declared.role.Role.{Role}
use Rattle.nc_yang_nodes.specs.declared.table.Entry.{Entry}
use Rattle.nc_yang_nodes.specs.declared.walk.Frame.{Frame}
use Rattle.nc_yang_nodes.specs.declared.walk.Walk.{Walk}
use Rattle.nc_yang_nodes.specs.Roles.{FeatureTest, children}
use Rattle.nc_yang_nodes.specs.Expansion.{Gives, Meets, Moment, added, after, at_top, inner}
use Rattle.nc_yang_nodes.specs.Plans.{HasRoom, IsPast, fault_at}
use Rattle.nc_yang_nodes.specs.inner.Tables.{IsChild, IsEntry, children_at}

-- statements that are left of a block, in their context
pub record Left : Type 0 where
  pub context : Context
  pub statements : List Located

-- from what is planned, blocks, one after another, go on to a plan
abbrev pub GoesOn : Scoping → FeatureTest → List Left → Plan → Plan → Type 0
GoesOn scoping on [] plan final = plan ≡ final
GoesOn scoping on (one ∷ rest) plan final =
    (mid : Plan) × (Gives scoping on one.context plan one.statements mid × GoesOn scoping on rest mid final)

-- while they do so, that moment comes
abbrev pub MeetsOn : Scoping → FeatureTest → List Left → Plan → Moment → Type 0
MeetsOn scoping on [] plan m = ⊥
MeetsOn scoping on (one ∷ rest) plan m =
    Meets scoping on one.context plan one.statements m
    ⊎ ((mid : Plan) × (Gives scoping on one.context plan one.statements mid × MeetsOn scoping on rest mid m))

-- the blocks that are left, with what is planned, do what others do with what was planned
pub record Leads (scoping : Scoping) (on : FeatureTest) (old : List Left) (before : Plan) (new : List Left)
    (plan : Plan)
    : Type 0 where
  pub gives : (final : Plan) → GoesOn scoping on new plan final → GoesOn scoping on old before final
  pub meets : (m : Moment) → MeetsOn scoping on new plan m → MeetsOn scoping on old before m

-- the statements that a frame still has to take
abbrev pub left_of : Scoping → Frame → Left
left_of scoping frame =
    record { context = frame.context; statements = drop frame.place (children_at scoping frame.number) }

-- the last frame comes first
abbrev pub stack : Scoping → List Frame → List Left
stack scoping frames = map (left_of scoping) (reverse frames)

-- behind the statement that is next
abbrev pub behind : Frame → Context → Frame
behind frame c = record { number = frame.number; place = frame.place + 1; context = c }

-- the frame of the block that a statement opens, if it has to be walked
abbrev pub block_frames : Context → Option ℕ → List Frame
block_frames c None = []
block_frames c (Some number) = record { number = number; place = 0; context = c } ∷ []

-- a statement that gives something is taken
abbrev pub taken : Frame → ℕ → Role → Option ℕ → Walk → Walk
taken frame number r opens walk =
    record {
      plan = added number frame.context r walk.plan;
      frames =
          (walk.frames ++ behind frame (after frame.context) ∷ [])
          ++ block_frames (inner frame.context walk.plan r) opens;
    }

-- the statement of a number is the next of a frame, and this is known of it
pub record IsNext (scoping : Scoping) (on : FeatureTest) (frame : Frame) (child : ℕ) (entry : Entry) : Type 0 where
  pub found : IsChild scoping frame.number frame.place child
  pub known : IsEntry scoping on found.statement entry

-- from there a moment comes that is past a limit, with this fault
pub record StopsAt (scoping : Scoping) (on : FeatureTest) (old : List Left) (before : Plan) (fault : TextFault)
    : Type 0 where
  pub moment : Moment
  pub meets : MeetsOn scoping on old before moment
  pub past : IsPast scoping on moment
  pub at : fault ≡ fault_at moment

-- the same with the fault that is given; of want of memory nothing is said
abbrev pub Stops : Scoping → FeatureTest → List Left → Plan → Stop TextFault → Type 0
Stops scoping on old before = OnBroken (StopsAt scoping on old before)

-- what a walk has come to
pub record ComesTo (scoping : Scoping) (on : FeatureTest) (old : List Left) (before : Plan) (walk : Walk) : Type 0 where
  pub leads : Leads scoping on old before (stack scoping walk.frames) walk.plan
  pub room : HasRoom walk.plan

-- a fault at the statement of a number
abbrev pub IsFaultAt : Scoping → ℕ → TextFault → Type 0
IsFaultAt scoping number fault =
    (l : Located) → slice_get scoping.located number ≡ Some l
    → fault ≡ record { text = l.place.text; fault = record { line = line l.statement; why = TooManyWhy } }

-- a statement that gives nothing is passed
abbrev pub passed : Frame → Walk → Walk
passed frame walk = record walk { frames = walk.frames ++ behind frame frame.context ∷ [] }

-- what a frame has left, before what is left behind it
abbrev pub with_frame : Scoping → Frame → Walk → List Left
with_frame scoping frame walk = left_of scoping frame ∷ stack scoping walk.frames

-- what was left goes on to what is left now, or stops
abbrev pub Moves : {T : Type 0} → Scoping → FeatureTest → Result T (Stop TextFault) → List Left → Plan → Walk → Type 0
Moves scoping on result old before walk =
    MatchResult result (λ _. ComesTo scoping on old before walk) (Stops scoping on old before)

-- a text's module adds to what was planned
pub record AddsText (scoping : Scoping) (on : FeatureTest) (text : ℕ) (before : Plan) (walk : Walk) : Type 0 where
  pub top : Located
  pub is_root : root scoping.texts text ≡ Some top
  pub gives : Gives scoping on (at_top text) before (children top) walk.plan
  pub room : HasRoom walk.plan
  pub ended : walk.frames ≡ []

-- a moment comes there that is past a limit, with this fault
pub record StopsInText (scoping : Scoping) (on : FeatureTest) (text : ℕ) (before : Plan) (fault : TextFault)
    : Type 0 where
  pub moment : Moment
  pub top : Located
  pub is_root : root scoping.texts text ≡ Some top
  pub meets : Meets scoping on (at_top text) before (children top) moment
  pub past : IsPast scoping on moment
  pub at : fault ≡ fault_at moment

-- the same with the fault that is given in a text; of want of memory nothing is said
abbrev pub StopsText : Scoping → FeatureTest → ℕ → Plan → Stop TextFault → Type 0
StopsText scoping on text before = OnBroken (StopsInText scoping on text before)

-- a text's module adds to what was planned, or such a moment comes there
abbrev pub AddsOrStops : {T : Type 0} → Scoping → FeatureTest → ℕ → Result T (Stop TextFault) → Plan → Walk → Type 0
AddsOrStops scoping on text result before walk =
    MatchResult result (λ _. AddsText scoping on text before walk) (StopsText scoping on text before)
