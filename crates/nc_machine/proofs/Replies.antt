-- The reply that is made is the one for what the session sees.
use Rattle.std.proofs.Common.{◌≡◌, ℕ, ap, ◌∙◌}
use Rattle.nc_message.specs.declared.tree.Tree.{Tree}
use Rattle.nc_schema.specs.Tables.{Tables}
use Rattle.nc_protocol.specs.declared.request.Request.{Request}
use Rattle.nc_protocol.specs.declared.verdict.Verdict.{Verdict}
use Rattle.nc_protocol.specs.Reply.{reply_of}
use Rattle.nc_model.specs.Access.{sees_of}
use Rattle.nc_model.specs.Sight.{Viewer, may_see}
use Rattle.nc_model.specs.State.{State}
use Rattle.nc_courses.specs.inner.Governing.{viewer_of}

pub reply_is : (s : State) (session : ℕ) (request : Request) (verdict : Verdict) (tables : Tables) (viewer : Viewer) (tree : Tree) →
    tables ≡ s.schema → viewer ≡ viewer_of s session →
    tree ≡ reply_of tables (λ path. may_see viewer.tables viewer.policy viewer.peer path.steps) request verdict →
    tree ≡ reply_of s.schema (sees_of s session) request verdict
reply_is s session request verdict tables viewer tree is sees told =
    told
    ∙ (ap (λ (t : Tables). reply_of t (λ path. may_see viewer.tables viewer.policy viewer.peer path.steps) request verdict) is
    ∙ ap (λ (v : Viewer). reply_of s.schema (λ path. may_see v.tables v.policy v.peer path.steps) request verdict) sees)
