-- What a session is shown of a configuration is what it is shown of the part for which a filter asks.
use Rattle.std.proofs.Common.{◌≡◌, ◌∙◌, ℕ, List, sym, ap, subst}
use Rattle.std.specs.List.{filter}
use Rattle.nc_names.specs.declared.path.Path.{Path}
use Rattle.nc_names.specs.declared.path.Row.{Row}
use Rattle.nc_message.specs.declared.tree.Elem.{Elem}
use Rattle.nc_schema.specs.Configuration.{IsConfiguration}
use Rattle.nc_schema.specs.Proper.{IsProperSchema}
use Rattle.nc_schema.specs.Standing.{block_at}
use Rattle.nc_schema.specs.Tables.{Tables}
use Rattle.nc_protocol.specs.Filter.{selected}
use Rattle.nc_protocol.specs.declared.datastore.Datastore.{Datastore}
use Rattle.nc_protocol.specs.declared.datastore.Datastore.TheVariants.{Candidate, Running, Startup, Url}
use Rattle.nc_filter.specs.Within.{KeepsWithin}
use Rattle.nc_model.specs.Access.{access_policy, peer_of, visible}
use Rattle.nc_model.specs.Sight.{may_see}
use Rattle.nc_model.specs.State.{IsGood, State}
use Rattle.nc_model.specs.Verdict.{stored}
use Rattle.nc_model.proofs.GoodLemmas.{in_force_is}
use Rattle.nc_model.proofs.VisibleLemmas.{visible_is_configuration}
use Rattle.nc_machine.specs.inner.Parts.{IsPartFor}

pub all_is : (tables : Tables) (elem : Elem) (rows part : List Row) → part ≡ rows → IsPartFor tables elem rows part
all_is tables elem rows part is test seen = ap (λ (some : List Row). selected tables elem (filter test some)) (sym is)

pub part_is : (tables : Tables) (elem : Elem) (rows part : List Row) (path : Path) → KeepsWithin tables elem rows path → part ≡ block_at rows path.steps → IsPartFor tables elem rows part
part_is tables elem rows part path keeps is test seen =
    keeps test seen ∙ ap (λ (some : List Row). selected tables elem (filter test some)) (sym is)

pub shown_is : (s : State) (session : ℕ) (elem : Elem) (rows part seen kept : List Row) → IsProperSchema s.schema → IsConfiguration s.schema rows → IsPartFor s.schema elem rows part →
    seen ≡ visible s session part → kept ≡ selected s.schema elem seen → kept ≡ selected s.schema elem (visible s session rows)
shown_is s session elem rows part seen kept proper config same seen_is kept_is =
    kept_is ∙ ap (selected s.schema elem) seen_is
    ∙ sym (same (λ row. may_see s.schema (access_policy s) (peer_of s session) row.path.steps)
    (visible_is_configuration s.schema (access_policy s) (peer_of s session) rows proper config))

pub is_proper : (s : State) → IsGood s → IsProperSchema s.schema
is_proper s good = good.stores.schema

pub stored_is : (s : State) (store : Datastore) (rows : List Row) → IsGood s → rows ≡ stored s store → IsConfiguration s.schema rows
stored_is s store rows good is = subst (IsConfiguration s.schema) (sym is) (by store)
  where
    by : (store : Datastore) → IsConfiguration s.schema (stored s store)
    by Running = good.stores.running
    by Candidate = in_force_is s good
    by Startup = good.stores.running
    by Url = good.stores.running
