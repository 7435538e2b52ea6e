-- The nodes that a partial lock locks are seen by its session.
use Rattle.std.proofs.Common.{◌≡◌, ◌++◌, suc, Bool, true, false, not, List, [], ◌∷◌, drop, get_or, length, refl, subst, arith}
use Rattle.std.specs.Prelude.{if◌then◌else◌}
use Rattle.std.specs.List.{All, Contains, filter, filter_map}
use Rattle.std.proofs.lemmas.List.Elements.{All-append, All-filter, filter_passes}
use Rattle.std.proofs.lemmas.Slice.Eq.{starts_is}
use Rattle.nc_names.proofs.SameLemmas.{path_decide, step_decide}
use Rattle.nc_names.specs.Same.{is_at_or_below, is_same_path}
use Rattle.nc_names.specs.declared.path.Path.{Path}
use Rattle.nc_names.specs.declared.path.Row.{Row}
use Rattle.nc_names.specs.declared.path.Step.{Step}
use Rattle.nc_schema.specs.Blocks.{at_node}
use Rattle.nc_schema.specs.Kinds.{is_plain_container}
use Rattle.nc_schema.specs.Standing.{exists, has_row}
use Rattle.nc_schema.specs.Tables.{Tables}
use Rattle.nc_protocol.specs.declared.peer.Peer.{Peer}
use Rattle.nc_protocol.proofs.AboveLemmas.{some_passes}
use Rattle.nc_protocol.proofs.ListLemmas.{all_one}
use Rattle.nc_protocol.proofs.Parts.{kept_true}
use Rattle.nc_model.specs.Access.{access_policy, peer_of, sees_of, visible}
use Rattle.nc_model.specs.Laws.{LockedIsSeen}
use Rattle.nc_model.specs.Sight.{may_read, may_see, visible_rows}
use Rattle.nc_model.specs.Verdict.{each_once, is_matched, selected_path}
use Rattle.nc_model.specs.declared.policy.Policy.{Policy}
use Rattle.nc_model.proofs.VisibleLemmas.{seen_above}

-- what is so of each node is so of each that is kept once
each_of_once : (P : Path → Type 0) (paths : List Path) → All P paths → All P (each_once paths)
each_of_once P [] all = all
each_of_once P (path ∷ paths) all =
    All-append P (path ∷ []) (filter other (each_once paths)) (all_one P path (all 0 path (omega arith)))
    (All-filter other P (each_once paths) (each_of_once P paths (λ k d within. all (suc k) d (omega (arith, within)))))
  where
    other : Path → Bool
    other beside = not (is_same_path beside.steps path.steps)

module _ (tables : Tables) (policy : Policy) (peer : Peer) (rows : List Row) where
  abbrev seen : Row → Bool
  seen row = may_see tables policy peer row.path.steps

  row_is_seen : (row : Row) → Contains (visible_rows tables policy peer rows) row → may_see tables policy peer row.path.steps ≡ true
  row_is_seen row has = kept_true seen row rows has

  -- a container in which a row that is seen stands, and a node of such a row
  above_is_seen : (steps : List Step) → exists (visible_rows tables policy peer rows) steps ≡ true → may_see tables policy peer steps ≡ true
  above_is_seen steps stands =
      let found = some_passes (λ (row : Row). is_at_or_below steps row.path) (visible_rows tables policy peer rows) stands in
      let below : found.0.path.steps ≡ steps ++ drop (length steps) found.0.path.steps =
      (starts_is step_decide found.0.path.steps steps (is_at_or_below steps found.0.path) refl).0 found.2 in
      seen_above (may_read tables policy peer) steps (drop (length steps) found.0.path.steps)
      (subst (λ (these : List Step). may_see tables policy peer these ≡ true) below (row_is_seen found.0 found.1))

  node_is_seen : (steps : List Step) → has_row (visible_rows tables policy peer rows) steps ≡ true → may_see tables policy peer steps ≡ true
  node_is_seen steps stands =
      let found = some_passes (λ (row : Row). is_same_path row.path.steps steps) (visible_rows tables policy peer rows) stands in
      subst (λ (these : List Step). may_see tables policy peer these ≡ true) ((path_decide found.0.path.steps steps).0 found.2)
      (row_is_seen found.0 found.1)

  matched_is_seen : (path : Path) → is_matched tables (visible_rows tables policy peer rows) path ≡ true → may_see tables policy peer path.steps ≡ true
  matched_is_seen path = by (at_node tables path is_plain_container)
    where
      by : (plain : Bool) →
          (if plain then exists (visible_rows tables policy peer rows) path.steps else has_row (visible_rows tables policy peer rows) path.steps) ≡ true →
          may_see tables policy peer path.steps ≡ true
      by true stands = above_is_seen path.steps stands
      by false stands = node_is_seen path.steps stands

pub locked_is_seen : LockedIsSeen
locked_is_seen s session selects =
    let named = filter_map (selected_path s.schema) selects in
    let matched : Path → Bool = is_matched s.schema (visible s session s.running) in
    each_of_once (λ (path : Path). sees_of s session path ≡ true) (filter matched named)
    (λ k d within. matched_is_seen s.schema (access_policy s) (peer_of s session) s.running (get_or (filter matched named) k d)
    (filter_passes matched named k d within))
