-- Steps on the way to an initial configuration.
use Rattle.std.proofs.Common.{◌≡◌, ℕ, List, [], ◌∷◌, Option, Some, None, refl, sym, subst, arith}
use Rattle.std.specs.Option.{option_map}
use Rattle.std.specs.Prelude.{slice_get}
use Rattle.nc_names.specs.declared.path.Row.{Row}
use Rattle.nc_message.specs.declared.tree.Tree.{Tree}
use Rattle.nc_message_read.specs.Reading.{IsReadFault}
use Rattle.nc_message_read.specs.declared.stop.MessageFault.{MessageFault}
use Rattle.nc_message_read.specs.declared.stop.MessageFault.TheVariants.{Malformed, Memory as NotRead}
use Rattle.nc_protocol.specs.declared.request.Cause.{Cause}
use Rattle.nc_protocol.specs.Refusals.{violation_cause, violation_in}
use Rattle.nc_protocol.proofs.PayloadLaws.{inline_is_configuration}
use Rattle.nc_schema.proofs.TreeLemmas.{empty_is_data_tree}
use Rattle.nc_schema.specs.Configuration.{IsConfiguration}
use Rattle.nc_schema.specs.Proper.{IsProperSchema}
use Rattle.nc_schema.specs.Tables.{Tables}
use Rattle.nc_schema.specs.Violations.{IsValid, violations}
use Rattle.nc_setup.specs.Initial.{IsInitial, IsRead, IsRefusedFor, HasNoRows, IsNotValid, SpellsNone}
use Rattle.nc_setup.specs.inner.Stops.{OnBad, OnInvalid, OnStop, OnUnread, Unreads}
use Rattle.nc_setup.specs.declared.stop.Stop.{Stop}
use Rattle.nc_setup.specs.declared.stop.Stop.TheVariants.{Unread, Refused, Memory}

pub unread_stops : (schema : Tables) (text : List ℕ) (stop : Stop) → OnUnread text stop → OnStop schema (Some text) stop
unread_stops schema text (Unread at) is = (text, refl, is)
unread_stops schema text (Refused cause) is = absurd is
unread_stops schema text Memory is = tt

pub bad_stops : (schema : Tables) (text : List ℕ) (tree : Tree) (stop : Stop) → IsRead text tree → OnBad schema tree.root stop
    → OnStop schema (Some text) stop
bad_stops schema text tree (Unread at) read is = absurd is
bad_stops schema text tree (Refused cause) read is = HasNoRows text tree refl read is
bad_stops schema text tree Memory read is = tt

pub invalid_stops : (schema : Tables) (initial : Option (List ℕ)) (rows : List Row) (stop : Stop) → IsInitial schema initial rows
    → OnInvalid schema rows stop → OnStop schema initial stop
invalid_stops schema initial rows (Unread at) read is = absurd is
invalid_stops schema initial rows (Refused cause) read is = IsNotValid rows read is
invalid_stops schema initial rows Memory read is = tt

pub initial_is_configuration : (schema : Tables) (initial : Option (List ℕ)) (rows : List Row) → IsProperSchema schema
    → IsInitial schema initial rows → IsConfiguration schema rows
initial_is_configuration schema None rows proper is =
    subst (IsConfiguration schema) (sym is) (record {
      tree = empty_is_data_tree schema;
      canonical = λ k d within. absurd (omega (arith, within));
    })
initial_is_configuration schema (Some text) rows proper (tree, read, is) = inline_is_configuration schema tree.root rows proper is

pub fault_unreads : (text : List ℕ) (fault : MessageFault) (stop : Stop) → IsReadFault text fault → Unreads fault stop → OnUnread text stop
fault_unreads text (Malformed at why) stop is told = subst (OnUnread text) (sym told) (SpellsNone at why is)
fault_unreads text NotRead stop is told = subst (OnUnread text) (sym told) tt

pub refused_for : (schema : Tables) (initial : Option (List ℕ)) (stop : Stop) (cause : Cause) → stop ≡ Refused cause
    → OnStop schema initial stop → IsRefusedFor schema initial cause
refused_for schema initial stop cause is told = subst (OnStop schema initial) is told

no_first : {X Y : Type 0} (f : X → Y) (xs : List X) → option_map f (slice_get xs 0) ≡ None → xs ≡ []
no_first f [] is = refl
no_first f (x ∷ xs) is = cc is

pub is_valid : (schema : Tables) (rows : List Row) → violation_in schema rows ≡ None → IsValid schema rows
is_valid schema rows is = no_first violation_cause (violations schema rows) is
