-- Threads may share and hand over a `Regex`, and so what holds it. `search` finds this by itself for its parts, and stops at its limit for the whole.
use Rattle.std.proofs.MapsCrossing as maps
use denote.Struct.Field
use denote.Param.Send.{IsSend, IsSync, AllSend, AllSync, sendable}
use Rattle.std.proofs.Crossing.{crosses}
use Rattle.regex_hir.proofs.hir.Hir.TheLaws.TheKnot.{send-Hir, sync-Hir}
use Rattle.regex_hir.specs.contracts.hir.Hir as Hir
use Rattle.regex_meta.specs.contracts.program.Program as Program
use Rattle.regex_meta.specs.contracts.plan.Plans as Plans
use Rattle.regex_meta.specs.contracts.plan.Plan as Plan
use Rattle.regex_meta.specs.contracts.signs.Signs as Signs
use Rattle.regex.specs.contracts.pattern.Pattern as Pattern
use Rattle.regex.specs.contracts.string.regex.Regex as Regex
use Rattle.nc_patterns.specs.contracts.built.Entry as Entry
use Rattle.nc_patterns.specs.contracts.built.Built as Built
use Rattle.regex_dfa.proofs.dfa.Dfa.TheSendSync as Dfa_
use Rattle.regex_extract.proofs.frames.Frame.TheSendSync as Frame_
use Rattle.regex_literal.proofs.byte_set.ByteSet.TheSendSync as ByteSet_
use Rattle.regex_literal.proofs.caseless.Caseless.TheSendSync as Caseless_
use Rattle.regex_literal.proofs.prefilter.Prefilter.TheSendSync as Prefilter_

pub plan_send : IsSend Plan.the_row
plan_send = search (send-Hir, Prefilter_.the_send, Frame_.the_send, sendable, crosses) depth 100 fits 5000

pub signs_send : IsSend Signs.the_row
signs_send = search (send-Hir, Caseless_.the_send, sendable, crosses) depth 100 fits 8000

pub plans_field_send : IsSend (Plans.the_field).row
plans_field_send = search (plan_send, sendable, crosses) depth 100 fits 8000

pub hir_field_send : IsSend (Hir.the_field).row
hir_field_send = search (send-Hir, sendable, crosses) depth 100 fits 8000

pub program_parts_send : AllSend (denote.Struct.Field.rows (Program.the_type).parts)
program_parts_send = (hir_field_send, (Dfa_.the_field_send, (plans_field_send, (search (signs_send, sendable, crosses) depth 30, (search (ByteSet_.the_send, sendable, crosses) depth 30, (search sendable depth 30, (search sendable depth 30, (search sendable depth 30, tt))))))))

pub program_field_send : IsSend (Program.the_field).row
program_field_send = search (program_parts_send, sendable) depth 10

pub pattern_parts_send : AllSend (denote.Struct.Field.rows (Pattern.the_type).parts)
pattern_parts_send = (search (sendable, crosses) depth 30, (search (sendable, crosses) depth 30, (search (maps.String-send, sendable, crosses) depth 40, (program_field_send, tt))))

pub pattern_field_send : IsSend (Pattern.the_field).row
pattern_field_send = search (pattern_parts_send, sendable) depth 10

pub regex_parts_send : AllSend (denote.Struct.Field.rows (Regex.the_type).parts)
regex_parts_send = (pattern_field_send, tt)

pub regex_field_send : IsSend (Regex.the_field).row
regex_field_send = search (regex_parts_send, sendable) depth 10

pub plan_sync : IsSync Plan.the_row
plan_sync = search (sync-Hir, Prefilter_.the_sync, Frame_.the_sync, sendable, crosses) depth 100 fits 5000

pub signs_sync : IsSync Signs.the_row
signs_sync = search (sync-Hir, Caseless_.the_sync, sendable, crosses) depth 100 fits 8000

pub plans_field_sync : IsSync (Plans.the_field).row
plans_field_sync = search (plan_sync, sendable, crosses) depth 100 fits 8000

pub hir_field_sync : IsSync (Hir.the_field).row
hir_field_sync = search (sync-Hir, sendable, crosses) depth 100 fits 8000

pub program_parts_sync : AllSync (denote.Struct.Field.rows (Program.the_type).parts)
program_parts_sync = (hir_field_sync, (Dfa_.the_field_sync, (plans_field_sync, (search (signs_sync, sendable, crosses) depth 30, (search (ByteSet_.the_sync, sendable, crosses) depth 30, (search sendable depth 30, (search sendable depth 30, (search sendable depth 30, tt))))))))

pub program_field_sync : IsSync (Program.the_field).row
program_field_sync = search (program_parts_sync, sendable) depth 10

pub pattern_parts_sync : AllSync (denote.Struct.Field.rows (Pattern.the_type).parts)
pattern_parts_sync = (search (sendable, crosses) depth 30, (search (sendable, crosses) depth 30, (search (maps.String-sync, sendable, crosses) depth 40, (program_field_sync, tt))))

pub pattern_field_sync : IsSync (Pattern.the_field).row
pattern_field_sync = search (pattern_parts_sync, sendable) depth 10

pub regex_parts_sync : AllSync (denote.Struct.Field.rows (Regex.the_type).parts)
regex_parts_sync = (pattern_field_sync, tt)

pub regex_field_sync : IsSync (Regex.the_field).row
regex_field_sync = search (regex_parts_sync, sendable) depth 10

pub entry_parts_send : AllSend (denote.Struct.Field.rows (Entry.the_type).parts)
entry_parts_send = (search (sendable, crosses) depth 30, (regex_field_send, tt))

pub entry_send : IsSend Entry.the_row
entry_send = search (entry_parts_send, sendable) depth 10

pub built_send : IsSend Built.the_row
built_send = search (entry_send, sendable, crosses) depth 40 fits 8000

pub entry_parts_sync : AllSync (denote.Struct.Field.rows (Entry.the_type).parts)
entry_parts_sync = (search (sendable, crosses) depth 30, (regex_field_sync, tt))

pub entry_sync : IsSync Entry.the_row
entry_sync = search (entry_parts_sync, sendable) depth 10

pub built_sync : IsSync Built.the_row
built_sync = search (entry_sync, sendable, crosses) depth 40 fits 8000
