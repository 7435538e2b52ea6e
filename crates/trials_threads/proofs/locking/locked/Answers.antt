use denote.Exit.{no}
use denote.Param.Send.{arg_send, param_send}
use Rattle.trials_threads.proofs.Sent.{keeper_send}
use Rattle.trials_threads.proofs.locking.locked.Goals as goal

pub serve_two-requires-send-K : goal.serve_two-requires-send-K
serve_two-requires-send-K g c κs within = param_send 1 _ (arg_send _ no _ keeper_send)
