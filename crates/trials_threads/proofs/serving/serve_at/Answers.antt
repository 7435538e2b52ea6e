use denote.Exit.{no}
use denote.Param.Send.{arg_send, param_send}
use Rattle.trials_threads.proofs.Sent.{keeper_send}
use Rattle.trials_threads.proofs.serving.serve_at.Goals as goal

pub serve_shared-requires-send-K : goal.serve_shared-requires-send-K
serve_shared-requires-send-K g c κs within = param_send 1 _ (arg_send _ no _ keeper_send)
