use Rattle.trace_compare.proofs.OneTrace.{ended-same, traced-same}
use Rattle.trace_compare.proofs.law.what_a_run_writes_is_the_same.Goals as goal

pub returns-clause-read : goal.returns-clause-read
returns-clause-read c =
    λ image end schedule_before schedule_after output_before output_after schedule_failed output_failed (world, (begins, sound, ends)).
    ended-same image world end schedule_before schedule_after output_before output_after begins ends

pub returns-clause-known : goal.returns-clause-known
returns-clause-known c = traced-same
