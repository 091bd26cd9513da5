use Rattle.std.proofs.Common.{◌∙◌, Err, ap, arith}
use Rattle.std.proofs.lemmas.Result.{IfOk-weaker}
use Rattle.workbench.proofs.Lives.{lived, lived_in_part, recorded_by}
use Rattle.workbench.proofs.live.live.Goals as goal

pub runs_of-requires : goal.runs_of-requires
runs_of-requires g c = record {
  few = IfOk-weaker c.run_live.result _ _ (λ run few. omega (arith, few, c.requires)) c.run_live.ensures.few;
}

pub returns-in-Ok-run_loaded : goal.returns-in-Ok-run_loaded
returns-in-Ok-run_loaded g c =
    let none = c.in-Ok.ensures.none in
    let loaded = c.in-Ok.ensures.loaded in
    lived c.args.limit c.args.image c.in-Ok.program _ c.in-Ok-runs_of.runs.items c.as_slice.result.now
    c.in-Ok-run_loaded.end _ _ c.as_slice.ensures.value c.in-Ok-copy.ensures none loaded c.in-Ok-runs_of.ensures.runs
    (recorded_by c.args.image c.in-Ok.program c.args.limit c.run_live.result c.in-Ok-runs_of.runs.items c.run_live.ensures.record
    c.run_live.ensures.ending c.in-Ok-runs_of.ensures.choices none loaded) c.in-Ok-run_loaded.ensures.traced

pub returns-in-Err-Memory : goal.returns-in-Err-Memory
returns-in-Err-Memory g c =
    let none = c.in-Ok.ensures.none in
    let loaded = c.in-Ok.ensures.loaded in
    lived_in_part c.args.limit c.args.image c.in-Ok.program _ c.in-Ok-runs_of.runs.items c.as_slice.result.now
    (g.K.Sink.written c.args.output.now) (g.K.Sink.written c.run_loaded.new.output) c.as_slice.ensures.value c.in-Ok-copy.ensures
    none loaded (recorded_by c.args.image c.in-Ok.program c.args.limit c.run_live.result c.in-Ok-runs_of.runs.items
    c.run_live.ensures.record c.run_live.ensures.ending c.in-Ok-runs_of.ensures.choices none loaded)
    (c.run_loaded.ensures.memory (c.in-Err-Memory.is ∙ ap Err c.in-Err-Memory.field-0-is))
