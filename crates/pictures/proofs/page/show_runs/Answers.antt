use Rattle.std.proofs.Common.{rules, ◌≡◌, ◌∙◌, ap}
use Rattle.schedule_reader.specs.{Schedule.choices_of, Text.schedule_text}
use Rattle.thread_machine.specs.World.{first_world}
use Rattle.trace_text.specs.Trace.{trace_of}
use Rattle.pictures.specs.Page.{page_text, parts_of}
use Rattle.pictures.proofs.page.show_runs.Goals as goal

pub returns-clause-page : goal.returns-clause-page
returns-clause-page c =
    let parts = parts_of c.args.frame in
    let listing = c.args.listing.now in
    let source = c.args.source.now in
    let all = trace_of (first_world c.args.program 1000000000) (choices_of c.args.runs.now) in
    let schedule : c.as_bytes.result.now ≡ schedule_text c.args.runs.now = search rules in
    let same : c.in_ok-trace.trace.now ≡ all = search rules in
    let bytes = c.in_ok-bytes.ensures ∙ ap (λ s. page_text parts listing source s c.in_ok-trace.trace.now) schedule
    ∙ ap (page_text parts listing source (schedule_text c.args.runs.now)) same in
    (search rules, bytes)
