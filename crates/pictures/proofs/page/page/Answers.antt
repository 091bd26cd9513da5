use Rattle.std.proofs.Common.{rules, ◌≡◌, ◌∙◌, ◌≤◌, ◌<◌, List, length, Err, ap, refl, subst}
use Rattle.std.proofs.lemmas.Result.{IfOk-weaker}
use Rattle.line_reader.specs.Listing.{canonical}
use Rattle.schedule_reader.specs.{declared.run.Run.Run, Schedule.choices_of, Text.schedule_text}
use Rattle.thread_machine.specs.World.{first_world}
use Rattle.thread_machine.proofs.Firsts.{is_first}
use Rattle.trace_text.specs.{Start.Begins, Trace.trace_of}
use Rattle.pictures.specs.{Missing.missing_in, Page.page_text, Page.parts_of}
use Rattle.pictures.specs.declared.page.PageFault.TheVariants as fault
use Rattle.pictures.proofs.page.page.Goals as goal

pub returns-clause-page : goal.returns-clause-page
returns-clause-page c =
    let image = c.args.image in
    let world = first_world c.in-Ok-loaded.program 1000000000 in
    let runs = c.in_ok-runs.runs.items in
    let parts = parts_of c.args.frame in
    let source = c.args.source.now in
    let begins : Begins image world = (c.in-Ok-loaded.ensures.none, is_first image c.in-Ok-loaded.program 1000000000 c.in-Ok-loaded.ensures.program) in
    let listed : c.as_slice.result.now ≡ canonical image = search rules in
    let same : c.as_slice-2.result.now ≡ runs = search rules in
    IfOk-weaker c.show_runs.result _ _ (λ shown is.
    let short = subst (λ (rs : List Run). length (trace_of world (choices_of rs)) ≤ 16777216) same is.0 in
    let whole = is.1
    ∙ ap (λ l. page_text parts l source (schedule_text c.as_slice-2.result.now) (trace_of world (choices_of c.as_slice-2.result.now))) listed
    ∙ ap (λ (rs : List Run). page_text parts (canonical image) source (schedule_text rs) (trace_of world (choices_of rs))) same in
    (world, (runs, (begins, c.in_ok-runs.ensures.runs, c.in_ok-runs.ensures.few, short, whole)))) c.show_runs.ensures.page

pub returns-clause-missing : goal.returns-clause-missing
returns-clause-missing c =
    let image = c.args.image in
    let world = first_world c.in-Ok-loaded.program 1000000000 in
    let begins : Begins image world = (c.in-Ok-loaded.ensures.none, is_first image c.in-Ok-loaded.program 1000000000 c.in-Ok-loaded.ensures.program) in
    let runs = c.in_ok-runs.runs.items in
    let same : c.as_slice-2.result.now ≡ runs = search rules in
    IfOk-weaker c.show_runs.result _ _ (λ shown is.
    let told = is ∙ ap (λ (rs : List Run). missing_in world (choices_of rs)) same in
    (world, (choices_of runs, (begins, (runs, (c.in_ok-runs.ensures.runs, refl)), told)))) c.show_runs.ensures.missing

pub returns-clause-long : goal.returns-clause-long
returns-clause-long c = λ is.
    let image = c.args.image in
    let world = first_world c.in-Ok-loaded.program 1000000000 in
    let begins : Begins image world = (c.in-Ok-loaded.ensures.none, is_first image c.in-Ok-loaded.program 1000000000 c.in-Ok-loaded.ensures.program) in
    let runs = c.in_ok-runs.runs.items in
    let same : c.as_slice-2.result.now ≡ runs = search rules in
    let more = subst (λ (rs : List Run). 16777216 < length (trace_of world (choices_of rs))) same (c.show_runs.ensures.long is) in
    (world, (runs, (begins, c.in_ok-runs.ensures.runs, more)))

pub returns-in-Err-clause-load : goal.returns-in-Err-clause-load
returns-in-Err-clause-load c = λ told is.
    let same : c.in-Err.fault ≡ fault.Load told = cc in c.loaded.ensures.load told (c.in-Err.is ∙ ap Err same)
