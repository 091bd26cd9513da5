use Rattle.std.proofs.Common.{ℕ, List, map, inr, sym, subst, ◌≡◌, None}
use Rattle.line_reader.specs.Seen.{name_seen}
use Rattle.vuthgal_c.specs.Mistakes.{IsRightInput, IsRightPlan, IsWrongInput, IsWrongPlan, IsWrongSchedule}
use Rattle.vuthgal_c.specs.declared.mistake.Kind.{Kind}
use Rattle.vuthgal_c.proofs.Results.{right_by, wrong_by}
use Rattle.schedule_reader.specs.Schedule.{finished_schedule}
use Rattle.vuthgal_c.proofs.mistake.looked_at.Goals as goal

pub returns-in-Program-clause-right : goal.returns-in-Program-clause-right
returns-in-Program-clause-right c =
    let names = map name_seen c.in-Ok.names.items in
    (names, (c.in-Ok.ensures.names, subst (λ (k : Kind). IsRightInput k names c.args.file.now c.args.input.now) (sym c.in-Program.is) tt))

pub returns-in-Plan-clause-right : goal.returns-in-Plan-clause-right
returns-in-Plan-clause-right c =
    let names = map name_seen c.in-Ok.names.items in
    right_by c.plan_read.result (λ right. (
      names,
      (
        c.in-Ok.ensures.names,
        subst (λ (k : Kind). IsRightInput k names c.args.file.now c.args.input.now) (sym c.in-Plan.is)
            (subst (λ xs. IsRightPlan (map name_seen xs) c.args.input.now) c.as_slice.ensures.value right),
      ),
    )) c.plan_read.ensures.read

pub returns-in-Plan-clause-mistake : goal.returns-in-Plan-clause-mistake
returns-in-Plan-clause-mistake c =
    let names = map name_seen c.in-Ok.names.items in
    wrong_by c.plan_read.result (λ m wrong refused. inr (inr (
      names,
      (
        c.in-Ok.ensures.names,
        subst (λ (k : Kind). IsWrongInput k names c.args.file.now c.args.input.now m.why m.place) (sym c.in-Plan.is)
            (subst (λ xs. IsWrongPlan (map name_seen xs) c.args.input.now m.why m.place) c.as_slice.ensures.value wrong),
      ),
    ))) c.plan_read.ensures.mistake

pub returns-in-Schedule-clause-right : goal.returns-in-Schedule-clause-right
returns-in-Schedule-clause-right c =
    let names = map name_seen c.in-Ok.names.items in
    right_by c.schedule_read.result (λ right. (
      names,
      (
        c.in-Ok.ensures.names,
        subst (λ (k : Kind). IsRightInput k names c.args.file.now c.args.input.now) (sym c.in-Schedule.is) right,
      ),
    )) c.schedule_read.ensures.read

pub returns-in-Schedule-clause-mistake : goal.returns-in-Schedule-clause-mistake
returns-in-Schedule-clause-mistake c =
    let names = map name_seen c.in-Ok.names.items in
    wrong_by c.schedule_read.result (λ m wrong refused. inr (inr (
      names,
      (
        c.in-Ok.ensures.names,
        subst (λ (k : Kind). IsWrongInput k names c.args.file.now c.args.input.now m.why m.place) (sym c.in-Schedule.is) wrong,
      ),
    )))
    c.schedule_read.ensures.mistake

pub returns-clause-right : goal.returns-clause-right
returns-clause-right c =
    let names = map name_seen c.in-Ok.names.items in
    right_by c.schedule_read-in-Text.result (λ right. (
      names,
      (
        c.in-Ok.ensures.names,
        subst (λ (k : Kind). IsRightInput k names c.args.file.now c.args.input.now) (sym c.in-Text.is)
            (subst (λ (s : List ℕ). (finished_schedule s).fault ≡ None) c.split_at_run.ensures.schedule right),
      ),
    ))
    c.schedule_read-in-Text.ensures.read

pub returns-clause-mistake : goal.returns-clause-mistake
returns-clause-mistake c =
    let names = map name_seen c.in-Ok.names.items in
    wrong_by c.schedule_read-in-Text.result (λ m wrong refused. inr (inr (
      names,
      (
        c.in-Ok.ensures.names,
        subst (λ (k : Kind). IsWrongInput k names c.args.file.now c.args.input.now m.why m.place) (sym c.in-Text.is)
            (subst (λ (s : List ℕ). IsWrongSchedule c.args.file.now s 0 m.why m.place) c.split_at_run.ensures.schedule wrong),
      ),
    )))
    c.schedule_read-in-Text.ensures.mistake
