-- A replay of one choice more.
use Rattle.std.proofs.Common.{◌≡◌, ◌+◌, ◌*◌, ◌<◌, ◌≤◌, ℕ, true, List, [], ◌∷◌, ◌++◌, length, append_assoc, arith, length-append, All, Option, Some, None}
use Rattle.std.proofs.lemmas.List.Elements.{All-push}
use Rattle.loader.specs.Program.{Program}
use Rattle.thread_machine.specs.{declared.choice.Choice.Choice, declared.fault.StepFault.StepFault, Ready.is_choice_ready}
use Rattle.thread_machine.specs.{Execution.Execution, Execution.execution, Execution.execution_by, Step.played, Step.refusal_of}
use Rattle.thread_machine.specs.World.{World, first_world}
use Rattle.thread_machine.proofs.Executions.{execution-snoc}
use Rattle.schedule_reader.specs.{Schedule.choices_of, Schedule.finished_schedule, Record.IsNamed, Record.record_text}
use Rattle.schedule_reader.proofs.Records.{choices-once, record-few, record-read}
use Rattle.thread_runner.specs.{Recording.Recording, Recording.recording_of, Recording.with_choice, Turns.IsDue, Turns.AreDue}
use Rattle.thread_runner.specs.{Replay.HasKept, Replay.IsReplay, Replay.IsRecordOf, declared.fault.LiveFault.LiveFault}
use Rattle.thread_runner.specs.declared.fault.LiveFault.TheVariants as fault

-- what a choice leaves as it was, and what it counts
abbrev pub Counts : World → World → Type 0
Counts before after =
    (after.program ≡ before.program) × (after.limit ≡ before.limit)
    × (after.choices ≡ before.choices + 1) × (after.steps ≡ before.steps + 1)

pub counts : (world : World) (choice : Choice) → is_choice_ready world.program choice world.scene ≡ true
    → Counts world (played world choice).world
counts world choice ready = grind arith

-- a choice behind the first is due where all are accepted
due_by : (refusal : Option StepFault) (world : World) (first : Choice) (choices : List Choice) (choice : Choice)
    → (execution_by refusal world first (λ after. execution after choices)).refusal ≡ None
    → IsDue (execution_by refusal world first (λ after. execution after choices)).world choice
    → (let later : Execution = execution (played world first).world choices in (later.refusal ≡ None) × IsDue later.world choice)
due_by (Some fault) world first choices choice accepted due = absurd (cc accepted)
due_by None world first choices choice accepted due = (accepted, due)

due_more : (choices : List Choice) (world : World) (choice : Choice) → (execution world choices).refusal ≡ None
    → IsDue (execution world choices).world choice → AreDue world choices → AreDue world (choices ++ choice ∷ [])
due_more [] world choice accepted due before = (due, tt)
due_more (first ∷ choices) world choice accepted due before =
    let later = due_by (refusal_of world first) world first choices choice accepted due in
    (before.0, due_more choices (played world first).world choice later.0 later.1 before.1)

-- an execution without a refusal, and one accepted choice more
pub replay_more : (recording : Recording) (choice : Choice) (before after : World) → IsReplay recording before
    → is_choice_ready before.program choice before.scene ≡ true → refusal_of before choice ≡ None → before.steps < before.limit
    → after ≡ (played before choice).world → length after.scene.threads ≡ length before.scene.threads → IsDue before choice
    → IsReplay (with_choice choice recording) after
replay_more recording choice before after replay ready accepted below is threads due =
    grind (arith, due_more, execution-snoc, counts, length-append)

-- the program and the limit stay, so that the first world does
pub same_first : (before after : World) (choice : Choice) → is_choice_ready before.program choice before.scene ≡ true
    → after ≡ (played before choice).world → first_world after.program after.limit ≡ first_world before.program before.limit
same_first before after choice ready is = grind arith

-- nothing is recorded before the first choice
pub nothing_recorded : (program : Program) (limit : ℕ) → IsRecordOf (first_world program limit) [] (first_world program limit)
nothing_recorded program limit = grind arith

-- a record is read as the choices that it was made of
read_back : (text : List ℕ) (choices : List Choice) → All IsNamed choices → text ≡ record_text choices
    → (choices_of (finished_schedule text).runs ≡ choices) × ((finished_schedule text).fault ≡ None)
read_back text choices named is = grind (arith, record-read, choices-once)

-- and one choice more
pub recorded_more : (first second : World) (old new : List ℕ) (choice : Choice) (before after : World) → IsRecordOf first old before
    → choice.thread ≤ 63 → second ≡ first → new ≡ record_text ((recording_of first old).choices ++ choice ∷ [])
    → IsReplay (with_choice choice (recording_of first old)) after
    → IsRecordOf second new after × (recording_of second new ≡ with_choice choice (recording_of first old))
recorded_more first second old new choice before after recorded small same is replay =
    let choices = (recording_of first old).choices ++ choice ∷ [] in
    let named : All IsNamed choices = All-push IsNamed (recording_of first old).choices choice recorded.named small in
    let read = read_back new choices named is in
    grind arith

-- how long it is
pub recorded_few : (first : World) (text : List ℕ) (world : World) → IsRecordOf first text world
    → length text ≤ 4 * length (recording_of first text).choices
recorded_few first text world recorded = grind (arith, record-few)

pub recorded_within : (first : World) (text : List ℕ) (world : World) → IsRecordOf first text world → length text ≤ 4 * first.limit
recorded_within first text world recorded = omega (arith, recorded_few first text world recorded, recorded.replay.replay.within)

-- each choice of a replay is due where those before it lead
at_by : (refusal : Option StepFault) (world : World) (first : Choice) (before choices : List Choice) (choice : Choice)
    → (execution_by refusal world first (λ after. execution after choices)).refusal ≡ None
    → ((execution (played world first).world choices).refusal ≡ None → IsDue (execution (played world first).world before).world choice)
    → IsDue (execution_by refusal world first (λ after. execution after before)).world choice
at_by (Some fault) world first before choices choice accepted due = absurd (cc accepted)
at_by None world first before choices choice accepted due = due accepted

pub due_at : (before : List Choice) (world : World) (choice : Choice) (rest : List Choice)
    → (execution world (before ++ choice ∷ rest)).refusal ≡ None → AreDue world (before ++ choice ∷ rest)
    → IsDue (execution world before).world choice
due_at [] world choice rest accepted due = due.0
due_at (first ∷ before) world choice rest accepted due =
    at_by (refusal_of world first) world first before (before ++ choice ∷ rest) choice accepted
    (λ later. due_at before (played world first).world choice rest later due.1)

-- what has all choices of a longer record has those of its beginning
pub kept_more : (a b : Recording) (more : List Choice) → b.choices ≡ a.choices ++ more → (f : LiveFault) → HasKept b f → HasKept a f
kept_more a b more is (fault.Memory schedule) (rest, kept) = grind (arith, append_assoc)
kept_more a b more is fault.Spawn kept = tt
