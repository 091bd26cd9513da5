-- FROM END TO END. What a command shows of an accepted program is the headline's machine (headline/specs/Headline.antt), from
-- the bytes that it reads to the bytes that it writes. The commands are the program without arguments, `run`, `debug`, and
-- `live` without `--runs`. This holds whenever the command's result is Ok, and for `debug --at` whenever it is `AsAsked`, if no
-- person at a terminal gives the commands. What a refused command leaves is said by each function of src/shown.rt (`outcome`).
-- The calls of a session, and those that read and write texts, are in other crates, each with its own contract.
-- debugger/src/session.rt: `new`, `machine`, `step`, `back`, `set_break`, `clear_break`. debugger/src/session/go.rt: `go`.
-- debugger/src/session/reply.rt: `command`. assembler/src/assembling.rt: `assemble` (`found`, `only`).
-- line_reader/src/listing.rt: `disassemble`. trace_text/src/line.rt: `event_line`, `refusal_line`. trace_text/src/state.rt:
-- `state_text`.
--
-- Each `use` line names the file that defines its names. The bytes of a text or a file are all that it has, at most 16,777,216:
-- the program reads them first (`read_all`, workbench/src/input.rt). That the image is that of these bytes is promised by
-- `program_in` and `program_of_text` (workbench/src). It is only tested that the program passes on exactly these, and that
-- `run FILE` without a schedule passes on what precedes the line `.run` and what follows it. For a text nothing is left to a
-- test in `both_cmd`, which reads it and returns the exit status (src/shown.rt): the program doesn't call it. At a terminal the
-- commands of `debug` are the lines that `GuidedCommands` passes on. What it replies itself isn't among the bytes of the output.
--
-- A schedule, commands and an output are the bytes that a port still has or has got. Ports over memory tell their contracts
-- these bytes. Ports over files, pipes and terminals don't (`None`): for them the lines below say only that some bytes fit.
-- That these are the bytes that came and went follows from the functions (src/shown.rt). They are generic in their ports: one
-- body for all of them, which uses a port only through `Source::pull` and `Sink::push` (byte_ports). `debug` reads its
-- commands with `Companion::next_line` (workbench/src/companion.rt), which has one body for all sources. No body can find out
-- which port it has, since `left` and `written` are ghosts, which nothing that runs sees. So what it does can't depend on
-- whether its ports tell their bytes; and for ports that tell them the lines hold, in whatever pieces the bytes come. `run`,
-- `live` and the program without arguments write through a block of bytes (byte_ports), and bytes in the block count here as
-- written. The program then calls `passed_on` (workbench/src/ending.rt), which writes the last block: if it returns Ok, the
-- writer below has got all bytes. It is only tested that the program calls it. What you still have to believe is below the
-- ports: that std's `read` returns what the file has, in order, and that its `write` writes what it is given.
--
-- The other commands have their promises elsewhere, each in the relation that its contract names:
--   `asm`: the bytes of the image that the text stands for are written (Assembles, workbench/specs/Asm.antt).
--   `list`: the canonical text of the program (`list` in src/shown.rt), which represents its image and no other (the law
--      `a_canonical_text_is_read_back` there); with `--rows` its rows (ListsRows, commands/specs/Rows.antt).
--   `compare`: the verdict on the whole trace, with the number of the line that decides (`compare` in src/shown.rt, by
--      WritesVerdict, workbench/specs/Compare.antt), and `same` exactly if it is the trace of the choices that its lines name
--      (HasFoundTheSame, below, and the law `the_same_is_that_trace_alone` in src/shown.rt); with `--show` also a line of the
--      run (ShowsComparison, commands/specs/Showing.antt). That the other line shown is the trace's is only tested.
--   `choices`: the schedule of the choices that a trace's lines name (HasWrittenChoices, commands/specs/Choices.antt).
--   `plan`: the choices that the plan plays on the program (HasPlanned, commands/specs/Planning.antt); with `--seeds` how the
--      runs of these seeds end (HasReportedSeeds, commands/specs/Seeds.antt).
--   `show`, `draw`: a page or a picture of exactly this run (HasMade, commands/specs/Pictures.antt; IsPageOf and IsPictureOf,
--      pictures/specs).
--   `live --runs`: each run that is counted is a live run as below (Reports, commands/specs/Runs.antt).
--   `race`: the line of the phaser's last word after one legal history of so many meetings (IsFinal, workbench/specs/Race.antt).
--   `explain`: the entry that the words ask for (HasExplained, refusals/specs/Explained.antt).
use Rattle.std.specs.Prelude.{◌≡◌, ℕ, List, [], ◌∷◌, Option, Some, None}
use Rattle.std.specs.Io.KnownBytes.{Appends, Consumes, IsAtEnd}
use Rattle.row_code.specs.declared.image.Image.{Image}
use Rattle.assembler.specs.Meaning.{StandsFor}
use Rattle.thread_machine.specs.{declared.choice.Choice.Choice, World.StoredWorld, World.IsFirstOf, World.world_of}
use Rattle.thread_machine.specs.Execution.{execution}
use Rattle.schedule_reader.specs.{declared.run.Run.Run, Schedule.finished_schedule, Schedule.choices_of}
use Rattle.trace_text.specs.Trace.{trace_of}
use Rattle.trace_compare.specs.Compare.{choices_of_trace}
use Rattle.headline.specs.Headline.{Accepted, GivesTheRows, start}
use Rattle.debugger.specs.{Command.Go, Command.line_order, Reply.Replies, Session.Session, Standing.Stands}
use Rattle.workbench.specs.Debug.{Exchange, Finished, HasConversed, IsBegun, IsBehindTrace, IsDialogue, first_session}
use Rattle.workbench.specs.{Live.IsRecorded, ProgramFile.IsProgramFile, RunLine.program_part, RunLine.schedule_part}

-- the text spells this accepted program
abbrev pub AcceptedText : List ℕ → Image → Type 0
AcceptedText text image = StandsFor text image × Accepted image

-- a file that is such a text, or the bytes of an image, spells it
abbrev pub AcceptedFile : List ℕ → Image → Type 0
AcceptedFile file image = IsProgramFile file image × Accepted image

-- The schedule has no fault, and what is shown is the trace of its choices, each as often as it says. For each choice the trace
-- has what the row of its thread gives in the world after the choices before it, up to the first that is refused, which has the
-- last line before the state. Then it has the state after them.
abbrev pub ShowsTheRows : Image → List ℕ → List ℕ → Type 0
ShowsTheRows image schedule shown =
    (runs : List Run) × ((finished_schedule schedule ≡ record { runs = runs; fault = None })
    × (shown ≡ trace_of (start image) (choices_of runs)))

-- Without arguments: what precedes a text's first line `.run` (all, if it has none) is an accepted program, what follows is the
-- schedule, and the trace was written.
abbrev pub HasShownText : (text : List ℕ) (output_before output_after : Option (List ℕ)) → Type 0
HasShownText text output_before output_after =
    (image : Image) × ((shown : List ℕ) × (AcceptedText (program_part text) image
    × ShowsTheRows image (schedule_part text) shown × Appends output_before output_after shown))

-- `run`: a schedule was read to its end, and the trace was written.
abbrev pub HasShownFile : (file : List ℕ) (schedule_before schedule_after output_before output_after : Option (List ℕ)) → Type 0
HasShownFile file schedule_before schedule_after output_before output_after =
    (image : Image) × ((schedule : List ℕ) × ((shown : List ℕ)
    × (AcceptedFile file image × Consumes schedule_before schedule_after schedule × IsAtEnd schedule_after
    × ShowsTheRows image schedule shown × Appends output_before output_after shown)))

-- `run` with a plan: the trace of the choices that the plan stands for was written. Which choices these are is promised by
-- `planned_in` (commands/src/plan.rt); it is only tested that the program passes on just these.
abbrev pub HasShownChoices : (file : List ℕ) → List Choice → (output_before output_after : Option (List ℕ)) → Type 0
HasShownChoices file choices output_before output_after =
    (image : Image) × (AcceptedFile file image × Appends output_before output_after (trace_of (start image) choices))

-- `debug`: a session that can take back 4096 choices was held on a file's program, from its first world on, or after runs of
-- choices. Each line of commands has the reply that it asks for, up to `q` or the end.
abbrev pub HasDebuggedFile : Option (List Run) → (file : List ℕ) (commands_before commands_after output_before output_after : Option (List ℕ)) → Type 0
HasDebuggedFile runs file commands_before commands_after output_before output_after =
    (image : Image) × ((world : StoredWorld) × ((now : Session) × ((output_then : Option (List ℕ))
    × (AcceptedFile file image × IsFirstOf image 1000000000 (world_of world)
    × IsBegun runs (first_session world) now output_before output_then
    × HasConversed Finished now commands_before commands_after output_then output_after))))

-- `debug --at`: the same after the choices that a trace's lines name, up to the line of its state. If there is a plan, or if a
-- person at a terminal gives the commands, the program makes the runs first, and `HasDebuggedFile` doesn't say from what.
abbrev pub HasDebuggedFileAt : (file : List ℕ) (trace_before trace_after commands_before commands_after output_before output_after : Option (List ℕ)) → Type 0
HasDebuggedFileAt file trace_before trace_after commands_before commands_after output_before output_after =
    IsBehindTrace (λ runs. HasDebuggedFile (Some runs) file commands_before commands_after output_before output_after)
    trace_before trace_after

-- The choices that stand in a session before its first line: none, or the first n of the runs that it begins after, for some n.
abbrev pub StandAtFirst : Option (List Run) → Session → List Choice → Type 0
StandAtFirst None session choices = choices ≡ []
StandAtFirst (Some runs) session choices = Stands session [] (Go runs) choices

-- The choices that stand after these lines, if these stood before: `s` adds its choice, unless it is refused, `g` adds the first
-- n of its own, for some n, and `b` takes the last away, if the world before it is kept. Only one n is possible: the world after
-- the line counts its choices, and by SessionsGiveTheRows there are as many of these.
abbrev pub AreLeft : Session → List Choice → List Exchange → List Choice → Type 0
AreLeft session choices [] left = left ≡ choices
AreLeft session choices (exchange ∷ exchanges) left =
    (next : Session) × ((now : List Choice) × (Replies session (line_order exchange.line) next exchange.reply
    × Stands session choices (line_order exchange.line) now × AreLeft next now exchanges left))

-- At each line of such a session, whatever the lines before it, the world is what the rows give for the choices that stand there,
-- and none of these is refused.
abbrev pub SessionsGiveTheRows : Type 0
SessionsGiveTheRows =
    (image : Image) (world : StoredWorld) (runs : Option (List Run)) (now after : Session) (output_before output_then : Option (List ℕ))
    (exchanges : List Exchange) → IsFirstOf image 1000000000 (world_of world)
    → IsBegun runs (first_session world) now output_before output_then → IsDialogue now exchanges after
    → (first : List Choice) × ((left : List Choice) × (StandAtFirst runs (first_session world) first × AreLeft now first exchanges left
    × ((execution (start image) left).refusal ≡ None) × GivesTheRows image left (world_of after.machine)))

-- `live`: there are choices of a run on real threads (`IsRecorded`), and what was written is their trace, as from `start`. From
-- the program's first world they led to an end (`ending_of`): all threads have ended or died, none can continue, or `limit` steps
-- were taken. None of them was refused, each was a step, and each was the one that its thread had to make in the world before
-- (`AreDue`): its turn, or, if no thread was ready, the expiry of the lowest wait that could expire. If `limit` isn't 0, no
-- program is over before its first choice: `a_live_run_chooses` (src/shown.rt). It is only tested that the threads made these
-- choices, in the order in which they took the lock.
abbrev pub HasShownLive : ℕ → (file : List ℕ) (output_before output_after : Option (List ℕ)) → Type 0
HasShownLive limit file output_before output_after =
    (image : Image) × ((choices : List Choice) × (AcceptedFile file image × IsRecorded image limit choices
    × Appends output_before output_after (trace_of (start image) choices)))

-- `compare`, if its verdict is `same`: a trace was read to its end, and it is that of the choices that its lines name, as from
-- `start`.
abbrev pub HasFoundTheSame : (file : List ℕ) (trace_before trace_after : Option (List ℕ)) → Type 0
HasFoundTheSame file trace_before trace_after =
    (image : Image) × ((trace : List ℕ) × (AcceptedFile file image × Consumes trace_before trace_after trace × IsAtEnd trace_after
    × (trace ≡ trace_of (start image) (choices_of_trace trace))))
