-- What the calls of a session promise.
use Rattle.std.specs.Prelude.{◌≡◌, ◌≢◌, ◌⊎◌, ◌+◌, ◌<◌, ◌≤◌, ℕ, Bool, true, false, List, [], Option, Some, None, length, min, nat_lt, take}
use Rattle.cyclic_barrier.specs.ThreadSet.{has}
use Rattle.row_code.specs.declared.image.Image.{Image}
use Rattle.machine_scene.specs.{Scene.scene_of, Scene.thread_at, Outcomes.is_ready}
use Rattle.thread_machine.specs.{Execution.execution, Ready.can_expire, Step.played, declared.choice.Choice.Choice}
use Rattle.thread_machine.specs.{World.World, World.StoredWorld, World.world_of, declared.fault.StepFault.StepFault}
use Rattle.thread_machine.specs.declared.fault.StepFault.TheVariants as step
use Rattle.thread_state.specs.Thread.{ThreadState}
use Rattle.debugger.specs.{Go.Refuses, Moves.IsSessionStep, Session.IsHistory, Session.Session, Session.went_back}
use Rattle.debugger.specs.{Command.line_order, Reply.Replies}
use Rattle.plans.specs.Others.{other_choices}
use Rattle.schedule_reader.specs.{Schedule.choices_of, Schedule.finished_schedule, Text.schedule_text, declared.run.Run.Run}
use Rattle.schedule_reader.specs.declared.fault.ScheduleFault.{ScheduleFault}
use Rattle.trace_text.specs.Start.{Begins}
use Rattle.vuthgal_c.specs.{Looks.event_look, Room.reply_room, declared.going.NotThere.NotThere, declared.other.NoOther.NoOther}
use Rattle.vuthgal_c.specs.declared.look.EventLook.{EventLook}
use Rattle.vuthgal_c.specs.declared.going.NotThere.TheVariants as nowhere
use Rattle.vuthgal_c.specs.declared.other.NoOther.TheVariants as nothing
use Rattle.workbench.specs.{Debug.HasNoSession, Debug.IsFirstSession, Fault.line_of, Fault.status_of, Input.most_bytes}
use Rattle.workbench.specs.{ProgramFile.IsNoProgramFor, ProgramFile.IsProgramFile, declared.fault.Fault.Fault}
use Rattle.workbench.specs.declared.fault.Fault.TheVariants as fault

-- a session that a caller holds: the debugger's, the reply to its last command, and the program that it plays
pub record Kept : Type 0 where
  pub debugger : Session
  pub reply : List ℕ
  pub image : Image

-- a session of the program in a file, before its first command
abbrev pub IsFirstOf : (file : List ℕ) → Kept → Type 0
IsFirstOf file kept = IsProgramFile file kept.image × IsFirstSession kept.image kept.debugger × (kept.reply ≡ [])

-- why there is none: it is out of memory; or the file is too long; or it has no program; or its program has no session
abbrev pub HasNone : (file : List ℕ) → Fault → Type 0
HasNone file f = (f ≡ fault.Memory) ⊎ (((f ≡ fault.Read) × (most_bytes < length file))
    ⊎ (IsNoProgramFor f file ⊎ ((image : Image) × (IsProgramFile file image × HasNoSession f image))))

-- a session was opened, of a file that isn't too long; or none, for this reason
abbrev pub Opens : (file : List ℕ) → (after : Option Kept) (status : ℕ) (line : List ℕ) → Type 0
Opens file after status line =
    ((status ≡ 0) × (line ≡ []) × (length file ≤ most_bytes) × ((kept : Kept) × ((after ≡ Some kept) × IsFirstOf file kept)))
    ⊎ ((after ≡ None) × ((f : Fault) × ((status ≡ status_of f) × (line ≡ line_of f) × HasNone file f
    × (most_bytes < length file → f ≡ fault.Read))))

-- the reply to a command is longer than its room
abbrev pub HasLongReply : Session → (command : List ℕ) → Type 0
HasLongReply session command =
    (next : Session) × ((reply : List ℕ) × (Replies session (line_order command) next reply × (reply_room < length reply)))

-- a command was carried out, and this is its reply, which is kept; or it is out of memory, and the session is as before, or, where
-- the reply is longer than its room, closed; or there is no session
abbrev pub Answers : Option Kept → (command : List ℕ) → Option Kept → (status : ℕ) (reply : List ℕ) → Type 0
Answers None command after status reply = (status ≡ 6) × (reply ≡ []) × (after ≡ None)
Answers (Some kept) command after status reply =
    ((status ≡ 0) × ((next : Kept) × ((after ≡ Some next) × (reply ≡ next.reply) × (next.image ≡ kept.image)
    × Replies kept.debugger (line_order command) next.debugger next.reply)))
    ⊎ ((status ≡ 4) × (reply ≡ []) × ((after ≡ Some kept) ⊎ ((after ≡ None) × HasLongReply kept.debugger command)))

-- the reply to the last command; or there is no session
abbrev pub Repeats : Option Kept → (status : ℕ) (reply : List ℕ) → Type 0
Repeats None status reply = (status ≡ 6) × (reply ≡ [])
Repeats (Some kept) status reply = (status ≡ 0) × (reply ≡ kept.reply)

-- the choices that are steps in this world, and not idle, as two sets with bit t for thread t: the turns, and the expiries
pub record AreEnabled (world : StoredWorld) (now later : ℕ) : Type 0 where
  pub turns : (t : ℕ) → has now t ≡ is_ready t world.program (scene_of world.scene)
  pub expiries : (t : ℕ) → has later t ≡ can_expire t world.program (scene_of world.scene)

-- these are the session's; or there is no session
abbrev pub Enables : Option Kept → (status turns expiries : ℕ) → Type 0
Enables None status turns expiries = (status ≡ 6) × (turns ≡ 0) × (expiries ≡ 0)
Enables (Some kept) status turns expiries = (status ≡ 0) × AreEnabled kept.debugger.machine turns expiries

-- a room of the caller's got what it shows of a session's state; or there is no session, and it is as before
abbrev pub Sees : {Room : Type 0} → Option Kept → (status : ℕ) → (Shown : World → (before after : Room) → Type 0) → (before after : Room) → Type 0
Sees None status Shown before after = (status ≡ 6) × (after ≡ before)
Sees (Some kept) status Shown before after = (status ≡ 0) × Shown (world_of kept.debugger.machine) before after

-- it got a list of a thread's, and a number its length; or there is no such thread
abbrev pub SeesOf : {Look : Type 0} → Bool → (status : ℕ) → (IsSeen : (before after : List Look) → Type 0) → (length : ℕ)
    → (before after : List Look) (count_before count_after : ℕ) → Type 0
SeesOf true status IsSeen length before after count_before count_after =
    (status ≡ 0) × IsSeen before after × (count_after ≡ length)
SeesOf false status IsSeen length before after count_before count_after =
    (status ≡ 7) × (after ≡ before) × (count_after ≡ count_before)

-- of this thread of a session; or there is no session
abbrev pub SeesThread : {Look : Type 0} → Option Kept → (thread status : ℕ) → (IsSeen : ThreadState → (before after : List Look) → Type 0)
    → (length_of : ThreadState → ℕ) → (before after : List Look) (count_before count_after : ℕ) → Type 0
SeesThread None thread status IsSeen length_of before after count_before count_after =
    (status ≡ 6) × (after ≡ before) × (count_after ≡ count_before)
SeesThread (Some kept) thread status IsSeen length_of before after count_before count_after =
    let of : ThreadState = thread_at (scene_of kept.debugger.machine.scene) thread in
    SeesOf (nat_lt thread (length kept.debugger.machine.scene.threads)) status (IsSeen of) (length_of of)
    before after count_before count_after

-- the status of a choice by why it is refused
abbrev pub refused_status : StepFault → ℕ
refused_status step.NoSuchThread = 7
refused_status step.StepLimit = 8
refused_status step.Memory = 4

-- a session after a choice that isn't refused, and what it did
abbrev pub HasStepped : Kept → Choice → Kept → EventLook → Type 0
HasStepped kept choice next event =
    IsSessionStep kept.debugger choice next.debugger × (next.reply ≡ kept.reply) × (next.image ≡ kept.image)
    × (event ≡ event_look (kept.debugger.machine.choices + 1) (thread_at (scene_of kept.debugger.machine.scene) choice.thread).pc
    (played (world_of kept.debugger.machine) choice).event)

-- a choice was played by a session; or it was refused, or there was no memory for a value that it puts out, and nothing changed;
-- or there is no session
abbrev pub Steps : Option Kept → Choice → Option Kept → (status : ℕ) (event_before event_after : EventLook) → Type 0
Steps None choice after status event_before event_after = (status ≡ 6) × (after ≡ None) × (event_after ≡ event_before)
Steps (Some kept) choice after status event_before event_after =
    ((status ≡ 0) × ((next : Kept) × ((after ≡ Some next) × HasStepped kept choice next event_after)))
    ⊎ ((after ≡ Some kept) × (event_after ≡ event_before) × ((fault : StepFault) × ((status ≡ refused_status fault)
    × Refuses (world_of kept.debugger.machine) choice fault)))

-- the last choice of a session was taken back; or none is kept, and nothing changed; or there is no session
abbrev pub Backs : Option Kept → Option Kept → (status : ℕ) → Type 0
Backs None after status = (status ≡ 6) × (after ≡ None)
Backs (Some kept) after status = (after ≡ Some (record kept { debugger = went_back kept.debugger }))
    × (((status ≡ 0) × (kept.debugger.past ≢ [])) ⊎ ((status ≡ 1) × (kept.debugger.past ≡ [])))

-- a session in the same state, word for word, with the same breakpoints. It has no reply, and can't take back what was played before
abbrev pub copy_of : Kept → Kept
copy_of kept = record { debugger = record kept.debugger { past = [] }; reply = []; image = kept.image }

-- a handle got a copy of a session; or it is as before, since it is out of memory, or there is no session
abbrev pub Copies : Option Kept → (before after : Option Kept) (status : ℕ) → Type 0
Copies None before after status = (status ≡ 6) × (after ≡ before)
Copies (Some kept) before after status =
    ((status ≡ 0) × (after ≡ Some (copy_of kept))) ⊎ ((status ≡ 4) × (after ≡ before))

-- the choices of a schedule without a fault
abbrev pub AreChoicesIn : (schedule : List ℕ) → List Choice → Type 0
AreChoicesIn schedule choices =
    (runs : List Run) × ((finished_schedule schedule ≡ record { runs = runs; fault = None }) × (choices ≡ choices_of runs))

-- a session in the state that these choices of its program lead to, with the same breakpoints and the same reply
pub record IsAgain (kept : Kept) (choices : List Choice) (next : Kept) : Type 0 where
  pub first : World
  pub begins : Begins kept.image first
  pub history : IsHistory first choices next.debugger
  pub breaks : next.debugger.breaks ≡ kept.debugger.breaks
  pub room : next.debugger.kept ≡ kept.debugger.kept
  pub reply : next.reply ≡ kept.reply
  pub image : next.image ≡ kept.image

-- a session went to the state after so many choices of a schedule, which has as many
abbrev pub HasGone : Kept → (played : List ℕ) (number : ℕ) → Kept → Type 0
HasGone kept played number next =
    (choices : List Choice) × (AreChoicesIn played choices × (number ≤ length choices) × IsAgain kept (take number choices) next)

-- one of these choices of a session's program is refused
abbrev pub IsRefusedAgain : Kept → List Choice → Type 0
IsRefusedAgain kept choices =
    (first : World) × (Begins kept.image first × ((execution first choices).refusal ≢ None))

-- how many bytes the schedule of what was played may have
abbrev pub most_played : ℕ
most_played = 1000000000

-- why it went nowhere: the schedule is too long; or can't be read; or has fewer choices; or one of them is refused
abbrev pub HasNotGone : NotThere → Kept → (played : List ℕ) (number : ℕ) → Type 0
HasNotGone nowhere.TooLong kept played number = most_played < length played
HasNotGone nowhere.NoSchedule kept played number =
    (fault : ScheduleFault) × ((finished_schedule played).fault ≡ Some fault)
HasNotGone nowhere.Fewer kept played number =
    (choices : List Choice) × (AreChoicesIn played choices × (length choices < number))
HasNotGone (nowhere.Refused step.Memory) kept played number = Unit {0}
HasNotGone (nowhere.Refused fault) kept played number =
    (choices : List Choice) × (AreChoicesIn played choices × IsRefusedAgain kept (take number choices))

abbrev pub not_there_status : NotThere → ℕ
not_there_status nowhere.TooLong = 5
not_there_status nowhere.NoSchedule = 3
not_there_status nowhere.Fewer = 1
not_there_status (nowhere.Refused fault) = refused_status fault

-- a session went to a choice of what was played; or it didn't for a reason, and nothing changed; or there is no session
abbrev pub GoesTo : Option Kept → (played : List ℕ) (number : ℕ) → Option Kept → (status : ℕ) → Type 0
GoesTo None played number after status = (status ≡ 6) × (after ≡ None)
GoesTo (Some kept) played number after status =
    ((status ≡ 0) × ((next : Kept) × ((after ≡ Some next) × HasGone kept played number next)))
    ⊎ ((after ≡ Some kept) × ((why : NotThere) × ((status ≡ not_there_status why) × HasNotGone why kept played number)))

-- the schedule of what follows if another choice is made in this world, where the run's own choices would be these
abbrev pub FollowsOther : World → Choice → (most : ℕ) → List Choice → (text : List ℕ) → Type 0
FollowsOther world choice most own text =
    (runs : List Run) × ((choices_of runs ≡ other_choices world (min most 1000000) choice own) × (text ≡ schedule_text runs))

-- where they would be those of `rest`
abbrev pub IsOther : World → Choice → (most : ℕ) → (rest text : List ℕ) → Type 0
IsOther world choice most rest text =
    (own : List Choice) × (AreChoicesIn rest own × FollowsOther world choice most own text)

-- how many choices of its own a run may go on with
abbrev pub most_rest : ℕ
most_rest = 2000

-- the run's own choices are too long a text, or can't be read, or are more than that
abbrev pub IsRefusedRest : List ℕ → Type 0
IsRefusedRest rest = (most_bytes < length rest)
    ⊎ (((fault : ScheduleFault) × ((finished_schedule rest).fault ≡ Some fault))
    ⊎ (most_rest < length (choices_of (finished_schedule rest).runs)))

-- why there is no other run: there is no such thread; or the rest is refused; or it is out of memory
abbrev pub HasNoOther : NoOther → World → Choice → (rest : List ℕ) → Type 0
HasNoOther nothing.Thread world choice rest = length world.scene.threads ≤ choice.thread
HasNoOther nothing.Rest world choice rest = IsRefusedRest rest
HasNoOther nothing.Memory world choice rest = Unit {0}

abbrev pub no_other_status : NoOther → ℕ
no_other_status nothing.Thread = 7
no_other_status nothing.Rest = 3
no_other_status nothing.Memory = 4

-- the other run of a session, which has the thread; or none, and why; or there is no session
abbrev pub Others : Option Kept → Choice → (most : ℕ) → (rest : List ℕ) → (status : ℕ) (text : List ℕ) → Type 0
Others None choice most rest status text = (status ≡ 6) × (text ≡ [])
Others (Some kept) choice most rest status text =
    ((status ≡ 0) × (choice.thread < length kept.debugger.machine.scene.threads)
    × IsOther (world_of kept.debugger.machine) choice most rest text)
    ⊎ ((text ≡ []) × ((why : NoOther) × ((status ≡ no_other_status why)
    × HasNoOther why (world_of kept.debugger.machine) choice rest)))
