-- A WHOLE SESSION OF A CALLER. Whatever calls are made, in whatever order, the session is the headline's.
use Rattle.std.specs.Prelude.{◌≡◌, ℕ, zero, suc, List, [], ◌∷◌, ◌++◌, Option, Some, None, take}
use Rattle.debugger.specs.{Command.line_order, Session.IsHistory, Standing.Stands, Standing.without_last}
use Rattle.headline.specs.Headline.{Accepted, GivesTheRows, start}
use Rattle.row_code.specs.declared.image.Image.{Image}
use Rattle.schedule_reader.specs.Schedule.{choices_of, finished_schedule}
use Rattle.thread_machine.specs.{Execution.execution, World.World, World.world_of, declared.choice.Choice.Choice}
use Rattle.vuthgal_c.specs.Sessions.{Answers, Backs, GoesTo, IsFirstOf, Kept, Steps, copy_of}
use Rattle.vuthgal_c.specs.declared.look.EventLook.{EventLook}
use Rattle.workbench.specs.ProgramFile.{IsProgramFile}

-- a call of a session, and what it returned: a command with its reply, a choice with its event, a step back, or one to any choice
pub data Call : Type 0 where
  Command : (command : List ℕ) (status : ℕ) (reply : List ℕ) → Call
  Choose : (choice : Choice) (status : ℕ) (before after : EventLook) → Call
  Return : (status : ℕ) → Call
  GoTo : (played : List ℕ) (number status : ℕ) → Call

-- a call as its contract says it
abbrev pub IsCall : Option Kept → Call → Option Kept → Type 0
IsCall before (Command command status reply) after = Answers before command after status reply
IsCall before (Choose choice status event_before event_after) after = Steps before choice after status event_before event_after
IsCall before (Return status) after = Backs before after status
IsCall before (GoTo played number status) after = GoesTo before played number after status

-- these calls were made one after another, and the caller holds this after them
abbrev pub AreCalls : Option Kept → List Call → Option Kept → Type 0
AreCalls before [] after = after ≡ before
AreCalls before (call ∷ calls) after = (next : Option Kept) × (IsCall before call next × AreCalls next calls after)

-- the choices that stand after a call, if these did before it: a command's as in a session of the debugger; a choice that is played
-- is added; a step back takes the last one away; the first of a schedule are in place of all before; and a call that is refused
-- changes nothing
abbrev pub StandsBehind : Kept → List Choice → Call → List Choice → Type 0
StandsBehind kept choices (Command command zero reply) now = Stands kept.debugger choices (line_order command) now
StandsBehind kept choices (Command command (suc status) reply) now = now ≡ choices
StandsBehind kept choices (Choose choice zero before after) now = now ≡ choices ++ choice ∷ []
StandsBehind kept choices (Choose choice (suc status) before after) now = now ≡ choices
StandsBehind kept choices (Return status) now = now ≡ without_last kept.debugger.past choices
StandsBehind kept choices (GoTo played number zero) now = now ≡ take number (choices_of (finished_schedule played).runs)
StandsBehind kept choices (GoTo played number (suc status)) now = now ≡ choices

-- the choices that stand after these calls
abbrev pub AreLeftBy : Kept → List Choice → List Call → List Choice → Type 0
AreLeftBy kept choices [] left = left ≡ choices
AreLeftBy kept choices (call ∷ calls) left =
    (next : Kept) × ((now : List Choice) × (IsCall (Some kept) call (Some next) × StandsBehind kept choices call now
    × AreLeftBy next now calls left))

-- A session of a program's file that is open after any calls: the program is accepted, none of the choices that stand is refused,
-- and the world is what the rows give for them.
abbrev pub CallersSeeTheRows : Type 0
CallersSeeTheRows =
    (file : List ℕ) (first last : Kept) (calls : List Call) → IsFirstOf file first → AreCalls (Some first) calls (Some last)
    → (image : Image) × ((left : List Choice) × (IsProgramFile file image × Accepted image × AreLeftBy first [] calls left
    × ((execution (start image) left).refusal ≡ None) × GivesTheRows image left (world_of last.debugger.machine)))

-- a copy goes on from where its session is: the choices that stand in the one stand in the other
abbrev pub CopiesGoOn : Type 0
CopiesGoOn =
    (world : World) (choices : List Choice) (kept : Kept) → IsHistory world choices kept.debugger
    → IsHistory world choices (copy_of kept).debugger
