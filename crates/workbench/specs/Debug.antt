-- What `debug` reads and writes, for each result.
use Rattle.std.specs.Prelude.{◌≡◌, ◌≢◌, ◌≤◌, ◌⊎◌, ℕ, Bool, true, false, IsTrue, All, List, [], ◌∷◌, ◌++◌, length, replicate, Option, Some, None, Result, Ok, Err}
use Rattle.std.specs.{List.flat_map, Io.KnownBytes.Appends, Io.KnownBytes.Consumes, Io.KnownBytes.IsAtEnd}
use Rattle.row_code.specs.declared.image.Image.{Image}
use Rattle.thread_machine.specs.{World.StoredWorld, World.world_of, declared.choice.Choice.Choice}
use Rattle.trace_text.specs.{Start.Begins, Start.IsRefused, Outcome.IsUntouched, RunText.GivesOnAndOn}
use Rattle.debugger.specs.{Session.Session, Command.Go, Command.Quit, Command.line_order, Reply.Replies, Go.Stops}
use Rattle.debugger.specs.declared.stop.Stop.{Stop}
use Rattle.schedule_reader.specs.{declared.run.Run.Run, Schedule.choices_of}
use Rattle.trace_compare.specs.Naming.{HasNamed}
use Rattle.trace_compare.specs.declared.comparison.Verdict.TheVariants as verdict
use Rattle.workbench.specs.{declared.fault.Fault.Fault, declared.done.Done.Done, Compare.verdict_line}
use Rattle.workbench.specs.declared.fault.Fault.TheVariants as fault
use Rattle.workbench.specs.declared.done.Done.TheVariants as done

-- the session of a machine before its first choice: it has no breakpoints, and keeps at most 4096 choices
abbrev pub first_session : StoredWorld → Session
first_session world =
    record { machine = world; past = []; kept = 4096; breaks = replicate (length world.program.rows) false }

-- no byte of a line is an LF
abbrev pub HasNoEnd : List ℕ → Type 0
HasNoEnd line = All (λ byte. byte ≢ 10) line

-- the bytes of a line, with its LF or without
abbrev pub bytes_of : List ℕ → (is_ended : Bool) → List ℕ
bytes_of line true = line ++ 10 ∷ []
bytes_of line false = line

-- a line of commands, and what is written in reply
pub record Exchange : Type 0 where
  pub line : List ℕ
  pub reply : List ℕ

-- each line is carried out in the session that the one before it left, and none is `q`
abbrev pub IsDialogue : Session → List Exchange → Session → Type 0
IsDialogue session [] after = after ≡ session
IsDialogue session (exchange ∷ exchanges) after =
    HasNoEnd exchange.line × (line_order exchange.line ≢ Quit)
    × ((next : Session) × (Replies session (line_order exchange.line) next exchange.reply × IsDialogue next exchanges after))

-- how a session ends
pub data Ending : Type 0 where
  -- all lines have replies, up to the end of the commands, or to `q` and its LF
  Finished : Ending
  -- all lines have replies except the last, which is cut before its LF
  Cut : Ending
  -- all lines have replies except the last, which may have been read whole, with its LF
  Unanswered : Ending

-- the last line, read with its LF or without, ends the session so, with this reply, and with these commands left; at the
-- end of the commands nothing is no line
abbrev pub Ends : Ending → Session → (line : List ℕ) (is_ended : Bool) (reply : List ℕ) (left : Option (List ℕ)) → Type 0
Ends Finished session [] false reply left = (reply ≡ []) × IsAtEnd left
Ends Finished session line false reply left = ((after : Session) × Replies session (line_order line) after reply) × IsAtEnd left
Ends Finished session line true reply left = (reply ≡ []) × (line_order line ≡ Quit)
Ends Cut session line is_ended reply left = (reply ≡ []) × (is_ended ≡ false)
Ends Unanswered session line is_ended reply left = reply ≡ []

-- a dialogue was held, and a last line ended the session so: the lines of the dialogue, each with its LF, and the last one
-- were read, and no byte more; the replies were written in their order
abbrev pub HasConversed : Ending → Session → (commands_before commands_after output_before output_after : Option (List ℕ)) → Type 0
HasConversed ending session commands_before commands_after output_before output_after =
    (exchanges : List Exchange) × ((now : Session) × ((last : Exchange) × ((is_ended : Bool)
    × (IsDialogue session exchanges now × HasNoEnd last.line × Ends ending now last.line is_ended last.reply commands_after
    × Consumes commands_before commands_after (flat_map (λ e. bytes_of e.line true) exchanges ++ bytes_of last.line is_ended)
    × Appends output_before output_after (flat_map (λ e. e.reply) exchanges ++ last.reply)))))

-- what was read of the commands ends with an LF, or with the commands
abbrev pub HasReadLines : (commands_before commands_after : Option (List ℕ)) → Type 0
HasReadLines commands_before commands_after =
    (bytes : List ℕ) × (Consumes commands_before commands_after bytes
    × (IsAtEnd commands_after ⊎ ((front : List ℕ) × (bytes ≡ front ++ 10 ∷ []))))

-- no more bytes were read than the most that commands have, a byte at a time, over all lines
abbrev pub GivesFew : Option (List ℕ) → Option (List ℕ) → Type 0
GivesFew before after = (bytes : List ℕ) × (Consumes before after bytes × (length bytes ≤ 1000000000))

-- the result of a session: all lines have replies; or the commands couldn't be read, since they failed or were too long; or
-- there was no memory for a line; or the output failed, and whole lines of the commands were read
abbrev pub Converses : (TooMuch : Type 0) → Result (Unit {0}) Fault → Session
    → (commands_before commands_after : Option (List ℕ)) (commands_failed : Bool)
    (output_before output_after : Option (List ℕ)) (output_failed : Bool) → Type 0
Converses TooMuch (Ok done) session commands_before commands_after commands_failed output_before output_after output_failed =
    HasConversed Finished session commands_before commands_after output_before output_after
Converses TooMuch (Err fault.Read) session commands_before commands_after commands_failed output_before output_after output_failed =
    (IsTrue commands_failed ⊎ TooMuch) × HasConversed Cut session commands_before commands_after output_before output_after
Converses TooMuch (Err fault.Memory) session commands_before commands_after commands_failed output_before output_after output_failed =
    HasConversed Unanswered session commands_before commands_after output_before output_after
Converses TooMuch (Err fault.Write) session commands_before commands_after commands_failed output_before output_after output_failed =
    IsTrue output_failed × HasReadLines commands_before commands_after
Converses TooMuch (Err f) session commands_before commands_after commands_failed output_before output_after output_failed = ⊥

-- the session of an image's program before anything is done
abbrev pub IsFirstSession : Image → Session → Type 0
IsFirstSession image session = (world : StoredWorld) × (Begins image (world_of world) × (session ≡ first_session world))

-- why there is none: no memory for it; or the program isn't loaded
abbrev pub HasNoSession : Fault → Image → Type 0
HasNoSession fault.Memory image = Unit {0}
HasNoSession (fault.Load f) image = IsRefused f image
HasNoSession f image = ⊥

-- a session begins as it is; or after runs, which were played first and have the reply of `g`
abbrev pub IsBegun : Option (List Run) → Session → Session → (output_before output_after : Option (List ℕ)) → Type 0
IsBegun None session now output_before output_after = (now ≡ session) × (output_after ≡ output_before)
IsBegun (Some runs) session now output_before output_after =
    (reply : List ℕ) × (Replies session (Go runs) now reply × Appends output_before output_after reply)

-- a session of an image's program was held, and came to this
abbrev pub HasDebugged : Result (Unit {0}) Fault → Option (List Run) → Image
    → (commands_before commands_after : Option (List ℕ)) (commands_failed : Bool)
    (output_before output_after : Option (List ℕ)) (output_failed : Bool) → Type 0
HasDebugged answer runs image commands_before commands_after commands_failed output_before output_after output_failed =
    (session : Session) × ((now : Session) × ((output_then : Option (List ℕ))
    × (IsFirstSession image session × IsBegun runs session now output_before output_then
    × Converses (GivesOnAndOn commands_before commands_after) answer now commands_before commands_after commands_failed
    output_then output_after output_failed)))

-- why none was held, and no command read: the reply to the runs couldn't be written; or there is none, and nothing was written
abbrev pub IsNotBegun : Fault → Option (List Run) → Image
    → (commands_before commands_after output_before output_after : Option (List ℕ)) (output_failed : Bool) → Type 0
IsNotBegun fault.Write (Some runs) image commands_before commands_after output_before output_after output_failed =
    IsTrue output_failed × (commands_after ≡ commands_before)
IsNotBegun f runs image commands_before commands_after output_before output_after output_failed =
    HasNoSession f image × IsUntouched commands_before commands_after output_before output_after

-- a session was held to its end; or it wasn't, or none was begun
abbrev pub Debugs : Option (List Run) → Image → Result (Unit {0}) Fault
    → (commands_before commands_after : Option (List ℕ)) (commands_failed : Bool)
    (output_before output_after : Option (List ℕ)) (output_failed : Bool) → Type 0
Debugs runs image (Ok done) commands_before commands_after commands_failed output_before output_after output_failed =
    HasDebugged (Ok done) runs image commands_before commands_after commands_failed output_before output_after output_failed
Debugs runs image (Err f) commands_before commands_after commands_failed output_before output_after output_failed =
    HasDebugged (Err f) runs image commands_before commands_after commands_failed output_before output_after output_failed
    ⊎ IsNotBegun f runs image commands_before commands_after output_before output_after output_failed

-- choices were played up to where they stopped: all that a trace names, which was read up to its state
abbrev pub IsPlayedTo : Stop → (session now : Session) (trace_before trace_after : Option (List ℕ)) → Type 0
IsPlayedTo stop session now trace_before trace_after =
    (choices : List Choice) × (HasNamed trace_before trace_after (Ok choices) × Stops session choices stop now)

-- this holds of a session after runs whose choices are those that a trace names
abbrev pub IsBehindTrace : (List Run → Type 0) → (trace_before trace_after : Option (List ℕ)) → Type 0
IsBehindTrace Holds trace_before trace_after =
    (runs : List Run) × (HasNamed trace_before trace_after (Ok (choices_of runs)) × Holds runs)

-- why no session was held after a trace, and no command read: what should be reported about the trace couldn't be written; or
-- the trace couldn't be read; or there is no session, and then the trace wasn't read
abbrev pub IsNotBegunAt : Fault → Image → (trace_before trace_after : Option (List ℕ)) (trace_failed : Bool)
    (commands_before commands_after output_before output_after : Option (List ℕ)) (output_failed : Bool) → Type 0
IsNotBegunAt fault.Write image trace_before trace_after trace_failed commands_before commands_after output_before output_after output_failed =
    ((session : Session) × IsFirstSession image session)
    × ((named : Result (List Choice) ℕ) × HasNamed trace_before trace_after named)
    × IsTrue output_failed × (commands_after ≡ commands_before)
IsNotBegunAt fault.Read image trace_before trace_after trace_failed commands_before commands_after output_before output_after output_failed =
    ((session : Session) × IsFirstSession image session) × (IsTrue trace_failed ⊎ GivesOnAndOn trace_before trace_after)
    × IsUntouched commands_before commands_after output_before output_after
IsNotBegunAt f image trace_before trace_after trace_failed commands_before commands_after output_before output_after output_failed =
    HasNoSession f image × (trace_after ≡ trace_before) × IsUntouched commands_before commands_after output_before output_after

-- a session was held to its end after a trace; or it isn't a trace, its line was reported, and no command was read; or the
-- session wasn't held to its end, or didn't begin
abbrev pub DebugsAt : Image → Result Done Fault → (trace_before trace_after : Option (List ℕ)) (trace_failed : Bool)
    (commands_before commands_after : Option (List ℕ)) (commands_failed : Bool)
    (output_before output_after : Option (List ℕ)) (output_failed : Bool) → Type 0
DebugsAt image (Ok done.AsAsked) trace_before trace_after trace_failed commands_before commands_after commands_failed output_before output_after output_failed =
    IsBehindTrace (λ runs. HasDebugged (Ok tt) (Some runs) image commands_before commands_after commands_failed output_before output_after output_failed)
    trace_before trace_after
DebugsAt image (Ok done.Unlike) trace_before trace_after trace_failed commands_before commands_after commands_failed output_before output_after output_failed =
    (line : ℕ) × (HasNamed trace_before trace_after (Err line) × ((session : Session) × IsFirstSession image session)
    × (commands_after ≡ commands_before) × Appends output_before output_after (verdict_line (verdict.NotATrace line)))
DebugsAt image (Err f) trace_before trace_after trace_failed commands_before commands_after commands_failed output_before output_after output_failed =
    IsBehindTrace (λ runs. HasDebugged (Err f) (Some runs) image commands_before commands_after commands_failed output_before output_after output_failed)
    trace_before trace_after
    ⊎ IsNotBegunAt f image trace_before trace_after trace_failed commands_before commands_after output_before output_after output_failed
