-- The conversation on a program that was just loaded.
use Rattle.std.proofs.Common.{Bool, List, ℕ, Option, Result, arith}
use Rattle.row_code.specs.declared.image.Image.{Image}
use Rattle.trace_text.specs.{Outcome.IsUntouched, RunText.GivesOnAndOn}
use Rattle.debugger.specs.Session.{Session}
use Rattle.schedule_reader.specs.declared.run.Run.{Run}
use Rattle.workbench.specs.declared.fault.Fault.{Fault}
use Rattle.workbench.specs.Debug.{Converses, Debugs, HasNoSession, IsBegun, IsFirstSession, IsNotBegun}

-- what has no session has no conversation
pub not_begun : (f : Fault) (runs : Option (List Run)) (image : Image) (c0 c1 o0 o1 : Option (List ℕ)) (other : Bool)
    → HasNoSession f image → IsUntouched c0 c1 o0 o1 → IsNotBegun f runs image c0 c1 o0 o1 other
not_begun f runs image c0 c1 o0 o1 other none untouched = grind arith

-- a session was held, and came to this
pub debugged : (result : Result (Unit {0}) Fault) (runs : Option (List Run)) (image : Image) (session now : Session)
    (c0 c1 o0 om o1 : Option (List ℕ)) (failed other : Bool)
    → IsFirstSession image session → IsBegun runs session now o0 om → Converses (GivesOnAndOn c0 c1) result now c0 c1 failed om o1 other
    → Debugs runs image result c0 c1 failed o0 o1 other
debugged result runs image session now c0 c1 o0 om o1 failed other first begun came = grind arith
