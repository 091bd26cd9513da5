-- A session behind the choices of a trace.
use Rattle.std.proofs.Common.{◌≡◌, ◌⊎◌, inl, inr, sym, ℕ, Bool, List, [], ◌∷◌, Option, Some, Result, Ok, Err, IsTrue, refl, ap, subst, arith, IfErr, IfOk, OnOk}
use Rattle.std.specs.Io.KnownBytes.{Appends}
use Rattle.row_code.specs.declared.image.Image.{Image}
use Rattle.thread_machine.specs.declared.choice.Choice.{Choice}
use Rattle.schedule_reader.specs.{declared.run.Run.Run, Schedule.choices_of, Schedule.run_of}
use Rattle.trace_compare.specs.Naming.{HasNamed}
use Rattle.trace_text.specs.{Outcome.IsUntouched, RunText.GivesOnAndOn}
use Rattle.trace_compare.specs.declared.comparison.Verdict.TheVariants as verdict
use Rattle.debugger.specs.{Session.Session, declared.stop.Stop.Stop, Go.Stops, Reply.stop_text}
use Rattle.workbench.specs.{declared.done.Done.Done, declared.fault.Fault.Fault, Compare.verdict_line}
use Rattle.workbench.specs.Debug.{Converses, DebugsAt, HasNoSession, IsBegun, IsFirstSession, IsNotBegunAt}
use Rattle.workbench.specs.declared.done.Done.TheVariants as done
use Rattle.workbench.specs.declared.fault.Fault.TheVariants as fault

-- each choice is a run
pub runs_of : List Choice → List Run
runs_of [] = []
runs_of (choice ∷ choices) = run_of choice 1 ∷ runs_of choices

their_choices : (choices : List Choice) → choices_of (runs_of choices) ≡ choices
unfolding runs_of
their_choices [] = refl
their_choices (choice ∷ choices) = ap (λ cs. choice ∷ cs) (their_choices choices)

-- a session whose choices were played, and told, began as by `g` with their runs
pub begun_at : (stop : Stop) (session now : Session) (choices : List Choice) (x y : Option (List ℕ)) → Stops session choices stop now
    → Appends x y (stop_text stop) → IsBegun (Some (runs_of choices)) session now x y
begun_at stop session now choices x y stops written = grind (arith, their_choices)

named_at : (choices : List Choice) (t u : Option (List ℕ)) → HasNamed t u (Ok choices) → HasNamed t u (Ok (choices_of (runs_of choices)))
named_at choices t u named = subst (λ cs. HasNamed t u (Ok cs)) (sym (their_choices choices)) named

-- the trace is none, and that was told, or couldn't be
pub untraced_at : (result : Result Done Fault) (image : Image) (session : Session) (line : ℕ) (t0 t1 c0 c1 o0 o1 : Option (List ℕ)) (tf cf of : Bool)
    → OnOk result (Appends o0 o1 (verdict_line (verdict.NotATrace line))) → IfOk result (λ d. d ≡ done.Unlike)
    → IfErr result (λ f. (f ≡ fault.Write) × IsTrue of) → IsFirstSession image session → HasNamed t0 t1 (Err line) → c1 ≡ c0
    → DebugsAt image result t0 t1 tf c0 c1 cf o0 o1 of
untraced_at (Ok d) image session line t0 t1 c0 c1 o0 o1 tf cf of told unlike failed first named same =
    subst (λ e. DebugsAt image (Ok e) t0 t1 tf c0 c1 cf o0 o1 of) (sym unlike) (line, (named, (session, first), same, told))
untraced_at (Err f) image session line t0 t1 c0 c1 o0 o1 tf cf of told unlike failed first named same =
    subst (λ e. DebugsAt image (Err e) t0 t1 tf c0 c1 cf o0 o1 of) (sym failed.0)
    (inr ((session, first), (Err line, named), failed.1, same))

-- a session was held behind the trace, and came to this
pub answered_at : (answer : Result (Unit {0}) Fault) (result : Result Done Fault) (image : Image) (session now : Session) (choices : List Choice)
    (t0 t1 c0 c1 o0 om o1 : Option (List ℕ)) (tf cf of : Bool)
    → OnOk answer (result ≡ Ok done.AsAsked) → IfErr answer (λ f. result ≡ Err f) → IsFirstSession image session
    → HasNamed t0 t1 (Ok choices) → IsBegun (Some (runs_of choices)) session now o0 om
    → Converses (GivesOnAndOn c0 c1) answer now c0 c1 cf om o1 of → DebugsAt image result t0 t1 tf c0 c1 cf o0 o1 of
answered_at answer result image session now choices t0 t1 c0 c1 o0 om o1 tf cf of asked told first named begun came = grind (arith, runs_of, named_at)

-- there is no session, and nothing was looked at
pub not_begun_at : (f : Fault) (image : Image) (t0 t1 c0 c1 o0 o1 : Option (List ℕ)) (tf of : Bool) → HasNoSession f image → t1 ≡ t0
    → IsUntouched c0 c1 o0 o1 → IsNotBegunAt f image t0 t1 tf c0 c1 o0 o1 of
not_begun_at f image t0 t1 c0 c1 o0 o1 tf of none same untouched = grind arith

-- the trace couldn't be read
pub unread_at : (f : Fault) (image : Image) (session : Session) (t0 t1 c0 c1 o0 o1 : Option (List ℕ)) (tf of : Bool)
    → ((f ≡ fault.Memory) × (t1 ≡ t0)) ⊎ ((f ≡ fault.Read) × (IsTrue tf ⊎ GivesOnAndOn t0 t1)) → IsFirstSession image session
    → IsUntouched c0 c1 o0 o1 → IsNotBegunAt f image t0 t1 tf c0 c1 o0 o1 of
unread_at f image session t0 t1 c0 c1 o0 o1 tf of (inl (is, same)) first untouched = grind arith
unread_at f image session t0 t1 c0 c1 o0 o1 tf of (inr (is, why)) first untouched =
    subst (λ e. IsNotBegunAt e image t0 t1 tf c0 c1 o0 o1 of) (sym is) ((session, first), why, untouched)
