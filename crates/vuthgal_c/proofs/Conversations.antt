-- What stands in a session of a caller.
use Rattle.std.proofs.Common.{◌≡◌, ◌∙◌, ◌⊎◌, inl, inr, ℕ, zero, suc, List, [], ◌∷◌, ◌++◌, Option, Some, None, refl, sym, subst, ap, arith, map, take}
use Rattle.std.specs.Option.{unwrap_or}
use Rattle.debugger.specs.{Command.Back, Command.line_order, Reply.back_text, Session.IsHistory, Session.went_back}
use Rattle.debugger.proofs.{Histories.history_on, Standings.goes_on_with}
use Rattle.row_code.specs.declared.image.Image.{Image}
use Rattle.schedule_reader.specs.Schedule.{Schedule, choices_of, finished_schedule}
use Rattle.trace_text.specs.Start.{Begins}
use Rattle.headline.proofs.{Scenes.stored_alike, Scenes.world_left, Sessions.nothing_done, Showing.file_image}
use Rattle.thread_machine.specs.{World.World, World.world_of, declared.choice.Choice.Choice, declared.fault.StepFault.StepFault}
use Rattle.vuthgal_c.specs.Conversation.{Call, Command, Choose, Return, GoTo, IsCall, AreCalls, StandsBehind, AreLeftBy, CallersSeeTheRows, CopiesGoOn}
use Rattle.vuthgal_c.specs.declared.going.NotThere.{NotThere}
use Rattle.vuthgal_c.specs.Sessions.{HasGone, Kept, not_there_status, refused_status}
use Rattle.vuthgal_c.specs.declared.going.NotThere.TheVariants as nowhere

-- these choices stand in a session of this program
abbrev StandIn : Image → List Choice → Kept → Type 0
StandIn image choices kept =
    (first : World) × (Begins image first × (kept.image ≡ image) × IsHistory first choices kept.debugger)

-- a call leaves no session; or one in which these choices stand
abbrev Leaves : Image → List Choice → Kept → Call → Option Kept → Type 0
Leaves image choices kept call after =
    (after ≡ None) ⊎ ((next : Kept) × ((after ≡ Some next) × ((now : List Choice)
    × (StandsBehind kept choices call now × StandIn image now next))))

never_zero : (fault : StepFault) → 0 ≡ refused_status fault → ⊥
never_zero fault is = grind arith

never_there : (why : NotThere) → 0 ≡ not_there_status why → ⊥
never_there (nowhere.Refused fault) is = never_zero fault is
never_there _ is = omega (arith, is)

-- the choices of a schedule that was read
gone : (image : Image) (choices : List Choice) (kept next : Kept) (played : List ℕ) (number : ℕ) → kept.image ≡ image
    → HasGone kept played number next → Leaves image choices kept (GoTo played number 0) (Some next)
gone image choices kept next played number same (all, ((runs, (is, named)), enough, again)) =
    let read : choices_of (finished_schedule played).runs ≡ all = ap (λ (s : Schedule). choices_of s.runs) is ∙ sym named in
    let begins = subst (λ (i : Image). Begins i again.first) same again.begins in
    let stand : StandIn image (take number all) next = (again.first, (begins, again.image ∙ same, again.history)) in
    inr (next, (refl, (take number all, (ap (take number) (sym read), stand))))

one_call : (call : Call) (image : Image) (choices : List Choice) (kept : Kept) (after : Option Kept) → StandIn image choices kept
    → IsCall (Some kept) call after → Leaves image choices kept call after
one_call (Command command zero reply) image choices kept after (world, (begins, same, history)) (inl (done, (next, (is, text, image_is, replies)))) =
    let on = goes_on_with (line_order command) world choices kept.debugger next.debugger next.reply history replies in
    inr (next, (is, (on.0, (on.1.0, (world, (begins, image_is ∙ same, on.1.1))))))
one_call (Command command zero reply) image choices kept after stands (inr (memory, empty, rest)) = absurd (omega (arith, memory))
one_call (Command command (suc n) reply) image choices kept after stands (inr (memory, empty, inl same)) =
    inr (kept, (same, (choices, (refl, stands))))
one_call (Command command (suc n) reply) image choices kept after stands (inr (memory, empty, inr (closed, long))) = inl closed
one_call (Choose choice zero b a) image choices kept after (world, (begins, same, history)) (inl (done, (next, (is, (stepped, reply, image_is, event))))) =
    let on = history_on world choices choice kept.debugger next.debugger history stepped in
    inr (next, (is, (choices ++ choice ∷ [], (refl, (world, (begins, image_is ∙ same, on))))))
one_call (Choose choice zero b a) image choices kept after stands (inr (same, event, (fault, (status, refuses)))) =
    absurd (never_zero fault status)
one_call (Choose choice (suc n) b a) image choices kept after stands (inr (same, event, rest)) =
    inr (kept, (same, (choices, (refl, stands))))
one_call (Return status) image choices kept after (world, (begins, same, history)) (is, rest) =
    let on = goes_on_with Back world choices kept.debugger (went_back kept.debugger) (back_text kept.debugger.past) history (refl, refl) in
    inr (record kept { debugger = went_back kept.debugger }, (is, (on.0, (on.1.0, (world, (begins, same, on.1.1))))))
one_call (GoTo played number zero) image choices kept after (world, (begins, same, history)) (inl (done, (next, (is, went)))) =
    subst (Leaves image choices kept (GoTo played number 0)) (sym is) (gone image choices kept next played number same went)
one_call (GoTo played number zero) image choices kept after stands (inr (same, (why, (status, rest)))) = absurd (never_there why status)
one_call (GoTo played number (suc n)) image choices kept after stands (inr (same, rest)) =
    inr (kept, (same, (choices, (refl, stands))))
one_call (Command command (suc n) reply) image choices kept after stands (inl (done, rest)) = absurd (omega (arith, done))
one_call (Choose choice (suc n) b a) image choices kept after stands (inl (done, rest)) = absurd (omega (arith, done))
one_call (GoTo played number (suc n)) image choices kept after stands (inl (done, rest)) = absurd (omega (arith, done))

-- where there is no session, none is open after more calls
closed_by : (call : Call) (after : Option Kept) → IsCall None call after → after ≡ None
closed_by (Command command status reply) after (is, none, same) = same
closed_by (Choose choice status b a) after (is, same, event) = same
closed_by (Return status) after (is, same) = same
closed_by (GoTo played number status) after (is, same) = same

stays_closed : (calls : List Call) (before : Option Kept) (last : Kept) → before ≡ None → AreCalls before calls (Some last) → ⊥
stays_closed [] before last none is = absurd (cc (is, none))
stays_closed (call ∷ calls) before last none (next, (made, more)) =
    stays_closed calls next last (closed_by call next (subst (λ b. IsCall b call next) none made)) more

left : (calls : List Call) (image : Image) (choices : List Choice) (kept last : Kept) → StandIn image choices kept
    → AreCalls (Some kept) calls (Some last)
    → (all : List Choice) × (AreLeftBy kept choices calls all × StandIn image all last)
left [] image choices kept last stands is =
    (choices, (refl, subst (λ (s : Option Kept). StandIn image choices (unwrap_or s kept)) (sym is) stands))
left (call ∷ calls) image choices kept last stands (next, (made, more)) =
    elim (one_call call image choices kept next stands made) [
      | inl closed ↦ absurd (stays_closed calls next last closed more)
      | inr on ↦
          let later = left calls image on.1.1.0 on.0 last on.1.1.1.1 (subst (λ b. AreCalls b calls (Some last)) on.1.0 more) in (
            later.0,
            ((on.0, (on.1.1.0, (subst (IsCall (Some kept) call) on.1.0 made, on.1.1.1.0, later.1.0))), later.1.1),
          )
    ]

pub see_the_rows : CallersSeeTheRows
see_the_rows file first last calls (is, (world, (begins, session)), reply) called =
    let image = first.image in
    let begun = subst (IsHistory (world_of world) []) (sym session) (nothing_done world) in
    let all = left calls image [] first last (world_of world, (begins, refl, begun)) called in
    let now = all.1.1.0 in
    let begins_now = all.1.1.1.0 in
    let history = all.1.1.1.2 in
    let alike = stored_alike image now begins_now.1 all.0 in (
      image,
      (
        all.0,
        (
          is,
          (file_image file image is, begins.0),
          all.1.0,
          subst (λ why. why ≡ None) alike.2 history.accepted,
          world_left image 1000000000 now (world_of last.debugger.machine) all.0 begins_now.1 history.machine,
        ),
      ),
    )

pub go_on : CopiesGoOn
go_on world choices kept history = record {
  accepted = history.accepted;
  machine = history.machine;
  older = map world_of kept.debugger.past ++ history.older;
  past = history.past;
}
