-- What stands in a debugging session.
use Rattle.std.proofs.Common.{◌≡◌, ℕ, List, [], ◌∷◌, Option, Some, None, refl, sym, subst}
use Rattle.thread_machine.specs.{declared.choice.Choice.Choice, World.World, World.StoredWorld, World.world_of}
use Rattle.schedule_reader.specs.declared.run.Run.{Run}
use Rattle.debugger.specs.{Command.Go, Command.line_order, Session.Session, Session.IsHistory}
use Rattle.debugger.proofs.Standings.{goes_on_with}
use Rattle.workbench.specs.Debug.{Exchange, IsBegun, IsDialogue, first_session}
use Rattle.headline.specs.EndToEnd.{AreLeft, SessionsGiveTheRows, StandAtFirst}
use Rattle.headline.proofs.Scenes.{stored_alike, world_left}

pub nothing_done : (world : StoredWorld) → IsHistory (world_of world) [] (first_session world)
nothing_done world = record { accepted = refl; machine = refl; older = []; past = refl }

at_first : (runs : Option (List Run)) (world : StoredWorld) (now : Session) (a b : Option (List ℕ))
    → IsBegun runs (first_session world) now a b
    → (choices : List Choice) × (StandAtFirst runs (first_session world) choices × IsHistory (world_of world) choices now)
at_first None world now a b (same, untouched) = ([], (refl, subst (IsHistory (world_of world) []) (sym same) (nothing_done world)))
at_first (Some runs) world now a b (reply, (replies, written)) =
    goes_on_with (Go runs) (world_of world) [] (first_session world) now reply (nothing_done world) replies

left : (exchanges : List Exchange) (first : World) (choices : List Choice) (now after : Session) → IsHistory first choices now
    → IsDialogue now exchanges after → (all : List Choice) × (AreLeft now choices exchanges all × IsHistory first all after)
left [] first choices now after history same = (choices, (refl, subst (IsHistory first choices) (sym same) history))
left (exchange ∷ exchanges) first choices now after history (no_end, no_quit, (next, (replies, more))) =
    let on = goes_on_with (line_order exchange.line) first choices now next exchange.reply history replies in
    let later = left exchanges first on.0 next after on.1.1 more in
    (later.0, ((next, (on.0, (replies, on.1.0, later.1.0))), later.1.1))

pub give_the_rows : SessionsGiveTheRows
give_the_rows image world runs now after a b exchanges is begun held =
    let first = at_first runs world now a b begun in
    let all = left exchanges (world_of world) first.0 now after first.1.1 held in
    let history = all.1.1 in
    let alike = stored_alike image (world_of world) is all.0 in (
      first.0,
      (
        all.0,
        (
          first.1.0,
          all.1.0,
          subst (λ why. why ≡ None) alike.2 history.accepted,
          world_left image 1000000000 (world_of world) (world_of after.machine) all.0 is history.machine,
        ),
      ),
    )
