use Rattle.std.proofs.Common.{rules, inr, refl, [], sym, subst}
use Rattle.vuthgal_c.specs.Sessions.{Answers, HasLongReply, Kept}
use Rattle.vuthgal_c.proofs.sessions.vuthgal_session_command.Goals as goal

-- the session is closed, since its reply is long
pub returns-in-Err-ReplyLost : goal.returns-in-Err-ReplyLost
returns-in-Err-ReplyLost c =
    let long = subst (λ (k : Kept). HasLongReply k.debugger c.args.command.now) c.deref_mut.ensures.value (c.in-Err-ReplyLost.ensures.lost (search rules)) in (
      [],
      (
        c.hand_all-in-Err-ReplyLost.ensures,
        subst (λ s. Answers s c.args.command.now c.take.new.handle.session 4 []) (sym c.in-Some.ensures.taken)
            (inr (refl, refl, inr (c.take.ensures.empty, long))),
      ),
    )
