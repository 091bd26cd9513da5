use Rattle.std.proofs.Common.{rules, inl, inr, refl, ◌<◌, ◌≤◌, length, arith, codes}
use Rattle.workbench.specs.Input.{most_bytes}
use Rattle.workbench.specs.declared.fault.Fault.TheVariants as fault
use Rattle.vuthgal_c.proofs.sessions.vuthgal_session_open.Goals as goal

-- the program is too long
pub returns-then-not-is_within : goal.returns-then-not-is_within
returns-then-not-is_within c =
    let many : most_bytes < length c.args.program.now = search (rules, arith) in
    (codes "read\n", (search rules, inr (search rules, (fault.Read, (refl, refl, inr (inl (refl, many)), λ _. refl)))))

-- the line says why there is none
pub returns : goal.returns
returns c =
    let few : length c.args.program.now ≤ most_bytes = search (rules, arith) in (
      c.tell.new.told.written,
      (
        search rules,
        inr (search rules, (c.in-Err.fault, (search rules, search rules, c.in-Err.ensures.none, λ many. absurd (omega (arith, few, many))))),
      ),
    )
