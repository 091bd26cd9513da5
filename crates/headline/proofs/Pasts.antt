-- The past of each barrier of an accepted program, choice by choice.
use Rattle.std.proofs.Common.{◌≡◌, ℕ, suc, false, List, [], ◌∷◌, map, refl, sym, subst, arith, Option, None, slice_index_or}
use Rattle.tier_tree.specs.Origin.{Origin}
use Rattle.row_code.specs.declared.{image.Image.Image, barriers.DeclaredBarrier.DeclaredBarrier}
use Rattle.loader.specs.Declarations.{declared_origin, new_barrier}
use Rattle.cyclic_barrier.specs.{Barrier.BarrierState, Barrier.fresh, PlainBarrier.PlainBarrier, Past.IsStateAfter}
use Rattle.cyclic_barrier.specs.PlainBarrier as plain
use Rattle.cyclic_barrier.proofs.PastLemmas.{stands-fresh}
use Rattle.machine_scene.specs.Scene.{barrier_at}
use Rattle.thread_machine.specs.{declared.choice.Choice.Choice, declared.fault.StepFault.StepFault, World.World}
use Rattle.thread_machine.specs.{Step.played, Step.refusal_of, DirectCounts.counts_after}
use Rattle.thread_machine.proofs.SafeEnds.{Goes, goes_first}
use Rattle.headline.specs.{Pasts.IfAccepted, Pasts.RecordsOnePast, Headline.BarriersHavePasts, Headline.start}
use Rattle.headline.proofs.Choices.{choice_goes, goes_next}

if_accepted : (why : Option StepFault) (later : Type 0) → (why ≡ None → later) → IfAccepted why later
if_accepted why later so = grind arith

records : (choices : List Choice) (b : ℕ) (past : PlainBarrier) (world : World) (origin : Origin) → Goes world origin
    → IsStateAfter (barrier_at world.scene b) past → RecordsOnePast b past world choices
records [] b past world origin goes stands = stands
records (choice ∷ choices) b past world origin goes stands = (
  stands,
  if_accepted (refusal_of world choice) _
      (λ accepted. let next = (choice_goes world choice origin goes accepted).0 b past stands in (
        next.0,
        (
          next.1.0,
          records choices b next.0 (played world choice).world
              (counts_after world choice (played world choice).world origin) (goes_next world choice origin goes accepted) next.1.1,
        ),
      )),
)

new_in : (barriers : List DeclaredBarrier) (b : ℕ)
    → slice_index_or (map new_barrier barriers) b (fresh 1 false)
    ≡ fresh (slice_index_or (map new_barrier barriers) b (fresh 1 false)).parties
    (slice_index_or (map new_barrier barriers) b (fresh 1 false)).action
new_in (x ∷ barriers) (suc b) = new_in barriers b
new_in _ _ = refl

-- each barrier is new at first
new_at : (image : Image) (b : ℕ)
    → barrier_at (start image).scene b
    ≡ fresh (barrier_at (start image).scene b).parties (barrier_at (start image).scene b).action
new_at image b = new_in image.barriers b

pub have_pasts : BarriersHavePasts
have_pasts image (within, loads) choices b =
    let gate = barrier_at (start image).scene b in
    records choices b (plain.fresh gate.parties gate.action) (start image) (declared_origin image.phasers)
    (goes_first image 1000000000 within loads (omega arith))
    (subst (λ (gate' : BarrierState). IsStateAfter gate' (plain.fresh gate.parties gate.action)) (sym (new_at image b))
    (stands-fresh gate.parties gate.action))
