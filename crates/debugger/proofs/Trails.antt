-- What the kept records give back.
use Rattle.std.proofs.Common.{◌≡◌, ◌∙◌, ℕ, zero, suc, Bool, List, [], ◌∷◌, length, take, drop, refl, ap, sym, subst, arith, Option, Some, None, slice_get}
use Rattle.machine_scene.specs.Undo.{Note}
use Rattle.thread_machine.specs.{World.StoredWorld, Undo.undone, Undo.CanUndo}
use Rattle.debugger.specs.Undos.{Kept, with_note, without_newest}
use Rattle.debugger.specs.Session.{Session, went_on, went_back, past_of, IsTrail}

past-take : (n : ℕ) (world : StoredWorld) (notes : List (Option Note)) → past_of world (take n notes) ≡ take n (past_of world notes)
past-take zero world notes = refl
past-take (suc n) world [] = refl
past-take (suc n) world (note ∷ notes) = ap (λ worlds. undone note world ∷ worlds) (past-take n (undone note world) notes)

pub past_length : (world : StoredWorld) (notes : List (Option Note)) → length (past_of world notes) ≡ length notes
past_length world [] = refl
past_length world (note ∷ notes) = ap suc (past_length (undone note world) notes)

trail-take : (n : ℕ) (world : StoredWorld) (notes : List (Option Note)) → IsTrail world notes → IsTrail world (take n notes)
trail-take zero world notes trail = tt
trail-take (suc n) world [] trail = tt
trail-take (suc n) world (note ∷ notes) trail = (trail.0, trail-take n (undone note world) notes trail.1)

-- what a contract sees of a debugger
abbrev pub session_of : StoredWorld → Kept → List Bool → Session
session_of world ring breaks = record { machine = world; past = past_of world ring.notes; kept = ring.most; breaks = breaks }

-- one record more
pub trail_on : (world after : StoredWorld) (note : Option Note) (old new : Kept)
    → new ≡ with_note note old
    → undone note after ≡ world → CanUndo note after → IsTrail world old.notes → IsTrail after new.notes
trail_on world after note old new is undo can trail = grind (arith, trail-take)

pub session_on : (world after : StoredWorld) (note : Option Note) (old new : Kept) (breaks : List Bool) (session : Session)
    → new ≡ with_note note old
    → undone note after ≡ world → session_of world old breaks ≡ session
    → session_of after new breaks ≡ went_on session after
session_on world after note old new breaks session is undo seen = grind (arith, past-take)

-- the first record and the others
first_rest : (notes : List (Option Note)) (note : Option Note) → slice_get notes 0 ≡ Some note → notes ≡ note ∷ drop 1 notes
first_rest notes newest is = grind arith

-- the newest world of the past
pub past_first : (world : StoredWorld) (note : Option Note) (old : Kept) → Some note ≡ slice_get old.notes 0
    → past_of world old.notes ≡ undone note world ∷ past_of (undone note world) (drop 1 old.notes)
past_first world note old is = ap (past_of world) (first_rest old.notes note (sym is))

pub session_back : (world after : StoredWorld) (note : Option Note) (old new : Kept) (breaks : List Bool) (session : Session)
    → Some note ≡ slice_get old.notes 0 → new ≡ without_newest old → after ≡ undone note world
    → session_of world old breaks ≡ session → session_of after new breaks ≡ went_back session
session_back world after note old new breaks session is ring back seen = grind arith

pub can_first : (world : StoredWorld) (note : Option Note) (notes : List (Option Note)) → Some note ≡ slice_get notes 0
    → IsTrail world notes → CanUndo note world
can_first world note notes is trail = (subst (IsTrail world) (first_rest notes note (sym is)) trail).0

-- no record
no_first : (notes : List (Option Note)) → None ≡ slice_get notes 0 → notes ≡ []
no_first [] is = refl
no_first (first ∷ rest) is = absurd (cc is)

pub past_none : (world : StoredWorld) (old : Kept) (breaks : List Bool) (session : Session) → None ≡ slice_get old.notes 0
    → session_of world old breaks ≡ session → session.past ≡ []
past_none world old breaks session is seen = ap (λ (s : Session). s.past) (sym seen) ∙ ap (past_of world) (no_first old.notes is)
