use Rattle.std.proofs.Common.{◌∙◌, ℕ, Bool, true, false, ap, sym, subst, ◌-◌, ◌<◌}
use Rattle.packed_phaser.specs.Word.{fields_of}
use Rattle.packed_phaser.proofs.WordFields.{fewer, party_there, fields_of-fewer, IsWord-fewer}
use Rattle.packed_phaser.proofs.word.Word.without_one.Goals as goal

pub overflow_sub-self-inside : goal.overflow_sub-self-inside
overflow_sub-self-inside c =
    party_there c.self.inside.bits true (subst (λ (w : ℕ). 0 < (fields_of w).unarrived) (sym c.self.view_is) c.requires.awaited)
    (subst (λ (w : ℕ). 0 < (fields_of w).parties) (sym c.self.view_is) c.requires.registered)

pub invariant_of-t-4 : goal.invariant_of-t-4
invariant_of-t-4 c =
    IsWord-fewer c.self.inside.bits true c.self.invariant (subst (λ (w : ℕ). 0 < (fields_of w).unarrived) (sym c.self.view_is) c.requires.awaited)
    (subst (λ (w : ℕ). 0 < (fields_of w).parties) (sym c.self.view_is) c.requires.registered)

pub overflow_sub-result : goal.overflow_sub-result
overflow_sub-result c =
    party_there c.self.inside.bits false (subst (λ (w : ℕ). 0 < (fields_of w).unarrived) (sym c.self.view_is) c.requires.awaited)
    (subst (λ (w : ℕ). 0 < (fields_of w).parties) (sym c.self.view_is) c.requires.registered)

pub invariant_of-result : goal.invariant_of-result
invariant_of-result c =
    IsWord-fewer c.self.inside.bits false c.self.invariant (subst (λ (w : ℕ). 0 < (fields_of w).unarrived) (sym c.self.view_is) c.requires.awaited)
    (subst (λ (w : ℕ). 0 < (fields_of w).parties) (sym c.self.view_is) c.requires.registered)

pub returns-then-leave : goal.returns-then-leave
returns-then-leave c =
    ap (λ (w : ℕ). fields_of (w - 65537)) c.self.view_is ∙ fields_of-fewer c.args.self true c.requires.awaited c.requires.registered
    ∙ ap (λ (l : Bool). fewer l (fields_of c.args.self)) (sym c.if-leave.true)

pub returns-else-leave : goal.returns-else-leave
returns-else-leave c =
    ap (λ (w : ℕ). fields_of (w - 1)) c.self.view_is ∙ fields_of-fewer c.args.self false c.requires.awaited c.requires.registered
    ∙ ap (λ (l : Bool). fewer l (fields_of c.args.self)) (sym c.if-leave.false)
