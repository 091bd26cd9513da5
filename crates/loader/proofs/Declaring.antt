-- One more phaser is declared.
use Rattle.std.proofs.Common.{◌≡◌, ℕ, ◌+◌, ◌<◌, Bool, List, length, get_or, arith}
use Rattle.std.proofs.lemmas.List.Sums.{fold_more}
use Rattle.tier_tree.specs.{Forest.PhaserState, Answer.KeepsEnds, Declaration.AreAllFresh, Declaration.is_root}
use Rattle.tier_tree.specs.{Origin.AreTallied, Origin.Carries, Origin.declared_at, Stored.Stored, Stored.phasers_of}
use Rattle.row_code.specs.declared.phasers.DeclaredPhaser.{DeclaredPhaser}
use Rattle.loader.specs.Declarations.{parent_of, with_phaser, no_phaser, declared_origin, AreDeclared}

-- to declare a phaser is to count those whom its declaration names
pub origin_stays : (phasers : List PhaserState) (all : List DeclaredPhaser) (n count : ℕ) (top : Bool)
    → count ≡ (get_or all n no_phaser).parties → AreTallied phasers (declared_at n count top (declared_origin all))
    → AreTallied phasers (declared_origin all)
origin_stays phasers all n count top is stands = grind arith

pub declared_more : (n : ℕ) (all : List DeclaredPhaser) (before after : List Stored) → n < length all → AreDeclared n all before
    → let phaser = get_or all n no_phaser in phasers_of after ≡ with_phaser (phasers_of before) phaser → length after ≡ length before + 1
    → AreAllFresh (phasers_of after) → KeepsEnds (phasers_of before) (phasers_of after)
    → Carries (declared_at (length before) phaser.parties (is_root (parent_of phaser))) (phasers_of before) (phasers_of after)
    → AreDeclared (n + 1) all after
declared_more n all before after lt so_far shown many fresh keeps carries = grind (arith, fold_more, origin_stays)
