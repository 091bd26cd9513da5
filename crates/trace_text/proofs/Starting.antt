-- No image is refused for want of memory.
use Rattle.std.proofs.Common.{◌≡◌, ◌∙◌, ◌+◌, ℕ, Bool, true, false, List, [], ◌∷◌, cond, Option, Some, None, refl, ap, sym, arith}
use Rattle.std.specs.Option.{option_or, option_map}
use Rattle.tier_tree.specs.declared.fault.DeclareFault.TheVariants as declare
use Rattle.row_code.specs.declared.image.Image.{Image}
use Rattle.loader.specs.{declared.load_fault.LoadFault.LoadFault, Fault.earliest_in, Fault.first_fault, Fault.unless}
use Rattle.loader.specs.declared.load_fault.LoadFault.TheVariants as fault
use Rattle.trace_text.specs.Start.{is_want_of_memory}

-- whether a fault is told that is want of memory
wants : Option LoadFault → Bool
wants None = false
wants (Some fault) = is_want_of_memory fault

wants-or : (one other : Option LoadFault) → wants one ≡ false → wants other ≡ false → wants (option_or one other) ≡ false
wants-or one other p q = grind arith

wants-unless : (test : Bool) (fault : LoadFault) → is_want_of_memory fault ≡ false → wants (unless test fault) ≡ false
unfolding wants
wants-unless true fault p = refl
wants-unless false fault p = p

wants-in : {E : Type 0} (check : ℕ → E → Option LoadFault) → ((n : ℕ) (entry : E) → wants (check n entry) ≡ false)
    → (n : ℕ) (entries : List E) → wants (earliest_in check n entries) ≡ false
unfolding wants
wants-in check each n [] = refl
wants-in check each n (entry ∷ entries) = grind (arith, wants-or, wants-in check each (n + 1) entries)

-- why a phaser can't be declared
why_by : (n : ℕ) (many orphan parties phase deep full : Bool) → wants (option_map (λ why. fault.Declare n why)
    (cond many (Some declare.TooManyPhasers) (cond orphan (Some declare.NoParent) (cond parties (Some declare.BadParties)
    (cond phase (Some declare.PhaseOnChild) (cond deep (Some declare.TooDeep) (cond full (Some declare.TooMany) None))))))) ≡ false
unfolding wants
why_by n true orphan parties phase deep full = refl
why_by n false _ _ phase deep full = grind arith

wants-first : (image : Image) → wants (first_fault image) ≡ false
unfolding wants
wants-first image = grind (arith, wants-or, wants-unless, wants-in, why_by)

pub no_want : (image : Image) (told : LoadFault) → first_fault image ≡ Some told → is_want_of_memory told ≡ false
unfolding wants
no_want image told is = ap wants (sym is) ∙ wants-first image

-- an image has one first fault
pub other_fault : (image : Image) (one other : LoadFault) → first_fault image ≡ Some one → first_fault image ≡ Some other → one ≡ other
other_fault image one other p q = let same : Some one ≡ Some other = sym p ∙ q in cc
