-- What is true of an image without a fault: its phasers make a forest, and its other parts a program.
use Rattle.std.proofs.Common.{◌≡◌, ℕ, zero, suc, ◌+◌, ◌<◌, ◌≤◌, Bool, true, false, not, if◌then◌else◌, List, [], ◌∷◌, ◌++◌, length, get_or, take, Option, Some, None, refl, sym, ap, subst, ◌∙◌, arith, pos, nat_abs, nat_le, nat_lt, take_all}
use Rattle.std.proofs.lemmas.{Bool.Decides.nat_tests, List.Sums.fold_more, List.Elements.All-nil}
use Rattle.std.specs.{Option.option_map, List.list_any}
use Rattle.packed_phaser.specs.declared.policy.Policy.{Policy}
use Rattle.tier_tree.specs.{declared.id.PhaserId.PhaserId, declared.fault.DeclareFault.DeclareFault, Registration.is_overfull}
use Rattle.tier_tree.specs.{Forest.PhaserState, Forest.phaser_at, Sound.IsForest, Sound.IsForestOf}
use Rattle.tier_tree.specs.Declaration.{AreAllFresh, IsFreshAbove, has_parent, is_count, is_first_phase, is_root, line_above, fault_of, joins_above, declared, after_declaration}
use Rattle.tier_tree.specs.Origin.{AreTallied, declared_at}
use Rattle.tier_tree.specs.declared.fault.DeclareFault.TheVariants as declare
use Rattle.tier_tree.proofs.{Added.stands_declared, Lines.length-places, Lines.forest_declared, Lines.joined-places}
use Rattle.tier_tree.proofs.{Fresh.fresh_declared, Calls.declared_ends, Calls.stands_empty}
use Rattle.row_code.specs.{declared.phasers.DeclaredPhaser.DeclaredPhaser, declared.image.Image.Image, Image.IsImage}
use Rattle.loader.specs.declared.load_fault.LoadFault.TheVariants as fault
use Rattle.loader.specs.Declarations.{parent_of, policy_of, declare_fault, with_phaser, forest_of, no_phaser, declared_origin}
use Rattle.loader.specs.Program.{Program, IsProgramOf}
use Rattle.loader.specs.Fault.{unless, earliest_in, first_fault, routine_fault, listed_phaser_fault}
use Rattle.loader.proofs.{Search.none_left, Search.none_in, Whole.HasParts, Whole.declared_by, Whole.has_parts}
use Rattle.loader.proofs.Declaring.{origin_stays}

-- the first so many of all phasers in a forest in which nothing has happened yet
pub record IsMade (all : List DeclaredPhaser) (n : ℕ) (phasers : List PhaserState) : Type 0 where
  pub many : length phasers ≡ n
  pub forest : IsForest phasers
  pub fresh : AreAllFresh phasers
  pub ends : (id : ℕ) → (phaser_at phasers id).ends ≡ 0
  pub origin : AreTallied phasers (declared_origin all)

nothing_made : (all : List DeclaredPhaser) → IsMade all 0 []
nothing_made all = grind (arith, All-nil, stands_empty)

room_and_parent : (full there : Bool) (rest : Option DeclareFault)
    → (if full then Some declare.TooManyPhasers else (if not there then Some declare.NoParent else rest)) ≡ None
    → (full ≡ false) × ((there ≡ true) × (rest ≡ None))
room_and_parent true there rest e = absurd (cc (e))
room_and_parent false there rest e = grind arith

passed_by : (test : Bool) (why : DeclareFault) (rest : Option DeclareFault) → (if test then Some why else rest) ≡ None
    → (test ≡ false) × (rest ≡ None)
passed_by true why rest e = absurd (cc (e))
passed_by false why rest e = (refl, e)

has_room : (n : ℕ) → nat_le 64 n ≡ false → n < 64
has_room n e = grind (arith, nat_tests, e)

pushed : (phasers : List PhaserState) (p : PhaserState) → length (phasers ++ p ∷ []) ≡ length phasers + 1
pushed [] p = refl
pushed (q ∷ phasers) p = let rest = pushed phasers p in omega (arith, rest)

-- one phaser more
one_made : (all : List DeclaredPhaser) (n : ℕ) (parent : Option PhaserId) (parties : ℕ) (policy : Policy) (phase : ℕ) (phasers : List PhaserState)
    → parties ≡ (get_or all n no_phaser).parties → fault_of parent (pos parties) phase phasers ≡ None → IsMade all n phasers
    → IsMade all (n + 1) (after_declaration parent parties policy phase phasers)
one_made all n parent parties policy phase phasers own none made =
    let can = room_and_parent (nat_le 64 (length phasers)) (has_parent parent phasers) _ none in
    let count = passed_by (not (is_count (pos parties))) declare.BadParties _ can.1.1 in
    let first = passed_by (not (is_first_phase parent phase)) declare.PhaseOnChild _ count.1 in
    let deep = passed_by (nat_le 8 (length (line_above parent phasers))) declare.TooDeep _ first.1 in
    let room = passed_by (list_any (is_overfull phasers) (joins_above parent parties phasers)) declare.TooMany None deep.1 in
    let few = has_room (length phasers) can.0 in
    let above : IsFreshAbove parent phasers = λ p is there. λ i d lt own. made.fresh i d lt in
    let new = declared parent parties policy phase phasers in
    let more = phasers ++ new ∷ [] in
    let joins = joins_above parent parties more in
    let after = after_declaration parent parties policy phase phasers in
    let places = joined-places joins more in
    record {
      many = sym (length-places after) ∙ ap length places ∙ length-places more ∙ pushed phasers new ∙ ap (λ k. k + 1) made.many;
      forest = subst IsForestOf (sym places) (forest_declared parent parties policy phase phasers few can.1.0 made.forest);
      fresh = fresh_declared joins phasers more after new refl refl refl made.fresh;
      ends = λ id. declared_ends parent parties policy phase phasers after refl id ∙ made.ends id;
      origin = origin_stays after all n parties (is_root parent) own
          (subst (λ k. AreTallied after (declared_at k parties (is_root parent) (declared_origin all))) made.many
          (stands_declared parent parties policy phase phasers after (declared_origin all) few can.1.0 made.forest above room.0 refl made.origin));
    }

no_fault_in : (o : Option DeclareFault) (n : ℕ) → option_map (λ why. fault.Declare n why) o ≡ None → o ≡ None
no_fault_in o n e = grind arith

-- so many phasers of a list that has no fault
some_made : (rows : ℕ) (all : List DeclaredPhaser) → earliest_in (listed_phaser_fault rows all) 0 all ≡ None
    → (n : ℕ) → n ≤ length all → IsMade all n (forest_of (take n all))
some_made rows all none zero most = nothing_made all
some_made rows all none (suc n) most =
    let within : n < length all = omega (arith, most) in
    let phaser = get_or all n no_phaser in
    let before = forest_of (take n all) in
    let at : n ≡ 0 + n = omega arith in
    let checked : listed_phaser_fault rows all n phaser ≡ None =
    ap (λ k. listed_phaser_fault rows all k phaser) at ∙ none_in (listed_phaser_fault rows all) 0 all none n no_phaser within in
    let can : declare_fault before phaser ≡ None =
    no_fault_in (declare_fault before phaser) n (none_left (routine_fault rows n phaser.policy) _ checked).1 in
    let one = one_made all n (parent_of phaser) phaser.parties (policy_of phaser.policy) (nat_abs phaser.first_phase) before refl can
    (some_made rows all none n (omega (arith, within))) in
    let next : n + 1 ≡ suc n = omega arith in
    subst (λ k. IsMade all k (forest_of (take k all))) next
    (subst (IsMade all (n + 1)) (sym (fold_more with_phaser [] all n no_phaser within)) one)

-- all of them
pub all_made : (image : Image) → first_fault image ≡ None → IsMade image.phasers (length image.phasers) (forest_of image.phasers)
all_made image none =
    let past = none_left (unless (nat_lt 0 (length image.threads)) fault.NoThread) _ none in
    let phasers = none_left (earliest_in (listed_phaser_fault (length image.rows) image.phasers) 0 image.phasers) _ past.1 in
    subst (λ ps. IsMade image.phasers (length image.phasers) (forest_of ps)) (take_all (length image.phasers) image.phasers (omega arith))
    (some_made (length image.rows) image.phasers phasers.0 (length image.phasers) (omega arith))

-- the other parts of its program
pub parts_of : (image : Image) → IsImage image → first_fault image ≡ None → HasParts image
parts_of image fits none = has_parts image fits.rows.0 fits.threads.0 fits.barriers.0 none

-- a program of an image is the one that its parts make
pub is_declared : (image : Image) (program : Program) → IsProgramOf image program → program ≡ declared_by image program.phasers
is_declared image program is = grind arith
