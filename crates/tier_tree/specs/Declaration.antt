-- The declaration of a phaser.
use Rattle.std.specs.Prelude.{◌≡◌, ℕ, ◌<◌, All, ℤ, pos, nat_abs, ◌==◌, ◌||◌, not, nat_le, int_lt, Bool, true, false, if◌then◌else◌, List, [], ◌∷◌, ◌++◌, length, Option, Some, None}
use Rattle.std.specs.List.{list_any}
use Rattle.packed_phaser.specs.{declared.policy.Policy.Policy, Flat.fresh}
use Rattle.tier_tree.specs.declared.{id.PhaserId.PhaserId, fault.DeclareFault.DeclareFault}
use Rattle.tier_tree.specs.Forest.{PhaserState, phaser_at, flat_at, root_of, root_at}
use Rattle.tier_tree.specs.Registration.{Join, joins, joined, is_overfull}
use Rattle.tier_tree.specs.declared.fault.DeclareFault.TheVariants as fault

-- the number that a fault is printed with
abbrev pub fault_number : DeclareFault → ℕ
fault_number fault.BadParties = 1
fault_number fault.TooMany = 2
fault_number fault.TooDeep = 3
fault_number fault.TooManyPhasers = 4
fault_number fault.PhaseOnChild = 5
fault_number fault.NoParent = 6
fault_number fault.Memory = 7

-- a phaser has 0 to 65535 parties
abbrev pub is_count : ℤ → Bool
is_count parties = not (int_lt parties (pos 0) || int_lt (pos 65535) parties)

-- what the declaration registers above: one party with the parent, if the new phaser has parties
abbrev pub joins_above : Option PhaserId → ℕ → List PhaserState → List Join
joins_above None parties phasers = []
joins_above (Some parent) parties phasers = if parties == 0 then [] else joins parent.0 1 phasers

-- whether there is such a parent, or none is asked for
abbrev pub has_parent : Option PhaserId → List PhaserState → Bool
has_parent None phasers = true
has_parent (Some parent) phasers = not (nat_le (length phasers) parent.0)

-- a child begins in its tree's phase, and its phase is given as 0
abbrev pub is_first_phase : Option PhaserId → ℕ → Bool
is_first_phase None phase = true
is_first_phase (Some parent) phase = phase == 0

-- whether it is a root that is declared
abbrev pub is_root : Option PhaserId → Bool
is_root None = true
is_root (Some parent) = false

-- the line of the parent, none for a root
abbrev pub line_above : Option PhaserId → List PhaserState → List ℕ
line_above None phasers = []
line_above (Some parent) phasers = (phaser_at phasers parent.0).line

-- the phase that the new phaser begins in
abbrev pub phase_below : Option PhaserId → ℕ → List PhaserState → ℕ
phase_below None phase phasers = phase
phase_below (Some parent) phase phasers = (flat_at phasers parent.0).phase

-- why a declaration is refused, except out of memory; the first case that holds
abbrev pub fault_of : Option PhaserId → ℤ → ℕ → List PhaserState → Option DeclareFault
fault_of parent parties phase phasers =
    if nat_le 64 (length phasers) then Some fault.TooManyPhasers
    else (if not (has_parent parent phasers) then Some fault.NoParent
    else (if not (is_count parties) then Some fault.BadParties
    else (if not (is_first_phase parent phase) then Some fault.PhaseOnChild
    else (if nat_le 8 (length (line_above parent phasers)) then Some fault.TooDeep
    else (if list_any (is_overfull phasers) (joins_above parent (nat_abs parties) phasers) then Some fault.TooMany
    else None)))))

-- the new phaser
abbrev pub declared : Option PhaserId → ℕ → Policy → ℕ → List PhaserState → PhaserState
declared parent parties policy phase phasers = record {
  line = length phasers ∷ line_above parent phasers;
  policy = policy;
  flat = fresh (phase_below parent phase phasers) parties;
  ends = 0;
}

-- the forest with the new phaser at its end, which then registers above
abbrev pub after_declaration : Option PhaserId → ℕ → Policy → ℕ → List PhaserState → List PhaserState
after_declaration parent parties policy phase phasers =
    let more = phasers ++ declared parent parties policy phase phasers ∷ [] in
    joined (joins_above parent parties more) more

-- at the start of a phase: no party has arrived, no phase end is pending, and the tree isn't terminated
abbrev pub IsFresh : PhaserState → Type 0
IsFresh phaser = phaser.flat ≡ fresh phaser.flat.phase phaser.flat.parties

-- all phasers are
abbrev pub AreAllFresh : List PhaserState → Type 0
AreAllFresh phasers = All IsFresh phasers

-- the phasers in the tree of this root are
abbrev pub IsFreshTree : ℕ → List PhaserState → Type 0
IsFreshTree root phasers = All (λ (p : PhaserState). root_of p ≡ root → IsFresh p) phasers

-- those in the tree of the parent are, if one is asked for and there is one
abbrev pub IsFreshAbove : Option PhaserId → List PhaserState → Type 0
IsFreshAbove parent phasers =
    (p : PhaserId) → parent ≡ Some p → p.0 < length phasers → IsFreshTree (root_at phasers p.0) phasers
