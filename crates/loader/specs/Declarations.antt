-- What the declarations of an image mean.
use Rattle.std.specs.Prelude.{◌≡◌, ℕ, pos, nat_abs, false, List, [], length, take, fold, slice_index_or, Option, None, is_some, unwrap_or}
use Rattle.std.specs.Option.{option_map}
use Rattle.packed_phaser.specs.declared.policy.Policy.{Policy}
use Rattle.packed_phaser.specs.declared.policy.Policy.TheVariants as policy
use Rattle.tier_tree.specs.declared.{id.PhaserId.PhaserId, fault.DeclareFault.DeclareFault}
use Rattle.tier_tree.specs.{Forest.PhaserState, Forest.phaser_at, Origin.Origin, Origin.AreTallied}
use Rattle.tier_tree.specs.Declaration.{AreAllFresh, fault_of, after_declaration}
use Rattle.tier_tree.specs.Stored.{Stored, phasers_of}
use Rattle.cyclic_barrier.specs.Barrier.{BarrierState, fresh}
use Rattle.row_code.specs.declared.phasers.{DeclaredPolicy.DeclaredPolicy, DeclaredPhaser.DeclaredPhaser}
use Rattle.row_code.specs.declared.barriers.DeclaredBarrier.{DeclaredBarrier}
use Rattle.row_code.specs.declared.phasers.DeclaredPolicy.TheVariants as declared

-- the policy of a phaser; the first row of its routine is stored beside it
abbrev pub policy_of : DeclaredPolicy → Policy
policy_of declared.Default = policy.Default
policy_of declared.Never = policy.Never
policy_of (declared.Until phase) = policy.Until phase
policy_of (declared.Routine row) = policy.Routine

-- the first row of a phaser's routine, or 0 if it has none
abbrev pub row_in : DeclaredPolicy → ℕ
row_in declared.Default = 0
row_in declared.Never = 0
row_in (declared.Until phase) = 0
row_in (declared.Routine row) = row

abbrev pub routine_row : DeclaredPhaser → ℕ
routine_row phaser = row_in phaser.policy

-- the parent, if a phaser has one
abbrev pub parent_of : DeclaredPhaser → Option PhaserId
parent_of phaser = option_map (λ n. record { 0 = n }) phaser.parent

-- why a phaser can't be declared after these, if it can't
abbrev pub declare_fault : List PhaserState → DeclaredPhaser → Option DeclareFault
declare_fault forest phaser =
    fault_of (parent_of phaser) (pos phaser.parties) (nat_abs phaser.first_phase) forest

-- the forest with one more phaser
abbrev pub with_phaser : List PhaserState → DeclaredPhaser → List PhaserState
with_phaser forest phaser =
    after_declaration (parent_of phaser) phaser.parties (policy_of phaser.policy)
    (nat_abs phaser.first_phase) forest

-- the forest of these phasers, declared one after the other
abbrev pub forest_of : List DeclaredPhaser → List PhaserState
forest_of phasers = fold with_phaser [] phasers

-- a phaser that no image has
abbrev pub no_phaser : DeclaredPhaser
no_phaser = record { parent = None; policy = declared.Default; parties = 0; first_phase = pos 0 }

-- as many parties as a phaser declares are registered with it directly, all are still to arrive, and
-- nobody who isn't registered has arrived
abbrev pub declared_origin : List DeclaredPhaser → Origin
declared_origin phasers = record {
  registered = λ id. (slice_index_or phasers id no_phaser).parties;
  unarrived = λ id. (slice_index_or phasers id no_phaser).parties;
  stray = λ id. false;
}

-- a new barrier
abbrev pub new_barrier : DeclaredBarrier → BarrierState
new_barrier barrier = fresh barrier.parties (is_some barrier.action)

-- the first row of a barrier's action, or 0 if it has none
abbrev pub action_row : DeclaredBarrier → ℕ
action_row barrier = unwrap_or barrier.action 0

-- the forest of the first n of these phasers, before its first use
pub record AreDeclared (n : ℕ) (phasers : List DeclaredPhaser) (forest : List Stored) : Type 0 where
  pub shown : phasers_of forest ≡ forest_of (take n phasers)
  pub many : length forest ≡ n
  pub fresh : AreAllFresh (phasers_of forest)
  pub ends : (id : ℕ) → (phaser_at (phasers_of forest) id).ends ≡ 0
  pub origin : AreTallied (phasers_of forest) (declared_origin phasers)
