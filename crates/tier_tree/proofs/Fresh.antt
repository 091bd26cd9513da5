-- Declarations leave all phasers as they began.
use Rattle.std.proofs.Common.{◌≡◌, ℕ, List, [], ◌∷◌, ◌++◌, sym, subst, arith}
use Rattle.std.proofs.lemmas.{Bool.cases_lt, List.get_or_past, List.Elements.All-set, List.Elements.All-push}
use Rattle.packed_phaser.specs.Flat.{Flat, fresh, register}
use Rattle.tier_tree.specs.{Forest.PhaserState, Forest.phaser_at, Forest.flat_at, Declaration.IsFresh, Declaration.AreAllFresh}
use Rattle.tier_tree.specs.Registration.{Join, joined, flat_by}

fresh_joined : (count : ℕ) (f : Flat) → f ≡ fresh f.phase f.parties
    → flat_by (register count f) f ≡ fresh (flat_by (register count f) f).phase (flat_by (register count f) f).parties
fresh_joined count f is = grind arith

fresh_at : (phasers : List PhaserState) (id : ℕ) → AreAllFresh phasers → IsFresh (phaser_at phasers id)
fresh_at phasers id all = grind (arith, cases_lt, get_or_past)

pub fresh_after_joins : (all : List Join) (phasers : List PhaserState) → AreAllFresh phasers → AreAllFresh (joined all phasers)
fresh_after_joins [] phasers fresh = fresh
fresh_after_joins (join ∷ others) phasers fresh =
    let after = joined others phasers in
    let now = fresh_after_joins others phasers fresh in
    All-set IsFresh after join.id
    (record (phaser_at after join.id) { flat = flat_by (register join.count (flat_at after join.id)) (flat_at after join.id) })
    (fresh_joined join.count (flat_at after join.id) (fresh_at after join.id now)) now

pub fresh_declared : (all : List Join) (phasers more after : List PhaserState) (new : PhaserState) → after ≡ joined all more
    → more ≡ phasers ++ new ∷ [] → IsFresh new → AreAllFresh phasers → AreAllFresh after
fresh_declared all phasers more after new is longer first fresh =
    subst AreAllFresh (sym is) (fresh_after_joins all more
    (subst AreAllFresh (sym longer) (All-push IsFresh phasers new fresh first)))
