-- A registration keeps the counts of who registered and arrived where.
use Rattle.std.proofs.Common.{inl, inr, ◌≡◌, ◌≢◌, ◌∙◌, ℕ, ℤ, ◌+◌, ◌<◌, ◌==◌, Bool, true, false, List, [], ◌∷◌, length, ap, refl, sym, subst, arith, if◌then◌else◌, ◌&&◌, ◌||◌, not, nat_lt, slice_index_or}
use Rattle.std.proofs.lemmas.Bool.{cases_eq, Decides.nat_tests}
use Rattle.std.specs.List.{list_any}
use Rattle.packed_phaser.specs.Flat.{Flat, is_empty, unarrived_of, register}
use Rattle.tier_tree.specs.declared.registered.Registered.{Registered}
use Rattle.tier_tree.specs.Forest.{PhaserState, no_phaser, phaser_at, flat_at, root_at, with_flat}
use Rattle.tier_tree.specs.Registration.{Join, joins, joins_along, joined, flat_by, is_overfull, is_turned, registration, registered_by}
use Rattle.tier_tree.specs.Sound.{Place, place_of, places_of, IsForest}
use Rattle.tier_tree.specs.Origin.{Origin, is_under, children, has_joined, is_awaited, IsTallied, AreTallied, registered_at, origin_after_registration}
use Rattle.tier_tree.specs.declared.registered.Registered.TheVariants as registered
use Rattle.tier_tree.proofs.{Lines.place_at-places, Lines.length-places, Lines.joined-places, Safe.line_own, Safe.root-parent}
use Rattle.tier_tree.proofs.Balance.{bit, IsOff, IsGood, Changes, AllGood, next-parent, put_same, put_apart, put_under, flat-put, flat-other, waiting, apart}
use Rattle.tier_tree.proofs.Stands.{root-same, good_of, steady_after, same-is, other-is}

or_false : (a b : Bool) → (a || b) ≡ false → (a ≡ false) × (b ≡ false)
or_false true b none = absurd (cc)
or_false false b none = (refl, none)

-- the phaser changes after those above, whose counts `mid` has
put_more : (count : ℕ) (phasers mid : List PhaserState) (i : ℕ) → i < length phasers → length mid ≡ length phasers → AllGood phasers
    → flat_at mid i ≡ flat_at phasers i → (flat_at phasers i).ended ≡ false → (flat_at phasers i).turned ≡ false
    → let after = with_flat mid i (record (flat_at phasers i) { parties = (flat_at phasers i).parties + count }) in
    children has_joined i after ≡ children has_joined i phasers → children is_awaited i after ≡ children is_awaited i phasers
    → ((id : ℕ) → id ≢ i → IsOff id 0 0 0 0 phasers after)
    → ((id : ℕ) → i < id → flat_at mid id ≡ flat_at phasers id)
    → ((id : ℕ) → (flat_at mid id).ended ≡ (flat_at phasers id).ended)
    → ((id : ℕ) → IsGood (root_at phasers id) id (flat_at phasers id) → IsGood (root_at phasers id) id (flat_at mid id))
    → Changes i count 0 count 0 phasers after
put_more count phasers mid i there many good kept live idle joined_same awaited_same others same ended goods = grind (arith, flat-put, flat-other, cases_eq, IsGood)

-- what the registration above has made of the counts
abbrev pub Above : List ℕ → List PhaserState → Type 0
Above [] phasers = Unit {0}
Above (q ∷ more) phasers =
    list_any (is_overfull phasers) (joins_along (q ∷ more) 1 phasers) ≡ false
    → list_any (is_turned phasers) (joins_along (q ∷ more) 1 phasers) ≡ false
    → Changes q 1 0 1 0 phasers (joined (joins_along (q ∷ more) 1 phasers) phasers)

-- the forest with more parties at one phaser, written as the joins write it
as_taken : (count : ℕ) (phasers mid : List PhaserState) (i : ℕ) → flat_at mid i ≡ flat_at phasers i → (flat_at phasers i).ended ≡ false → 0 < count
    → nat_lt 65535 ((flat_at phasers i).parties + count) ≡ false → (flat_at phasers i).turned ≡ false
    → flat_by (register count (flat_at mid i)) (flat_at mid i) ≡ record (flat_at phasers i) { parties = (flat_at phasers i).parties + count }
as_taken count phasers mid i kept live some room idle = grind arith

join_by : (empty : Bool) (above : List ℕ) (i count : ℕ) (phasers : List PhaserState) → IsForest phasers → i < length phasers
    → (phaser_at phasers i).line ≡ i ∷ above → AllGood phasers → (flat_at phasers i).ended ≡ false → 0 < count
    → is_empty (flat_at phasers i) ≡ empty → Above above phasers
    → let all : List Join = record { id = i; count = count } ∷ (if empty then joins_along above 1 phasers else []) in
    list_any (is_overfull phasers) all ≡ false → list_any (is_turned phasers) all ≡ false
    → Changes i count 0 count 0 phasers (joined all phasers)
join_by false above i count phasers sound there line good live some is_empty_is rest room idle = grind (arith, or_false, waiting, put_same, Changes, as_taken, put_more, flat-other)
join_by true [] i count phasers sound there line good live some is_empty_is rest room idle = grind (arith, or_false, Changes, as_taken, put_more, flat-other, put_apart)
join_by true (q ∷ more) i count phasers sound there line good live some is_empty_is rest room idle =
    let f = flat_at phasers i in
    let room_here : nat_lt 65535 (f.parties + count) ≡ false = (or_false _ _ room).0 in
    let idle_here : f.turned ≡ false = (or_false _ _ idle).0 in
    let new : Flat = record f { parties = f.parties + count } in
    let mid = joined (joins_along (q ∷ more) 1 phasers) phasers in
    let changes : Changes q 1 0 1 0 phasers mid =
    rest (or_false (is_overfull phasers (record { id = i; count = count })) (list_any (is_overfull phasers) (joins_along (q ∷ more) 1 phasers)) room).1
    (or_false (is_turned phasers (record { id = i; count = count })) (list_any (is_turned phasers) (joins_along (q ∷ more) 1 phasers)) idle).1 in
    let same = joined-places (joins_along (q ∷ more) 1 phasers) phasers in
    let many : length mid ≡ length phasers = sym (length-places mid) ∙ ap length same ∙ length-places phasers in
    let within : i < length mid = omega (arith, many, there) in
    let moved : (phaser_at mid i).line ≡ i ∷ q ∷ more =
    ap (λ (p : Place). p.line) (place_at-places mid i ∙ ap (λ (ps : List Place). slice_index_or ps i (place_of no_phaser)) same
    ∙ sym (place_at-places phasers i)) ∙ line in
    let below : q < i = (next-parent phasers i q more sound there line).0 in
    let kept : flat_at mid i ≡ f = changes.same i below in
    let not_parent : i ≢ q = λ is. absurd (omega (arith, is, below)) in
    let own_apart : is_under i (phaser_at mid i).line ≡ false = ap (is_under i) moved ∙ apart q i not_parent in
    let own_mid = changes.others i not_parent in
    let pm : (flat_at mid i).parties ≡ f.parties = ap (λ (x : Flat). x.parties) kept in
    let um : unarrived_of (flat_at mid i) ≡ unarrived_of f = ap unarrived_of kept in
    let mr = own_mid.registered in let mu = own_mid.unarrived in
    let j = put_apart has_joined i mid i new within own_apart in
    let w = put_apart is_awaited i mid i new within own_apart in
    let positive : 0 < new.parties = omega (arith, some) in
    let after = waiting new live idle_here positive in
    let joined_before : has_joined (flat_at mid i) ≡ false = ap has_joined kept ∙ ap not is_empty_is in
    let awaited_before : is_awaited (flat_at mid i) ≡ false = ap is_awaited kept ∙ ap (λ (e : Bool). not e && not f.turned) is_empty_is in
    subst (λ (x : Flat). Changes i count 0 count 0 phasers (with_flat mid i x))
    (sym (as_taken count phasers mid i kept live some room_here idle_here))
    (put_more count phasers mid i there many good kept live idle_here (omega (arith, j, pm, mr)) (omega (arith, w, um, mu))
    (λ id other.
    let away = flat-other mid i new id other in
    let p : (flat_at (with_flat mid i new) id).parties ≡ (flat_at mid id).parties = ap (λ (x : Flat). x.parties) away in
    let u : unarrived_of (flat_at (with_flat mid i new) id) ≡ unarrived_of (flat_at mid id) = ap unarrived_of away in
    elim (cases_eq id q) as (λ _. IsOff id 0 0 0 0 phasers (with_flat mid i new)) [
      | inl is ↦
          let under : is_under id (phaser_at mid i).line ≡ true = ap (is_under id) moved ∙ (grind (arith, nat_tests, is)) in
          let m : IsOff id 1 0 1 0 phasers mid = subst (λ (n : ℕ). IsOff n 1 0 1 0 phasers mid) (sym is) changes.own in
          let r1 = m.registered in let u1 = m.unarrived in
          let jq : children has_joined id (with_flat mid i new) + 0 ≡ children has_joined id mid + 1 =
          ap (λ (b : Bool). children has_joined id (with_flat mid i new) + bit b) (sym joined_before)
          ∙ put_under has_joined id mid i new within under ∙ ap (λ (b : Bool). children has_joined id mid + bit b) after.0 in
          let wq : children is_awaited id (with_flat mid i new) + 0 ≡ children is_awaited id mid + 1 =
          ap (λ (b : Bool). children is_awaited id (with_flat mid i new) + bit b) (sym awaited_before)
          ∙ put_under is_awaited id mid i new within under ∙ ap (λ (b : Bool). children is_awaited id mid + bit b) after.1 in
          record { registered = omega (arith, p, jq, r1); unarrived = omega (arith, u, wq, u1) }
      | inr not_it ↦
          let under : is_under id (phaser_at mid i).line ≡ false = ap (is_under id) moved ∙ apart q id not_it in
          let m = changes.others id not_it in
          let r1 = m.registered in let u1 = m.unarrived in
          let jq = put_apart has_joined id mid i new within under in
          let wq = put_apart is_awaited id mid i new within under in
          record { registered = omega (arith, p, jq, r1); unarrived = omega (arith, u, wq, u1) }
    ])
    (λ id above_it. changes.same id (omega (arith, below, above_it)))
    changes.ended changes.good)

-- the parties come to the first phaser of the line, and the phasers above stay balanced
pub join-changes : (above : List ℕ) (i count root : ℕ) (phasers : List PhaserState) → IsForest phasers → i < length phasers
    → (phaser_at phasers i).line ≡ i ∷ above → AllGood phasers
    → ((n : ℕ) → n < length phasers → root_at phasers n ≡ root → (flat_at phasers n).ended ≡ false) → root_at phasers i ≡ root → 0 < count
    → list_any (is_overfull phasers) (joins_along (i ∷ above) count phasers) ≡ false
    → list_any (is_turned phasers) (joins_along (i ∷ above) count phasers) ≡ false
    → Changes i count 0 count 0 phasers (joined (joins_along (i ∷ above) count phasers) phasers)
join-changes [] i count root phasers sound there line good live tree some =
    join_by (is_empty (flat_at phasers i)) [] i count phasers sound there line good (live i there tree) some refl tt
join-changes (q ∷ more) i count root phasers sound there line good live tree some =
    let parent = next-parent phasers i q more sound there line in
    let below : q < i = parent.0 in
    let within : q < length phasers = omega (arith, below, there) in
    let above_tree = sym (root-parent phasers i q sound within (line ∙ ap (λ (l : List ℕ). i ∷ l) (sym parent.1))) ∙ tree in
    join_by (is_empty (flat_at phasers i)) (q ∷ more) i count phasers sound there line good (live i there tree) some refl
    (join-changes more q 1 root phasers sound within parent.1 good live above_tree (omega arith))

-- parties who came to one phaser
stands_joined : (phasers after : List PhaserState) (origin : Origin) (id count : ℕ) → IsForest phasers → AreTallied phasers origin
    → places_of after ≡ places_of phasers → Changes id count 0 count 0 phasers after → AreTallied after (registered_at id count origin)
stands_joined phasers after origin id count sound stands same changes =
    let many : length after ≡ length phasers = sym (length-places after) ∙ ap length same ∙ length-places phasers in
    let other : Origin = registered_at id count origin in
    record {
      steady = steady_after phasers after origin sound stands same changes.ended changes.good;
      tallied = λ n here clean live.
          let root = root-same phasers after n same in
          let before = stands.tallied n (omega (arith, many, here)) (ap origin.stray (sym root) ∙ clean) (sym (changes.ended n) ∙ live) in
          let tr = before.registered in let tu = before.unarrived in let tw = before.within in
          elim (cases_eq n id) as (λ _. IsTallied other n after) [
            | inl own ↦
                let off : IsOff n count 0 count 0 phasers after = subst (λ (m : ℕ). IsOff m count 0 count 0 phasers after) (sym own) changes.own in
                let r = off.registered in let u = off.unarrived in
                let is : (n == id) ≡ true = ap (λ (m : ℕ). m == id) own ∙ same-is id in
                let ro : other.registered n ≡ origin.registered n + count = ap (λ (t : Bool). if t then origin.registered n + count else origin.registered n) is in
                let uo : other.unarrived n ≡ origin.unarrived n + count = ap (λ (t : Bool). if t then origin.unarrived n + count else origin.unarrived n) is in
                record { registered = omega (arith, r, tr, ro); unarrived = omega (arith, u, tu, uo); within = omega (arith, tw, ro, uo) }
            | inr other_one ↦
                let off = changes.others n other_one in
                let r = off.registered in let u = off.unarrived in
                let is : (n == id) ≡ false = other-is n id other_one in
                let ro : other.registered n ≡ origin.registered n = ap (λ (t : Bool). if t then origin.registered n + count else origin.registered n) is in
                let uo : other.unarrived n ≡ origin.unarrived n = ap (λ (t : Bool). if t then origin.unarrived n + count else origin.unarrived n) is in
                record { registered = omega (arith, r, tr, ro); unarrived = omega (arith, u, tu, uo); within = omega (arith, tw, ro, uo) }
          ];
    }

-- a registration's joins, whether there are parties or none
joins_changes : (none : Bool) (id count : ℕ) (phasers : List PhaserState) (origin : Origin) → IsForest phasers → id < length phasers
    → AreTallied phasers origin → (flat_at phasers id).ended ≡ false → (count == 0) ≡ none
    → let all : List Join = if none then [] else joins_along (phaser_at phasers id).line count phasers in
    list_any (is_overfull phasers) all ≡ false → list_any (is_turned phasers) all ≡ false
    → Changes id count 0 count 0 phasers (joined all phasers)
joins_changes true id count phasers origin sound there stands live is = grind (arith, nat_tests)
joins_changes false id count phasers origin sound there stands live is =
    let own = line_own phasers id sound there in
    let some : 0 < count = grind (arith, nat_tests, is) in
    let P : List ℕ → Type 0 = λ (l : List ℕ). list_any (is_overfull phasers) (joins_along l count phasers) ≡ false
    → list_any (is_turned phasers) (joins_along l count phasers) ≡ false → Changes id count 0 count 0 phasers (joined (joins_along l count phasers) phasers) in
    let live_tree : (n : ℕ) → n < length phasers → root_at phasers n ≡ root_at phasers id → (flat_at phasers n).ended ≡ false =
    λ n here tree. (stands.steady n here).tree ∙ ap (λ (m : ℕ). (flat_at phasers m).ended) tree ∙ sym (stands.steady id there).tree ∙ live in
    subst P (sym own.1) (join-changes own.0 id count (root_at phasers id) phasers sound there own.1 (good_of phasers origin stands) live_tree refl some)

by_answer : (ended over turned : Bool) (id count : ℕ) (phasers : List PhaserState) (origin : Origin) (view phase : ℤ) → AreTallied phasers origin
    → (flat_at phasers id).ended ≡ ended → list_any (is_overfull phasers) (joins id count phasers) ≡ over
    → list_any (is_turned phasers) (joins id count phasers) ≡ turned
    → ((flat_at phasers id).ended ≡ false → list_any (is_overfull phasers) (joins id count phasers) ≡ false
    → list_any (is_turned phasers) (joins id count phasers) ≡ false
    → AreTallied (joined (joins id count phasers) phasers) (registered_at id count origin))
    → let answer : Registered = if ended then registered.Dead view else (if over then registered.TooMany
    else (if turned then registered.Held else registered.At phase)) in
    AreTallied (registered_by answer (joins id count phasers) phasers) (origin_after_registration answer id count origin)
by_answer true over turned id count phasers origin view phase stands is_ended is_over is_held through = stands
by_answer false _ turned id count phasers origin view phase stands is_ended is_over is_held through = grind arith

-- a registration
pub stands_registered : (id count : ℕ) (phasers after : List PhaserState) (origin : Origin) (answer : Registered) → IsForest phasers → id < length phasers
    → answer ≡ registration id count phasers → after ≡ registered_by (registration id count phasers) (joins id count phasers) phasers
    → AreTallied phasers origin → AreTallied after (origin_after_registration answer id count origin)
stands_registered id count phasers after origin answer sound there answer_is is stands = grind (arith, by_answer, stands_joined, joined-places, joins_changes)
