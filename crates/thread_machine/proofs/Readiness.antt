-- Which choices are idle, and whether some choice may take a step.
use Rattle.std.proofs.Common.{◌≡◌, ◌∙◌, ◌+◌, ◌<◌, ℕ, Bool, true, false, get_or, arith, refl, sym, ap, subst, ◌||◌, length, Option, Some, None, is_some, IfSome}
use Rattle.std.proofs.lemmas.List.FromFn.{length-range_with_len, get_or-range_with_len}
use Rattle.std.proofs.lemmas.List.Folds.{list_any_at, list_any_none}
use Rattle.std.specs.List.{range_with_len}
use Rattle.loader.specs.Program.{Program}
use Rattle.machine_scene.specs.{Scene.Scene, Outcomes.is_ready}
use Rattle.thread_machine.specs.{declared.choice.Choice.Choice, World.World, Step.played, Step.idled}
use Rattle.thread_machine.specs.Ready.{is_choice_ready, can_expire, can_go_on, some_ready}

-- a choice without an outcome is idle
pub idle_choice : (world : World) (choice : Choice) → is_choice_ready world.program choice world.scene ≡ false
    → played world choice ≡ idled world
idle_choice world choice idle = grind arith

-- one number more that fails the test
pub one_more : (test : ℕ → Bool) (t : ℕ) → ((k : ℕ) → k < t → test k ≡ false) → test t ≡ false
    → (k : ℕ) → k < t + 1 → test k ≡ false
one_more test t before now k within = grind arith

-- the numbers below this one, in order
nth : (many k d : ℕ) → k < many → get_or (range_with_len 0 many) k d ≡ k
nth many k d within = grind (arith, get_or-range_with_len)

-- a thread that can go on
pub one_ready : (program : Program) (t : ℕ) (scene : Scene) → t < length scene.threads → can_go_on program scene t ≡ true
    → some_ready program scene ≡ true
one_ready program t scene there ready =
    let many = length scene.threads in
    list_any_at (can_go_on program scene) (range_with_len 0 many) t 0 (subst (λ n. t < n) (sym (length-range_with_len 0 many)) there)
    (ap (can_go_on program scene) (nth many t 0 there) ∙ ready)

-- no thread can
pub none_ready : (program : Program) (scene : Scene) → ((k : ℕ) → k < length scene.threads → can_go_on program scene k ≡ false)
    → some_ready program scene ≡ false
none_ready program scene none = grind (arith, list_any_none, length-range_with_len, nth)

-- a thread whose turn is ready
pub ready_some : (program : Program) (scene : Scene) (told : Option ℕ) → is_some told ≡ true → IfSome told (λ t. t < length scene.threads)
    → IfSome told (λ t. is_ready t program scene ≡ true) → some_ready program scene ≡ true
ready_some program scene None is there ready = absurd (cc is)
ready_some program scene (Some t) is there ready = one_ready program t scene there (ap (λ (x : Bool). x || can_expire t program scene) ready)

-- nobody is told of
pub nobody_told : (told : Option ℕ) → is_some told ≡ false → told ≡ None
nobody_told told is = grind arith

-- a thread whose wait can run out
pub by_expiry : (ready expires : Bool) → expires ≡ true → (ready || expires) ≡ true
by_expiry true expires is = refl
by_expiry false expires is = is

-- one that has neither
pub neither : (ready expires : Bool) → ready ≡ false → expires ≡ false → (ready || expires) ≡ false
neither true expires first second = absurd (cc first)
neither false expires first second = second
