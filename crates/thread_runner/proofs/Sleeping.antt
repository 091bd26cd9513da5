-- Workers that sleep and have to.
use Rattle.std.proofs.Common.{◌≡◌, ◌∙◌, ◌<◌, ◌==◌, ℕ, Bool, true, false, if◌then◌else◌, refl, ap, arith, length, Option, not, ◌&&◌}
use Rattle.std.proofs.lemmas.Bool.Decides.{nat_tests}
use Rattle.std.specs.List.{list_any, range_with_len}
use Rattle.cyclic_barrier.specs.ThreadSet.{has}
use Rattle.cyclic_barrier.proofs.WaitsLemmas.{has-none}
use Rattle.machine_scene.specs.ReadySet.{IsSetAt}
use Rattle.thread_machine.specs.World.{World}
use Rattle.thread_runner.specs.{declared.live.Break.Break, Waiting.some_wakes, Waiting.waits, Waiting.wakes}
use Rattle.thread_runner.proofs.Threads.{none_passes, one_passes}

-- nobody sleeps
none_wakes : (broken : Option Break) (world : World) (k : ℕ) → wakes broken world 0 k ≡ false
none_wakes broken world k = ap (λ b. b && not (waits broken world k)) (has-none k)

pub none_sleeps : (broken : Option Break) (world : World) (sleepers : ℕ) → sleepers ≡ 0 → some_wakes broken world sleepers ≡ false
none_sleeps broken world sleepers is = grind (arith, none_passes, none_wakes)

-- no worker wakes, so this one doesn't
fails_by : (passes : Bool) (test : ℕ → Bool) (many k : ℕ) → test k ≡ passes → list_any test (range_with_len 0 many) ≡ false → k < many
    → passes ≡ false
fails_by true test many k is none within = absurd (cc (none, one_passes test many k within is))
fails_by false test many k is none within = refl

-- a worker that is noted as it is doesn't wake
not_both : (one : Bool) → (one && not one) ≡ false
not_both true = refl
not_both false = refl

noted_by : (same within has_before waits_then : Bool) → (same ≡ true → within ≡ waits_then) → (has_before && not waits_then) ≡ false
    → ((if same then within else has_before) && not waits_then) ≡ false
noted_by true within has_before waits_then is before = ap (λ b. b && not waits_then) (is refl) ∙ not_both waits_then
noted_by false within has_before waits_then is before = before

waits_same : (broken : Option Break) (world : World) (thread k : ℕ) → (thread == k) ≡ true → waits broken world thread ≡ waits broken world k
waits_same broken world thread k same = grind (arith, nat_tests)

-- after a worker was noted, none wakes still
pub still_none_wakes : (broken : Option Break) (world : World) (thread before after : ℕ) (within : Bool)
    → some_wakes broken world before ≡ false → IsSetAt thread within before after → within ≡ waits broken world thread
    → some_wakes broken world after ≡ false
still_none_wakes broken world thread before after within none set is =
    none_passes (wakes broken world after) (length world.scene.threads) (λ k there.
    ap (λ b. b && not (waits broken world k)) (set k)
    ∙ noted_by (thread == k) within (has before k) (waits broken world k)
    (λ same. is ∙ waits_same broken world thread k same)
    (fails_by (wakes broken world before k) (wakes broken world before) (length world.scene.threads) k refl none there))
