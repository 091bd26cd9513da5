-- What is told of a mistake, by the status of the call.
use Rattle.std.proofs.Common.{◌≡◌, ◌≢◌, ◌∙◌, inl, inr, ℕ, false, List, [], Some, Result, Ok, Err, IfErr, sym, arith, OnOk, Option}
use Rattle.commands.specs.{Unplanned.unplanned_status, declared.unplanned.Unplanned.Unplanned}
use Rattle.vuthgal_c.specs.{Beyond.SettlesUnplanned, Shows.HandsOver}

-- nothing is written but with status 3
pub silent : (answer : Result (Unit {0}) Unplanned) (status : ℕ) (before after : Option (List ℕ)) (Silent : Type 0)
    → OnOk answer Silent → IfErr answer (λ reason. unplanned_status reason ≢ 3 → Silent)
    → SettlesUnplanned answer status false before after → status ≢ 3 → Silent
silent (Ok done) status before after Silent right wrong settles other = right
silent (Err reason) status before after Silent right wrong settles other = wrong (λ three. other (settles.0 ∙ three))

-- what came is nothing if nothing came before, and no more after that
pub nothing_came : (now before : List ℕ) → Some now ≡ Some before → before ≡ [] → now ≡ []
nothing_came now before same empty = grind arith

-- with status 3 there is a reason
pub has_reason : (answer : Result (Unit {0}) Unplanned) (status : ℕ) (before after : Option (List ℕ)) (Reported : Unplanned → Type 0)
    → IfErr answer (λ reason. unplanned_status reason ≡ 3 → Reported reason)
    → SettlesUnplanned answer status false before after → status ≡ 3 → (reason : Unplanned) × Reported reason
has_reason (Ok done) status before after Reported wrong settles three = absurd (omega (arith, settles.0, three))
has_reason (Err reason) status before after Reported wrong settles three = (reason, wrong (sym settles.0 ∙ three))

-- a call that returns 3 came to the status 3: out of memory it returns 4
pub came_to_three : (status : ℕ) (output line : List ℕ) (answer : ℕ) (output_before output_after : List ℕ) (output_count : ℕ)
    (line_before line_after : List ℕ) (line_count : ℕ)
    → HandsOver status output line answer output_before output_after output_count line_before line_after line_count → answer ≡ 3 → status ≡ 3
came_to_three status output line answer ob oa oc lb la lc (inl handed) three = sym handed.0 ∙ three
came_to_three status output line answer ob oa oc lb la lc (inr lost) three = absurd (omega (arith, lost.0, three))
