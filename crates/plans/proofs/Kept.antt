-- The run's own choices, one more at a time.
use Rattle.std.proofs.Common.{◌≡◌, ◌∙◌, ◌+◌, ◌<◌, ◌≤◌, ℕ, List, length, get_or, drop, ap, sym}
use Rattle.std.proofs.lemmas.List.{drop_all, drop_more}
use Rattle.thread_machine.specs.declared.choice.Choice.{Choice}
use Rattle.plans.specs.{Progress.Progress, Others.all_kept, Others.kept}

-- those that are left lead to where all lead
pub next_kept : (choices : List Choice) (i : ℕ) (d : Choice) (before after all : Progress) → i < length choices
    → all_kept (drop i choices) before ≡ all → after ≡ kept (get_or choices i d) before
    → all_kept (drop (i + 1) choices) after ≡ all
unfolding all_kept
next_kept choices i d before after all there so is =
    ap (all_kept (drop (i + 1) choices)) is ∙ sym (ap (λ rest. all_kept rest before) (drop_more choices i d there)) ∙ so

pub done_kept : (choices : List Choice) (i : ℕ) (progress all : Progress) → length choices ≤ i
    → all_kept (drop i choices) progress ≡ all → progress ≡ all
unfolding all_kept
done_kept choices i progress all enough so = sym (ap (λ rest. all_kept rest progress) (drop_all i choices enough)) ∙ so
