-- The part of a schedule that shows why there is no picture, in what a source gave.
use Rattle.std.proofs.Common.{◌≡◌, ◌∙◌, ◌≤◌, ◌++◌, ℕ, List, length, take, drop, ap, sym, subst, false, Option, Result, Err, IfErr, append_assoc, take-append-drop}
use Rattle.std.specs.Io.KnownBytes.{Consumes}
use Rattle.workbench.specs.{declared.fault.Fault.Fault, declared.fault.PictureKind.PictureKind, Fault.status_of}
use Rattle.workbench.specs.Input.{GivesFront, most_bytes}
use Rattle.commands.specs.Picture.{ShowsNone}

gives_front : (before given : List ℕ) (n : ℕ) (old new : Option (List ℕ)) → Consumes old new (before ++ given)
    → length (before ++ take n given) ≤ most_bytes → GivesFront old new (before ++ take n given) false
gives_front before given n old new consumed few =
    let split : before ++ given ≡ (before ++ take n given) ++ drop n given =
    ap (λ (t : List ℕ). before ++ t) (sym (take-append-drop n given)) ∙ sym (append_assoc before (take n given) (drop n given)) in
    (drop n given, (subst (λ (t : List ℕ). Consumes old new t) split consumed, few))

pub shows_front : {A : Type 0} (result : Result A Fault) (fault : Fault) (kind : PictureKind) (before given : List ℕ) (old new : Option (List ℕ))
    → result ≡ Err fault → Consumes old new (before ++ given)
    → (status_of fault ≡ 3 → (n : ℕ) × (ShowsNone kind fault (before ++ take n given) × (length (before ++ take n given) ≤ most_bytes)))
    → IfErr result (λ it. status_of it ≡ 3 → (front : List ℕ) × (GivesFront old new front false × ShowsNone kind it front))
shows_front result fault kind before given old new is consumed shows = subst
    (λ it. IfErr it (λ f. status_of f ≡ 3 → (front : List ℕ) × (GivesFront old new front false × ShowsNone kind f front))) (sym is)
    (λ three. let shown = shows three in
    (before ++ take shown.0 given, (gives_front before given shown.0 old new consumed shown.1.1, shown.1.0)))
