-- Look-ups one behind the other: what they give where all of them find something.
use Rattle.std.proofs.Common.{◌≡◌, Bool, true, false, ◌&&◌, List, [], ◌∷◌, ◌++◌, Option, Some, None, cond, Result, Ok, refl, arith, IfOk, is_some}
use Rattle.std.specs.List.{cons_option}

-- what was found is used
pub found_used : {A B : Type 0} (f : A → B) (known : Bool) (x found : A) → Some found ≡ cond known (Some x) None →
    Some (f found) ≡ cond known (Some (f x)) None
found_used f true x found e = cc
found_used f false x found e = absurd (cc)

-- a look-up that uses what those before it found
pub two_found : {A : Type 0} (f : A → A) (first rest : Bool) (x found : A) (last : Option A) → Some found ≡ cond rest (Some x) None →
    last ≡ cond first (Some (f found)) None → last ≡ cond (first && rest) (Some (f x)) None
two_found f true true x found last p q = cc
two_found f false true x found last p q = q
two_found f first false x found last p q = absurd (cc)

-- and one look-up before it
pub one_found : {A : Type 0} (known : Bool) (x found : A) → Some found ≡ cond known (Some x) None →
    Some found ≡ cond (known && true) (Some x) None
one_found true x found p = p
one_found false x found p = p

-- where those before found nothing, nothing is made of it
pub none_behind : {A B : Type 0} (first second rest : Bool) (x : A) (y : B) → None ≡ cond rest (Some x) None →
    None ≡ cond (first && (second && rest)) (Some y) None
none_behind first second true x y e = absurd (cc)
none_behind true true false x y e = refl
none_behind true false false x y e = refl
none_behind false second false x y e = refl

-- what was found stands behind the others
pub found_behind : {A E : Type 0} (before after : List A) (known : Bool) (x : A) (found : Option A) (told : Result Bool E) →
    found ≡ cond known (Some x) None → IfOk told (λ some. some ≡ is_some found) →
    IfOk told (λ some. after ≡ before ++ cons_option found []) → told ≡ Ok true → after ≡ before ++ x ∷ []
found_behind before after known x found told is some pushed was = grind arith
