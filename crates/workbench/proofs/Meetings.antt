-- What callers made when they met, and what the closed word tells of it.
use Rattle.std.proofs.Common.{◌≡◌, ◌∙◌, ◌⊎◌, inl, inr, ◌+◌, ◌-◌, ◌<◌, ◌≤◌, ℕ, zero, suc, ℤ, false, List, [], ◌∷◌, ◌++◌, All, Ok, Err, Result, length, get_or, arith, sym, ap, subst, append_assoc, append-nil, length-append, IfOk, IfErr, flat_map, map}
use Rattle.std.proofs.lemmas.List.{get_or-map, get_or_default, length-map, map-append, Concat.flat_map-append}
use Rattle.std.proofs.lemmas.List.{Elements.All-push, FromFn.get_or-range_with_len, FromFn.length-range_with_len}
use Rattle.std.specs.List.{range_with_len}
use Rattle.shared_phaser.specs.declared.history.{Call.TheVariants.Arrive, Call.TheVariants.Await, Reply.Reply, Entry.Entry}
use Rattle.shared_phaser.specs.declared.history.Reply.TheVariants.{Counted, Dead, NotThere}
use Rattle.shared_phaser.specs.declared.history.{Answer.TheVariants.Replied, Answer.TheVariants.Passed, Kept.Kept, Setup.Setup}
use Rattle.shared_phaser.specs.{declared.history.Known.Known, History.IsLegal, History.at_end, History.calls_by}
use Rattle.shared_phaser.specs.Known.{ArrivesAndAwaits, Caller, EndsAs, IsApart, IsWhole, JoinsCaller, MakesCall, phaser_of}
use Rattle.workbench.specs.Race.{AreMeetings, HasMet, IsFinal, IsMeeting, number_of, opening_of}

-- one number more
counting_on : (from many : ℕ) → range_with_len from (many + 1) ≡ range_with_len from many ++ (from + many) ∷ []
counting_on from zero = grind arith
counting_on from (suc many) = grind (arith, counting_on (from + 1) many)

-- one caller more, with the next number
pub numbered : (callers after : List Caller) (caller : Caller) (many : ℕ) → after ≡ callers ++ caller ∷ []
    → map number_of callers ≡ range_with_len 1 many → caller.known.number ≡ many + 1
    → map number_of after ≡ range_with_len 1 (many + 1)
numbered callers after caller many is before last = grind (arith, map-append, counting_on)

-- an element goes over from the one list to the other
pub moved_on : {H : Type 0} (number : H → ℕ) (hs after : List H) (h : H) (n : ℕ) (left rest total : List ℕ)
    → after ≡ hs ++ h ∷ [] → number h ≡ n → left ≡ n ∷ rest → map number hs ++ left ≡ total → map number after ++ rest ≡ total
moved_on number hs after h n left rest total more is first before = grind (arith, map-append, append_assoc)

-- a caller that stands for nobody else is joined
abbrev pub kept_of : Known → Kept
kept_of k = record { number = k.number; calls = k.calls }

pub joined_more : (k other l : Known) → JoinsCaller k other l → other.joined ≡ [] → l.joined ≡ k.joined ++ kept_of other ∷ []
joined_more k other l joins none = grind arith

pub met_in : (n rounds many : ℕ) (other : Known) → other.number ≡ n → rounds ≡ many → AreMeetings n rounds other.calls
    → AreMeetings other.number many other.calls
met_in n rounds many other number is met =
    subst (λ r. AreMeetings other.number r other.calls) is (subst (λ m. AreMeetings m rounds other.calls) (sym number) met)

-- what a caller knows after one meeting more
pub record MeetsOnce (before after : Known) : Type 0 where
  pub number : after.number ≡ before.number
  pub joined : after.joined ≡ before.joined
  pub meeting : List Entry
  pub meets : IsMeeting before.number meeting
  pub calls : after.calls ≡ before.calls ++ meeting

by_one_call : (k l : Known) (reply : Reply) → ((phase : ℤ) → reply ≡ Counted phase → ⊥)
    → MakesCall k (Arrive false) (Replied reply) l → MeetsOnce k l
by_one_call k l reply other made = grind arith

by_two_calls : (k m l : Known) (phase view : ℤ) → MakesCall k (Arrive false) (Replied (Counted phase)) m
    → MakesCall m (Await phase) (Passed view) l → MeetsOnce k l
by_two_calls k m l phase view arrived passed = grind (arith, append_assoc)

pub met_once : {E : Type 0} (result : Result ℤ E) (k l : Known) → IfOk result (λ view. ArrivesAndAwaits k view l)
    → IfErr result (λ _. MakesCall k (Arrive false) (Replied NotThere) l) → MeetsOnce k l
met_once (Ok view) k l (inl late) refused = by_one_call k l (Dead view) (λ phase is. absurd (cc is)) late
met_once (Ok view) k l (inr (phase, m, arrived, passed)) refused = by_two_calls k m l phase view arrived passed
met_once (Err e) k l made refused = by_one_call k l NotThere (λ phase is. absurd (cc is)) refused

-- no meeting yet, and one more
pub met_more : (before now after : Caller) (rounds : ℕ) → HasMet before rounds now → phaser_of after ≡ phaser_of now
    → MeetsOnce now.known after.known → HasMet before (rounds + 1) after
met_more before now after rounds (phaser, (number, (joined, (meetings, (many, (each, calls)))))) same once =
    let meets : IsMeeting before.known.number once.meeting = subst (λ n. IsMeeting n once.meeting) number once.meets in
    let last : flat_map (λ (meeting : List Entry). meeting) (once.meeting ∷ []) ≡ once.meeting = append-nil once.meeting in (
      same ∙ phaser,
      (
        once.number ∙ number,
        (
          once.joined ∙ joined,
          (
            meetings ++ once.meeting ∷ [],
            (
              omega (arith, many, length-append meetings (once.meeting ∷ [])),
              (
                All-push (IsMeeting before.known.number) meetings once.meeting each meets,
                once.calls ∙ ap (λ cs. cs ++ once.meeting) calls
                    ∙ ap (λ m. flat_map (λ (meeting : List Entry). meeting) meetings ++ m) (sym last)
                    ∙ sym (flat_map-append (λ (meeting : List Entry). meeting) meetings (once.meeting ∷ [])),
              ),
            ),
          ),
        ),
      ),
    )

-- what the first caller knows that all others were joined into
pub record HasGathered (parties rounds : ℕ) (k : Known) : Type 0 where
  pub number : k.number ≡ 0
  pub splits : k.splits ≡ parties
  pub calls : k.calls ≡ []
  pub numbers : map (λ (x : Kept). x.number) k.joined ≡ range_with_len 1 parties
  pub met : All (λ (x : Kept). AreMeetings x.number rounds x.calls) k.joined

module _ (parties rounds word : ℕ) (k : Known) (opening : k.opening ≡ opening_of parties) (gathered : HasGathered parties rounds k)
    (ends : EndsAs k word) where
  many : length k.joined ≡ parties
  many =
      sym (length-map k.joined (λ (x : Kept). x.number)) ∙ ap (λ (ns : List ℕ). length ns) gathered.numbers
      ∙ length-range_with_len 1 parties

  number_at : (i : ℕ) (d : Kept) → i < length k.joined → (get_or k.joined i d).number ≡ 1 + i
  number_at i d within =
      let there : i < parties = omega (arith, within, many) in
      sym (get_or-map (λ (x : Kept). x.number) k.joined i d 0 within) ∙ ap (λ ns. get_or ns i 0) gathered.numbers
      ∙ get_or-range_with_len 1 parties i 0 there

  nobody : Kept
  nobody = record { number = 0; calls = [] }

  whole : IsWhole k
  whole n some few =
      let within : n - 1 < length k.joined = omega (arith, some, few, many, gathered.splits) in
      let x = get_or k.joined (n - 1) nobody in
      let same : get_or k.joined (n - 1) x ≡ x = get_or_default k.joined (n - 1) x nobody within in
      let is : x.number ≡ n = omega (arith, some, number_at (n - 1) nobody within) in
      (n - 1, x, within, same, is)

  pub met_by : (n : ℕ) → 0 < n → n ≤ parties → AreMeetings n rounds (calls_by n ends.log)
  met_by n some few =
      let within : n - 1 < length k.joined = omega (arith, some, few, many) in
      let x = get_or k.joined (n - 1) nobody in
      let is : x.number ≡ n = omega (arith, some, number_at (n - 1) nobody within) in
      let kept : calls_by x.number ends.log ≡ x.calls = ends.owns.kept (n - 1) nobody within in
      subst (λ m. AreMeetings m rounds (calls_by m ends.log)) is
      (subst (AreMeetings x.number rounds) (sym kept) (gathered.met (n - 1) nobody within))

  apart : (n : ℕ) → parties < n → IsApart k n
  apart n beyond = (
    λ is. absurd (omega (arith, is, beyond, gathered.number)),
    λ i d within is. absurd (omega (arith, is, beyond, within, many, number_at i d within)),
  )

  none_by : (n : ℕ) → (n ≡ 0) ⊎ (parties < n) → calls_by n ends.log ≡ []
  none_by n (inl is) = ap (λ m. calls_by m ends.log) (is ∙ sym gathered.number) ∙ ends.owns.own ∙ gathered.calls
  none_by n (inr beyond) = ends.whole whole n (apart n beyond)

  pub final : IsFinal parties rounds word
  final = record {
    log = ends.log;
    legal = subst (λ (o : Setup). IsLegal o ends.log) opening ends.legal;
    now = ends.now ∙ ap (λ (o : Setup). at_end o ends.log) opening;
    met = met_by;
    others = none_by;
  }
