-- Exchanges that are held after other exchanges.
use Rattle.std.proofs.Common.{◌≡◌, ◌≢◌, ◌≤◌, ◌+◌, ◌∙◌, ◌⊎◌, inl, inr, ℕ, Bool, true, false, List, [], ◌∷◌, ◌++◌, Option, Result, Ok, Err, IsTrue, refl, ap, sym, subst, length, append_assoc, length-append, arith}
use Rattle.std.proofs.KnownBytes.{Appends-nil, Appends-trans, Consumes-nil, Consumes-trans}
use Rattle.std.proofs.lemmas.{Grind.flat_map-append, List.flat_map_more}
use Rattle.std.proofs.lemmas.List.Elements.{All-nil, All-cons, All-append}
use Rattle.std.specs.{List.flat_map, Io.KnownBytes.Appends, Io.KnownBytes.Consumes, Io.KnownBytes.IsAtEnd}
use Rattle.trace_text.specs.RunText.{GivesOnAndOn}
use Rattle.debugger.specs.{Session.Session, Command.Order, Command.Quit, Command.goes_on, Command.line_order, Reply.IsCarriedOut, Reply.Replies}
use Rattle.debugger.specs.declared.session.reply.CommandFault.{CommandFault}
use Rattle.debugger.specs.declared.session.reply.CommandFault.TheVariants as command
use Rattle.workbench.specs.{declared.fault.Fault.Fault, Input.GivesInEach, Input.IsCounted}
use Rattle.workbench.specs.Debug.{Converses, Cut, Ending, Ends, Exchange, Finished, GivesFew, HasConversed, HasNoEnd, HasReadLines, IsDialogue, Unanswered, bytes_of}
use Rattle.workbench.specs.declared.fault.Fault.TheVariants as fault

-- what is read in some exchanges
abbrev pub lines_of : List Exchange → List ℕ
lines_of exchanges = flat_map (λ e. bytes_of e.line true) exchanges

-- what is written in them
abbrev pub replies_of : List Exchange → List ℕ
replies_of exchanges = flat_map (λ e. e.reply) exchanges

lines-push : (xs : List Exchange) (x : Exchange) → length (lines_of (xs ++ x ∷ [])) ≡ length (lines_of xs) + (length x.line + 1)
lines-push xs x =
    ap (λ (l : List ℕ). length l) (sym (flat_map_more (λ (e : Exchange). bytes_of e.line true) [] xs x))
    ∙ length-append (lines_of xs) (x.line ++ 10 ∷ [])
    ∙ ap (λ n. length (lines_of xs) + n) (length-append x.line (10 ∷ []))

-- the texts of exchanges after exchanges
in_a_row : (text : Exchange → List ℕ) (xs ys : List Exchange) (more : List ℕ)
    → flat_map text xs ++ (flat_map text ys ++ more) ≡ flat_map text (xs ++ ys) ++ more
in_a_row text xs ys more = grind (arith, append_assoc, flat_map-append)

dialogue_after : (xs ys : List Exchange) (before middle after : Session) → IsDialogue before xs middle → IsDialogue middle ys after
    → IsDialogue before (xs ++ ys) after
dialogue_after [] ys before middle after same more = subst (λ s. IsDialogue s ys after) same more
dialogue_after (x ∷ xs) ys before middle after held more = grind (arith, dialogue_after xs ys held.2.0 middle after held.2.1.1 more)

-- a dialogue was held, a read for each byte, and the session goes on with so many reads
pub record HasGoneOn (before now : Session) (commands_before commands_now output_before output_now : Option (List ℕ)) (reads : ℕ)
    : Type 0 where
  pub exchanges : List Exchange
  pub held : IsDialogue before exchanges now
  pub given : Consumes commands_before commands_now (lines_of exchanges)
  pub written : Appends output_before output_now (replies_of exchanges)
  pub counted : length (lines_of exchanges) + reads ≡ 1000000000

-- nothing was read yet
pub not_yet : (session : Session) (a x : Option (List ℕ)) → HasGoneOn session session a a x x 1000000000
not_yet session a x =
    record { exchanges = []; held = refl; given = Consumes-nil a; written = Appends-nil x; counted = omega arith }

-- an exchange more, in a read for each byte of its line
pub gone_on : (before now after : Session) (a b c x y z : Option (List ℕ)) (exchange : Exchange) (n m : ℕ)
    → HasGoneOn before now a b x y n → IsDialogue now (exchange ∷ []) after
    → Consumes b c (bytes_of exchange.line true) → Appends y z exchange.reply → length exchange.line + 1 + m ≡ n
    → HasGoneOn before after a c x z m
gone_on before now after a b c x y z exchange n m on held given written read =
    let counted = on.counted in
    record {
      exchanges = on.exchanges ++ exchange ∷ [];
      held = dialogue_after on.exchanges (exchange ∷ []) before now after on.held held;
      given = subst (Consumes a c) (flat_map_more (λ (e : Exchange). bytes_of e.line true) [] on.exchanges exchange)
          (Consumes-trans a b c (lines_of on.exchanges) (bytes_of exchange.line true) on.given given);
      written = subst (Appends x z) (flat_map_more (λ (e : Exchange). e.reply) [] on.exchanges exchange)
          (Appends-trans x y z (replies_of on.exchanges) exchange.reply on.written written);
      counted = omega (arith, counted, read, lines-push on.exchanges exchange);
    }

-- what comes after a dialogue
conversed_after : (ending : Ending) (before now : Session) (a b c x y z : Option (List ℕ)) (n : ℕ) → HasGoneOn before now a b x y n
    → HasConversed ending now b c y z → HasConversed ending before a c x z
conversed_after ending before now a b c x y z n on (exchanges, (after, (last, (is_ended, all)))) = (
  on.exchanges ++ exchanges,
  (
    after,
    (
      last,
      (
        is_ended,
        (
          dialogue_after on.exchanges exchanges before now after on.held all.0,
          all.1,
          all.2,
          subst (Consumes a c) (in_a_row (λ e. bytes_of e.line true) on.exchanges exchanges (bytes_of last.line is_ended))
              (Consumes-trans a b c (lines_of on.exchanges) (lines_of exchanges ++ bytes_of last.line is_ended) on.given all.3),
          subst (Appends x z) (in_a_row (λ e. e.reply) on.exchanges exchanges last.reply)
              (Appends-trans x y z (replies_of on.exchanges) (replies_of exchanges ++ last.reply) on.written all.4),
        ),
      ),
    ),
  ),
)

-- the session ends with its first line
ends_here : (ending : Ending) (session : Session) (a b x y : Option (List ℕ)) (line : List ℕ) (is_ended : Bool) (text : List ℕ)
    → HasNoEnd line → Ends ending session line is_ended text b → Consumes a b (bytes_of line is_ended) → Appends x y text
    → HasConversed ending session a b x y
ends_here ending session a b x y line is_ended text no_end ends given written =
    ([], (session, (record { line = line; reply = text }, (is_ended, (refl, no_end, ends, given, written)))))

-- nothing is written
unchanged : (x y : Option (List ℕ)) → y ≡ x → Appends x y []
unchanged x y same = subst (λ z. Appends x z []) (sym same) (Appends-nil x)

read_after : (before now : Session) (a b c x y : Option (List ℕ)) (n : ℕ) → HasGoneOn before now a b x y n → HasReadLines b c
    → HasReadLines a c
read_after before now a b c x y n on (bytes, (given, inl end)) =
    (lines_of on.exchanges ++ bytes, (Consumes-trans a b c (lines_of on.exchanges) bytes on.given given, inl end))
read_after before now a b c x y n on (bytes, (given, inr (front, is))) = (
  lines_of on.exchanges ++ bytes,
  (
    Consumes-trans a b c (lines_of on.exchanges) bytes on.given given,
    inr (
      lines_of on.exchanges ++ front,
      ap (λ l. lines_of on.exchanges ++ l) is ∙ sym (append_assoc (lines_of on.exchanges) front (10 ∷ [])),
    ),
  ),
)

-- all reads were used, in bytes of the lines before or of the last
on_and_on_after : (before now : Session) (a b c x y : Option (List ℕ)) (n : ℕ) → HasGoneOn before now a b x y n → GivesInEach n b c
    → GivesOnAndOn a c
on_and_on_after before now a b c x y n on more =
    let bytes = lines_of on.exchanges in
    let counted = on.counted in (
      bytes ++ more.0,
      (Consumes-trans a b c bytes more.0 on.given more.1.0, omega (arith, counted, more.1.1, length-append bytes more.0)),
    )

-- what a session comes to after a dialogue
pub converses_after : (answer : Result (Unit {0}) Fault) (before now : Session) (a b c x y z : Option (List ℕ)) (n : ℕ) (cf of : Bool)
    → HasGoneOn before now a b x y n → Converses (GivesInEach n b c) answer now b c cf y z of
    → Converses (GivesOnAndOn a c) answer before a c cf x z of
converses_after (Ok done) before now a b c x y z n cf of on came = conversed_after Finished before now a b c x y z n on came
converses_after (Err fault.Read) before now a b c x y z n cf of on (inl failed, came) =
    (inl failed, conversed_after Cut before now a b c x y z n on came)
converses_after (Err fault.Read) before now a b c x y z n cf of on (inr more, came) =
    (inr (on_and_on_after before now a b c x y n on more), conversed_after Cut before now a b c x y z n on came)
converses_after (Err fault.Memory) before now a b c x y z n cf of on came = conversed_after Unanswered before now a b c x y z n on came
converses_after (Err fault.Write) before now a b c x y z n cf of on (failed, lines) = (failed, read_after before now a b c x y n on lines)
converses_after (Err _) before now a b c x y z n cf of on came = absurd came

-- no read is left
pub reads_used : (before now : Session) (a b x y : Option (List ℕ)) (n : ℕ) (cf of : Bool) → n ≤ 0 → HasGoneOn before now a b x y n
    → Converses (GivesOnAndOn a b) (Err fault.Read) before a b cf x y of
reads_used before now a b x y n cf of none on =
    let counted = on.counted in (
      inr (lines_of on.exchanges, (on.given, omega (arith, none, counted))),
      conversed_after Cut before now a b b x y y n on
          (ends_here Cut now b b y y [] false [] (All-nil (λ byte. byte ≢ 10)) (refl, refl) (Consumes-nil b) (Appends-nil y)),
    )

-- no more than the reads
pub few_after : (before now : Session) (a b c x y : Option (List ℕ)) (n m : ℕ) → HasGoneOn before now a b x y n → IsCounted n m b c
    → GivesFew a c
few_after before now a b c x y n m on more =
    let bytes = lines_of on.exchanges in
    let counted = on.counted in (
      bytes ++ more.0,
      (Consumes-trans a b c bytes more.0 on.given more.1.0, omega (arith, counted, more.1.1, length-append bytes more.0)),
    )

pub few_so_far : (before now : Session) (a b x y : Option (List ℕ)) (n : ℕ) → HasGoneOn before now a b x y n → GivesFew a b
few_so_far before now a b x y n on = let counted = on.counted in (lines_of on.exchanges, (on.given, omega (arith, counted)))

pub none_given : (a b : Option (List ℕ)) → b ≡ a → GivesFew a b
none_given a b same = ([], (subst (λ c. Consumes a c []) (sym same) (Consumes-nil a), omega arith))

-- only `q` ends the session
is_quit : (order : Order) → goes_on order ≡ false → order ≡ Quit
is_quit order ends = grind arith

pub is_no_quit : (order : Order) → goes_on order ≡ true → order ≢ Quit
is_no_quit order goes = λ is. let ends : goes_on order ≡ false = ap (λ o. goes_on o) is in absurd (cc (goes, ends))

-- `q` has no reply
no_reply : (session after : Session) (order : Order) (text : List ℕ) → order ≡ Quit → Replies session order after text → text ≡ []
no_reply session after order text is replies = (subst (λ o. Replies session o after text) is replies).1

pub ends_without_a_line : (session : Session) (a b x y : Option (List ℕ)) (line : List ℕ) → line ≡ [] → Consumes a b line → IsAtEnd b
    → y ≡ x → HasConversed Finished session a b x y
ends_without_a_line session a b x y line none given end same =
    ends_here Finished session a b x y [] false [] (All-nil (λ byte. byte ≢ 10)) (refl, end) (subst (Consumes a b) none given)
    (unchanged x y same)

last_ends : (before after : Session) (left : Option (List ℕ)) (line text : List ℕ) → line ≢ [] → IsAtEnd left
    → Replies before (line_order line) after text → Ends Finished before line false text left
last_ends before after left line text some end replies = grind arith

pub ends_with_a_line : (before after : Session) (a b x y : Option (List ℕ)) (line text : List ℕ) → line ≢ [] → Consumes a b line
    → IsAtEnd b → HasNoEnd line → Replies before (line_order line) after text → Appends x y text
    → HasConversed Finished before a b x y
ends_with_a_line before after a b x y line text some given end no_end replies written =
    ends_here Finished before a b x y line false text no_end (last_ends before after b line text some end replies) given written

quit_line_ends : (session : Session) (left : Option (List ℕ)) (line text : List ℕ) → text ≡ [] → line_order line ≡ Quit
    → Ends Finished session line true text left
quit_line_ends session left line text none quit = grind arith

pub quits : (before after : Session) (a b x y : Option (List ℕ)) (line text : List ℕ) → Consumes a b (line ++ 10 ∷ [])
    → HasNoEnd line → goes_on (line_order line) ≡ false → Replies before (line_order line) after text → Appends x y text
    → HasConversed Finished before a b x y
quits before after a b x y line text given no_end ends replies written =
    let quit = is_quit (line_order line) ends in
    ends_here Finished before a b x y line true text no_end
    (quit_line_ends before b line text (no_reply before after (line_order line) text quit replies) quit) given written

-- the commands couldn't be read further, or there was no memory for them
pub cut_off : (f : Fault) (session : Session) (a b x y : Option (List ℕ)) (line : List ℕ) (n : ℕ) (cf of : Bool)
    → (f ≡ fault.Memory) ⊎ (f ≡ fault.Read) → HasNoEnd line → y ≡ x
    → (f ≡ fault.Memory → (part : List ℕ) × (HasNoEnd part × Consumes a b part))
    → (f ≡ fault.Read → (IsTrue cf ⊎ (n ≤ length line)) × Consumes a b line)
    → Converses (GivesInEach n a b) (Err f) session a b cf x y of
cut_off f session a b x y line n cf of (inl is) no_end same memory read =
    let (part, (none, given)) = memory is in
    subst (λ e. Converses (GivesInEach n a b) (Err e) session a b cf x y of) (sym is)
    (ends_here Unanswered session a b x y part false [] none refl given (unchanged x y same))
cut_off f session a b x y line n cf of (inr is) no_end same memory read =
    let (why, given) = read is in
    subst (λ e. Converses (GivesInEach n a b) (Err e) session a b cf x y of) (sym is) (
      elim why as (λ _. IsTrue cf ⊎ GivesInEach n a b) [ inl failed ↦ inl failed | inr many ↦ inr (line, (given, many)) ],
      ends_here Cut session a b x y line false [] no_end (refl, refl) given (unchanged x y same),
    )

-- one byte more
pub given_on : (a b c : Option (List ℕ)) (bytes : List ℕ) (byte : ℕ) → Consumes a b bytes → Consumes b c (byte ∷ [])
    → Consumes a c (bytes ++ byte ∷ [])
given_on a b c bytes byte given more = Consumes-trans a b c bytes (byte ∷ []) given more

pub one_more : (bytes : List ℕ) (byte : ℕ) → HasNoEnd bytes → byte ≢ 10 → HasNoEnd (bytes ++ byte ∷ [])
one_more bytes byte none other =
    All-append (λ b. b ≢ 10) bytes (byte ∷ []) none (All-cons (λ b. b ≢ 10) byte [] other (All-nil (λ b. b ≢ 10)))

-- what is so if a command was not carried out, or its reply not written
pub nothing_written : (wants : Type 0) (why : CommandFault) (session after : Session) (order : Order) (x y : Option (List ℕ)) (of : Bool)
    → why ≡ command.Memory → IsCarriedOut {A = Bool} wants (Err why) session order after x y of → y ≡ x
nothing_written wants command.Memory session after order x y of is carried = carried.2
nothing_written wants command.Write session after order x y of is carried = absurd (cc is)

pub output_failed : (wants : Type 0) (why : CommandFault) (session after : Session) (order : Order) (x y : Option (List ℕ)) (of : Bool)
    → why ≡ command.Write → IsCarriedOut {A = Bool} wants (Err why) session order after x y of → IsTrue of
output_failed wants command.Memory session after order x y of is carried = absurd (cc is)
output_failed wants command.Write session after order x y of is carried = carried.1

-- a line was read whose reply wasn't written
pub unanswered : (f : Fault) (session : Session) (a b x y : Option (List ℕ)) (line : List ℕ) (is_ended : Bool) (n : ℕ) (cf of : Bool)
    → ((f ≡ fault.Memory) × (y ≡ x)) ⊎ ((f ≡ fault.Write) × IsTrue of)
    → (is_ended ≡ true → Consumes a b (line ++ 10 ∷ [])) → (is_ended ≡ false → Consumes a b line × IsAtEnd b) → HasNoEnd line
    → Converses (GivesInEach n a b) (Err f) session a b cf x y of
unanswered f session a b x y line is_ended n cf of (inl (is, same)) whole last no_end =
    subst (λ e. Converses (GivesInEach n a b) (Err e) session a b cf x y of) (sym is) (left is_ended whole last)
  where
    left : (is_ended : Bool) → (is_ended ≡ true → Consumes a b (line ++ 10 ∷ [])) → (is_ended ≡ false → Consumes a b line × IsAtEnd b)
        → HasConversed Unanswered session a b x y
    left true whole last = ends_here Unanswered session a b x y line true [] no_end refl (whole refl) (unchanged x y same)
    left false whole last = ends_here Unanswered session a b x y line false [] no_end refl (last refl).0 (unchanged x y same)
unanswered f session a b x y line is_ended n cf of (inr (is, failed)) whole last no_end = grind arith
