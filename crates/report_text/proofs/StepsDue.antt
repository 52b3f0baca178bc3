-- Parts whose texts are those due are steps of a run, with the answers that are due.
use Rattle.std.proofs.Common.{◌≡◌, ℕ, zero, suc, ◌+◌, ◌-◌, ◌^◌, ◌<◌, ◌≤◌, true, false, ◌&&◌, List, [], ◌∷◌, ◌++◌, length, map, drop, Option, Some, None, refl, sym, ap, ap₂, subst, ◌∙◌, arith, append_assoc, append-nil}
use Rattle.std.specs.Prelude.{nat_lt}
use Rattle.std.specs.List.{AllByRecursion, flat_map}
use Rattle.std.proofs.lemmas.Bool.{and_parts, and_from}
use Rattle.std.proofs.lemmas.Bool.Decides.{nat_tests}
use Rattle.mc_base.specs.declared.refusal.Refusal.{Refusal}
use Rattle.board_model.specs.declared.scenario.CallLine.{CallLine}
use Rattle.board_model.specs.LinkedBoard.{Differ}
use Rattle.board_model.specs.State.{DomainState}
use Rattle.board_model.specs.Answer.{answer, puts}
use Rattle.board_model.specs.Turn.{IsTurn, after_turn}
use Rattle.board_model.specs.Labels as labels
use Rattle.board_model.specs.Journal.{PlainAnswer, refuses, agrees, PlainEntry, turned, put, again, waits, called, Line, again_line, spin_line, put_line, wait_line, call_line}
use Rattle.board_model.specs.JournalParts.{Part, idles, spins, tries, turn_of, wait_of, call_of, part_lines, part_entries, IsCount}
use Rattle.board_model.specs.Step.{RunState, HasNoPuts, next_line, call_at, is_tried_word, may_try, tries_again, limit_of, MayCome, EndsWait, Allowed, effect_of_line, after}
use Rattle.board_model.specs.Run.{Leads, after_all}
use Rattle.board_model.specs.Report.{line_text}
use Rattle.board_model.proofs.JournalReading.{put_entries}
use Rattle.board_model.proofs.WaitCalls.{wait-untried}
use Rattle.report_text.specs.TextLines.{moved}
use Rattle.report_text.specs.StepPass.{due_call, other_than, idle_visits, idle_place, before_last, spin_due, part_place, texts_of, step_place}
use Rattle.report_text.specs.RightRuns.{answered, with_answer, with_answers}
use Rattle.report_text.proofs.NothingWrong.{none-moved, none-either}
use Rattle.report_text.proofs.TurnsDue.{Sound, sound-call, cons-parts}
use Rattle.report_text.proofs.TurnsTold.{turn-told, idle-told}
use Rattle.report_text.proofs.LinesTold.{bare, IsSmall, Tell, tell-bare, tell-texts, texts-same, tell-take, tell-drop}
use Rattle.report_text.proofs.CallsDue.{put_lines, said, DueCall, none_due, again_due, call_due, wait_due, end_due, due-is, due-small, next-below}

-- ---- entries that are steps, but for answers

-- the answer that is due has the text of the one that is told
abbrev pub ReadsSo : List CallLine → RunState → PlainEntry → Type 0
ReadsSo script r (called k a) = line_text (call_line k (answered (next_line script r) r a)) ≡ line_text (call_line k a)
ReadsSo script r other = Unit {0}

abbrev pub Due : List CallLine → RunState → List PlainEntry → Type 0
Due script r [] = Unit {0}
Due script r (e ∷ es) = Allowed script r (with_answer script r e) × ReadsSo script r e × Due script (after script r e) es

pub after-answer : (script : List CallLine) (r : RunState) (e : PlainEntry) → after script r (with_answer script r e) ≡ after script r e
after-answer script r (turned vs) = refl
after-answer script r (put p frame) = refl
after-answer script r (again word) = refl
after-answer script r (waits k) = refl
after-answer script r (called k a) = refl

pub due-leads : (script : List CallLine) (r : RunState) (es : List PlainEntry) → Due script r es → Leads script r (with_answers script r es) (after_all script r es)
due-leads script r [] due = refl
due-leads script r (e ∷ es) due = (after script r e, record { allowed = due.0; leads = sym (after-answer script r e) }, due-leads script (after script r e) es due.2)

pub all-after : (script : List CallLine) (r : RunState) (xs ys : List PlainEntry) → after_all script r (xs ++ ys) ≡ after_all script (after_all script r xs) ys
all-after script r [] ys = refl
all-after script r (x ∷ xs) ys = all-after script (after script r x) xs ys

due-append : (script : List CallLine) (r : RunState) (xs ys : List PlainEntry) → Due script r xs → Due script (after_all script r xs) ys → Due script r (xs ++ ys)
due-append script r [] ys front back = back
due-append script r (x ∷ xs) ys front back = (front.0, front.1, due-append script (after script r x) xs ys front.2 back)

-- ---- lists of put lines and another line

abbrev IsNoPut : Line → Type 0
IsNoPut (put_line p frame) = ⊥
IsNoPut other = Unit {0}

put-parts : (p q : ℕ) (f g : List ℕ) → put_line p f ≡ put_line q g → (p ≡ q) × (f ≡ g)
put-parts p q f g e = (cc, cc)

puts-split : (ps qs : List (ℕ × List ℕ)) (x y : Line) → IsNoPut x → IsNoPut y → put_lines ps ++ x ∷ [] ≡ put_lines qs ++ y ∷ [] → (ps ≡ qs) × (x ≡ y)
puts-split [] [] x y a b e = (refl, (cons-parts x y [] [] e).0)
puts-split [] (q ∷ qs) x y a b e = absurd (subst IsNoPut (cons-parts x (put_line q.0 q.1) [] (put_lines qs ++ y ∷ []) e).0 a)
puts-split (p ∷ ps) [] x y a b e = absurd (subst IsNoPut (sym (cons-parts (put_line p.0 p.1) y (put_lines ps ++ x ∷ []) [] e).0) b)
puts-split (p ∷ ps) (q ∷ qs) x y a b e =
    let one = cons-parts (put_line p.0 p.1) (put_line q.0 q.1) (put_lines ps ++ x ∷ []) (put_lines qs ++ y ∷ []) e in
    let same = put-parts p.0 q.0 p.1 q.1 one.0 in
    let rest = puts-split ps qs x y a b one.1 in
    (ap₂ (λ (z : ℕ × List ℕ) (zs : List (ℕ × List ℕ)). z ∷ zs) (ap₂ (λ (n : ℕ) (f : List ℕ). (n, f)) same.0 same.1) rest.0, rest.1)

bare-puts : (ps : List (ℕ × List ℕ)) (x : Line) → map bare (put_lines ps ++ x ∷ []) ≡ put_lines ps ++ bare x ∷ []
bare-puts [] x = refl
bare-puts (p ∷ ps) x = ap (λ ls. put_line p.0 p.1 ∷ ls) (bare-puts ps x)

some-left : (ps : List (ℕ × List ℕ)) (x : Line) → put_lines ps ++ x ∷ [] ≡ [] → ⊥
some-left [] x e = absurd cc
some-left (p ∷ ps) x e = absurd cc

-- the texts of two calls behind the same puts
answer-text : (ps qs : List (ℕ × List ℕ)) (k n : ℕ) (a b : PlainAnswer) → ps ≡ qs → k ≡ n → map line_text (put_lines ps ++ call_line k a ∷ []) ≡ map line_text (put_lines qs ++ call_line n b ∷ []) → line_text (call_line k b) ≡ line_text (call_line k a)
answer-text ps qs k n a b same number e = sym (last-text ps (e ∙ sym (ap₂ (λ (xs : List (ℕ × List ℕ)) (m : ℕ). map line_text (put_lines xs ++ call_line m b ∷ [])) same number)))
  where
    last-text : (xs : List (ℕ × List ℕ)) → map line_text (put_lines xs ++ call_line k a ∷ []) ≡ map line_text (put_lines xs ++ call_line k b ∷ []) → line_text (call_line k a) ≡ line_text (call_line k b)
    last-text [] e = (cons-parts (line_text (call_line k a)) (line_text (call_line k b)) [] [] e).0
    last-text (x ∷ xs) e = last-text xs (cons-parts (line_text (put_line x.0 x.1)) (line_text (put_line x.0 x.1)) (map line_text (put_lines xs ++ call_line k a ∷ [])) (map line_text (put_lines xs ++ call_line k b ∷ [])) e).1

call-number : (k n : ℕ) → call_line k agrees ≡ call_line n agrees → k ≡ n
call-number k n e = cc

try-word : (v w : Refusal) → again_line v ≡ again_line w → v ≡ w
try-word v w e = cc

wait-number : (k n : ℕ) → wait_line k ≡ wait_line n → k ≡ n
wait-number k n e = cc

spin-word : (m n : ℕ) (v w : Refusal) → spin_line m v ≡ spin_line n w → v ≡ w
spin-word m n v w e = cc

-- a part as the first pass finds it
abbrev pub Fits : List ℕ → Part → Type 0
Fits peers (idles n) = IsCount n
Fits peers (spins n word) = IsCount n
Fits peers (turn_of vs) = map (λ v. v.peer) vs ≡ peers
Fits peers other = Unit {0}

-- ---- what holds between the parts of a run

pub record Going (peers : List ℕ) (script : List CallLine) (r : RunState) : Type 0 where
  pub sound : Sound peers r.state
  pub settled : HasNoPuts r.put_since_turn
  pub within : r.lines_called ≤ length script

module _ (peers : List ℕ) (few : AllByRecursion (λ n. n < 2 ^ 8) peers) (differ : Differ peers) (script : List CallLine) (short : length script < 2 ^ 32) where
  abbrev Part-is : RunState → Part → Type 0
  Part-is r p = Due script r (part_entries peers p) × Going peers script (after_all script r (part_entries peers p))

  -- ---- a call

  called-going : (r : RunState) (line : CallLine) (k : ℕ) (a : PlainAnswer) → Sound peers r.state → next_line script r ≡ Some line → Going peers script (after script r (called k a))
  called-going r line k a h next = record {
    sound = subst (λ o. Sound peers (effect_of_line o r)) (sym next) (sound-call peers r.state line.node (call_at r line) h);
    settled = tt;
    within = next-below script r line next;
  }

  -- the puts before a call, behind those before them
  puts-due : (r : RunState) (xs ps : List (ℕ × List ℕ)) (es : List PlainEntry) → Due script (record r { put_since_turn = Some (xs ++ ps) }) es → Due script (record r { put_since_turn = Some xs }) (put_entries ps ++ es)
  puts-due r xs [] es due = subst (λ ys. Due script (record r { put_since_turn = Some ys }) es) (append-nil xs) due
  puts-due r xs (p ∷ ps) es due = (refl, tt, puts-due r (xs ++ p ∷ []) ps es (subst (λ ys. Due script (record r { put_since_turn = Some ys }) es) (sym (append_assoc xs (p ∷ []) ps)) due))

  puts-after : (r : RunState) (xs ps : List (ℕ × List ℕ)) (e : PlainEntry) → after_all script (record r { put_since_turn = Some xs }) (put_entries ps ++ e ∷ []) ≡ after script (record r { put_since_turn = Some (xs ++ ps) }) e
  puts-after r xs [] e = ap (λ ys. after script (record r { put_since_turn = Some ys }) e) (sym (append-nil xs))
  puts-after r xs (p ∷ ps) e = puts-after r (xs ++ p ∷ []) ps e ∙ ap (λ ys. after script (record r { put_since_turn = Some ys }) e) (append_assoc xs (p ∷ []) ps)

  call-made : (r : RunState) (line : CallLine) (ps : List (ℕ × List ℕ)) (k : ℕ) (a : PlainAnswer) → Sound peers r.state → next_line script r ≡ Some line → limit_of line.call ≡ None → r.put_since_turn ≡ Some [] → tries_again line r (said r line) ≡ false → ps ≡ puts r.state line.node (call_at r line) → k ≡ r.lines_called + 1 → line_text (call_line k (said r line)) ≡ line_text (call_line k a) → Part-is r (call_of ps k a)
  call-made r line ps k a h next limit settled once puts_are number text =
      let told : RunState = record r { put_since_turn = Some ps } in
      let same : record r { put_since_turn = Some [] } ≡ r = ap (λ o. record r { put_since_turn = o }) (sym settled) in
      let answer_is : answered (next_line script told) told a ≡ said r line = ap (λ o. answered o told a) next in
      let come : MayCome (limit_of line.call) told line = subst (λ o. MayCome o told line) (sym limit) (ap Some puts_are) in
      let one : Due script told (called k a ∷ []) = ((line, next, number, answer_is, come, ap (tries_again line told) answer_is ∙ once), ap (λ x. line_text (call_line k x)) answer_is ∙ text, tt) in (
        subst (λ q. Due script q (put_entries ps ++ called k a ∷ [])) same (puts-due r [] ps (called k a ∷ []) one),
        subst (Going peers script) (sym (puts-after r [] ps (called k a)) ∙ ap (λ q. after_all script q (put_entries ps ++ called k a ∷ [])) same) (called-going told line k a h next),
      )

  wait-made : (r : RunState) (line : CallLine) (limit : ℕ) (ps : List (ℕ × List ℕ)) (k : ℕ) (a : PlainAnswer) → Going peers script r → next_line script r ≡ Some line → limit_of line.call ≡ Some limit → EndsWait limit (said r line) r.waited → ps ≡ [] → k ≡ r.lines_called + 1 → line_text (call_line k (said r line)) ≡ line_text (call_line k a) → Part-is r (call_of ps k a)
  wait-made r line limit ps k a h next is ends none number text =
      let answer_is : answered (next_line script r) r a ≡ said r line = ap (λ o. answered o r a) next in
      let come : MayCome (limit_of line.call) r line = subst (λ o. MayCome o r line) (sym is) (h.settled, ends) in
      let once : tries_again line r (said r line) ≡ false = ap (λ b. b && may_try line.tries r.calls_made) (wait-untried r line limit is) in
      let one : Due script r (called k a ∷ []) = ((line, next, number, answer_is, come, ap (tries_again line r) answer_is ∙ once), ap (λ x. line_text (call_line k x)) answer_is ∙ text, tt) in
      subst (λ qs. Part-is r (call_of qs k a)) (sym none) (one, called-going r line k a h.sound next)

  call-told : (r : RunState) (ps : List (ℕ × List ℕ)) (k : ℕ) (a : PlainAnswer) → Going peers script r → (due : List Line) → DueCall script r due → map bare (put_lines ps ++ call_line k a ∷ []) ≡ map bare due → map line_text (put_lines ps ++ call_line k a ∷ []) ≡ map line_text due → Part-is r (call_of ps k a)
  call-told r ps k a h due (none_due is) e texts = absurd (some-left ps (call_line k agrees) (sym (bare-puts ps (call_line k a)) ∙ e ∙ ap (map bare) is))
  call-told r ps k a h due (again_due line word next settled told more is) e texts =
      let split = puts-split ps [] (call_line k agrees) (again_line word) tt tt (sym (bare-puts ps (call_line k a)) ∙ e ∙ ap (map bare) is) in
      let no : call_line k agrees ≡ again_line word = split.1 in
      absurd cc
  call-told r ps k a h due (call_due line next limit settled once is) e texts =
      let qs : List (ℕ × List ℕ) = puts r.state line.node (call_at r line) in
      let split = puts-split ps qs (call_line k agrees) (call_line (r.lines_called + 1) agrees) tt tt (sym (bare-puts ps (call_line k a)) ∙ e ∙ ap (map bare) is ∙ bare-puts qs (call_line (r.lines_called + 1) (said r line))) in
      let number = call-number k (r.lines_called + 1) split.1 in
      call-made r line ps k a h.sound next limit settled once split.0 number (answer-text ps qs k (r.lines_called + 1) a (said r line) split.0 number (texts ∙ ap (map line_text) is))
  call-told r ps k a h due (wait_due line next wait late not_begun is) e texts =
      let split = puts-split ps [] (call_line k agrees) (wait_line (r.lines_called + 1)) tt tt (sym (bare-puts ps (call_line k a)) ∙ e ∙ ap (map bare) is) in
      let no : call_line k agrees ≡ wait_line (r.lines_called + 1) = split.1 in
      absurd cc
  call-told r ps k a h due (end_due line limit next wait ends is) e texts =
      let split = puts-split ps [] (call_line k agrees) (call_line (r.lines_called + 1) agrees) tt tt (sym (bare-puts ps (call_line k a)) ∙ e ∙ ap (map bare) is) in
      let number = call-number k (r.lines_called + 1) split.1 in
      wait-made r line limit ps k a h next wait ends split.0 number (answer-text ps [] k (r.lines_called + 1) a (said r line) split.0 number (texts ∙ ap (map line_text) is))

  -- ---- a try, and a wait that begins

  try-told : (r : RunState) (word : Refusal) → Going peers script r → (due : List Line) → DueCall script r due → again_line word ∷ [] ≡ map bare due → Part-is r (tries word)
  try-told r word h due (none_due is) e = let no : again_line word ∷ [] ≡ [] = e ∙ ap (map bare) is in absurd cc
  try-told r word h due (again_due line w next settled told more is) e =
      let same : word ≡ w = try-word word w (cons-parts (again_line word) (again_line w) [] [] (e ∙ ap (map bare) is)).0 in
      (((line, next, ap refuses same ∙ told, settled, ap (λ v. tries_again line r (refuses v)) same ∙ more), tt, tt), record { sound = h.sound; settled = tt; within = h.within })
  try-told r word h due (call_due line next limit settled once is) e =
      let qs : List (ℕ × List ℕ) = puts r.state line.node (call_at r line) in
      let split = puts-split [] qs (again_line word) (call_line (r.lines_called + 1) agrees) tt tt (e ∙ ap (map bare) is ∙ bare-puts qs (call_line (r.lines_called + 1) (said r line))) in
      let no : again_line word ≡ call_line (r.lines_called + 1) agrees = split.1 in
      absurd cc
  try-told r word h due (wait_due line next wait late not_begun is) e =
      let no : again_line word ≡ wait_line (r.lines_called + 1) = (cons-parts (again_line word) (wait_line (r.lines_called + 1)) [] [] (e ∙ ap (map bare) is)).0 in
      absurd cc
  try-told r word h due (end_due line limit next wait ends is) e =
      let no : again_line word ≡ call_line (r.lines_called + 1) agrees = (cons-parts (again_line word) (call_line (r.lines_called + 1) agrees) [] [] (e ∙ ap (map bare) is)).0 in
      absurd cc

  wait-told : (r : RunState) (k : ℕ) → Going peers script r → (due : List Line) → DueCall script r due → wait_line k ∷ [] ≡ map bare due → Part-is r (wait_of k)
  wait-told r k h due (none_due is) e = let no : wait_line k ∷ [] ≡ [] = e ∙ ap (map bare) is in absurd cc
  wait-told r k h due (again_due line w next settled told more is) e =
      let no : wait_line k ≡ again_line w = (cons-parts (wait_line k) (again_line w) [] [] (e ∙ ap (map bare) is)).0 in
      absurd cc
  wait-told r k h due (call_due line next limit settled once is) e =
      let qs : List (ℕ × List ℕ) = puts r.state line.node (call_at r line) in
      let split = puts-split [] qs (wait_line k) (call_line (r.lines_called + 1) agrees) tt tt (e ∙ ap (map bare) is ∙ bare-puts qs (call_line (r.lines_called + 1) (said r line))) in
      let no : wait_line k ≡ call_line (r.lines_called + 1) agrees = split.1 in
      absurd cc
  wait-told r k h due (wait_due line next wait late not_begun is) e =
      let same : k ≡ r.lines_called + 1 = wait-number k (r.lines_called + 1) (cons-parts (wait_line k) (wait_line (r.lines_called + 1)) [] [] (e ∙ ap (map bare) is)).0 in
      (((line, next, same, wait, late, h.settled, not_begun), tt, tt), record { sound = h.sound; settled = h.settled; within = h.within })
  wait-told r k h due (end_due line limit next wait ends is) e =
      let no : wait_line k ≡ call_line (r.lines_called + 1) agrees = (cons-parts (wait_line k) (call_line (r.lines_called + 1) agrees) [] [] (e ∙ ap (map bare) is)).0 in
      absurd cc

  -- ---- idle turns, and tries that each follow one

  record Idle (s : DomainState) : Type 0 where
    turn : IsTurn s (idle_visits peers)
    keeps : after_turn s (idle_visits peers) ≡ s
    sound : Sound peers s

  idles-due : (n : ℕ) (r : RunState) → Going peers script r → Idle r.state → Part-is r (idles n)
  idles-due zero r h idle = (tt, h)
  idles-due (suc n) r h idle =
      let next : RunState = after script r (turned (idle_visits peers)) in
      let kept : Idle next.state = subst Idle (sym idle.keeps) idle in
      let rest = idles-due n next (record { sound = kept.sound; settled = refl; within = h.within }) kept in
      (((h.settled, idle.turn), tt, rest.0), rest.1)

  record Tried (word : Refusal) (r : RunState) (n : ℕ) (s : DomainState) : Type 0 where
    idle : Idle s
    line : CallLine
    next : next_line script r ≡ Some line
    told : refuses word ≡ answer s line.node (labels.call_of r.labels s line.call)
    is_word : is_tried_word word ≡ true
    most : ℕ
    tries_are : line.tries ≡ Some most
    few_made : r.calls_made + n ≤ most - 1

  spins-due : (word : Refusal) (n : ℕ) (r : RunState) → Going peers script r → Tried word r n r.state → Part-is r (spins n word)
  spins-due word zero r h t = (tt, h)
  spins-due word (suc n) r h t =
      let one : RunState = after script r (turned (idle_visits peers)) in
      let two : RunState = after script one (again word) in
      let kept : Tried word r (suc n) one.state = subst (Tried word r (suc n)) (sym t.idle.keeps) t in
      let under = kept.few_made in
      let less : r.calls_made + 1 < kept.most = omega (arith, under) in
      let test : nat_lt (r.calls_made + 1) kept.most ≡ true = grind (arith, nat_tests) in
      let more : tries_again kept.line one (refuses word) ≡ true = and_from (is_tried_word word) (may_try kept.line.tries r.calls_made) kept.is_word (ap (λ o. may_try o r.calls_made) kept.tries_are ∙ test) in
      let rest = spins-due word n two (record { sound = kept.idle.sound; settled = tt; within = h.within }) (record { idle = kept.idle; line = kept.line; next = kept.next; told = kept.told; is_word = kept.is_word; most = kept.most; tries_are = kept.tries_are; few_made = omega (arith, under) }) in
      (((h.settled, t.idle.turn), tt, ((kept.line, kept.next, kept.told, refl, more), tt, rest.0)), rest.1)

  idle-is : (r : RunState) → Going peers script r → idle_place peers r ≡ None → Idle r.state
  idle-is r h none = let told = idle-told peers few differ r.state h.sound r refl none in record { turn = told.0; keeps = told.1; sound = h.sound }

  spin-puts : (n : ℕ) (qs : List (ℕ × List ℕ)) (k : ℕ) (a : PlainAnswer) → spin_due n (put_lines qs ++ call_line k a ∷ []) ≡ put_lines qs ++ call_line k a ∷ []
  spin-puts n [] k a = refl
  spin-puts n (q ∷ qs) k a = refl

  may-more : (n made : ℕ) (o : Option ℕ) → 1 ≤ n → may_try o (made + (n - 1)) ≡ true → (most : ℕ) × (o ≡ Some most) × (made + n ≤ most - 1)
  may-more n made None some e = absurd cc
  may-more n made (Some most) some e = let test : nat_lt (made + (n - 1) + 1) most ≡ true = e in let less : made + (n - 1) + 1 < most = grind (arith, nat_tests) in (most, refl, omega (arith, less, some))

  -- what is due before the last of so many tries
  spin-told : (n : ℕ) (word : Refusal) (r : RunState) → IsCount n → Going peers script r → Idle r.state → (due : List Line) → DueCall script (before_last script peers n r) due → (AllByRecursion IsSmall (spin_due n due) → spin_line n word ∷ [] ≡ map bare (spin_due n due)) → AllByRecursion IsSmall due → Part-is r (spins n word)
  spin-told n word r count h idle due (none_due is) e small =
      let no : spin_line n word ∷ [] ≡ [] = subst (λ d. (AllByRecursion IsSmall (spin_due n d) → spin_line n word ∷ [] ≡ map bare (spin_due n d))) is e tt in
      absurd cc
  spin-told n word r count h idle due (again_due line w next settled told more is) e small =
      let few_turns : n < 2 ^ 64 = omega (arith, count.1) in
      let lines : spin_line n word ∷ [] ≡ spin_line n w ∷ [] = subst (λ d. (AllByRecursion IsSmall (spin_due n d) → spin_line n word ∷ [] ≡ map bare (spin_due n d))) is e (few_turns, tt) in
      let same : word ≡ w = spin-word n n word w (cons-parts (spin_line n word) (spin_line n w) [] [] lines).0 in
      let parts = and_parts (is_tried_word w) (may_try line.tries (r.calls_made + (n - 1))) more in
      let most = may-more n r.calls_made line.tries count.0 parts.1 in
      spins-due word n r h (record {
        idle = idle;
        line = line;
        next = next;
        told = ap refuses same ∙ subst (λ s. refuses w ≡ answer s line.node (labels.call_of r.labels s line.call)) idle.keeps told;
        is_word = ap is_tried_word same ∙ parts.0;
        most = most.0;
        tries_are = most.1;
        few_made = most.2;
      })
  spin-told n word r count h idle due (call_due line next limit settled once is) e small =
      let b : RunState = before_last script peers n r in
      let qs : List (ℕ × List ℕ) = puts b.state line.node (call_at b line) in
      let spun : spin_due n due ≡ put_lines qs ++ call_line (b.lines_called + 1) (said b line) ∷ [] = ap (spin_due n) is ∙ spin-puts n qs (b.lines_called + 1) (said b line) in
      let lines = e (subst (AllByRecursion IsSmall) (is ∙ sym spun) small) in
      let split = puts-split [] qs (spin_line n word) (call_line (b.lines_called + 1) agrees) tt tt (lines ∙ ap (map bare) spun ∙ bare-puts qs (call_line (b.lines_called + 1) (said b line))) in
      let no : spin_line n word ≡ call_line (b.lines_called + 1) agrees = split.1 in
      absurd cc
  spin-told n word r count h idle due (wait_due line next wait late not_begun is) e small =
      let lines : spin_line n word ∷ [] ≡ wait_line (r.lines_called + 1) ∷ [] = subst (λ d. AllByRecursion IsSmall d → (AllByRecursion IsSmall (spin_due n d) → spin_line n word ∷ [] ≡ map bare (spin_due n d)) → spin_line n word ∷ [] ≡ wait_line (r.lines_called + 1) ∷ []) (sym is) (λ sm k. k sm) small e in
      let no : spin_line n word ≡ wait_line (r.lines_called + 1) = (cons-parts (spin_line n word) (wait_line (r.lines_called + 1)) [] [] lines).0 in
      absurd cc
  spin-told n word r count h idle due (end_due line limit next wait ends is) e small =
      let lines : spin_line n word ∷ [] ≡ call_line (r.lines_called + 1) agrees ∷ [] = subst (λ d. AllByRecursion IsSmall d → (AllByRecursion IsSmall (spin_due n d) → spin_line n word ∷ [] ≡ map bare (spin_due n d)) → spin_line n word ∷ [] ≡ call_line (r.lines_called + 1) agrees ∷ []) (sym is) (λ sm k. k sm) small e in
      let no : spin_line n word ≡ call_line (r.lines_called + 1) agrees = (cons-parts (spin_line n word) (call_line (r.lines_called + 1) agrees) [] [] lines).0 in
      absurd cc

  -- ---- a part, and parts one after the other

  small-now : (r : RunState) → Going peers script r → AllByRecursion IsSmall (due_call script r)
  small-now r h = due-small peers few script short r h.sound (due_call script r) (due-is script r h.settled)

  pub part-told : (p : Part) (r : RunState) (ts : List (List ℕ)) → Going peers script r → Fits peers p → Tell ts (part_lines p) → part_place script peers r p ts ≡ None → Part-is r p
  part-told (idles n) r ts h fit tell none = idles-due n r h (idle-is r h none)
  part-told (spins n word) r ts h fit tell none =
      let parts = none-either (idle_place peers r) (other_than (spin_due n (due_call script (before_last script peers n r))) ts) none in
      let idle = idle-is r h parts.0 in
      let b : RunState = before_last script peers n r in
      let sound : Sound peers b.state = subst (Sound peers) (sym idle.keeps) h.sound in
      let due : DueCall script b (due_call script b) = due-is script b refl in
      spin-told n word r fit h idle (due_call script b) due (λ small. tell-bare ts (spin_line n word ∷ []) (spin_due n (due_call script b)) tell parts.1 small) (due-small peers few script short b sound (due_call script b) due)
  part-told (tries word) r ts h fit tell none = try-told r word h (due_call script r) (due-is script r h.settled) (tell-bare ts (again_line word ∷ []) (due_call script r) tell none (small-now r h))
  part-told (turn_of vs) r ts h fit tell none =
      let turn = turn-told peers few differ r.state h.sound vs ts fit tell none in
      (((h.settled, turn.0), tt, tt), record { sound = turn.1; settled = refl; within = h.within })
  part-told (wait_of k) r ts h fit tell none = wait-told r k h (due_call script r) (due-is script r h.settled) (tell-bare ts (wait_line k ∷ []) (due_call script r) tell none (small-now r h))
  part-told (call_of ps k a) r ts h fit tell none = call-told r ps k a h (due_call script r) (due-is script r h.settled) (tell-bare ts (put_lines ps ++ call_line k a ∷ []) (due_call script r) tell none (small-now r h)) (sym (tell-texts ts (put_lines ps ++ call_line k a ∷ []) tell) ∙ texts-same ts (map line_text (due_call script r)) none)

  pub parts-told : (ps : List Part) (r : RunState) (ts : List (List ℕ)) → Going peers script r → AllByRecursion (Fits peers) ps → Tell ts (flat_map part_lines ps) → step_place script peers r ps ts ≡ None → Due script r (flat_map (part_entries peers) ps) × Going peers script (after_all script r (flat_map (part_entries peers) ps))
  parts-told [] r ts h fit tell none = (tt, h)
  parts-told (p ∷ ps) r ts h fit tell none =
      let next : RunState = after_all script r (part_entries peers p) in
      let parts = none-either (part_place script peers r p (texts_of p ts)) (moved (length (part_lines p)) (step_place script peers next ps (drop (length (part_lines p)) ts))) none in
      let one = part-told p r (texts_of p ts) h fit.0 (tell-take ts (part_lines p) (flat_map part_lines ps) tell) parts.0 in
      let rest = parts-told ps next (drop (length (part_lines p)) ts) one.1 fit.1 (tell-drop ts (part_lines p) (flat_map part_lines ps) tell) (none-moved (length (part_lines p)) (step_place script peers next ps (drop (length (part_lines p)) ts)) parts.1) in (
        due-append script r (part_entries peers p) (flat_map (part_entries peers) ps) one.0 rest.0,
        subst (Going peers script) (sym (all-after script r (part_entries peers p) (flat_map (part_entries peers) ps))) rest.1,
      )
