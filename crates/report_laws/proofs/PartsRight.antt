-- In parts whose entries are steps of a run no line is other than the one that is due.
use Rattle.std.proofs.Common.{◌≡◌, ℕ, zero, suc, ◌+◌, ◌-◌, ◌≤◌, true, ◌&&◌, cond, List, [], ◌∷◌, ◌++◌, length, map, drop, Option, Some, None, refl, sym, ap, ap₂, subst, ◌∙◌, arith, append_assoc}
use Rattle.std.specs.Prelude.{slice_get, ◌==◌}
use Rattle.std.specs.List.{AllByRecursion, flat_map}
use Rattle.std.proofs.lemmas.Slice.Eq.{bytes_eq-Decides}
use Rattle.mc_base.specs.declared.refusal.Refusal.{Refusal}
use Rattle.board_model.specs.declared.scenario.CallLine.{CallLine}
use Rattle.board_model.specs.State.{DomainState}
use Rattle.board_model.specs.Answer.{answer}
use Rattle.board_model.specs.Journal.{refuses, visit_lines, PlainEntry, again, called, Line, turn_line, spin_line}
use Rattle.board_model.specs.JournalParts.{Part, idles, spins, tries, turn_of, wait_of, call_of, part_lines, part_entries}
use Rattle.board_model.specs.Labels as labels
use Rattle.board_model.specs.Labels.{Labels}
use Rattle.board_model.specs.Report.{line_text}
use Rattle.board_model.specs.Run.{after_all}
use Rattle.board_model.specs.Step.{RunState, HasNoPuts, is_tried_word, may_try, Allowed, after}
use Rattle.board_model.specs.Turn.{IsTurn, after_turn}
use Rattle.board_model.specs.Unjoined.{times, idle_turn}
use Rattle.board_model.proofs.JournalReading.{put_entries}
use Rattle.report_text.specs.StepPass.{due_lines, due_call, other_than, idle_visits, idle_place, before_last, spin_due, part_place, texts_of, step_place}
use Rattle.report_text.specs.TextLines.{moved, or_else, first_other}
use Rattle.report_text.proofs.LinesTold.{Tell, tell-texts, tell-take, tell-drop}
use Rattle.report_text.proofs.StepsDue.{Due, Fits, all-after}
use Rattle.report_text.proofs.TurnsDue.{idle-turn}
use Rattle.report_laws.proofs.VisitsRight.{visits-due}
use Rattle.report_laws.proofs.CallsRight.{again-due, wait-due, call-texts}

-- ---- texts that are the same

none-other : (ts : List (List ℕ)) → first_other ts ts ≡ None
none-other [] = refl
none-other (t ∷ ts) = ap (λ b. cond b (moved 1 (first_other ts ts)) (Some 0)) ((bytes_eq-Decides t t).1 refl) ∙ ap (moved 1) (none-other ts)

same-texts : (due : List Line) (ts : List (List ℕ)) → map line_text due ≡ ts → other_than due ts ≡ None
same-texts due ts e = ap (first_other ts) e ∙ none-other ts

module _ (peers : List ℕ) (script : List CallLine) where
  -- ---- what stands behind a part

  due-behind : (r : RunState) (xs ys : List PlainEntry) → Due script r (xs ++ ys) → Due script (after_all script r xs) ys
  due-behind r [] ys due = due
  due-behind r (x ∷ xs) ys due = due-behind (after script r x) xs ys due.2

  settled-idles : (n : ℕ) (r : RunState) → HasNoPuts r.put_since_turn → HasNoPuts (after_all script r (times n (idle_turn peers ∷ []))).put_since_turn
  settled-idles zero r h = h
  settled-idles (suc n) r h = settled-idles n (after script r (idle_turn peers)) refl

  settled-spins : (n : ℕ) (word : Refusal) (r : RunState) → HasNoPuts r.put_since_turn → HasNoPuts (after_all script r (times n (idle_turn peers ∷ again word ∷ []))).put_since_turn
  settled-spins zero word r h = h
  settled-spins (suc n) word r h = settled-spins n word (after script (after script r (idle_turn peers)) (again word)) tt

  settled-after : (p : Part) (r : RunState) → HasNoPuts r.put_since_turn → HasNoPuts (after_all script r (part_entries peers p)).put_since_turn
  settled-after (idles n) r h = settled-idles n r h
  settled-after (spins n word) r h = settled-spins n word r h
  settled-after (tries word) r h = tt
  settled-after (turn_of vs) r h = refl
  settled-after (wait_of k) r h = h
  settled-after (call_of ps k a) r h = subst (λ (q : RunState). HasNoPuts q.put_since_turn) (sym (all-after script r (put_entries ps) (called k a ∷ []))) tt

  -- ---- idle turns

  idle-lines : (ns : List ℕ) → flat_map visit_lines (idle_visits ns) ≡ []
  idle-lines [] = refl
  idle-lines (n ∷ ns) = idle-lines ns

  none-idle : (r : RunState) → IsTurn r.state (idle_visits peers) → idle_place peers r ≡ None
  none-idle r turn =
      let lines : due_lines r (idle_visits peers) ≡ [] = ap (flat_map visit_lines) (visits-due r.state (idle_visits peers) turn.allowed) ∙ idle-lines peers in
      ap (λ (ls : List Line). cond {A = Option ℕ} (length ls == 0) None (Some 0)) lines

  idles-right : (n : ℕ) (r : RunState) (es : List PlainEntry) → 1 ≤ n → Due script r (times n (idle_turn peers ∷ []) ++ es) → idle_place peers r ≡ None
  idles-right zero r es some due = absurd (omega (arith, some))
  idles-right (suc n) r es some due = none-idle r due.0.1

  -- ---- tries that each follow an idle turn

  -- the call that is made again, by what an idle turn leaves as it is
  record Again (word : Refusal) (s : DomainState) (names : Labels) (lines_called made : ℕ) : Type 0 where
    line : CallLine
    next : slice_get script lines_called ≡ Some line
    told : refuses word ≡ answer s line.node (labels.call_of names s line.call)
    more : (is_tried_word word && may_try line.tries made) ≡ true

  record Spun (word : Refusal) (r : RunState) (n : ℕ) : Type 0 where
    turn : IsTurn r.state (idle_visits peers)
    last : Again word r.state r.labels r.lines_called (r.calls_made + n)

  spun : (n : ℕ) (word : Refusal) (r : RunState) (es : List PlainEntry) → Due script r (times (suc n) (idle_turn peers ∷ again word ∷ []) ++ es) → Spun word r n
  spun zero word r es due =
      let turn : IsTurn r.state (idle_visits peers) = due.0.1 in
      let one = due.2.0 in
      let again_now : Again word (after_turn r.state (idle_visits peers)) r.labels r.lines_called r.calls_made = record { line = one.0; next = one.1; told = one.2; more = one.4 } in
      let none : r.calls_made ≡ r.calls_made + 0 = omega arith in
      record { turn = turn; last = subst (Again word r.state r.labels r.lines_called) none (subst (λ s. Again word s r.labels r.lines_called r.calls_made) (idle-turn r.state peers turn.allowed) again_now) }
  spun (suc n) word r es due =
      let turn : IsTurn r.state (idle_visits peers) = due.0.1 in
      let rest = spun n word (after script (after script r (idle_turn peers)) (again word)) es due.2.2 in
      let shift : r.calls_made + 1 + n ≡ r.calls_made + suc n = omega arith in
      record { turn = turn; last = subst (Again word r.state r.labels r.lines_called) shift (subst (λ s. Again word s r.labels r.lines_called (r.calls_made + 1 + n)) (idle-turn r.state peers turn.allowed) rest.last) }

  spins-right : (n : ℕ) (word : Refusal) (r : RunState) (es : List PlainEntry) → 1 ≤ n → Due script r (times n (idle_turn peers ∷ again word ∷ []) ++ es) → (idle_place peers r ≡ None) × (spin_due n (due_call script (before_last script peers n r)) ≡ spin_line n word ∷ [])
  spins-right zero word r es some due = absurd (omega (arith, some))
  spins-right (suc m) word r es some due =
      let s = spun m word r es due in
      let less : m ≡ suc m - 1 = omega arith in
      let last : Again word (after_turn r.state (idle_visits peers)) r.labels r.lines_called (r.calls_made + (suc m - 1)) = subst (λ n. Again word (after_turn r.state (idle_visits peers)) r.labels r.lines_called (r.calls_made + n)) less (subst (λ t. Again word t r.labels r.lines_called (r.calls_made + m)) (sym (idle-turn r.state peers s.turn.allowed)) s.last) in
      let allowed : Allowed script (before_last script peers (suc m) r) (again word) = (last.line, last.next, last.told, refl, last.more) in
      (none-idle r s.turn, ap (spin_due (suc m)) (again-due script (before_last script peers (suc m) r) word allowed))

  -- ---- a part

  part-right : (p : Part) (r : RunState) (ts : List (List ℕ)) (es : List PlainEntry) → HasNoPuts r.put_since_turn → Fits peers p → ts ≡ map line_text (part_lines p) → Due script r (part_entries peers p ++ es) → part_place script peers r p ts ≡ None
  part-right (idles n) r ts es h fit texts due = idles-right n r es fit.0 due
  part-right (spins n word) r ts es h fit texts due =
      let right = spins-right n word r es fit.0 due in
      ap₂ or_else right.0 (same-texts (spin_due n (due_call script (before_last script peers n r))) ts (ap (map line_text) right.1 ∙ sym texts))
  part-right (tries word) r ts es h fit texts due = same-texts (due_call script r) ts (ap (map line_text) (again-due script r word due.0) ∙ sym texts)
  part-right (turn_of vs) r ts es h fit texts due = same-texts (turn_line ∷ due_lines r vs) ts (ap (λ ws. map line_text (turn_line ∷ flat_map visit_lines ws)) (visits-due r.state vs due.0.1.allowed) ∙ sym texts)
  part-right (wait_of k) r ts es h fit texts due = same-texts (due_call script r) ts (ap (map line_text) (wait-due script r k due.0) ∙ sym texts)
  part-right (call_of ps k a) r ts es h fit texts due =
      same-texts (due_call script r) ts (call-texts script r ps k a es h (subst (Due script r) (append_assoc (put_entries ps) (called k a ∷ []) es) due) ∙ sym texts)

  -- ---- parts one after the other

  pub parts-right : (ps : List Part) (r : RunState) (ts : List (List ℕ)) → HasNoPuts r.put_since_turn → AllByRecursion (Fits peers) ps → Tell ts (flat_map part_lines ps) → Due script r (flat_map (part_entries peers) ps) → step_place script peers r ps ts ≡ None
  parts-right [] r ts h fit tell due = refl
  parts-right (p ∷ ps) r ts h fit tell due =
      let front = tell-texts (texts_of p ts) (part_lines p) (tell-take ts (part_lines p) (flat_map part_lines ps) tell) in
      let rest = parts-right ps (after_all script r (part_entries peers p)) (drop (length (part_lines p)) ts) (settled-after p r h) fit.1 (tell-drop ts (part_lines p) (flat_map part_lines ps) tell) (due-behind r (part_entries peers p) (flat_map (part_entries peers) ps) due) in
      ap₂ or_else (part-right p r (texts_of p ts) (flat_map (part_entries peers) ps) h fit.0 front due) (ap (moved (length (part_lines p))) rest)
