-- The lines that are due of the script are those of the steps that are allowed: a try, a wait that begins, and a call with its puts.
use Rattle.std.proofs.Common.{◌≡◌, ◌⊎◌, inl, inr, ℕ, ◌+◌, ◌≤◌, Bool, true, false, ◌&&◌, cond, List, [], ◌∷◌, ◌++◌, map, Option, Some, None, option_map, refl, sym, ap, ap₂, subst, ◌∙◌, arith, append_assoc, append-nil, eq-eqb}
use Rattle.std.specs.Prelude.{nat_le, not, IsSome, ◌==◌, ◌||◌}
use Rattle.std.proofs.lemmas.Bool.{and_parts}
use Rattle.std.proofs.lemmas.Bool.Decides.{nat_tests}
use Rattle.mc_base.specs.declared.refusal.Refusal.{Refusal}
use Rattle.board_model.specs.declared.scenario.CallLine.{CallLine}
use Rattle.board_model.specs.Answer.{puts, unless_refused, success_puts}
use Rattle.board_model.specs.Journal.{PlainAnswer, refuses, agrees, tells, connects, gives, completes, PlainEntry, put, again, waits, called, Line, again_line, put_line, wait_line, call_line}
use Rattle.board_model.specs.Report.{line_text}
use Rattle.board_model.specs.Step.{RunState, Waited, HasNoPuts, next_line, call_at, is_tried, may_try, tries_again, limit_of, is_timeout, is_done, EndsBegun, EndsWait, MayCome, Allowed, after}
use Rattle.board_model.proofs.JournalReading.{put_entries}
use Rattle.board_model.proofs.WaitCalls.{wait-untried}
use Rattle.board_model.proofs.RefusedCalls.{refused-is}
use Rattle.report_text.specs.RightRuns.{answered}
use Rattle.report_text.specs.StepPass.{due_answer, has_ended, due_wait, due_behind, due_at_limit, due_by, due_call}
use Rattle.report_text.proofs.CallsDue.{put_lines, said}
use Rattle.report_text.proofs.StepsDue.{Due}

-- ---- answers

-- a call that is not made again is due with its answer
answer-due : (line : CallLine) (r : RunState) (a : PlainAnswer) → tries_again line r a ≡ false → due_answer line r a ≡ call_line (r.lines_called + 1) a ∷ []
answer-due line r (refuses word) once = ap (λ b. cond b (again_line word ∷ []) (call_line (r.lines_called + 1) (refuses word) ∷ [])) once
answer-due line r agrees once = refl
answer-due line r (tells n) once = refl
answer-due line r (connects n c) once = refl
answer-due line r (gives n bytes) once = refl
answer-due line r (completes place result) once = refl

or-left : (a b : Bool) → a ≡ true → (a || b) ≡ true
or-left a b e = ap (λ x. x || b) e

or-right : (a b : Bool) → b ≡ true → (a || b) ≡ true
or-right true b e = refl
or-right false b e = e

begun-ends : (limit : ℕ) (a : PlainAnswer) (w : Waited) → EndsBegun limit a w → has_ended limit a w ≡ true
begun-ends limit a w ends = elim ends [
  | inl late ↦ or-left (w.turns == limit && is_timeout a) (nat_le w.turns limit && (not w.done_before && is_done a)) (ap₂ (λ (x y : Bool). x && y) (eq-eqb w.turns limit late.0) late.1)
  | inr done ↦
      let few : w.turns ≤ limit = done.0 in
      let test : nat_le w.turns limit ≡ true = grind (arith, nat_tests) in
      or-right (w.turns == limit && is_timeout a) (nat_le w.turns limit && (not w.done_before && is_done a)) (ap₂ (λ (x y : Bool). x && y) test (ap₂ (λ (x y : Bool). not x && y) done.1 done.2))
]

module _ (script : List CallLine) where
  -- ---- a try

  pub again-due : (r : RunState) (word : Refusal) → Allowed script r (again word) → due_call script r ≡ again_line word ∷ []
  again-due r word allowed = ap (λ o. due_by o r) allowed.1 ∙ go (limit_of line.call) refl
    where
      line : CallLine
      line = allowed.0

      none : puts r.state line.node (call_at r line) ≡ []
      none = ap (λ o. unless_refused o [] (success_puts r.state line.node (call_at r line))) (refused-is r.state line.node word (call_at r line) allowed.2)

      go : (o : Option ℕ) → limit_of line.call ≡ o → due_at_limit o line r ≡ again_line word ∷ []
      go None is =
          ap (due_behind line r) allowed.3
          ∙ ap₂ (λ (qs : List (ℕ × List ℕ)) (a : PlainAnswer). put_lines qs ++ due_answer line r a) none (sym allowed.2)
          ∙ ap (λ b. cond b (again_line word ∷ []) (call_line (r.lines_called + 1) (refuses word) ∷ [])) allowed.4
      go (Some limit) is =
          let tried = and_parts (is_tried (refuses word)) (may_try line.tries r.calls_made) allowed.4 in
          let not_tried : is_tried (refuses word) ≡ false = ap is_tried allowed.2 ∙ wait-untried r line limit is in
          let no : true ≡ false = sym tried.0 ∙ not_tried in
          absurd cc

  -- ---- a wait that begins

  pub wait-due : (r : RunState) (k : ℕ) → Allowed script r (waits k) → due_call script r ≡ wait_line k ∷ []
  wait-due r k allowed = ap (λ o. due_by o r) allowed.1 ∙ go (limit_of line.call) refl
    where
      line : CallLine
      line = allowed.0

      go : (o : Option ℕ) → limit_of line.call ≡ o → due_at_limit o line r ≡ wait_line k ∷ []
      go None is = let none : IsSome {T = ℕ} None = subst (λ (o : Option ℕ). IsSome o) is allowed.3 in absurd cc
      go (Some limit) is =
          ap (due_wait limit r (said r line)) allowed.6
          ∙ ap (λ b. cond b (wait_line (r.lines_called + 1) ∷ []) (call_line (r.lines_called + 1) (said r line) ∷ [])) allowed.4
          ∙ ap (λ n. wait_line n ∷ []) (sym allowed.2)

  -- ---- a call

  abbrev more : Option (List (ℕ × List ℕ)) → List (ℕ × List ℕ) → Option (List (ℕ × List ℕ))
  more o ps = option_map (λ xs. xs ++ ps) o

  more-none : (o : Option (List (ℕ × List ℕ))) → more o [] ≡ o
  more-none None = refl
  more-none (Some xs) = ap Some (append-nil xs)

  more-more : (o : Option (List (ℕ × List ℕ))) (p : ℕ × List ℕ) (ps : List (ℕ × List ℕ)) → more (more o (p ∷ [])) ps ≡ more o (p ∷ ps)
  more-more None p ps = refl
  more-more (Some xs) p ps = ap Some (append_assoc xs (p ∷ []) ps)

  -- behind its puts, in the state before them
  record Comes (r : RunState) (ps : List (ℕ × List ℕ)) (k : ℕ) (a : PlainAnswer) : Type 0 where
    line : CallLine
    next : next_line script r ≡ Some line
    number : k ≡ r.lines_called + 1
    come : MayCome (limit_of line.call) (record r { put_since_turn = more r.put_since_turn ps }) line
    once : tries_again line r (said r line) ≡ false
    text : line_text (call_line k (said r line)) ≡ line_text (call_line k a)
    behind : (ps ≡ []) ⊎ IsSome r.put_since_turn

  comes : (r : RunState) (ps : List (ℕ × List ℕ)) (k : ℕ) (a : PlainAnswer) (es : List PlainEntry) → Due script r (put_entries ps ++ called k a ∷ es) → Comes r ps k a
  comes r [] k a es due =
      let one = due.0 in
      let is : answered (next_line script r) r a ≡ said r one.0 = ap (λ o. answered o r a) one.1 in
      record {
        line = one.0;
        next = one.1;
        number = one.2;
        come = subst (λ o. MayCome (limit_of one.0.call) (record r { put_since_turn = o }) one.0) (sym (more-none r.put_since_turn)) one.4;
        once = ap (tries_again one.0 r) (sym is) ∙ one.5;
        text = ap (λ x. line_text (call_line k x)) (sym is) ∙ due.1;
        behind = inl refl;
      }
  comes r (p ∷ ps) k a es due =
      let rest = comes (after script r (put p.0 p.1)) ps k a es due.2 in
      record {
        line = rest.line;
        next = rest.next;
        number = rest.number;
        come = subst (λ o. MayCome (limit_of rest.line.call) (record r { put_since_turn = o }) rest.line) (more-more r.put_since_turn p ps) rest.come;
        once = rest.once;
        text = rest.text;
        behind = inr due.0;
      }

  call-due : (r : RunState) (ps : List (ℕ × List ℕ)) (k : ℕ) (a : PlainAnswer) (c : Comes r ps k a) → HasNoPuts r.put_since_turn → due_call script r ≡ put_lines ps ++ call_line k (said r c.line) ∷ []
  call-due r ps k a c settled = ap (λ o. due_by o r) c.next ∙ go (limit_of line.call) c.come ∙ ap (λ n. put_lines ps ++ call_line n (said r line) ∷ []) (sym c.number)
    where
      line : CallLine
      line = c.line

      behind-turn : (o : Option (List (ℕ × List ℕ))) → HasNoPuts o → more o ps ≡ Some (puts r.state line.node (call_at r line)) → due_behind line r o ≡ put_lines ps ++ call_line (r.lines_called + 1) (said r line) ∷ []
      behind-turn None none e = absurd cc
      behind-turn (Some xs) none e =
          let same : xs ++ ps ≡ puts r.state line.node (call_at r line) = some-is (xs ++ ps) (puts r.state line.node (call_at r line)) e in
          ap₂ (λ (qs : List (ℕ × List ℕ)) (ls : List Line). put_lines qs ++ ls) (sym same ∙ ap (λ ys. ys ++ ps) none) (answer-due line r (said r line) c.once)
        where
          some-is : (x y : List (ℕ × List ℕ)) → Some x ≡ Some y → x ≡ y
          some-is x y e = cc

      none-put : (o : Option (List (ℕ × List ℕ))) → HasNoPuts o → HasNoPuts (more o ps) → (ps ≡ []) ⊎ IsSome o → ps ≡ []
      none-put None none settled some = elim some [ inl e ↦ e | inr known ↦ absurd cc ]
      none-put (Some xs) none settled some = ap (λ ys. ys ++ ps) (sym none) ∙ settled

      ended : (limit : ℕ) (o : Option Waited) → EndsWait limit (said r line) o → due_wait limit r (said r line) o ≡ call_line (r.lines_called + 1) (said r line) ∷ []
      ended limit None ends = ap (λ b. cond b (wait_line (r.lines_called + 1) ∷ []) (call_line (r.lines_called + 1) (said r line) ∷ [])) ends
      ended limit (Some w) ends = ap (λ b. cond b (call_line (r.lines_called + 1) (said r line) ∷ []) []) (begun-ends limit (said r line) w ends)

      go : (o : Option ℕ) → MayCome o (record r { put_since_turn = more r.put_since_turn ps }) line → due_at_limit o line r ≡ put_lines ps ++ call_line (r.lines_called + 1) (said r line) ∷ []
      go None come = behind-turn r.put_since_turn settled come
      go (Some limit) come = ended limit r.waited come.1 ∙ ap (λ qs. put_lines qs ++ call_line (r.lines_called + 1) (said r line) ∷ []) (sym (none-put r.put_since_turn settled come.0 c.behind))

  -- as text
  pub call-texts : (r : RunState) (ps : List (ℕ × List ℕ)) (k : ℕ) (a : PlainAnswer) (es : List PlainEntry) → HasNoPuts r.put_since_turn → Due script r (put_entries ps ++ called k a ∷ es) → map line_text (due_call script r) ≡ map line_text (put_lines ps ++ call_line k a ∷ [])
  call-texts r ps k a es settled due = let c = comes r ps k a es due in ap (map line_text) (call-due r ps k a c settled) ∙ last-text ps (said r c.line) c.text
    where
      last-text : (qs : List (ℕ × List ℕ)) (b : PlainAnswer) → line_text (call_line k b) ≡ line_text (call_line k a) → map line_text (put_lines qs ++ call_line k b ∷ []) ≡ map line_text (put_lines qs ++ call_line k a ∷ [])
      last-text [] b e = ap (λ x. x ∷ []) e
      last-text (q ∷ qs) b e = ap (λ xs. line_text (put_line q.0 q.1) ∷ xs) (last-text qs b e)
