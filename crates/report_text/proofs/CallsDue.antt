-- What is due of the script behind a turn: a try, a call with its puts, a wait that begins, or the end of one.
use Rattle.std.proofs.Common.{◌≡◌, ℕ, zero, suc, ◌+◌, ◌^◌, ◌<◌, ◌≤◌, ◌⊎◌, inl, inr, Bool, true, false, ◌&&◌, cond, List, [], ◌∷◌, ◌++◌, length, map, Option, Some, None, option_map, count_by, refl, sym, ap, ap₂, subst, ◌∙◌, arith, eqb-true, eq-eqb, append_assoc}
use Rattle.std.specs.Prelude.{nat_le, not, find, slice_get, unwrap_or, is_some, IsSome, ◌==◌, ◌||◌}
use Rattle.std.specs.List.{AllByRecursion}
use Rattle.std.proofs.lemmas.Bool.{and_parts}
use Rattle.std.proofs.lemmas.Bool.Decides.{nat_tests}
use Rattle.mc_base.specs.declared.refusal.Refusal.{Refusal}
use Rattle.board_model.specs.declared.scenario.CallLine.{CallLine}
use Rattle.board_model.specs.DomainCall.{DomainCall}
use Rattle.board_model.specs.State.{DomainState, Peer, is_numbered, peer_of, free_to}
use Rattle.board_model.specs.Answer.{answer, puts, unless_refused, success_puts}
use Rattle.board_model.specs.Journal.{PlainAnswer, refuses, agrees, tells, connects, gives, completes, Line, again_line, put_line, wait_line, call_line}
use Rattle.board_model.specs.Step.{RunState, Waited, HasNoPuts, next_line, call_at, tries_again, limit_of, is_timeout, is_done, EndsBegun, EndsWait}
use Rattle.board_model.proofs.ListsCounts.{one_if, count-cons, count-append}
use Rattle.board_model.proofs.LanePeers.{peer_found}
use Rattle.board_model.proofs.LaneSends.{goes_to, call_frees}
use Rattle.board_model.proofs.MessageAlls.{all-append}
use Rattle.board_model.proofs.RefusedCalls.{refused-is}
use Rattle.report_text.specs.StepPass.{due_answer, has_ended, due_wait, due_behind, due_at_limit, due_by, due_call}
use Rattle.report_text.proofs.TurnsDue.{Sound}
use Rattle.report_text.proofs.LinesTold.{IsSmall}

abbrev pub put_lines : List (ℕ × List ℕ) → List Line
put_lines ps = map (λ p. put_line p.0 p.1) ps

-- the answer that is due
abbrev pub said : RunState → CallLine → PlainAnswer
said r line = answer r.state line.node (call_at r line)

-- what is due, with the reason
pub data DueCall (script : List CallLine) (r : RunState) (due : List Line) : Type 0 where
  none_due : due ≡ [] → DueCall script r due
  again_due : (line : CallLine) (word : Refusal) → next_line script r ≡ Some line → r.put_since_turn ≡ Some [] → refuses word ≡ said r line → tries_again line r (refuses word) ≡ true → due ≡ again_line word ∷ [] → DueCall script r due
  call_due : (line : CallLine) → next_line script r ≡ Some line → limit_of line.call ≡ None → r.put_since_turn ≡ Some [] → tries_again line r (said r line) ≡ false → due ≡ put_lines (puts r.state line.node (call_at r line)) ++ call_line (r.lines_called + 1) (said r line) ∷ [] → DueCall script r due
  wait_due : (line : CallLine) → next_line script r ≡ Some line → IsSome (limit_of line.call) → is_timeout (said r line) ≡ true → r.waited ≡ None → due ≡ wait_line (r.lines_called + 1) ∷ [] → DueCall script r due
  end_due : (line : CallLine) (limit : ℕ) → next_line script r ≡ Some line → limit_of line.call ≡ Some limit → EndsWait limit (said r line) r.waited → due ≡ call_line (r.lines_called + 1) (said r line) ∷ [] → DueCall script r due

-- ---- it is one of these

or-either : (a b : Bool) → (a || b) ≡ true → (a ≡ true) ⊎ (b ≡ true)
or-either true b e = inl refl
or-either false b e = inr e

not-true : (b : Bool) → not b ≡ true → b ≡ false
not-true true e = absurd cc
not-true false e = refl

ends-begun : (limit : ℕ) (a : PlainAnswer) (w : Waited) → has_ended limit a w ≡ true → EndsBegun limit a w
ends-begun limit a w e = elim (or-either (w.turns == limit && is_timeout a) (nat_le w.turns limit && (not w.done_before && is_done a)) e) [
  | inl late ↦ let parts = and_parts (w.turns == limit) (is_timeout a) late in inl (eqb-true w.turns limit parts.0, parts.1)
  | inr done ↦
      let parts = and_parts (nat_le w.turns limit) (not w.done_before && is_done a) done in
      let rest = and_parts (not w.done_before) (is_done a) parts.1 in
      let test : nat_le w.turns limit ≡ true = parts.0 in
      let few : w.turns ≤ limit = grind (arith, nat_tests) in
      inr (few, not-true w.done_before rest.0, rest.1)
]

module _ (script : List CallLine) (r : RunState) (line : CallLine) (next : next_line script r ≡ Some line) where
  -- behind a turn
  answer-due : (ps : List (ℕ × List ℕ)) → limit_of line.call ≡ None → r.put_since_turn ≡ Some [] → puts r.state line.node (call_at r line) ≡ ps → (a : PlainAnswer) → said r line ≡ a → DueCall script r (put_lines ps ++ due_answer line r a)
  answer-due ps limit settled is (refuses word) told = go (tries_again line r (refuses word)) refl
    where
      none : ps ≡ []
      none = sym is ∙ ap (λ o. unless_refused o [] (success_puts r.state line.node (call_at r line))) (refused-is r.state line.node word (call_at r line) (sym told))

      go : (b : Bool) → tries_again line r (refuses word) ≡ b → DueCall script r (put_lines ps ++ cond b (again_line word ∷ []) (call_line (r.lines_called + 1) (refuses word) ∷ []))
      go true again = again_due line word next settled (sym told) again (ap (λ qs. put_lines qs ++ again_line word ∷ []) none)
      go false once = call_due line next limit settled (ap (tries_again line r) told ∙ once) (ap₂ (λ (qs : List (ℕ × List ℕ)) (a : PlainAnswer). put_lines qs ++ call_line (r.lines_called + 1) a ∷ []) (sym is) (sym told))
  answer-due ps limit settled is agrees told = call_due line next limit settled (ap (tries_again line r) told) (ap₂ (λ (qs : List (ℕ × List ℕ)) (a : PlainAnswer). put_lines qs ++ call_line (r.lines_called + 1) a ∷ []) (sym is) (sym told))
  answer-due ps limit settled is (tells n) told = call_due line next limit settled (ap (tries_again line r) told) (ap₂ (λ (qs : List (ℕ × List ℕ)) (a : PlainAnswer). put_lines qs ++ call_line (r.lines_called + 1) a ∷ []) (sym is) (sym told))
  answer-due ps limit settled is (connects n c) told = call_due line next limit settled (ap (tries_again line r) told) (ap₂ (λ (qs : List (ℕ × List ℕ)) (a : PlainAnswer). put_lines qs ++ call_line (r.lines_called + 1) a ∷ []) (sym is) (sym told))
  answer-due ps limit settled is (gives n bytes) told = call_due line next limit settled (ap (tries_again line r) told) (ap₂ (λ (qs : List (ℕ × List ℕ)) (a : PlainAnswer). put_lines qs ++ call_line (r.lines_called + 1) a ∷ []) (sym is) (sym told))
  answer-due ps limit settled is (completes place result) told = call_due line next limit settled (ap (tries_again line r) told) (ap₂ (λ (qs : List (ℕ × List ℕ)) (a : PlainAnswer). put_lines qs ++ call_line (r.lines_called + 1) a ∷ []) (sym is) (sym told))

  behind-due : limit_of line.call ≡ None → (o : Option (List (ℕ × List ℕ))) → r.put_since_turn ≡ o → HasNoPuts o → DueCall script r (due_behind line r o)
  behind-due limit None is settled = none_due refl
  behind-due limit (Some ps) is settled = answer-due (puts r.state line.node (call_at r line)) limit (is ∙ ap Some settled) refl (said r line) refl

  waiting-due : (limit : ℕ) → limit_of line.call ≡ Some limit → (o : Option Waited) → r.waited ≡ o → DueCall script r (due_wait limit r (said r line) o)
  waiting-due limit is None not_begun = go (is_timeout (said r line)) refl
    where
      go : (b : Bool) → is_timeout (said r line) ≡ b → DueCall script r (cond b (wait_line (r.lines_called + 1) ∷ []) (call_line (r.lines_called + 1) (said r line) ∷ []))
      go true late = wait_due line next (ap is_some is) late not_begun refl
      go false early = end_due line limit next is (subst (EndsWait limit (said r line)) (sym not_begun) early) refl
  waiting-due limit is (Some w) begun = go (has_ended limit (said r line) w) refl
    where
      go : (b : Bool) → has_ended limit (said r line) w ≡ b → DueCall script r (cond b (call_line (r.lines_called + 1) (said r line) ∷ []) [])
      go true ended = end_due line limit next is (subst (EndsWait limit (said r line)) (sym begun) (ends-begun limit (said r line) w ended)) refl
      go false on = none_due refl

  line-due : HasNoPuts r.put_since_turn → (o : Option ℕ) → limit_of line.call ≡ o → DueCall script r (due_at_limit o line r)
  line-due settled None is = behind-due is r.put_since_turn refl settled
  line-due settled (Some limit) is = waiting-due limit is r.waited refl

pub due-is : (script : List CallLine) (r : RunState) → HasNoPuts r.put_since_turn → DueCall script r (due_call script r)
due-is script r settled = go (next_line script r) refl
  where
    go : (o : Option CallLine) → next_line script r ≡ o → DueCall script r (due_by o r)
    go None is = none_due refl
    go (Some line) is = line-due script r line is settled (limit_of line.call) refl

-- ---- its numbers are in range

some-below : {A : Type 0} (xs : List A) (n : ℕ) (x : A) → slice_get xs n ≡ Some x → n < length xs
some-below [] n x e = absurd cc
some-below (y ∷ ys) zero x e = omega arith
some-below (y ∷ ys) (suc n) x e = let less = some-below ys n x e in omega (arith, less)

pub next-below : (script : List CallLine) (r : RunState) (line : CallLine) → next_line script r ≡ Some line → r.lines_called + 1 ≤ length script
next-below script r line is = let less = some-below script r.lines_called line is in omega (arith, less)

few-numbered : (n : ℕ) (p : Peer) (ps : List Peer) → AllByRecursion (λ m. m < 2 ^ 8) (map (λ q. q.number) ps) → find (is_numbered n) ps ≡ Some p → n < 2 ^ 8
few-numbered n p [] few e = absurd cc
few-numbered n p (q ∷ qs) few e = go (q.number == n) refl e (λ k. few-numbered n p qs few.1 k)
  where
    go : (b : Bool) → (q.number == n) ≡ b → cond b (Some q) (find (is_numbered n) qs) ≡ Some p → (find (is_numbered n) qs ≡ Some p → n < 2 ^ 8) → n < 2 ^ 8
    go true is e rest = subst (λ m. m < 2 ^ 8) (eqb-true q.number n is) few.0
    go false is e rest = rest e

free-few : (s : DomainState) (n : ℕ) → AllByRecursion (λ m. m < 2 ^ 8) (map (λ q. q.number) s.peers) → 1 ≤ free_to s n → n < 2 ^ 8
free-few s n few some = go (peer_of s n) refl
  where
    go : (o : Option Peer) → peer_of s n ≡ o → n < 2 ^ 8
    go None is = let free : free_to s n ≡ 0 = ap (λ (o : Option Peer). unwrap_or (option_map (λ p. p.free) o) 0) is in absurd (omega (arith, free, some))
    go (Some p) is = few-numbered n p s.peers few (sym (peer_found s n) ∙ is)

one-there : (n : ℕ) (front back : List (ℕ × List ℕ)) (p : ℕ × List ℕ) → p.0 ≡ n → 1 ≤ count_by (goes_to n) (front ++ p ∷ back)
one-there n front back p is = omega (arith, count-append (goes_to n) front (p ∷ back), count-cons (goes_to n) p back, ap one_if (eq-eqb p.0 n is))

module _ (peers : List ℕ) (few : AllByRecursion (λ n. n < 2 ^ 8) peers) (s : DomainState) (h : Sound peers s) (node : ℕ) (call : DomainCall) where
  small-from : (front back : List (ℕ × List ℕ)) → front ++ back ≡ puts s node call → AllByRecursion IsSmall (put_lines back)
  small-from front [] is = tt
  small-from front (p ∷ back) is =
      let there : 1 ≤ count_by (goes_to p.0) (puts s node call) = subst (λ ps. 1 ≤ count_by (goes_to p.0) ps) is (one-there p.0 front back p refl) in
      (free-few s p.0 (subst (AllByRecursion (λ n. n < 2 ^ 8)) (sym h.numbers) few) (omega (arith, there, call_frees s p.0 node call)), small-from (front ++ p ∷ []) back (append_assoc front (p ∷ []) back ∙ is))

  pub small-call_puts : AllByRecursion IsSmall (put_lines (puts s node call))
  small-call_puts = small-from [] (puts s node call) refl

pub due-small : (peers : List ℕ) → AllByRecursion (λ n. n < 2 ^ 8) peers → (script : List CallLine) → length script < 2 ^ 32 → (r : RunState) → Sound peers r.state → (due : List Line) → DueCall script r due → AllByRecursion IsSmall due
due-small peers few script short r h due (none_due is) = subst (AllByRecursion IsSmall) (sym is) tt
due-small peers few script short r h due (again_due line word next settled told again is) = subst (AllByRecursion IsSmall) (sym is) (tt, tt)
due-small peers few script short r h due (call_due line next limit settled once is) =
    let le = next-below script r line next in
    let number : r.lines_called + 1 < 2 ^ 32 = omega (arith, le, short) in
    subst (AllByRecursion IsSmall) (sym is) (all-append IsSmall (put_lines (puts r.state line.node (call_at r line))) (call_line (r.lines_called + 1) (said r line) ∷ []) (small-call_puts peers few r.state h line.node (call_at r line)) (number, tt))
due-small peers few script short r h due (wait_due line next waits late not_begun is) =
    let le = next-below script r line next in
    let number : r.lines_called + 1 < 2 ^ 32 = omega (arith, le, short) in
    subst (AllByRecursion IsSmall) (sym is) (number, tt)
due-small peers few script short r h due (end_due line limit next waits ends is) =
    let le = next-below script r line next in
    let number : r.lines_called + 1 < 2 ^ 32 = omega (arith, le, short) in
    subst (AllByRecursion IsSmall) (sym is) (number, tt)
