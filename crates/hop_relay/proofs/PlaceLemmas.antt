-- An actor that goes on from where a log leads gives the line that is due, and stands where the longer log leads.
use Rattle.std.proofs.Common.{◌≡◌, ℕ, zero, suc, ◌+◌, Bool, true, false, cond, List, [], ◌∷◌, ◌++◌, length, drop, slice_get, Option, Some, None, refl, ap, ap₂, sym, subst, ◌∙◌, arith, append_assoc, append-nil}
use Rattle.std.specs.Prelude.{IfNone}
use Rattle.std.proofs.Math.Seq.{drop-nil}
use Rattle.std.proofs.lemmas.Bool.{and_parts}
use Rattle.mc_base.specs.declared.channel.Kind.TheVariants.{Packet}
use Rattle.mc_base.specs.declared.refusal.Refusal.{Refusal}
use Rattle.mc_base.specs.declared.refusal.Refusal.TheVariants.{ChanClosed}
use Rattle.board_model.specs.declared.scenario.Call.{Call}
use Rattle.board_model.specs.declared.scenario.Call.TheVariants.{Create, OpenSend, OpenRecv, PktRecv, PktSend, Release, CloseSend, CloseRecv}
use Rattle.board_model.specs.declared.scenario.CallLine.{CallLine}
use Rattle.board_model.specs.Journal.{PlainAnswer, agrees, gives, refuses}
use Rattle.board_model.specs.Logs.{LoggedCall, logged}
use Rattle.board_model.specs.MadeLines.{once}
use Rattle.board_model.proofs.ListsCounts.{count-append}
use Rattle.board_runner.specs.ActorLogs.{IsToldFor, log_so_far}
use Rattle.hop_relay.specs.declared.role.Role.{Role}
use Rattle.hop_relay.specs.declared.role.Role.TheVariants.{First, Middle, Last}
use Rattle.hop_relay.specs.declared.step.Step.{Step}
use Rattle.hop_relay.specs.declared.step.Step.TheVariants.{Opening, Ended}
use Rattle.hop_relay.specs.Roles.{connecting, opening, open_send_line, open_recv_line, is_send, is_receive, sends, receives, next_packet, due_after, due_in_opening, due_behind, due_by, due, is_refused, last_call, FitsFrom, FitsRole, HasEnded}
use Rattle.hop_relay.specs.Steps.{Place, step_of, step_for, sends_at, receives_at, is_opening, are_of_opening, is_agreed, was_refused, next_of, behind, opening_next, opening_after, or_else, next_line, GoesOn, Stands, lines_asked, packets_of, FitsRelay}
use Rattle.hop_relay.proofs.RoleLogs.{last_more, one_longer, in_opening, before}
use Rattle.hop_relay.proofs.RoleLines.{IsBehind, AnyBehind, log_behind, drop_at_line, drop_past}

-- ---- behind the opening

next_is : (packets : List (List ℕ)) (n : ℕ) → next_packet (slice_get packets n) ≡ next_of (drop n packets)
next_is [] zero = refl
next_is [] (suc n) = refl
next_is (p ∷ ps) zero = refl
next_is (p ∷ ps) (suc n) = next_is ps n

neither : (b : Bool) → ◌≡◌ {A = Option CallLine} None (cond b None None)
neither true = refl
neither false = refl

of_first : (packets : List (List ℕ)) (n k : ℕ) (call : Call) (a : PlainAnswer) → IsBehind call → due_after (First packets) n k call a ≡ behind (First packets) (drop n packets) k (step_of call) (Some a)
of_first packets n k (PktSend port bytes) agrees is = ap (λ (l : CallLine). Some l) (next_is packets n)
of_first packets n k (PktSend port bytes) a is = refl
of_first packets n k (PktRecv port) a is = refl
of_first packets n k (Release label) a is = neither (is_agreed (Some a))
of_first packets n k (CloseSend port) a is = neither (is_agreed (Some a))
of_first packets n k (CloseRecv port) a is = neither (is_agreed (Some a))
of_first packets n k call a is = absurd is

refused_middle : (d most n k port : ℕ) (left : List (List ℕ)) (w : Refusal) → due_after (Middle d most) n k (PktRecv port) (refuses w) ≡ behind (Middle d most) left k (step_of (PktRecv port)) (Some (refuses w))
refused_middle d most n k port left ChanClosed = refl
refused_middle d most n k port left w = refl

of_middle : (d most n k : ℕ) (left : List (List ℕ)) (call : Call) (a : PlainAnswer) → IsBehind call → due_after (Middle d most) n k call a ≡ behind (Middle d most) left k (step_of call) (Some a)
of_middle d most n k left (PktRecv port) (gives size bytes) is = refl
of_middle d most n k left (PktRecv port) (refuses w) is = refused_middle d most n k port left w
of_middle d most n k left (PktRecv port) a is = refl
of_middle d most n k left (PktSend port bytes) agrees is = refl
of_middle d most n k left (PktSend port bytes) a is = refl
of_middle d most n k left (Release label) agrees is = refl
of_middle d most n k left (Release label) a is = refl
of_middle d most n k left (CloseSend port) agrees is = refl
of_middle d most n k left (CloseSend port) a is = refl
of_middle d most n k left (CloseRecv port) a is = neither (is_agreed (Some a))
of_middle d most n k left call a is = absurd is

refused_last : (d most n k port : ℕ) (left : List (List ℕ)) (w : Refusal) → due_after (Last d most) n k (PktRecv port) (refuses w) ≡ behind (Last d most) left k (step_of (PktRecv port)) (Some (refuses w))
refused_last d most n k port left ChanClosed = refl
refused_last d most n k port left w = refl

of_last : (d most n k : ℕ) (left : List (List ℕ)) (call : Call) (a : PlainAnswer) → IsBehind call → due_after (Last d most) n k call a ≡ behind (Last d most) left k (step_of call) (Some a)
of_last d most n k left (PktRecv port) (gives size bytes) is = refl
of_last d most n k left (PktRecv port) (refuses w) is = refused_last d most n k port left w
of_last d most n k left (PktRecv port) a is = refl
of_last d most n k left (PktSend port bytes) a is = neither (is_agreed (Some a))
of_last d most n k left (Release label) agrees is = refl
of_last d most n k left (Release label) a is = refl
of_last d most n k left (CloseSend port) a is = neither (is_agreed (Some a))
of_last d most n k left (CloseRecv port) a is = neither (is_agreed (Some a))
of_last d most n k left call a is = absurd is

of_role : (role : Role) (n k : ℕ) (call : Call) (a : PlainAnswer) → IsBehind call → due_after role n k call a ≡ behind role (drop n (packets_of role)) k (step_of call) (Some a)
of_role (First packets) n k call a is = of_first packets n k call a is
of_role (Middle d most) n k call a is = of_middle d most n k (drop n []) call a is
of_role (Last d most) n k call a is = of_last d most n k (drop n []) call a is

-- ---- the opening

pub opens : (s : Step) → is_opening s ≡ true → s ≡ Opening
opens Opening is = refl
opens s is = absurd cc

pub opening_step : (lines : List CallLine) (i : ℕ) (line : CallLine) → are_of_opening lines ≡ true → slice_get lines i ≡ Some line → step_of line.call ≡ Opening
opening_step [] i line all at = absurd cc
opening_step (x ∷ xs) zero line all at =
    let same : x ≡ line = cc in
    subst (λ (l : CallLine). step_of l.call ≡ Opening) same (opens (step_of x.call) (and_parts (is_opening (step_of x.call)) (are_of_opening xs) all).0)
opening_step (x ∷ xs) (suc i) line all at = opening_step xs i line (and_parts (is_opening (step_of x.call)) (are_of_opening xs) all).1 at

pub opening_plain : (role : Role) → are_of_opening (opening role) ≡ true
opening_plain (First packets) = refl
opening_plain (Middle d most) = refl
opening_plain (Last d most) = refl

abbrev end_of : CallLine → List CallLine → CallLine
end_of x [] = x
end_of x (y ∷ ys) = end_of y ys

end_is : (x : CallLine) (xs : List CallLine) (m : ℕ) (line : CallLine) → slice_get (x ∷ xs) m ≡ Some line → slice_get (x ∷ xs) (suc m) ≡ None → end_of x xs ≡ line
end_is x [] zero line at none = cc
end_is x [] (suc m) line at none = absurd cc
end_is x (y ∷ ys) zero line at none = absurd cc
end_is x (y ∷ ys) (suc m) line at none = end_is y ys m line at none

first_opened : (packets : List (List ℕ)) (n k : ℕ) (a : PlainAnswer) → due_after (First packets) n k (OpenSend 1 Packet) a ≡ behind (First packets) (drop n packets) k Opening (Some a)
first_opened packets n k agrees = ap (λ (l : CallLine). Some l) (next_is packets n)
first_opened packets n k a = refl

middle_opened : (d most n k : ℕ) (left : List (List ℕ)) (a : PlainAnswer) → due_after (Middle d most) n k (OpenSend 1 Packet) a ≡ behind (Middle d most) left k Opening (Some a)
middle_opened d most n k left agrees = refl
middle_opened d most n k left a = refl

last_opened : (d most n k : ℕ) (left : List (List ℕ)) (a : PlainAnswer) → due_after (Last d most) n k (OpenRecv 2 Packet) a ≡ behind (Last d most) left k Opening (Some a)
last_opened d most n k left agrees = refl
last_opened d most n k left a = refl

-- after the last line of the opening
opened : (role : Role) (n k m : ℕ) (line : CallLine) (a : PlainAnswer) → slice_get (opening role) m ≡ Some line → slice_get (opening role) (suc m) ≡ None → due_after role n k line.call a ≡ behind role (drop n (packets_of role)) k Opening (Some a)
opened (First packets) n k m line a at none =
    let same : open_send_line 0 ≡ line = end_is (once 0 (Create 1)) (connecting 0 ++ open_send_line 0 ∷ []) m line at none in
    subst (λ (l : CallLine). due_after (First packets) n k l.call a ≡ behind (First packets) (drop n packets) k Opening (Some a)) same (first_opened packets n k a)
opened (Middle d most) n k m line a at none =
    let same : open_send_line d ≡ line = end_is (once d (Create 1)) (once d (Create 2) ∷ (connecting d ++ open_recv_line d ∷ open_send_line d ∷ [])) m line at none in
    subst (λ (l : CallLine). due_after (Middle d most) n k l.call a ≡ behind (Middle d most) (drop n []) k Opening (Some a)) same (middle_opened d most n k (drop n []) a)
opened (Last d most) n k m line a at none =
    let same : open_recv_line d ≡ line = end_is (once d (Create 2)) (open_recv_line d ∷ []) m line at none in
    subst (λ (l : CallLine). due_after (Last d most) n k l.call a ≡ behind (Last d most) (drop n []) k Opening (Some a)) same (last_opened d most n k (drop n []) a)

-- before it
opened_next : (role : Role) (left : List (List ℕ)) (k : ℕ) (x : CallLine) (a : PlainAnswer) → cond (is_refused a) None (Some x) ≡ or_else (cond (was_refused (Some a)) None (Some x)) (behind role left k Opening (Some a))
opened_next role left k x (refuses w) = refl
opened_next role left k x a = refl

drop_same : {A : Type 0} (xs : List A) (m n : ℕ) → m ≡ n → drop m xs ≡ drop n xs
drop_same xs m n same = ap (λ k. drop k xs) same

opened_after : (lines : List CallLine) (n : ℕ) (x : CallLine) (a : PlainAnswer) (o : Option CallLine) → drop n lines ≡ x ∷ drop (suc n) lines → o ≡ cond (is_refused a) None (Some x) → cond (was_refused (Some a)) (x ∷ drop (suc n) lines) (drop (suc n) lines) ≡ drop (n + lines_asked o) lines
opened_after lines n x (refuses w) None here is = sym here ∙ drop_same lines n (n + 0) (omega arith)
opened_after lines n x (refuses w) (Some y) here is = absurd cc
opened_after lines n x a None here is = absurd cc
opened_after lines n x a (Some y) here is = drop_same lines (suc n) (n + 1) (omega arith)

no_next : (s : Step) (told : Option PlainAnswer) → opening_next s [] told ≡ None
no_next Opening told = refl
no_next s told = refl

no_after : (s : Step) (told : Option PlainAnswer) → opening_after s [] told ≡ []
no_after Opening told = refl
no_after s told = refl

none_dropped : (lines : List CallLine) (n : ℕ) (o : Option CallLine) → slice_get lines n ≡ None → [] ≡ drop (n + lines_asked o) lines
none_dropped lines n None none = sym (drop_past lines n none).0 ∙ drop_same lines n (n + 0) (omega arith)
none_dropped lines n (Some x) none = sym (drop_past lines n none).1 ∙ drop_same lines (suc n) (n + 1) (omega arith)

-- ---- counts

sends_one : (call : Call) → cond (is_send call) 1 0 ≡ sends_at (step_of call)
sends_one (PktSend port bytes) = refl
sends_one call = refl

receives_one : (call : Call) → cond (is_receive call) 1 0 ≡ receives_at (step_of call)
receives_one (PktRecv port) = refl
receives_one call = refl

pub sends_more : (log : List LoggedCall) (l : LoggedCall) → sends (log ++ l ∷ []) ≡ sends log + sends_at (step_of l.line.call)
sends_more log l = omega (arith, count-append (λ (k : LoggedCall). is_send k.line.call) log (l ∷ []), sends_one l.line.call)

pub receives_more : (log : List LoggedCall) (l : LoggedCall) → receives (log ++ l ∷ []) ≡ receives log + receives_at (step_of l.line.call)
receives_more log l = omega (arith, count-append (λ (k : LoggedCall). is_receive k.line.call) log (l ∷ []), receives_one l.line.call)

drop_twice : {A : Type 0} (m n : ℕ) (xs : List A) → drop m (drop n xs) ≡ drop (n + m) xs
drop_twice m n [] = ap (drop m) (drop-nil n) ∙ drop-nil m ∙ sym (drop-nil (n + m))
drop_twice m zero (x ∷ xs) = drop_same (x ∷ xs) m (0 + m) (omega arith)
drop_twice m (suc n) (x ∷ xs) = drop_twice m n xs ∙ drop_same (x ∷ xs) (suc (n + m)) (suc n + m) (omega arith)

pub fits_from : (role : Role) (early log : List LoggedCall) (l : LoggedCall) → FitsFrom role early log → due role (early ++ log) ≡ Some l.line → FitsFrom role early (log ++ l ∷ [])
fits_from role early [] l fits is = (subst (λ ls. due role ls ≡ Some l.line) (append-nil early) is, tt)
fits_from role early (k ∷ ks) l fits is = (fits.0, fits_from role (early ++ k ∷ []) ks l fits.1 (subst (λ ls. due role ls ≡ Some l.line) (sym (append_assoc early (k ∷ []) ks)) is))

-- ---- the first line

record Begins (role : Role) : Type 0 where
  line : CallLine
  others : List CallLine
  opens_so : opening role ≡ line ∷ others
  due_so : due role [] ≡ Some line

begins : (role : Role) → Begins role
begins (First packets) = record { line = once 0 (Create 1); others = connecting 0 ++ open_send_line 0 ∷ []; opens_so = refl; due_so = refl }
begins (Middle d most) = record { line = once d (Create 1); others = once d (Create 2) ∷ (connecting d ++ open_recv_line d ∷ open_send_line d ∷ []); opens_so = refl; due_so = refl }
begins (Last d most) = record { line = once d (Create 2); others = open_recv_line d ∷ []; opens_so = refl; due_so = refl }

-- ---- after an answer

module _ (role : Role) (p : Place) (line : CallLine) (log : List LoggedCall) (f : FitsRelay role p (Some line) log) (a : PlainAnswer) where
  abbrev answered : LoggedCall
  answered = logged line a

  abbrev now : List LoggedCall
  now = log ++ answered ∷ []

  -- the line due, and the lines of the opening that are left then
  record Follows : Type 0 where
    line_due : due role now ≡ next_line role p (Some a)
    left_then : opening_after p.step p.opening_left (Some a) ≡ drop (length now + lines_asked (next_line role p (Some a))) (opening role)

  left_is : p.opening_left ≡ drop (length now) (opening role)
  left_is = f.opening_left ∙ ap (λ n. drop n (opening role)) (omega (arith, one_longer log answered))

  -- in the opening
  within : (x : CallLine) → slice_get (opening role) (length now) ≡ Some x → Follows
  within x at =
      let early = before (opening role) (length log) x (ap (slice_get (opening role)) (sym (one_longer log answered)) ∙ at) in
      let same : early.0 ≡ line = in_opening early.0 line (last_call log) (sym (ap (due_by role log) early.1) ∙ f.stands.0) in
      let there : slice_get (opening role) (length log) ≡ Some line = early.1 ∙ ap (λ (l : CallLine). Some l) same in
      let step : p.step ≡ Opening = f.stands.1 ∙ opening_step (opening role) (length log) line (opening_plain role) there in
      let here : drop (length now) (opening role) ≡ x ∷ drop (suc (length now)) (opening role) = drop_at_line (opening role) (length now) x at in
      let left : p.opening_left ≡ x ∷ drop (suc (length now)) (opening role) = left_is ∙ here in
      let is_due : due role now ≡ cond (is_refused a) None (Some x) = ap (due_by role now) at ∙ ap (due_in_opening x) (last_more None log answered) in
      let next : due role now ≡ next_line role p (Some a) =
      is_due
      ∙ opened_next role p.packets_left p.receives_asked x a
      ∙ sym (ap₂ (λ (s : Step) (ls : List CallLine). or_else (opening_next s ls (Some a)) (behind role p.packets_left p.receives_asked s (Some a))) step left) in
      record {
        line_due = next;
        left_then =
            ap₂ (λ (s : Step) (ls : List CallLine). opening_after s ls (Some a)) step left
            ∙ opened_after (opening role) (length now) x a (next_line role p (Some a)) here (sym next ∙ is_due);
      }

  counted : (n k : ℕ) (s : Step) → n ≡ sends now → k ≡ receives now → p.step ≡ s → due_after role n k line.call a ≡ behind role (drop n (packets_of role)) k s (Some a) → due_after role (sends now) (receives now) line.call a ≡ behind role p.packets_left p.receives_asked p.step (Some a)
  counted n k s same_n same_k step is =
      let packets : drop n (packets_of role) ≡ p.packets_left = sym (f.packets_left ∙ ap (λ (m : ℕ). drop m (packets_of role)) (sym (sends_more log answered) ∙ sym same_n)) in
      let asked : k ≡ p.receives_asked = same_k ∙ receives_more log answered ∙ sym f.receives_asked in
      ap₂ (λ (m j : ℕ). due_after role m j line.call a) (sym same_n) (sym same_k)
      ∙ is
      ∙ ap₂ (λ (ps : List (List ℕ)) (j : ℕ). behind role ps j s (Some a)) packets asked
      ∙ ap (λ (t : Step). behind role p.packets_left p.receives_asked t (Some a)) (sym step)

  -- by the place of the line in the opening
  by_place : (o : Option CallLine) → slice_get (opening role) (length log) ≡ o → slice_get (opening role) (length now) ≡ None → due_after role (sends now) (receives now) line.call a ≡ behind role p.packets_left p.receives_asked p.step (Some a)
  by_place (Some early) there none =
      let same : early ≡ line = in_opening early line (last_call log) (sym (ap (due_by role log) there) ∙ f.stands.0) in
      let at : slice_get (opening role) (length log) ≡ Some line = there ∙ ap (λ (l : CallLine). Some l) same in
      let step : p.step ≡ Opening = f.stands.1 ∙ opening_step (opening role) (length log) line (opening_plain role) at in
      counted (sends now) (receives now) Opening refl refl step (opened role (sends now) (receives now) (length log) line a at (ap (slice_get (opening role)) (sym (one_longer log answered)) ∙ none))
  by_place None there none =
      let is_behind : IsBehind line.call = subst AnyBehind (sym (ap (due_by role log) there) ∙ f.stands.0) (log_behind role log (last_call log)) in
      counted (sends now) (receives now) (step_of line.call) refl refl f.stands.1 (of_role role (sends now) (receives now) line.call a is_behind)

  -- behind it
  pub past_line : slice_get (opening role) (length now) ≡ None → next_line role p (Some a) ≡ behind role p.packets_left p.receives_asked p.step (Some a)
  past_line none =
      ap (λ (ls : List CallLine). or_else (opening_next p.step ls (Some a)) (behind role p.packets_left p.receives_asked p.step (Some a))) (left_is ∙ (drop_past (opening role) (length now) none).0)
      ∙ ap (λ (o : Option CallLine). or_else o (behind role p.packets_left p.receives_asked p.step (Some a))) (no_next p.step (Some a))

  past : slice_get (opening role) (length now) ≡ None → Follows
  past none =
      let left : p.opening_left ≡ [] = left_is ∙ (drop_past (opening role) (length now) none).0 in
      record {
        line_due = ap (due_by role now) none ∙ ap (due_behind role now) (last_more None log answered) ∙ by_place (slice_get (opening role) (length log)) refl none ∙ sym (past_line none);
        left_then =
            ap (λ (ls : List CallLine). opening_after p.step ls (Some a)) left
            ∙ no_after p.step (Some a)
            ∙ none_dropped (opening role) (length now) (next_line role p (Some a)) none;
      }

  follows : Follows
  follows = go (slice_get (opening role) (length now)) refl
    where
      go : (o : Option CallLine) → slice_get (opening role) (length now) ≡ o → Follows
      go (Some x) at = within x at
      go None none = past none

  pub fits_now : FitsRole role now
  fits_now = fits_from role [] log answered f.fits f.stands.0

stands_at : (role : Role) (log : List LoggedCall) (o : Option CallLine) (s : Step) → due role log ≡ o → s ≡ step_for o → Stands role s o log
stands_at role log (Some x) s is step = (is, step)
stands_at role log None s is step = subst (λ (t : Step). Stands role t None log) (sym step) is

module _ (role : Role) (p : Place) (next : Option CallLine) (q : Place) where
  fits_next : (line : CallLine) (log : List LoggedCall) (a : PlainAnswer) → FitsRelay role p (Some line) log → GoesOn role p (Some a) next q → FitsRelay role q next (log ++ logged line a ∷ [])
  fits_next line log a f goes =
      let after = follows role p line log f a in
      let ls : List LoggedCall = log ++ logged line a ∷ [] in
      record {
        fits = fits_now role p line log f a;
        stands = stands_at role ls next q.step (after.line_due ∙ sym goes.line) goes.step;
        opening_left = goes.opening_left ∙ after.left_then ∙ ap (λ (o : Option CallLine). drop (length ls + lines_asked o) (opening role)) (sym goes.line);
        packets_left =
            goes.packets_left
            ∙ ap (drop (sends_at (step_for next))) (f.packets_left ∙ ap (λ (m : ℕ). drop m (packets_of role)) (sym (sends_more log (logged line a))))
            ∙ drop_twice (sends_at (step_for next)) (sends ls) (packets_of role);
        receives_asked = omega (arith, goes.receives_asked, f.receives_asked, receives_more log (logged line a));
      }

  -- ---- before the first line, and after the last

  fits_begun : FitsRelay role p None [] → p.step ≡ Opening → GoesOn role p None next q → FitsRelay role q next []
  fits_begun f step goes =
      let b = begins role in
      let left : p.opening_left ≡ b.line ∷ b.others = f.opening_left ∙ b.opens_so in
      let is : next ≡ Some b.line =
      goes.line
      ∙ ap₂ (λ (s : Step) (ls : List CallLine). or_else (opening_next s ls None) (behind role p.packets_left p.receives_asked s None)) step left in
      record {
        fits = tt;
        stands = stands_at role [] next q.step (b.due_so ∙ sym is) goes.step;
        opening_left =
            goes.opening_left
            ∙ ap₂ (λ (s : Step) (ls : List CallLine). opening_after s ls None) step left
            ∙ sym (ap₂ (λ (o : Option CallLine) (ls : List CallLine). drop (0 + lines_asked o) ls) is b.opens_so);
        packets_left = goes.packets_left ∙ ap (drop (sends_at (step_for next))) f.packets_left ∙ drop_twice (sends_at (step_for next)) 0 (packets_of role);
        receives_asked = omega (arith, goes.receives_asked, f.receives_asked);
      }

  fits_ended : (log : List LoggedCall) → FitsRelay role p None log → p.step ≡ Ended → due role log ≡ None → GoesOn role p None next q → FitsRelay role q next log
  fits_ended log f step none goes =
      let is : next ≡ None = goes.line ∙ ap (λ (s : Step). or_else (opening_next s p.opening_left None) (behind role p.packets_left p.receives_asked s None)) step in
      record {
        fits = f.fits;
        stands = stands_at role log next q.step (none ∙ sym is) goes.step;
        opening_left =
            goes.opening_left
            ∙ ap (λ (s : Step). opening_after s p.opening_left None) step
            ∙ f.opening_left
            ∙ sym (ap (λ (o : Option CallLine). drop (length log + lines_asked o) (opening role)) is);
        packets_left =
            goes.packets_left
            ∙ ap (drop (sends_at (step_for next))) f.packets_left
            ∙ drop_twice (sends_at (step_for next)) (sends log + 0) (packets_of role)
            ∙ drop_same (packets_of role) (sends log + 0 + sends_at (step_for next)) (sends log + sends_at (step_for next)) (omega arith);
        receives_asked = omega (arith, goes.receives_asked, f.receives_asked);
      }

  fits_unasked : (log : List LoggedCall) (s : Step) → p.step ≡ s → Stands role s None log → FitsRelay role p None log → GoesOn role p None next q → FitsRelay role q next log
  fits_unasked log Opening step none f goes = subst (FitsRelay role q next) (sym none) (fits_begun (subst (FitsRelay role p None) none f) step goes)
  fits_unasked log Ended step none f goes = fits_ended log f step none goes
  fits_unasked log s step none f goes = absurd none

  -- the actor after its next line fits the log so far
  pub fits_after : (asked : Option CallLine) (told : Option PlainAnswer) (log : List LoggedCall) → IsToldFor asked told → FitsRelay role p asked log → GoesOn role p told next q → FitsRelay role q next (log_so_far log asked told)
  fits_after (Some line) (Some a) log fit f goes = fits_next line log a f goes
  fits_after None None log fit f goes = fits_unasked log p.step refl f.stands f goes
  fits_after None (Some a) log fit f goes = absurd fit
  fits_after (Some line) None log fit f goes = absurd fit

some_none : {A : Type 0} (x : A) → Some x ≡ None → ⊥
some_none x same = cc

-- ---- after the opening

-- after a log as long as the opening the next line is one behind it, and as many receives were called as were asked for
pub past_next : (role : Role) (p : Place) (asked : Option CallLine) (told : Option PlainAnswer) (log : List LoggedCall) → IsToldFor asked told → FitsRelay role p asked log → slice_get (opening role) (length (log_so_far log asked told)) ≡ None
    → next_line role p told ≡ behind role p.packets_left p.receives_asked p.step told
past_next role p (Some line) (Some a) log fit f none = past_line role p line log f a none
past_next role p None None log fit f none = go p.step refl f.stands
  where
    go : (s : Step) → p.step ≡ s → Stands role s None log → next_line role p None ≡ behind role p.packets_left p.receives_asked p.step None
    go Opening step is =
        let b = begins role in
        let at : slice_get (opening role) (length log) ≡ Some b.line = ap₂ (λ (ls : List CallLine) (ks : List LoggedCall). slice_get ls (length ks)) b.opens_so is in
        absurd (some_none b.line (sym at ∙ none))
    go Ended step is = ap (λ (s : Step). or_else (opening_next s p.opening_left None) (behind role p.packets_left p.receives_asked p.step None)) step
    go s step is = absurd is
past_next role p None (Some a) log fit f none = absurd fit
past_next role p (Some line) None log fit f none = absurd fit

pub asked_receives : (role : Role) (p : Place) (asked : Option CallLine) (told : Option PlainAnswer) (log : List LoggedCall) → IsToldFor asked told → FitsRelay role p asked log → receives (log_so_far log asked told) ≡ p.receives_asked
asked_receives role p (Some line) (Some a) log fit f = receives_more log (logged line a) ∙ sym f.receives_asked
asked_receives role p None None log fit f = omega (arith, f.receives_asked)
asked_receives role p None (Some a) log fit f = absurd fit
asked_receives role p (Some line) None log fit f = absurd fit

-- ---- the end

ended : (role : Role) (q : Place) (next : Option CallLine) (log : List LoggedCall) → next ≡ None → q.step ≡ step_for next → FitsRelay role q next log → due role log ≡ None
ended role q None log none step f = subst (λ (s : Step). Stands role s None log) step f.stands
ended role q (Some line) log none step f = absurd cc

none_given : {A : Type 0} (o : Option A) (P : Type 0) → (o ≡ None → P) → IfNone o P
none_given None P given = given refl
none_given (Some x) P given = tt

pub ends_after : (role : Role) (p : Place) (asked : Option CallLine) (told : Option PlainAnswer) (next : Option CallLine) (q : Place) → IsToldFor asked told → GoesOn role p told next q
    → IfNone next ((log : List LoggedCall) → FitsRelay role p asked log → HasEnded role (log_so_far log asked told))
ends_after role p asked told next q fit goes =
    none_given next _ (λ none log f. ended role q next (log_so_far log asked told) none goes.step (fits_after role p next q asked told log fit f goes))

-- ---- before the first line

pub fits_new : (role : Role) (p : Place) → p.step ≡ Opening → p.opening_left ≡ opening role → p.packets_left ≡ packets_of role → p.receives_asked ≡ 0 → FitsRelay role p None []
fits_new role p step opening_is packets_are none = record {
  fits = tt;
  stands = subst (λ (s : Step). Stands role s None []) (sym step) refl;
  opening_left = opening_is;
  packets_left = packets_are;
  receives_asked = none;
}
