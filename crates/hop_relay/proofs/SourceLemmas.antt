-- A log that fits the first domain's role sends the packets in their order: as many of them as its sends were answered `ok`.
use Rattle.std.proofs.Common.{◌≡◌, ℕ, ◌+◌, true, false, cond, List, [], ◌∷◌, ◌++◌, length, slice_get, Option, Some, None, refl, ap, sym, subst, ◌∙◌, arith, append_assoc, append-nil, length-append}
use Rattle.std.specs.Prelude.{◌==◌}
use Rattle.board_model.specs.declared.scenario.Call.{Call}
use Rattle.board_model.specs.declared.scenario.Call.TheVariants.{OpenSend, PktSend}
use Rattle.board_model.specs.declared.scenario.CallLine.{CallLine}
use Rattle.board_model.specs.Journal.{PlainAnswer, agrees}
use Rattle.board_model.specs.Lists.{IsPrefix}
use Rattle.board_model.specs.Logs.{LoggedCall}
use Rattle.board_model.proofs.ListsCounts.{count-append}
use Rattle.hop_relay.specs.declared.role.Role.TheVariants.{First}
use Rattle.hop_relay.specs.Roles.{is_send, sends, receives, next_packet, due_after, FitsRole}
use Rattle.hop_relay.specs.Hop.{sent_by, sent}
use Rattle.hop_relay.proofs.RoleLogs.{sent_more, IsPlain, PlainOrNone, along_role}

-- ---- what is left to send, by the line that is due, where so many sends were called

-- the next packet is that of the send that is due
record IsNext (port : ℕ) (bytes : List ℕ) (n : ℕ) (front rest : List (List ℕ)) : Type 0 where
  at : (port == 1) ≡ true
  called : n ≡ length front
  more : List (List ℕ)
  begins : rest ≡ bytes ∷ more

abbrev NextCall : Call → ℕ → List (List ℕ) → List (List ℕ) → Type 0
NextCall (PktSend port bytes) n front rest = IsNext port bytes n front rest
NextCall other n front rest = n ≡ length front

abbrev Next : Option CallLine → ℕ → List (List ℕ) → List (List ℕ) → Type 0
Next None n front rest = Unit {0}
Next (Some line) n front rest = NextCall line.call n front rest

front_there : (front rest : List (List ℕ)) → slice_get (front ++ rest) (length front) ≡ slice_get rest 0
front_there [] rest = refl
front_there (x ∷ xs) rest = front_there xs rest

plain_next : (o : Option CallLine) (n : ℕ) (front rest : List (List ℕ)) → PlainOrNone o → n ≡ length front → Next o n front rest
plain_next None n front rest plain called = tt
plain_next (Some line) n front rest plain called = go line.call plain
  where
    go : (call : Call) → IsPlain call → NextCall call n front rest
    go (PktSend port bytes) is = absurd is
    go call is = called

plain_called : (call : Call) (n : ℕ) (front rest : List (List ℕ)) → IsPlain call → NextCall call n front rest → n ≡ length front
plain_called (PktSend port bytes) n front rest plain next = absurd plain
plain_called call n front rest plain next = next

plain_sends : (call : Call) → IsPlain call → is_send call ≡ false
plain_sends (PktSend port bytes) plain = absurd plain
plain_sends call plain = refl

plain_sent : (call : Call) (a : PlainAnswer) → IsPlain call → sent_by call a ≡ []
plain_sent (PktSend port bytes) a plain = absurd plain
plain_sent call a plain = refl

more_sends : (log : List LoggedCall) (l : LoggedCall) → sends (log ++ l ∷ []) ≡ sends log + cond (is_send l.line.call) 1 0
more_sends log l = omega (arith, count-append (λ (k : LoggedCall). is_send k.line.call) log (l ∷ []))

module _ (packets : List (List ℕ)) where
  -- the packets are what was sent and what is left
  record Out (n : ℕ) (next : Option CallLine) (front : List (List ℕ)) : Type 0 where
    rest : List (List ℕ)
    kept : packets ≡ front ++ rest
    due_is : Next next n front rest

  next_is : (n : ℕ) (front rest : List (List ℕ)) → packets ≡ front ++ rest → n ≡ length front → Next (Some (next_packet (slice_get packets n))) n front rest
  next_is n front rest kept called = subst (λ o. Next (Some (next_packet o)) n front rest) (sym (ap (slice_get packets) called ∙ ap (λ ps. slice_get ps (length front)) kept ∙ front_there front rest)) (go rest)
    where
      go : (ps : List (List ℕ)) → Next (Some (next_packet (slice_get ps 0))) n front ps
      go [] = called
      go (p ∷ ps) = record { at = refl; called = called; more = ps; begins = refl }

  same_front : (front rest more : List (List ℕ)) → more ≡ [] → packets ≡ front ++ rest → packets ≡ (front ++ more) ++ rest
  same_front front rest more none kept = kept ∙ ap (λ xs. xs ++ rest) (sym (ap (λ ys. front ++ ys) none ∙ append-nil front))

  -- after the opening
  sent_out : (port : ℕ) (bytes : List ℕ) (n k : ℕ) (front rest : List (List ℕ)) → packets ≡ front ++ rest → IsNext port bytes n front rest → Out (n + 1) (due_after (First packets) (n + 1) k (PktSend port bytes) agrees) (front ++ cond (port == 1) (bytes ∷ []) [])
  sent_out port bytes n k front rest kept next =
      let now : packets ≡ (front ++ bytes ∷ []) ++ next.more = kept ∙ ap (λ ps. front ++ ps) next.begins ∙ sym (append_assoc front (bytes ∷ []) next.more) in
      let called : n + 1 ≡ length (front ++ bytes ∷ []) = omega (arith, length-append front (bytes ∷ []), next.called) in
      subst (λ b. Out (n + 1) (due_after (First packets) (n + 1) k (PktSend port bytes) agrees) (front ++ cond b (bytes ∷ []) [])) (sym next.at)
      (record { rest = next.more; kept = now; due_is = next_is (n + 1) (front ++ bytes ∷ []) next.more now called })

  behind : (n k : ℕ) (call : Call) (a : PlainAnswer) (front rest : List (List ℕ)) → packets ≡ front ++ rest → NextCall call n front rest → Out (n + cond (is_send call) 1 0) (due_after (First packets) (n + cond (is_send call) 1 0) k call a) (front ++ sent_by call a)
  behind n k (PktSend port bytes) agrees front rest kept next = sent_out port bytes n k front rest kept next
  behind n k (PktSend port bytes) a front rest kept next = record { rest = rest; kept = same_front front rest [] refl kept; due_is = tt }
  behind n k (OpenSend port kind) agrees front rest kept next =
      let now : packets ≡ (front ++ []) ++ rest = same_front front rest [] refl kept in
      record { rest = rest; kept = now; due_is = next_is (n + 0) (front ++ []) rest now (omega (arith, ap length (append-nil front), next)) }
  behind n k call a front rest kept next = record { rest = rest; kept = same_front front rest [] refl kept; due_is = tt }

  -- ---- along a log

  abbrev Sends : List LoggedCall → Option CallLine → Type 0
  Sends log o = Out (sends log) o (sent log)

  same_out : (n m : ℕ) (o : Option CallLine) (front back : List (List ℕ)) → m ≡ n → back ≡ front → Out n o front → Out m o back
  same_out n m o front back count list out = subst (λ k. Out k o back) (sym count) (subst (Out n o) (sym list) out)

  opens : (log : List LoggedCall) (l : LoggedCall) (o : Option CallLine) → IsPlain l.line.call → PlainOrNone o → Sends log (Some l.line) → Sends (log ++ l ∷ []) o
  opens log l o own plain a =
      let count : sends (log ++ l ∷ []) ≡ sends log = omega (arith, more_sends log l, ap {B = ℕ} (λ b. cond b 1 0) (plain_sends l.line.call own)) in
      let list : sent (log ++ l ∷ []) ≡ sent log = sent_more log l ∙ ap (λ xs. sent log ++ xs) (plain_sent l.line.call l.answer own) ∙ append-nil (sent log) in
      same_out (sends log) (sends (log ++ l ∷ [])) o (sent log) (sent (log ++ l ∷ [])) count list
      (record { rest = a.rest; kept = a.kept; due_is = plain_next o (sends log) (sent log) a.rest plain (plain_called l.line.call (sends log) (sent log) a.rest own a.due_is) })

  follows : (log : List LoggedCall) (l : LoggedCall) → Sends log (Some l.line) → Sends (log ++ l ∷ []) (due_after (First packets) (sends (log ++ l ∷ [])) (receives (log ++ l ∷ [])) l.line.call l.answer)
  follows log l a =
      let n : ℕ = sends log + cond (is_send l.line.call) 1 0 in
      let k : ℕ = receives (log ++ l ∷ []) in
      subst (λ m. Out m (due_after (First packets) m k l.line.call l.answer) (sent (log ++ l ∷ []))) (sym (more_sends log l))
      (subst (Out n (due_after (First packets) n k l.line.call l.answer)) (sym (sent_more log l)) (behind (sends log) k l.line.call l.answer (sent log) a.rest a.kept a.due_is))

  pub sends_first : (log : List LoggedCall) → FitsRole (First packets) log → IsPrefix (sent log) packets
  sends_first log fits =
      let a = along_role (First packets) Sends (tt, (tt, (tt, (tt, (tt, (tt, tt)))))) opens follows (record { rest = packets; kept = refl; due_is = refl }) log fits in
      (a.rest, a.kept)
