-- Calls stay known, and a client's last call stays the last until the next is carried out.
use Rattle.std.proofs.Common.{◌≡◌, ℕ, ◌+◌, true, false, not, ◌==◌, inl, inr, List, [], ◌∷◌, ◌++◌, Some, refl, ap, sym, ◌∙◌, arith, eq-eqb}
use Rattle.std.proofs.lemmas.Bool.{eqb-true, cases_Bool, cond-true, and_parts, not-true}
use Rattle.call_service.specs.declared.carried.Carried.{Carried}
use Rattle.call_service.specs.declared.request.Request.{Request}
use Rattle.call_service.specs.Served.{AreNumbered, calls_of, last_of, is_known, is_next, next_number, carried_out, served, stays, grows, reply_again, reply_of, history_from, history}
use Rattle.call_service.specs.OnceLaw.{first_times}
use Rattle.call_service.proofs.Numbers.{last_among, last_number, among-more}
use Rattle.call_service.proofs.Histories.{calls-own, calls-other, last-own, last-other, carried_client, carried_number, served-known, served-next, after_any, numbered_after, numbered_from, history-append}

-- ---- what is known

known-more : (client number : ℕ) (h : List Carried) (e : Carried) → is_known client number h ≡ true → is_known client number (h ++ e ∷ []) ≡ true
known-more client number h e known =
    elim (cases_Bool (e.client == client)) [
      | inl own ↦ rw (calls-own client h e own) (among-more number (calls_of client h) (e ∷ []) known)
      | inr other ↦ rw (calls-other client h e other) known
    ]

known_from : (client number : ℕ) (h : List Carried) (rs : List Request) → is_known client number h ≡ true → is_known client number (history_from h rs) ≡ true
known_from client number h [] known = known
known_from client number h (r ∷ rs) known =
    known_from client number (served h r).history rs (after_any (λ x. is_known client number x ≡ true) h r known (λ new next. known-more client number h (carried_out h r) known))

-- ---- the last call

new_known : (h : List Carried) (e : Carried) → is_known e.client e.number (h ++ e ∷ []) ≡ true
new_known h e = last_among e.number (calls_of e.client (h ++ e ∷ [])) e (last-own e.client h e (eq-eqb e.client e.client refl)) refl

abbrev IsLast : ℕ → Carried → List Carried → Type 0
IsLast client e h = last_of client h ≡ Some e

next_after : (client : ℕ) (h : List Carried) (e : Carried) → AreNumbered h → IsLast client e h → next_number client h ≡ e.number + 1
next_after client h e numbered last = let at = last_number 1 (calls_of client h) e (numbered client) last in omega (arith, at)

-- a client's next call would be known from then on
stays_last : (client : ℕ) (e : Carried) (h : List Carried) (rs : List Request) → AreNumbered h → IsLast client e h → is_known client (e.number + 1) (history_from h rs) ≡ false → IsLast client e (history_from h rs)
stays_last client e h [] numbered last unknown = last
stays_last client e h (r ∷ rs) numbered last unknown =
    stays_last client e (served h r).history rs (numbered_after h r numbered) (after_any (IsLast client e) h r last grown) unknown
  where
    grown : is_known r.client r.number h ≡ false → r.number ≡ next_number r.client h → IsLast client e (h ++ carried_out h r ∷ [])
    grown new next =
        elim (cases_Bool (r.client == client)) [
          | inl own ↦
              let its = eqb-true r.client client own in
              let client_is : (carried_out h r).client ≡ client = carried_client h r ∙ its in
              let number_is : (carried_out h r).number ≡ e.number + 1 = carried_number h r ∙ next ∙ ap (λ k. next_number k h) its ∙ next_after client h e numbered last in
              let after = served-next h r new (eq-eqb r.number (next_number r.client h) next) in
              let known : is_known client (e.number + 1) (served h r).history ≡ true =
              ap (λ s. is_known client (e.number + 1) s.history) after
              ∙ ap (λ k. is_known k (e.number + 1) (h ++ carried_out h r ∷ [])) (sym client_is)
              ∙ ap (λ n. is_known (carried_out h r).client n (h ++ carried_out h r ∷ [])) (sym number_is)
              ∙ new_known h (carried_out h r) in
              let always = known_from client (e.number + 1) (served h r).history rs known in
              absurd cc
          | inr other ↦ last-other client h (carried_out h r) (ap (λ c. c == client) (carried_client h r) ∙ other) ∙ last
        ]

-- ---- the laws

again_is : (number : ℕ) (e : Carried) → number ≡ e.number → reply_again number (Some e) ≡ reply_of e
again_is number e is = cond-true (e.number == number) (reply_of e) _ (let t = eq-eqb e.number number (sym is) in t)

reply_kept : (h : List Carried) (r : Request) (e : Carried) → last_of r.client h ≡ Some e → r.number ≡ e.number → served h r ≡ stays (reply_of e) h
reply_kept h r e last is =
    served-known h r (last_among r.number (calls_of r.client h) e last (sym is))
    ∙ ap (λ o. stays (reply_again r.number o) h) last
    ∙ ap (λ p. stays p h) (again_is r.number e is)

is_unknown : (h : List Carried) (r : Request) → is_next h r ≡ true → is_known r.client r.number h ≡ false
is_unknown h r next = not-true (is_known r.client r.number h) (and_parts (not (is_known r.client r.number h)) (r.number == next_number r.client h) next).0

pub carries_out : (h : List Carried) (r : Request) → is_next h r ≡ true → served h r ≡ grows (carried_out h r) h
carries_out h r next = served-next h r (is_unknown h r next) (and_parts (not (is_known r.client r.number h)) (r.number == next_number r.client h) next).1

pub first_reply : (before between : List Request) (r again : Request) → is_next (history before) r ≡ true → again.client ≡ r.client → again.number ≡ r.number → is_known r.client (r.number + 1) (history (before ++ r ∷ between)) ≡ false → served (history (before ++ r ∷ between)) again ≡ stays (served (history before) r).reply (history (before ++ r ∷ between))
first_reply before between r again next client number unknown =
    let h = history before in
    let e = carried_out h r in
    let done = carries_out h r next in
    let all : history (before ++ r ∷ between) ≡ history_from (h ++ e ∷ []) between = history-append [] before (r ∷ between) ∙ ap (λ s. history_from s.history between) done in
    let numbered : AreNumbered (h ++ e ∷ []) = ap_numbered h r done (numbered_after h r (numbered_from [] before (λ client. refl))) in
    let number_is : e.number ≡ r.number = carried_number h r in
    let last : IsLast r.client e (h ++ e ∷ []) = last-own r.client h e (eq-eqb e.client r.client (carried_client h r)) in
    let unknown_here : is_known r.client (e.number + 1) (history_from (h ++ e ∷ []) between) ≡ false =
    ap (λ n. is_known r.client (n + 1) (history_from (h ++ e ∷ []) between)) number_is
    ∙ ap (λ x. is_known r.client (r.number + 1) x) (sym all)
    ∙ unknown in
    let stays_so : last_of again.client (history_from (h ++ e ∷ []) between) ≡ Some e = ap (λ c. last_of c (history_from (h ++ e ∷ []) between)) client ∙ stays_last r.client e (h ++ e ∷ []) between numbered last unknown_here in
    ap (λ x. served x again) all
    ∙ reply_kept (history_from (h ++ e ∷ []) between) again e stays_so (number ∙ sym number_is)
    ∙ ap (λ x. stays (reply_of e) x) (sym all)
    ∙ ap (λ s. stays s.reply (history (before ++ r ∷ between))) (sym done)
  where
    ap_numbered : (h : List Carried) (r : Request) → served h r ≡ grows (carried_out h r) h → AreNumbered (served h r).history → AreNumbered (h ++ carried_out h r ∷ [])
    ap_numbered h r done numbered = rw (ap (λ s. s.history) (sym done)) numbered

-- ---- repeats left out

pub one_left_out : (before after : List Request) (r : Request) → is_known r.client r.number (history before) ≡ true → history (before ++ r ∷ after) ≡ history (before ++ after)
one_left_out before after r known =
    history-append [] before (r ∷ after)
    ∙ ap (λ s. history_from s.history after) (served-known (history before) r known)
    ∙ sym (history-append [] before after)

first_known : (h : List Carried) (r : Request) (rs : List Request) → is_known r.client r.number h ≡ true → first_times h (r ∷ rs) ≡ first_times h rs
first_known h r rs known = rw known refl

first_new : (h : List Carried) (r : Request) (rs : List Request) → is_known r.client r.number h ≡ false → first_times h (r ∷ rs) ≡ r ∷ first_times (served h r).history rs
first_new h r rs new = rw new refl

pub all_left_out : (h : List Carried) (rs : List Request) → history_from h (first_times h rs) ≡ history_from h rs
all_left_out h [] = refl
all_left_out h (r ∷ rs) =
    elim (cases_Bool (is_known r.client r.number h)) [
      | inl known ↦ ap (history_from h) (first_known h r rs known) ∙ all_left_out h rs ∙ ap (λ s. history_from s.history rs) (sym (served-known h r known))
      | inr new ↦ ap (history_from h) (first_new h r rs new) ∙ all_left_out (served h r).history rs
    ]
