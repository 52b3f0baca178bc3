-- What a request does to a history.
use Rattle.std.proofs.Common.{◌≡◌, ℕ, ◌+◌, true, false, cond, ◌==◌, inl, inr, List, [], ◌∷◌, ◌++◌, length, map, filter, sum, Some, None, refl, ap, sym, ◌∙◌, arith, eq-eqb, nat_lt, ◌^◌}
use Rattle.std.proofs.lemmas.Bool.{eqb-true, cases_Bool}
use Rattle.std.proofs.lemmas.List.Elements.{filter-append}
use Rattle.std.proofs.lemmas.List.{append-nil, map-append}
use Rattle.std.proofs.lemmas.List.Sums.{sum_by-append}
use Rattle.call_service.specs.declared.carried.Carried.{Carried}
use Rattle.call_service.specs.declared.reply.Status.TheVariants.{Gap}
use Rattle.call_service.specs.declared.request.Request.{Request}
use Rattle.call_service.specs.Served.{AreNumbered, adds_to, value, calls_of, last_after, last_of, is_known, next_number, call_made, carried_out, served, stays, grows, reply, reply_again, history_from}
use Rattle.call_service.proofs.Numbers.{rises-more, last-more}

-- ---- one call more

pub calls-own : (c : ℕ) (h : List Carried) (e : Carried) → (e.client == c) ≡ true → calls_of c (h ++ e ∷ []) ≡ calls_of c h ++ e ∷ []
calls-own c h e is = filter-append (λ (x : Carried). x.client == c) h (e ∷ []) ∙ ap (λ b. calls_of c h ++ cond b (e ∷ []) []) is

pub calls-other : (c : ℕ) (h : List Carried) (e : Carried) → (e.client == c) ≡ false → calls_of c (h ++ e ∷ []) ≡ calls_of c h
calls-other c h e is = filter-append (λ (x : Carried). x.client == c) h (e ∷ []) ∙ ap (λ b. calls_of c h ++ cond b (e ∷ []) []) is ∙ append-nil (calls_of c h)

pub last-own : (c : ℕ) (h : List Carried) (e : Carried) → (e.client == c) ≡ true → last_of c (h ++ e ∷ []) ≡ Some e
last-own c h e is = ap (last_after None) (calls-own c h e is) ∙ last-more None (calls_of c h) e

pub last-other : (c : ℕ) (h : List Carried) (e : Carried) → (e.client == c) ≡ false → last_of c (h ++ e ∷ []) ≡ last_of c h
last-other c h e is = ap (last_after None) (calls-other c h e is)

pub numbered-more : (h : List Carried) (e : Carried) → AreNumbered h → e.number ≡ next_number e.client h → AreNumbered (h ++ e ∷ [])
numbered-more h e numbered next c =
    elim (cases_Bool (e.client == c)) [
      | inl own ↦ rw (calls-own c h e own) (rises-more 1 (calls_of c h) e (numbered c) (next ∙ ap (λ k. length (calls_of k h) + 1) (eqb-true e.client c own) ∙ omega arith))
      | inr other ↦ rw (calls-other c h e other) (numbered c)
    ]

pub value-own : (h : List Carried) (e : Carried) (cell : ℕ) → adds_to cell e ≡ true → value (h ++ e ∷ []) cell ≡ value h cell + e.amount
value-own h e cell adds =
    ap (λ xs. sum (map (λ (x : Carried). x.amount) xs)) (filter-append (adds_to cell) h (e ∷ []) ∙ ap (λ b. filter (adds_to cell) h ++ cond b (e ∷ []) []) adds)
    ∙ ap sum (map-append (λ (x : Carried). x.amount) (filter (adds_to cell) h) (e ∷ []))
    ∙ sum_by-append (λ n. n) (map (λ (x : Carried). x.amount) (filter (adds_to cell) h)) (e.amount ∷ [])
    ∙ omega arith

pub value-other : (h : List Carried) (e : Carried) (cell : ℕ) → adds_to cell e ≡ false → value (h ++ e ∷ []) cell ≡ value h cell
value-other h e cell adds =
    ap (λ xs. sum (map (λ (x : Carried). x.amount) xs)) (filter-append (adds_to cell) h (e ∷ []) ∙ ap (λ b. filter (adds_to cell) h ++ cond b (e ∷ []) []) adds ∙ append-nil (filter (adds_to cell) h))

-- ---- the call that a request makes

pub carried_client : (h : List Carried) (r : Request) → (carried_out h r).client ≡ r.client
carried_client h r = elim (cases_Bool (nat_lt (value h r.cell + r.amount) (2 ^ 64))) [ inl fits ↦ rw fits refl | inr over ↦ rw over refl ]

pub carried_number : (h : List Carried) (r : Request) → (carried_out h r).number ≡ r.number
carried_number h r = elim (cases_Bool (nat_lt (value h r.cell + r.amount) (2 ^ 64))) [ inl fits ↦ rw fits refl | inr over ↦ rw over refl ]

pub carried_cell : (h : List Carried) (r : Request) → (carried_out h r).cell ≡ r.cell
carried_cell h r = elim (cases_Bool (nat_lt (value h r.cell + r.amount) (2 ^ 64))) [ inl fits ↦ rw fits refl | inr over ↦ rw over refl ]

adds : (h : List Carried) (r : Request) (over : _) (v : ℕ) → over ≡ false → v ≡ value h r.cell + r.amount → v ≡ value (h ++ call_made r over v ∷ []) r.cell
adds h r over v done is = is ∙ sym (value-own h (call_made r over v) r.cell (rw (eq-eqb r.cell r.cell refl, done) refl))

adds_nothing : (h : List Carried) (r : Request) (over : _) (v : ℕ) → over ≡ true → v ≡ value h r.cell → v ≡ value (h ++ call_made r over v ∷ []) r.cell
adds_nothing h r over v is_over is = is ∙ sym (value-other h (call_made r over v) r.cell (rw (eq-eqb r.cell r.cell refl, is_over) refl))

-- the value after a call is that of the history with the call
pub value-carried : (h : List Carried) (r : Request) → (carried_out h r).value ≡ value (h ++ carried_out h r ∷ []) (carried_out h r).cell
value-carried h r = elim (cases_Bool (nat_lt (value h r.cell + r.amount) (2 ^ 64))) [
  | inl fits ↦ rw fits (adds h r false (value h r.cell + r.amount) refl refl)
  | inr over ↦ rw over (adds_nothing h r true (value h r.cell) refl refl)
]

pub carried_next : (h : List Carried) (r : Request) → r.number ≡ next_number r.client h → (carried_out h r).number ≡ next_number (carried_out h r).client h
carried_next h r next = carried_number h r ∙ next ∙ ap (λ c. next_number c h) (sym (carried_client h r))

-- ---- a request's three cases

pub served-known : (h : List Carried) (r : Request) → is_known r.client r.number h ≡ true → served h r ≡ stays (reply_again r.number (last_of r.client h)) h
served-known h r known = rw known refl

pub served-next : (h : List Carried) (r : Request) → is_known r.client r.number h ≡ false → (r.number == next_number r.client h) ≡ true → served h r ≡ grows (carried_out h r) h
served-next h r known next = rw (known, next) refl

pub served-gap : (h : List Carried) (r : Request) → is_known r.client r.number h ≡ false → (r.number == next_number r.client h) ≡ false → served h r ≡ stays (reply Gap 0) h
served-gap h r known next = rw (known, next) refl

-- what holds of a history and of the one with its next call holds after each request
pub after_any : (P : List Carried → Type 0) (h : List Carried) (r : Request) → P h → (is_known r.client r.number h ≡ false → r.number ≡ next_number r.client h → P (h ++ carried_out h r ∷ [])) → P (served h r).history
after_any P h r stay grow =
    elim (cases_Bool (is_known r.client r.number h)) [
      | inl known ↦ rw (served-known h r known) stay
      | inr new ↦ elim (cases_Bool (r.number == next_number r.client h)) [
        | inl next ↦ rw (served-next h r new next) (grow new (eqb-true r.number (next_number r.client h) next))
        | inr other ↦ rw (served-gap h r new other) stay
      ]
    ]

pub numbered_after : (h : List Carried) (r : Request) → AreNumbered h → AreNumbered (served h r).history
numbered_after h r numbered = after_any AreNumbered h r numbered (λ new next. numbered-more h (carried_out h r) numbered (carried_next h r next))

pub numbered_from : (h : List Carried) (rs : List Request) → AreNumbered h → AreNumbered (history_from h rs)
numbered_from h [] numbered = numbered
numbered_from h (r ∷ rs) numbered = numbered_from (served h r).history rs (numbered_after h r numbered)

pub history-append : (h : List Carried) (rs ss : List Request) → history_from h (rs ++ ss) ≡ history_from (history_from h rs) ss
history-append h [] ss = refl
history-append h (r ∷ rs) ss = history-append (served h r).history rs ss
