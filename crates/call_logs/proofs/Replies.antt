-- A reply of status 0 or 1 is that of a call of its client and number that was carried out, and stays so: calls stay in a history.
use Rattle.std.proofs.Common.{◌≡◌, ◌⊎◌, inl, inr, ℕ, ◌+◌, ◌<◌, ◌≤◌, ◌^◌, Bool, true, false, cond, List, [], ◌∷◌, ◌++◌, length, filter, Option, Some, None, refl, sym, ap, ◌∙◌, subst, arith, eq-eqb}
use Rattle.std.specs.Prelude.{◌==◌, ◌&&◌, nat_lt}
use Rattle.std.specs.List.{AllByRecursion}
use Rattle.std.proofs.lemmas.Bool.{and_parts, cond_both, eqb-true, ltb-true, cases_Bool}
use Rattle.board_model.proofs.MessageAlls.{all-append}
use Rattle.board_model.proofs.WholeHas.{Has, has-weaken}
use Rattle.call_service.specs.declared.carried.Carried.{Carried}
use Rattle.call_service.specs.declared.reply.Reply.{Reply}
use Rattle.call_service.specs.declared.reply.Status.TheVariants.{Old}
use Rattle.call_service.specs.declared.request.Request.{Request}
use Rattle.call_service.specs.Bytes.{status_byte}
use Rattle.call_service.specs.Served.{adds_to, value, calls_of, is_known, last_after, last_of, next_number, reply_of, reply_again, reply, call_made, carried_out, served, history_from}
use Rattle.call_service.proofs.Histories.{after_any, carried_client, carried_number, value-own, value-other, served-known, served-next, served-gap}
use Rattle.call_service.proofs.Numbers.{RiseFrom, at_most_one}
use Rattle.call_logs.proofs.ListsHad.{has_left, has_right, has_filtered}
use Rattle.call_logs.proofs.Room.{kept_after}

-- ---- calls stay

pub stays_in : (e : Carried) (h : List Carried) (rs : List Request) → Has (λ x. x ≡ e) h → Has (λ x. x ≡ e) (history_from h rs)
stays_in e h rs here = kept_after (Has (λ x. x ≡ e)) (λ x k has. has_left (λ y. y ≡ e) x (k ∷ []) has) h rs here

-- the last of a list is one of it
last_in : (x : Carried) (xs : List Carried) (e : Carried) → last_after (Some x) xs ≡ Some e → (x ≡ e) ⊎ Has (λ y. y ≡ e) xs
last_in x [] e is = inl cc
last_in x (y ∷ ys) e is = inr (last_in y ys e is)

some_last : (xs : List Carried) (e : Carried) → last_after None xs ≡ Some e → Has (λ y. y ≡ e) xs
some_last [] e is = absurd cc
some_last (x ∷ xs) e is = last_in x xs e is

own_in : (client : ℕ) (e : Carried) (h : List Carried) → Has (λ y. y ≡ e) (calls_of client h) → Has (λ y. y ≡ e) h × (e.client ≡ client)
own_in client e [] has = absurd has
own_in client e (x ∷ h) has = go (x.client == client) refl has (own_in client e h)
  where
    go : (b : Bool) → (x.client == client) ≡ b → Has (λ y. y ≡ e) (cond b (x ∷ calls_of client h) (calls_of client h)) → (Has (λ y. y ≡ e) (calls_of client h) → Has (λ y. y ≡ e) h × (e.client ≡ client)) → ((x ≡ e) ⊎ Has (λ y. y ≡ e) h) × (e.client ≡ client)
    go true own (inl is) later = (inl is, sym (ap (λ (y : Carried). y.client) is) ∙ eqb-true x.client client own)
    go true own (inr rest) later = let found = later rest in (inr found.0, found.1)
    go false other rest later = let found = later rest in (inr found.0, found.1)

-- ---- a reply's call

-- the call that a reply is of, in the history after it
pub record IsReplyOf (h : List Carried) (r : Request) (p : Reply) : Type 0 where
  pub call : Carried
  pub carried : Has (λ x. x ≡ call) h
  pub client : call.client ≡ r.client
  pub number : call.number ≡ r.number
  pub is : p ≡ reply_of call

again_of : (h : List Carried) (r : Request) → status_byte (reply_again r.number (last_of r.client h)).status < 2 → IsReplyOf h r (reply_again r.number (last_of r.client h))
again_of h r low = by_last (last_of r.client h) refl low
  where
    by_last : (o : Option Carried) → last_of r.client h ≡ o → status_byte (reply_again r.number o).status < 2 → IsReplyOf h r (reply_again r.number o)
    by_last None is small = absurd (omega (arith, small))
    by_last (Some e) is small = by_number (e.number == r.number) refl small
      where
        by_number : (b : Bool) → (e.number == r.number) ≡ b → status_byte (cond b (reply_of e) (reply Old 0)).status < 2 → IsReplyOf h r (cond b (reply_of e) (reply Old 0))
        by_number true same few = let own = own_in r.client e h (some_last (calls_of r.client h) e is) in record { call = e; carried = own.0; client = own.1; number = eqb-true e.number r.number same; is = refl }
        by_number false other few = absurd (omega (arith, few))

pub reply_is_of : (h : List Carried) (r : Request) → status_byte (served h r).reply.status < 2 → IsReplyOf (served h r).history r (served h r).reply
reply_is_of h r low = elim (cases_Bool (is_known r.client r.number h)) [
  | inl known ↦ let is = served-known h r known in subst (λ s. IsReplyOf s.history r s.reply) (sym is) (again_of h r (subst (λ s. status_byte s.reply.status < 2) is low))
  | inr new ↦ elim (cases_Bool (r.number == next_number r.client h)) [
    | inl next ↦
        let is = served-next h r new next in
        subst (λ s. IsReplyOf s.history r s.reply) (sym is) (record {
          call = carried_out h r;
          carried = has_right (λ x. x ≡ carried_out h r) h (carried_out h r ∷ []) (inl refl);
          client = carried_client h r;
          number = carried_number h r;
          is = refl;
        })
    | inr other ↦ let gap = subst (λ s. status_byte s.reply.status < 2) (served-gap h r new other) low in absurd (omega (arith, gap))
  ]
]

-- ---- values are numbers of 64 bits

pub record AreSmall (h : List Carried) : Type 0 where
  pub cells : (cell : ℕ) → value h cell < 2 ^ 64
  pub calls : AllByRecursion (λ e. e.value < 2 ^ 64) h

small_done : (h : List Carried) (r : Request) → AreSmall h → value h r.cell + r.amount < 2 ^ 64 → AreSmall (h ++ call_made r false (value h r.cell + r.amount) ∷ [])
small_done h r small fits = record { cells = cells; calls = all-append (λ x. x.value < 2 ^ 64) h (e ∷ []) small.calls (fits, tt) }
  where
    e : Carried
    e = call_made r false (value h r.cell + r.amount)

    cells : (cell : ℕ) → value (h ++ e ∷ []) cell < 2 ^ 64
    cells cell = elim (cases_Bool (adds_to cell e)) [
      | inl own ↦
          let is = value-own h e cell own in
          let here : r.cell ≡ cell = eqb-true r.cell cell (and_parts (r.cell == cell) true own).0 in
          omega (arith, is, fits, ap (value h) here)
      | inr other ↦ let is = value-other h e cell other in omega (arith, is, small.cells cell)
    ]

small_over : (h : List Carried) (r : Request) → AreSmall h → AreSmall (h ++ call_made r true (value h r.cell) ∷ [])
small_over h r small = record { cells = cells; calls = all-append (λ x. x.value < 2 ^ 64) h (e ∷ []) small.calls (small.cells r.cell, tt) }
  where
    e : Carried
    e = call_made r true (value h r.cell)

    adds_nothing : (b : Bool) → (b && false) ≡ false
    adds_nothing true = refl
    adds_nothing false = refl

    cells : (cell : ℕ) → value (h ++ e ∷ []) cell < 2 ^ 64
    cells cell = let is = value-other h e cell (adds_nothing (r.cell == cell)) in omega (arith, is, small.cells cell)

small_next : (h : List Carried) (r : Request) → AreSmall h → AreSmall (h ++ carried_out h r ∷ [])
small_next h r small =
    cond_both (nat_lt (value h r.cell + r.amount) (2 ^ 64)) (call_made r false (value h r.cell + r.amount)) (call_made r true (value h r.cell)) (λ e. AreSmall (h ++ e ∷ []))
    (λ fits. small_done h r small (ltb-true (value h r.cell + r.amount) (2 ^ 64) fits)) (λ over. small_over h r small)

pub small_from : (h : List Carried) (rs : List Request) → AreSmall h → AreSmall (history_from h rs)
small_from h [] small = small
small_from h (r ∷ rs) small = small_from (served h r).history rs (after_any AreSmall h r small (λ new next. small_next h r small))

-- ---- one call of a number

only_one : {A : Type 0} (xs : List A) (x : A) → length xs ≤ 1 → Has (λ y. y ≡ x) xs → xs ≡ x ∷ []
only_one [] x few has = absurd has
only_one (y ∷ []) x few (inl is) = ap (λ z. z ∷ []) is
only_one (y ∷ []) x few (inr has) = absurd has
only_one (y ∷ z ∷ zs) x few has = absurd (omega (arith, few))

pub the_call : (h : List Carried) (client number : ℕ) (e : Carried) → RiseFrom 1 (calls_of client h) → Has (λ x. x ≡ e) h → e.client ≡ client → e.number ≡ number → filter (λ x. x.number == number) (calls_of client h) ≡ e ∷ []
the_call h client number e rises has own is =
    only_one (filter (λ (x : Carried). x.number == number) (calls_of client h)) e (at_most_one 1 number (calls_of client h) rises)
    (has_filtered (λ x. x ≡ e) (λ (x : Carried). x.number == number) (calls_of client h)
    (has-weaken (λ x. x ≡ e) (λ x. (x ≡ e) × ((x.number == number) ≡ true)) (λ x same. (same, eq-eqb x.number number (ap (λ (y : Carried). y.number) same ∙ is))) (calls_of client h)
    (has_filtered (λ x. x ≡ e) (λ (x : Carried). x.client == client) h
    (has-weaken (λ x. x ≡ e) (λ x. (x ≡ e) × ((x.client == client) ≡ true)) (λ x same. (same, eq-eqb x.client client (ap (λ (y : Carried). y.client) same ∙ own))) h has))))
