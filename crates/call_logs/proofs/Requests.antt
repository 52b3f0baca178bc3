-- Requests as bytes, read back; and what a service did with the last of some messages.
use Rattle.std.proofs.Common.{◌≡◌, ◌⊎◌, inl, inr, ℕ, ◌<◌, ◌^◌, Bool, true, false, not, cond, List, [], ◌∷◌, ◌++◌, take, refl, sym, ap, ◌∙◌}
use Rattle.std.specs.Prelude.{Result, Ok, Err, slice_index}
use Rattle.byteorder.specs.Endian.{little_bytes}
use Rattle.byteorder.specs.Numbers.{little_number-reads_back}
use Rattle.mc_base.specs.Bytes.{number_at}
use Rattle.mc_base.specs.Limits.{single_size}
use Rattle.call_service.specs.declared.request.Request.{Request}
use Rattle.call_service.specs.declared.request.ServiceFault.{ServiceFault}
use Rattle.call_service.specs.declared.request.ServiceFault.TheVariants.{Form, Client, Cell, Full}
use Rattle.call_service.specs.Bytes.{has_form, is_client, is_cell, request_of, request_in, reply_bytes}
use Rattle.call_service.specs.Handled.{State, Handled, handled, handled_request, is_full, refused, replied}
use Rattle.call_service.specs.Served.{served}
use Rattle.call_logs.specs.CallBytes.{request_bytes, bye_bytes}
use Rattle.call_logs.specs.Roles.{handled_from}

-- ---- bytes

-- what a message with a request's form, client and cell is read as
pub record IsRead (bytes : List ℕ) (r : Request) : Type 0 where
  pub form : has_form bytes ≡ true
  pub client : is_client (slice_index bytes 1) ≡ true
  pub cell : is_cell (slice_index bytes 2) ≡ true
  pub is : r ≡ request_of bytes

pub reads : (bytes : List ℕ) (r : Request) → request_in bytes ≡ Ok r → IsRead bytes r
reads bytes r is = by_form (has_form bytes) refl (is_client (slice_index bytes 1)) refl (is_cell (slice_index bytes 2)) refl is
  where
    by_form : (f : Bool) → has_form bytes ≡ f → (c : Bool) → is_client (slice_index bytes 1) ≡ c → (k : Bool) → is_cell (slice_index bytes 2) ≡ k → cond (not f) (Err Form) (cond (not c) (Err Client) (cond (not k) (Err Cell) (Ok (request_of bytes)))) ≡ Ok r → IsRead bytes r
    by_form true f true c true k given = let same : request_of bytes ≡ r = cc in record { form = f; client = c; cell = k; is = sym same }
    by_form false f c c_is k k_is given = absurd cc
    by_form true f false c k k_is given = absurd cc
    by_form true f true c false k given = absurd cc

pub request_read : (d number cell amount : ℕ) → number < 2 ^ 32 → amount < 2 ^ 64 → request_of (request_bytes d number cell amount) ≡ record { client = d; cell = cell; number = number; amount = amount }
request_read d number cell amount few small =
    let n : number_at 4 4 (request_bytes d number cell amount) ≡ number = little_number-reads_back 4 number (little_bytes 8 amount) few in
    let a : number_at 8 8 (request_bytes d number cell amount) ≡ amount = little_number-reads_back 8 amount [] small in
    ap (λ x. record { client = d; cell = cell; number = x; amount = number_at 8 8 (request_bytes d number cell amount) }) n ∙ ap (λ x. record { client = d; cell = cell; number = number; amount = x }) a

pub request_short : (d number cell amount : ℕ) → take single_size (request_bytes d number cell amount) ≡ request_bytes d number cell amount
request_short d number cell amount = refl

pub bye_short : (d : ℕ) → take single_size (bye_bytes d) ≡ bye_bytes d
bye_short d = refl

pub no_request : (d : ℕ) (r : Request) → request_in (bye_bytes d) ≡ Ok r → ⊥
no_request d r is = let read = reads (bye_bytes d) r is in let form = read.form in cc

-- ---- the last of the messages that a service handled

pub handled-more : (h : Handled) (ms : List (List ℕ)) (m : List ℕ) → handled_from h (ms ++ m ∷ []) ≡ handled (handled_from h ms).service m (handled_from h ms).reply
handled-more h [] m = refl
handled-more h (x ∷ ms) m = handled-more (handled h.service x h.reply) ms m

-- a list's last item
pub record HasLast {A : Type 0} (xs : List A) : Type 0 where
  pub front : List A
  pub last : A
  pub parts : xs ≡ front ++ last ∷ []

pub last_or_none : {A : Type 0} (xs : List A) → (xs ≡ []) ⊎ HasLast xs
last_or_none [] = inl refl
last_or_none {A} (x ∷ xs) = elim (last_or_none xs) [
  | inl none ↦ inr (record { front = []; last = x; parts = ap (λ ys. x ∷ ys) none })
  | inr one ↦ inr (record { front = x ∷ one.front; last = one.last; parts = ap (λ ys. x ∷ ys) one.parts })
]

-- a request that was served
pub record IsServed (s : State) (bytes old : List ℕ) (to : ℕ) : Type 0 where
  pub request : Request
  pub is_request : request_in bytes ≡ Ok request
  pub room : is_full s request ≡ false
  pub to_it : to ≡ request.client
  pub reply : (handled s bytes old).reply ≡ reply_bytes request.number (served s.history request).reply

pub serves : (s : State) (bytes old : List ℕ) (to : ℕ) → (handled s bytes old).answer ≡ Ok to → IsServed s bytes old to
serves s bytes old to is = by_request (request_in bytes) refl is
  where
    by_request : (o : Result Request ServiceFault) → request_in bytes ≡ o → (handled_request s old o).answer ≡ Ok to → IsServed s bytes old to
    by_request (Err fault) read given = absurd cc
    by_request (Ok r) read given = by_room (is_full s r) refl given
      where
        by_room : (b : Bool) → is_full s r ≡ b → (cond b (refused Full s old) (replied s r)).answer ≡ Ok to → IsServed s bytes old to
        by_room true full told = absurd cc
        by_room false room told =
            let same : r.client ≡ to = cc in
            record { request = r; is_request = read; room = room; to_it = sym same; reply = ap (λ o. (handled_request s old o).reply) read ∙ ap (λ b. (cond b (refused Full s old) (replied s r)).reply) room }
