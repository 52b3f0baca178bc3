-- The calls of a client among those of all clients, one call more at a time; and that each is one that a client may make.
use Rattle.std.proofs.Common.{◌≡◌, ℕ, zero, suc, ◌+◌, ◌<◌, ◌≤◌, Bool, true, false, cond, List, [], ◌∷◌, ◌++◌, length, map, take, get_or, refl, sym, ap, ◌∙◌, arith, append_assoc, append-nil}
use Rattle.std.specs.Prelude.{◌==◌, filter}
use Rattle.std.specs.List.{AllByRecursion}
use Rattle.std.proofs.lemmas.Bool.{eq-eqb, ne_eqb}
use Rattle.call_logs.specs.declared.numbered.NumberedCall.{NumberedCall}
use Rattle.call_logs.specs.CallsBoard.{IsCall, calls_of_client}
use Rattle.call_actor.specs.CallsBoards.{board_of}

-- a call as its client has it
abbrev pair_of : NumberedCall → ℕ × ℕ
pair_of e = (e.cell, e.amount)

abbrev is_of : ℕ → NumberedCall → Bool
is_of client e = e.client == client

module _ (client : ℕ) where
  abbrev own_of : List NumberedCall → List (ℕ × ℕ)
  own_of calls = calls_of_client (board_of 0 0 calls) client

  abbrev own_one : NumberedCall → List (ℕ × ℕ)
  own_one k = cond (k.client == client) ((k.cell, k.amount) ∷ []) []

  one_first : (k : NumberedCall) (ks : List NumberedCall) → own_of (k ∷ ks) ≡ own_one k ++ own_of ks
  one_first k ks = go (k.client == client)
    where
      go : (b : Bool) → map pair_of (cond b (k ∷ filter (is_of client) ks) (filter (is_of client) ks)) ≡ cond b ((k.cell, k.amount) ∷ []) [] ++ map pair_of (filter (is_of client) ks)
      go true = refl
      go false = refl

  pub one-more-own : (calls : List NumberedCall) (n : ℕ) (d : NumberedCall) → n < length calls → own_of (take (n + 1) calls) ≡ own_of (take n calls) ++ own_one (get_or calls n d)
  one-more-own [] n d less = absurd (omega (arith, less))
  one-more-own (k ∷ ks) zero d less = one_first k [] ∙ append-nil (own_one k)
  one-more-own (k ∷ ks) (suc n) d less =
      let next : suc n + 1 ≡ suc (n + 1) = omega arith in
      ap (λ m. own_of (take m (k ∷ ks))) next
      ∙ one_first k (take (n + 1) ks)
      ∙ ap (λ xs. own_one k ++ xs) (one-more-own ks n d (omega (arith, less)))
      ∙ sym (append_assoc (own_one k) (own_of (take n ks)) (own_one (get_or ks n d)))
      ∙ ap (λ xs. xs ++ own_one (get_or ks n d)) (sym (one_first k (take n ks)))

  -- as the loop has it that cuts them up
  pub taken-own : (calls : List NumberedCall) (n : ℕ) (d : NumberedCall) (before after : List (ℕ × ℕ)) → n < length calls → (get_or calls n d).client ≡ client → before ≡ own_of (take n calls) → after ≡ before ++ ((get_or calls n d).cell, (get_or calls n d).amount) ∷ [] → after ≡ own_of (take (n + 1) calls)
  taken-own calls n d before after less own is longer =
      longer
      ∙ ap (λ xs. xs ++ ((get_or calls n d).cell, (get_or calls n d).amount) ∷ []) is
      ∙ ap (λ b. own_of (take n calls) ++ cond b (((get_or calls n d).cell, (get_or calls n d).amount) ∷ []) []) (sym (eq-eqb (get_or calls n d).client client own))
      ∙ sym (one-more-own calls n d less)

  pub passed-own : (calls : List NumberedCall) (n : ℕ) (d : NumberedCall) (before : List (ℕ × ℕ)) → n < length calls → ((get_or calls n d).client ≡ client → ⊥) → before ≡ own_of (take n calls) → before ≡ own_of (take (n + 1) calls)
  passed-own calls n d before less other is =
      is
      ∙ sym (append-nil (own_of (take n calls)))
      ∙ ap (λ b. own_of (take n calls) ++ cond b (((get_or calls n d).cell, (get_or calls n d).amount) ∷ []) []) (sym (ne_eqb (get_or calls n d).client client other))
      ∙ sym (one-more-own calls n d less)

-- a client's cells are in their range
pub own-cells : (clients repeat client : ℕ) (calls : List NumberedCall) → AllByRecursion (IsCall clients) calls → AllByRecursion (λ k. k.0 < 16) (calls_of_client (board_of clients repeat calls) client)
own-cells clients repeat client [] all = tt
own-cells clients repeat client (k ∷ ks) all = go (k.client == client) (own-cells clients repeat client ks all.1)
  where
    go : (b : Bool) → AllByRecursion (λ x. x.0 < 16) (map pair_of (filter (is_of client) ks)) → AllByRecursion (λ x. x.0 < 16) (map pair_of (cond b (k ∷ filter (is_of client) ks) (filter (is_of client) ks)))
    go true rest = (all.0.cell, rest)
    go false rest = rest

-- and they are no more than all calls
pub own-few : (clients repeat client : ℕ) (calls : List NumberedCall) → length (calls_of_client (board_of clients repeat calls) client) ≤ length calls
own-few clients repeat client [] = omega arith
own-few clients repeat client (k ∷ ks) = go (k.client == client) (own-few clients repeat client ks)
  where
    go : (b : Bool) → length (map pair_of (filter (is_of client) ks)) ≤ length ks → length (map pair_of (cond b (k ∷ filter (is_of client) ks) (filter (is_of client) ks))) ≤ length (k ∷ ks)
    go true few = omega (arith, few)
    go false few = omega (arith, few)
