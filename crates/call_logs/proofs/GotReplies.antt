-- What a client got is read from replies among the messages that it received, and its numbers are 1, 2, and so on.
use Rattle.std.proofs.Common.{◌≡◌, ℕ, zero, suc, ◌+◌, ◌<◌, Bool, true, false, cond, ltb, List, [], ◌∷◌, length, take, drop, map, Some, None, refl, ap₂}
use Rattle.std.specs.Prelude.{◌==◌, ◌&&◌, slice_index}
use Rattle.std.specs.List.{AllByRecursion}
use Rattle.std.proofs.lemmas.Bool.{and_parts, eqb-true, ltb-true}
use Rattle.mc_base.specs.Bytes.{number_at}
use Rattle.board_model.proofs.MessageAlls.{all-drop}
use Rattle.call_service.specs.Served.{rising}
use Rattle.call_logs.specs.CallBytes.{got_in, is_reply, are_replies}
use Rattle.call_logs.specs.declared.got.Got.{Got}
use Rattle.call_logs.specs.Roles.{got_of, and_later, got_from}

pub record FromReply (P : List ℕ → Type 0) (g : Got) : Type 0 where
  pub message : List ℕ
  pub holds : P message
  pub status : slice_index message 1 < 2
  pub is : g ≡ got_in message

all_taken : {A : Type 0} (P : A → Type 0) (n : ℕ) (xs : List A) → AllByRecursion P xs → AllByRecursion P (take n xs)
all_taken P zero xs all = tt
all_taken P (suc n) [] all = tt
all_taken P (suc n) (x ∷ xs) all = (all.0, all_taken P n xs all.1)

-- what a reply says of itself
reply_parts : (number : ℕ) (m : List ℕ) → is_reply number m ≡ true → (slice_index m 1 < 2) × (number_at 4 4 m ≡ number)
reply_parts number m is =
    let a = and_parts (length m == 16) _ is in
    let b = and_parts (slice_index m 0 == 82) _ a.1 in
    let c = and_parts (ltb (slice_index m 1) 2) _ b.1 in
    let d = and_parts (slice_index m 2 == 0) _ c.1 in
    let e = and_parts (slice_index m 3 == 0) (number_at 4 4 m == number) d.1 in
    (ltb-true (slice_index m 1) 2 c.0, eqb-true (number_at 4 4 m) number e.1)

module _ (P : List ℕ → Type 0) (repeat : ℕ) where
  pub record AreFrom (number : ℕ) (gots : List Got) : Type 0 where
    pub numbered : map (λ g. g.number) gots ≡ rising number (length gots)
    pub each : AllByRecursion (FromReply P) gots

  one_call : (number : ℕ) (replies : List (List ℕ)) (later : List Got) → AllByRecursion P replies → AreFrom (number + 1) later → AreFrom number (and_later (got_of repeat number replies) later)
  one_call number [] later all rest = record { numbered = refl; each = tt }
  one_call number (m ∷ ms) later all rest = go (length (m ∷ ms) == repeat && are_replies number (m ∷ ms)) refl
    where
      go : (b : Bool) → (length (m ∷ ms) == repeat && are_replies number (m ∷ ms)) ≡ b → AreFrom number (and_later (cond b (Some (got_in m)) None) later)
      go false is = record { numbered = refl; each = tt }
      go true is =
          let all_are = (and_parts (length (m ∷ ms) == repeat) (are_replies number (m ∷ ms)) is).1 in
          let parts = reply_parts number m (and_parts (is_reply number m) _ all_are).0 in
          record { numbered = ap₂ (λ n ns. n ∷ ns) parts.1 rest.numbered; each = (record { message = m; holds = all.0; status = parts.0; is = refl }, rest.each) }

  pub all_got : (number : ℕ) (calls : List (ℕ × ℕ)) (messages : List (List ℕ)) → AllByRecursion P messages → AreFrom number (got_from repeat number calls messages)
  all_got number [] messages all = record { numbered = refl; each = tt }
  all_got number (call ∷ calls) messages all =
      one_call number (take repeat messages) (got_from repeat (number + 1) calls (drop repeat messages)) (all_taken P repeat messages all) (all_got (number + 1) calls (drop repeat messages) (all-drop P repeat messages all))
