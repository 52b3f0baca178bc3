-- Whether messages are as they must be, and what is got of them: of the messages that came, those to one call, and one more.
use Rattle.std.proofs.Common.{◌≡◌, ℕ, zero, suc, ◌+◌, ◌-◌, ◌<◌, ◌≤◌, Bool, true, false, cond, List, [], ◌∷◌, ◌++◌, length, drop, replicate, Some, None, refl, sym, ap, ap₂, ◌∙◌, arith}
use Rattle.std.specs.Prelude.{◌&&◌, ◌==◌, bytes_eq}
use Rattle.std.specs.List.{list_all}
use Rattle.std.proofs.lemmas.Bool.{ne_eqb, eq-eqb}
use Rattle.std.proofs.lemmas.List.{take_all, take_at, drop_all, drop_at, length-replicate}
use Rattle.std.proofs.lemmas.Slice.Eq.{bytes_eq-Decides}
use Rattle.call_logs.specs.CallBytes.{got_in, is_reply, are_replies}
use Rattle.call_logs.specs.Roles.{are_as_said, got_of, and_later, got_from}

and_true : (b : Bool) → (b && true) ≡ b
and_true true = refl
and_true false = refl

bytes_self : (xs : List ℕ) → bytes_eq xs xs ≡ true
bytes_self xs = (bytes_eq-Decides xs xs).1 refl

-- ---- the replies to one call

all_like : (first : List ℕ) (m : ℕ) → list_all (bytes_eq first) (replicate m first) ≡ true
all_like first zero = refl
all_like first (suc m) = ap₂ (λ a b. a && b) (bytes_self first) (all_like first m)

pub all_replies : (n : ℕ) (first : List ℕ) (m : ℕ) → (1 ≤ m → is_reply n first ≡ true) → are_replies n (replicate m first) ≡ true
all_replies n first zero reply = refl
all_replies n first (suc m) reply = ap₂ (λ a b. a && b) (reply (omega arith)) (all_like first m)

like_more : (first message : List ℕ) (m : ℕ) → list_all (bytes_eq first) (replicate m first ++ message ∷ []) ≡ bytes_eq first message
like_more first message zero = and_true (bytes_eq first message)
like_more first message (suc m) = ap₂ (λ a b. a && b) (bytes_self first) (like_more first message m)

pub replies_first : (n : ℕ) (first message : List ℕ) → are_replies n (replicate 0 first ++ message ∷ []) ≡ is_reply n message
replies_first n first message = and_true (is_reply n message)

pub replies_more : (n : ℕ) (first message : List ℕ) (m : ℕ) → is_reply n first ≡ true → are_replies n (replicate (suc m) first ++ message ∷ []) ≡ bytes_eq first message
replies_more n first message m reply = ap₂ (λ a b. a && b) reply (like_more first message m)

-- ---- the messages of a call and of those after it

module _ (repeat : ℕ) where
  pub said_none : (n : ℕ) (calls : List (ℕ × ℕ)) → are_as_said repeat n calls [] ≡ true
  said_none n [] = refl
  said_none n (k ∷ ks) = rw (take_all {A = List ℕ} repeat [] (omega arith), drop_all {X = List ℕ} repeat [] (omega arith)) (said_none (n + 1) ks)

  pub said_short : (n : ℕ) (k : ℕ × ℕ) (ks : List (ℕ × ℕ)) (part : List (List ℕ)) → length part ≤ repeat → are_as_said repeat n (k ∷ ks) part ≡ are_replies n part
  said_short n k ks part short =
      ap₂ (λ a b. are_replies n a && are_as_said repeat (n + 1) ks b) (take_all repeat part short) (drop_all repeat part short)
      ∙ ap (λ b. are_replies n part && b) (said_none (n + 1) ks)
      ∙ and_true (are_replies n part)

  pub said_whole : (n : ℕ) (k : ℕ × ℕ) (ks : List (ℕ × ℕ)) (first : List ℕ) (later : List (List ℕ)) → is_reply n first ≡ true → are_as_said repeat n (k ∷ ks) (replicate repeat first ++ later) ≡ are_as_said repeat (n + 1) ks later
  said_whole n k ks first later reply =
      let long = length-replicate repeat first in
      ap₂ (λ a b. are_replies n a && are_as_said repeat (n + 1) ks b) (take_at (replicate repeat first) later repeat long) (drop_at (replicate repeat first) later repeat long)
      ∙ ap (λ b. b && are_as_said repeat (n + 1) ks later) (all_replies n first repeat (λ some. reply))

  -- ---- and what is got of them

  not_got : (n : ℕ) (group : List (List ℕ)) → (length group == repeat && are_replies n group) ≡ false → got_of repeat n group ≡ None
  not_got n [] not = refl
  not_got n (m ∷ ms) not = ap (λ b. cond b (Some (got_in m)) None) not

  pub got_none : (n : ℕ) (calls : List (ℕ × ℕ)) → got_from repeat n calls [] ≡ []
  got_none n [] = refl
  got_none n (k ∷ ks) = ap (λ group. and_later (got_of repeat n group) (got_from repeat (n + 1) ks (drop repeat []))) (take_all {A = List ℕ} repeat [] (omega arith))

  pub got_not : (n : ℕ) (k : ℕ × ℕ) (ks : List (ℕ × ℕ)) (part : List (List ℕ)) → length part ≤ repeat → (length part == repeat && are_replies n part) ≡ false → got_from repeat n (k ∷ ks) part ≡ []
  got_not n k ks part short not =
      ap (λ group. and_later (got_of repeat n group) (got_from repeat (n + 1) ks (drop repeat part))) (take_all repeat part short)
      ∙ ap (λ g. and_later g (got_from repeat (n + 1) ks (drop repeat part))) (not_got n part not)

  pub got_short : (n : ℕ) (k : ℕ × ℕ) (ks : List (ℕ × ℕ)) (part : List (List ℕ)) → length part < repeat → got_from repeat n (k ∷ ks) part ≡ []
  got_short n k ks part short = got_not n k ks part (omega (arith, short)) (ap (λ b. b && are_replies n part) (ne_eqb (length part) repeat (λ same. omega (arith, same, short))))

  whole_got : (n m : ℕ) (first : List ℕ) → repeat ≡ suc m → is_reply n first ≡ true → got_of repeat n (replicate repeat first) ≡ Some (got_in first)
  whole_got n m first some reply =
      ap (λ r. got_of repeat n (replicate r first)) some
      ∙ ap (λ b. cond b (Some (got_in first)) None) (ap₂ (λ a b. a && b) (eq-eqb (length (replicate (suc m) first)) repeat (length-replicate (suc m) first ∙ sym some)) (all_replies n first (suc m) (λ le. reply)))

  pub got_whole : (n : ℕ) (k : ℕ × ℕ) (ks : List (ℕ × ℕ)) (first : List ℕ) (later : List (List ℕ)) → 1 ≤ repeat → is_reply n first ≡ true → got_from repeat n (k ∷ ks) (replicate repeat first ++ later) ≡ got_in first ∷ got_from repeat (n + 1) ks later
  got_whole n k ks first later some reply =
      let long = length-replicate repeat first in
      let m = repeat - 1 in
      ap₂ (λ a b. and_later (got_of repeat n a) (got_from repeat (n + 1) ks b)) (take_at (replicate repeat first) later repeat long) (drop_at (replicate repeat first) later repeat long)
      ∙ ap (λ g. and_later g (got_from repeat (n + 1) ks later)) (whole_got n m first (omega (arith, some)) reply)
