-- Lists from a place on, and logs with one call more.
use Rattle.std.proofs.Common.{◌≡◌, ℕ, zero, suc, ◌+◌, ◌<◌, ◌≤◌, Bool, true, false, List, [], ◌∷◌, ◌++◌, length, drop, map, slice_get, Option, Some, None, refl, sym, ap, ◌∙◌, subst, arith, append_assoc, append-nil}
use Rattle.std.specs.Prelude.{◌||◌}
use Rattle.std.specs.List.{list_any}
use Rattle.std.proofs.lemmas.List.Folds.{list_any-append}
use Rattle.board_model.specs.declared.scenario.CallLine.{CallLine}
use Rattle.board_model.specs.Journal.{PlainAnswer}
use Rattle.board_model.specs.Logs.{LoggedCall, logged}
use Rattle.call_logs.specs.LogMessages.{MessageReceived, received_by, received_message, contents_received}
use Rattle.call_logs.specs.Following.{FollowsFrom, Follows}
use Rattle.call_logs.proofs.Followed.{contents-append}

module _ {A : Type 0} where
  pub drop_there : (xs : List A) (n : ℕ) (x : A) → slice_get xs n ≡ Some x → drop n xs ≡ x ∷ drop (n + 1) xs
  drop_there [] n x there = absurd cc
  drop_there (y ∷ ys) zero x there = let same : y ≡ x = cc in rw same refl
  drop_there (y ∷ ys) (suc n) x there = let next : suc (n + 1) ≡ suc n + 1 = omega arith in drop_there ys n x there ∙ ap (λ k. x ∷ drop k (y ∷ ys)) next

  pub drop_past : (xs : List A) (n : ℕ) → slice_get xs n ≡ None → drop n xs ≡ []
  drop_past [] zero past = refl
  drop_past [] (suc n) past = refl
  drop_past (y ∷ ys) zero past = absurd cc
  drop_past (y ∷ ys) (suc n) past = drop_past ys n past

  pub past_length : (xs : List A) (n : ℕ) → slice_get xs n ≡ None → n ≤ length xs → n ≡ length xs
  past_length [] n past le = omega (arith, le)
  past_length (y ∷ ys) zero past le = absurd cc
  past_length (y ∷ ys) (suc n) past le = omega (arith, past_length ys n past (omega (arith, le)))

  pub past_all : (xs : List A) (n : ℕ) → slice_get xs n ≡ None → length xs ≤ n
  past_all [] n past = omega arith
  past_all (y ∷ ys) zero past = absurd cc
  past_all (y ∷ ys) (suc n) past = let less = past_all ys n past in omega (arith, less)

  pub get_within : (xs : List A) (n : ℕ) → n < length xs → (x : A) × (slice_get xs n ≡ Some x)
  get_within [] n le = absurd (omega (arith, le))
  get_within (y ∷ ys) zero le = (y, refl)
  get_within (y ∷ ys) (suc n) le = get_within ys n (omega (arith, le))

  pub within_get : (xs : List A) (n : ℕ) (x : A) → slice_get xs n ≡ Some x → n < length xs
  within_get [] n x there = absurd cc
  within_get (y ∷ ys) zero x there = omega arith
  within_get (y ∷ ys) (suc n) x there = let less = within_get ys n x there in omega (arith, less)

  -- the item at a place, and the list behind it
  pub get_dropped : (xs : List A) (n : ℕ) (x : A) (ys : List A) → drop n xs ≡ x ∷ ys → slice_get xs n ≡ Some x
  get_dropped [] zero x ys is = absurd cc
  get_dropped [] (suc n) x ys is = absurd cc
  get_dropped (z ∷ zs) zero x ys is = cc
  get_dropped (z ∷ zs) (suc n) x ys is = get_dropped zs n x ys is

  pub get_none : (xs : List A) (n : ℕ) → drop n xs ≡ [] → slice_get xs n ≡ None
  get_none [] n is = refl
  get_none (z ∷ zs) zero is = absurd cc
  get_none (z ∷ zs) (suc n) is = get_none zs n is

  pub drop_behind : (xs : List A) (n : ℕ) (x : A) (ys : List A) → drop n xs ≡ x ∷ ys → drop (suc n) xs ≡ ys
  drop_behind [] zero x ys is = absurd cc
  drop_behind [] (suc n) x ys is = absurd cc
  drop_behind (z ∷ zs) zero x ys is = cc
  drop_behind (z ∷ zs) (suc n) x ys is = drop_behind zs n x ys is

pub length_more : {A : Type 0} (xs : List A) (x : A) → length (xs ++ x ∷ []) ≡ suc (length xs)
length_more [] x = refl
length_more (y ∷ ys) x = ap suc (length_more ys x)

-- ---- one call more

pub follows_more : (due : List LoggedCall → Option CallLine) (log : List LoggedCall) (l : LoggedCall) → Follows due log → due log ≡ Some l.line → Follows due (log ++ l ∷ [])
follows_more due log l fits is = from [] log fits is
  where
    from : (before rest : List LoggedCall) → FollowsFrom due before rest → due (before ++ rest) ≡ Some l.line → FollowsFrom due before (rest ++ l ∷ [])
    from before [] fits is = (subst (λ ls. due ls ≡ Some l.line) (append-nil before) is, tt)
    from before (m ∷ ms) fits is = (fits.0, from (before ++ m ∷ []) ms fits.1 (subst (λ ls. due ls ≡ Some l.line) (sym (append_assoc before (m ∷ []) ms)) is))

module _ {A : Type 0} (p : A → Bool) (xs : List A) (x : A) where
  pub any_last : p x ≡ true → list_any p (xs ++ x ∷ []) ≡ true
  any_last is = list_any-append p xs (x ∷ []) ∙ ap (λ b. list_any p xs || (b || false)) is ∙ or_true (list_any p xs)
    where
      or_true : (b : Bool) → (b || true) ≡ true
      or_true true = refl
      or_true false = refl

  pub none_more : list_any p xs ≡ false → p x ≡ false → list_any p (xs ++ x ∷ []) ≡ false
  none_more none is = list_any-append p xs (x ∷ []) ∙ ap (λ b. b || (p x || false)) none ∙ ap (λ b. b || false) is

module _ (log : List LoggedCall) (line : CallLine) (a : PlainAnswer) where
  pub quiet : received_by line.call a ≡ [] → contents_received (log ++ logged line a ∷ []) ≡ contents_received log
  quiet none = contents-append log (logged line a ∷ []) ∙ ap (λ ms. contents_received log ++ map (λ (m : MessageReceived). m.bytes) (ms ++ [])) none ∙ append-nil (contents_received log)

  pub heard : (max size : ℕ) (bytes : List ℕ) → received_by line.call a ≡ received_message max size bytes ∷ [] → contents_received (log ++ logged line a ∷ []) ≡ contents_received log ++ bytes ∷ []
  heard max size bytes one = contents-append log (logged line a ∷ []) ∙ ap (λ ms. contents_received log ++ map (λ (m : MessageReceived). m.bytes) (ms ++ [])) one
