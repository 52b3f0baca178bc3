-- The lines of a journal tell how many frames were put to each peer, and taken from each.
use Rattle.std.proofs.Common.{◌≡◌, ℕ, ◌+◌, Bool, true, false, cond, List, [], ◌∷◌, length, refl, sym, ap, ◌∙◌, arith, length-append}
use Rattle.std.specs.Prelude.{count_by, ◌==◌}
use Rattle.std.specs.List.{flat_map}
use Rattle.std.proofs.lemmas.List.{length-map}
use Rattle.board_model.specs.Journal.{PlainEntry, turned, put, again, waits, called, Visit, Taken, put_line, turn_line, taken_line, visit_lines, joined}
use Rattle.board_model.specs.Traffic.{visits_to, puts_in, takes_in, put_to, takes_from, taken_from}
use Rattle.board_model.specs.Tallies.{is_put_to, is_taken_from}
use Rattle.board_model.proofs.ListsJoined.{entry_lines}
use Rattle.board_model.proofs.ListsCounts.{count-cons, count-append}
use Rattle.board_model.proofs.MessageLines.{joined-count}
use Rattle.board_model.proofs.MessageVisitLines.{count-never, visit_lines_count}

-- a test that does not look at the items
count_fixed : {A : Type 0} (b : Bool) (xs : List A) → count_by (λ x. b) xs ≡ cond b (length xs) 0
count_fixed true [] = refl
count_fixed {A} true (x ∷ xs) = omega (arith, count-append (λ (y : A). true) (x ∷ []) xs, count_fixed true xs)
count_fixed false xs = count-never (λ x. false) (λ x. refl) xs

module _ (n : ℕ) where
  -- ---- frames put

  visit_puts : (v : Visit) → count_by (is_put_to n) (visit_lines v) ≡ cond (v.peer == n) (length v.owed) 0
  visit_puts v = omega (arith, visit_lines_count (is_put_to n) v (λ p k. refl) (λ p k. refl), count_fixed (v.peer == n) v.owed, count-never (λ (t : Taken). is_put_to n (taken_line v.peer t)) (λ t. refl) v.takes)

  puts_if : (b : Bool) (v : Visit) (vs : List Visit) (k : ℕ) → k ≡ length (flat_map (λ (u : Visit). u.owed) vs) → cond b (length v.owed) 0 + k ≡ length (flat_map (λ (u : Visit). u.owed) (cond b (v ∷ vs) vs))
  puts_if true v vs k e = omega (arith, e, length-append v.owed (flat_map (λ (u : Visit). u.owed) vs))
  puts_if false v vs k e = omega (arith, e)

  visits_puts : (vs : List Visit) → count_by (is_put_to n) (flat_map visit_lines vs) ≡ length (puts_in n (turned vs))
  visits_puts [] = refl
  visits_puts (v ∷ vs) =
      count-append (is_put_to n) (visit_lines v) (flat_map visit_lines vs)
      ∙ ap (λ k. k + count_by (is_put_to n) (flat_map visit_lines vs)) (visit_puts v)
      ∙ puts_if (v.peer == n) v (visits_to n vs) (count_by (is_put_to n) (flat_map visit_lines vs)) (visits_puts vs)

  one_put : (b : Bool) (frame : List ℕ) → ◌≡◌ {A = ℕ} (0 + cond b 1 0) (length (cond b (frame ∷ []) []))
  one_put true frame = refl
  one_put false frame = refl

  entry_puts : (e : PlainEntry) → count_by (is_put_to n) (entry_lines e) ≡ length (puts_in n e)
  entry_puts (turned vs) = omega (arith, count-cons (is_put_to n) turn_line (flat_map visit_lines vs), visits_puts vs)
  entry_puts (put peer frame) = one_put (peer == n) frame
  entry_puts (again word) = refl
  entry_puts (waits k) = refl
  entry_puts (called k a) = refl

  pub put-lines : (es : List PlainEntry) → count_by (is_put_to n) (joined es) ≡ length (put_to n es)
  put-lines es = joined-count (is_put_to n) (record { idle = λ k. refl; again = λ w. refl; spin = λ k w. refl; turn = refl }) es ∙ all es
    where
      all : (es : List PlainEntry) → count_by (is_put_to n) (flat_map entry_lines es) ≡ length (put_to n es)
      all [] = refl
      all (e ∷ es) = omega (arith, count-append (is_put_to n) (entry_lines e) (flat_map entry_lines es), entry_puts e, all es, length-append (puts_in n e) (put_to n es))

  -- ---- frames taken

  visit_takes : (v : Visit) → count_by (is_taken_from n) (visit_lines v) ≡ cond (v.peer == n) (length v.takes) 0
  visit_takes v =
      omega (arith, visit_lines_count (is_taken_from n) v (λ p k. refl) (λ p k. refl), count_fixed (v.peer == n) v.takes, count-never (λ (f : List ℕ). is_taken_from n (put_line v.peer f)) (λ f. refl) v.owed)

  takes_if : (b : Bool) (v : Visit) (vs : List Visit) (k : ℕ) → k ≡ length (flat_map (λ (u : Visit). u.takes) vs) → cond b (length v.takes) 0 + k ≡ length (flat_map (λ (u : Visit). u.takes) (cond b (v ∷ vs) vs))
  takes_if true v vs k e = omega (arith, e, length-append v.takes (flat_map (λ (u : Visit). u.takes) vs))
  takes_if false v vs k e = omega (arith, e)

  visits_takes : (vs : List Visit) → count_by (is_taken_from n) (flat_map visit_lines vs) ≡ length (takes_in n (turned vs))
  visits_takes [] = refl
  visits_takes (v ∷ vs) =
      count-append (is_taken_from n) (visit_lines v) (flat_map visit_lines vs)
      ∙ ap (λ k. k + count_by (is_taken_from n) (flat_map visit_lines vs)) (visit_takes v)
      ∙ takes_if (v.peer == n) v (visits_to n vs) (count_by (is_taken_from n) (flat_map visit_lines vs)) (visits_takes vs)

  entry_takes : (e : PlainEntry) → count_by (is_taken_from n) (entry_lines e) ≡ length (takes_in n e)
  entry_takes (turned vs) = omega (arith, count-cons (is_taken_from n) turn_line (flat_map visit_lines vs), visits_takes vs)
  entry_takes (put peer frame) = refl
  entry_takes (again word) = refl
  entry_takes (waits k) = refl
  entry_takes (called k a) = refl

  pub take-lines : (es : List PlainEntry) → count_by (is_taken_from n) (joined es) ≡ length (taken_from n es)
  take-lines es =
      joined-count (is_taken_from n) (record { idle = λ k. refl; again = λ w. refl; spin = λ k w. refl; turn = refl }) es ∙ all es ∙ sym (length-map (takes_from n es) (λ (t : Taken). t.frame))
    where
      all : (es : List PlainEntry) → count_by (is_taken_from n) (flat_map entry_lines es) ≡ length (takes_from n es)
      all [] = refl
      all (e ∷ es) = omega (arith, count-append (is_taken_from n) (entry_lines e) (flat_map entry_lines es), entry_takes e, all es, length-append (takes_in n e) (takes_from n es))
