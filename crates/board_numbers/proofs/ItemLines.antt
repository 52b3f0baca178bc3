-- Counts over the deeds of a journal are counts over its lines, where frames taken alone are counted.
use Rattle.std.proofs.Common.{◌≡◌, ℕ, Bool, false, ◌&&◌, cond, List, [], ◌∷◌, ◌++◌, flat_map, Option, None, Some, refl, sym, ap, ◌∙◌, arith}
use Rattle.std.specs.Prelude.{count_by, ◌==◌}
use Rattle.board_model.specs.declared.scenario.CallLine.{CallLine}
use Rattle.board_model.specs.Channels.{is_lost}
use Rattle.board_model.specs.DomainCall.{DomainCall}
use Rattle.board_model.specs.Deeds.{Deed, takes, calls}
use Rattle.board_model.specs.Journal.{PlainEntry, PlainAnswer, turned, put, again, waits, called, refuses, Line, put_line, again_line, wait_line, call_line, joined}
use Rattle.board_model.specs.JournalDeeds.{call_deeds, entry_deeds, deeds_along}
use Rattle.board_model.specs.Step.{RunState, next_line, call_at, after}
use Rattle.board_model.proofs.ListsCounts.{one_if, count-cons, count-append}
use Rattle.board_model.proofs.ListsJoined.{entry_lines, JoinsWeighNothing}
use Rattle.board_model.proofs.KeptTold.{Counts, turn-count}
use Rattle.board_model.proofs.MessageLines.{joined-count}
use Rattle.board_model.proofs.MessageOnce.{total, total-append}
use Rattle.board_numbers.specs.Items.{carries_item, is_item_taken, is_item_lost}

-- ---- a count of frames taken

module _ (w : Deed → ℕ) (test : Line → Bool) (counts : Counts w test) (joins : JoinsWeighNothing (λ l. cond (test l) 1 0)) (no_call : (node : ℕ) (call : DomainCall) (a : PlainAnswer) → w (calls node call a) ≡ 0) (no_wait : (k : ℕ) → test (wait_line k) ≡ false) (no_answer : (k : ℕ) (a : PlainAnswer) → test (call_line k a) ≡ false) where
  call_none : (r : RunState) (a : PlainAnswer) (o : Option CallLine) → total w (call_deeds o r a) ≡ 0
  call_none r a None = refl
  call_none r a (Some line) = omega (arith, no_call line.node (call_at r line) a)

  one_none : (l : Line) → test l ≡ false → count_by test (l ∷ []) ≡ 0
  one_none l off = omega (arith, count-cons test l [], ap one_if off)

  entry_count : (lines : List CallLine) (before : List PlainEntry) (r : RunState) (e : PlainEntry) → total w (entry_deeds lines before r e) ≡ count_by test (entry_lines e)
  entry_count lines before r (turned vs) = turn-count w test counts before vs
  entry_count lines before r (put peer frame) = sym (one_none (put_line peer frame) (counts.no_put peer frame))
  entry_count lines before r (again word) = omega (arith, call_none r (refuses word) (next_line lines r), count-cons test (again_line word) [], joins.again word)
  entry_count lines before r (waits k) = sym (one_none (wait_line k) (no_wait k))
  entry_count lines before r (called k a) = call_none r a (next_line lines r) ∙ sym (one_none (call_line k a) (no_answer k a))

  along_count : (lines : List CallLine) (before : List PlainEntry) (r : RunState) (es : List PlainEntry) → total w (deeds_along lines before r es) ≡ count_by test (flat_map entry_lines es)
  along_count lines before r [] = refl
  along_count lines before r (e ∷ es) =
      omega (arith, total-append w (entry_deeds lines before r e) (deeds_along lines (before ++ e ∷ []) (after lines r e) es), entry_count lines before r e, along_count lines (before ++ e ∷ []) (after lines r e) es, count-append test (entry_lines e) (flat_map entry_lines es))

  pub deeds-told : (lines : List CallLine) (before : List PlainEntry) (r : RunState) (es : List PlainEntry) → total w (deeds_along lines before r es) ≡ count_by test (joined es)
  deeds-told lines before r es = along_count lines before r es ∙ sym (joined-count test joins es)

-- ---- the items of a channel

module _ (o n : ℕ) where
  -- by deeds: those that come, and those that are dropped as they come
  abbrev pub came_deed : Deed → ℕ
  came_deed (takes q name frame word) = one_if (q == o && carries_item n frame)
  came_deed other = 0

  abbrev pub lost_deed : Deed → ℕ
  lost_deed (takes q name frame word) = one_if (is_lost word && (q == o && carries_item n frame))
  lost_deed other = 0

  came_counts : Counts came_deed (is_item_taken o n)
  came_counts = record { back = λ q n. refl; owed = λ q f. refl; ahead = λ q n. refl; taken = λ q name t. refl; no_turn = refl; no_back = λ q n. refl; no_see = λ q n. refl; no_put = λ q f. refl }

  lost_counts : Counts lost_deed (is_item_lost o n)
  lost_counts = record { back = λ q n. refl; owed = λ q f. refl; ahead = λ q n. refl; taken = λ q name t. refl; no_turn = refl; no_back = λ q n. refl; no_see = λ q n. refl; no_put = λ q f. refl }

  pub came-told : (lines : List CallLine) (before : List PlainEntry) (r : RunState) (es : List PlainEntry) → total came_deed (deeds_along lines before r es) ≡ count_by (is_item_taken o n) (joined es)
  came-told = deeds-told came_deed (is_item_taken o n) came_counts (record { idle = λ k. refl; again = λ w. refl; spin = λ k w. refl; turn = refl }) (λ node call a. refl) (λ k. refl) (λ k a. refl)

  pub lost-told : (lines : List CallLine) (before : List PlainEntry) (r : RunState) (es : List PlainEntry) → total lost_deed (deeds_along lines before r es) ≡ count_by (is_item_lost o n) (joined es)
  lost-told = deeds-told lost_deed (is_item_lost o n) lost_counts (record { idle = λ k. refl; again = λ w. refl; spin = λ k w. refl; turn = refl }) (λ node call a. refl) (λ k. refl) (λ k a. refl)
