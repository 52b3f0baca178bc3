-- Parts with the answers that are due stand as those that are told, and have their texts.
use Rattle.std.proofs.Common.{◌≡◌, ℕ, zero, suc, List, [], ◌∷◌, ◌++◌, map, Option, Some, None, option_map, refl, sym, ap, ap₂, ◌∙◌, append_assoc}
use Rattle.std.specs.List.{AllByRecursion, flat_map}
use Rattle.std.proofs.lemmas.List.{map-append}
use Rattle.mc_base.specs.declared.refusal.Refusal.{Refusal}
use Rattle.board_model.specs.declared.scenario.CallLine.{CallLine}
use Rattle.board_model.specs.Journal.{PlainAnswer, agrees, PlainEntry, put, again, Line, idle_line, again_line, spin_line, turn_line, back_line, put_line, see_line, take_line, wait_line, call_line, visit_lines, joinable, spinning, is_one_idle, joined}
use Rattle.board_model.specs.Report.{line_text}
use Rattle.board_model.specs.Unjoined.{times, idle_turn}
use Rattle.board_model.specs.JournalParts.{Part, idles, spins, tries, turn_of, wait_of, call_of, part_lines, part_entries, last_line, StandsBehind, StandBehind}
use Rattle.board_model.specs.Step.{RunState, next_line, after}
use Rattle.board_model.specs.Run.{after_all}
use Rattle.board_model.proofs.JournalPartsJoined.{last-is, parts_are_joined}
use Rattle.board_model.proofs.MessageAlls.{all-parts}
use Rattle.report_text.specs.RightRuns.{answered, with_answer, with_answers}
use Rattle.report_text.proofs.LinesTold.{bare}
use Rattle.report_text.proofs.StepsDue.{Due}
use Rattle.report_text.proofs.CallsDue.{put_lines}

-- ---- what stands behind a line does not hang on its answer

joins-bare : (o : Option Line) → joinable (option_map bare o) ≡ joinable o
joins-bare None = refl
joins-bare (Some (idle_line n)) = refl
joins-bare (Some (again_line w)) = refl
joins-bare (Some (spin_line n w)) = refl
joins-bare (Some turn_line) = refl
joins-bare (Some (back_line p n)) = refl
joins-bare (Some (put_line p f)) = refl
joins-bare (Some (see_line p n)) = refl
joins-bare (Some (take_line p f w)) = refl
joins-bare (Some (wait_line k)) = refl
joins-bare (Some (call_line k a)) = refl

spins-bare : (word : Refusal) (o : Option Line) → spinning word (option_map bare o) ≡ spinning word o
spins-bare word None = refl
spins-bare word (Some (idle_line n)) = refl
spins-bare word (Some (again_line w)) = refl
spins-bare word (Some (spin_line n w)) = refl
spins-bare word (Some turn_line) = refl
spins-bare word (Some (back_line p n)) = refl
spins-bare word (Some (put_line p f)) = refl
spins-bare word (Some (see_line p n)) = refl
spins-bare word (Some (take_line p f w)) = refl
spins-bare word (Some (wait_line k)) = refl
spins-bare word (Some (call_line k a)) = refl

one-bare : (o : Option Line) → is_one_idle (option_map bare o) ≡ is_one_idle o
one-bare None = refl
one-bare (Some (idle_line n)) = refl
one-bare (Some (again_line w)) = refl
one-bare (Some (spin_line n w)) = refl
one-bare (Some turn_line) = refl
one-bare (Some (back_line p n)) = refl
one-bare (Some (put_line p f)) = refl
one-bare (Some (see_line p n)) = refl
one-bare (Some (take_line p f w)) = refl
one-bare (Some (wait_line k)) = refl
one-bare (Some (call_line k a)) = refl

abbrev LastSame : List Line → List Line → Type 0
LastSame ls ms = option_map bare (last_line ls) ≡ option_map bare (last_line ms)

joins-same : (ls ms : List Line) → LastSame ls ms → joinable (last_line ls) ≡ joinable (last_line ms)
joins-same ls ms same = sym (joins-bare (last_line ls)) ∙ ap joinable same ∙ joins-bare (last_line ms)

spins-same : (word : Refusal) (ls ms : List Line) → LastSame ls ms → spinning word (last_line ls) ≡ spinning word (last_line ms)
spins-same word ls ms same = sym (spins-bare word (last_line ls)) ∙ ap (spinning word) same ∙ spins-bare word (last_line ms)

one-same : (ls ms : List Line) → LastSame ls ms → is_one_idle (last_line ls) ≡ is_one_idle (last_line ms)
one-same ls ms same = sym (one-bare (last_line ls)) ∙ ap is_one_idle same ∙ one-bare (last_line ms)

-- behind some lines the last does not hang on those before them
last-behind : (ls ms : List Line) (x : Line) (xs : List Line) → last_line (ls ++ x ∷ xs) ≡ last_line (ms ++ x ∷ xs)
last-behind ls ms x [] = last-is ls x ∙ sym (last-is ms x)
last-behind ls ms x (y ∷ xs) = ap last_line (sym (append_assoc ls (x ∷ []) (y ∷ xs))) ∙ last-behind (ls ++ x ∷ []) (ms ++ x ∷ []) y xs ∙ ap last_line (append_assoc ms (x ∷ []) (y ∷ xs))

-- ---- parts with the answers that are due

abbrev part_answered : List CallLine → RunState → Part → Part
part_answered script r (call_of ps k a) = call_of ps k (answered (next_line script r) r a)
part_answered script r other = other

module _ (peers : List ℕ) (script : List CallLine) where
  abbrev parts_answered : RunState → List Part → List Part
  parts_answered r [] = []
  parts_answered r (p ∷ ps) = part_answered script r p ∷ parts_answered (after_all script r (part_entries peers p)) ps

  answers-append : (r : RunState) (xs ys : List PlainEntry) → with_answers script r (xs ++ ys) ≡ with_answers script r xs ++ with_answers script (after_all script r xs) ys
  answers-append r [] ys = refl
  answers-append r (x ∷ xs) ys = ap (λ es. with_answer script r x ∷ es) (answers-append (after script r x) xs ys)

  idles-kept : (n : ℕ) (r : RunState) → with_answers script r (times n (idle_turn peers ∷ [])) ≡ times n (idle_turn peers ∷ [])
  idles-kept zero r = refl
  idles-kept (suc n) r = ap (λ es. idle_turn peers ∷ es) (idles-kept n (after script r (idle_turn peers)))

  spins-kept : (n : ℕ) (w : Refusal) (r : RunState) → with_answers script r (times n (idle_turn peers ∷ again w ∷ [])) ≡ times n (idle_turn peers ∷ again w ∷ [])
  spins-kept zero w r = refl
  spins-kept (suc n) w r = ap (λ es. idle_turn peers ∷ again w ∷ es) (spins-kept n w (after script (after script r (idle_turn peers)) (again w)))

  -- puts leave the next line, and what it answers
  call-answered : (r : RunState) (ps : List (ℕ × List ℕ)) (k : ℕ) (a : PlainAnswer) → with_answers script r (part_entries peers (call_of ps k a)) ≡ part_entries peers (part_answered script r (call_of ps k a))
  call-answered r [] k a = refl
  call-answered r (p ∷ ps) k a = ap (λ es. put p.0 p.1 ∷ es) (call-answered (after script r (put p.0 p.1)) ps k a ∙ ap (λ x. part_entries peers (call_of ps k x)) (same (next_line script r)))
    where
      same : (o : Option CallLine) → answered o (after script r (put p.0 p.1)) a ≡ answered o r a
      same None = refl
      same (Some line) = refl

  one-answered : (r : RunState) (p : Part) → with_answers script r (part_entries peers p) ≡ part_entries peers (part_answered script r p)
  one-answered r (idles n) = idles-kept n r
  one-answered r (spins n w) = spins-kept n w r
  one-answered r (tries w) = refl
  one-answered r (turn_of vs) = refl
  one-answered r (wait_of k) = refl
  one-answered r (call_of ps k a) = call-answered r ps k a

  all-answered : (r : RunState) (ps : List Part) → with_answers script r (flat_map (part_entries peers) ps) ≡ flat_map (part_entries peers) (parts_answered r ps)
  all-answered r [] = refl
  all-answered r (p ∷ ps) = answers-append r (part_entries peers p) (flat_map (part_entries peers) ps) ∙ ap₂ (λ (es fs : List PlainEntry). es ++ fs) (one-answered r p) (all-answered (after_all script r (part_entries peers p)) ps)

  -- ---- they stand

  one-stands : (r : RunState) (p : Part) (ls ms : List Line) → LastSame ls ms → StandsBehind ls p → StandsBehind ms (part_answered script r p)
  one-stands r (idles n) ls ms same h = (h.0, sym (joins-same ls ms same) ∙ h.1)
  one-stands r (spins n w) ls ms same h = (h.0, sym (joins-same ls ms same) ∙ h.1, sym (spins-same w ls ms same) ∙ h.2)
  one-stands r (tries w) ls ms same h = sym (one-same ls ms same) ∙ h
  one-stands r (turn_of vs) ls ms same h = h
  one-stands r (wait_of k) ls ms same h = tt
  one-stands r (call_of ps k a) ls ms same h = tt

  last-same : (r : RunState) (p : Part) (ls ms : List Line) → LastSame (ls ++ part_lines p) (ms ++ part_lines (part_answered script r p))
  last-same r (idles n) ls ms = ap (option_map bare) (last-behind ls ms (idle_line n) [])
  last-same r (spins n w) ls ms = ap (option_map bare) (last-behind ls ms (spin_line n w) [])
  last-same r (tries w) ls ms = ap (option_map bare) (last-behind ls ms (again_line w) [])
  last-same r (turn_of vs) ls ms = ap (option_map bare) (last-behind ls ms turn_line (flat_map visit_lines vs))
  last-same r (wait_of k) ls ms = ap (option_map bare) (last-behind ls ms (wait_line k) [])
  last-same r (call_of ps k a) ls ms = call-last ls a ∙ sym (call-last ms (answered (next_line script r) r a))
    where
      call-last : (ks : List Line) (b : PlainAnswer) → option_map bare (last_line (ks ++ part_lines (call_of ps k b))) ≡ Some (call_line k agrees)
      call-last ks b = ap (λ xs. option_map bare (last_line xs)) (sym (append_assoc ks (put_lines ps) (call_line k b ∷ []))) ∙ ap (option_map bare) (last-is (ks ++ put_lines ps) (call_line k b))

  all-stand : (r : RunState) (ps : List Part) (ls ms : List Line) → LastSame ls ms → StandBehind ls ps → StandBehind ms (parts_answered r ps)
  all-stand r [] ls ms same h = tt
  all-stand r (p ∷ ps) ls ms same h =
      (one-stands r p ls ms same h.0, all-stand (after_all script r (part_entries peers p)) ps (ls ++ part_lines p) (ms ++ part_lines (part_answered script r p)) (last-same r p ls ms) h.1)

  -- ---- they have the same texts

  due-behind : (r : RunState) (xs ys : List PlainEntry) → Due script r (xs ++ ys) → Due script (after_all script r xs) ys
  due-behind r [] ys due = due
  due-behind r (x ∷ xs) ys due = due-behind (after script r x) xs ys due.2

  call-text : (r : RunState) (ps : List (ℕ × List ℕ)) (k : ℕ) (a : PlainAnswer) (es : List PlainEntry) → Due script r (part_entries peers (call_of ps k a) ++ es) → line_text (call_line k (answered (next_line script r) r a)) ≡ line_text (call_line k a)
  call-text r [] k a es due = due.1
  call-text r (p ∷ ps) k a es due = ap (λ x. line_text (call_line k x)) (sym (same (next_line script r))) ∙ call-text (after script r (put p.0 p.1)) ps k a es due.2
    where
      same : (o : Option CallLine) → answered o (after script r (put p.0 p.1)) a ≡ answered o r a
      same None = refl
      same (Some line) = refl

  -- ---- and what hangs of an answer on its text alone is the same

  module _ {A : Type 0} (f : Line → A) (P : Line → Type 0) (by-text : (k : ℕ) (a b : PlainAnswer) → P (call_line k b) → line_text (call_line k a) ≡ line_text (call_line k b) → f (call_line k a) ≡ f (call_line k b)) where
    one-said : (r : RunState) (p : Part) (es : List PlainEntry) → AllByRecursion P (part_lines p) → Due script r (part_entries peers p ++ es) → map f (part_lines (part_answered script r p)) ≡ map f (part_lines p)
    one-said r (idles n) es all due = refl
    one-said r (spins n w) es all due = refl
    one-said r (tries w) es all due = refl
    one-said r (turn_of vs) es all due = refl
    one-said r (wait_of k) es all due = refl
    one-said r (call_of ps k a) es all due =
        map-append f (put_lines ps) (call_line k (answered (next_line script r) r a) ∷ [])
        ∙ ap (λ x. map f (put_lines ps) ++ x ∷ []) (by-text k (answered (next_line script r) r a) a (all-parts P (put_lines ps) (call_line k a ∷ []) all).1.0 (call-text r ps k a es due))
        ∙ sym (map-append f (put_lines ps) (call_line k a ∷ []))

    all-said : (r : RunState) (ps : List Part) → AllByRecursion P (flat_map part_lines ps) → Due script r (flat_map (part_entries peers) ps) → map f (flat_map part_lines (parts_answered r ps)) ≡ map f (flat_map part_lines ps)
    all-said r [] all due = refl
    all-said r (p ∷ ps) all due =
        let next : RunState = after_all script r (part_entries peers p) in
        let both = all-parts P (part_lines p) (flat_map part_lines ps) all in
        map-append f (part_lines (part_answered script r p)) (flat_map part_lines (parts_answered next ps))
        ∙ ap₂ (λ us vs. us ++ vs) (one-said r p (flat_map (part_entries peers) ps) both.0 due) (all-said next ps both.1 (due-behind r (part_entries peers p) (flat_map (part_entries peers) ps) due))
        ∙ sym (map-append f (part_lines p) (flat_map part_lines ps))

    -- of the lines of the entries with the answers that are due, and of the lines that are told
    pub said-joined : (r : RunState) (ps : List Part) → StandBehind [] ps → AllByRecursion P (flat_map part_lines ps) → Due script r (flat_map (part_entries peers) ps) → map f (joined (with_answers script r (flat_map (part_entries peers) ps))) ≡ map f (flat_map part_lines ps)
    said-joined r ps stand all due =
        ap (λ es. map f (joined es)) (all-answered r ps)
        ∙ ap (map f) (parts_are_joined peers (parts_answered r ps) (all-stand r ps [] [] refl stand))
        ∙ all-said r ps all due
