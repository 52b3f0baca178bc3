-- Journals whose puts stand before the calls that make them are read back from their joined lines.
use Rattle.std.proofs.Common.{◌≡◌, ℕ, List, [], ◌∷◌, ◌++◌, length, refl, sym, ap, ◌∙◌, subst, arith, append_assoc, append-nil}
use Rattle.std.proofs.lemmas.List.{map_push, length_push}
use Rattle.board_model.specs.declared.scenario.CallLine.{CallLine}
use Rattle.board_model.specs.LinkedBoard.{Differ}
use Rattle.board_model.specs.Journal.{PlainEntry, turned, put, again, waits, called, Line, put_line, wait_line, call_line, noted, noted_all, joined}
use Rattle.board_model.specs.Unjoined.{entries_in}
use Rattle.board_model.specs.JournalForm.{IsFrom}
use Rattle.board_model.proofs.JournalReading.{put_lines, put_entries, entries-more, read-called}
use Rattle.board_model.proofs.JournalJoins.{turn_noted, again_noted}
use Rattle.board_model.proofs.WordsRead.{one_word}

module _ (peers : List ℕ) (script : List CallLine) where
  abbrev E : List Line → List PlainEntry
  E ls = entries_in peers script ls

  none_of : (ps : List (ℕ × List ℕ)) → length ps ≡ 0 → ps ≡ []
  none_of [] e = refl
  none_of (p ∷ ps) e = absurd (omega arith)

  from_none : (ls : List Line) (es : List PlainEntry) (ps : List (ℕ × List ℕ)) → length ps ≡ 0 → E (noted_all (ls ++ []) es) ≡ E ls ++ ([] ++ es) → E (noted_all (ls ++ put_lines ps) es) ≡ E ls ++ (put_entries ps ++ es)
  from_none ls es ps none h = subst (λ qs. E (noted_all (ls ++ put_lines qs) es) ≡ E ls ++ (put_entries qs ++ es)) (sym (none_of ps none)) h

  pub read_back : Differ peers → (ls : List Line) (ps : List (ℕ × List ℕ)) (es : List PlainEntry) → IsFrom peers script (length ps) es → E (noted_all (ls ++ put_lines ps) es) ≡ E ls ++ (put_entries ps ++ es)
  read_back differ ls ps [] h = from_none ls [] ps h (ap E (append-nil ls) ∙ sym (append-nil (E ls)))
  read_back differ ls ps (turned vs ∷ es) h =
      let new = noted ls (turned vs) in
      from_none ls (turned vs ∷ es) ps h.0
      (ap (λ ks. E (noted_all (noted ks (turned vs)) es)) (append-nil ls)
      ∙ ap (λ ks. E (noted_all ks es)) (sym (append-nil new))
      ∙ read_back differ new [] es h.2
      ∙ ap (λ fs. fs ++ es) (turn_noted peers script ls vs differ h.1)
      ∙ append_assoc (E ls) (turned vs ∷ []) es)
  read_back differ ls ps (put p frame ∷ es) h =
      let push : List (ℕ × List ℕ) = ps ++ (p, frame) ∷ [] in
      let as_lines : (ls ++ put_lines ps) ++ put_line p frame ∷ [] ≡ ls ++ put_lines push = append_assoc ls (put_lines ps) (put_line p frame ∷ []) ∙ ap (λ ks. ls ++ ks) (sym (map_push (λ (q : ℕ × List ℕ). put_line q.0 q.1) ps (p, frame))) in
      let as_entries : put_entries push ≡ put_entries ps ++ put p frame ∷ [] = map_push (λ (q : ℕ × List ℕ). put q.0 q.1) ps (p, frame) in
      ap (λ ks. E (noted_all ks es)) as_lines
      ∙ read_back differ ls push es (subst (λ n. IsFrom peers script n es) (sym (length_push ps (p, frame))) h)
      ∙ ap (λ fs. E ls ++ (fs ++ es)) as_entries
      ∙ ap (λ fs. E ls ++ fs) (append_assoc (put_entries ps) (put p frame ∷ []) es)
  read_back differ ls ps (again word ∷ es) h =
      let new = noted ls (again word) in
      from_none ls (again word ∷ es) ps h.0
      (ap (λ ks. E (noted_all (noted ks (again word)) es)) (append-nil ls)
      ∙ ap (λ ks. E (noted_all ks es)) (sym (append-nil new))
      ∙ read_back differ new [] es h.1
      ∙ ap (λ fs. fs ++ es) (again_noted peers script one_word word ls)
      ∙ append_assoc (E ls) (again word ∷ []) es)
  read_back differ ls ps (waits k ∷ es) h =
      let new = noted ls (waits k) in
      from_none ls (waits k ∷ es) ps h.0
      (ap (λ ks. E (noted_all (noted ks (waits k)) es)) (append-nil ls)
      ∙ ap (λ ks. E (noted_all ks es)) (sym (append-nil new))
      ∙ read_back differ new [] es h.1
      ∙ ap (λ fs. fs ++ es) (entries-more peers script ls (wait_line k ∷ []) (waits k ∷ []) refl)
      ∙ append_assoc (E ls) (waits k ∷ []) es)
  read_back differ ls ps (called k a ∷ es) h =
      let new = (ls ++ put_lines ps) ++ call_line k a ∷ [] in
      let lines : new ≡ ls ++ (put_lines ps ++ call_line k a ∷ []) = append_assoc ls (put_lines ps) (call_line k a ∷ []) in
      ap (λ ks. E (noted_all ks es)) (sym (append-nil new))
      ∙ read_back differ new [] es h.1
      ∙ ap (λ fs. fs ++ es) (ap E lines ∙ entries-more peers script ls (put_lines ps ++ call_line k a ∷ []) (put_entries ps ++ called k a ∷ []) (read-called peers script ps k a h.0))
      ∙ append_assoc (E ls) (put_entries ps ++ called k a ∷ []) es
      ∙ ap (λ fs. E ls ++ fs) (append_assoc (put_entries ps) (called k a ∷ []) es)

  pub joined_back : Differ peers → (es : List PlainEntry) → IsFrom peers script 0 es → E (joined es) ≡ es
  joined_back differ es h = read_back differ [] [] es h
