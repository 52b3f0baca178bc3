-- The lines of a run's journal stand in order.
use Rattle.std.proofs.Common.{◌≡◌, ℕ, zero, suc, ◌+◌, false, List, [], ◌∷◌, ◌++◌, length, map, None, sym, ap, subst, ◌∙◌, arith}
use Rattle.std.specs.List.{AllByRecursion, flat_map}
use Rattle.mc_base.specs.declared.refusal.Refusal.{Refusal}
use Rattle.board_model.specs.declared.scenario.CallLine.{CallLine}
use Rattle.board_model.specs.Scenario.{script}
use Rattle.board_model.specs.Journal.{PlainAnswer, PlainEntry, again, called}
use Rattle.board_model.specs.JournalForm.{IsFrom}
use Rattle.board_model.specs.JournalParts.{Part, idles, spins, tries, turn_of, wait_of, call_of, part_entries}
use Rattle.board_model.specs.Unjoined.{times, idle_turn, line_numbered, puts_of, peers_of}
use Rattle.board_model.proofs.BoardsRising.{AreRising, neighbours-rise}
use Rattle.board_model.proofs.JournalHaveParts.{journals_have_parts}
use Rattle.board_model.proofs.JournalReading.{put_entries}
use Rattle.board_model.proofs.MessageAlls.{all-parts}
use Rattle.report_text.specs.JournalOrder.{place_behind}
use Rattle.report_text.specs.Outlines.{outline_of}
use Rattle.report_text.specs.TextPass.{puts_of_script}
use Rattle.report_laws.proofs.Pieces.{RunsStandInOrder}
use Rattle.report_laws.proofs.RunForms.{GoToPeers, EntryFits, domain-run}
use Rattle.report_laws.proofs.PartsInOrder.{PartFits, parts-none}

module _ (peers : List ℕ) (rise : AreRising peers) (lines : List CallLine) where
  abbrev From : ℕ → List PlainEntry → Type 0
  From n es = IsFrom peers lines n es

  -- ---- the entries behind those of a part

  idles-behind : (n : ℕ) (es : List PlainEntry) → From 0 (times n (idle_turn peers ∷ []) ++ es) → From 0 es
  idles-behind zero es form = form
  idles-behind (suc n) es form = idles-behind n es form.2

  spins-behind : (n : ℕ) (word : Refusal) (es : List PlainEntry) → From 0 (times n (idle_turn peers ∷ again word ∷ []) ++ es) → From 0 es
  spins-behind zero word es form = form
  spins-behind (suc n) word es form = spins-behind n word es form.2.1

  call-behind : (qs : List (ℕ × List ℕ)) (n k : ℕ) (a : PlainAnswer) (es : List PlainEntry) → From n ((put_entries qs ++ called k a ∷ []) ++ es) → (n + length qs ≡ puts_of (line_numbered lines k) a) × From 0 es
  call-behind [] n k a es form = (omega (arith, form.0), form.1)
  call-behind (q ∷ qs) n k a es form = let rest = call-behind qs (n + 1) k a es form in (omega (arith, rest.0), rest.1)

  go-to-peers : (qs : List (ℕ × List ℕ)) (k : ℕ) (a : PlainAnswer) → AllByRecursion (EntryFits peers) (put_entries qs ++ called k a ∷ []) → GoToPeers peers qs
  go-to-peers [] k a all = tt
  go-to-peers (q ∷ qs) k a all = (all.0, go-to-peers qs k a all.1)

  -- ---- each part is as a run makes it

  part-fits : (p : Part) (es : List PlainEntry) → From 0 (part_entries peers p ++ es) → AllByRecursion (EntryFits peers) (part_entries peers p) → PartFits peers rise lines p × From 0 es
  part-fits (idles n) es form fit = (tt, idles-behind n es form)
  part-fits (spins n word) es form fit = (tt, spins-behind n word es form)
  part-fits (tries word) es form fit = (tt, form.1)
  part-fits (turn_of vs) es form fit = ((form.1, fit.0), form.2)
  part-fits (wait_of k) es form fit = (tt, form.1)
  part-fits (call_of qs k a) es form fit = let call = call-behind qs 0 k a es form in ((omega (arith, call.0), go-to-peers qs k a fit), call.1)

  parts-fit : (ps : List Part) → From 0 (flat_map (part_entries peers) ps) → AllByRecursion (EntryFits peers) (flat_map (part_entries peers) ps) → AllByRecursion (PartFits peers rise lines) ps
  parts-fit [] form fit = tt
  parts-fit (p ∷ ps) form fit =
      let all = all-parts (EntryFits peers) (part_entries peers p) (flat_map (part_entries peers) ps) fit in
      let one = part-fits p (flat_map (part_entries peers) ps) form all.0 in
      (one.0, parts-fit ps one.1 all.1)

pub runs_in_order : RunsStandInOrder
runs_in_order s board d es run =
    let peers : List ℕ = peers_of s d in
    let lines : List CallLine = script s d.domain in
    let rise : AreRising peers = neighbours-rise s board d in
    let ahead = domain-run s d es run in
    let told = journals_have_parts peers lines es ahead.form in
    let fit = parts-fit peers rise lines told.0 (subst (IsFrom peers lines 0) (sym told.2) ahead.form) (subst (AllByRecursion (EntryFits peers)) (sym told.2) ahead.fit) in
    ap (λ ls. place_behind peers (puts_of_script lines) false None (map outline_of ls)) told.3
    ∙ parts-none peers rise lines told.0 told.1 fit
